-- The call of a member that is met.
use Rattle.std.specs.Prelude.{ℕ, List, get_or}
use Rattle.steps.specs.declared.corner.Place.{Place}
use Rattle.steps.specs.declared.step.Call.{Call}
use Rattle.steps.specs.declared.step.Step.{Step}

-- By the name and the place of its rule.
abbrev pub call_of : (names places : List ℕ) → Place → Step → Call
call_of names places p step = record { index = p.index; name = get_or names p.target 0; at = get_or places p.target 0; step = step }
