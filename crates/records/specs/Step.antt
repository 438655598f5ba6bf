-- What a validating function answers of what the definition finds: where the record stops, or that it is bad.
use Rattle.std.specs.Prelude.{ℕ, zero, suc, ◌+◌, ◌-◌, ◌/◌, List, Bool, ◌&&◌, get_or, leb, Option, Some, None, option_and_then}
use Rattle.grammar.specs.Numbers.{kind_end, one_or_more_nongreedy}
use Rattle.grammar.specs.Read.{is_name, is_label}
use Rattle.grammar.specs.Parse.{Got, got, bad, given}

abbrev pub step_of : {A : Type 0} → Got A → Option ℕ
step_of (got a p) = Some p
step_of bad = None

-- A name in the first of n words.
abbrev pub named : List ℕ → (end n at : ℕ) → Got (Unit {0})
named ws end n at = given (leb n (end - at) && is_name (get_or ws at 0)) λ _. got tt (at + n)

-- n steps, each from where the last one ended.
unfoldable pub repeated : (ℕ → Option ℕ) → ℕ → ℕ → Option ℕ
repeated step zero at = Some at
repeated step (suc n) at = option_and_then (repeated step n) (step at)

-- Quantifier and label in the fixed words of an element, where these have room.
abbrev pub is_fixed : List ℕ → ℕ → Bool
is_fixed ws at = leb (get_or ws (at + 2) 0 / kind_end) one_or_more_nongreedy && is_label (get_or ws (at + 3) 0) (get_or ws (at + 4) 0)
