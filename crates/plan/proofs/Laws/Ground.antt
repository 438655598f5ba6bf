-- What is found out about rules that stand in a sheet is what the decisions rest on.
use Prim.Native.Nat.{ℕ, ◌≤◌}
use mathlib.Core.List.{List}
use Rattle.grammar.specs.Numbers.{most_words}
use Rattle.grammar.specs.Corners.{Corners}
use Rattle.records.specs.declared.rules.Rules.{Rules}
use Rattle.analysis.specs.Facts.{Standing, FactsFound}
use Rattle.analysis.specs.declared.rounds.Marks.{Marks}
use Rattle.plan.specs.Search.{RulesKnown}
use Rattle.plan.specs.Ground.{KeptOf}

unfoldable pub ground_known : {ws preserved : List ℕ} {end : ℕ} {rules : Rules} {reading : Corners} {calls corners : List (List ℕ)} {marks : Marks}
    {kept : List ℕ}
    → FactsFound ws end rules reading calls corners marks → KeptOf preserved rules kept → end ≤ most_words
    → Standing ws end rules → RulesKnown ws end rules reading calls corners marks kept
ground_known {ws} {preserved} {end} f k small s =
    record {
      known = record { standing = s; small = small; facts = f.is s };
      preserved = preserved;
      keeps = k.row;
    }
