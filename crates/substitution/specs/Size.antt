-- How large a rule that stands somewhere is: its alternatives, with their outermost elements and options.
use Rattle.std.specs.Prelude.{ℕ, ◌+◌, ◌≤◌, ◌≡◌, List, length}
use Rattle.grammar.specs.Tree.{Block, AlternativeOf, Rule, body_depth}
use Rattle.grammar.specs.Numbers.{most_words}
use Rattle.grammar.specs.Lists.{each, all}
use Rattle.grammar.specs.Stands.{Spans}
use Rattle.grammar.specs.Encode.{encode_alternative, encode_block}
use Rattle.grammar.specs.Valid.{ok_alternative, ok_block}
use Rattle.grammar.specs.Found.{RuleSpans}
use Rattle.reference.specs.Substitute.{PlannedAlternative}
use Rattle.reference.specs.Plan.{as_they_are}
use Rattle.planned.specs.Laws.Counts.{elements_all, options_all}
use Rattle.splices.specs.declared.splice.Size.{Size}
use Rattle.steps.specs.Decide.{SmallSize}

-- So many more than before.
pub record CountedTo {B : Type 0} (ps : List (PlannedAlternative B)) (before after : Size) : Type 0 where
  pub alternatives : after.a ≡ before.a + length ps
  pub elements : after.e ≡ before.e + elements_all ps
  pub options : after.o ≡ before.o + options_all ps

-- So many are n alternatives that stand at a place.
pub record ManyCounted (ws : List ℕ) (end d n at : ℕ) (before after : Size) : Type 0 where
  pub is : (as' : List (AlternativeOf (Block d))) (q : ℕ)
      → Spans ws end (each (encode_alternative (encode_block d))) (all (ok_alternative (ok_block d))) at as' q → length as' ≡ n
      → CountedTo (as_they_are as') before after

-- And those of the rule that stands there; a sheet has no more words.
pub record RuleCounted (ws : List ℕ) (end at : ℕ) (r : Size) : Type 0 where
  pub alternatives : (t : Rule) (q : ℕ) → RuleSpans ws end body_depth at t q → r.a ≡ length (as_they_are t.body)
  pub elements : (t : Rule) (q : ℕ) → RuleSpans ws end body_depth at t q → r.e ≡ elements_all (as_they_are t.body)
  pub options : (t : Rule) (q : ℕ) → RuleSpans ws end body_depth at t q → r.o ≡ options_all (as_they_are t.body)
  pub few : r.a + r.e + r.o ≤ most_words
  pub small : SmallSize r
