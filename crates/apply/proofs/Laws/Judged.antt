-- The returns of the functions that judge sizes.
use Prim.Native.Nat.{ℕ, ◌+◌, ◌≤◌, ◌<◌}
use mathlib.Core.Path.{◌≡◌, refl, sym, ◌∙◌}
use Rattle.std.specs.Prelude.{Ok, Err}
use mathlib.Core.Bool.{Bool, true, false, ◌&&◌, not, and-true}
use native.Mathlib.Omega.{arith}
use lib.Dec.{ltb}
use borrow.Author.Tests.{le-leb, lt-leb, not-true, not-false}
use Rattle.grammar.specs.Lists.{all}
use Rattle.reference.specs.Numbers.{counter_end, most_entries}
use Rattle.reference.specs.Run.{are_words}
use Rattle.writing.specs.Taken.{counters_of}
use Rattle.writing.specs.declared.counters.Counters.{Counters}
use Rattle.sizes.specs.Tally.{behind, ids_in}
use Rattle.sizes.specs.declared.sums.Measure.{Measure}
use Rattle.words.specs.declared.numbers.Refusal.TheVariants.{CounterPastEnd, ResultTooLong}
use Rattle.apply.specs.Judged.{verdict_on, verdict, AllLast, Judged}

and_chain : (a e l n p : Bool) → ((((a && e) && l) && n) && p) ≡ (a && (e && (l && (n && (p && true)))))
and_chain false e l n p = refl
and_chain true false l n p = refl
and_chain true true false n p = refl
and_chain true true true false p = refl
and_chain true true true true p = sym (and-true p)

pub all_last_lem : {c : Counters} {m : Measure} {a e l n p : Bool}
    → a ≡ ltb (c.alternative + m.tally.alternatives) counter_end → e ≡ ltb (c.element + m.tally.elements) counter_end
    → l ≡ ltb (c.label + m.tally.labels) counter_end → n ≡ ltb (c.action + m.tally.actions) counter_end
    → p ≡ ltb (c.predicate + m.tally.predicates) counter_end
    → AllLast (counters_of c) m ((((a && e) && l) && n) && p)
unfolding are_words behind all
all_last_lem {a} {e} {l} {n} {p} f g h i j = record { is = and_chain a e l n p ∙ rw (f, g, h, i, j) refl }

module _ {c : Counters} {m : Measure} {b : Bool} (e : AllLast (counters_of c) m b) where
  pub judged_past : {words room recorded : ℕ} → not b ≡ true → Judged (counters_of c) m words room recorded (Err CounterPastEnd)
  unfolding verdict verdict_on
  judged_past h = record { is = rw (sym e.is ∙ not-true b h, verdict, verdict_on) refl }

  module _ {words room recorded : ℕ} (h : not b ≡ false) where
    pub judged_long : room < words → Judged (counters_of c) m words room recorded (Err ResultTooLong)
    unfolding verdict verdict_on
    judged_long l = record { is = rw (sym e.is ∙ not-false b h, lt-leb words room l, verdict, verdict_on) refl }

    pub judged_entries : {i : ℕ} → words ≤ room → i ≡ ids_in m.tally → most_entries < recorded + i + 1
        → Judged (counters_of c) m words room recorded (Err ResultTooLong)
    unfolding verdict verdict_on
    judged_entries g i l =
        let k : most_entries < recorded + (ids_in m.tally + 1) = omega (arith, i, l) in
        record {
          is = rw (sym e.is ∙ not-false b h, le-leb words room g, lt-leb (recorded + (ids_in m.tally + 1)) most_entries k, verdict, verdict_on) refl;
        }

    pub judged_good : {i : ℕ} → words ≤ room → i ≡ ids_in m.tally → recorded + i + 1 ≤ most_entries
        → Judged (counters_of c) m words room recorded (Ok tt)
    unfolding verdict verdict_on
    judged_good g i l =
        let k : recorded + (ids_in m.tally + 1) ≤ most_entries = omega (arith, i, l) in
        record {
          is = rw (sym e.is ∙ not-false b h, le-leb words room g, le-leb (recorded + (ids_in m.tally + 1)) most_entries k, verdict, verdict_on) refl;
        }

pub ruleset judgements = (judged_past, judged_long, judged_entries, judged_good)
