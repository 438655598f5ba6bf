-- A round of surveys: where each rule stands, and one rule more.
use Prim.Native.Nat.{ℕ, zero, suc, ◌+◌, ◌<◌, ◌≤◌}
use mathlib.Core.Path.{◌≡◌, refl, sym, ap, ◌∙◌}
use mathlib.Core.List.{List, []}
use mathlib.Core.Bool.{Bool, true, false, and-true, and-false, or-false}
use native.Mathlib.Omega.{arith}
use native.Mathlib.Numerals.{add-one}
use lib.ListN.{length, get_or, set, replicate, length-set}
use lib.Seq.{get_or-set_same, get_or-set_other}
use lib.Dec.{eqb}
use borrow.Author.Tests.{eqb-true, eqb-false, eq-eqb, ne_eqb}
use Rattle.grammar.specs.Numbers.{rule_limit}
use Rattle.grammar.specs.Laws.Parse.{either}
use Rattle.reach.specs.Rows.{bit, AddIf}
use Rattle.analysis.specs.Survey.{View}
use Rattle.analysis.specs.Facts.{Surveyed}
use Rattle.analysis.specs.Rounds.{one_if, count_below, Marked, Recorded, Recording}
use Rattle.analysis.specs.declared.survey.Survey.{Survey}
use Rattle.analysis.specs.declared.rounds.Round.{Round}
use Rattle.reach.proofs.Laws.Rows.{no_bits}
use Rattle.std.specs.Array.{AllOfLen}
use Rattle.std.proofs.lemmas.List.{get_or-replicate}
use Rattle.std.proofs.lemmas.Grind.{same_number_lists}

count_low : (f : ℕ → Bool) (i : ℕ) → count_below f i ≤ i
unfolding count_below
count_low f zero = omega arith
count_low f (suc i) = let l = count_low f i in let o = one_low (f i) in omega arith
  where
    one_low : (b : Bool) → one_if b ≤ 1
    one_low true = omega arith
    one_low false = omega arith

count_same : (f g : ℕ → Bool) (i : ℕ) → ((k : ℕ) → k < i → f k ≡ g k) → count_below f i ≡ count_below g i
unfolding count_below
count_same f g zero h = refl
count_same f g (suc i) h =
    ap (λ x. x + one_if (f i)) (count_same f g i (λ k l. h k (omega arith))) ∙ ap (λ b. count_below g i + one_if b) (h i (omega arith))

-- A row with one rule more, if it is to be: at that rule, and at others.
module _ {row row' : List ℕ} {i : ℕ} {on : Bool} (a : AddIf row i on row') where
  added_here : bit row i ≡ false → bit row' i ≡ on
  added_here e = a.at i ∙ rw (e, eq-eqb i i refl) (and-true on)

  added_other : (k : ℕ) → (k ≡ i → ⊥) → bit row' k ≡ bit row k
  added_other k n = a.at k ∙ rw (ne_eqb k i n, and-false on) (or-false (bit row k))

-- Two words that are 0.
no_words : {xs : List ℕ} → AllOfLen (λ x. x ≡ 0) xs 2 → xs ≡ replicate 2 0
no_words {xs} a =
    let l = a.long in
    same_number_lists xs (replicate 2 0) a.long λ k h. a.at k 0 (omega arith) ∙ sym (get_or-replicate 2 k 0 0 (omega arith))

module _ {v : View} {ws : List ℕ} {end : ℕ} {places : List ℕ} where
  pub record_none : {cs ks : List (List ℕ)} {m : Round} → AllOfLen (λ x. x ≡ 0) m.marks.nullable 2 → AllOfLen (λ x. x ≡ 0) m.marks.stops 2
      → m.count ≡ 0 → length cs ≡ rule_limit → length ks ≡ rule_limit → Recording v ws end places cs ks 0 cs ks m
  unfolding count_below
  record_none n s e x y =
      rw (no_words n, no_words s, e)
      record {
        each = λ k l. absurd (omega arith);
        nullable_none = λ k l. no_bits k;
        stops_none = λ k l. no_bits k;
        counted = refl;
        low = omega arith;
        calls_behind = λ k l. refl;
        corners_behind = λ k l. refl;
        calls_long = x;
        corners_long = y;
      }

  module _ {cs₀ ks₀ : List (List ℕ)} {i : ℕ} {cs ks : List (List ℕ)} {m : Round}
      (r : Recording v ws end places cs₀ ks₀ i cs ks m) where
    pub record_more : {at : ℕ} (s : Survey) {m' : Round} → Surveyed v ws end at s → at ≡ get_or places i 0
        → {n : ℕ} → i < n → n ≤ rule_limit → Marked m i s.nullable s.stops m'
        → Recording v ws end places cs₀ ks₀ (i + 1) (set cs i s.calls) (set ks i s.corners) m'
    unfolding count_below
    record_more {at} s {m'} d e l w g =
        record {
          each = λ k h. either (eqb k i) (λ z. here (eqb-true k i z)) (λ z. there k h (eqb-false k i z));
          nullable_none = λ k h. added_other g.nullable k (λ z. omega arith) ∙ r.nullable_none k (omega arith);
          stops_none = λ k h. added_other g.stops k (λ z. omega arith) ∙ r.stops_none k (omega arith);
          counted = count_more;
          low = rw count_more (count_low (bit m'.marks.nullable) (i + 1));
          calls_behind = λ k h. get_or-set_other cs i k s.calls [] (λ z. omega arith) ∙ r.calls_behind k (omega arith);
          corners_behind = λ k h. get_or-set_other ks i k s.corners [] (λ z. omega arith) ∙ r.corners_behind k (omega arith);
          calls_long = length-set cs i s.calls ∙ r.calls_long;
          corners_long = length-set ks i s.corners ∙ r.corners_long;
        }
      where
        here_bit : bit m'.marks.nullable i ≡ s.nullable
        here_bit = added_here g.nullable (r.nullable_none i (omega arith))

        count_more : m'.count ≡ count_below (bit m'.marks.nullable) (i + 1)
        count_more =
            g.count
            ∙ ap (λ x. x + one_if s.nullable)
            (r.counted ∙ count_same (bit m.marks.nullable) (bit m'.marks.nullable) i (λ k h. sym (added_other g.nullable k (λ z. omega arith))))
            ∙ rw (add-one i) (ap (λ x. count_below (bit m'.marks.nullable) i + x) (ap one_if (sym here_bit)))

        here : {k : ℕ} → k ≡ i → Recorded v ws end (get_or places k 0) k (set cs i s.calls) (set ks i s.corners) m'.marks.nullable m'.marks.stops
        here z =
            rw z (record {
              survey = s;
              surveyed = rw (← e) d;
              calls = get_or-set_same cs i s.calls [] (let u = r.calls_long in omega arith);
              corners = get_or-set_same ks i s.corners [] (let u = r.corners_long in omega arith);
              nullable = here_bit;
              stops = added_here g.stops (r.stops_none i (omega arith));
            })

        there : (k : ℕ) → k < i + 1 → (k ≡ i → ⊥) → Recorded v ws end (get_or places k 0) k (set cs i s.calls) (set ks i s.corners) m'.marks.nullable m'.marks.stops
        there k h n =
            let w = r.each k (omega arith) in
            record {
              survey = w.survey;
              surveyed = w.surveyed;
              calls = get_or-set_other cs i k s.calls [] n ∙ w.calls;
              corners = get_or-set_other ks i k s.corners [] n ∙ w.corners;
              nullable = added_other g.nullable k n ∙ w.nullable;
              stops = added_other g.stops k n ∙ w.stops;
            }

    pub record_all : {n k : ℕ} → n ≤ i → i ≤ n → n ≡ k → Recording v ws end places cs₀ ks₀ k cs ks m
    record_all {n} {k} a b c = let e : i ≡ k = omega arith in rw (← e) r

pub ruleset recording = (record_none, record_more, record_all)
