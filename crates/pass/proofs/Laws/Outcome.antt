-- The returns of a call: each hands back the definition's outcome.
use Rattle.std.specs.Prelude.{Result, Ok, Err}
use Rattle.std.specs.Cmp.{first_so, second_so}
use Prim.Native.Nat.{ℕ, ◌*◌}
use mathlib.Core.Path.{◌≡◌, refl, sym, ◌∙◌, subst}
use mathlib.Core.List.{List}
use mathlib.Core.Bool.{Bool, true, false, not}
use native.Mathlib.Omega.{arith}
use lib.ListN.{length}
use lib.Dec.{leb}
use borrow.Author.Tests.{leb-true, le-leb, not-true, not-false}
use Rattle.grammar.specs.Numbers.{result_bytes, trail_bytes, work_bytes}
use Rattle.grammar.specs.Corners.{Corners}
use Rattle.grammar.specs.Reading.{is_length}
use Rattle.grammar.specs.Laws.Words.{AreBytes}
use Rattle.grammar.specs.Laws.Stands.{stands_length}
use Rattle.reference.specs.Numbers.{entry_words}
use Rattle.reference.specs.Substitute.{standard}
use Rattle.reference.specs.Run as R
use Rattle.reference.specs.Run.{Outcome, outcome, untouched, delivered, are_lent, answer_to, refusal, answer}
use Rattle.laws.specs.Demands.Kept.{EveryCall}
use Rattle.laws.specs.Proved.Kept.{every_call_lem}
use Rattle.run.specs.Ended.{AnswerIs}
use Rattle.run.specs.declared.state.Ended.{Ended}
use Rattle.apply.specs.Applied.{Buffers}
use Rattle.pass.specs.declared.answer.Totals.{Totals}
use Rattle.words.specs.declared.numbers.Refusal.{Refusal}
use Rattle.words.specs.declared.numbers.Refusal.TheVariants.{BadLength, ShortBuffer}
use Rattle.pass.specs.Handed.{outcome_of, Handed, ClearedFrom, lent_by, Lent}
use Rattle.pass.proofs.Laws.Bytes.{front_filled, none_filled}

-- The buffers, by their lengths.
pub buffers_lent : {result trail work : List ℕ} → Buffers result trail work → are_lent result trail work ≡ true
unfolding are_lent
buffers_lent {result} {trail} {work} b =
    rw (
      le-leb result_bytes (length result) b.for_result,
      le-leb trail_bytes (length trail) b.for_trail,
      le-leb work_bytes (length work) b.for_work,
    ) refl

pub call_lent : {bs result trail work : List ℕ} {r q : Bool} → r ≡ is_length (length bs) → not r ≡ false
    → q ≡ lent_by (length result) (length trail) (length work) → not q ≡ false → Lent bs result trail work
call_lent {bs} {result} {trail} {work} i n j m =
    let e = sym j ∙ not-false _ m in
    let a = first_so (leb result_bytes (length result)) _ e in
    let f = second_so (leb result_bytes (length result)) _ e in
    record {
      long = sym i ∙ not-false _ n;
      buffers =
          record {
            for_result = leb-true _ _ a;
            for_trail = leb-true _ _ (first_so (leb trail_bytes (length trail)) _ f);
            for_work = leb-true _ _ (second_so (leb trail_bytes (length trail)) _ f);
          };
    }

module _ (c : Corners) (bs result trail work : List ℕ) (are : AreBytes bs) where
  abbrev asked : Outcome
  asked = outcome standard c bs result trail work

  handed : (a : Result Totals Refusal) (result' trail' work' : List ℕ) → outcome_of a result' trail' work' ≡ asked
      → Handed c bs result trail work a result' trail' work'
  handed a result' trail' work' e =
      record {
        is = e;
        means = subst (λ o. EveryCall standard c bs result trail work o) (sym e) (every_call_lem standard c bs result trail work are);
      }

  -- Refusals 1 and 2 touch nothing.
  pub handed_length : {r : Bool} → r ≡ is_length (length bs) → not r ≡ true
      → Handed c bs result trail work (Err BadLength) result trail work
  unfolding outcome untouched
  handed_length i n = let e = sym i ∙ not-true _ n in handed (Err BadLength) result trail work (rw (e, outcome) refl)

  pub handed_short : {r q : Bool} → r ≡ is_length (length bs) → not r ≡ false
      → q ≡ lent_by (length result) (length trail) (length work) → not q ≡ true
      → Handed c bs result trail work (Err ShortBuffer) result trail work
  unfolding outcome untouched are_lent
  handed_short i n j m =
      let e = sym i ∙ not-false _ n in
      let f : are_lent result trail work ≡ false = sym j ∙ not-true _ m in
      handed (Err ShortBuffer) result trail work (rw (e, f, outcome) refl)

  module _ (l : Lent bs result trail work) where
    delivers : asked ≡ delivered result trail work (answer_to standard c bs)
    unfolding outcome
    delivers = rw (l.long, buffers_lent l.buffers, outcome) refl

    module _ {result₁ trail₁ work₁ result' trail' work' : List ℕ} (same_result : length result₁ ≡ length result) (same_trail : length trail₁ ≡ length trail) (same_work : length work₁ ≡ length work)
        (z : ClearedFrom work₁ work' 0) where
      pub handed_refused : {f : Refusal} → AnswerIs result₁ trail₁ (Err f) (answer_to standard c bs)
          → ClearedFrom result₁ result' 0 → ClearedFrom trail₁ trail' 0
          → Handed c bs result trail work (Err f) result' trail' work'
      unfolding delivered
      handed_refused {f} a x y = handed (Err f) result' trail' work' (go (answer_to standard c bs) refl ∙ sym delivers)
        where
          go : (o : R.Answer) → answer_to standard c bs ≡ o
              → outcome_of (Err f) result' trail' work' ≡ delivered result trail work (answer_to standard c bs)
          go (refusal n) e =
              let k = a.refused n e in
              let u = none_filled result refl x same_result in
              let v = none_filled trail refl y same_trail in
              let w = none_filled work refl z same_work in
              rw (e, k, u, v, w, delivered) refl
          go (answer p s ws ts) e = absurd (a.delivered p s ws ts e)

      module _ (known₁ : AreBytes result₁) (known₂ : AreBytes trail₁) where
        pub handed_joined : {r : Ended} {at to : ℕ} → AnswerIs result₁ trail₁ (Ok r) (answer_to standard c bs) → ClearedFrom result₁ result' at → ClearedFrom trail₁ trail' to
            → at ≡ 4 * r.words → to ≡ 16 * r.entries
            → Handed c bs result trail work (Ok (record { plans = r.plans; steps = r.steps; result = at; trail = to }))
            result' trail' work'
        unfolding delivered
        handed_joined {r} {at} {to} a x y i j = handed _ result' trail' work' (go (answer_to standard c bs) refl ∙ sym delivers)
          where
            go : (o : R.Answer) → answer_to standard c bs ≡ o
                → outcome_of (Ok (record { plans = r.plans; steps = r.steps; result = at; trail = to })) result' trail' work'
                ≡ delivered result trail work (answer_to standard c bs)
            go (refusal n) e = absurd (a.refused n e)
            go (answer p s ws ts) e =
                let d = a.delivered p s ws ts e in
                let u = front_filled result known₁ d.sheet i x same_result in
                let q : to ≡ 4 * (entry_words * r.entries) = omega (arith, j) in
                let v = front_filled trail known₂ d.entries q y same_trail in
                let w = none_filled work refl z same_work in
                let m = stands_length d.sheet.stands in
                let n = stands_length d.entries.stands in
                let f : at ≡ 4 * length ws = omega arith in
                let g : to ≡ 4 * length ts = omega arith in
                rw (e, d.plans_are, d.steps_are, u, v, w, f, g, delivered) refl

pub ruleset outcomes = (handed_length, handed_short, call_lent, handed_refused, handed_joined)
