-- Words written one behind the other, what stands then, and what is as it was.
use Rattle.std.specs.Prelude.{ℕ, suc, ◌+◌, ◌*◌, ◌-◌, ◌<◌, ◌≤◌, ◌≡◌}
use Rattle.std.specs.Prelude.{refl, ◌⊎◌, ◌≢◌, List, [], ◌∷◌, ◌++◌, length, get_or, set, take, drop}
use Rattle.std.proofs.Common.{sym, ap, ◌∙◌, inl, inr, ⊎_elim, arith, add-zero, length-append, length-set}
use Rattle.std.proofs.Common.{get_or-append-add, get_or-set_same, get_or-set_other}
use Rattle.std.proofs.Math.ListN.{get_or-append, get_or-eq_default}
use Rattle.std.proofs.lemmas.Bool.{cases_lt}
use Rattle.grammar.specs.Words.{words}
use Rattle.grammar.specs.Stands.{Run, Stands}
use Rattle.grammar.specs.Laws.Words.{length_words, get_d_words}
use Rattle.grammar.specs.Laws.Stands.{stands_slice}
use Rattle.words.specs.Words.{with_word}
use Rattle.writing.specs.Wrote.{Wrote}

-- A word past the last whole one is none.
no_word : (bs : List ℕ) (j : ℕ) → length bs < 4 * j + 4 → get_or (words bs) j 0 ≡ 0
no_word bs j h = get_or-eq_default (words bs) 0 (omega (arith, length_words bs))

module _ (b a : List ℕ) where
  -- Where the bytes of a word are as they were, so is the word.
  pub word_same : (j : ℕ) → length a ≡ length b
      → ((i : ℕ) → i < 4 * j + 4 → get_or a i 0 ≡ get_or b i 0)
      → get_or (words a) j 0 ≡ get_or (words b) j 0
  word_same j l e =
      ⊎_elim
      (λ h. no_word a j h ∙ sym (no_word b j (omega arith)))
      (λ h.
      get_d_words a j h
      ∙ rw (e (4 * j) (omega arith), e (4 * j + 1) (omega arith), e (4 * j + 2) (omega arith), e (4 * j + 3) (omega arith))
      (sym (get_d_words b j (omega arith))))
      (cases_lt (length a) (4 * j + 4))

-- No words change nothing.
pub wrote_nothing : (b : List ℕ) (at : ℕ) → Wrote b b at []
wrote_nothing b at = record { long = refl; here = λ k h. absurd (omega arith); other = λ i h. refl }

module _ {b a : List ℕ} {at : ℕ} {xs : List ℕ} (w : Wrote b a at xs) where
  -- The words in front are as they were.
  pub wrote_same : (j : ℕ) → j < at → get_or (words a) j 0 ≡ get_or (words b) j 0
  wrote_same j h = word_same b a j w.long (λ i g. w.other i (inl (omega arith)))

  -- The bytes in front are as they were, and so are those behind.
  pub wrote_front : (i : ℕ) → i < 4 * at → get_or a i 0 ≡ get_or b i 0
  wrote_front i h = w.other i (inl h)

  pub wrote_behind : (i : ℕ) → 4 * (at + length xs) ≤ i → get_or a i 0 ≡ get_or b i 0
  wrote_behind i h = w.other i (inr h)

  run_from : (end k : ℕ) (ys : List ℕ) (q : ℕ) → q ≡ at + k + length ys → q ≤ end
      → ((i : ℕ) → i < length ys → get_or (words a) (at + (k + i)) 0 ≡ get_or ys i 0)
      → Run (words a) end ys at k q
  run_from end k [] q e h f = (omega arith, h)
  run_from end k (y ∷ ys) q e h f = (
    rw (add-zero k) at (f 0 (omega arith)),
    run_from end (suc k) ys q (omega arith) h (λ i l.
        let m : k + suc i ≡ suc k + i = omega arith in
        rw m at (f (suc i) (omega arith))),
  )

  -- The words stand there.
  pub wrote_stands : (end : ℕ) → at + length xs ≤ end → Stands (words a) end xs at (at + length xs)
  wrote_stands end h =
      record {
        run = run_from end 0 xs (at + length xs) (omega arith) h (λ i l.
            let m : 0 + i ≡ i = omega arith in rw m (w.here i l));
      }

  pub wrote_slice : 4 * (at + length xs) ≤ length b → take (length xs) (drop at (words a)) ≡ xs
  wrote_slice h =
      let l = w.long in
      stands_slice (omega (arith, length_words a)) (wrote_stands (at + length xs) (omega arith))

-- One list of words, and another behind it.
module _ {b m a : List ℕ} {at : ℕ} {xs ys : List ℕ} where
  pub wrote_then : {at' : ℕ} → at' ≡ at + length xs → Wrote b m at xs → Wrote m a at' ys → Wrote b a at (xs ++ ys)
  wrote_then {at'} e v w =
      record {
        long = w.long ∙ v.long;
        here = λ k h.
            ⊎_elim
            (λ l. wrote_same w (at + k) (omega arith) ∙ v.here k l ∙ sym (get_or-append xs ys 0 k l))
            (λ g.
            let s : at + k ≡ at' + (k - length xs) = omega arith in
            let t : k ≡ length xs + (k - length xs) = omega arith in
            let n : k - length xs < length ys = omega (arith, length-append xs ys, h) in
            ap (λ i. get_or (words a) i 0) s ∙ w.here (k - length xs) n
            ∙ sym (get_or-append-add xs ys (k - length xs) 0)
            ∙ ap (λ i. get_or (xs ++ ys) i 0) (sym t))
            (cases_lt k (length xs));
        other = λ i h.
            let n = length-append xs ys in
            ⊎_elim
            (λ l. w.other i (inl (omega arith)) ∙ v.other i (inl l))
            (λ g. w.other i (inr (omega arith)) ∙ v.other i (inr (omega arith)))
            h;
      }

-- The four bytes of a word are all that change.
others : (b : List ℕ) (at i w : ℕ) → (i < at) ⊎ (at + 4 ≤ i) → get_or (with_word b at w) i 0 ≡ get_or b i 0
others b at i w h =
    let n₀ : i ≢ at = λ e. ⊎_elim (λ l. omega arith) (λ l. omega arith) h in
    let n₁ : i ≢ at + 1 = λ e. ⊎_elim (λ l. omega arith) (λ l. omega arith) h in
    let n₂ : i ≢ at + 2 = λ e. ⊎_elim (λ l. omega arith) (λ l. omega arith) h in
    let n₃ : i ≢ at + 3 = λ e. ⊎_elim (λ l. omega arith) (λ l. omega arith) h in
    simp get_or-set_other

-- One word put.
pub wrote_word : {b a : List ℕ} {at w : ℕ} → 4 * (at + 1) ≤ length b → words a ≡ set (words b) at w → a ≡ with_word b (4 * at) w
    → Wrote b a at (w ∷ [])
wrote_word {b} {a} {at} {w} h e f =
    record {
      long = rw f (simp length-set);
      here = λ k l.
          let z : k ≡ 0 = omega arith in
          rw (z, add-zero at, e) (get_or-set_same (words b) at w 0 (omega (arith, length_words b)));
      other = λ i l. rw f (others b (4 * at) i w (⊎_elim (λ h. inl h) (λ h. inr (omega arith)) l));
    }

pub ruleset writes = (wrote_nothing, wrote_same, wrote_front, wrote_behind, wrote_stands, wrote_slice, wrote_then, wrote_word)
