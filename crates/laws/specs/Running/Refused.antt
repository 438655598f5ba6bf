-- Refusals 8 and 9: what they are given for, and what they exclude.
use Rattle.std.specs.Prelude.{ℕ, zero, suc, ◌≤◌, ◌<◌, ◌+◌, ◌≡◌, ◌⊎◌, List, [], ◌∷◌, Bool, ◌&&◌, length, ltb}
use Rattle.std.proofs.Math.Path.{refl}
use Rattle.std.proofs.Common.{subst, inl, inr, arith}
use Rattle.std.proofs.Math.Bool.{true, false}
use Rattle.std.proofs.Math.Dec.{leb}
use Rattle.std.specs.Cmp.{first_so, second_so}
use borrow.Author.Tests.{leb-true, leb-false, ltb-true, ltb-false}
use Rattle.grammar.specs.Tree.{Rule, Counters}
use Rattle.grammar.specs.Encode.{encode, encode_counters}
use Rattle.grammar.specs.Lists.{all, AllOf, AnyOf}
use Rattle.reference.specs.Apply.{Fresh}
use Rattle.reference.specs.Run.{are_words, sheet_with, is_short, refusal_of}
use Rattle.grammar.specs.Numbers.{most_words}
use Rattle.grammar.specs.Numbers.{word_end}
use Rattle.reference.specs.Numbers.{most_entries, counter_end}

-- Numbers that are words, and such as are not.
all_words : (ns : List ℕ) → all (λ n. ltb n word_end) ns ≡ true → AllOf (λ n. n < counter_end) ns
unfolding all
all_words [] t = tt
all_words (n ∷ ns) t =
    let h = ltb-true n word_end (first_so (ltb n word_end) _ t) in
    (omega arith, all_words ns (second_so (ltb n word_end) _ t))

no_word : (ns : List ℕ) → all (λ n. ltb n word_end) ns ≡ false → AnyOf (λ n. counter_end ≤ n) ns
unfolding all
no_word [] t = absurd (let z : ◌≡◌ {A = ℕ} 0 1 = cc in omega arith)
no_word (n ∷ ns) t = go (ltb n word_end) refl t (no_word ns)
  where
    go : (b : Bool) → ltb n word_end ≡ b → (b && all (λ n. ltb n word_end) ns) ≡ false
        → (all (λ n. ltb n word_end) ns ≡ false → AnyOf (λ n. counter_end ≤ n) ns)
        → AnyOf (λ n. counter_end ≤ n) (n ∷ ns)
    go true k e ih = inr (ih e)
    go false k e ih = let h = ltb-false n word_end k in inl (omega arith)

pub counters_good : (c : Counters) → are_words c ≡ true → AllOf (λ n. n < counter_end) (encode_counters c)
unfolding are_words
counters_good c t = all_words (encode_counters c) t

module _ (kind : ℕ) (preserved : List ℕ) (after : Fresh (List Rule)) (recorded : ℕ) where
  abbrev words : ℕ
  words = length (encode (sheet_with kind preserved after))

  abbrev entries : ℕ
  entries = recorded + length after.entries

  -- The reason for each refusal.
  pub data Refused : ℕ → Type 0 where
    for_ids : AnyOf (λ n. counter_end ≤ n) (encode_counters after.counters) → Refused 8
    for_length : AllOf (λ n. n < counter_end) (encode_counters after.counters) → (most_words < words) ⊎ (most_entries < entries) → Refused 9

  -- What is not refused.
  pub record NotRefused : Type 0 where
    pub is_words : are_words after.counters ≡ true
    pub short : words ≤ most_words
    pub few : entries ≤ most_entries

  abbrev Judged : ℕ → Type 0
  Judged n = elim n [ zero ↦ NotRefused | suc m ↦ Refused (suc m) ]

  judged : Judged (refusal_of kind preserved after recorded)
  unfolding refusal_of is_short are_words
  judged = counted (are_words after.counters) refl
    where
      short : are_words after.counters ≡ true → (a : Bool) → leb words most_words ≡ a → (b : Bool) → leb entries most_entries ≡ b
          → Judged (elim (a && b) as (λ x. ℕ) [ false ↦ 9 | true ↦ 0 ])
      short t true p true q = record { is_words = t; short = leb-true words most_words p; few = leb-true entries most_entries q }
      short t true p false q = for_length (counters_good after.counters t) (inr (leb-false entries most_entries q))
      short t false p b q = for_length (counters_good after.counters t) (inl (leb-false words most_words p))

      counted : (b : Bool) → are_words after.counters ≡ b
          → Judged (elim b as (λ x. ℕ) [
            | false ↦ 8
            | true ↦ elim (is_short kind preserved after recorded) as (λ x. ℕ)
                [ false ↦ 9 | true ↦ 0 ]
          ])
      counted true t = short t (leb words most_words) refl (leb entries most_entries) refl
      counted false t = for_ids (no_word (encode_counters after.counters) t)

  pub not_refused : refusal_of kind preserved after recorded ≡ 0 → NotRefused
  not_refused e = subst Judged e judged

  pub is_refused : {n : ℕ} → refusal_of kind preserved after recorded ≡ suc n → Refused (suc n)
  is_refused e = subst Judged e judged
