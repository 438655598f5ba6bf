-- Words that rise, searched; and the row of the rules that are in them.
use Rattle.std.proofs.Common.{ℕ, zero, suc, ◌/◌, ◌<◌, ◌≤◌, ◌≡◌, sym, ap, ◌∙◌, subst, arith}
use Rattle.std.proofs.Common.{List, [], ◌∷◌, map, length, get_or}
use mathlib.Core.List.{Memᴰ}
use Rattle.std.specs.Prelude.{Bool, true, Result, Ok, Err, is_ok}
use Rattle.std.specs.Ordering.{nat_cmp}
use Rattle.std.specs.List.Sorted.{IsSearchInRange, IsBinarySearchResult}
use Rattle.std.specs.Simd.{first_chunks}
use Rattle.std.proofs.lemmas.List.{get_or-map}
use Rattle.std.proofs.lemmas.List.Sorted.{searched}
use lib.ListN.{length-map}
use lib.Dec.{ltb}
use borrow.Author.Tests.{ltb-true, ltb-false}
use Rattle.grammar.specs.Words.{words}
use Rattle.grammar.specs.Lists.{member, rising}
use Rattle.grammar.specs.Laws.Lists.{in_member, member_in}
use Rattle.grammar.specs.Laws.Parse.{either}
use Rattle.graph.specs.Order.{Rising, true_rising}
use Rattle.words.specs.Words.{chunk_word}
use Rattle.words.specs.Laws.Words.{chunk_words}
use Rattle.reach.specs.Rows.{bit, RowOf, Collected}
use Rattle.reach.proofs.Laws.Graph.{at_in, in_at}
use Rattle.hub.proofs.Laws.Grounds.{row_of}

-- Of rising numbers the later is the larger.
rising_at : (xs : List ℕ) → Rising xs → (i j : ℕ) → i < j → j < length xs → get_or xs i 0 < get_or xs j 0
rising_at [] h i j l m = absurd (omega arith)
rising_at (x ∷ xs) h i zero l m = absurd (omega arith)
rising_at (x ∷ xs) h zero (suc j) l m = h.0 (get_or xs j 0) (at_in 0 xs j (omega arith))
rising_at (x ∷ xs) h (suc i) (suc j) l m = rising_at xs h.1 i j (omega arith) (omega arith)

-- What a search by a key finds among elements whose keys rise.
module _ {X : Type 0} (key : X → ℕ) (d : X) (xs : List X) (rises : rising (map key xs) ≡ true) (id : ℕ) where
  abbrev keys : List ℕ
  keys = map key xs

  long : length keys ≡ length xs
  long = length-map xs key

  key_at : (i : ℕ) (e : X) (z : ℕ) → i < length xs → get_or keys i z ≡ key (get_or xs i e)
  key_at i e z l = get_or-map key xs i e z l

  by_keys : (r : Result ℕ ℕ) → IsSearchInRange r (length xs) → IsBinarySearchResult (λ y. nat_cmp (key y) id) xs r
      → IsBinarySearchResult (λ y. nat_cmp y id) keys r
  by_keys (Ok i) l h = λ z. ap (λ y. nat_cmp y id) (key_at i d z l) ∙ h d
  by_keys (Err i) l h = λ up.
      let p = h (λ a b e le lt.
      rw (← key_at a e 0 (omega arith), ← key_at b e 0 lt) (up a b 0 le (let n = long in omega arith))) in (
        (λ k z a b. ap (λ y. nat_cmp y id) (key_at k d z (omega arith)) ∙ p.0 k d a b),
        (λ k z a b. ap (λ y. nat_cmp y id) (key_at k d z (let n = long in omega arith)) ∙ p.1 k d a (let n = long in omega arith)),
      )

  ordered : (i j : ℕ) → i ≤ j → j < length keys → get_or keys i 0 ≤ get_or keys j 0
  ordered i j le lt =
      either (ltb i j)
      (λ t. let l = rising_at keys (true_rising keys rises) i j (ltb-true i j t) lt in omega arith)
      (λ f. let l = ltb-false i j f in let e : i ≡ j = omega arith in let s = ap (λ k. get_or keys k 0) e in omega arith)

  pub found : (r : Result ℕ ℕ) → IsSearchInRange r (length xs) → IsBinarySearchResult (λ y. nat_cmp (key y) id) xs r
      → is_ok r ≡ member id keys
  found (Ok i) b h =
      let s = searched keys id (Ok i) (by_keys (Ok i) b h) ordered in
      sym (in_member (subst (λ y. Memᴰ y keys) s.1 (at_in 0 keys i s.0)))
  found (Err i) b h =
      let s = searched keys id (Err i) (by_keys (Err i) b h) ordered in
      either (member id keys)
      (λ t.
      let (k, l, e) = in_at 0 (member_in keys t) in
      absurd
      (either (ltb k i) (λ x. let y = s.1 k (ltb-true k i x) in omega arith) (λ x. let y = s.2 k (ltb-false k i x) l in omega arith)))
      (λ f. sym f)

-- An id among the words of bytes.
pub id_found : (bs : List ℕ) (id : ℕ) → rising (words bs) ≡ true → {xs : List (List ℕ)} {k : ℕ}
    → xs ≡ first_chunks 4 k bs → k ≡ length bs / 4
    → (r : Result ℕ ℕ) → IsSearchInRange r (length xs) → IsBinarySearchResult (λ y. nat_cmp (chunk_word y) id) xs r
    → is_ok r ≡ member id (words bs)
id_found bs id rises {xs} {k} e c r b h =
    let same : map chunk_word xs ≡ words bs = ap (map chunk_word) e ∙ chunk_words k bs c in
    found chunk_word [] xs (rw same rises) id r b h ∙ ap (member id) same

-- The rules, each looked for.
pub rows_of : {ids xs row : List ℕ} {Gives : ℕ → Bool → Type 0} {n : ℕ} → Collected Gives n row
    → ((k : ℕ) (b : Bool) → k < n → Gives k b → b ≡ member (get_or ids k 0) xs) → RowOf ids n xs row
rows_of {row = row} x h = row_of (λ k l. h k (bit row k) l (x.below k l)) (λ k l. x.beyond k l)
