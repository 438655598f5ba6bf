-- Names in order, halved; and what the entry that is found tells of a name.
use Prim.Native.Nat.{ℕ, zero, suc, ◌+◌, ◌*◌, ◌-◌, ◌/◌, ◌%◌, ◌<◌, ◌≤◌}
use mathlib.Core.Path.{◌≡◌, refl, sym, ap, ap₂, ◌∙◌}
use mathlib.Core.List.{List, []}
use mathlib.Core.Bool.{Bool, true, false, ◌&&◌, ◌||◌, or-true, false≢true}
use native.Mathlib.Omega.{arith}
use lib.ListN.{length, get_or, get_or-eq_default, take, drop}
use Rattle.std.specs.Prelude.{Result, Ok, Err, MatchResult}
use Rattle.std.specs.Ordering.{nat_cmp, ordering_index}
use Rattle.std.specs.List.Sorted.{IsSearchInRange, IsBinarySearchResult, IsNonDecreasingBy}
use Rattle.std.specs.Simd.{first_chunks}
use Rattle.std.proofs.lemmas.Cmp.{ranked}
use Rattle.std.proofs.lemmas.List.{length-drop, length-take-le, get_or-take, get_or-drop, drop-drop}
use Rattle.std.proofs.lemmas.Bool.Decides.{nat_tests}
use lib.Dec.{eqb, ltb}
use borrow.Author.Tests.{eqb-true, eqb-false, ltb-true, ltb-false, eq-eqb}
use Rattle.std.specs.Cmp.{first_so, second_so}
use Rattle.grammar.specs.Numbers.{most_words}
use Rattle.grammar.specs.Laws.Parse.{either}
use Rattle.grammar.specs.Words.{words}
use Rattle.grammar.specs.Laws.Words.{length_words}
use Rattle.planned.specs.Layout.{half}
use Rattle.collisions.specs.Names.{entries_end, low_in, count_in, entry, entry_name, has_bit, name_at, has_among, has_name, Ordered}
use Rattle.collisions.specs.Order.{IsAt}

-- Where an entry stands.
module _ {ws : List ℕ} {end : ℕ} {bs : List ℕ} (o : Ordered ws end bs) {i : ℕ} (l : i < count_in bs) where
  pub entry_room : low_in bs + i < entries_end
  entry_room = let a = o.last in omega arith

-- The name of an entry, by its two bytes.
pub name_read : (ws e : List ℕ) {v p w : ℕ} → v ≡ get_or e 0 0 + 256 * get_or e 1 0 → p ≡ v % most_words → w ≡ get_or ws p 0 → w ≡ entry_name ws e
unfolding half entry_name
name_read ws e bytes place f = f ∙ ap (λ x. get_or ws x 0) (place ∙ ap (λ x. x % most_words) bytes)

pub name_past : (bs e : List ℕ) {v p : ℕ} → v ≡ get_or e 0 0 + 256 * get_or e 1 0 → p ≡ v % most_words → length bs / 4 ≤ p
    → 0 ≡ entry_name (words bs) e
name_past bs e {p = p} bytes place l =
    let n = length_words bs in name_read (words bs) e bytes place (sym (get_or-eq_default (words bs) 0 (omega arith)))

-- The chunks of a part of a list, item by item.
chunk_at : {X : Type 0} (n k : ℕ) (xs : List X) (i : ℕ) (d : List X) → i < k → get_or (first_chunks n k xs) i d ≡ take n (drop (n * i) xs)
chunk_at n zero xs i d l = absurd (omega arith)
chunk_at n (suc k) xs zero d l = ap (λ m. take n (drop m xs)) {x = 0} (omega arith)
chunk_at n (suc k) xs (suc i) d l =
    chunk_at n k (drop n xs) i d (omega arith) ∙ ap (take n) (drop-drop (n * i) n xs ∙ ap (λ m. drop m xs) (omega arith))

-- The entries, two bytes each.
module _ {ws : List ℕ} {end : ℕ} {bs : List ℕ} (o : Ordered ws end bs) {low count : ℕ} (first : low ≡ low_in bs) (many : count ≡ count_in bs)
    {xs : List (List ℕ)} (e : xs ≡ first_chunks 2 (length (take (2 * (low + count) - 2 * low) (drop (2 * low) bs)) / 2)
    (take (2 * (low + count) - 2 * low) (drop (2 * low) bs))) where
  abbrev part : List ℕ
  part = take (2 * (low + count) - 2 * low) (drop (2 * low) bs)

  part_long : length part ≡ 2 * count_in bs
  part_long =
      let a = length-drop (2 * low) bs in
      let b = length-take-le (2 * (low + count) - 2 * low) (drop (2 * low) bs) (let c = o.last in let d = o.long in let f = o.order in omega arith) in
      omega arith

  chunks_long : (n : ℕ) (k : ℕ) (ys : List ℕ) → length (first_chunks n k ys) ≡ k
  chunks_long n zero ys = refl
  chunks_long n (suc k) ys = ap suc (chunks_long n k (drop n ys))

  pub entries_long : length xs ≡ count_in bs
  entries_long = ap length e ∙ chunks_long 2 (length part / 2) part ∙ (let a = part_long in omega arith)

  byte : (i j : ℕ) → i < count_in bs → j < 2 → get_or (take 2 (drop (2 * i) part)) j 0 ≡ get_or bs (2 * (low_in bs + i) + j) 0
  byte i j l m =
      get_or-take 2 (drop (2 * i) part) j 0 m ∙ get_or-drop (2 * i) part j 0
      ∙ get_or-take (2 * (low + count) - 2 * low) (drop (2 * low) bs) (2 * i + j) 0 (omega arith) ∙ get_or-drop (2 * low) bs (2 * i + j) 0
      ∙ ap (λ k. get_or bs k 0) (omega arith)

  pub entry_named : (i : ℕ) (d : List ℕ) → i < count_in bs → entry_name ws (get_or xs i d) ≡ name_at ws bs i
  unfolding entry_name name_at half
  entry_named i d l =
      let c : get_or xs i d ≡ take 2 (drop (2 * i) part) =
      ap (λ ys. get_or ys i d) e ∙ chunk_at 2 (length part / 2) part i d (let a = part_long in omega arith) in
      ap (λ h. get_or ws ((get_or h 0 0 + 256 * get_or h 1 0) % most_words) 0) c
      ∙ ap₂ (λ x y. get_or ws ((x + 256 * y) % most_words) 0)
      (byte i 0 l (omega arith) ∙ ap (λ k. get_or bs k 0) (omega arith)) (byte i 1 l (omega arith))

  -- A name is looked for among them.
  module _ (name : ℕ) where
    rise : IsNonDecreasingBy (λ h. ordering_index (nat_cmp (entry_name ws h) name)) xs
    rise i j d le l =
        let n = entries_long in
        let a = entry_named i d (omega arith) in
        let b = entry_named j d (omega arith) in
        let up : name_at ws bs i ≤ name_at ws bs j =
        either (ltb i j) (λ u. let z = o.rises i j (ltb-true i j u) (omega arith) in omega arith)
        (λ u. let z = ltb-false i j u in let same : i ≡ j = omega arith in let f = ap (name_at ws bs) same in omega arith) in
        let all : entry_name ws (get_or xs i d) ≤ entry_name ws (get_or xs j d) = omega arith in
        grind (arith, nat_tests)

    pub looked : (r : Result ℕ ℕ) → IsSearchInRange r (length xs) → IsBinarySearchResult (λ h. nat_cmp (entry_name ws h) name) xs r
        → MatchResult r (λ k. IsAt ws bs name k true) (λ k. IsAt ws bs name k false)
    looked (Ok k) l h =
        let n = entries_long in
        let inside : k < count_in bs = omega arith in
        record {
          within = omega arith;
          found = λ t. inside;
          is = λ t. sym (entry_named k [] inside) ∙ ranked _ name _ (sym (h []));
          less = λ f. absurd (false≢true (sym f));
          more = λ f. absurd (false≢true (sym f));
        }
    looked (Err k) l h =
        let n = entries_long in
        let p = h rise in
        record {
          within = omega arith;
          found = λ t. absurd (false≢true t);
          is = λ t. absurd (false≢true t);
          less = λ f i m.
              let a = entry_named i [] (omega arith) in
              let b : entry_name ws (get_or xs i []) < name = ranked _ name _ (sym (p.0 i [] (omega arith) m)) in
              omega arith;
          more = λ f i m u.
              let a = entry_named i [] u in
              let b : name < entry_name ws (get_or xs i []) = ranked _ name _ (sym (p.1 i [] m (omega arith))) in
              omega arith;
        }

-- Whether a set has a name, by its entry.
module _ (ws bs : List ℕ) (w n : ℕ) where
  pub has_at : (k i : ℕ) → i < k → has_bit w (entry bs i) ≡ true → name_at ws bs i ≡ n → has_among ws bs w n k ≡ true
  unfolding has_among
  has_at zero i l b e = absurd (omega arith)
  has_at (suc k) i l b e =
      either (eqb i k)
      (λ t.
      let z = eqb-true i k t in
      let c = rw z at b in
      let d = eq-eqb n (name_at ws bs k) (sym e ∙ ap (name_at ws bs) z) in
      rw (c, d) refl)
      (λ f.
      let z = eqb-false i k f in
      ap (λ x. (has_bit w (entry bs k) && eqb n (name_at ws bs k)) || x) (has_at k i (omega arith) b e)
      ∙ or-true (has_bit w (entry bs k) && eqb n (name_at ws bs k)))

  pub has_from : (k : ℕ) → has_among ws bs w n k ≡ true → (i : ℕ) × (i < k) × (has_bit w (entry bs i) ≡ true) × (name_at ws bs i ≡ n)
  unfolding has_among
  has_from zero t = absurd (false≢true t)
  has_from (suc k) t =
      let here = has_bit w (entry bs k) && eqb n (name_at ws bs k) in
      either here
      (λ u.
      let b = first_so (has_bit w (entry bs k)) (eqb n (name_at ws bs k)) u in
      let e = second_so (has_bit w (entry bs k)) (eqb n (name_at ws bs k)) u in
      (k, omega arith, b, sym (eqb-true n (name_at ws bs k) e)))
      (λ f. let (i, l, b, e) = has_from k (rw f at t) in (i, omega arith, b, e))

module _ {ws : List ℕ} {end : ℕ} {bs : List ℕ} (o : Ordered ws end bs) {name k : ℕ} {r : Bool} (a : IsAt ws bs name k r) where
  same_place : (i : ℕ) → r ≡ true → i < count_in bs → name_at ws bs i ≡ name → i ≡ k
  same_place i t l e =
      let f = a.found t in
      let g = a.is t in
      either (eqb i k) (eqb-true i k) λ u.
      let n = eqb-false i k u in
      either (ltb i k)
      (λ v. let z = ltb-true i k v in let s = o.rises i k z f in absurd (omega arith))
      (λ v. let z = ltb-false i k v in let s = o.rises k i (omega arith) l in absurd (omega arith))

  pub has_entry : r ≡ true → (w : ℕ) {h : ℕ} {b : Bool} → h ≡ entry bs k → b ≡ has_bit w h → b ≡ has_name ws bs w name
  unfolding has_name
  has_entry t w e f =
      f ∙ ap (has_bit w) e
      ∙ either (has_bit w (entry bs k))
      (λ u. u ∙ sym (has_at ws bs w name (count_in bs) k (a.found t) u (a.is t)))
      (λ u.
      u
      ∙ either (has_among ws bs w name (count_in bs))
      (λ v.
      let (i, l, c, g) = has_from ws bs w name (count_in bs) v in
      let z = same_place i t l g in
      absurd (false≢true (sym u ∙ (rw z at c))))
      (λ v. sym v))

  pub has_none : r ≡ false → (w : ℕ) → false ≡ has_name ws bs w name
  unfolding has_name
  has_none t w =
      either (has_among ws bs w name (count_in bs))
      (λ v.
      let (i, l, c, g) = has_from ws bs w name (count_in bs) v in
      either (ltb i k)
      (λ u. let z = a.less t i (ltb-true i k u) in absurd (omega arith))
      (λ u. let z = a.more t i (ltb-false i k u) l in absurd (omega arith)))
      (λ v. sym v)
