-- Text put into a buffer piece by piece.
use Prim.Native.Nat.{ℕ, suc, ◌+◌, ◌<◌, ◌≤◌}
use mathlib.Core.Path.{◌≡◌, refl, sym, ap, ◌∙◌}
use mathlib.Core.List.{List, [], ◌∷◌, ◌++◌}
use native.Mathlib.Omega.{arith}
use native.Mathlib.Nat.{add-zero}
use native.Mathlib.Numerals.{add-one}
use lib.ListN.{length, get_or, set, take, drop, length-append}
use lib.Seq.{sets, set_out, set-append_seam, append_snoc, take-suc, take-nil}
use Rattle.listed.specs.Put.{Put, Filled}

pub sets_append : (xs ys l : List ℕ) (i : ℕ) → sets l i (xs ++ ys) ≡ sets (sets l i xs) (i + length xs) ys
sets_append [] ys l i = rw (add-zero i) refl
sets_append (x ∷ xs) ys l i =
    let e : suc i + length xs ≡ i + suc (length xs) = omega arith in
    sets_append xs ys (set l i x) (suc i) ∙ ap (λ k. sets (sets (set l i x) (suc i) xs) k ys) e

-- One text and another behind it.
pub put_then : {b m a : List ℕ} {n p q : ℕ} {xs ys : List ℕ} → Put b m n p xs → Put m a p q ys → Put b a n q (xs ++ ys)
put_then {b} {m} {a} {n} {p} {q} {xs} {ys} v w =
    record {
      is = w.is ∙ rw (v.is, v.moved) (sym (sets_append xs ys b n));
      long = w.long ∙ v.long;
      moved = let l = length-append xs ys in let e = v.moved in let f = w.moved in omega arith;
    }

-- From the front on: what is there, and what is behind it.
sets_out : (xs l : List ℕ) (i : ℕ) → length l ≤ i → sets l i xs ≡ l
sets_out [] l i h = refl
sets_out (x ∷ xs) l i h =
    ap (λ k. sets k (suc i) xs) (set_out l i x h) ∙ sets_out xs l (suc i) (omega arith)

sets_front : (f b xs : List ℕ) → sets (f ++ b) (length f) xs ≡ f ++ (take (length b) xs ++ drop (length xs) b)
sets_front f b [] = ap (λ l. f ++ (l ++ b)) (sym (take-nil (length b)))
sets_front f [] (x ∷ xs) = sets_out (x ∷ xs) (f ++ []) (length f) (let e = length-append f [] in omega arith)
sets_front f (y ∷ b) (x ∷ xs) =
    let l : suc (length f) ≡ length (f ++ (x ∷ [])) = let e = length-append f (x ∷ []) in omega arith in
    let s : set (f ++ (y ∷ b)) (length f) x ≡ (f ++ (x ∷ [])) ++ b = set-append_seam f y b x ∙ sym (append_snoc f x b) in
    ap (λ k. sets k (suc (length f)) xs) s
    ∙ ap (λ i. sets ((f ++ (x ∷ [])) ++ b) i xs) l
    ∙ sets_front (f ++ (x ∷ [])) b xs
    ∙ append_snoc f x (take (length b) xs ++ drop (length xs) b)

pub put_filled : {b a : List ℕ} {r most : ℕ} {text : List ℕ} → Put b a 0 r text → r ≤ most → Filled b a r text most
put_filled {b} {text = text} p h = record { is = p.is ∙ sets_front [] b text; long = p.moved ∙ omega arith; few = h }

-- The first bytes of a word, and one more.
pub writing_more : {b m a : List ℕ} {n p q : ℕ} (word : List ℕ) (i : ℕ) → i < length word → Put b m n p (take i word)
    → Put m a p q (get_or word i 0 ∷ [])
    → Put b a n q (take (i + 1) word)
writing_more word i h w x = rw (add-one i, take-suc word i 0 h) (put_then w x)
