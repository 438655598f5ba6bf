-- Lines put piece by piece.
use Prim.Native.Nat.{ℕ, ◌+◌, ◌*◌, ◌<◌, ◌≤◌}
use mathlib.Core.Path.{◌≡◌, refl, sym, ap, ◌∙◌, subst}
use mathlib.Core.List.{List, [], ◌∷◌, ◌++◌, append_assoc, append-nil}
use native.Mathlib.Omega.{arith}
use native.Mathlib.Numerals.{add-one}
use lib.ListN.{length, get_or, take}
use lib.Seq.{take-suc}
use Rattle.std.proofs.lemmas.List.{take_all}
use Rattle.grammar.specs.Lists.{each}
use Rattle.grammar.specs.Laws.Lists.{each_append}
use Rattle.listed.specs.Put.{Put, PutFew}
use Rattle.listed.specs.Text.{newline, field, line}
use Rattle.listed.proofs.Laws.Put.{put_then}

-- A word and the first i of some numbers.
abbrev pub begun : List ℕ → List ℕ → ℕ → List ℕ
begun word ws i = word ++ each field (take i ws)

begun_more : (word ws : List ℕ) (i : ℕ) → i < length ws → begun word ws i ++ field (get_or ws i 0) ≡ begun word ws (i + 1)
begun_more word ws i h =
    let x = get_or ws i 0 in
    let t : take (i + 1) ws ≡ take i ws ++ (x ∷ []) = rw (add-one i, take-suc ws i 0 h) refl in
    append_assoc word (each field (take i ws)) (field x)
    ∙ ap (λ l. word ++ (each field (take i ws) ++ l)) (sym (append-nil (field x)))
    ∙ ap (λ l. word ++ l) (sym (each_append field (take i ws) (x ∷ [])))
    ∙ ap (λ l. word ++ each field l) (sym t)

module _ (word ws : List ℕ) {b m : List ℕ} {n p : ℕ} where
  module _ (i : ℕ) (u : PutFew b m n p (begun word ws i) (length word + 11 * i)) {a : List ℕ} {q : ℕ} where
    pub line_more : i < length ws → PutFew m a p q (field (get_or ws i 0)) 11
        → PutFew b a n q (begun word ws (i + 1)) (length word + 11 * (i + 1))
    line_more h f =
        record {
          put = subst (λ l. Put b a n q l) (begun_more word ws i h) (put_then u.put f.put);
          few = let e = u.few in let g = f.few in omega arith;
        }

    pub line_ended : i ≤ length ws → length ws ≤ i → Put m a p q (newline ∷ [])
        → PutFew b a n q (line word ws) (length word + 11 * length ws + 1)
    unfolding line
    line_ended l h t =
        let w : take i ws ≡ ws = take_all i ws h in
        record {
          put =
              subst (λ l. Put b a n q l)
              (append_assoc word (each field (take i ws)) (newline ∷ []) ∙ ap (λ l. word ++ (each field l ++ (newline ∷ []))) w)
              (put_then u.put t);
          few = let e = u.few in let g = t.moved in omega arith;
        }

pub ruleset lines = (line_more, line_ended)
