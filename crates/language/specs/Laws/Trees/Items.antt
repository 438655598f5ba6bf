-- Splice and split of alternatives that are lists of items with shapes, as those of a tree are lists of elements.
use Rattle.std.specs.Prelude.{ℕ, ◌≡◌, List, [], ◌∷◌, ◌++◌, map}
use Rattle.std.proofs.Common.{sym, ap, ap₂, ◌∙◌, subst₂}
use Rattle.std.proofs.Math.Path.{fun_ext}
use Rattle.std.proofs.lemmas.Simd.{map-map}
use Rattle.std.proofs.Math.Option.{some}
use Rattle.language.specs.Shape.{Shape, call_of, opt, seqs, alts, Shapes, find}
use Rattle.language.specs.Laws.Trees.Turns.{split, splice, LocalPairs}
use Rattle.language.specs.Laws.Trees.Steps.{splice_pairs, split_pairs}
use Rattle.language.specs.Laws.TreeSteps.{cut, cut_at, cut_twice}

module _ {A : Type 0} (shape_of : A → Shape) where
  module _ {H : ℕ} {G : Shapes} where
    -- Splice, of the call x.
    pub splice_items : {B : Type 0} (items_of : B → List A) (S : ℕ) (bs : List B) → (S ≡ H → ⊥)
        → find G S ≡ some (alts (map (λ b. seqs (map shape_of (items_of b))) bs)) → (α β : List A) {x : A} → shape_of x ≡ call_of S
        → LocalPairs H G (seqs (map shape_of (α ++ (x ∷ β)))) (map (λ b. seqs (map shape_of (α ++ (items_of b ++ β)))) bs)
    splice_items {B} items_of S bs ne f α β p =
        let γ : B → List Shape = λ b. map shape_of (items_of b) in
        let each = map-map (λ γ. seqs (map shape_of α ++ (γ ++ map shape_of β))) γ bs in
        let found = f ∙ ap (λ l. some (alts l)) (sym (map-map seqs γ bs)) in
        subst₂ (LocalPairs H G) (cut_at shape_of α β p) (each ∙ ap (λ g. map g bs) (fun_ext λ b. cut_twice shape_of α (items_of b) β)) (
          splice_pairs S (map γ bs) ne found (map shape_of α) (map shape_of β),
          splice S (map γ bs) ne found (map shape_of α) (map shape_of β),
        )

    -- Split, of x, which is the optional y.
    pub split_items : (α β : List A) {x y : A} → shape_of x ≡ opt (shape_of y)
        → LocalPairs H G (seqs (map shape_of (α ++ (x ∷ β)))) (seqs (map shape_of (α ++ (y ∷ β))) ∷ seqs (map shape_of (α ++ β)) ∷ [])
    split_items α β {y = y} p =
        subst₂ (LocalPairs H G) (cut_at shape_of α β p) (ap₂ (λ s t. s ∷ t ∷ []) (cut shape_of α (y ∷ β)) (cut shape_of α β))
        (split_pairs (shape_of y) (map shape_of α) (map shape_of β), split (shape_of y) (map shape_of α) (map shape_of β))
