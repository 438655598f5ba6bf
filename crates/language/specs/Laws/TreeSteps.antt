-- Splice and split of alternatives that are lists of items with shapes, as those of a tree are lists of elements.
use Rattle.std.specs.Prelude.{ℕ, ◌≡◌, List, [], ◌∷◌, ◌++◌, map}
use Rattle.std.proofs.Common.{sym, ap, ap₂, ◌∙◌, subst₂}
use Rattle.std.proofs.Math.Path.{fun_ext}
use Rattle.std.proofs.lemmas.Simd.{map-map}
use Rattle.std.proofs.lemmas.List.{map-append}
use Rattle.std.proofs.Math.Option.{some}
use Rattle.language.specs.Shape.{Shape, call_of, opt, seqs, alts, Shapes, find}
use Rattle.language.specs.Laws.Cover.{Alike}
use Rattle.language.specs.Laws.Steps.{alike_splice, alike_split}

module _ {A : Type 0} (shape_of : A → Shape) where
  -- The shape of an alternative, its parts apart.
  pub cut : (α β : List A) → seqs (map shape_of α ++ map shape_of β) ≡ seqs (map shape_of (α ++ β))
  cut α β = ap seqs (sym (map-append shape_of α β))

  pub cut_at : (α β : List A) {x : A} {s : Shape} → shape_of x ≡ s
      → seqs (map shape_of α ++ (s ∷ map shape_of β)) ≡ seqs (map shape_of (α ++ (x ∷ β)))
  cut_at α β {x} p = ap (λ s. seqs (map shape_of α ++ (s ∷ map shape_of β))) (sym p) ∙ cut α (x ∷ β)

  pub cut_twice : (α γ β : List A) → seqs (map shape_of α ++ (map shape_of γ ++ map shape_of β)) ≡ seqs (map shape_of (α ++ (γ ++ β)))
  cut_twice α γ β = ap (λ l. seqs (map shape_of α ++ l)) (sym (map-append shape_of γ β)) ∙ cut α (γ ++ β)

  module _ {H : ℕ} {G : Shapes} where
    -- An item that is a call of S, another rule than H, and in its place the items of each alternative of S.
    pub alike_splice_map : {B : Type 0} (items_of : B → List A) (S : ℕ) (bs : List B) → (S ≡ H → ⊥)
        → find G S ≡ some (alts (map (λ b. seqs (map shape_of (items_of b))) bs)) → (α β : List A) {x : A} → shape_of x ≡ call_of S
        → Alike H G (seqs (map shape_of (α ++ (x ∷ β)))) (alts (map (λ b. seqs (map shape_of (α ++ (items_of b ++ β)))) bs))
    alike_splice_map {B} items_of S bs ne f α β p =
        let γ : B → List Shape = λ b. map shape_of (items_of b) in
        let each = map-map (λ γ. seqs (map shape_of α ++ (γ ++ map shape_of β))) γ bs in
        subst₂ (Alike H G) (cut_at α β p) (ap alts (each ∙ ap (λ g. map g bs) (fun_ext λ b. cut_twice α (items_of b) β)))
        (alike_splice S (map γ bs) ne (f ∙ ap (λ l. some (alts l)) (sym (map-map seqs γ bs))) (map shape_of α) (map shape_of β))

    -- An optional item, the same made plain, and its absence.
    pub alike_split_map : (α β : List A) {x y : A} → shape_of x ≡ opt (shape_of y)
        → Alike H G (seqs (map shape_of (α ++ (x ∷ β)))) (alts (seqs (map shape_of (α ++ (y ∷ β))) ∷ seqs (map shape_of (α ++ β)) ∷ []))
    alike_split_map α β {y = y} p =
        subst₂ (Alike H G) (cut_at α β p) (ap₂ (λ s t. alts (s ∷ t ∷ [])) (cut α (y ∷ β)) (cut α β))
        (alike_split (shape_of y) (map shape_of α) (map shape_of β))
