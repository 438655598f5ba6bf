-- Pairings that are made of turns: each is a split or a splice, in a slot of a list of alternatives. What each does to a tree is
-- said by the equations in Slots.
use Rattle.std.specs.Prelude.{ℕ, zero, suc, ◌≡◌, List, [], ◌∷◌, ◌++◌, map}
use Rattle.std.proofs.Math.Option.{some}
use Rattle.language.specs.Shape.{Shape, call_of, alt, opt, seqs, alts, Shapes, find}
use Rattle.language.specs.Laws.Trees.Carry.{Pairs, pairs_refl, pairs_trans}
use Rattle.language.specs.Laws.Trees.Steps.{splice_pairs, split_pairs, slot_pairs, pairs_behind}

module _ (H : ℕ) (G : Shapes) where
  -- What takes the place of one alternative.
  pub data Local : (a : Shape) (qs : List Shape) → Pairs H G a (alts qs) → Type 0 where
    split : (x : Shape) (α β : List Shape)
        → Local (seqs (α ++ (opt x ∷ β))) (seqs (α ++ (x ∷ β)) ∷ seqs (α ++ β) ∷ []) (split_pairs x α β)
    splice : (S : ℕ) (Γ : List (List Shape)) (ne : S ≡ H → ⊥) (e : find G S ≡ some (alts (map seqs Γ))) (α β : List Shape)
        → Local (seqs (α ++ (call_of S ∷ β))) (map (λ γ. seqs (α ++ (γ ++ β))) Γ) (splice_pairs S Γ ne e α β)

  -- The same in a slot of a list of alternatives.
  pub data Turn : (s t : Shape) → Pairs H G s t → Type 0 where
    slot : {a : Shape} {qs : List Shape} {p : Pairs H G a (alts qs)} → Local a qs p → (front rest : List Shape)
        → Turn (alts (front ++ (a ∷ rest))) (alts (front ++ (qs ++ rest))) (slot_pairs qs p front rest)

  -- Any number of them, counted.
  pub data Turns : ℕ → (s t : Shape) → Pairs H G s t → Type 0 where
    still : {s : Shape} → Turns zero s s (pairs_refl s)
    onward : {n : ℕ} {s t u : Shape} {p : Pairs H G s t} {q : Pairs H G t u} → Turn s t p → Turns n t u q
        → Turns (suc n) s u (pairs_trans p q)

  -- A pairing, and that it is made so.
  abbrev pub LocalPairs : Shape → List Shape → Type 0
  LocalPairs a qs = (p : Pairs H G a (alts qs)) × Local a qs p

  abbrev pub TurnPairs : Shape → Shape → Type 0
  TurnPairs s t = (p : Pairs H G s t) × Turn s t p

  abbrev pub TurnsPairs : ℕ → Shape → Shape → Type 0
  TurnsPairs n s t = (p : Pairs H G s t) × Turns n s t p

module _ {H : ℕ} {G : Shapes} where
  turn_behind : (a : Shape) {s t : Shape} {p : Pairs H G s t} → Turn H G s t p → Turn H G (alt a s) (alt a t) (pairs_behind a p)
  unfolding slot_pairs pairs_behind
  turn_behind a (slot l front rest) = slot l (a ∷ front) rest

  -- A turn behind one alternative more.
  pub behind_turn : (a : Shape) {s t : Shape} → TurnPairs H G s t → TurnPairs H G (alt a s) (alt a t)
  behind_turn a x = (pairs_behind a x.0, turn_behind a x.1)
