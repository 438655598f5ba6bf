-- Left corners of elements that are cut in two.
use Rattle.std.specs.Prelude.{ℕ, ◌↔◌, ◌⊎◌, List, [], ◌∷◌, ◌++◌}
use Rattle.std.proofs.Common.{inl, inr, ⊎_elim}
use Rattle.std.proofs.Math.Logic.{⊎_map}
use Rattle.grammar.specs.Lists.{AllOf}
use Rattle.language.specs.Shape.{Shape, eps, seqs, Shapes}
use Rattle.grammar.specs.Corners.{Corners}
use Rattle.language.specs.LeftCorners.{Skippable, Corner, c_first, c_later}

module _ {c : Corners} {G : Shapes} {n : ℕ} where
  no_corner : {R : Type 0} → Corner c G eps n → R
  no_corner k = elim k [ ]

  apart : (α β : List Shape) → Corner c G (seqs (α ++ β)) n → Corner c G (seqs α) n ⊎ (AllOf (Skippable c G) α × Corner c G (seqs β) n)
  apart [] β k = inr (tt, k)
  apart (a ∷ α) β (c_first k) = inl (c_first k)
  apart (a ∷ α) β (c_later o k) = ⊎_map (c_later o) (λ r. ((o, r.0), r.1)) (apart α β k)

  in_front : (α β : List Shape) → Corner c G (seqs α) n → Corner c G (seqs (α ++ β)) n
  in_front [] β k = no_corner k
  in_front (a ∷ α) β (c_first k) = c_first k
  in_front (a ∷ α) β (c_later o k) = c_later o (in_front α β k)

  behind : (α β : List Shape) → AllOf (Skippable c G) α → Corner c G (seqs β) n → Corner c G (seqs (α ++ β)) n
  behind [] β s k = k
  behind (a ∷ α) β s k = c_later s.0 (behind α β s.1 k)

  -- Elements cut in two: a left corner of those in front or, if all of them are skippable, of those behind.
  pub corner_append : (α β : List Shape) → Corner c G (seqs (α ++ β)) n
      ↔ (Corner c G (seqs α) n ⊎ (AllOf (Skippable c G) α × Corner c G (seqs β) n))
  corner_append α β = (apart α β, ⊎_elim (in_front α β) (λ r. behind α β r.0 r.1))
