-- What a plan does to trees: node for node the same, but that below a call of the rule joined its turns are made.
use Rattle.std.specs.Prelude.{ℕ, ◌≡◌}
use Rattle.std.proofs.Math.Path.{refl}
use Rattle.std.proofs.Math.Option.{some}
use Rattle.language.specs.Shape.{Shape, Shapes, find, EachCall}
use Rattle.language.specs.Readings.{Tree, t_call}
use Rattle.language.specs.Laws.Cover.{ButFor, but_for_refl}
use Rattle.language.specs.Laws.Removal.{AlikeOn}
use Rattle.language.specs.Laws.Trees.Carry.{Covers, carry, Pairs}
use Rattle.language.specs.Laws.Trees.Replace.{Paired, paired_trans, swap, replaced_pairs, swap_hub, swap_other}
use Rattle.language.specs.Laws.Trees.Steps.{body_replaced}
use Rattle.language.specs.Laws.Trees.Removal.{stay, removal_pairs}
use Rattle.language.specs.Laws.Trees.Turns.{Turns}

-- L is G with another body for H, made by so many turns, and without the rules whose names do not stay.
pub record JoinedTrees (H turns_made : ℕ) (G L : Shapes) (Stays : ℕ → Type 0) : Type 0 where
  pub replaced : Shapes
  pub only_hub : ButFor H G replaced
  pub old : Shape
  pub old_body : find G H ≡ some old
  pub new : Shape
  pub new_body : find replaced H ≡ some new
  pub bodies : Pairs H G old new
  pub turns : Turns H G turns_made old new bodies
  pub left : AlikeOn Stays replaced L

module _ {H n : ℕ} {G L : Shapes} {Stays : ℕ → Type 0} (j : JoinedTrees H n G L Stays) where
  -- How a call's node is carried over to the grammar with the other body: below a call of H the turns are made.
  abbrev pub at_calls : Covers G j.replaced
  at_calls = swap (but_for_refl H G) j.only_hub j.old_body j.new_body j.bodies

  -- The pairing: `carry`, then `stay`.
  unfoldable pub joined : (s : Shape) → EachCall Stays s → Paired G s L s
  joined s p = paired_trans (body_replaced j.only_hub j.old_body j.new_body j.bodies s) (removal_pairs j.left s p)

  -- In these words.
  pub joined_to : (s : Shape) (p : EachCall Stays s) (x : Tree G s) → (joined s p).to x ≡ stay j.left (carry at_calls x) p
  unfolding joined paired_trans body_replaced replaced_pairs removal_pairs
  joined_to s p x = refl

  -- A call of H: the tree below is carried over, then the turns are made.
  pub carried_hub : (x : Tree G j.old)
      → carry at_calls (t_call j.old_body x) ≡ t_call j.new_body (j.bodies.to j.replaced j.only_hub (carry at_calls x))
  unfolding carry
  carried_hub x = swap_hub (but_for_refl H G) j.only_hub j.old_body j.new_body j.bodies (carry at_calls x)

  -- A call of another rule: its node stays.
  pub carried_other : (m : ℕ) {b : Shape} → (m ≡ H → ⊥) → (e : find G m ≡ some b) (f : find j.replaced m ≡ some b) (x : Tree G b)
      → carry at_calls (t_call e x) ≡ t_call f (carry at_calls x)
  unfolding carry
  carried_other m ne e f x = swap_other (but_for_refl H G) j.only_hub j.old_body j.new_body j.bodies m ne e f (carry at_calls x)
