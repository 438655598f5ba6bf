-- What a reading is, and what turns and plans do to trees.
use Rattle.std.specs.Prelude.{ℕ, refl}
use Rattle.language.specs.Shape.{Shapes}
use Rattle.language.specs.Laws.Cover.{ButFor}
use Rattle.language.specs.Laws.Trees.Derivations.{derivations}
use Rattle.language.specs.Laws.Trees.Told.{told_apart_lem}
use Rattle.language.specs.Laws.Trees.Slots.{some_around_lem, some_slot_lem, some_place_lem, some_call_lem, split_there_lem, split_gone_lem}
use Rattle.language.specs.Laws.Trees.Slots.{splice_slot}
use Rattle.language.specs.Laws.Trees.Slots.{slot_front_lem, slot_here_lem, slot_rest_lem}
use Rattle.language.specs.Laws.Trees.Joined.{JoinedTrees, joined_to, carried_hub, carried_other}
use Rattle.laws.specs.Demands.Readings.{TreesTold, TurnsTold, JoinedTold}

-- A derivation is a tree with its string, and choices tell trees apart.
pub trees_told_lem : (G : Shapes) → TreesTold G
unfolding derivations
trees_told_lem G = record { derivations = derivations; same_nodes = λ s w d. refl; told_apart = λ s. told_apart_lem }

-- What a turn does to each tree.
pub turns_told_lem : (H : ℕ) (G X : Shapes) (o : ButFor H G X) → TurnsTold H G X o
turns_told_lem H G X o =
    record {
      some_around = some_around_lem;
      some_slot = some_slot_lem;
      some_place = some_place_lem;
      some_call = some_call_lem;
      split_there = split_there_lem X o;
      split_gone = split_gone_lem X o;
      splice = λ S Γ ne e α β u v k γ p y. splice_slot X o S Γ ne e α β u v p y;
      slot_front = λ a qs e front rest k f p x. slot_front_lem X o qs e rest p x;
      slot_here = λ a qs e front rest x k q p y w. slot_here_lem X o qs e rest front x p y w;
      slot_rest = λ a qs e front rest k r p x. slot_rest_lem X o qs e rest front p x;
    }

-- What a plan does to each tree.
pub joined_told_lem : {H n : ℕ} {G L : Shapes} {P : ℕ → Type 0} (j : JoinedTrees H n G L P) → JoinedTold j
joined_told_lem j = record { pairing = joined_to j; hub = carried_hub j; other = λ m b ne e f x. carried_other j m ne e f x }
