-- Whether an alternative has a label of a name that is in one set, or binds a name that is in the other.
use Rattle.std.specs.Prelude.{ℕ, ◌≡◌, List, Bool, ◌||◌}
use Rattle.grammar.specs.Tree.{Label, Leaf, AlternativeOf, Block}
use Rattle.grammar.specs.Lists.{any, meet}
use Rattle.grammar.specs.Fold.{Steps}
use Rattle.grammar.specs.Found.{AlternativeSpans}
use Rattle.reference.specs.Walks.{label_names, leaf_names}
use Rattle.reference.specs.Substitute.{collect_labels, bindable_names}
use Rattle.collisions.specs.Names.{labels_bit, references_bit, has_name, Marked}
use Rattle.collisions.specs.Walks.{noting}
use Rattle.collisions.specs.declared.clash.Clash.{Clash}

-- What the walk knows: whether there was such a label, or such a bound name, so far. Names bound are those of labels, calls
-- and tokens.
unfoldable pub clash_label : (ℕ → Bool) → (ℕ → Bool) → Clash → Label → Clash
clash_label labels references c b =
    record { label = c.label || any labels (label_names b); binding = c.binding || any references (label_names b) }

unfoldable pub clash_leaf : (ℕ → Bool) → Clash → Leaf → Clash
clash_leaf references c l = record { label = c.label; binding = c.binding || any references (leaf_names l) }

-- Against the sets in the work area.
abbrev pub comparing : List ℕ → List ℕ → Steps Clash
comparing ws bs =
    noting (clash_label (has_name ws bs labels_bit) (has_name ws bs references_bit)) (clash_leaf (has_name ws bs references_bit))

-- One bound name more.
pub record NameBound (ws bs : List ℕ) (name : ℕ) (c r : Clash) : Type 0 where
  pub label : r.label ≡ c.label
  pub binding : r.binding ≡ (c.binding || has_name ws bs references_bit name)

-- What is found of the alternative that stands at a place, where the sets hold the members of two lists.
pub record ClashesAt (ws : List ℕ) (end d at : ℕ) (bs : List ℕ) (r : Clash) : Type 0 where
  pub label_is : (labels references : List ℕ) → Marked ws bs labels references → (a : AlternativeOf (Block d)) (q : ℕ)
      → AlternativeSpans ws end d at a q → r.label ≡ meet labels (collect_labels d a.elements)
  pub binding_is : (labels references : List ℕ) → Marked ws bs labels references → (a : AlternativeOf (Block d)) (q : ℕ)
      → AlternativeSpans ws end d at a q → r.binding ≡ meet references (bindable_names d a.elements)
