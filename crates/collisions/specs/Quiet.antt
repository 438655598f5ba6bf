-- Whether anything in several elements has a label or a reference, nested ones too.
use Rattle.std.specs.Prelude.{ℕ, ◌≡◌, List, [], Bool, false, ◌||◌, not}
use Rattle.grammar.specs.Tree.{Label, Leaf, Element, Block}
use Rattle.grammar.specs.Lists.{is_empty}
use Rattle.grammar.specs.Fold.{Steps}
use Rattle.reference.specs.Walks.{elements_give, label_names}
use Rattle.reference.specs.Substitute.{without, remaining_actions_reference, collect_labels, action_reference_names}
use Rattle.collisions.specs.Walks.{reference_names, noting}

-- Neither a label nor a reference.
unfoldable pub is_quiet : (d : ℕ) → List (Element (Block d)) → Bool
is_quiet d es = is_empty (elements_give label_names reference_names d es)

-- What the walk knows: whether there was one so far.
unfoldable pub noisy_label : Bool → Label → Bool
noisy_label noisy b = noisy || not (is_empty (label_names b))

unfoldable pub noisy_leaf : Bool → Leaf → Bool
noisy_leaf noisy l = noisy || not (is_empty (reference_names l))

abbrev pub listening : Steps Bool
listening = noting noisy_label noisy_leaf

-- The elements but one refer to nothing and have no label.
pub record Silent (d : ℕ) (es : List (Element (Block d))) (i : ℕ) : Type 0 where
  pub no_dangling : (n : ℕ) → remaining_actions_reference d es i n ≡ false
  pub no_labels : collect_labels d (without i es) ≡ []
  pub no_references : action_reference_names d (without i es) ≡ []
