-- What is marked while the elements around a call are walked: the names of their labels, and the names by which something is
-- bound to them; and whether one of them refers to the name that is sought.
use Rattle.std.specs.Prelude.{ℕ, ◌≡◌, List, Bool, ◌&&◌, ◌||◌, length, eqb, leb}
use Rattle.grammar.specs.Numbers.{qualified}
use Rattle.grammar.specs.Tree.{Reference, Label, Leaf, Element, Block}
use Rattle.grammar.specs.Stands.{Spans}
use Rattle.grammar.specs.Encode.{encode_reference}
use Rattle.grammar.specs.Valid.{ok_reference}
use Rattle.grammar.specs.Lists.{each, all, member}
use Rattle.grammar.specs.Fold.{Steps, folded, WalkedOne}
use Rattle.reference.specs.Walks.{label_names}
use Rattle.reference.specs.Substitute.{without, remaining_actions_reference, collect_labels, action_reference_names}
use Rattle.planned.specs.List.{SameList}
use Rattle.collisions.specs.Names.{labels_bit, references_bit, has_name, Ordered, Kept, Marked}
use Rattle.collisions.specs.Walks.{reference_names, binding_names, noting, LabelSeen}

pub record Marks : Type 0 where
  pub labels : ℕ → Bool
  pub references : ℕ → Bool
  pub dangling : Bool

-- The sets of the work area.
unfoldable pub marks_of : List ℕ → List ℕ → Bool → Marks
marks_of ws bs dangling =
    record { labels = has_name ws bs labels_bit; references = has_name ws bs references_bit; dangling = dangling }

unfoldable pub mark_label : Marks → Label → Marks
mark_label m b =
    record { labels = λ n. m.labels n || member n (label_names b); references = m.references; dangling = m.dangling }

module _ (name : ℕ) where
  unfoldable pub mark_reference : Marks → Reference → Marks
  mark_reference m r =
      record {
        labels = m.labels;
        references = λ n. m.references n || (leb r.kind qualified && eqb n r.name);
        dangling = m.dangling || eqb name r.name;
      }

  unfoldable pub mark_leaf : Marks → Leaf → Marks
  mark_leaf m l =
      record {
        labels = m.labels;
        references = λ n. m.references n || member n (binding_names l);
        dangling = m.dangling || member name (reference_names l);
      }

  abbrev pub marking : Steps Marks
  marking = noting mark_label mark_leaf

-- The label of the element at a place is marked; the list is as it was.
pub record LabelMarked (ws : List ℕ) (end at : ℕ) (before after : List ℕ) : Type 0 where
  pub kept : Kept ws end before after
  pub seen : (dangling : Bool) → LabelSeen ws at mark_label (marks_of ws before dangling) (marks_of ws after dangling)

-- Past the reference at a place, and past n from there on.
abbrev pub ReferenceMarked : ℕ → List ℕ → ℕ → ℕ → Marks → ℕ → Marks → Type 0
ReferenceMarked name ws end = WalkedOne ws end encode_reference ok_reference (mark_reference name)

pub record ReferencesMarked (name : ℕ) (ws : List ℕ) (end n at : ℕ) (s r : Marks) : Type 0 where
  pub is : (rs : List Reference) (q : ℕ) → Spans ws end (each encode_reference) (all ok_reference) at rs q → length rs ≡ n
      → r ≡ folded (mark_reference name) s rs

-- All elements but one are marked.
pub record MarkedAround (ws : List ℕ) (end d : ℕ) (es : List (Element (Block d))) (index name : ℕ) (before after : List ℕ)
    (r : Bool) : Type 0 where
  pub list : SameList before after
  pub ordered : Ordered ws end after
  pub refers : r ≡ remaining_actions_reference d es index name
  pub marked : Marked ws after (collect_labels d (without index es)) (action_reference_names d (without index es))
