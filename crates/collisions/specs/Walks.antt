-- Walks that look at labels and leaves alone, whatever blocks and alternatives these stand in.
use Rattle.std.specs.Prelude.{ℕ, refl, ◌+◌, ◌-◌, ◌≡◌, List, map, true, length, get_or, take, drop, leb}
use Rattle.grammar.specs.Numbers.{qualified}
use Rattle.grammar.specs.Tree.{Label, ElementHead, Leaf, Element, Block}
use Rattle.grammar.specs.Stands.{Spans}
use Rattle.grammar.specs.Encode.{encode_reference, label_name, leaf_kind, encode_leaf}
use Rattle.grammar.specs.Valid.{ok_reference, ok_label, ok_leaf}
use Rattle.grammar.specs.Lists.{keep}
use Rattle.grammar.specs.Found.{Found, FoundMany}
use Rattle.grammar.specs.Fold.{AlternativeHead, Steps, folded, element_fold, block_fold}
use Rattle.reference.specs.Walks.{references}

-- The names that a leaf refers to; and those by which something is bound to it, an attribute's or a qualified one's.
abbrev pub reference_names : Leaf → List ℕ
reference_names l = map (λ r. r.name) (references l)

abbrev pub binding_names : Leaf → List ℕ
binding_names l = map (λ r. r.name) (keep (λ r. leb r.kind qualified) (references l))

unfoldable pub noting : {S : Type 0} → (S → Label → S) → (S → Leaf → S) → Steps S
noting of_label of_leaf =
    record {
      past_leaf = λ s h l. of_leaf (of_label s h.label) l;
      into_block = λ s h. of_label s h.label;
      past_block = λ s h t. t;
      into_alternative = λ s a. s;
      past_alternative = λ s a t. t;
    }

-- Behind a block or an alternative it goes on from the state at its end.
module _ {S : Type 0} (of_label : S → Label → S) (of_leaf : S → Leaf → S) (s t : S) where
  pub noting_past_block : (h : ElementHead) → (noting of_label of_leaf).past_block s h t ≡ t
  unfolding noting
  noting_past_block h = refl

  pub noting_past_alternative : (h : AlternativeHead) → (noting of_label of_leaf).past_alternative s h t ≡ t
  unfolding noting
  noting_past_alternative h = refl

-- Past the label of the element that stands at a place.
pub record LabelSeen (ws : List ℕ) (at : ℕ) {S : Type 0} (of_label : S → Label → S) (s r : S) : Type 0 where
  pub is : (b : Label) → get_or ws (at + 4) 0 ≡ label_name b → ok_label b ≡ true → r ≡ of_label s b

-- Past a leaf of a kind whose payload stands at p.
pub record LeafSeen (ws : List ℕ) (end kind p : ℕ) {S : Type 0} (of_leaf : S → Leaf → S) (s r : S) : Type 0 where
  pub is : (l : Leaf) (q : ℕ) → kind ≡ leaf_kind l → Spans ws end encode_leaf ok_leaf p l q → r ≡ of_leaf s l

abbrev pub FoundReference : List ℕ → ℕ → ℕ → Type 0
FoundReference ws end = Found ws end encode_reference ok_reference

abbrev pub FoundReferences : List ℕ → ℕ → ℕ → ℕ → Type 0
FoundReferences ws end = FoundMany ws end encode_reference ok_reference

-- How many references a leaf of a kind has whose payload stands at p; where there are some, they stand behind two words.
pub record Refers (ws : List ℕ) (end kind p n : ℕ) : Type 0 where
  pub count : (l : Leaf) (q : ℕ) → kind ≡ leaf_kind l → Spans ws end encode_leaf ok_leaf p l q → n ≡ length (references l)
  pub found : (n ≡ 0 → ⊥) → FoundReferences ws end n (p + 2)

-- The items from one index up to another.
unfoldable pub between : {A : Type 0} → List A → ℕ → ℕ → List A
between as' from to = take (to - from) (drop from as')

-- Past the elements from one index up to another.
pub record ItemsWalked {S : Type 0} (walk : Steps S) (d : ℕ) (es : List (Element (Block d))) (from to : ℕ) (s r : S) : Type 0 where
  pub is : r ≡ folded (element_fold walk (block_fold walk d)) s (between es from to)
