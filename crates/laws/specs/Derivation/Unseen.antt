-- Derivation does not look at precedences.
use Rattle.std.specs.Prelude.{ℕ, zero, suc, ◌≡◌, refl}
use Rattle.std.proofs.Common.{sym, ap, ap₂, ◌∙◌, subst}
use mathlib.Core.List.{List}
use Rattle.grammar.specs.Tree.{Leaf, epsilon, action, predicate, call, token, terminal, end_of_input, Element, leaf, block, Block}
use Rattle.grammar.specs.Tree.{Rule, Sheet, body_depth}
use Rattle.language.specs.Shape.{Shape, Word, seqs, alts, find, bodies_by, erase_leaf, erase_element, erase_elements, erase_block}
use Rattle.language.specs.Shape.{erase_rules}
use Rattle.language.specs.Derive.{Der, RuleDerives}
use Rattle.language.specs.Laws.Copies.{map_unseen}
use Rattle.laws.specs.Demands.Marks.{on_leaf, on_element, on_alternative, on_rule, on_block, on_sheet}
use Rattle.laws.specs.Demands.Sameness.{same}
use Rattle.laws.specs.Demands.Conversion.{PrecedencesUnseen}

module _ (f : ℕ → ℕ) where
  same_leaf : (c : ℕ) (l : Leaf) → erase_leaf c (on_leaf same same f l) ≡ erase_leaf c l
  unfolding erase_leaf on_leaf
  same_leaf c epsilon = refl
  same_leaf c (action a) = refl
  same_leaf c (predicate p) = refl
  same_leaf c (call k) = refl
  same_leaf c (token n) = refl
  same_leaf c terminal = refl
  same_leaf c end_of_input = refl

  same_element : {B : Type 0} (on_b : B → B) (erase_b : B → Shape) → ((b : B) → erase_b (on_b b) ≡ erase_b b) → (e : Element B)
      → erase_element erase_b (on_element same same f on_b e) ≡ erase_element erase_b e
  unfolding erase_element on_element
  same_element on_b erase_b h (leaf x l) = rw (same_leaf x.carried l)
  same_element on_b erase_b h (block x b) = rw (h b)

  same_block : (d : ℕ) (b : Block d) → erase_block d (on_block same same f d b) ≡ erase_block d b
  unfolding erase_block on_block
  same_block zero b = absurd b
  same_block (suc d) as' =
      ap alts (map_unseen (on_alternative same same f (on_block same same f d)) (λ a. erase_elements (erase_block d) a.elements)
      (λ a. ap seqs (map_unseen (on_element same same f (on_block same same f d)) (erase_element (erase_block d))
      (same_element (on_block same same f d) (erase_block d) (same_block d)) a.elements)) as')

  -- By names or by ids.
  same_bodies : (key : Rule → ℕ) → ((r : Rule) → key (on_rule same same f (on_block same same f body_depth) r) ≡ key r) → (s : Sheet)
      → bodies_by body_depth key (on_sheet same same f s).rules ≡ bodies_by body_depth key s.rules
  unfolding on_sheet
  same_bodies key is_same s =
      map_unseen (on_rule same same f (on_block same same f body_depth))
      (λ r. record { name = key r; body = erase_block body_depth r.body })
      (λ r. ap₂ (λ n b. record { name = n; body = b }) (is_same r) (same_block body_depth r.body)) s.rules

  -- Rules with the same bodies derive the same.
  derives_as : {rs ks : List Rule} {i j : ℕ} {w : Word} → bodies_by body_depth (λ r. r.id) rs ≡ bodies_by body_depth (λ r. r.id) ks
      → erase_rules body_depth rs ≡ erase_rules body_depth ks → i ≡ j → RuleDerives body_depth rs i w → RuleDerives body_depth ks j w
  derives_as {w = w} e n k x =
      record {
        body = x.body;
        found = sym (ap₂ find e k) ∙ x.found;
        tree = subst (λ G. Der G x.body w) n x.tree;
      }

  pub precedences_unseen_lem : (s : Sheet) → PrecedencesUnseen f s
  precedences_unseen_lem s =
      let by_name = same_bodies (λ r. r.name) (λ r. refl) s in
      let by_id = same_bodies (λ r. r.id) (λ r. refl) s in
      record {
        same_shapes = by_name;
        same_strings = record {
          derives = λ r q m n e w. (derives_as (sym by_id) (sym by_name) (sym e), derives_as by_id by_name e);
        };
      }
