-- A tree with good names instead of its own is allowed by 4 where the tree is.
use Prim.Native.Nat.{ℕ, zero, suc}
use Rattle.std.specs.Prelude.{◌≡◌, Bool, true, leb}
use Rattle.std.proofs.Math.Path.{refl}
use Rattle.std.proofs.lemmas.Bool.{and_from}
use Rattle.std.specs.Cmp.{first_so, second_so}
use mathlib.Core.List.{List, [], ◌∷◌, map}
use Rattle.grammar.specs.Lists.{AllOf, all, each}
use Rattle.grammar.specs.Form.{newest}
use Rattle.grammar.specs.Read.{is_name}
use Rattle.grammar.specs.Numbers.{non_local, one_or_more_nongreedy, most_alternative_flag, most_rule_flags}
use Rattle.grammar.specs.Valid.{has_place, ok_option, ok_reference, ok_label, ok_head, ok_leaf, ok_element, ok_alternative, ok_rule}
use Rattle.grammar.specs.Valid.{ok_block, ok_alternative_in, ok_block_in, ok_element_in, ok_leaf_in}
use Rattle.grammar.specs.Tree.{OptionDecl, Reference, Label, unlabelled, labelled, ElementHead, Leaf, epsilon, action, predicate, call}
use Rattle.grammar.specs.Tree.{token, terminal, end_of_input, Element, leaf, block, AlternativeOf, Block, Rule, body_depth}
use Rattle.reference.specs.Walks.{label_names}
use Rattle.laws.specs.Lists.Every.{left_of, right_of}
use Rattle.laws.specs.Demands.Marks.{on_option, on_reference, on_label, on_head, on_leaf, on_element, on_alternative, on_rule, on_block}
use Rattle.laws.specs.Demands.Marks.{option_names, head_names, names_of_leaf, element_names, alternative_names, block_names}

module _ (f r pr : ℕ → ℕ) where
  -- The new name is one that 4 allows.
  abbrev pub Good : ℕ → Type 0
  Good n = is_name (f n) ≡ true

  options_good : (os : List OptionDecl) → AllOf Good (option_names os) → all ok_option (map (on_option f r pr) os) ≡ true
  unfolding all
  options_good [] h = refl
  options_good (o ∷ os) h = and_from (is_name (f o.name)) _ h.0 (options_good os h.1)

  references_good : (os : List Reference) → AllOf Good (map (λ o. o.name) os) → all ok_reference os ≡ true
      → all ok_reference (map (on_reference f r pr) os) ≡ true
  unfolding all
  references_good [] h t = refl
  references_good (o ∷ os) h t =
      and_from _ _
      (and_from (leb o.kind non_local) (is_name (f o.name)) (first_so (leb o.kind non_local) _ (first_so (ok_reference o) _ t))
      h.0)
      (references_good os h.1 (second_so (ok_reference o) _ t))

  label_good : (l : Label) → AllOf Good (label_names l) → ok_label (on_label f r pr l) ≡ true
  unfolding ok_label
  label_good unlabelled h = refl
  label_good (labelled i n) h = h.0

  head_good : (x : ElementHead) → AllOf Good (head_names x) → ok_head x ≡ true → ok_head (on_head f r pr x) ≡ true
  unfolding ok_head
  head_good x h t =
      and_from (leb x.quantifier one_or_more_nongreedy) _ (first_so (leb x.quantifier one_or_more_nongreedy) _ t)
      (and_from (ok_label (on_label f r pr x.label)) _
      (label_good x.label (left_of Good (label_names x.label) (option_names x.options) h))
      (options_good x.options (right_of Good (label_names x.label) (option_names x.options) h)))

  leaf_good : (l : Leaf) → AllOf Good (names_of_leaf l) → ok_leaf l ≡ true → ok_leaf (on_leaf f r pr l) ≡ true
  unfolding ok_leaf_in on_leaf names_of_leaf
  leaf_good epsilon h t = refl
  leaf_good (action a) h t = references_good a.references h t
  leaf_good (predicate p) h t = references_good p.references h t
  leaf_good (call c) h t = and_from (has_place newest c) _ (first_so (has_place newest c) _ t) h.0
  leaf_good (token n) h t = h.0
  leaf_good terminal h t = refl
  leaf_good end_of_input h t = refl

  each_good : {A B : Type 0} (names : A → List ℕ) (on : A → B) (ok : A → Bool) (ok' : B → Bool)
      → ((a : A) → AllOf Good (names a) → ok a ≡ true → ok' (on a) ≡ true) → (as' : List A) → AllOf Good (each names as')
      → all ok as' ≡ true → all ok' (map on as') ≡ true
  unfolding all
  each_good names on ok ok' e [] h t = refl
  each_good names on ok ok' e (a ∷ as') h t =
      and_from (ok' (on a)) _ (e a (left_of Good (names a) (each names as') h) (first_so (ok a) _ t))
      (each_good names on ok ok' e as' (right_of Good (names a) (each names as') h) (second_so (ok a) _ t))

  module _ {B : Type 0} (of_b : B → List ℕ) (on_b : B → B) (ok : B → Bool)
      (e : (b : B) → AllOf Good (of_b b) → ok b ≡ true → ok (on_b b) ≡ true) where
    element_good : (x : Element B) → AllOf Good (element_names of_b x) → ok_element ok x ≡ true
        → ok_element ok (on_element f r pr on_b x) ≡ true
    unfolding ok_element_in on_element element_names
    element_good (leaf h l) n t =
        and_from (ok_head (on_head f r pr h)) _ (head_good h (left_of Good (head_names h) (names_of_leaf l) n) (first_so (ok_head h) _ t))
        (leaf_good l (right_of Good (head_names h) (names_of_leaf l) n) (second_so (ok_head h) _ t))
    element_good (block h b) n t =
        and_from (ok_head (on_head f r pr h)) _ (head_good h (left_of Good (head_names h) (of_b b) n) (first_so (ok_head h) _ t))
        (e b (right_of Good (head_names h) (of_b b) n) (second_so (ok_head h) _ t))

    alternative_good : (a : AlternativeOf B) → AllOf Good (alternative_names of_b a) → ok_alternative ok a ≡ true
        → ok_alternative ok (on_alternative f r pr on_b a) ≡ true
    unfolding ok_alternative_in
    alternative_good a n t =
        let u = second_so (leb a.flag most_alternative_flag) _ t in
        and_from (leb a.flag most_alternative_flag) _ (first_so (leb a.flag most_alternative_flag) _ t)
        (and_from (all ok_option (map (on_option f r pr) a.options)) _
        (options_good a.options (left_of Good (option_names a.options) (each (element_names of_b) a.elements) n))
        (each_good (element_names of_b) (on_element f r pr on_b) (ok_element ok) (ok_element ok) element_good a.elements
        (right_of Good (option_names a.options) (each (element_names of_b) a.elements) n) (second_so (all ok_option a.options) _ u)))

  block_good : (d : ℕ) (b : Block d) → AllOf Good (block_names d b) → ok_block d b ≡ true → ok_block d (on_block f r pr d b) ≡ true
  unfolding ok_block_in on_block block_names
  block_good zero b n t = absurd b
  block_good (suc d) as' n t =
      let ok = ok_alternative (ok_block d) in
      each_good (alternative_names (block_names d)) (on_alternative f r pr (on_block f r pr d)) ok ok
      (alternative_good (block_names d) (on_block f r pr d) (ok_block d) (block_good d)) as' n t

  rule_good : (q : Rule) → AllOf Good (q.name ∷ block_names body_depth q.body) → ok_rule (ok_block body_depth) q ≡ true
      → ok_rule (ok_block body_depth) (on_rule f r pr (on_block f r pr body_depth) q) ≡ true
  unfolding ok_rule
  rule_good q n t =
      let u = second_so (is_name q.name) _ t in
      and_from (is_name (f q.name)) _ n.0
      (and_from (leb q.flags most_rule_flags) _ (first_so (leb q.flags most_rule_flags) _ u)
      (block_good body_depth q.body n.1 (second_so (leb q.flags most_rule_flags) _ u)))

  -- All the rules.
  pub rules_good : (rs : List Rule) → AllOf Good (each (λ (q : Rule). q.name ∷ block_names body_depth q.body) rs)
      → all (ok_rule (ok_block body_depth)) rs ≡ true
      → all (ok_rule (ok_block body_depth)) (map (on_rule f r pr (on_block f r pr body_depth)) rs) ≡ true
  rules_good =
      let ok = ok_rule (ok_block body_depth) in
      each_good (λ (q : Rule). q.name ∷ block_names body_depth q.body) (on_rule f r pr (on_block f r pr body_depth)) ok ok rule_good
