-- The names of a sheet; a renaming matters at these alone.
use Prim.Native.Nat.{ℕ, zero, suc}
use Rattle.std.specs.Prelude.{◌≡◌, List, [], ◌∷◌, map, true}
use Rattle.std.proofs.Math.Path.{refl, ap, ap₂}
use Rattle.grammar.specs.Lists.{AllOf, each, member}
use Rattle.grammar.specs.Tree.{OptionDecl, Reference, Label, unlabelled, labelled, ElementHead, Leaf, epsilon, action, predicate, call}
use Rattle.grammar.specs.Tree.{token, terminal, end_of_input, Element, leaf, block, AlternativeOf, Block, Sheet, body_depth}
use Rattle.reference.specs.Walks.{label_names}
use Rattle.laws.specs.Demands.Marks.{option_names, head_names, names_of_leaf, element_names, alternative_names, block_names, names_in}
use Rattle.laws.specs.Lists.Every.{left_of, right_of, all_members}
use Rattle.laws.specs.Demands.Marks.{on_option, on_reference, on_label, on_head, on_leaf, on_element, on_alternative, on_rule, on_block}
use Rattle.laws.specs.Demands.Marks.{on_sheet}

-- Two renamings that agree on the names of a thing do the same to it.
module _ (f g r pr : ℕ → ℕ) where
  abbrev Eq : ℕ → Type 0
  Eq n = f n ≡ g n

  abbrev Agree : List ℕ → Type 0
  Agree = AllOf Eq

  options_agree : (os : List OptionDecl) → Agree (option_names os) → map (on_option f r pr) os ≡ map (on_option g r pr) os
  options_agree [] h = refl
  options_agree (o ∷ os) h = ap₂ (λ (n : ℕ) l. record { name = n; value = o.value } ∷ l) h.0 (options_agree os h.1)

  references_agree : (os : List Reference) → Agree (map (λ o. o.name) os) → map (on_reference f r pr) os ≡ map (on_reference g r pr) os
  references_agree [] h = refl
  references_agree (o ∷ os) h = ap₂ (λ (n : ℕ) l. record { kind = o.kind; name = n } ∷ l) h.0 (references_agree os h.1)

  label_agrees : (l : Label) → Agree (label_names l) → on_label f r pr l ≡ on_label g r pr l
  label_agrees unlabelled h = refl
  label_agrees (labelled i n) h = ap (labelled i) h.0

  head_agrees : (x : ElementHead) → Agree (head_names x) → on_head f r pr x ≡ on_head g r pr x
  head_agrees x h =
      ap₂ (λ l os. record { id = x.id; carried = r x.carried; quantifier = x.quantifier; label = l; options = os })
      (label_agrees x.label (left_of Eq (label_names x.label) (option_names x.options) h))
      (options_agree x.options (right_of Eq (label_names x.label) (option_names x.options) h))

  leaf_agrees : (l : Leaf) → Agree (names_of_leaf l) → on_leaf f r pr l ≡ on_leaf g r pr l
  unfolding names_of_leaf on_leaf
  leaf_agrees epsilon h = refl
  leaf_agrees (action a) h = ap (λ os. action (record { id = a.id; references = os })) (references_agree a.references h)
  leaf_agrees (predicate p) h = ap (λ os. predicate (record { id = p.id; references = os })) (references_agree p.references h)
  leaf_agrees (call c) h = ap (λ n. call (record { name = n; arguments = c.arguments; precedence = pr c.precedence })) h.0
  leaf_agrees (token n) h = ap token h.0
  leaf_agrees terminal h = refl
  leaf_agrees end_of_input h = refl

  each_agrees : {A B : Type 0} (names : A → List ℕ) (h k : A → B) → ((a : A) → Agree (names a) → h a ≡ k a) → (as' : List A)
      → Agree (each names as') → map h as' ≡ map k as'
  each_agrees names h k e [] t = refl
  each_agrees names h k e (a ∷ as') t =
      ap₂ ◌∷◌ (e a (left_of Eq (names a) (each names as') t)) (each_agrees names h k e as' (right_of Eq (names a) (each names as') t))

  module _ {B : Type 0} (of_b : B → List ℕ) (on_b on_b' : B → B) (e : (b : B) → Agree (of_b b) → on_b b ≡ on_b' b) where
    element_agrees : (x : Element B) → Agree (element_names of_b x) → on_element f r pr on_b x ≡ on_element g r pr on_b' x
    unfolding element_names on_element
    element_agrees (leaf h l) t =
        ap₂ leaf (head_agrees h (left_of Eq (head_names h) (names_of_leaf l) t))
        (leaf_agrees l (right_of Eq (head_names h) (names_of_leaf l) t))
    element_agrees (block h b) t =
        ap₂ block (head_agrees h (left_of Eq (head_names h) (of_b b) t)) (e b (right_of Eq (head_names h) (of_b b) t))

    alternative_agrees : (a : AlternativeOf B) → Agree (alternative_names of_b a)
        → on_alternative f r pr on_b a ≡ on_alternative g r pr on_b' a
    alternative_agrees a t =
        ap₂ (λ os es. record { id = a.id; carried = r a.carried; flag = a.flag; options = os; elements = es })
        (options_agree a.options (left_of Eq (option_names a.options) (each (element_names of_b) a.elements) t))
        (each_agrees (element_names of_b) (on_element f r pr on_b) (on_element g r pr on_b') element_agrees a.elements
        (right_of Eq (option_names a.options) (each (element_names of_b) a.elements) t))

  block_agrees : (d : ℕ) (b : Block d) → Agree (block_names d b) → on_block f r pr d b ≡ on_block g r pr d b
  unfolding block_names on_block
  block_agrees zero b t = absurd b
  block_agrees (suc d) as' t =
      each_agrees (alternative_names (block_names d)) (on_alternative f r pr (on_block f r pr d))
      (on_alternative g r pr (on_block g r pr d))
      (alternative_agrees (block_names d) (on_block f r pr d) (on_block g r pr d) (block_agrees d)) as' t

  -- The whole sheet.
  pub sheet_agrees : (s : Sheet) → ((n : ℕ) → member n (names_in s) ≡ true → f n ≡ g n) → on_sheet f r pr s ≡ on_sheet g r pr s
  unfolding names_in on_sheet
  sheet_agrees s h =
      ap (λ rs. record { kind = s.kind; rules = rs; preserved = s.preserved; counters = s.counters })
      (each_agrees (λ q. q.name ∷ block_names body_depth q.body) (on_rule f r pr (on_block f r pr body_depth))
      (on_rule g r pr (on_block g r pr body_depth))
      (λ q t. ap₂ (λ (n : ℕ) (b : Block body_depth). record { id = q.id; name = n; flags = q.flags; body = b }) t.0
      (block_agrees body_depth q.body t.1)) s.rules (all_members Eq (names_in s) h))
