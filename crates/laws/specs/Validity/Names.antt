-- What is valid with names up to a number is what is valid and has no name above it.
use Prim.Native.Nat.{ℕ, zero, suc, ◌≤◌}
use Rattle.std.specs.Prelude.{◌≡◌, Bool, true, false, length}
use Rattle.std.proofs.Math.Path.{refl, sym, ap, ap₂}
use Rattle.std.proofs.Common.{◌∙◌, arith}
use mathlib.Core.List.{List, [], ◌∷◌, ◌++◌, map}
use Rattle.std.proofs.Math.Bool.{◌&&◌, and-true, and-false, and_assoc}
use Rattle.std.proofs.Math.Dec.{leb}
use borrow.Author.Tests.{leb-true, le-leb}
use Rattle.grammar.specs.Numbers.{rule_limit, most_name, one_or_more_nongreedy, non_local, most_rule_flags, most_alternative_flag}
use Rattle.grammar.specs.Lists.{each, all, rising}
use Rattle.grammar.specs.Form.{newest}
use Rattle.grammar.specs.Tree.{OptionDecl, Reference, Label, unlabelled, labelled, ElementHead, Leaf, epsilon, action, predicate, call}
use Rattle.grammar.specs.Tree.{token, terminal, end_of_input, Element, leaf, block, AlternativeOf, Block, RuleOf, Rule, body_depth, Sheet}
use Rattle.grammar.specs.Read.{is_name}
use Rattle.grammar.specs.Valid.{is_kind, has_place, ok_option, ok_reference, ok_label, ok_head, ok_leaf, ok_element, ok_alternative}
use Rattle.grammar.specs.Valid.{ok_rule, ok_block, ok_alternative_in, ok_block_in, ok_element_in, ok_leaf_in, ok_rules_in, valid_in}
use Rattle.grammar.specs.Valid.{ok_rules, valid}
use Rattle.grammar.specs.Ids.{is_distinct, is_below}
use Rattle.grammar.specs.Laws.Parse.{either}
use Rattle.reference.specs.Walks.{label_names}
use Rattle.laws.specs.Demands.Names.{ok_option_by, ok_reference_by, ok_label_by, ok_head_by, ok_leaf_by, ok_element_by, ok_alternative_by}
use Rattle.laws.specs.Demands.Names.{ok_rule_by}
use Rattle.laws.specs.Demands.Names.{ok_block_by, ok_rules_by, valid_by, up_to, NamesFitted}
use Rattle.laws.specs.Demands.Marks.{option_names, head_names, names_of_leaf, element_names, alternative_names, block_names, names_in}

-- Tests in another order.
both : (a p b q : Bool) → ((a && p) && (b && q)) ≡ ((a && b) && (p && q))
both true true b q = refl
both true false b q = sym (and-false b)
both false p b q = refl

behind : (k r s d b n : Bool) → (k && (((r && n) && s) && (d && b))) ≡ ((k && ((r && s) && (d && b))) && n)
behind k r s d b true = rw (and-true r) (sym (and-true (k && ((r && s) && (d && b)))))
behind k r s d b false = rw (and-false r) (and-false k ∙ sym (and-false (k && ((r && s) && (d && b)))))

module _ (m : ℕ) (low : m ≤ most_name) where
  abbrev fine : List ℕ → Bool
  fine = all (λ n. leb n m)

  fine_append : (xs ys : List ℕ) → fine (xs ++ ys) ≡ (fine xs && fine ys)
  unfolding all
  fine_append [] ys = refl
  fine_append (x ∷ xs) ys = ap (λ b. leb x m && b) (fine_append xs ys) ∙ sym (and_assoc (leb x m) (fine xs) (fine ys))

  name_told : (n : ℕ) → up_to m n ≡ (is_name n && fine (n ∷ []))
  unfolding all
  name_told n =
      either (leb n m)
      (λ t.
      let l = leb-true n m t in
      rw (t, le-leb n most_name (omega arith)) (sym (and-true (leb 1 n && true))))
      (λ f. rw f (and-false (leb 1 n) ∙ sym (and-false (leb 1 n && leb n most_name))))

  each_told : {A : Type 0} (f g : A → Bool) (names : A → List ℕ) → ((a : A) → f a ≡ (g a && fine (names a))) → (as' : List A)
      → all f as' ≡ (all g as' && fine (each names as'))
  unfolding all
  each_told f g names h [] = refl
  each_told f g names h (a ∷ as') =
      ap₂ ◌&&◌ (h a) (each_told f g names h as')
      ∙ both (g a) (fine (names a)) (all g as') (fine (each names as'))
      ∙ ap (λ b. (g a && all g as') && b) (sym (fine_append (names a) (each names as')))

  -- The same where each thing has one name.
  names_told : {A : Type 0} (f g : A → Bool) (name : A → ℕ) → ((a : A) → f a ≡ (g a && fine (name a ∷ []))) → (as' : List A)
      → all f as' ≡ (all g as' && fine (map name as'))
  unfolding all
  names_told f g name h [] = refl
  names_told f g name h (a ∷ as') =
      ap₂ ◌&&◌ (h a) (names_told f g name h as')
      ∙ both (g a) (fine (name a ∷ [])) (all g as') (fine (map name as'))
      ∙ ap (λ b. (g a && all g as') && b) (sym (fine_append (name a ∷ []) (map name as')))

  options_told : (os : List OptionDecl) → all (ok_option_by (up_to m)) os ≡ (all ok_option os && fine (option_names os))
  options_told = names_told (ok_option_by (up_to m)) ok_option (λ o. o.name) (λ o. name_told o.name)

  references_told : (rs : List Reference) → all (ok_reference_by (up_to m)) rs ≡ (all ok_reference rs && fine (map (λ r. r.name) rs))
  references_told =
      names_told (ok_reference_by (up_to m)) ok_reference (λ r. r.name)
      (λ r.
      ap (λ b. leb r.kind non_local && b) (name_told r.name)
      ∙ sym (and_assoc (leb r.kind non_local) (is_name r.name) (fine (r.name ∷ []))))

  label_told : (b : Label) → ok_label_by (up_to m) b ≡ (ok_label b && fine (label_names b))
  unfolding ok_label all
  label_told unlabelled = refl
  label_told (labelled i n) = name_told n

  head_told : (h : ElementHead) → ok_head_by (up_to m) h ≡ (ok_head h && fine (head_names h))
  unfolding ok_head
  head_told h =
      ap (λ b. leb h.quantifier one_or_more_nongreedy && b)
      (ap₂ ◌&&◌ (label_told h.label) (options_told h.options)
      ∙ both (ok_label h.label) (fine (label_names h.label)) (all ok_option h.options) (fine (option_names h.options))
      ∙ ap (λ b. (ok_label h.label && all ok_option h.options) && b)
      (sym (fine_append (label_names h.label) (option_names h.options))))
      ∙ sym (and_assoc (leb h.quantifier one_or_more_nongreedy) (ok_label h.label && all ok_option h.options) (fine (head_names h)))

  leaf_told : (l : Leaf) → ok_leaf_by (up_to m) l ≡ (ok_leaf l && fine (names_of_leaf l))
  unfolding ok_leaf_in names_of_leaf all
  leaf_told epsilon = refl
  leaf_told (action a) = references_told a.references
  leaf_told (predicate p) = references_told p.references
  leaf_told (call c) =
      ap (λ b. has_place newest c && b) (name_told c.name)
      ∙ sym (and_assoc (has_place newest c) (is_name c.name) (fine (c.name ∷ [])))
  leaf_told (token n) = name_told n
  leaf_told terminal = refl
  leaf_told end_of_input = refl

  module _ {B : Type 0} (f g : B → Bool) (inside : B → List ℕ) (h : (b : B) → f b ≡ (g b && fine (inside b))) where
    element_told : (e : Element B) → ok_element_by (up_to m) f e ≡ (ok_element g e && fine (element_names inside e))
    unfolding ok_element_in element_names
    element_told (leaf i l) =
        ap₂ ◌&&◌ (head_told i) (leaf_told l)
        ∙ both (ok_head i) (fine (head_names i)) (ok_leaf l) (fine (names_of_leaf l))
        ∙ ap (λ b. (ok_head i && ok_leaf l) && b) (sym (fine_append (head_names i) (names_of_leaf l)))
    element_told (block i x) =
        ap₂ ◌&&◌ (head_told i) (h x)
        ∙ both (ok_head i) (fine (head_names i)) (g x) (fine (inside x))
        ∙ ap (λ b. (ok_head i && g x) && b) (sym (fine_append (head_names i) (inside x)))

    alternative_told : (a : AlternativeOf B) → ok_alternative_by (up_to m) f a ≡ (ok_alternative g a && fine (alternative_names inside a))
    unfolding ok_alternative_in
    alternative_told a =
        let os = a.options in
        let es = a.elements in
        let t : all (ok_element_by (up_to m) f) es ≡ (all (ok_element g) es && fine (each (element_names inside) es)) =
        each_told (ok_element_by (up_to m) f) (ok_element g) (element_names inside) element_told es in
        ap (λ b. leb a.flag most_alternative_flag && b)
        (ap₂ ◌&&◌ (options_told os) t
        ∙ both (all ok_option os) (fine (option_names os)) (all (ok_element g) es) (fine (each (element_names inside) es))
        ∙ ap (λ b. (all ok_option os && all (ok_element g) es) && b) (sym (fine_append (option_names os) (each (element_names inside) es))))
        ∙ sym (and_assoc (leb a.flag most_alternative_flag) (all ok_option os && all (ok_element g) es) (fine (alternative_names inside a)))

    rule_told : (r : RuleOf B) → ok_rule_by (up_to m) f r ≡ (ok_rule g r && fine (r.name ∷ inside r.body))
    unfolding ok_rule
    rule_told r =
        let flags = leb r.flags most_rule_flags in
        let own = fine (r.name ∷ []) in
        let inner = fine (inside r.body) in
        ap₂ ◌&&◌ (name_told r.name) (ap (λ b. flags && b) (h r.body) ∙ sym (and_assoc flags (g r.body) inner))
        ∙ both (is_name r.name) own (flags && g r.body) inner
        ∙ ap (λ b. (is_name r.name && (flags && g r.body)) && b) (sym (fine_append (r.name ∷ []) (inside r.body)))

  block_told : (d : ℕ) (b : Block d) → ok_block_by (up_to m) d b ≡ (ok_block d b && fine (block_names d b))
  unfolding ok_block_by ok_block_in block_names
  block_told zero b = absurd b
  block_told (suc d) b =
      each_told (ok_alternative_by (up_to m) (ok_block_by (up_to m) d)) (ok_alternative (ok_block d)) (alternative_names (block_names d))
      (alternative_told (ok_block_by (up_to m) d) (ok_block d) (block_names d) (block_told d)) b

  rules_told : (rs : List Rule)
      → ok_rules_by (up_to m) rs ≡ (ok_rules rs && fine (each (λ (q : Rule). q.name ∷ block_names body_depth q.body) rs))
  unfolding ok_rules_in
  rules_told rs =
      let d = body_depth in
      let names = fine (each (λ (q : Rule). q.name ∷ block_names body_depth q.body) rs) in
      ap (λ b. leb (length rs) rule_limit && b)
      (each_told (ok_rule_by (up_to m) (ok_block_by (up_to m) d)) (ok_rule (ok_block d)) (λ (q : Rule). q.name ∷ block_names d q.body)
      (rule_told (ok_block_by (up_to m) d) (ok_block d) (block_names d) (block_told d)) rs)
      ∙ sym (and_assoc (leb (length rs) rule_limit) (all (ok_rule (ok_block body_depth)) rs) names)

  sheet_told : (s : Sheet) → valid_by (up_to m) s ≡ (valid s && fine (names_in s))
  unfolding valid_in names_in
  sheet_told s =
      ap
      (λ b. is_kind s.kind && ((b && rising s.preserved) && (is_distinct s.rules && is_below s.counters s.rules)))
      (rules_told s.rules)
      ∙ behind (is_kind s.kind) (ok_rules s.rules) (rising s.preserved) (is_distinct s.rules) (is_below s.counters s.rules)
      (fine (names_in s))

pub names_fitted_lem : NamesFitted
names_fitted_lem = record { fitted = sheet_told }
