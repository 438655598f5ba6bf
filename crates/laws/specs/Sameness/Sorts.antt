-- What Marks says of trees is what WordSorts says of their words; and one sheet by computation.
use Prim.Native.Nat.{ℕ, zero, suc}
use Rattle.std.specs.Prelude.{◌≡◌, Bool, true, false, length}
use Rattle.std.proofs.Math.Path.{refl, ap, ap₂}
use Rattle.std.proofs.Common.{subst}
use mathlib.Core.List.{List, [], ◌∷◌, ◌++◌, map, append-nil, flat_map, flatten, zip_with}
use Rattle.std.proofs.lemmas.List.{length-map}
use Rattle.grammar.specs.Lists.{each, only}
use Rattle.grammar.specs.Form.{newest}
use Rattle.grammar.specs.Encode.{encode_option, encode_reference, label_id, label_name, encode_head, leaf_kind, encode_leaf, encode_element}
use Rattle.grammar.specs.Encode.{encode_alternative_in, encode_block_in, encode_element_in, encode_in, encode_leaf_in}
use Rattle.grammar.specs.Encode.{encode_alternative, encode_rule, encode_block, encode_counters, encode}
use Rattle.grammar.specs.Tree.{OptionDecl, Reference, Label, unlabelled, labelled, ElementHead, Leaf, epsilon, action, predicate, call}
use Rattle.grammar.specs.Tree.{token, terminal, end_of_input, Element, leaf, block, AlternativeOf, Block, Rule, Sheet, body_depth}
use Rattle.reference.specs.Walks.{label_names}
use Rattle.reference.specs.Computed.{computed}
use Rattle.laws.specs.Demands.Marks.{on_option, on_reference, on_label, on_head, on_leaf, on_element, on_alternative, on_rule, on_block}
use Rattle.laws.specs.Demands.Marks.{on_sheet, option_names, head_names, names_of_leaf, element_names, alternative_names, block_names}
use Rattle.laws.specs.Demands.Marks.{names_in}
use Rattle.laws.specs.Demands.WordSorts.{Sort, kept, name, carried, precedence, option_sorts, reference_sorts, label_sort, head_sorts}
use Rattle.laws.specs.Demands.WordSorts.{precedence_where, leaf_sorts}
use Rattle.laws.specs.Demands.WordSorts.{element_sorts, alternative_sorts, rule_sorts, block_sorts, sorts_of, moved, names_among}
use Rattle.laws.specs.Demands.WordSorts.{MarksTold}
use Rattle.laws.specs.Demands.Sameness.{same}
use Rattle.laws.specs.Demands.Examples.{MarksShown}
use Rattle.laws.specs.Sameness.Lengths.{body_length}

module _ (f r pr : ℕ → ℕ) where
  -- Sorts, the words of these sorts, what becomes of the words, and the names among them.
  data Told : List Sort → (ws vs ns : List ℕ) → Type 0 where
    none : Told [] [] [] []
    more_kept : {w v : ℕ} {ss : List Sort} {ws vs ns : List ℕ} → v ≡ w → Told ss ws vs ns → Told (kept ∷ ss) (w ∷ ws) (v ∷ vs) ns
    more_name : {w : ℕ} {ss : List Sort} {ws vs ns : List ℕ} → Told ss ws vs ns → Told (name ∷ ss) (w ∷ ws) (f w ∷ vs) (w ∷ ns)
    more_carried : {w : ℕ} {ss : List Sort} {ws vs ns : List ℕ} → Told ss ws vs ns → Told (carried ∷ ss) (w ∷ ws) (r w ∷ vs) ns
    more_precedence : {w : ℕ} {ss : List Sort} {ws vs ns : List ℕ} → Told ss ws vs ns → Told (precedence ∷ ss) (w ∷ ws) (pr w ∷ vs) ns

  one_each_lem : {ss : List Sort} {ws vs ns : List ℕ} → Told ss ws vs ns → length ss ≡ length ws
  one_each_lem none = refl
  one_each_lem (more_kept e t) = ap suc (one_each_lem t)
  one_each_lem (more_name t) = ap suc (one_each_lem t)
  one_each_lem (more_carried t) = ap suc (one_each_lem t)
  one_each_lem (more_precedence t) = ap suc (one_each_lem t)

  words_moved : {ss : List Sort} {ws vs ns : List ℕ} → Told ss ws vs ns → vs ≡ moved f r pr ss ws
  unfolding moved zip_with
  words_moved none = refl
  words_moved (more_kept e t) = ap₂ ◌∷◌ e (words_moved t)
  words_moved (more_name {w = w} t) = ap (λ l. f w ∷ l) (words_moved t)
  words_moved (more_carried {w = w} t) = ap (λ l. r w ∷ l) (words_moved t)
  words_moved (more_precedence {w = w} t) = ap (λ l. pr w ∷ l) (words_moved t)

  names_among_lem : {ss : List Sort} {ws vs ns : List ℕ} → Told ss ws vs ns → ns ≡ names_among ss ws
  unfolding names_among flatten zip_with
  names_among_lem none = refl
  names_among_lem (more_kept e t) = names_among_lem t
  names_among_lem (more_name {w = w} t) = ap (λ l. w ∷ l) (names_among_lem t)
  names_among_lem (more_carried t) = names_among_lem t
  names_among_lem (more_precedence t) = names_among_lem t

  -- One list behind the other.
  both : {ss tt : List Sort} {ws vs ns ws' vs' ns' : List ℕ} → Told ss ws vs ns → Told tt ws' vs' ns'
      → Told (ss ++ tt) (ws ++ ws') (vs ++ vs') (ns ++ ns')
  both none u = u
  both (more_kept e t) u = more_kept e (both t u)
  both (more_name t) u = more_name (both t u)
  both (more_carried t) u = more_carried (both t u)
  both (more_precedence t) u = more_precedence (both t u)

  -- The second has no names.
  no_names : {ss tt : List Sort} {ws vs ns ws' vs' : List ℕ} → Told ss ws vs ns → Told tt ws' vs' []
      → Told (ss ++ tt) (ws ++ ws') (vs ++ vs') ns
  no_names {ns = ns} t u = subst (Told _ _ _) (append-nil ns) (both t u)

  told_each : {A : Type 0} (sorts : A → List Sort) (on : A → A) (enc names : A → List ℕ)
      → ((a : A) → Told (sorts a) (enc a) (enc (on a)) (names a))
      → (as' : List A) → Told (flat_map sorts as') (each enc as') (each enc (map on as')) (each names as')
  unfolding flat_map
  told_each sorts on enc names e [] = none
  told_each sorts on enc names e (a ∷ as') = both (e a) (told_each sorts on enc names e as')

  options_told : (os : List OptionDecl)
      → Told (flat_map option_sorts os) (each encode_option os) (each encode_option (map (on_option f r pr) os)) (option_names os)
  unfolding flat_map
  options_told [] = none
  options_told (o ∷ os) = more_name (more_kept refl (options_told os))

  references_told : (os : List Reference)
      → Told (flat_map reference_sorts os) (each encode_reference os) (each encode_reference (map (on_reference f r pr) os))
      (map (λ o. o.name) os)
  unfolding flat_map
  references_told [] = none
  references_told (o ∷ os) = more_kept refl (more_name (references_told os))

  label_told : (l : Label) {ss : List Sort} {ws vs ns : List ℕ} → Told ss ws vs ns
      → Told (kept ∷ label_sort l ∷ ss) (label_id l ∷ label_name l ∷ ws)
      (label_id (on_label f r pr l) ∷ label_name (on_label f r pr l) ∷ vs)
      (label_names l ++ ns)
  label_told unlabelled t = more_kept refl (more_kept refl t)
  label_told (labelled i n) t = more_kept refl (more_name t)

  head_told : (h : ElementHead) (kind : ℕ) → Told (head_sorts h) (encode_head h kind) (encode_head (on_head f r pr h) kind) (head_names h)
  unfolding head_sorts encode_head
  head_told h kind =
      more_kept refl (more_carried (more_kept refl (label_told h.label
      (more_kept (length-map h.options (on_option f r pr)) (options_told h.options)))))

  third_told : (b : Bool) (n : ℕ) → Told (precedence_where b) (only b n) (only b (pr n)) []
  third_told true n = more_precedence none
  third_told false n = none

  -- A leaf with its head, which names its kind.
  leaf_told : (h : ElementHead) (l : Leaf)
      → Told (head_sorts h ++ leaf_sorts l) (encode_head h (leaf_kind l) ++ encode_leaf l)
      (encode_head (on_head f r pr h) (leaf_kind (on_leaf f r pr l)) ++ encode_leaf (on_leaf f r pr l)) (head_names h ++ names_of_leaf l)
  unfolding leaf_sorts leaf_kind encode_leaf_in on_leaf names_of_leaf
  leaf_told h epsilon = both (head_told h _) none
  leaf_told h (action a) =
      both (head_told h _)
      (more_kept refl (more_kept (length-map a.references (on_reference f r pr)) (references_told a.references)))
  leaf_told h (predicate p) =
      both (head_told h _)
      (more_kept refl (more_kept (length-map p.references (on_reference f r pr)) (references_told p.references)))
  leaf_told h (call c) = both (head_told h _) (more_name (more_kept refl (third_told newest.precedences c.precedence)))
  leaf_told h (token n) = both (head_told h _) (more_name none)
  leaf_told h terminal = both (head_told h _) none
  leaf_told h end_of_input = both (head_told h _) none

  module _ {B : Type 0} (sorts : B → List Sort) (on_b : B → B) (enc names : B → List ℕ)
      (e : (b : B) → Told (sorts b) (enc b) (enc (on_b b)) (names b)) where
    element_told : (x : Element B)
        → Told (element_sorts sorts x) (encode_element enc x) (encode_element enc (on_element f r pr on_b x)) (element_names names x)
    unfolding element_sorts encode_element_in on_element element_names
    element_told (leaf h l) = leaf_told h l
    element_told (block h b) = both (head_told h _) (e b)

    alternative_told : (a : AlternativeOf B)
        → Told (alternative_sorts sorts a) (encode_alternative enc a) (encode_alternative enc (on_alternative f r pr on_b a))
        (alternative_names names a)
    unfolding alternative_sorts encode_alternative_in
    alternative_told a =
        more_kept refl (more_carried (more_kept refl
        (more_kept (length-map a.options (on_option f r pr)) (more_kept (length-map a.elements (on_element f r pr on_b))
        (both (options_told a.options)
        (told_each (element_sorts sorts) (on_element f r pr on_b) (encode_element enc) (element_names names) element_told a.elements))))))

  block_told : (d : ℕ) (b : Block d) → Told (block_sorts d b) (encode_block d b) (encode_block d (on_block f r pr d b)) (block_names d b)
  unfolding block_sorts encode_block_in on_block block_names
  block_told zero b = absurd b
  block_told (suc d) as' =
      more_kept (length-map as' (on_alternative f r pr (on_block f r pr d)))
      (told_each (alternative_sorts (block_sorts d)) (on_alternative f r pr (on_block f r pr d)) (encode_alternative (encode_block d))
      (alternative_names (block_names d))
      (alternative_told (block_sorts d) (on_block f r pr d) (encode_block d) (block_names d) (block_told d)) as')

  rule_told : (q : Rule)
      → Told (rule_sorts (block_sorts body_depth) q) (encode_rule (encode_block body_depth) q)
      (encode_rule (encode_block body_depth) (on_rule f r pr (on_block f r pr body_depth) q)) (q.name ∷ block_names body_depth q.body)
  unfolding rule_sorts encode_rule
  rule_told q = more_kept refl (more_name (more_kept refl (block_told body_depth q.body)))

  -- Words that stay.
  numbers_told : (is : List ℕ) → Told (map (λ i. kept) is) is is []
  numbers_told [] = none
  numbers_told (i ∷ is) = more_kept refl (numbers_told is)

  sheet_told : (s : Sheet) → Told (sorts_of s) (encode s) (encode (on_sheet f r pr s)) (names_in s)
  unfolding sorts_of encode_in on_sheet names_in
  sheet_told s =
      no_names (no_names
      (told_each (rule_sorts (block_sorts body_depth)) (on_rule f r pr (on_block f r pr body_depth)) (encode_rule (encode_block body_depth))
      (λ (q : Rule). q.name ∷ block_names body_depth q.body) rule_told s.rules)
      (numbers_told s.preserved))
      (more_kept refl (more_kept (body_length f r pr s.rules s.preserved)
      (more_kept refl (numbers_told (encode_counters s.counters)))))

pub marks_told_lem : (s : Sheet) → MarksTold s
marks_told_lem s =
    record {
      one_each = one_each_lem same same same (sheet_told same same same s);
      words = λ f r pr. words_moved f r pr (sheet_told f r pr s);
      names = names_among_lem same same same (sheet_told same same same s);
    }

pub marks_shown_lem : MarksShown
unfolding computed on_sheet on_block on_element on_leaf names_in block_names element_names names_of_leaf
marks_shown_lem = record { is_valid = refl; words = refl; names = refl; changed = refl }
