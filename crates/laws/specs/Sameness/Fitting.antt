-- The words of a tree with good names instead of its own are words where the tree's are.
use Prim.Native.Nat.{ℕ, zero, suc}
use Rattle.std.specs.Prelude.{◌≡◌, List, [], ◌∷◌, ◌++◌, map, Bool, true, length, leb, ltb}
use Rattle.std.proofs.Math.Path.{refl}
use Rattle.std.proofs.Common.{sym, ap, ◌∙◌, subst, arith, leb-true, lt-ltb}
use Rattle.std.proofs.lemmas.List.{length-map}
use Rattle.std.proofs.lemmas.Bool.{and_from}
use Rattle.std.specs.Cmp.{first_so, second_so}
use Rattle.grammar.specs.Lists.{AllOf, all, each}
use Rattle.grammar.specs.Read.{is_name}
use Rattle.grammar.specs.Numbers.{word_end, most_name, block_kind}
use Rattle.grammar.specs.Encode.{encode_option, encode_reference, label_id, label_name, encode_head, leaf_kind, encode_leaf, encode_element}
use Rattle.grammar.specs.Encode.{encode_alternative_in, encode_block_in, encode_element_in, encode_leaf_in}
use Rattle.grammar.specs.Encode.{encode_alternative, encode_rule, encode_block}
use Rattle.grammar.specs.Tree.{OptionDecl, Reference, Label, unlabelled, labelled, ElementHead, Leaf, epsilon, action, predicate, call}
use Rattle.grammar.specs.Tree.{token, terminal, end_of_input, Element, leaf, block, AlternativeOf, Block, Rule, body_depth}
use Rattle.reference.specs.Walks.{label_names}
use Rattle.laws.specs.Lists.Every.{left_of, right_of}
use Rattle.laws.specs.Demands.Marks.{on_option, on_reference, on_label, on_head, on_leaf, on_element, on_alternative, on_rule, on_block}
use Rattle.laws.specs.Demands.Marks.{option_names, head_names, names_of_leaf, element_names, alternative_names, block_names}
use Rattle.laws.specs.Sameness.Good.{Good}

-- Whether a number is a word, and whether all of a list are.
abbrev pub W : ℕ → Bool
W w = ltb w word_end

abbrev pub Wordy : List ℕ → Type 0
Wordy xs = all W xs ≡ true

pub wordy_both : (xs ys : List ℕ) → Wordy xs → Wordy ys → Wordy (xs ++ ys)
unfolding all
wordy_both [] ys h k = k
wordy_both (x ∷ xs) ys h k = and_from (W x) _ (first_so (W x) _ h) (wordy_both xs ys (second_so (W x) _ h) k)

pub wordy_left : (xs ys : List ℕ) → Wordy (xs ++ ys) → Wordy xs
unfolding all
wordy_left [] ys h = refl
wordy_left (x ∷ xs) ys h = and_from (W x) _ (first_so (W x) _ h) (wordy_left xs ys (second_so (W x) _ h))

pub wordy_right : (xs ys : List ℕ) → Wordy (xs ++ ys) → Wordy ys
unfolding all
wordy_right [] ys h = h
wordy_right (x ∷ xs) ys h = wordy_right xs ys (second_so (W x) _ h)

-- A word more, kept a word.
more : (x y : ℕ) (xs ys : List ℕ) → (W x ≡ true → W y ≡ true) → (Wordy xs → Wordy ys) → Wordy (x ∷ xs) → Wordy (y ∷ ys)
unfolding all
more x y xs ys h k t = and_from (W y) _ (h (first_so (W x) _ t)) (k (second_so (W x) _ t))

name_word : (n : ℕ) → is_name n ≡ true → W n ≡ true
name_word n t = let h = leb-true n most_name (second_so (leb 1 n) _ t) in lt-ltb n word_end (omega arith)

as_was : (n m : ℕ) → m ≡ n → W n ≡ true → W m ≡ true
as_was n m e t = ap W e ∙ t

-- As many items as before.
count_was : {A B : Type 0} (h : A → B) (xs : List A) → W (length xs) ≡ true → W (length (map h xs)) ≡ true
count_was h xs = as_was (length xs) (length (map h xs)) (length-map xs h)

module _ (f r pr : ℕ → ℕ) (words : (n : ℕ) → W n ≡ true → W (r n) ≡ true)
    (thirds : (n : ℕ) → W n ≡ true → W (pr n) ≡ true) where
  options_words : (os : List OptionDecl) → AllOf (Good f r pr) (option_names os) → Wordy (each encode_option os)
      → Wordy (each encode_option (map (on_option f r pr) os))
  options_words [] h = λ t. t
  options_words (o ∷ os) h =
      more o.name (f o.name) _ _ (λ _. name_word (f o.name) h.0)
      (more o.value o.value _ _ (λ t. t) (options_words os h.1))

  references_words : (os : List Reference) → AllOf (Good f r pr) (map (λ o. o.name) os) → Wordy (each encode_reference os)
      → Wordy (each encode_reference (map (on_reference f r pr) os))
  references_words [] h = λ t. t
  references_words (o ∷ os) h =
      more o.kind o.kind _ _ (λ t. t)
      (more o.name (f o.name) _ _ (λ _. name_word (f o.name) h.0) (references_words os h.1))

  label_word : (l : Label) → AllOf (Good f r pr) (label_names l) → W (label_name l) ≡ true → W (label_name (on_label f r pr l)) ≡ true
  label_word unlabelled h t = t
  label_word (labelled i n) h t = name_word (f n) h.0

  label_same : (l : Label) → label_id (on_label f r pr l) ≡ label_id l
  label_same unlabelled = refl
  label_same (labelled i n) = refl

  head_words_lem : (x : ElementHead) (k : ℕ) → AllOf (Good f r pr) (head_names x) → Wordy (encode_head x k)
      → Wordy (encode_head (on_head f r pr x) k)
  unfolding encode_head
  head_words_lem x k h =
      more x.id x.id _ _ (λ t. t)
      (more x.carried (r x.carried) _ _ (words x.carried)
      (more _ _ _ _ (λ t. t)
      (more (label_id x.label) (label_id (on_label f r pr x.label)) _ _ (as_was _ _ (label_same x.label))
      (more (label_name x.label) (label_name (on_label f r pr x.label)) _ _
      (label_word x.label (left_of (Good f r pr) (label_names x.label) (option_names x.options) h))
      (more (length x.options) (length (map (on_option f r pr) x.options)) _ _ (count_was (on_option f r pr) x.options)
      (options_words x.options (right_of (Good f r pr) (label_names x.label) (option_names x.options) h)))))))

  kind_same : (l : Leaf) → leaf_kind (on_leaf f r pr l) ≡ leaf_kind l
  unfolding leaf_kind on_leaf
  kind_same epsilon = refl
  kind_same (action a) = refl
  kind_same (predicate p) = refl
  kind_same (call c) = refl
  kind_same (token n) = refl
  kind_same terminal = refl
  kind_same end_of_input = refl

  leaf_words_lem : (l : Leaf) → AllOf (Good f r pr) (names_of_leaf l) → Wordy (encode_leaf l) → Wordy (encode_leaf (on_leaf f r pr l))
  unfolding encode_leaf_in on_leaf names_of_leaf
  leaf_words_lem epsilon h = λ t. t
  leaf_words_lem (action a) h =
      more a.id a.id _ _ (λ t. t) (more (length a.references) (length (map (on_reference f r pr) a.references)) _ _
      (count_was (on_reference f r pr) a.references) (references_words a.references h))
  leaf_words_lem (predicate a) h =
      more a.id a.id _ _ (λ t. t) (more (length a.references) (length (map (on_reference f r pr) a.references)) _ _
      (count_was (on_reference f r pr) a.references) (references_words a.references h))
  leaf_words_lem (call c) h =
      more c.name (f c.name) _ _ (λ _. name_word (f c.name) h.0)
      (more c.arguments c.arguments _ _ (λ t. t) (more c.precedence (pr c.precedence) _ _ (thirds c.precedence) (λ t. t)))
  leaf_words_lem (token n) h = more n (f n) _ _ (λ _. name_word (f n) h.0) (λ t. t)
  leaf_words_lem terminal h = λ t. t
  leaf_words_lem end_of_input h = λ t. t

  each_words : {A B : Type 0} (names : A → List ℕ) (on : A → B) (enc : A → List ℕ) (enc' : B → List ℕ)
      → ((a : A) → AllOf (Good f r pr) (names a) → Wordy (enc a) → Wordy (enc' (on a))) → (as' : List A)
      → AllOf (Good f r pr) (each names as')
      → Wordy (each enc as') → Wordy (each enc' (map on as'))
  each_words names on enc enc' e [] h t = t
  each_words names on enc enc' e (a ∷ as') h t =
      wordy_both (enc' (on a)) (each enc' (map on as'))
      (e a (left_of (Good f r pr) (names a) (each names as') h) (wordy_left (enc a) (each enc as') t))
      (each_words names on enc enc' e as' (right_of (Good f r pr) (names a) (each names as') h) (wordy_right (enc a) (each enc as') t))

  module _ {B : Type 0} (of_b : B → List ℕ) (on_b : B → B) (enc : B → List ℕ)
      (e : (b : B) → AllOf (Good f r pr) (of_b b) → Wordy (enc b) → Wordy (enc (on_b b))) where
    element_words_lem : (x : Element B) → AllOf (Good f r pr) (element_names of_b x) → Wordy (encode_element enc x)
        → Wordy (encode_element enc (on_element f r pr on_b x))
    unfolding encode_element_in on_element element_names
    element_words_lem (leaf h l) n t =
        wordy_both (encode_head (on_head f r pr h) (leaf_kind (on_leaf f r pr l))) (encode_leaf (on_leaf f r pr l))
        (subst (λ k. Wordy (encode_head (on_head f r pr h) k)) (sym (kind_same l))
        (head_words_lem h (leaf_kind l) (left_of (Good f r pr) (head_names h) (names_of_leaf l) n)
        (wordy_left (encode_head h (leaf_kind l)) (encode_leaf l) t)))
        (leaf_words_lem l (right_of (Good f r pr) (head_names h) (names_of_leaf l) n)
        (wordy_right (encode_head h (leaf_kind l)) (encode_leaf l) t))
    element_words_lem (block h b) n t =
        wordy_both (encode_head (on_head f r pr h) block_kind) (enc (on_b b))
        (head_words_lem h block_kind (left_of (Good f r pr) (head_names h) (of_b b) n) (wordy_left (encode_head h block_kind) (enc b) t))
        (e b (right_of (Good f r pr) (head_names h) (of_b b) n) (wordy_right (encode_head h block_kind) (enc b) t))

    alternative_words_lem : (a : AlternativeOf B) → AllOf (Good f r pr) (alternative_names of_b a) → Wordy (encode_alternative enc a)
        → Wordy (encode_alternative enc (on_alternative f r pr on_b a))
    unfolding encode_alternative_in
    alternative_words_lem a n =
        more a.id a.id _ _ (λ t. t)
        (more a.carried (r a.carried) _ _ (words a.carried)
        (more a.flag a.flag _ _ (λ t. t)
        (more (length a.options) (length (map (on_option f r pr) a.options)) _ _ (count_was (on_option f r pr) a.options)
        (more (length a.elements) (length (map (on_element f r pr on_b) a.elements)) _ _ (count_was (on_element f r pr on_b) a.elements)
        (λ t. wordy_both (each encode_option (map (on_option f r pr) a.options))
        (each (encode_element enc) (map (on_element f r pr on_b) a.elements))
        (options_words a.options (left_of (Good f r pr) (option_names a.options) (each (element_names of_b) a.elements) n)
        (wordy_left (each encode_option a.options) (each (encode_element enc) a.elements) t))
        (each_words (element_names of_b) (on_element f r pr on_b) (encode_element enc) (encode_element enc) element_words_lem a.elements
        (right_of (Good f r pr) (option_names a.options) (each (element_names of_b) a.elements) n)
        (wordy_right (each encode_option a.options) (each (encode_element enc) a.elements) t)))))))

  block_words_lem : (d : ℕ) (b : Block d) → AllOf (Good f r pr) (block_names d b) → Wordy (encode_block d b)
      → Wordy (encode_block d (on_block f r pr d b))
  unfolding encode_block_in on_block block_names
  block_words_lem zero b n = absurd b
  block_words_lem (suc d) as' n =
      let on = on_alternative f r pr (on_block f r pr d) in
      let enc = encode_alternative (encode_block d) in
      more (length as') (length (map on as')) _ _ (count_was on as')
      (each_words (alternative_names (block_names d)) on enc enc
      (alternative_words_lem (block_names d) (on_block f r pr d) (encode_block d) (block_words_lem d)) as' n)

  rule_words_lem : (q : Rule) → AllOf (Good f r pr) (q.name ∷ block_names body_depth q.body)
      → Wordy (encode_rule (encode_block body_depth) q)
      → Wordy (encode_rule (encode_block body_depth) (on_rule f r pr (on_block f r pr body_depth) q))
  unfolding encode_rule
  rule_words_lem q n =
      more q.id q.id _ _ (λ t. t)
      (more q.name (f q.name) _ _ (λ _. name_word (f q.name) n.0)
      (more q.flags q.flags _ _ (λ t. t) (block_words_lem body_depth q.body n.1)))

  -- The words of all the rules.
  pub rules_words : (rs : List Rule) → AllOf (Good f r pr) (each (λ (q : Rule). q.name ∷ block_names body_depth q.body) rs)
      → Wordy (each (encode_rule (encode_block body_depth)) rs)
      → Wordy (each (encode_rule (encode_block body_depth)) (map (on_rule f r pr (on_block f r pr body_depth)) rs))
  rules_words =
      let enc = encode_rule (encode_block body_depth) in
      each_words (λ (q : Rule). q.name ∷ block_names body_depth q.body) (on_rule f r pr (on_block f r pr body_depth)) enc enc rule_words_lem
