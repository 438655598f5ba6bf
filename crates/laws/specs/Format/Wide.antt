-- The newest words of a tree without precedences are words of 32 bits, where those in the first form are.
use Rattle.std.specs.Prelude.{ℕ, zero, suc, ◌≤◌, ◌≡◌, refl, Bool, true, ◌&&◌, length, ltb, leb}
use Rattle.std.proofs.Common.{sym, ap, ap₂, ◌∙◌, arith, length-append, lt-ltb, le-leb}
use Rattle.std.proofs.Math.Bool.{and_assoc}
use Rattle.std.proofs.lemmas.Bool.{and_from}
use Rattle.std.specs.Cmp.{first_so, second_so}
use mathlib.Core.List.{List, [], ◌∷◌, ◌++◌, flat_map, Memᴰ}
use Rattle.grammar.specs.Form.{newest, first_form}
use Rattle.grammar.specs.Lists.{each, all}
use Rattle.grammar.specs.Numbers.{word_end, block_kind, most_words}
use Rattle.grammar.specs.Tree.{Call, Leaf, epsilon, action, predicate, call, token, terminal, end_of_input, Element, leaf, block}
use Rattle.grammar.specs.Tree.{AlternativeOf, Block, Rule, Sheet, body_depth}
use Rattle.grammar.specs.Encode.{encode_option, encode_head, leaf_kind, encode_leaf_in, encode_element_in, encode_alternative_in}
use Rattle.grammar.specs.Encode.{encode_rule, encode_block_in, encode_rules_in, encode_counters, encode_in, encode}
use Rattle.grammar.specs.Valid.{fits, fits_in}
use Rattle.laws.specs.Demands.Conversion.{leaf_calls, element_calls, alternative_calls, block_calls, calls_in}
use Rattle.laws.specs.Lists.Flat.{in_flat}

abbrev are_words : List ℕ → Bool
are_words = all λ w. ltb w word_end

words_append : (xs ys : List ℕ) → are_words (xs ++ ys) ≡ (are_words xs && are_words ys)
unfolding all
words_append [] ys = refl
words_append (x ∷ xs) ys =
    ap (λ b. ltb x word_end && b) (words_append xs ys) ∙ sym (and_assoc (ltb x word_end) (are_words xs) (are_words ys))

-- Words of both forms, behind the same words or one after the other.
words_behind : (ws wide narrow : List ℕ) → are_words wide ≡ are_words narrow → are_words (ws ++ wide) ≡ are_words (ws ++ narrow)
words_behind ws wide narrow h = words_append ws wide ∙ ap (λ b. are_words ws && b) h ∙ sym (words_append ws narrow)

words_both : (wide narrow wide' narrow' : List ℕ) → are_words wide ≡ are_words narrow → are_words wide' ≡ are_words narrow'
    → are_words (wide ++ wide') ≡ are_words (narrow ++ narrow')
words_both wide narrow wide' narrow' h k = words_append wide wide' ∙ ap₂ ◌&&◌ h k ∙ sym (words_append narrow narrow')

-- No call of something has a precedence, and its words are good in both forms or in none.
abbrev None : List Call → Type 0
None cs = (c : Call) → Memᴰ c cs → c.precedence ≡ 0

abbrev Wide : {A : Type 0} → (wide narrow : A → List ℕ) → (calls : A → List Call) → A → Type 0
Wide wide narrow calls a = None (calls a) → are_words (wide a) ≡ are_words (narrow a)

wide_each : {A : Type 0} (wide narrow : A → List ℕ) (calls : A → List Call) → ((a : A) → Wide wide narrow calls a) → (as' : List A)
    → ((a : A) → Memᴰ a as' → None (calls a)) → are_words (each wide as') ≡ are_words (each narrow as')
wide_each wide narrow calls h [] none = refl
wide_each wide narrow calls h (a ∷ as') none =
    words_both (wide a) (narrow a) (each wide as') (each narrow as') (h a (none a (Memᴰ.head refl)))
    (wide_each wide narrow calls h as' λ b m. none b (Memᴰ.tail m))

wide_flat : {A : Type 0} (wide narrow : A → List ℕ) (calls : A → List Call) → ((a : A) → Wide wide narrow calls a) → (as' : List A)
    → Wide (each wide) (each narrow) (flat_map calls) as'
wide_flat wide narrow calls h as' none = wide_each wide narrow calls h as' λ a m c n. none c (in_flat calls m n)

wide_leaf : (l : Leaf) → Wide (encode_leaf_in newest) (encode_leaf_in first_form) leaf_calls l
unfolding encode_leaf_in leaf_calls all
wide_leaf epsilon none = refl
wide_leaf (action a) none = refl
wide_leaf (predicate p) none = refl
wide_leaf (call c) none = rw (none c (Memᴰ.head refl))
wide_leaf (token n) none = refl
wide_leaf terminal none = refl
wide_leaf end_of_input none = refl

module _ {B : Type 0} (wide narrow : B → List ℕ) (calls : B → List Call) (h : (b : B) → Wide wide narrow calls b) where
  wide_element : (e : Element B) → Wide (encode_element_in newest wide) (encode_element_in first_form narrow) (element_calls calls) e
  unfolding encode_element_in element_calls
  wide_element (leaf x l) none =
      words_behind (encode_head x (leaf_kind l)) (encode_leaf_in newest l) (encode_leaf_in first_form l) (wide_leaf l none)
  wide_element (block x b) none = words_behind (encode_head x block_kind) (wide b) (narrow b) (h b none)

  wide_alternative : (a : AlternativeOf B)
      → Wide (encode_alternative_in newest wide) (encode_alternative_in first_form narrow) (alternative_calls calls) a
  unfolding encode_alternative_in
  wide_alternative a none =
      words_behind (a.id ∷ a.carried ∷ a.flag ∷ length a.options ∷ length a.elements ∷ each encode_option a.options)
      (each (encode_element_in newest wide) a.elements) (each (encode_element_in first_form narrow) a.elements)
      (wide_flat (encode_element_in newest wide) (encode_element_in first_form narrow) (element_calls calls) wide_element a.elements none)

wide_block : (d : ℕ) (b : Block d) → Wide (encode_block_in newest d) (encode_block_in first_form d) (block_calls d) b
unfolding encode_block_in block_calls
wide_block zero b none = absurd b
wide_block (suc d) as' none =
    words_behind (length as' ∷ [])
    (each (encode_alternative_in newest (encode_block_in newest d)) as')
    (each (encode_alternative_in first_form (encode_block_in first_form d)) as')
    (wide_flat (encode_alternative_in newest (encode_block_in newest d)) (encode_alternative_in first_form (encode_block_in first_form d))
    (alternative_calls (block_calls d))
    (wide_alternative (encode_block_in newest d) (encode_block_in first_form d) (block_calls d) (wide_block d)) as' none)

wide_rule : (r : Rule)
    → Wide (encode_rule (encode_block_in newest body_depth)) (encode_rule (encode_block_in first_form body_depth))
    (λ r. block_calls body_depth r.body) r
unfolding encode_rule
wide_rule r none =
    words_behind (r.id ∷ r.name ∷ r.flags ∷ []) (encode_block_in newest body_depth r.body) (encode_block_in first_form body_depth r.body)
    (wide_block body_depth r.body none)

-- Of a whole sheet; its first distance is another one, and is small.
pub wide_fits : (s : Sheet) → ((c : Call) → Memᴰ c (calls_in s.rules) → c.precedence ≡ 0) → fits_in first_form s ≡ true
    → length (encode s) ≤ most_words → fits s ≡ true
unfolding fits_in encode_in all
wide_fits s none f short =
    let wide = encode_rules_in newest s.rules ++ s.preserved in
    let narrow = encode_rules_in first_form s.rules ++ s.preserved in
    let rest = length s.preserved ∷ encode_counters s.counters in
    let t = second_so (leb (length (encode_in first_form s)) most_words) (are_words (encode_in first_form s)) f in
    let u = sym (words_append narrow (s.kind ∷ length narrow ∷ rest)) ∙ t in
    let front : are_words wide ≡ true =
    words_both (encode_rules_in newest s.rules) (encode_rules_in first_form s.rules) s.preserved s.preserved
    (wide_flat (encode_rule (encode_block_in newest body_depth)) (encode_rule (encode_block_in first_form body_depth))
    (λ r. block_calls body_depth r.body) wide_rule s.rules none) refl
    ∙ first_so (are_words narrow) (are_words (s.kind ∷ length narrow ∷ rest)) u in
    let v = second_so (are_words narrow) (are_words (s.kind ∷ length narrow ∷ rest)) u in
    let w = second_so (ltb s.kind word_end) (are_words (length narrow ∷ rest)) v in
    let l = length-append wide (s.kind ∷ length wide ∷ rest) in
    let d : ltb (length wide) word_end ≡ true = lt-ltb (length wide) word_end (omega arith) in
    let behind : are_words (s.kind ∷ length wide ∷ rest) ≡ true =
    and_from (ltb s.kind word_end) _ (first_so (ltb s.kind word_end) (are_words (length narrow ∷ rest)) v)
    (and_from (ltb (length wide) word_end) _ d (second_so (ltb (length narrow) word_end) (are_words rest) w)) in
    and_from (leb (length (encode s)) most_words) _ (le-leb (length (encode s)) most_words short)
    (words_append wide (s.kind ∷ length wide ∷ rest) ∙ and_from (are_words wide) _ front behind)
