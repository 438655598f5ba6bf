-- The words of calls: a tree without precedences has in the newest form one word more for each call, which is 0.
use Rattle.std.specs.Prelude.{ℕ, zero, suc, ◌+◌, ◌≡◌, refl, Bool, true, length, leb, eqb}
use Rattle.std.proofs.Common.{ap, ◌∙◌, arith, length-append, eqb-true}
use Rattle.std.specs.Cmp.{first_so, second_so}
use mathlib.Core.List.Memᴰ
use mathlib.Core.List.{List, [], ◌∷◌, ◌++◌, flat_map, Memᴰ}
use Rattle.grammar.specs.Form.{newest, first_form}
use Rattle.grammar.specs.Lists.{each, all}
use Rattle.grammar.specs.Numbers.{block_kind, most_alternative_flag, most_rule_flags}
use Rattle.grammar.specs.Tree.{Call, Leaf, epsilon, action, predicate, call, token, terminal, end_of_input, Element, leaf, block}
use Rattle.grammar.specs.Tree.{AlternativeOf, Block, Rule, Sheet, body_depth}
use Rattle.grammar.specs.Encode.{encode_option, encode_head, leaf_kind, encode_leaf_in, encode_element_in, encode_alternative_in}
use Rattle.grammar.specs.Encode.{encode_rule, encode_block_in, encode_rules_in, encode_counters, encode_in}
use Rattle.grammar.specs.Read.{is_name}
use Rattle.grammar.specs.Valid.{ok_head, ok_option, ok_leaf_in, ok_element_in, ok_alternative_in, ok_block_in, ok_rule, valid_in}
use Rattle.grammar.specs.Laws.Whole.{valid_parts}
use Rattle.laws.specs.Demands.Conversion.{leaf_calls, element_calls, alternative_calls, block_calls, calls_in, NoPrecedence}
use Rattle.laws.specs.Lists.Flat.{flat_in}
use Rattle.laws.specs.Lists.Lookup.{all_in}

-- Each item has so many words more as it has calls.
abbrev Longer : {A : Type 0} → (wide narrow : A → List ℕ) → (calls : A → List Call) → A → Type 0
Longer wide narrow calls a = length (wide a) ≡ length (narrow a) + length (calls a)

longer_each : {A : Type 0} (wide narrow : A → List ℕ) (calls : A → List Call) → ((a : A) → Longer wide narrow calls a) → (as' : List A)
    → Longer (each wide) (each narrow) (flat_map calls) as'
unfolding flat_map
longer_each wide narrow calls h [] = refl
longer_each wide narrow calls h (a ∷ as') =
    let x = h a in
    let y = longer_each wide narrow calls h as' in
    let p = length-append (wide a) (each wide as') in
    let q = length-append (narrow a) (each narrow as') in
    let r = length-append (calls a) (flat_map calls as') in
    omega arith

longer_behind : (ws wide narrow : List ℕ) (calls : List Call) → length wide ≡ length narrow + length calls
    → length (ws ++ wide) ≡ length (ws ++ narrow) + length calls
longer_behind ws wide narrow calls h =
    let p = length-append ws wide in
    let q = length-append ws narrow in
    omega arith

longer_leaf : (l : Leaf) → Longer (encode_leaf_in newest) (encode_leaf_in first_form) leaf_calls l
unfolding encode_leaf_in leaf_calls
longer_leaf epsilon = refl
longer_leaf (action a) = omega arith
longer_leaf (predicate p) = omega arith
longer_leaf (call c) = refl
longer_leaf (token n) = refl
longer_leaf terminal = refl
longer_leaf end_of_input = refl

module _ {B : Type 0} (wide narrow : B → List ℕ) (calls : B → List Call) (h : (b : B) → Longer wide narrow calls b) where
  longer_element : (e : Element B)
      → Longer (encode_element_in newest wide) (encode_element_in first_form narrow) (element_calls calls) e
  unfolding encode_element_in element_calls
  longer_element (leaf x l) =
      longer_behind (encode_head x (leaf_kind l)) (encode_leaf_in newest l) (encode_leaf_in first_form l) (leaf_calls l) (longer_leaf l)
  longer_element (block x b) = longer_behind (encode_head x block_kind) (wide b) (narrow b) (calls b) (h b)

  longer_alternative : (a : AlternativeOf B)
      → Longer (encode_alternative_in newest wide) (encode_alternative_in first_form narrow) (alternative_calls calls) a
  unfolding encode_alternative_in
  longer_alternative a =
      let x =
      longer_behind (each encode_option a.options) (each (encode_element_in newest wide) a.elements)
      (each (encode_element_in first_form narrow) a.elements) (alternative_calls calls a)
      (longer_each (encode_element_in newest wide) (encode_element_in first_form narrow) (element_calls calls) longer_element a.elements) in
      omega arith

longer_block : (d : ℕ) (b : Block d) → Longer (encode_block_in newest d) (encode_block_in first_form d) (block_calls d) b
unfolding encode_block_in block_calls
longer_block zero b = absurd b
longer_block (suc d) as' =
    let x =
    longer_each (encode_alternative_in newest (encode_block_in newest d)) (encode_alternative_in first_form (encode_block_in first_form d))
    (alternative_calls (block_calls d))
    (longer_alternative (encode_block_in newest d) (encode_block_in first_form d) (block_calls d) (longer_block d)) as' in
    omega arith

longer_rule : (r : Rule)
    → Longer (encode_rule (encode_block_in newest body_depth)) (encode_rule (encode_block_in first_form body_depth))
    (λ r. block_calls body_depth r.body) r
unfolding encode_rule
longer_rule r = let x = longer_block body_depth r.body in omega arith

pub longer_sheet : (s : Sheet) → Longer (encode_in newest) (encode_in first_form) (λ s. calls_in s.rules) s
unfolding encode_in
longer_sheet s =
    let wide = encode_rules_in newest s.rules in
    let narrow = encode_rules_in first_form s.rules in
    let x =
    longer_each (encode_rule (encode_block_in newest body_depth)) (encode_rule (encode_block_in first_form body_depth))
    (λ r. block_calls body_depth r.body) longer_rule s.rules in
    let p = length-append wide s.preserved in
    let q = length-append narrow s.preserved in
    let a = length-append (wide ++ s.preserved)
    (s.kind ∷ length (wide ++ s.preserved) ∷ length s.preserved ∷ encode_counters s.counters) in
    let b = length-append (narrow ++ s.preserved)
    (s.kind ∷ length (narrow ++ s.preserved) ∷ length s.preserved ∷ encode_counters s.counters) in
    omega arith

-- What is good in the first form has no precedences.
abbrev None : List Call → Type 0
None cs = (c : Call) → Memᴰ c cs → c.precedence ≡ 0

none_leaf : (l : Leaf) → ok_leaf_in first_form l ≡ true → None (leaf_calls l)
unfolding ok_leaf_in leaf_calls
none_leaf epsilon t c m = absurd (Memᴰ.not-nil m)
none_leaf (action a) t c m = absurd (Memᴰ.not-nil m)
none_leaf (predicate p) t c m = absurd (Memᴰ.not-nil m)
none_leaf (call k) t c m =
    ap (λ c. c.precedence) (Memᴰ.eq_of_singleton m) ∙ eqb-true k.precedence 0 (first_so (eqb k.precedence 0) (is_name k.name) t)
none_leaf (token n) t c m = absurd (Memᴰ.not-nil m)
none_leaf terminal t c m = absurd (Memᴰ.not-nil m)
none_leaf end_of_input t c m = absurd (Memᴰ.not-nil m)

none_each : {A : Type 0} (test : A → Bool) (calls : A → List Call) → ((a : A) → test a ≡ true → None (calls a)) → (as' : List A)
    → all test as' ≡ true → None (flat_map calls as')
none_each test calls h as' t c m = let (a, n, x) = flat_in calls as' m in h a (all_in test t n) c x

module _ {B : Type 0} (ok : B → Bool) (calls : B → List Call) (h : (b : B) → ok b ≡ true → None (calls b)) where
  none_element : (e : Element B) → ok_element_in first_form ok e ≡ true → None (element_calls calls e)
  unfolding ok_element_in element_calls
  none_element (leaf x l) t = none_leaf l (second_so (ok_head x) (ok_leaf_in first_form l) t)
  none_element (block x b) t = h b (second_so (ok_head x) (ok b) t)

  none_alternative : (a : AlternativeOf B) → ok_alternative_in first_form ok a ≡ true → None (alternative_calls calls a)
  unfolding ok_alternative_in
  none_alternative a t =
      none_each (ok_element_in first_form ok) (element_calls calls) none_element a.elements
      (second_so (all ok_option a.options) _ (second_so (leb a.flag most_alternative_flag) _ t))

none_block : (d : ℕ) (b : Block d) → ok_block_in first_form d b ≡ true → None (block_calls d b)
unfolding ok_block_in block_calls
none_block zero b t = absurd b
none_block (suc d) as' t =
    none_each (ok_alternative_in first_form (ok_block_in first_form d)) (alternative_calls (block_calls d))
    (none_alternative (ok_block_in first_form d) (block_calls d) (none_block d)) as' t

none_rule : (r : Rule) → ok_rule (ok_block_in first_form body_depth) r ≡ true → None (block_calls body_depth r.body)
unfolding ok_rule
none_rule r t = none_block body_depth r.body (second_so (leb r.flags most_rule_flags) _ (second_so (is_name r.name) _ t))

pub none_sheet : (s : Sheet) → valid_in first_form s ≡ true → NoPrecedence s.rules
none_sheet s v =
    none_each (ok_rule (ok_block_in first_form body_depth)) (λ r. block_calls body_depth r.body) none_rule s.rules
    (valid_parts first_form s v).rules
