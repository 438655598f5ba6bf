-- A tree with other names or other carried numbers has as many words.
use Prim.Native.Nat.{ℕ, zero, suc}
use Rattle.std.specs.Prelude.{◌≡◌, List, ◌++◌, map, length}
use Rattle.std.proofs.Math.Path.{refl, ap}
use Rattle.grammar.specs.Lists.{each}
use Rattle.grammar.specs.Encode.{encode_option, encode_reference, encode_head, leaf_kind, encode_leaf, encode_element, encode_alternative}
use Rattle.grammar.specs.Encode.{encode_alternative_in, encode_block_in, encode_element_in, encode_in, encode_leaf_in}
use Rattle.grammar.specs.Encode.{encode_rule, encode_block, encode_rules, encode}
use Rattle.grammar.specs.Tree.{ElementHead, Leaf, epsilon, action, predicate, call, token, terminal, end_of_input, Element, leaf, block}
use Rattle.grammar.specs.Tree.{AlternativeOf, Block, Rule, Sheet, body_depth}
use Rattle.laws.specs.Lists.Mapped.{both_length, each_length}
use Rattle.laws.specs.Demands.Marks.{on_option, on_reference, on_head, on_leaf, on_element, on_alternative, on_rule, on_block, on_sheet}

module _ (f r pr : ℕ → ℕ) where
  head_length : (h : ElementHead) (k k' : ℕ) → length (encode_head (on_head f r pr h) k) ≡ length (encode_head h k')
  unfolding encode_head
  head_length h k k' =
      ap (λ n. suc (suc (suc (suc (suc (suc n)))))) (each_length (on_option f r pr) encode_option encode_option (λ o. refl) h.options)

  leaf_length : (l : Leaf) → length (encode_leaf (on_leaf f r pr l)) ≡ length (encode_leaf l)
  unfolding encode_leaf_in on_leaf
  leaf_length epsilon = refl
  leaf_length (action a) =
      ap (λ n. suc (suc n)) (each_length (on_reference f r pr) encode_reference encode_reference (λ o. refl) a.references)
  leaf_length (predicate p) =
      ap (λ n. suc (suc n)) (each_length (on_reference f r pr) encode_reference encode_reference (λ o. refl) p.references)
  leaf_length (call c) = refl
  leaf_length (token n) = refl
  leaf_length terminal = refl
  leaf_length end_of_input = refl

  module _ {B : Type 0} (on_b : B → B) (enc : B → List ℕ) (e : (b : B) → length (enc (on_b b)) ≡ length (enc b)) where
    element_length : (x : Element B) → length (encode_element enc (on_element f r pr on_b x)) ≡ length (encode_element enc x)
    unfolding encode_element_in on_element
    element_length (leaf h l) =
        both_length (encode_head (on_head f r pr h) (leaf_kind (on_leaf f r pr l))) (encode_leaf (on_leaf f r pr l))
        (encode_head h (leaf_kind l)) (encode_leaf l) (head_length h (leaf_kind (on_leaf f r pr l)) (leaf_kind l)) (leaf_length l)
    element_length (block h b) =
        both_length (encode_head (on_head f r pr h) _) (enc (on_b b)) (encode_head h _) (enc b) (head_length h _ _) (e b)

    alternative_length : (a : AlternativeOf B)
        → length (encode_alternative enc (on_alternative f r pr on_b a)) ≡ length (encode_alternative enc a)
    unfolding encode_alternative_in
    alternative_length a =
        ap (λ n. suc (suc (suc (suc (suc n)))))
        (both_length (each encode_option (map (on_option f r pr) a.options))
        (each (encode_element enc) (map (on_element f r pr on_b) a.elements))
        (each encode_option a.options) (each (encode_element enc) a.elements)
        (each_length (on_option f r pr) encode_option encode_option (λ o. refl) a.options)
        (each_length (on_element f r pr on_b) (encode_element enc) (encode_element enc) element_length a.elements))

  block_length : (d : ℕ) (b : Block d) → length (encode_block d (on_block f r pr d b)) ≡ length (encode_block d b)
  unfolding encode_block_in on_block
  block_length zero b = absurd b
  block_length (suc d) as' =
      ap suc (each_length (on_alternative f r pr (on_block f r pr d)) (encode_alternative (encode_block d))
      (encode_alternative (encode_block d))
      (alternative_length (on_block f r pr d) (encode_block d) (block_length d)) as')

  rule_length : (q : Rule)
      → length (encode_rule (encode_block body_depth) (on_rule f r pr (on_block f r pr body_depth) q))
      ≡ length (encode_rule (encode_block body_depth) q)
  unfolding encode_rule
  rule_length q = ap (λ n. suc (suc (suc n))) (block_length body_depth q.body)

  -- The records of a sheet with the ids behind them, and the whole sheet.
  pub body_length : (rs : List Rule) (preserved : List ℕ)
      → length (encode_rules (map (on_rule f r pr (on_block f r pr body_depth)) rs) ++ preserved) ≡ length (encode_rules rs ++ preserved)
  body_length rs preserved =
      let enc = encode_rule (encode_block body_depth) in
      both_length (encode_rules (map (on_rule f r pr (on_block f r pr body_depth)) rs)) preserved (encode_rules rs) preserved
      (each_length (on_rule f r pr (on_block f r pr body_depth)) enc enc rule_length rs) refl

  pub whole_length : (s : Sheet) → length (encode (on_sheet f r pr s)) ≡ length (encode s)
  unfolding encode_in on_sheet
  whole_length s =
      both_length (encode_rules (on_sheet f r pr s).rules ++ s.preserved) _ (encode_rules s.rules ++ s.preserved) _
      (body_length s.rules s.preserved) refl
