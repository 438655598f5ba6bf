-- What is derived by the first wording is derived by the second.
use Rattle.std.specs.Prelude.{ℕ, zero, suc, ◌≤◌, ◌≡◌, ◌⊎◌, true, leb}
use Rattle.std.proofs.Math.Path.{refl}
use Rattle.std.proofs.Common.{sym, ap, ◌∙◌, subst, inl, inr, arith}
use mathlib.Core.List.{List, [], ◌∷◌, ◌++◌, append-nil, map, Memᴰ}
use Rattle.std.proofs.Math.Option.{none, some, none-ne-some}
use Rattle.std.specs.Cmp.{first_so, second_so}
use borrow.Author.Tests.{leb-true}
use Rattle.grammar.specs.Lists.{all, distinct}
use Rattle.grammar.specs.Tree.{ElementHead, Action, Predicate, Call, Element, leaf, block, epsilon, action, predicate, call, token}
use Rattle.grammar.specs.Tree.{terminal, end_of_input, AlternativeOf, Block, RuleOf, Leaf}
use Rattle.grammar.specs.Numbers.{most_alternative_flag}
use Rattle.grammar.specs.Valid.{ok_option, ok_head, ok_leaf, ok_element, ok_alternative, ok_block, ok_alternative_in, ok_block_in}
use Rattle.grammar.specs.Valid.{ok_element_in}
use Rattle.language.specs.Shape.{Symbol, token_symbol, other_symbol, unknown_symbol, end_symbol, Word, Shape, eps, fail, symbol, call_of}
use Rattle.language.specs.Shape.{seq}
use Rattle.language.specs.Shape.{alt, opt, star, plus, alts, quantified, erase_leaf, erase_element, erase_elements, erase_block, find}
use Rattle.language.specs.Shape.{erase_rules}
use Rattle.language.specs.Derive.{Der, d_eps, d_symbol, d_call, d_unknown, d_seq, d_left, d_right, d_absent, d_present, d_none, d_more}
use Rattle.language.specs.Derive.{d_some}
use Rattle.language.specs.Laws.Rules.{rule_found, found_rule}
use Rattle.laws.specs.Demands.Derivation.{exactly_once, at_most_once, any_times, at_least_once, quantifier_of, Part, choice}
use Rattle.laws.specs.Demands.Derivation.{sequence, element, times, once, Derives, chosen, no_element, element_then, counted}
use Rattle.laws.specs.Demands.Derivation.{not_once, once_more, derives_epsilon, derives_action, derives_predicate, derives_call, of_unknown}
use Rattle.laws.specs.Demands.Derivation.{derives_token}
use Rattle.laws.specs.Demands.Derivation.{derives_terminal, derives_end, derives_block}

-- A part; or an element taken some number of times, whatever its quantifier.
data Goal : Type 0 where
  part : Part → Goal
  many : (k : ℕ) → Element (Block k) → Goal

-- A shape is that of a part.
data Is : Shape → Goal → Type 0 where
  is_none : {k : ℕ} → Is fail (part (choice k []))
  is_alt : {k : ℕ} {a : AlternativeOf (Block k)} {as' : List (AlternativeOf (Block k))} {s t : Shape}
      → Is s (part (sequence k a.elements)) → Is t (part (choice k as')) → Is (alt s t) (part (choice k (a ∷ as')))
  is_nil : {k : ℕ} → Is eps (part (sequence k []))
  is_seq : {k : ℕ} {e : Element (Block k)} {es : List (Element (Block k))} {s t : Shape}
      → Is s (part (element k e)) → Is t (part (sequence k es)) → Is (seq s t) (part (sequence k (e ∷ es)))
  is_once : {k : ℕ} {e : Element (Block k)} {s : Shape} → quantifier_of e ≡ 0 → Is s (part (once k e)) → Is s (part (element k e))
  is_opt : {k : ℕ} {e : Element (Block k)} {s : Shape} → (quantifier_of e ≡ 1) ⊎ (quantifier_of e ≡ 2) → Is s (part (once k e))
      → Is (opt s) (part (element k e))
  is_star : {k : ℕ} {e : Element (Block k)} {s : Shape} → (quantifier_of e ≡ 3) ⊎ (quantifier_of e ≡ 4) → Is (star s) (many k e)
      → Is (star s) (part (element k e))
  is_plus : {k : ℕ} {e : Element (Block k)} {s : Shape} → (quantifier_of e ≡ 5) ⊎ (quantifier_of e ≡ 6) → Is s (part (once k e))
      → Is (plus s) (part (element k e))
  is_many : {k : ℕ} {e : Element (Block k)} {s : Shape} → Is s (part (once k e)) → Is (star s) (many k e)
  is_epsilon : {k : ℕ} {h : ElementHead} → Is eps (part (once k (leaf h epsilon)))
  is_action : {k : ℕ} {h : ElementHead} {x : Action} → Is eps (part (once k (leaf h (action x))))
  is_predicate : {k : ℕ} {h : ElementHead} {x : Predicate} → Is eps (part (once k (leaf h (predicate x))))
  is_call : {k : ℕ} {h : ElementHead} {c : Call} {n : ℕ} → c.name ≡ n → Is (call_of n) (part (once k (leaf h (call c))))
  is_token : {k : ℕ} {h : ElementHead} {n : ℕ} {a : Symbol} → token_symbol n ≡ a → Is (symbol a) (part (once k (leaf h (token n))))
  is_terminal : {k : ℕ} {h : ElementHead} {a : Symbol} → other_symbol h.carried ≡ a → Is (symbol a) (part (once k (leaf h terminal)))
  is_end : {k : ℕ} {h : ElementHead} {a : Symbol} → end_symbol ≡ a → Is (symbol a) (part (once k (leaf h end_of_input)))
  is_block : {k : ℕ} {h : ElementHead} {b : Block (suc k)} {s : Shape} → Is s (part (choice k b)) → Is s (part (once (suc k) (block h b)))

-- Each of the quantifiers.
seven : (P : ℕ → Type 0) → P 0 → P 1 → P 2 → P 3 → P 4 → P 5 → P 6 → (q : ℕ) → q ≤ 6 → P q
seven P p₀ p₁ p₂ p₃ p₄ p₅ p₆ zero l = p₀
seven P p₀ p₁ p₂ p₃ p₄ p₅ p₆ (suc zero) l = p₁
seven P p₀ p₁ p₂ p₃ p₄ p₅ p₆ (suc (suc zero)) l = p₂
seven P p₀ p₁ p₂ p₃ p₄ p₅ p₆ (suc (suc (suc zero))) l = p₃
seven P p₀ p₁ p₂ p₃ p₄ p₅ p₆ (suc (suc (suc (suc zero)))) l = p₄
seven P p₀ p₁ p₂ p₃ p₄ p₅ p₆ (suc (suc (suc (suc (suc zero))))) l = p₅
seven P p₀ p₁ p₂ p₃ p₄ p₅ p₆ (suc (suc (suc (suc (suc (suc zero)))))) l = p₆
seven P p₀ p₁ p₂ p₃ p₄ p₅ p₆ (suc (suc (suc (suc (suc (suc (suc q))))))) l = absurd (omega arith)

module _ (k : ℕ) (block_is : (h : ElementHead) (b : Block k) → ok_block k b ≡ true → Is (erase_block k b) (part (once k (block h b)))) where
  counted_is : (e : Element (Block k)) (s : Shape) → quantifier_of e ≤ 6 → Is s (part (once k e))
      → Is (quantified (quantifier_of e) s) (part (element k e))
  unfolding quantified
  counted_is e s l i =
      seven (λ q. quantifier_of e ≡ q → Is (quantified q s) (part (element k e)))
      (λ q. is_once q i)
      (λ q. is_opt (inl q) i)
      (λ q. is_opt (inr q) i)
      (λ q. is_star (inl q) (is_many i))
      (λ q. is_star (inr q) (is_many i))
      (λ q. is_plus (inl q) i)
      (λ q. is_plus (inr q) i)
      (quantifier_of e)
      l
      refl

  leaf_is : (h : ElementHead) (l : Leaf) → Is (erase_leaf h.carried l) (part (once k (leaf h l)))
  unfolding erase_leaf
  leaf_is h epsilon = is_epsilon
  leaf_is h (action a) = is_action
  leaf_is h (predicate p) = is_predicate
  leaf_is h (call c) = is_call refl
  leaf_is h (token n) = is_token refl
  leaf_is h terminal = is_terminal refl
  leaf_is h end_of_input = is_end refl

  head_six : (h : ElementHead) → ok_head h ≡ true → h.quantifier ≤ 6
  unfolding ok_head
  head_six h t = leb-true h.quantifier 6 (first_so _ _ t)

  element_is : (e : Element (Block k)) → ok_element (ok_block k) e ≡ true → Is (erase_element (erase_block k) e) (part (element k e))
  unfolding ok_element_in erase_element
  element_is (leaf h l) t = counted_is (leaf h l) _ (head_six h (first_so _ (ok_leaf l) t)) (leaf_is h l)
  element_is (block h b) t =
      counted_is (block h b) _ (head_six h (first_so _ (ok_block k b) t)) (block_is h b (second_so (ok_head h) _ t))

  elements_are : (es : List (Element (Block k))) → all (ok_element (ok_block k)) es ≡ true
      → Is (erase_elements (erase_block k) es) (part (sequence k es))
  unfolding all
  elements_are [] t = is_nil
  elements_are (e ∷ es) t =
      is_seq (element_is e (first_so _ (all (ok_element (ok_block k)) es) t))
      (elements_are es (second_so (ok_element (ok_block k) e) _ t))

  alternatives_are : (as' : List (AlternativeOf (Block k))) → all (ok_alternative (ok_block k)) as' ≡ true
      → Is (alts (map (λ a. erase_elements (erase_block k) a.elements) as')) (part (choice k as'))
  unfolding all ok_alternative_in
  alternatives_are [] t = is_none
  alternatives_are (a ∷ as') t =
      let own = first_so (ok_alternative (ok_block k) a) (all (ok_alternative (ok_block k)) as') t in
      is_alt
      (elements_are a.elements
      (second_so (all ok_option a.options) _ (second_so (leb a.flag most_alternative_flag) _ own)))
      (alternatives_are as' (second_so (ok_alternative (ok_block k) a) _ t))

block_is_lem : (k : ℕ) (h : ElementHead) (b : Block k) → ok_block k b ≡ true → Is (erase_block k b) (part (once k (block h b)))
unfolding ok_block_in erase_block
block_is_lem zero h b t = absurd b
block_is_lem (suc k) h b t = is_block (alternatives_are k (block_is_lem k) b t)

choice_is : (k : ℕ) (b : Block (suc k)) → ok_block (suc k) b ≡ true → Is (erase_block (suc k) b) (part (choice k b))
unfolding ok_block_in erase_block
choice_is k b t = alternatives_are k (block_is_lem k) b t

module _ (d : ℕ) (rs : List (RuleOf (Block (suc d)))) (names : distinct (map (λ r. r.name) rs) ≡ true)
    (good : (r : RuleOf (Block (suc d))) → Memᴰ r rs → ok_block (suc d) r.body ≡ true) where
  abbrev Meaning : Goal → Word → Type 0
  Meaning (part p) w = Derives d rs p w
  Meaning (many k e) w = (n : ℕ) × Derives d rs (times k n e) w

  -- What every part of a shape means, of one string.
  abbrev Means : Shape → Word → Type 0
  Means s w = (g : Goal) → Is s g → Meaning g w

  one_time : {k : ℕ} {e : Element (Block k)} {w : Word} → Derives d rs (once k e) w → Derives d rs (times k 1 e) w
  one_time {w = w} x = once_more {n = 0} (append-nil w) x not_once

  plainly : {k : ℕ} {e : Element (Block k)} {w : Word} → quantifier_of e ≡ 0 → Derives d rs (once k e) w → Derives d rs (element k e) w
  plainly q x = counted (exactly_once q refl) (one_time x)

  at_eps : {g : Goal} → Is eps g → Meaning g []
  at_eps is_nil = no_element
  at_eps (is_once q i) = plainly q (at_eps i)
  at_eps is_epsilon = derives_epsilon
  at_eps is_action = derives_action
  at_eps is_predicate = derives_predicate
  at_eps (is_block i) = derives_block (at_eps i)

  at_symbol : {a : Symbol} {g : Goal} → Is (symbol a) g → Meaning g (a ∷ [])
  at_symbol (is_once q i) = plainly q (at_symbol i)
  at_symbol (is_token {k = k} {h = h} {n = n} e) = subst (λ a. Derives d rs (once k (leaf h (token n))) (a ∷ [])) e derives_token
  at_symbol (is_terminal {k = k} {h = h} e) = subst (λ a. Derives d rs (once k (leaf h terminal)) (a ∷ [])) e derives_terminal
  at_symbol (is_end {k = k} {h = h} e) = subst (λ a. Derives d rs (once k (leaf h end_of_input)) (a ∷ [])) e derives_end
  at_symbol (is_block i) = derives_block (at_symbol i)

  at_call : {n : ℕ} {b : Shape} {w : Word} → find (erase_rules (suc d) rs) n ≡ some b → Means b w → {g : Goal}
      → Is (call_of n) g → Meaning g w
  at_call f m (is_once q i) = plainly q (at_call f m i)
  at_call {n = n} f m (is_call e) =
      let x = found_rule (suc d) (λ r. r.name) rs n f in
      derives_call x.1 (x.2 ∙ sym e)
      (m (part (choice d x.0.body))
      (subst (λ s. Is s (part (choice d x.0.body))) x.3 (choice_is d x.0.body (good x.0 x.1))))
  at_call f m (is_block i) = derives_block (at_call f m i)

  at_unknown : {n : ℕ} → find (erase_rules (suc d) rs) n ≡ none → {g : Goal} → Is (call_of n) g → Meaning g (unknown_symbol n ∷ [])
  at_unknown f (is_once q i) = plainly q (at_unknown f i)
  at_unknown {n = n} f (is_call {k = k} {h = h} {c = c} e) =
      subst (λ n. Derives d rs (once k (leaf h (call c))) (unknown_symbol n ∷ [])) e
      (of_unknown (λ r m p.
      none-ne-some _ (sym f ∙ sym (ap (find (erase_rules (suc d) rs)) (p ∙ e)) ∙ rule_found (suc d) (λ r. r.name) rs names m)))
  at_unknown f (is_block i) = derives_block (at_unknown f i)

  at_seq : {s t : Shape} {u v w : Word} → u ++ v ≡ w → Means s u → Means t v → {g : Goal} → Is (seq s t) g → Meaning g w
  at_seq e m l (is_seq i j) = element_then e (m _ i) (l _ j)
  at_seq e m l (is_once q i) = plainly q (at_seq e m l i)
  at_seq e m l (is_block i) = derives_block (at_seq e m l i)

  behind : {k : ℕ} {a : AlternativeOf (Block k)} {as' : List (AlternativeOf (Block k))} {w : Word}
      → Derives d rs (choice k as') w → Derives d rs (choice k (a ∷ as')) w
  behind (chosen m x) = chosen (Memᴰ.tail m) x

  at_left : {s t : Shape} {w : Word} → Means s w → {g : Goal} → Is (alt s t) g → Meaning g w
  at_left m (is_alt i j) = chosen (Memᴰ.head refl) (m _ i)
  at_left m (is_once q i) = plainly q (at_left m i)
  at_left m (is_block i) = derives_block (at_left m i)

  at_right : {s t : Shape} {w : Word} → Means t w → {g : Goal} → Is (alt s t) g → Meaning g w
  at_right m (is_alt i j) = behind (m _ j)
  at_right m (is_once q i) = plainly q (at_right m i)
  at_right m (is_block i) = derives_block (at_right m i)

  at_absent : {s : Shape} {g : Goal} → Is (opt s) g → Meaning g []
  at_absent (is_once q i) = plainly q (at_absent i)
  at_absent (is_opt q i) = counted {n = 0} (at_most_once q (omega arith)) not_once
  at_absent (is_block i) = derives_block (at_absent i)

  at_present : {s : Shape} {w : Word} → Means s w → {g : Goal} → Is (opt s) g → Meaning g w
  at_present m (is_once q i) = plainly q (at_present m i)
  at_present m (is_opt q i) = counted {n = 1} (at_most_once q (omega arith)) (one_time (m _ i))
  at_present m (is_block i) = derives_block (at_present m i)

  at_none : {s : Shape} {g : Goal} → Is (star s) g → Meaning g []
  at_none (is_once q i) = plainly q (at_none i)
  at_none (is_star q i) = counted (any_times q) (at_none i).1
  at_none (is_many i) = (0, not_once)
  at_none (is_block i) = derives_block (at_none i)

  at_more : {s : Shape} {u v w : Word} → u ++ v ≡ w → Means s u → Means (star s) v → {g : Goal} → Is (star s) g → Meaning g w
  at_more e m l (is_once q i) = plainly q (at_more e m l i)
  at_more e m l (is_star q i) = counted (any_times q) (at_more e m l i).1
  at_more e m l (is_many {k = k} {e = x} i) = let r = l (many k x) (is_many i) in (suc r.0, once_more e (m _ i) r.1)
  at_more e m l (is_block i) = derives_block (at_more e m l i)

  at_some : {s : Shape} {u v w : Word} → u ++ v ≡ w → Means s u → Means (star s) v → {g : Goal} → Is (plus s) g → Meaning g w
  at_some e m l (is_once q i) = plainly q (at_some e m l i)
  at_some e m l (is_plus {k = k} {e = x} q i) =
      let r = l (many k x) (is_many i) in
      counted {n = suc r.0} (at_least_once q (omega arith)) (once_more e (m _ i) r.1)
  at_some e m l (is_block i) = derives_block (at_some e m l i)

  means : {s : Shape} {w : Word} → Der (erase_rules (suc d) rs) s w → Means s w
  means d_eps g i = at_eps i
  means d_symbol g i = at_symbol i
  means (d_call f x) g i = at_call f (means x) i
  means (d_unknown f) g i = at_unknown f i
  means (d_seq e x y) g i = at_seq e (means x) (means y) i
  means (d_left x) g i = at_left (means x) i
  means (d_right x) g i = at_right (means x) i
  means d_absent g i = at_absent i
  means (d_present x) g i = at_present (means x) i
  means d_none g i = at_none i
  means (d_more e x y) g i = at_more e (means x) (means y) i
  means (d_some e x y) g i = at_some e (means x) (means y) i

  pub from_block : (k : ℕ) (b : Block (suc k)) → ok_block (suc k) b ≡ true → {w : Word}
      → Der (erase_rules (suc d) rs) (erase_block (suc k) b) w → Derives d rs (choice k b) w
  from_block k b t x = means x (part (choice k b)) (choice_is k b t)

  pub from_elements : (k : ℕ) (es : List (Element (Block k))) → all (ok_element (ok_block k)) es ≡ true → {w : Word}
      → Der (erase_rules (suc d) rs) (erase_elements (erase_block k) es) w → Derives d rs (sequence k es) w
  from_elements k es t x = means x (part (sequence k es)) (elements_are k (block_is_lem k) es t)

  pub from_element : (k : ℕ) (e : Element (Block k)) → ok_element (ok_block k) e ≡ true → {w : Word}
      → Der (erase_rules (suc d) rs) (erase_element (erase_block k) e) w → Derives d rs (element k e) w
  from_element k e t x = means x (part (element k e)) (element_is k (block_is_lem k) e t)
