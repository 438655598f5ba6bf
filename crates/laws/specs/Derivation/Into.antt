-- What is derived by the second wording is derived by the first.
use Rattle.std.specs.Prelude.{ℕ, zero, suc, ◌≤◌, ◌≡◌, refl, true}
use Rattle.std.proofs.Common.{sym, ◌∙◌, arith}
use Rattle.std.proofs.Math.Path.{subst}
use Rattle.std.proofs.Math.Logic.{⊎_elim}
use mathlib.Core.List.{List, append-nil, map, Memᴰ}
use Rattle.std.proofs.Math.Option.{Option, none, some}
use Rattle.grammar.specs.Lists.{distinct}
use Rattle.grammar.specs.Tree.{Element, leaf, block, Block, RuleOf}
use Rattle.language.specs.Shape.{Word, Shape, eps, seq, opt, star, plus, alts, quantified, erase_leaf, erase_element, erase_elements}
use Rattle.language.specs.Shape.{erase_block, Shapes, find, erase_rules}
use Rattle.language.specs.Derive.{Der, d_eps, d_symbol, d_call, d_unknown, d_seq, d_left, d_right, d_absent, d_present, d_none, d_more}
use Rattle.language.specs.Derive.{d_some}
use Rattle.language.specs.Laws.Rules.{rule_found, found_rule}
use Rattle.laws.specs.Demands.Derivation.{Often, exactly_once, at_most_once, any_times, at_least_once, quantifier_of, Part, choice}
use Rattle.laws.specs.Demands.Derivation.{sequence, element, times, once, Derives, chosen, no_element, element_then, counted}
use Rattle.laws.specs.Demands.Derivation.{not_once, once_more, derives_epsilon, derives_action, derives_predicate, derives_call, of_unknown}
use Rattle.laws.specs.Demands.Derivation.{derives_token}
use Rattle.laws.specs.Demands.Derivation.{derives_terminal, derives_end, derives_block}

-- So often one after the other.
abbrev pub power : ℕ → Shape → Shape
power zero s = eps
power (suc n) s = seq s (power n s)

abbrev pub once_shape : (k : ℕ) → Element (Block k) → Shape
once_shape k (leaf h l) = erase_leaf h.carried l
once_shape k (block h b) = erase_block k b

abbrev pub shape_of : Part → Shape
shape_of (choice k as') = erase_block (suc k) as'
shape_of (sequence k es) = erase_elements (erase_block k) es
shape_of (element k e) = erase_element (erase_block k) e
shape_of (times k n e) = power n (once_shape k e)
shape_of (once k e) = once_shape k e

pub element_shape : (k : ℕ) (e : Element (Block k)) → quantified (quantifier_of e) (once_shape k e) ≡ erase_element (erase_block k) e
unfolding erase_element
element_shape k (leaf h l) = refl
element_shape k (block h b) = refl

module _ {G : Shapes} (s : Shape) where
  one_time : {w : Word} → Der G (power 1 s) w → Der G s w
  one_time (d_seq {u = u} e x d_eps) = subst (Der G s) (sym (append-nil u) ∙ e) x

  some_times : (n : ℕ) {w : Word} → Der G (power n s) w → Der G (star s) w
  some_times zero d_eps = d_none
  some_times (suc n) (d_seq e x y) = d_more e x (some_times n y)

  at_most : (n : ℕ) → n ≤ 1 → {w : Word} → Der G (power n s) w → Der G (opt s) w
  at_most zero l d_eps = d_absent
  at_most (suc zero) l x = d_present (one_time x)
  at_most (suc (suc n)) l x = absurd (omega arith)

  at_least : (n : ℕ) → 1 ≤ n → {w : Word} → Der G (power n s) w → Der G (plus s) w
  at_least zero l x = absurd (omega arith)
  at_least (suc n) l (d_seq e x y) = d_some e x (some_times n y)

  at_quantifier : {q : ℕ} (a : ℕ) → q ≡ a → {w : Word} → Der G (quantified a s) w → Der G (quantified q s) w
  at_quantifier a e {w} x = subst (λ q. Der G (quantified q s) w) (sym e) x

  as_often : {q n : ℕ} → Often q n → {w : Word} → Der G (power n s) w → Der G (quantified q s) w
  unfolding quantified
  as_often (exactly_once e m) {w} x = at_quantifier 0 e (one_time (subst (λ n. Der G (power n s) w) m x))
  as_often {q} {n} (at_most_once e l) x = ⊎_elim (λ e. at_quantifier 1 e (at_most n l x)) (λ e. at_quantifier 2 e (at_most n l x)) e
  as_often {q} {n} (any_times e) x = ⊎_elim (λ e. at_quantifier 3 e (some_times n x)) (λ e. at_quantifier 4 e (some_times n x)) e
  as_often {q} {n} (at_least_once e l) x = ⊎_elim (λ e. at_quantifier 5 e (at_least n l x)) (λ e. at_quantifier 6 e (at_least n l x)) e

one_of : {G : Shapes} {A : Type 0} (f : A → Shape) {a : A} {as' : List A} → Memᴰ a as' → {w : Word}
    → Der G (f a) w → Der G (alts (map f as')) w
one_of {G} f (Memᴰ.head e) {w} x = d_left (subst (λ a. Der G (f a) w) e x)
one_of f (Memᴰ.tail m) x = d_right (one_of f m x)

module _ (d : ℕ) (rs : List (RuleOf (Block (suc d)))) (names : distinct (map (λ r. r.name) rs) ≡ true) where
  no_rule : (n : ℕ) → ((r : RuleOf (Block (suc d))) → Memᴰ r rs → r.name ≡ n → ⊥) → find (erase_rules (suc d) rs) n ≡ none
  no_rule n h = go (find (erase_rules (suc d) rs) n) refl
    where
      go : (o : Option Shape) → find (erase_rules (suc d) rs) n ≡ o → find (erase_rules (suc d) rs) n ≡ none
      go none e = e
      go (some b) e = let x = found_rule (suc d) (λ r. r.name) rs n e in absurd (h x.0 x.1 x.2)

  pub into : {p : Part} {w : Word} → Derives d rs p w → Der (erase_rules (suc d) rs) (shape_of p) w
  unfolding erase_block erase_leaf
  into (chosen {k = k} m x) = one_of (λ a. erase_elements (erase_block k) a.elements) m (into x)
  into no_element = d_eps
  into (element_then e x y) = d_seq e (into x) (into y)
  into (counted {k = k} {e = e} {w = w} o x) =
      subst (λ s. Der (erase_rules (suc d) rs) s w) (element_shape k e) (as_often (once_shape k e) o (into x))
  into not_once = d_eps
  into (once_more e x y) = d_seq e (into x) (into y)
  into derives_epsilon = d_eps
  into derives_action = d_eps
  into derives_predicate = d_eps
  into (derives_call {r = r} m e x) =
      d_call (subst (λ n. find (erase_rules (suc d) rs) n ≡ some (erase_block (suc d) r.body)) e
      (rule_found (suc d) (λ r. r.name) rs names m)) (into x)
  into (of_unknown {c = c} h) = d_unknown (no_rule c.name h)
  into derives_token = d_symbol
  into derives_terminal = d_symbol
  into derives_end = d_symbol
  into (derives_block x) = into x
