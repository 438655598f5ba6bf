-- The second wording step by step.
use Rattle.std.specs.Prelude.{ℕ, zero, suc, ◌≤◌, ◌≡◌, refl, ◌⊎◌}
use Rattle.std.proofs.Common.{sym, ap, ◌∙◌, subst, inl, inr, ⊎_elim, arith}
use mathlib.Core.List.{List, [], ◌∷◌, ◌++◌, append-nil, Memᴰ}
use Rattle.grammar.specs.Tree.{ElementHead, Action, Predicate, Call, Element, leaf, block, epsilon, action, predicate, call, token}
use Rattle.grammar.specs.Tree.{terminal, end_of_input, AlternativeOf, Block, RuleOf}
use Rattle.language.specs.Shape.{token_symbol, unknown_symbol, other_symbol, end_symbol, Word}
use Rattle.laws.specs.Demands.Derivation.{Often, exactly_once, at_most_once, any_times, at_least_once, quantifier_of, choice}
use Rattle.laws.specs.Demands.Derivation.{sequence, element, times, once, Derives, chosen, no_element, element_then, counted}
use Rattle.laws.specs.Demands.Derivation.{not_once, once_more, derives_epsilon, derives_action, derives_predicate, derives_call, of_unknown}
use Rattle.laws.specs.Demands.Derivation.{derives_token}
use Rattle.laws.specs.Demands.Derivation.{derives_terminal, derives_end, derives_block, StepsTold}

-- How often, by the quantifier: other quantifiers say nothing here.
often_once : {q n : ℕ} → Often q n → q ≡ 0 → n ≡ 1
often_once (exactly_once e m) z = m
often_once (at_most_once e l) z = absurd (⊎_elim (λ e. omega arith) (λ e. omega arith) e)
often_once (any_times e) z = absurd (⊎_elim (λ e. omega arith) (λ e. omega arith) e)
often_once (at_least_once e l) z = absurd (⊎_elim (λ e. omega arith) (λ e. omega arith) e)

often_most : {q n : ℕ} → Often q n → 1 ≤ q → q ≤ 2 → n ≤ 1
often_most (exactly_once e m) l k = omega arith
often_most (at_most_once e m) l k = m
often_most (any_times e) l k = absurd (⊎_elim (λ e. omega arith) (λ e. omega arith) e)
often_most (at_least_once e m) l k = absurd (⊎_elim (λ e. omega arith) (λ e. omega arith) e)

often_least : {q n : ℕ} → Often q n → 5 ≤ q → 1 ≤ n
often_least (exactly_once e m) l = omega arith
often_least (at_most_once e m) l = absurd (⊎_elim (λ e. omega arith) (λ e. omega arith) e)
often_least (any_times e) l = absurd (⊎_elim (λ e. omega arith) (λ e. omega arith) e)
often_least (at_least_once e m) l = m

module _ (d : ℕ) (rs : List (RuleOf (Block (suc d)))) where
  to_choice : {k : ℕ} {as' : List (AlternativeOf (Block k))} {w : Word} → Derives d rs (choice k as') w
      → (a : AlternativeOf (Block k)) × Memᴰ a as' × Derives d rs (sequence k a.elements) w
  to_choice (chosen {a = a} m x) = (a, m, x)

  to_none : {k : ℕ} {w : Word} → Derives d rs (sequence k []) w → w ≡ []
  to_none no_element = refl

  to_more : {k : ℕ} {e : Element (Block k)} {es : List (Element (Block k))} {w : Word} → Derives d rs (sequence k (e ∷ es)) w
      → (u : Word) × (v : Word) × (u ++ v ≡ w) × Derives d rs (element k e) u × Derives d rs (sequence k es) v
  to_more (element_then {u = u} {v = v} p x y) = (u, v, p, x, y)

  to_counted : {k : ℕ} {e : Element (Block k)} {w : Word} → Derives d rs (element k e) w
      → (n : ℕ) × Often (quantifier_of e) n × Derives d rs (times k n e) w
  to_counted (counted {n = n} o x) = (n, o, x)

  to_no_time : {k : ℕ} {e : Element (Block k)} {w : Word} → Derives d rs (times k 0 e) w → w ≡ []
  to_no_time not_once = refl

  to_time : {k n : ℕ} {e : Element (Block k)} {w : Word} → Derives d rs (times k (suc n) e) w
      → (u : Word) × (v : Word) × (u ++ v ≡ w) × Derives d rs (once k e) u × Derives d rs (times k n e) v
  to_time (once_more {u = u} {v = v} p x y) = (u, v, p, x, y)

  to_one : {k : ℕ} {e : Element (Block k)} {w : Word} → Derives d rs (times k 1 e) w → Derives d rs (once k e) w
  to_one {k} {e} x =
      let t = to_time {n = 0} x in
      subst (Derives d rs (once k e)) (sym (append-nil t.0) ∙ sym (ap (λ v. t.0 ++ v) (to_no_time t.4)) ∙ t.2) t.3

  from_one : {k : ℕ} {e : Element (Block k)} {w : Word} → Derives d rs (once k e) w → Derives d rs (times k 1 e) w
  from_one {w = w} x = once_more {n = 0} (append-nil w) x not_once

  nothing_at : {k : ℕ} {e : Element (Block k)} {w : Word} → w ≡ [] → Derives d rs (times k 0 e) w
  nothing_at {k} {e} z = subst (Derives d rs (times k 0 e)) (sym z) not_once

  once_only_lem : {k : ℕ} (e : Element (Block k)) → quantifier_of e ≡ 0 → {w : Word} → Derives d rs (element k e) w
      → Derives d rs (once k e) w
  once_only_lem {k} e q {w} x =
      let t = to_counted x in
      to_one (subst (λ n. Derives d rs (times k n e) w) (often_once t.1 q) t.2)

  most : {k : ℕ} {e : Element (Block k)} (n : ℕ) → n ≤ 1 → {w : Word} → Derives d rs (times k n e) w → (w ≡ []) ⊎ Derives d rs (once k e) w
  most zero l x = inl (to_no_time x)
  most (suc zero) l x = inr (to_one x)
  most (suc (suc n)) l x = absurd (omega arith)

  least : {k : ℕ} {e : Element (Block k)} (n : ℕ) → 1 ≤ n → {w : Word} → Derives d rs (times k n e) w
      → (m : ℕ) × Derives d rs (times k (suc m) e) w
  least zero l x = absurd (omega arith)
  least (suc n) l x = (n, x)

  optional_only : {k : ℕ} (e : Element (Block k)) → (quantifier_of e ≡ 1) ⊎ (quantifier_of e ≡ 2) → {w : Word}
      → Derives d rs (element k e) w
      → (w ≡ []) ⊎ Derives d rs (once k e) w
  optional_only e q x =
      let t = to_counted x in
      most t.0
      (⊎_elim (λ q. often_most t.1 (omega arith) (omega arith)) (λ q. often_most t.1 (omega arith) (omega arith)) q) t.2

  some_only : {k : ℕ} (e : Element (Block k)) → (quantifier_of e ≡ 5) ⊎ (quantifier_of e ≡ 6) → {w : Word} → Derives d rs (element k e) w
      → (n : ℕ) × Derives d rs (times k (suc n) e) w
  some_only e q x =
      let t = to_counted x in
      least t.0 (⊎_elim (λ q. often_least t.1 (omega arith)) (λ q. often_least t.1 (omega arith)) q) t.2

  to_epsilon : {k : ℕ} {h : ElementHead} {w : Word} → Derives d rs (once k (leaf h epsilon)) w → w ≡ []
  to_epsilon derives_epsilon = refl

  to_action : {k : ℕ} {h : ElementHead} {x : Action} {w : Word} → Derives d rs (once k (leaf h (action x))) w → w ≡ []
  to_action derives_action = refl

  to_predicate : {k : ℕ} {h : ElementHead} {x : Predicate} {w : Word} → Derives d rs (once k (leaf h (predicate x))) w → w ≡ []
  to_predicate derives_predicate = refl

  to_call : {k : ℕ} {h : ElementHead} {c : Call} {w : Word} → Derives d rs (once k (leaf h (call c))) w
      → ((r : RuleOf (Block (suc d))) × Memᴰ r rs × (r.name ≡ c.name) × Derives d rs (choice d r.body) w)
      ⊎ (((r : RuleOf (Block (suc d))) → Memᴰ r rs → r.name ≡ c.name → ⊥) × (w ≡ unknown_symbol c.name ∷ []))
  to_call (derives_call {r = r} m e x) = inl (r, m, e, x)
  to_call (of_unknown f) = inr (f, refl)

  to_token : {k : ℕ} {h : ElementHead} {n : ℕ} {w : Word} → Derives d rs (once k (leaf h (token n))) w → w ≡ token_symbol n ∷ []
  to_token derives_token = refl

  to_terminal : {k : ℕ} {h : ElementHead} {w : Word} → Derives d rs (once k (leaf h terminal)) w → w ≡ other_symbol h.carried ∷ []
  to_terminal derives_terminal = refl

  to_end : {k : ℕ} {h : ElementHead} {w : Word} → Derives d rs (once k (leaf h end_of_input)) w → w ≡ end_symbol ∷ []
  to_end derives_end = refl

  to_block : {k : ℕ} {h : ElementHead} {b : Block (suc k)} {w : Word} → Derives d rs (once (suc k) (block h b)) w
      → Derives d rs (choice k b) w
  to_block (derives_block x) = x

  pub steps_told : StepsTold d rs
  steps_told =
      record {
        of_choice = λ k as' w. (to_choice, λ x. chosen x.1 x.2);
        of_none = λ k w. (to_none, λ z. subst (Derives d rs (sequence k [])) (sym z) no_element);
        of_more = λ k e es w. (to_more, λ x. element_then x.2 x.3 x.4);
        once_only = λ k e q w. (once_only_lem e q, λ x. counted (exactly_once q refl) (from_one x));
        optional = λ k e q w. (
          optional_only e q,
          ⊎_elim (λ z. counted {n = 0} (at_most_once q (omega arith)) (nothing_at z))
              (λ x. counted {n = 1} (at_most_once q (omega arith)) (from_one x)),
        );
        any_number = λ k e q w. (λ x. let t = to_counted x in (t.0, t.2), λ x. counted (any_times q) x.1);
        some_number = λ k e q w. (some_only e q, λ x. counted {n = suc x.0} (at_least_once q (omega arith)) x.1);
        no_time = λ k e w. (to_no_time, nothing_at);
        one_time_more = λ k n e w. (to_time, λ x. once_more x.2 x.3 x.4);
        of_epsilon = λ k h w. (to_epsilon, λ z. subst (Derives d rs (once k (leaf h epsilon))) (sym z) derives_epsilon);
        of_action = λ k h x w. (to_action, λ z. subst (Derives d rs (once k (leaf h (action x)))) (sym z) derives_action);
        of_predicate = λ k h x w. (to_predicate, λ z. subst (Derives d rs (once k (leaf h (predicate x)))) (sym z) derives_predicate);
        of_call = λ k h c w. (
          to_call,
          ⊎_elim (λ x. derives_call x.1 x.2 x.3)
              (λ x. subst (Derives d rs (once k (leaf h (call c)))) (sym x.1) (of_unknown x.0)),
        );
        of_token = λ k h n w. (to_token, λ z. subst (Derives d rs (once k (leaf h (token n)))) (sym z) derives_token);
        of_terminal = λ k h w. (to_terminal, λ z. subst (Derives d rs (once k (leaf h terminal))) (sym z) derives_terminal);
        of_end = λ k h w. (to_end, λ z. subst (Derives d rs (once k (leaf h end_of_input))) (sym z) derives_end);
        of_block = λ k h b w. (to_block, derives_block);
      }
