-- The loop of a substitution: each list after a step is within the limits or beyond them, and every way in which the loop ends.
use Prim.Native.Nat.{ℕ, zero, suc, ◌+◌, ◌≤◌, ◌<◌}
use Rattle.std.proofs.Math.Path.{◌≡◌, refl}
use Rattle.std.proofs.Common.{sym, ◌∙◌, subst, arith}
use mathlib.Core.List.{List, map}
use Rattle.std.proofs.Math.Option.{Option, none, some, none-ne-some}
use Rattle.std.specs.Prelude.{Bool, ◌&&◌, length}
use Rattle.std.proofs.Math.Bool.{true, false}
use Rattle.std.proofs.Math.Dec.{leb}
use Rattle.std.specs.Cmp.{first_so, second_so}
use borrow.Author.Tests.{leb-true, leb-false}
use Rattle.grammar.specs.Lists.{total}
use Rattle.grammar.specs.Tree.{Block, RuleOf}
use Rattle.reference.specs.Analysis.{Grammar}
use Rattle.reference.specs.Substitute.{Clause, budget, Decided, decided, declined, overfull, ◌and_then◌, Limits, Planned, is_within}
use Rattle.reference.specs.Substitute.{Substituted, step, substitute}
use Rattle.laws.specs.Demands.Substitution.{Within, Beyond, many_alternatives, many_elements, many_options, Steps, no_steps_left, one_more}
use Rattle.laws.specs.Demands.Decision.{OfStep}
use Rattle.laws.specs.Planning.Decisions.{decided_inj}
use Rattle.laws.specs.Planning.Halts.{Halting, step_halts}

module _ (d : ℕ) (limits : Limits) (ps : List (Planned d)) where
  abbrev elements_in : ℕ
  elements_in = total (map (λ p. length p.elements) ps)

  abbrev options_in : ℕ
  options_in = total (map (λ p. length p.options) ps)

  pub within_true : is_within d limits ps ≡ true → Within limits ps
  unfolding is_within
  within_true t =
      let rest = second_so (leb (length ps) limits.alternatives) _ t in
      record {
        alternatives =
            leb-true (length ps) limits.alternatives
            (first_so _ (leb elements_in limits.elements && leb options_in limits.options) t);
        elements = leb-true elements_in limits.elements (first_so _ (leb options_in limits.options) rest);
        options = leb-true options_in limits.options (second_so (leb elements_in limits.elements) _ rest);
      }

  pub within_false : is_within d limits ps ≡ false → Beyond limits ps
  unfolding is_within
  within_false =
      go (leb (length ps) limits.alternatives) refl (leb elements_in limits.elements) refl (leb options_in limits.options) refl
    where
      go : (a : Bool) → leb (length ps) limits.alternatives ≡ a → (e : Bool) → leb elements_in limits.elements ≡ e
          → (o : Bool) → leb options_in limits.options ≡ o → (a && (e && o)) ≡ false → Beyond limits ps
      go false p e q o r f = many_alternatives (leb-false (length ps) limits.alternatives p)
      go true p false q o r f = many_elements (leb-false elements_in limits.elements q)
      go true p true q false r f = many_options (leb-false options_in limits.options r)
      go true p true q true r f = absurd (let z : ◌≡◌ {A = ℕ} 0 1 = cc in omega arith)

module _ (d : ℕ) (rs : List (RuleOf (Block (suc d)))) (g : Grammar) (cycle : List ℕ) (hub : ℕ) (limits : Limits) where
  abbrev next : List (Planned d) → Option (Decided (List (Planned d)))
  next = step d rs g cycle hub

  abbrev Path : ℕ → List (Planned d) → List (Planned d) → Type 0
  Path = Steps limits d rs g cycle hub

  -- How it ends, with the steps that were left and those made: no work is left; the budget is spent; a step declines; a step
  -- leads beyond the limits.
  pub data Loop (left made : ℕ) (ps : List (Planned d)) : Decided (Substituted d) → Type 0 where
    l_done : {n m : ℕ} {qs : List (Planned d)} → Path n ps qs → n ≤ left → made + n ≡ m → next qs ≡ none
        → Loop left made ps (decided (record { alternatives = qs; steps = m }))
    l_spent : {qs : List (Planned d)} → Path left ps qs → (next qs ≡ none → ⊥) → Loop left made ps (declined budget)
    l_stuck : {n : ℕ} {qs : List (Planned d)} {c : Clause} → Path n ps qs → n < left → next qs ≡ some (declined c) → OfStep c
        → Loop left made ps (declined c)
    l_full : {n : ℕ} {qs ks : List (Planned d)} → Path n ps qs → n < left → next qs ≡ some (decided ks) → Beyond limits ks
        → Loop left made ps overfull

  -- One step more in front.
  loop_more : {left made : ℕ} {ps qs : List (Planned d)} {o : Decided (Substituted d)} → next ps ≡ some (decided qs) → Within limits qs
      → Loop left (suc made) qs o
      → Loop (suc left) made ps o
  loop_more e w (l_done {n = n} {m = m} {qs = qs} p l s k) =
      l_done {n = suc n} {m = m} {qs = qs} (one_more e w p) (omega arith) (omega arith) k
  loop_more e w (l_spent p k) = l_spent (one_more e w p) k
  loop_more e w (l_stuck p l k c) = l_stuck (one_more e w p) (omega arith) k c
  loop_more e w (l_full p l k b) = l_full (one_more e w p) (omega arith) k b

  pub looped : (left made : ℕ) (ps : List (Planned d)) → Loop left made ps (substitute d rs g cycle hub limits left made ps)
  unfolding substitute
  looped zero made ps = go (next ps) refl
    where
      go : (o : Option (Decided (List (Planned d)))) → next ps ≡ o
          → Loop zero made ps (elim o as (λ y. Decided (Substituted d))
          [ none ↦ decided (record { alternatives = ps; steps = made }) | some r ↦ declined budget ])
      go none e = l_done {n = 0} {m = made} {qs = ps} no_steps_left (omega arith) (omega arith) e
      go (some r) e = l_spent no_steps_left (λ n. none-ne-some r (sym n ∙ e))
  looped (suc left) made ps = go (next ps) refl (step_halts d rs g cycle hub ps) (looped left (suc made))
    where
      judged : (qs : List (Planned d)) → next ps ≡ some (decided qs)
          → Loop left (suc made) qs (substitute d rs g cycle hub limits left (suc made) qs)
          → (b : Bool) → is_within d limits qs ≡ b
          → Loop (suc left) made ps (elim b as (λ y. Decided (Substituted d))
          [ true ↦ substitute d rs g cycle hub limits left (suc made) qs | false ↦ overfull ])
      judged qs e ih true t = loop_more e (within_true d limits qs t) ih
      judged qs e ih false t = l_full no_steps_left (omega arith) e (within_false d limits qs t)

      go : (o : Option (Decided (List (Planned d)))) → next ps ≡ o → Halting d o
          → ((qs : List (Planned d)) → Loop left (suc made) qs (substitute d rs g cycle hub limits left (suc made) qs))
          → Loop (suc left) made ps
          (elim o as (λ y. Decided (Substituted d)) [
            | none ↦ decided (record { alternatives = ps; steps = made })
            | some r ↦ r and_then λ qs. elim (is_within d limits qs)
                [ true ↦ substitute d rs g cycle hub limits left (suc made) qs | false ↦ overfull ]
          ])
      go none e h ih = l_done {n = 0} {m = made} {qs = ps} no_steps_left (omega arith) (omega arith) e
      go (some (decided qs)) e h ih = judged qs e (ih qs) (is_within d limits qs) refl
      go (some (declined c)) e h ih = l_stuck no_steps_left (omega arith) e h
      go (some overfull) e h ih = absurd h

  -- It ends with a list: its steps, and no work left.
  pub substituted : (left : ℕ) (ps : List (Planned d)) (m : Substituted d) → substitute d rs g cycle hub limits left 0 ps ≡ decided m
      → Path m.steps ps m.alternatives
  substituted left ps m e = go (substitute d rs g cycle hub limits left 0 ps) (looped left 0 ps) e
    where
      go : (o : Decided (Substituted d)) → Loop left 0 ps o → o ≡ decided m → Path m.steps ps m.alternatives
      go o (l_done {n = n} {m = k} {qs = qs} p l s x) f =
          let same : record { alternatives = qs; steps = k } ≡ m = decided_inj f in
          subst (λ m. Path m.steps ps m.alternatives) same (subst (λ n. Path n ps qs) (omega arith) p)
      go o (l_spent p x) f = absurd (let z : ◌≡◌ {A = ℕ} 0 1 = cc in omega arith)
      go o (l_stuck p l x y) f = absurd (let z : ◌≡◌ {A = ℕ} 0 1 = cc in omega arith)
      go o (l_full p l x y) f = absurd (let z : ◌≡◌ {A = ℕ} 0 1 = cc in omega arith)
