-- What a substitution rests on, by places and by ids.
use Prim.Native.Nat.{ℕ}
use mathlib.Core.Path.{refl, sym, ◌∙◌}
use mathlib.Core.List.{List}
use native.Mathlib.Omega.{arith}
use lib.ListN.{get_or}
use lib.Dec.{eqb}
use borrow.Author.Tests.{eqb-true, eqb-false, eq-eqb, ne_eqb}
use Rattle.grammar.specs.Laws.Parse.{either}
use Rattle.reference.specs.Analysis.{grammar_of}
use Rattle.reference.specs.Substitute.{Limits}
use Rattle.hub.proofs.Laws.Grounds.{row_bit, same_place, target_at, target_none}
use Rattle.steps.specs.Corner.{CycleBy}
use Rattle.turns.specs.Ground.{Ground, task_of}
use Rattle.steps.specs.declared.cycle.Cycle.{Cycle}

module _ {ws : List ℕ} {end : ℕ} {names places : List ℕ} {c : Cycle} (b : Ground ws end names places c) where
  pub cycle_by : (limits : Limits) → CycleBy (task_of b limits).grammar b.cycle b.rules.ids names c
  unfolding grammar_of
  cycle_by limits =
      record {
        unknown = λ m w. target_none b.standing b.is_cycle.row b.empty m (rw (b.named, ← b.count) w);
        known = λ m t w. target_at b.standing b.is_cycle.row b.empty m t (rw (b.named, ← b.count) w);
        members = λ t l. sym (row_bit b.is_cycle.row (let z = b.count in omega arith));
        hub = λ t l. either (eqb t c.hub) (λ e.
            rw (eqb-true t c.hub e)
            (eq-eqb (get_or b.rules.ids c.hub 0) (get_or b.rules.ids c.hub 0) refl ∙ sym (eq-eqb c.hub c.hub refl)))
            (λ e.
            ne_eqb _ _ (λ f. eqb-false t c.hub e (same_place b.standing (let z = b.count in omega arith) b.hub f)) ∙ sym e);
      }
