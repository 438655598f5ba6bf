-- No plan removes its hub.
use Prim.Native.Nat.{ℕ, zero, suc, ◌%◌}
use Rattle.std.specs.Prelude.{◌≡◌, Bool, ◌||◌, length}
use Rattle.std.proofs.Math.Path.{refl, sym, subst}
use Rattle.std.proofs.Common.{ap, ◌∙◌}
use mathlib.Core.List.{List, [], ◌∷◌}
use Rattle.std.proofs.Math.Bool.{true, false, not, true≢false}
use Rattle.std.proofs.Math.Dec.{eqb}
use borrow.Author.Tests.{eq-eqb, eqb-true}
use Rattle.grammar.specs.Tree.{Block, RuleOf}
use Rattle.grammar.specs.Corners.{Corners}
use Rattle.grammar.specs.Lists.{member, keep, push, rounds, all}
use Rattle.grammar.specs.Laws.Parse.{either}
use Rattle.reference.specs.Analysis.{Grammar, rule_with_id}
use Rattle.reference.specs.Substitute.{Clause, no_hub, hub_with_arguments, satellite_not_inlinable, no_steps, not_directly_rewritable}
use Rattle.reference.specs.Substitute.{Decided}
use Rattle.reference.specs.Substitute.{decided, declined, overfull, ◌and_then◌, require, found, Planned, Limits, Substituted}
use Rattle.reference.specs.Substitute.{substitute, substitution_budget}
use Rattle.reference.specs.Plan.{CyclePlan, plan_cycle, choose_hub, with_hub, with_rule, inlinable, substituting, last_tests, plan_of}
use Rattle.reference.specs.Plan.{satellites}
use Rattle.reference.specs.Plan.{satellite_is_inlinable, planned_hub_is_directly_rewritable, as_they_are, removable_round}
use Rattle.reference.specs.Plan.{removable_satellites}

-- What is not in a list is in no part of it.
module _ (x : ℕ) where
  absent_push : (b : Bool) (y : ℕ) (ys : List ℕ) → eqb x y ≡ false → member x ys ≡ false → member x (push b y ys) ≡ false
  unfolding member
  absent_push true y ys e m = rw (e, m)
  absent_push false y ys e m = m

  absent_keep : (test : ℕ → Bool) (ys : List ℕ) → member x ys ≡ false → member x (keep test ys) ≡ false
  unfolding member keep
  absent_keep test [] m = refl
  absent_keep test (y ∷ ys) m =
      either (eqb x y)
      (λ t. absurd (let z : true ≡ false = sym (ap (λ b. b || member x ys) t) ∙ m in true≢false z))
      (λ f. absent_push (test y) y (keep test ys) f (absent_keep test ys (sym (ap (λ b. b || member x ys) f) ∙ m)))

  absent_rounds : (round : List ℕ → List ℕ) → ((ys : List ℕ) → member x ys ≡ false → member x (round ys) ≡ false) → (n : ℕ) (ys : List ℕ)
      → member x ys ≡ false → member x (rounds round n ys) ≡ false
  unfolding rounds
  absent_rounds round h zero ys m = m
  absent_rounds round h (suc n) ys m =
      either (eqb (length (round ys)) (length ys))
      (λ t. rw (t, rounds) m)
      (λ f. rw (f, rounds) (absent_rounds round h n (round ys) (h ys m)))

  -- The test leaves it out.
  absent_test : (also : ℕ → Bool) (ys : List ℕ) → member x (keep (λ i. not (eqb i x || also i)) ys) ≡ false
  unfolding member keep
  absent_test also [] = refl
  absent_test also (y ∷ ys) =
      either (eqb x y)
      (λ t.
      let e : eqb y x ≡ true = eq-eqb y x (sym (eqb-true x y t)) in
      subst (λ b. member x (push (not (b || also y)) y (keep (λ i. not (eqb i x || also i)) ys)) ≡ false) (sym e) (absent_test also ys))
      (λ f. absent_push (not (eqb y x || also y)) y (keep (λ i. not (eqb i x || also i)) ys) f (absent_test also ys))

pub hub_stays_lem : (g : Grammar) (d : ℕ) (rs : List (RuleOf (Block (suc d)))) (hub : ℕ) (ps : List (Planned d)) (cycle preserved : List ℕ)
    → member hub (removable_satellites g d rs hub ps cycle preserved) ≡ false
unfolding removable_satellites removable_round
hub_stays_lem g d rs hub ps cycle preserved =
    absent_rounds hub (removable_round g d rs hub ps) (λ ys m. absent_keep hub _ ys m) (length cycle) _
    (absent_test hub (λ i. member i preserved) cycle)

-- So it is with every decision that is a plan.
module _ (d : ℕ) where
  abbrev Stays : Decided (CyclePlan d) → Type 0
  Stays (decided plan) = member plan.hub plan.removable ≡ false
  Stays (declined c) = Unit {0}
  Stays overfull = Unit {0}

  stays_then : {A : Type 0} (m : Decided A) (f : A → Decided (CyclePlan d)) → ((a : A) → Stays (f a)) → Stays (m and_then f)
  stays_then (decided a) f h = h a
  stays_then (declined c) f h = tt
  stays_then overfull f h = tt

  stays_if : (c : Clause) (b : Bool) (f : Unit {0} → Decided (CyclePlan d)) → Stays (f tt) → Stays (require c b f)
  stays_if c true f h = h
  stays_if c false f h = tt

  module _ (limits : Limits) (c : Corners) (g : Grammar) (rs : List (RuleOf (Block (suc d)))) (preserved cycle : List ℕ) where
    at_last : (hub : ℕ) (made : Substituted d) → Stays (last_tests limits c g d rs preserved cycle hub made)
    at_last hub made =
        stays_if no_steps (not (eqb made.steps 0))
        (λ _.
        require not_directly_rewritable (planned_hub_is_directly_rewritable c g cycle hub d made.alternatives) λ _.
        decided (plan_of d rs cycle g preserved hub made))
        (stays_if not_directly_rewritable (planned_hub_is_directly_rewritable c g cycle hub d made.alternatives)
        (λ _. decided (plan_of d rs cycle g preserved hub made)) (hub_stays_lem g d rs hub made.alternatives cycle preserved))

    with_rule_lem : (hub : ℕ) (r : RuleOf (Block (suc d))) → Stays (with_rule limits c g d rs preserved cycle hub r)
    with_rule_lem hub r =
        stays_if hub_with_arguments (eqb (r.flags % 2) 0) (λ _. inlinable limits c g d rs preserved cycle hub r)
        (stays_if satellite_not_inlinable (all (satellite_is_inlinable d) (satellites d rs cycle hub))
        (λ _. substituting limits c g d rs preserved cycle hub r)
        (stays_then (substitute d rs g cycle hub limits (substitution_budget d limits rs cycle) 0 (as_they_are r.body))
        (last_tests limits c g d rs preserved cycle hub) (at_last hub)))

    pub plan_stays : (plan : CyclePlan d) → plan_cycle limits c g d rs preserved cycle ≡ decided plan
        → member plan.hub plan.removable ≡ false
    unfolding plan_cycle
    plan_stays plan e =
        subst Stays e
        (stays_then (found no_hub (choose_hub g cycle d rs preserved)) (with_hub limits c g d rs preserved cycle)
        λ hub. stays_then (found no_hub (rule_with_id rs hub)) (with_rule limits c g d rs preserved cycle hub) (with_rule_lem hub))
