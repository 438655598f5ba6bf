-- A whole substitution does not look at names but for which are equal, nor at carried numbers.
use Prim.Native.Nat.{ℕ, zero, suc, ◌*◌, max}
use Rattle.std.specs.Prelude.{◌≡◌, true, false, ◌&&◌}
use Rattle.std.proofs.Math.Path.{refl, ap, ap₂, fun_ext}
use Rattle.std.proofs.Common.{◌∙◌}
use mathlib.Core.List.{List, map, map-map}
use Rattle.std.proofs.Math.Option.{Option, none, some}
use Rattle.std.proofs.Math.Bool.{Bool}
use Rattle.std.proofs.Math.ListN.{length, length-map}
use Rattle.std.proofs.Math.Dec.{leb}
use Rattle.grammar.specs.Lists.{member, keep, total}
use Rattle.grammar.specs.Tree.{Block, RuleOf}
use Rattle.reference.specs.Analysis.{Grammar}
use Rattle.reference.specs.Substitute.{Limits, Decided, decided, declined, overfull, ◌and_then◌, budget, Planned, Substituted, is_within}
use Rattle.reference.specs.Substitute.{substitution_budget, step, substitute}
use Rattle.laws.specs.Lists.Mapped.{keep_same}
use Rattle.laws.specs.Demands.Marks.{on_option, on_alternative, on_rule, on_block}
use Rattle.laws.specs.Sameness.Marked.{on_grammar, on_rules}
use Rattle.laws.specs.Sameness.Decided.{on_decided}
use Rattle.laws.specs.Sameness.Walks.{on}
use Rattle.laws.specs.Sameness.Steps.{on_planned, on_reply, step_on}

module _ (f r pr : ℕ → ℕ) (one : (a b : ℕ) → f a ≡ f b → a ≡ b) (d : ℕ) where
  -- What a substitution leaves, changed.
  abbrev pub on_substituted : Substituted d → Substituted d
  on_substituted m = record { alternatives = map (on_planned f r pr one d) m.alternatives; steps = m.steps }

  abbrev on_all : List (Planned d) → List (Planned d)
  on_all = map (on_planned f r pr one d)

  -- A planned list is within the limits where it was, and the budget is the same.
  within_on : (limits : Limits) (ps : List (Planned d)) → is_within d limits (on_all ps) ≡ is_within d limits ps
  unfolding is_within
  within_on limits ps =
      ap₂ (λ n b. leb n limits.alternatives && b) (length-map ps (on_planned f r pr one d))
      (ap₂ (λ m n. leb (total m) limits.elements && leb (total n) limits.options)
      (map-map (λ p. length p.elements) (on_planned f r pr one d) ps
      ∙ ap (λ k. map k ps) (fun_ext (λ p. length-map p.elements (on f r pr one d))))
      (map-map (λ p. length p.options) (on_planned f r pr one d) ps
      ∙ ap (λ k. map k ps) (fun_ext (λ p. length-map p.options (on_option f r pr)))))

  pub budget_on : (limits : Limits) (rs : List (RuleOf (Block (suc d)))) (cycle : List ℕ)
      → substitution_budget d limits (on_rules f r pr one (suc d) rs) cycle ≡ substitution_budget d limits rs cycle
  unfolding substitution_budget on_block
  budget_on limits rs cycle =
      let on = on_rule f r pr (on_block f r pr (suc d)) in
      let test : RuleOf (Block (suc d)) → Bool = λ q. member q.id cycle in
      ap (λ l. let n = total l in max (n * n) limits.budget_floor)
      (ap (map (λ q. length q.body)) (keep_same on test test (λ q. refl) rs)
      ∙ map-map (λ q. length q.body) on (keep test rs)
      ∙ ap (λ k. map k (keep test rs)) (fun_ext (λ q. length-map q.body (on_alternative f r pr (on_block f r pr d)))))

  module _ (rs : List (RuleOf (Block (suc d)))) (g : Grammar) (cycle : List ℕ) (hub : ℕ) (limits : Limits) where
    -- What is left of the steps, on the changed rules and on the rules.
    abbrev Rest : Type 0
    Rest = List (Planned d) → Decided (Substituted d)

    -- A list within the limits goes on; another ends it.
    abbrev within : Rest → List (Planned d) → Decided (Substituted d)
    within rest qs = elim (is_within d limits qs) [ true ↦ rest qs | false ↦ overfull ]

    within_rest : (rest rest' : Rest) → ((qs : List (Planned d)) → rest' (on_all qs) ≡ on_decided on_substituted (rest qs))
        → (qs : List (Planned d)) → within rest' (on_all qs) ≡ on_decided on_substituted (within rest qs)
    within_rest rest rest' ih qs =
        ap {B = Decided (Substituted d)}
        (λ b. elim b as (λ y. Decided (Substituted d)) [ true ↦ rest' (on_all qs) | false ↦ overfull ]) (within_on limits qs)
        ∙ go (is_within d limits qs)
      where
        go : (b : Bool) → (elim b as (λ y. Decided (Substituted d)) [ true ↦ rest' (on_all qs) | false ↦ overfull ])
            ≡ on_decided on_substituted (elim b as (λ y. Decided (Substituted d)) [ true ↦ rest qs | false ↦ overfull ])
        go true = ih qs
        go false = refl

    -- One turn: no step was left to make, or one was made.
    abbrev turn : ℕ → (Decided (List (Planned d)) → Decided (Substituted d)) → List (Planned d) → Option (Decided (List (Planned d)))
        → Decided (Substituted d)
    turn made next ps x = elim x [ none ↦ decided (record { alternatives = ps; steps = made }) | some a ↦ next a ]

    -- All the turns.
    pub substitute_on : (left made : ℕ) (ps : List (Planned d))
        → substitute d (on_rules f r pr one (suc d) rs) (on_grammar f r pr one g) cycle hub limits left made
        (map (on_planned f r pr one d) ps)
        ≡ on_decided on_substituted (substitute d rs g cycle hub limits left made ps)
    unfolding substitute
    substitute_on zero made ps =
        ap (turn made (λ a. declined budget) (on_all ps)) (step_on f r pr one d rs g cycle hub ps) ∙ go (step d rs g cycle hub ps)
      where
        go : (x : Option (Decided (List (Planned d)))) → turn made (λ a. declined budget) (on_all ps) (on_reply f r pr one d x)
            ≡ on_decided on_substituted (turn made (λ a. declined budget) ps x)
        go none = refl
        go (some a) = refl
    substitute_on (suc left) made ps =
        ap (turn made (λ a. a and_then within rest') (on_all ps)) (step_on f r pr one d rs g cycle hub ps)
        ∙ go (within_rest rest rest' (substitute_on left (suc made))) (step d rs g cycle hub ps)
      where
        rest : Rest
        rest = substitute d rs g cycle hub limits left (suc made)

        rest' : Rest
        rest' = substitute d (on_rules f r pr one (suc d) rs) (on_grammar f r pr one g) cycle hub limits left (suc made)

        go : ((qs : List (Planned d)) → within rest' (on_all qs) ≡ on_decided on_substituted (within rest qs))
            → (x : Option (Decided (List (Planned d))))
            → turn made (λ a. a and_then within rest') (on_all ps) (on_reply f r pr one d x)
            ≡ on_decided on_substituted (turn made (λ a. a and_then within rest) ps x)
        go ih none = refl
        go ih (some (decided qs)) = ih qs
        go ih (some (declined c)) = refl
        go ih (some overfull) = refl
