-- From the substitution on: what it rests on, and what each of its answers comes to.
use Prim.Native.Nat.{ℕ, ◌<◌}
use mathlib.Core.Path.{◌≡◌, refl, sym, ap, ◌∙◌, subst}
use mathlib.Core.List.{List}
use mathlib.Core.Bool.{true, false, not, true≢false}
use lib.ListN.{get_or}
use lib.Dec.{eqb}
use borrow.Author.Tests.{ne_eqb}
use Rattle.grammar.specs.Tree.{inner_depth}
use Rattle.grammar.specs.Lists.{member}
use Rattle.grammar.specs.Laws.Parse.{either}
use Rattle.grammar.specs.Corners.{Corners}
use Rattle.graph.specs.Members.{keep_in}
use Rattle.reference.specs.Substitute.{Decided, ◌and_then◌, Substituted, substitute, substitution_budget}
use Rattle.reference.specs.Plan.{CyclePlan, satellite_is_inlinable, as_they_are, last_tests}
use Rattle.records.specs.declared.rules.Rules.{Rules}
use Rattle.reach.specs.Rows.{bit}
use Rattle.analysis.specs.Facts.{Among, Standing}
use Rattle.analysis.specs.declared.rounds.Marks.{Marks}
use Rattle.analysis.proofs.Laws.Standing.{id_at}
use Rattle.analysis.proofs.Laws.Rounded.{is_among}
use Rattle.hub.specs.Budget.{IsBudget}
use Rattle.hub.proofs.Laws.Lists.{all_false}
use Rattle.hub.proofs.Laws.Grounds.{row_bit, at_place, place_low, same_place}
use Rattle.planned.specs.List.{Laid, AllIn}
use Rattle.turns.specs.Ground.{Ground}
use Rattle.turns.specs.Midway.{limits_of}
use Rattle.substitution.specs.Run.{MadeTo, MadeOf}
use Rattle.turns.specs.declared.limits.Limits.{Limits}
use Rattle.substitution.specs.declared.turning.Done.{Done}
use Rattle.std.specs.Prelude.{Option, Some, None, Result, Ok, Err}
use Rattle.std.proofs.lemmas.Bool.{and_from}
use Rattle.steps.specs.declared.cycle.Cycle.{Cycle}
use Rattle.steps.specs.declared.decide.Clause.TheVariants.{NoSteps}
use Rattle.turns.specs.Turn.{UnplannedBy}
use Rattle.turns.specs.declared.turn.Unplanned.{Unplanned}
use Rattle.turns.specs.declared.turn.Unplanned.TheVariants.{Declined, Overfull}
use Rattle.plan.specs.declared.plan.Plan.{Plan}
use Rattle.plan.specs.Known.{HubKnown, known_rules, known_grammar}
use Rattle.plan.specs.Decision.{DecidedAs, PlanMade, PlanLast}
use Rattle.plan.proofs.Laws.Last.{nullable_row}

-- What follows a decline, or refusal 7.
unplanned_then : {A B : Type 0} (m : Decided A) (f : A → Decided B) (n : Unplanned) → UnplannedBy m n → UnplannedBy (m and_then f) n
unplanned_then m f (Declined c) d = record { is = rw d.is refl }
unplanned_then m f Overfull d = rw d refl

module _ {ws : List ℕ} {end : ℕ} {rules : Rules} {reading : Corners} {calls : List (List ℕ)} {marks : Marks} {kept members : List ℕ}
    {hub : ℕ} where
  module _ (x : HubKnown ws end rules reading calls marks kept members hub) where
    -- A member that is not the hub.
    satellite : {i : ℕ} (a : Among (known_rules x.known) i) → bit members i ≡ true → (i ≡ hub → ⊥)
        → satellite_is_inlinable inner_depth a.rule ≡ true
    satellite {i} a b other =
        let s = x.known.known.standing in
        let l = place_low s a in
        let e = id_at s.rows a in
        let own : member a.rule.id x.known.cycle ≡ true =
        ap (λ k. member k x.known.cycle) (sym e) ∙ sym (row_bit x.known.is_cycle.row l) ∙ b in
        let apart : eqb a.rule.id (get_or rules.ids hub 0) ≡ false = ne_eqb _ _ (λ z. other (same_place s l x.low (e ∙ z))) in
        either (satellite_is_inlinable inner_depth a.rule) (λ t. t)
        (λ f.
        absurd
        (true≢false
        (sym x.inlinable
        ∙ all_false (satellite_is_inlinable inner_depth) (keep_in _ (is_among a) (and_from _ _ own (ap not apart))) f)))

    pub hub_low : hub < rules.n
    hub_low = x.low

    pub hub_standing : Standing ws end rules
    hub_standing = x.known.known.standing

-- What was made is so by the rules' names.
by_names : {ws : List ℕ} {end : ℕ} (rules : Rules) {y : Cycle} {limits : Limits} {most : ℕ} {bs : List ℕ} {made : Result (Option Done) Unplanned}
    → y.names.list.now ≡ rules.names → MadeOf ws end y.names.list.now rules.places y limits most bs made
    → MadeOf ws end rules.names rules.places y limits most bs made
by_names {ws} {end} rules {y} {limits} {most} {bs} {made} named w =
    subst (λ ns. MadeOf ws end ns rules.places y limits most bs made) named w

module _ {ws : List ℕ} {end : ℕ} {rules : Rules} {reading : Corners} {calls : List (List ℕ)} {marks : Marks} {kept : List ℕ}
    {y : Cycle} where
  pub ground_of : HubKnown ws end rules reading calls marks kept y.members y.hub → y.names.n ≡ rules.n
      → Ground ws end rules.names rules.places y
  ground_of x e =
      record {
        rules = rules;
        standing = x.known.known.standing;
        named = refl;
        placed = refl;
        small = x.known.known.small;
        count = e;
        hub = x.low;
        nullable = marks.nullable;
        empty = nullable_row x.known.known;
        cycle = x.known.cycle;
        is_cycle = x.known.is_cycle;
        inlinable = λ i a. satellite x a;
      }

  pub ground_named : HubKnown ws end rules reading calls marks kept y.members y.hub → y.names.list.now ≡ rules.names → y.names.n ≡ rules.n
      → Ground ws end y.names.list.now rules.places y
  ground_named x named e = subst (λ ns. Ground ws end ns rules.places y) (sym named) (ground_of x e)

  module _ {most : ℕ} {limits : Limits} {bs : List ℕ} {made : Result (Option Done) Unplanned} (named : y.names.list.now ≡ rules.names)
      (count : y.names.n ≡ rules.n) (b : IsBudget ws end rules y.members limits.floor most)
      (w : MadeOf ws end y.names.list.now rules.places y limits most bs made) where
    module _ (x : HubKnown ws end rules reading calls marks kept y.members y.hub) (a : Among (known_rules x.known) y.hub) where
      -- The definition's substitution.
      whole : Decided (Substituted inner_depth)
      whole =
          substitute inner_depth (known_rules x.known) (known_grammar x.known) x.known.cycle (get_or rules.ids y.hub 0)
          (limits_of limits) (substitution_budget inner_depth (limits_of limits) (known_rules x.known) x.known.cycle) 0
          (as_they_are a.rule.body)

      last : Substituted inner_depth → Decided (CyclePlan inner_depth)
      last =
          last_tests (limits_of limits) reading (known_grammar x.known) inner_depth (known_rules x.known) x.known.preserved
          x.known.cycle (get_or rules.ids y.hub 0)

      made_to : {r : Result (Option Done) Unplanned} → made ≡ r → MadeTo ws end bs whole r
      unfolding whole ground_of
      made_to {r} e =
          let z = b.is x.known.known.standing (limits_of limits) refl x.known.cycle x.known.is_cycle in
          subst (MadeTo ws end bs whole) e (rw z at ((by_names rules named w).is (ground_of x count) a))

    -- A list was made.
    module _ {done : Done} (e : made ≡ Ok (Some done)) where
      pub made_laid : HubKnown ws end rules reading calls marks kept y.members y.hub → Laid bs done.l
      made_laid x = (made_to x (at_place x.known.known.standing y.hub x.low) e).laid

      pub made_listed : HubKnown ws end rules reading calls marks kept y.members y.hub → AllIn ws end inner_depth bs done.l
      made_listed x = (made_to x (at_place x.known.known.standing y.hub x.low) e).listed

      pub made_planned : {r : Result Plan Unplanned} → PlanLast ws end rules reading calls marks kept y.members y.hub done bs r
          → PlanMade ws end rules reading calls marks kept y.members limits y.hub bs r
      unfolding whole last
      made_planned {r} p =
          record {
            is = λ x a.
                subst (λ m. DecidedAs ws end rules.ids rules.n bs (m and_then last x a) r) (sym (made_to x a e).is)
                (p.is limits x.known);
          }

    pub made_idle : made ≡ Ok None → PlanMade ws end rules reading calls marks kept y.members limits y.hub bs (Err (Declined NoSteps))
    unfolding whole last
    made_idle e = record { is = λ x a. record { is = ap (λ m. m and_then last x a) (made_to x a e).is } }

    pub made_unplanned : {n : Unplanned} → made ≡ Err n → PlanMade ws end rules reading calls marks kept y.members limits y.hub bs (Err n)
    unfolding whole last
    made_unplanned {n} e = record { is = λ x a. unplanned_then (whole x a) (last x a) n (made_to x a e) }

pub ruleset making = (ground_of, hub_low, hub_standing, made_laid, made_listed, made_planned, made_idle, made_unplanned)
