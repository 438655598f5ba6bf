-- Behind the substitution: the last tests, and the rules that may go.
use Prim.Native.Nat.{ℕ, ◌<◌}
use mathlib.Core.Path.{◌≡◌, refl, sym, ap, ◌∙◌, subst}
use mathlib.Core.List.{List}
use mathlib.Core.Bool.{Bool, true, false, not}
use lib.ListN.{get_or}
use borrow.Author.Tests.{eq-eqb, ne_eqb}
use Rattle.grammar.specs.Tree.{body_depth, inner_depth}
use Rattle.grammar.specs.Corners.{Corners}
use Rattle.reference.specs.Analysis.{nullable_rules, grammar_of}
use Rattle.reference.specs.Substitute.{Clause, no_steps, not_directly_rewritable, Decided, declined, require}
use Rattle.reference.specs.Plan.{plan_of}
use Rattle.records.specs.declared.rules.Rules.{Rules}
use Rattle.reach.specs.Rows.{RowOf}
use Rattle.analysis.specs.declared.rounds.Marks.{Marks}
use Rattle.analysis.proofs.Laws.Standing.{all_rules}
use Rattle.hub.specs.Grounds.{Known, rules_of}
use Rattle.hub.specs.Removal.{Planning, Removable}
use Rattle.planned.specs.Layout.{settled}
use Rattle.planned.specs.List.{Laid, AllIn}
use Rattle.rewritable.specs.Judge.{AreJudged, JudgedFound}
use Rattle.substitution.specs.declared.turning.Done.{Done}
use Rattle.std.specs.Prelude.{Ok, Err, Option, Some, None}
use Rattle.steps.specs.declared.decide.Clause.TheVariants.{NoSteps, NotDirectlyRewritable}
use Rattle.turns.specs.declared.turn.Unplanned.TheVariants.{Declined}
use Rattle.plan.specs.Known.{CycleKnown, known_rules, known_grammar}
use Rattle.plan.specs.Decision.{PlanLast}

-- A test that fails, and one that holds.
pub unmet : {A : Type 0} (c : Clause) (f : Unit {0} → Decided A) {b : Bool} → b ≡ false → require c b f ≡ declined c
unmet c f e = rw e refl

pub met : {A : Type 0} (c : Clause) (f : Unit {0} → Decided A) {b : Bool} → b ≡ true → require c b f ≡ f tt
met c f e = rw e refl

-- The nullable rules as a row of all rules.
pub nullable_row : {ws : List ℕ} {end : ℕ} {rules : Rules} {reading : Corners} {calls corners : List (List ℕ)} {m : Marks}
    (k : Known ws end rules reading calls corners m)
    → RowOf rules.ids rules.n (nullable_rules body_depth (rules_of ws end rules k.standing)) m.nullable
nullable_row {ws} {end} {rules} {m = m} k =
    subst (λ n. RowOf rules.ids n (nullable_rules body_depth (rules_of ws end rules k.standing)) m.nullable)
    (sym (all_rules k.standing.rows)) k.facts.nullable

module _ {ws : List ℕ} {end : ℕ} {rules : Rules} {reading : Corners} {calls : List (List ℕ)} {marks : Marks} {kept members : List ℕ}
    {hub : ℕ} {done : Done} {bs : List ℕ} where
  pub last_idle : done.steps ≡ 0 → PlanLast ws end rules reading calls marks kept members hub done bs (Err (Declined NoSteps))
  last_idle e =
      record {
        is = λ limits x.
            record { is = unmet no_steps _ (ap not (eq-eqb done.steps 0 e)) };
      }

  module _ {n : ℕ} (count : n ≡ rules.n) (some : done.steps ≡ 0 → ⊥) {j : Option (List ℕ)}
      (judged : JudgedFound ws end rules marks.nullable reading members hub bs done.l j) where
    known_judged : (x : CycleKnown ws end rules reading calls marks kept members)
        → AreJudged reading (known_grammar x) rules.ids rules.n x.cycle (get_or rules.ids hub 0) inner_depth
        (settled ws end inner_depth bs done.l) j
    unfolding grammar_of
    known_judged x = judged.is x.known.standing _ x.cycle refl (nullable_row x.known) x.is_cycle.row

    pub last_unfit : j ≡ None → PlanLast ws end rules reading calls marks kept members hub done bs (Err (Declined NotDirectlyRewritable))
    last_unfit f =
        record {
          is = λ limits x.
              record {
                is = met no_steps _ (ap not (ne_eqb done.steps 0 some))
                    ∙ unmet not_directly_rewritable _ ((known_judged x).unfit f);
              };
        }

    pub last_plan : {planned : List ℕ} → j ≡ Some planned → hub < rules.n → Laid bs done.l → AllIn ws end inner_depth bs done.l
        → {row : List ℕ} → Removable calls n planned hub members kept row
        → PlanLast ws end rules reading calls marks kept members hub done bs
        (Ok (record { hub = hub; l = done.l; steps = done.steps; removable = row }))
    last_plan {planned} u low laid listed {row} rows =
        record {
          is = λ limits x.
              let g = known_grammar x in
              let rs = known_rules x in
              let ps = settled ws end inner_depth bs done.l in
              let p : Planning calls n planned hub = record {
                ws = ws;
                end = end;
                rules = rules;
                reading = reading;
                corners = x.corners;
                marks = marks;
                known = x.known;
                count = count;
                low = low;
                plan = ps;
                plans = (known_judged x).calls planned u;
              } in
              record {
                plan = plan_of inner_depth rs x.cycle g x.preserved (get_or rules.ids hub 0)
                    (record { alternatives = ps; steps = done.steps });
                is = met no_steps _ (ap not (ne_eqb done.steps 0 some)) ∙ met not_directly_rewritable _ ((known_judged x).fit planned u);
                same = record {
                  inside = low;
                  hub = refl;
                  laid = laid;
                  listed = listed;
                  alternatives = refl;
                  removable = rows.is p x.cycle x.preserved x.is_cycle x.keeps;
                  steps = refl;
                };
              };
        }

pub ruleset lasts = (last_idle, last_unfit, last_plan)
