-- What the search finds for rules that stand in a sheet is what the definition finds.
use Prim.Native.Nat.{ℕ, ◌≤◌}
use mathlib.Core.Path.{subst}
use mathlib.Core.List.{List}
use Rattle.grammar.specs.Numbers.{most_words}
use Rattle.grammar.specs.Corners.{Corners}
use Rattle.records.specs.declared.rules.Rules.{Rules}
use Rattle.analysis.specs.Facts.{Standing, FactsFound}
use Rattle.analysis.specs.declared.rounds.Marks.{Marks}
use Rattle.turns.specs.Midway.{limits_of, IsStandard}
use Rattle.turns.specs.declared.limits.Limits.{Limits}
use Rattle.std.specs.Prelude.{Option, Some, None, Result, Ok, Err}
use Rattle.words.specs.declared.numbers.Refusal.{Refusal}
use Rattle.plan.specs.declared.search.FoundPlan.{FoundPlan}
use Rattle.plan.specs.declared.search.Found.{Found}
use Rattle.plan.specs.Search.{AnswerIs, FoundOf}
use Rattle.plan.specs.Ground.{KeptOf}
use Rattle.plan.proofs.Laws.Ground.{ground_known}
use Rattle.plans.specs.First.{SearchAs, FirstAs, FirstOf}

module _ {ws preserved : List ℕ} {end : ℕ} {rules : Rules} {reading : Corners} {calls corners : List (List ℕ)} {marks : Marks} {kept : List ℕ}
    (f : FactsFound ws end rules reading calls corners marks) (k : KeptOf preserved rules kept) (small : end ≤ most_words) where
  module _ (limits : Limits) (bs : List ℕ) where
    answer_as : (s : Standing ws end rules) (place : ℕ) (a : Result (Option FoundPlan) Refusal) → AnswerIs (ground_known f k small s) limits bs place a
        → SearchAs (limits_of limits) ws end rules.ids rules.n bs reading s.rows.found.trees preserved place a
    unfolding ground_known
    answer_as s place (Ok None) x = record { all = x.all; is = x.is }
    answer_as s place (Ok (Some p)) x =
        record { plan = x.plan; low = x.low; is = x.is; members = x.is_cycle.row; same = x.same }
    answer_as s place (Err e) x = record { low = x.low; over = x.over; is = x.is; refusal = x.refusal }

  module _ {limits : Limits} {bs : List ℕ} {r : Found} where
    pub first_found : IsStandard limits → FoundOf ws end rules reading calls corners marks kept limits bs r → FirstOf ws end preserved rules reading bs r
    unfolding ground_known
    first_found z o =
        record {
          is = λ s.
              let x = o.is (ground_known f k small s) in
              subst (λ l. FirstAs l ws end rules.ids rules.n bs reading s.rows.found.trees preserved r) z.is
              (record {
                answer = answer_as limits bs s r.declined r.answer x.answer;
                declines = x.declines;
                behind = x.behind;
              });
        }

pub ruleset firsts = (ground_known, first_found)
