-- What is known of a run on its way, for the search and for the plan that it finds.
use Prim.Native.Nat.{ℕ, ◌+◌, ◌≤◌}
use mathlib.Core.Path.{◌≡◌, sym, subst}
use mathlib.Core.List.{List}
use mathlib.Core.Bool.{true}
use native.Mathlib.Omega.{arith}
use Rattle.grammar.specs.Numbers.{trailer_words, most_words, rule_limit}
use Rattle.reference.specs.Numbers.{most_entries}
use Rattle.grammar.specs.Tree.{Sheet}
use Rattle.grammar.specs.Words.{words}
use Rattle.grammar.specs.Valid.{valid}
use Rattle.grammar.specs.Corners.{Corners}
use Rattle.reference.specs.Substitute as R
use Rattle.reference.specs.Run.{no_plan, too_large, find_plan}
use Rattle.laws.specs.Running.Midway.{SoFar, midway_so_far, midway_next}
use Rattle.words.specs.Room.{Room}
use Rattle.turns.specs.Midway.{limits_of}
use Rattle.turns.specs.declared.limits.Limits.{Limits}
use Rattle.plan.specs.declared.plan.Plan.{Plan}
use Rattle.std.specs.Prelude.{Option, Some, None, Result, Ok, Err}
use Rattle.words.specs.declared.numbers.Refusal.{Refusal}
use Rattle.words.specs.declared.numbers.Refusal.TheVariants.{PlanTooLarge}
use Rattle.plan.specs.declared.search.Found.{Found}
use Rattle.plan.specs.declared.search.FoundPlan.{FoundPlan}
use Rattle.plan.specs.Search.{RulesKnown, FoundOf, AnswerIs}
use Rattle.plan.specs.Decision.{PlanAs}
use Rattle.apply.specs.Applied.{Applicable}
use Rattle.apply.specs.Laws.Held.{held_long, held_room, held_standing}
use Rattle.run.specs.declared.state.State.{State}
use Rattle.run.specs.Ended.{Short}
use Rattle.run.specs.Midst.{Midst}
use Rattle.run.specs.Turn.{ended_with, Advancing}

module _ {limits : R.Limits} {reading : Corners} {s : Sheet} {result trail : List ℕ} {calls corners : List (List ℕ)} {st : State}
    (m : Midst limits reading s result trail calls corners st) where
  pub so_far : SoFar limits reading s m.stages m.now
  so_far = midway_so_far limits reading s m.midway

  pub now_valid : valid m.now ≡ true
  now_valid = so_far.reads_back.is_valid

  pub midst_short : st.at.to + trailer_words ≤ most_words
  midst_short = let e = held_long m.held in let l = so_far.words in omega arith

  pub midst_ended : Short (ended_with st)
  midst_ended = record { words = midst_short; entries = let e = m.entries in let l = so_far.entries in omega arith }

  pub midst_room : Room result st.at.end
  midst_room = held_room m.held midst_short

  pub midst_small : st.at.end ≤ most_words
  midst_small = let u = m.held.up_to in let l = midst_short in omega arith

  unfoldable pub midst_known : RulesKnown (words result) st.at.end st.at.rules reading calls corners st.ground.marks st.ground.kept
  unfolding held_standing
  midst_known =
      record {
        known = record { standing = held_standing m.held now_valid m.rows; small = midst_small; facts = m.facts };
        preserved = s.preserved;
        keeps = m.keeps;
      }

module _ {lim : Limits} {reading : Corners} {s : Sheet} {result trail : List ℕ} {calls corners : List (List ℕ)} {st : State}
    (m : Midst (limits_of lim) reading s result trail calls corners st) {bs : List ℕ} {r : Found}
    (o : FoundOf (words result) st.at.end st.at.rules reading calls corners st.ground.marks st.ground.kept lim bs r) where
  pub answer_at : {a : Result (Option FoundPlan) Refusal} → r.answer ≡ a → AnswerIs (midst_known m) lim bs r.declined a
  answer_at e = subst (λ a. AnswerIs (midst_known m) lim bs r.declined a) e (o.is (midst_known m)).answer

  pub found_none : r.answer ≡ Ok None → find_plan (limits_of lim) reading s.preserved m.now.rules ≡ no_plan
  unfolding midst_known held_standing
  found_none e = (answer_at e).is

  module _ {f : Refusal} (e : r.answer ≡ Err f) where
    pub found_large : find_plan (limits_of lim) reading s.preserved m.now.rules ≡ too_large
    unfolding midst_known held_standing
    found_large = (answer_at e).is

    pub found_refusal : f ≡ PlanTooLarge
    found_refusal = (answer_at e).refusal

  unfoldable pub found_planned : {f : FoundPlan} {p : Plan} → r.answer ≡ Ok (Some f) → p ≡ f.plan
      → Advancing (limits_of lim) reading result trail bs calls corners st p
  unfolding midst_known held_standing
  found_planned {f} {p} e g =
      let a = answer_at e in
      record {
        sheet = s;
        midst = m;
        cycle = _;
        plan = a.plan;
        found = a.is;
        same = subst (λ q. PlanAs (words result) st.at.end st.at.rules.ids st.at.rules.n bs a.plan q) (sym g) a.same;
      }

-- The plan may be applied.
unfoldable pub advancing_applicable : {limits : R.Limits} {reading : Corners} {result trail work : List ℕ}
    {calls corners : List (List ℕ)} {st : State} {p : Plan} → (x : Advancing limits reading result trail work calls corners st p)
    → Applicable result work st.at.end st.at.to st.at.rules p
advancing_applicable {limits} {reading} x =
    record {
      sheet = x.midst.now;
      is_valid = now_valid x.midst;
      held = x.midst.held;
      short = midst_short x.midst;
      rows = x.midst.rows;
      plan = x.plan;
      same = x.same;
      hub_stays = (midway_next limits reading x.sheet x.midst.midway x.found).hub_stays;
    }

pub advancing_entries : {limits : R.Limits} {reading : Corners} {result trail work : List ℕ}
    {calls corners : List (List ℕ)} {st : State} {p : Plan} → Advancing limits reading result trail work calls corners st p
    → st.at.entries ≤ most_entries
advancing_entries x = let e = x.midst.entries in let l = (so_far x.midst).entries in omega arith

pub advancing_rules : {limits : R.Limits} {reading : Corners} {result trail work : List ℕ}
    {calls corners : List (List ℕ)} {st : State} {p : Plan} → Advancing limits reading result trail work calls corners st p
    → st.at.rules.n ≤ rule_limit
advancing_rules x = let e = x.midst.rows.count in let l = (so_far x.midst).rules in omega arith
