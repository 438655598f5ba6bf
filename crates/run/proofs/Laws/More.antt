-- One plan more, or its refusal.
use Rattle.std.specs.Prelude.{Result, Ok, Err}
use Prim.Native.Nat.{ℕ, suc, ◌+◌, ◌*◌, ◌≤◌, ◌<◌, ◌^◌}
use mathlib.Core.Path.{◌≡◌, refl, sym, ap, ap₂, ◌∙◌, subst, subst₂}
use mathlib.Core.List.{List, [], ◌∷◌, ◌++◌}
use mathlib.Core.Bool.{true}
use native.Mathlib.Omega.{arith}
use lib.ListN.{length, get_or, length-append}
use Rattle.grammar.specs.Form.{newest}
use Rattle.grammar.specs.Numbers.{trailer_words, most_words, word_end}
use Rattle.grammar.specs.Tree.{Sheet, inner_depth}
use Rattle.grammar.specs.Lists.{each}
use Rattle.grammar.specs.Words.{words}
use Rattle.grammar.specs.Valid.{valid}
use Rattle.grammar.specs.Stands.{Run, Stands}
use borrow.Author.Tests.{leb-true}
use Rattle.grammar.specs.Valid.{rule_limit}
use Rattle.grammar.specs.Laws.Whole.{valid_parts}
use Rattle.grammar.specs.Laws.Lists.{each_append}
use Rattle.grammar.specs.Laws.Stands.{stands_append, stands_within}
use Rattle.grammar.specs.Corners.{Corners}
use Rattle.reference.specs.Substitute as R
use Rattle.reference.specs.Numbers.{entry_words}
use Rattle.reference.specs.Apply.{fresh_each, apply_alternative, apply_plan}
use Rattle.reference.specs.Run.{Stage, sheet_with, refusal_of, entries_of, encode_entry, answer_run}
use Rattle.graph.specs.Entries.{entries_long}
use Rattle.laws.specs.Running.Midway.{Midway, SoFar, NextPlan, stage_from, midway_so_far, midway_next}
use Rattle.laws.specs.Running.Midway.{midway_more, midway_refused, steps_fit}
use Rattle.laws.specs.Running.Stages.{entries_last, steps_last}
use Rattle.words.specs.Room.{Room}
use Rattle.writing.specs.Laws.Wrote.{wrote_stands, wrote_same}
use Rattle.reach.specs.Rows.{RowOf}
use Rattle.analysis.specs.Facts.{Standing, FactsOf}
use Rattle.plan.specs.declared.plan.Plan.{Plan}
use Rattle.apply.specs.Held.{Held}
use Rattle.apply.specs.Applied.{AppliedAs, AppliedOf, Done}
use Rattle.apply.specs.Laws.Held.{held_long, held_room, held_standing}
use Rattle.apply.specs.declared.apply.Applied.{Applied}
use Rattle.apply.specs.Judged.{number_in}
use Rattle.words.specs.Refusal.{refusal_number}
use Rattle.words.specs.declared.numbers.Refusal.{Refusal}
use Rattle.words.specs.declared.numbers.Refusal.TheVariants.{BadLength, ShortBuffer, BadTrailer, BadRecord, SharedNumber}
use Rattle.words.specs.declared.numbers.Refusal.TheVariants.{IdPastCounter, PlanTooLarge, CounterPastEnd, ResultTooLong}
use Rattle.renew.specs.Renewed.{Renewable, RenewedOf, RenewedAs, Stays}
use Rattle.renew.specs.declared.renew.Renewed.{Renewed}
use Rattle.run.specs.declared.state.State.{State}
use Rattle.run.specs.Ended.{Front, AnswerIs}
use Rattle.run.specs.Midst.{Midst}
use Rattle.run.specs.Turn.{behind_plan, OneMore, Over, UpToDate, Advancing, AdvancedOf}
use Rattle.run.proofs.Laws.Known.{so_far, midst_ended, midst_known}
use Rattle.run.proofs.Laws.Known.{advancing_applicable, advancing_entries, advancing_rules}
use Rattle.run.proofs.Laws.Over.{stopped_answer}

-- Words that are as they were stand where they stood.
module _ (ws vs : List ℕ) (end q : ℕ) (e : (j : ℕ) → j < q → get_or vs j 0 ≡ get_or ws j 0) where
  run_end : (xs : List ℕ) (at k : ℕ) → Run ws end xs at k q → at + k ≤ q
  run_end [] at k s = omega (arith, s.0)
  run_end (y ∷ ys) at k s = let h = run_end ys at (suc k) s.1 in omega arith

  run_kept : (xs : List ℕ) (at k : ℕ) → Run ws end xs at k q → Run vs end xs at k q
  run_kept [] at k r = r
  run_kept (x ∷ xs) at k r = let l = run_end xs at (suc k) r.1 in (e (at + k) (omega arith) ∙ r.0, run_kept xs at (suc k) r.1)

  stands_kept : {xs : List ℕ} {at : ℕ} → Stands ws end xs at q → Stands vs end xs at q
  stands_kept {xs} {at} s = record { run = run_kept xs at 0 s.run }

-- No refusal has the number 0.
successor : (f : Refusal) → (k : ℕ) × (refusal_number f ≡ suc k)
successor BadLength = (0, refl)
successor ShortBuffer = (1, refl)
successor BadTrailer = (2, refl)
successor BadRecord = (3, refl)
successor SharedNumber = (4, refl)
successor IdPastCounter = (5, refl)
successor PlanTooLarge = (6, refl)
successor CounterPastEnd = (7, refl)
successor ResultTooLong = (8, refl)

module _ {limits : R.Limits} {reading : Corners} {result trail work : List ℕ} {calls corners : List (List ℕ)} {st : State} {p : Plan}
    (x : Advancing limits reading result trail work calls corners st p) where
  abbrev m : Midst limits reading x.sheet result trail calls corners st
  m = x.midst

  abbrev s : Sheet
  s = x.sheet

  abbrev stage : Stage
  stage = stage_from m.now x.cycle x.plan

  module _ {result' trail' : List ℕ} {r : Result Applied Refusal}
      (o : AppliedOf result work st.at.end st.at.to st.at.rules st.at.counters p st.at.entries result' trail trail' r) where
    applied : AppliedAs m.now.kind m.now.preserved stage.after st.at.entries result' trail trail' r
    unfolding advancing_applicable
    applied =
        subst (λ c. AppliedAs m.now.kind m.now.preserved (apply_plan inner_depth m.now.rules x.plan c) st.at.entries
        result' trail trail' r) m.counters (o.is (advancing_applicable x))

    number_is : number_in r ≡ refusal_of s.kind s.preserved stage.after (length (entries_of m.stages))
    number_is =
        applied.number
        ∙ ap₂ (λ k ps. refusal_of k ps stage.after st.at.entries) (so_far m).kind (so_far m).preserved
        ∙ ap (refusal_of s.kind s.preserved stage.after) m.entries

  next : NextPlan limits reading s m.stages m.now x.cycle x.plan
  next = midway_next limits reading s m.midway x.found

  pub turned_refused : {result' trail' : List ℕ} {f : Refusal}
      → AppliedOf result work st.at.end st.at.to st.at.rules st.at.counters p st.at.entries result' trail trail' (Err f)
      → Over limits reading s result' trail' (Err f)
  turned_refused {result'} {trail'} {f} o =
      let (k, e) = successor f in
      record {
        short = tt;
        is =
            subst (λ r. AnswerIs result' trail' (Err f) (answer_run s r))
            (sym (midway_refused limits reading s m.midway x.found (sym (number_is o) ∙ e))) (stopped_answer s m.stages e);
      }

  module _ {result' trail' : List ℕ} {a : Applied}
      (o : AppliedOf result work st.at.end st.at.to st.at.rules st.at.counters p st.at.entries result' trail trail' (Ok a)) where
    pub after_midway : Midway limits reading s (m.stages ++ (stage ∷ [])) (sheet_with s.kind s.preserved stage.after)
    after_midway = midway_more limits reading s m.midway x.found (sym (number_is o))

    abbrev left : Sheet
    left = sheet_with s.kind s.preserved stage.after

    left_so_far : SoFar limits reading s (m.stages ++ (stage ∷ [])) left
    left_so_far = midway_so_far limits reading s after_midway

    done : Done m.now.kind m.now.preserved stage.after st.at.entries result' trail trail' a
    done = (applied o).done

    left_held : Held result' left a.end a.to
    left_held =
        subst₂ (λ k ps. Held result' (sheet_with k ps stage.after) a.end a.to) (so_far m).kind (so_far m).preserved done.held

    left_short : a.to + trailer_words ≤ most_words
    left_short = let e = held_long left_held in let l = left_so_far.words in omega arith

    pub left_room : Room result' a.end
    left_room = held_room left_held left_short

    left_small : a.end ≤ most_words
    left_small = let u = left_held.up_to in let l = left_short in omega arith

    left_valid : valid left ≡ true
    left_valid = left_so_far.reads_back.is_valid

    left_standing : Standing (words result') a.end a.rules
    left_standing = held_standing left_held left_valid done.rows

    stays : Stays m.now.rules (get_or st.at.rules.ids p.hub 0) x.plan.removable stage.after.node
    unfolding apply_plan
    stays =
        record {
          body = (fresh_each (apply_alternative inner_depth) x.plan.alternatives m.now.counters).node;
          rules = rw (← x.same.hub) refl;
          hub_stays = rw (← x.same.hub) next.hub_stays;
          nullable = next.facts.nullable;
          calls = next.facts.calls;
          corners = next.facts.corners;
        }

    pub renewable : {n : ℕ} → n ≡ st.at.rules.n
        → Renewable (words result') a.end a.rules n p.hub p.removable reading calls corners st.ground.marks st.ground.kept
    unfolding midst_known held_standing left_standing
    renewable e =
        record {
          words₀ = words result;
          end₀ = st.at.end;
          rules₀ = st.at.rules;
          known = midst_known m;
          gone = x.plan.removable;
          gone_row = x.same.removable;
          count = e;
          inside = let l = x.same.inside in omega arith;
          standing = left_standing;
          small = left_small;
          stays = stays;
        }

    -- Plans and steps are words.
    pub steps_small : limits.budget_floor ≤ 2 ^ 24 → st.steps + p.steps < word_end
    steps_small l =
        let z = steps_fit limits reading s after_midway l in
        let e = steps_last m.stages stage in
        let a = m.steps in
        let b = x.same.steps in
        omega arith

    pub plans_small : st.plans + 1 < word_end
    plans_small =
        let r = next.room in
        let h = m.plans in
        let l = leb-true (length s.rules) rule_limit (valid_parts newest s m.midway.is_valid).few in
        omega arith

    module _ {n : ℕ} (e : n ≡ st.at.rules.n) {calls' corners' : List (List ℕ)} {r : Renewed}
        (w : RenewedOf (words result') a.end a.rules n p.hub p.removable reading calls corners st.ground.marks st.ground.kept
        calls' corners' r) where
      abbrev after : State
      after = behind_plan st a p r.ground

      told : Front trail' (each encode_entry (entries_of (m.stages ++ (stage ∷ [])))) (entry_words * a.entries)
      told =
          let n₀ = entry_words * st.at.entries in
          let n₁ = entry_words * a.entries in
          let new = each encode_entry stage.after.entries in
          let f = m.told in
          let c = done.entries in
          let q = entries_long stage.after.entries in
          let i : n₀ + length new ≡ n₁ = omega arith in
          let t : Stands (words trail') n₁ new n₀ n₁ =
          subst (λ k. Stands (words trail') n₁ new n₀ k) i (wrote_stands done.told n₁ (omega arith)) in
          let o : Stands (words trail') n₁ (each encode_entry (entries_of m.stages)) 0 n₀ =
          stands_kept (words trail) (words trail') n₁ n₀ (λ j h. wrote_same done.told j h)
          (stands_within n₁ (omega arith) f.stands) in
          record {
            stands =
                subst (λ l. Stands (words trail') n₁ l 0 n₁)
                (sym (each_append encode_entry (entries_of m.stages) stage.after.entries)
                ∙ ap (each encode_entry) (sym (entries_last m.stages stage)))
                (stands_append o t);
            room = let l = done.told.long in let h = done.room in omega arith;
          }

      renewed : RenewedAs (words result') a.end a.rules n p.hub p.removable reading calls corners st.ground.marks st.ground.kept
          (renewable e) calls' corners' r
      renewed = w.is (renewable e)

      one_more : Midst limits reading s result' trail' calls' corners' after
      unfolding renewable midst_known held_standing left_standing
      one_more =
          record {
            stages = m.stages ++ (stage ∷ []);
            now = left;
            midway = after_midway;
            held = left_held;
            rows = done.rows;
            counters = done.counters_are;
            facts =
                subst (λ t. FactsOf reading t.rows.found.trees a.rules.ids calls' corners' r.ground.marks)
                renewed.standing renewed.known.known.facts;
            keeps = subst (λ ps. RowOf a.rules.ids a.rules.n ps r.ground.kept) renewed.preserved renewed.known.keeps;
            told = told;
            entries = done.entries ∙ ap (λ k. k + length stage.after.entries) m.entries
                ∙ sym (length-append (entries_of m.stages) stage.after.entries)
                ∙ ap length (sym (entries_last m.stages stage));
            plans = let l = length-append m.stages (stage ∷ []) in let h = m.plans in omega arith;
            steps = ap₂ ◌+◌ m.steps (sym x.same.steps) ∙ sym (steps_last m.stages stage);
          }

      pub turned_more : OneMore limits reading s result' trail' calls' corners' st after
      turned_more =
          record {
            short = midst_ended one_more;
            midst = one_more;
            counted = omega arith;
            few = let h = m.plans in let l = next.room in omega arith;
          }

-- The returns.
module _ {limits : R.Limits} {reading : Corners} {result trail work : List ℕ} {calls corners : List (List ℕ)} {st : State} {p : Plan}
    {result' trail' : List ℕ} where
  pub advanced_refused : {f : Refusal} {calls' corners' : List (List ℕ)}
      → AppliedOf result work st.at.end st.at.to st.at.rules st.at.counters p st.at.entries result' trail trail' (Err f)
      → AdvancedOf limits reading result trail work calls corners st p result' trail' calls' corners' (Err f)
  advanced_refused o = record { is = λ x. turned_refused x o }

  pub advanced_more : {a : Applied} {calls' corners' : List (List ℕ)} {next : State}
      → AppliedOf result work st.at.end st.at.to st.at.rules st.at.counters p st.at.entries result' trail trail' (Ok a)
      → UpToDate (words result') reading calls corners st a p calls' corners' next
      → AdvancedOf limits reading result trail work calls corners st p result' trail' calls' corners' (Ok next)
  advanced_more {a} {calls'} {corners'} {next} o u =
      record {
        is = λ x. subst (OneMore limits reading x.sheet result' trail' calls' corners' st) (sym u.is)
            (turned_more x o refl u.renews);
      }

-- Of a plan that is applied.
pub ruleset advances = (
  advancing_applicable,
  advancing_entries,
  advancing_rules,
  left_room,
  plans_small,
  steps_small,
  renewable,
  advanced_refused,
  advanced_more,
)
