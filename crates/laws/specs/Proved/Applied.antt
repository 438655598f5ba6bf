-- What is promised of plans applied, of every sheet that is not refused.
use Rattle.std.specs.Prelude.{ℕ, ◌<◌, ◌≡◌, refl, true, eqb}
use Rattle.std.proofs.Common.{sym, ap, ◌∙◌, subst, true≢false}
use mathlib.Core.List.Memᴰ
use mathlib.Core.List.{List, [], Memᴰ}
use Rattle.grammar.specs.Tree.{Alternative, Rule, body_depth, Sheet}
use Rattle.grammar.specs.Lists.{only, member}
use Rattle.grammar.specs.Numbers.{alternative_sort}
use Rattle.grammar.specs.Ids.{element_ids, alternative_ids, block_ids}
use Rattle.grammar.specs.Valid.{valid, fits}
use Rattle.grammar.specs.Corners.{Corners}
use Rattle.language.specs.Laws.Copies.{change_block, drop_ids}
use Rattle.reference.specs.Substitute.{Limits}
use Rattle.reference.specs.Run.{inner_depth, Stage, ended, eliminate_mutual_left_recursion, entries_of}
use Rattle.laws.specs.Demands.Applied.{Sort, of_alternative, number, counter_at, CopiesAlike, Handed, new_ones, FreshIds, RulesStay}
use Rattle.laws.specs.Demands.Applied.{RemovesMost}
use Rattle.laws.specs.Demands.Trail.{OneOrigin}
use Rattle.graph.specs.Members.{in_each}
use Rattle.laws.specs.Planning.Renumber.{body_alike}
use Rattle.laws.specs.Running.Leaves.{Told}
use Rattle.laws.specs.Running.Stages.{valid_told, sheet_counters}
use Rattle.laws.specs.Running.OneStage.{stage_body}
use Rattle.laws.specs.Running.Stay.{rules_stay}
use Rattle.laws.specs.Running.Removes.{removes_most}
use Rattle.laws.specs.Provenance.OneOrigin.{AlternativeLow, one_origin, owners_low}
use Rattle.laws.specs.Provenance.Handed.{trail_handed, plan_handed}
use Rattle.laws.specs.Validity.Result.{good_of, good_sound, run_trail, stage_trace}
use Rattle.laws.specs.Validity.Sound.{sound_below}
use Rattle.laws.specs.Proved.Demand3.{chain, at, cut_at, bound, trail_told_lem}

module _ (limits : Limits) (corners : Corners) (s : Sheet) (v : valid s ≡ true) (ts : List Stage)
    (run : eliminate_mutual_left_recursion limits corners s ≡ ended ts) where
  abbrev told : Told s.rules
  told = valid_told s v

  pub copies_alike_lem : (t : Stage) → Memᴰ t ts → CopiesAlike t
  copies_alike_lem t m =
      let (front, rest, w) = cut_at limits corners s told ts run m in
      let a = at limits corners s told ts run front t rest w in
      record {
        alike =
            λ q n e. ap (change_block drop_ids body_depth) (stage_body limits corners s.preserved a.known a.happened q n e)
            ∙ body_alike inner_depth t.plan.alternatives a.happened.counters;
      }

  pub fresh_ids_lem : fits s ≡ true → FreshIds s ts
  fresh_ids_lem f =
      record {
        of_plan = λ front t rest w q n e.
            let m = subst (Memᴰ t) w (Memᴰ.append_right front (Memᴰ.head refl)) in
            let traced = stage_trace limits corners s front t rest (run ∙ ap ended (sym w)) (good_of s v f) in
            subst (λ c. Handed c t.after.counters (λ k. block_ids k body_depth (new_ones t.plan.alternatives q.body)))
            (sym (sheet_counters s front)) (plan_handed traced ((trail_told_lem limits corners s told ts run t m).is q n e));
        of_run = trail_handed (run_trail limits corners s run (good_of s v f));
      }

  pub rules_as_they_were : RulesStay s ts
  rules_as_they_were = rules_stay limits corners s told (chain limits corners s told ts run)

  pub removes_all : (t : Stage) → Memᴰ t ts → RemovesMost s.preserved t
  removes_all t m =
      let (front, rest, w) = cut_at limits corners s told ts run m in
      let a = at limits corners s told ts run front t rest w in
      removes_most limits corners s.preserved a.known a.happened

  -- The ids of the sheet handed in are below its counters.
  old_ids : fits s ≡ true → (r : Rule) → Memᴰ r s.rules → (a : Alternative) → Memᴰ a r.body
      → AlternativeLow s.counters a
  unfolding block_ids alternative_ids
  old_ids f r m a n =
      let below : (k : Sort) (i : ℕ) → Memᴰ i (alternative_ids (number k) (block_ids (number k) inner_depth) a)
      → i < counter_at k s.counters =
      λ k i y. sound_below (good_sound (good_of s v f)) k i
      (in_each (λ r. block_ids (number k) body_depth r.body) m
      (in_each (alternative_ids (number k) (block_ids (number k) inner_depth)) n y)) in
      record {
        slot = tt;
        origin = below of_alternative a.id (Memᴰ.head refl);
        options = λ o _. tt;
        elements = λ e l k i y.
            below k i (Memᴰ.append_right (only (eqb (number k) alternative_sort) a.id)
            (in_each (element_ids (number k) (block_ids (number k) inner_depth)) l y));
      }

  pub one_origin_each : fits s ≡ true → OneOrigin (entries_of ts)
  unfolding member
  one_origin_each f =
      one_origin (run_trail limits corners s run (good_of s v f))
      (owners_low limits corners s.preserved s.rules s.counters (old_ids f) told (chain limits corners s told ts run) {done = []}
      (record {
        joined = λ r m y. absurd (true≢false (sym y));
        others = λ r m y. m;
      }) (bound limits corners s told ts run).once (λ i m. refl))
