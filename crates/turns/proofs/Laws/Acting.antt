-- What is done about the alternative that was taken: by its corner.
use Prim.Native.Nat.{ℕ, ◌<◌}
use mathlib.Core.Path.{◌≡◌, refl}
use mathlib.Core.Logic.{inl, inr}
use mathlib.Core.List.{List}
use mathlib.Core.Bool.{Bool, true, false}
use native.Mathlib.Omega.{arith}
use lib.ListN.{get_or}
use lib.Dec.{eqb}
use borrow.Author.Tests.{eqb-true, eqb-false}
use Rattle.grammar.specs.Laws.Parse.{either}
use Rattle.grammar.specs.Tree.{inner_depth}
use Rattle.analysis.specs.Facts.{Among}
use Rattle.hub.specs.Grounds.{rules_of}
use Rattle.planned.specs.Layout.{meaning}
use Rattle.planned.specs.List.{HasRoom}
use Rattle.planned.specs.declared.list.Listed.{Listed}
use Rattle.turns.specs.Turns.{Replaced}
use Rattle.steps.specs.Corner.{CornerAt}
use Rattle.steps.specs.Step.{step_by}
use Rattle.turns.specs.Ground.{Ground, task_of}
use Rattle.turns.specs.Stand.{RulesStand}
use Rattle.turns.specs.Midway.{Shut, opened, With, limits_of, PutSettled}
use Rattle.turns.specs.Turn.{called, CalledAt, SteppedTo, StuckAt, ActedOn}
use Rattle.steps.specs.declared.cycle.Cycle.{Cycle}
use Rattle.steps.specs.declared.corner.Place.{Place}
use Rattle.steps.specs.declared.corner.Corner.{Corner}
use Rattle.steps.specs.declared.corner.Corner.TheVariants as C
use Rattle.turns.specs.declared.limits.Limits.{Limits}
use Rattle.turns.specs.declared.state.State.{State}
use Rattle.std.specs.Prelude.{Result, Ok, Err}
use Rattle.steps.specs.declared.decide.Clause.{Clause}
use Rattle.steps.specs.declared.decide.Clause.TheVariants.{Budget, BlockedCorner}
use Rattle.turns.specs.declared.turn.Unplanned.{Unplanned}
use Rattle.turns.specs.declared.turn.Unplanned.TheVariants.{Declined}
use Rattle.turns.proofs.Laws.Turns.{substitute_spent, substitute_declined}
use Rattle.turns.proofs.Laws.Midway.{with_laid, with_located, with_listed, with_movable}
use Rattle.turns.proofs.Laws.Advance.{midway_same}
use Rattle.turns.proofs.Laws.Replaced.{settled_corner, blocked_corner_lem, optional_corner, satellite_corner, call_in, target_among}
use Rattle.turns.proofs.Laws.Replaced.{target_spans}
use Rattle.turns.proofs.Laws.Stand.{member_name, member_place, member_room, member_found, member_named, member_unreferring}

module _ {ws : List ℕ} {end : ℕ} {bs : List ℕ} {st : State} {x : Listed} (w : Shut (With ws end bs st x)) where
  pub taken_room : HasRoom st.l 1 x.ne x.no
  taken_room =
      let r = (opened w).ready in
      let ra = r.alternatives in
      let re = r.elements in
      let ro = r.options in
      let fa = r.few_alternatives in
      let fe = r.few_elements in
      let fo = r.few_options in
      record { alternatives = omega arith; elements = omega arith; options = omega arith }

module _ {ws : List ℕ} {end : ℕ} {places : List ℕ} {c : Cycle} (s : RulesStand ws end places c) {bs : List ℕ} {x : Listed}
    {k : Corner} (o : CornerAt c.names.list.now c ws end inner_depth bs x k) {p : Place} where
  pub optional_called : k ≡ C.Optional p → CalledAt ws end bs c.names.list.now places x p true
  optional_called e =
      let q = rw e at o in
      let i = q.within in
      record {
        within = i.index;
        names = member_name s i.rule;
        places = member_place s i.rule;
        is =
            called (member_room s i.rule refl) (member_found s i.rule refl) (member_named s i.rule refl refl)
            (λ f. absurd (let y : ◌≡◌ {A = ℕ} 0 1 = cc in omega arith)) (λ f. call_in s.hub q);
      }

  pub satellite_called : k ≡ C.Satellite p → CalledAt ws end bs c.names.list.now places x p false
  satellite_called e =
      let q = rw e at o in
      let i = q.within.0 in
      record {
        within = i.index;
        names = member_name s i.rule;
        places = member_place s i.rule;
        is =
            called (member_room s i.rule refl) (member_found s i.rule refl) (member_named s i.rule refl refl)
            (λ f. member_unreferring s i.rule refl i.member q.within.1)
            (λ f. absurd (let y : ◌≡◌ {A = ℕ} 0 1 = cc in omega arith));
      }

-- By its corner.
module _ {ws : List ℕ} {end : ℕ} {names places : List ℕ} {c : Cycle} (limits : Limits) {before : List ℕ} {st : State} {x : Listed}
    {k : Corner} (o : CornerAt names c ws end inner_depth before x k) where
  pub act_settled : {after : List ℕ} {next : State} → Shut (With ws end before st x) → k ≡ C.Settled → PutSettled before after st x next
      → ActedOn ws end names places c limits before after st x (Ok next)
  act_settled {next = next} w e p =
      let s = p.is ws end in
      let q = rw e at o in
      record {
        ready = λ n f. let y : next ≡ n = cc in rw (← y) (s.ready (opened w));
        less = λ n f. let y : next ≡ n = cc in rw (← y) (inr (s.same_budget, s.same));
        is = λ b most start v h y.
            let m = s.goes (task_of b (limits_of limits)) most start v h (settled_corner b (limits_of limits) q) in
            midway_same m y;
        long = s.long;
      }

  pub act_stuck : {r : Clause} → k ≡ C.Blocked → StuckAt st.budget r
      → ActedOn ws end names places c limits before before st x (Err (Declined r))
  act_stuck {r} e s = go r s
    where
      q : CornerAt names c ws end inner_depth before x C.Blocked
      q = rw e at o

      never : {n : Clause} {next : State} → Err (Declined n) ≡ Ok next → ⊥
      never f = let y : ◌≡◌ {A = ℕ} 0 1 = cc in omega arith

      go : (r : Clause) → StuckAt st.budget r → ActedOn ws end names places c limits before before st x (Err (Declined r))
      go r s = either (eqb st.budget 0)
          (λ z. let v = eqb-true st.budget 0 z in rw (s.spent v) (none v))
          (λ z. let v = eqb-false st.budget 0 z in rw (s.blocked v) (some' v))
        where
          none : st.budget ≡ 0 → ActedOn ws end names places c limits before before st x (Err (Declined Budget))
          none v =
              record {
                ready = λ next f. absurd (never f);
                less = λ next f. absurd (never f);
                is = λ b most start w h.
                    record { is = (substitute_spent h.run (blocked_corner_lem b (limits_of limits) q) v).is };
                long = refl;
              }

          some' : (st.budget ≡ 0 → ⊥) → ActedOn ws end names places c limits before before st x (Err (Declined BlockedCorner))
          some' v =
              record {
                ready = λ next f. absurd (never f);
                less = λ next f. absurd (never f);
                is = λ b most start w h.
                    record { is = (substitute_declined h.run (blocked_corner_lem b (limits_of limits) q) v).is };
                long = refl;
              }

  module _ {after : List ℕ} {p : Place} {optional : Bool} {r : Result State Unplanned}
      (s : SteppedTo ws end before after st x p.index (get_or places p.target 0) optional limits r) where
    -- The rule at the member's place.
    module _ (l : p.target < c.names.n)
        (f : (b : Ground ws end names places c) (a : Among (rules_of ws end b.rules b.standing) p.target)
        → Replaced (task_of b (limits_of limits)) (meaning ws end inner_depth before x)
        (step_by inner_depth (meaning ws end inner_depth before x) p.index a.rule optional)) where
      stepped : ActedOn ws end names places c limits before after st x r
      stepped =
          record {
            ready = s.ready;
            less = λ next e. inl (s.spent next e);
            is = λ b most start w h.
                let a = target_among b {at = get_or places p.target 0} l refl in
                let t = target_spans b l refl a in
                s.is (task_of b (limits_of limits)) most start refl w h a.rule t.0 t.1 (f b a);
            long = s.long;
          }

    pub act_optional : k ≡ C.Optional p → optional ≡ true → ActedOn ws end names places c limits before after st x r
    act_optional e z =
        let q = rw e at o in
        stepped q.within.rule λ b a. rw z (optional_corner b (limits_of limits) a q)

    pub act_satellite : k ≡ C.Satellite p → optional ≡ false → ActedOn ws end names places c limits before after st x r
    act_satellite e z =
        let q = rw e at o in
        stepped q.within.0.rule λ b a. rw z (satellite_corner b (limits_of limits) a q)

pub ruleset acting = (
  with_located,
  with_listed,
  with_laid,
  with_movable,
  taken_room,
  optional_called,
  satellite_called,
  act_settled,
  act_stuck,
  act_optional,
  act_satellite,
)
