-- An alternative of a hub's list that is beyond its limits: what comes of it.
use Prim.Native.Nat.{ℕ, ◌+◌, ◌<◌, ◌≤◌}
use mathlib.Core.Path.{◌≡◌, refl, sym, ap, ◌∙◌, subst}
use mathlib.Core.List.{List, []}
use mathlib.Core.Bool.{Bool, true, false}
use native.Mathlib.Omega.{arith}
use lib.ListN.{length, get_or}
use Rattle.grammar.specs.Tree.{inner_depth}
use Rattle.grammar.specs.Lists.{member}
use Rattle.grammar.specs.Found.{FoundRule}
use Rattle.reference.specs.Substitute.{declined, blocked_corner, Planned}
use Rattle.analysis.specs.Facts.{Among}
use Rattle.analysis.proofs.Laws.Standing.{id_at}
use Rattle.hub.specs.Grounds.{rules_of}
use Rattle.hub.proofs.Laws.Grounds.{row_bit}
use Rattle.planned.specs.Layout.{meaning}
use Rattle.splices.specs.Moves.{Brought}
use Rattle.planned.specs.declared.list.Listed.{Listed}
use Rattle.splices.specs.declared.splice.Size.{Size}
use Rattle.steps.specs.Corner.{CornerAt}
use Rattle.steps.specs.Step.{RuleNamed, RuleUnreferring, DecidedAt}
use Rattle.turns.specs.Ground.{Ground, task_of}
use Rattle.turns.specs.Stand.{RulesStand}
use Rattle.substitution.specs.Over.{Stops, LookTo, Reached, StepLooked, HandLooked, LookedAt}
use Rattle.steps.specs.declared.cycle.Cycle.{Cycle}
use Rattle.steps.specs.declared.corner.Place.{Place}
use Rattle.steps.specs.declared.corner.Corner.{Corner}
use Rattle.steps.specs.declared.corner.Corner.TheVariants as C
use Rattle.std.specs.Prelude.{Result, Ok, Err}
use Rattle.steps.specs.declared.decide.Clause.{Clause}
use Rattle.steps.specs.declared.decide.Clause.TheVariants.{Budget}
use Rattle.turns.specs.Turn.{StuckAt}
use Rattle.turns.specs.declared.turn.Unplanned.{Unplanned}
use Rattle.turns.specs.declared.turn.Unplanned.TheVariants.{Declined, Overfull}
use Rattle.substitution.proofs.Laws.Grown.{step_grows}
use Rattle.turns.proofs.Laws.Replaced.{settled_corner, blocked_corner_lem, optional_corner, satellite_corner}
use Rattle.turns.proofs.Laws.Replaced.{target_among, target_spans}
use Rattle.turns.proofs.Laws.Stand.{member_name, member_place, member_room, member_found, member_named, member_unreferring}

-- A corner in the way.
stuck_stops : {d left : ℕ} {n : Clause} (p : Planned d) → StuckAt left n → Stops d left p (declined blocked_corner) n
stuck_stops p s = record { spent = s.spent; declines = λ f. rw (s.blocked f) (record { is = refl }) }

-- What is needed where a member is met.
module _ {ws : List ℕ} {end : ℕ} {places : List ℕ} {c : Cycle} (s : RulesStand ws end places c) {n : ℕ} {p : Place} {optional : Bool}
    (r : Reached c n p optional) where
  pub reached_name : p.target < length c.names.list.now
  reached_name = member_name s r.member.rule

  pub reached_place : p.target < length places
  reached_place = member_place s r.member.rule

  module _ {at : ℕ} (e : at ≡ get_or places p.target 0) where
    pub reached_found : FoundRule ws end at
    reached_found = member_found s r.member.rule e

    pub reached_room : at + 4 ≤ end
    reached_room = member_room s r.member.rule e

    pub reached_named : {name : ℕ} → name ≡ get_or c.names.list.now p.target 0 → RuleNamed ws end inner_depth at name
    reached_named f = member_named s r.member.rule e f

    pub reached_unreferring : optional ≡ false → RuleUnreferring ws end inner_depth at
    reached_unreferring o = member_unreferring s r.member.rule e r.member.member (r.other o)

pub reached_index : {c : Cycle} {n : ℕ} {p : Place} {optional : Bool} → Reached c n p optional → p.index < n
reached_index r = r.member.index

-- The step.
module _ {ws : List ℕ} {end : ℕ} {names places : List ℕ} {c : Cycle} {left : ℕ} (h : Listed) (p : Place) (optional : Bool) where
  pub step_spent : (bs : List ℕ) → left ≡ 0 → StepLooked ws end names places c left bs bs h p optional (Declined Budget)
  step_spent bs e = record { is = λ b a. record { spent = λ z. refl; declines = λ f. absurd (f e) }; long = refl }

  module _ {before after : List ℕ} {at : ℕ} {k : Result Size Clause} (f : left ≡ 0 → ⊥) (r : Reached c h.ne p optional)
      (e : at ≡ get_or places p.target 0) (v : DecidedAt ws end inner_depth at before after h p.index optional k) where
    pub step_declined : {n : Clause} → k ≡ Err n
        → StepLooked ws end names places c left before after h p optional (Declined n)
    step_declined g =
        record {
          is = λ b a.
              let s = target_spans b r.member.rule e a in
              record { spent = λ z. absurd (f z); declines = λ _. rw g at (v.is a.rule s.0 s.1) };
          long = v.list.long;
        }

    pub step_goes : {z : Size} → k ≡ Ok z → StepLooked ws end names places c left before after h p optional Overfull
    step_goes g =
        record {
          is = λ b a.
              let s = target_spans b r.member.rule e a in
              let w = rw g at (v.is a.rule s.0 s.1) in
              let m = step_grows inner_depth (meaning ws end inner_depth before h) p.index a.rule optional (λ o. bodied b a) w.is in
              record { some = f; ps = w.ps; is = w.is; alternatives = m.alternatives; options = m.options };
          long = v.list.long;
        }
      where
        bodied : (b : Ground ws end names places c) (a : Among (rules_of ws end b.rules b.standing) p.target) → a.rule.body ≡ [] → ⊥
        bodied b a =
            b.is_cycle.bodied p.target a
            (ap (λ x. member x b.cycle) (sym (id_at b.standing.rows a))
            ∙ sym (row_bit b.is_cycle.row (let l = r.member.rule in let m = b.count in omega arith))
            ∙ r.member.member)

pub ruleset reaching = (reached_name, reached_place, reached_found, reached_room, reached_named, reached_unreferring, reached_index)

pub ruleset stepping = (step_spent, step_declined, step_goes)

-- The alternative that came into the hand.
module _ {ws : List ℕ} {end : ℕ} {names : List ℕ} {c : Cycle} {bs : List ℕ} {h : Listed} {r : Corner} {p : Place}
    (w : CornerAt names c ws end inner_depth bs h r) where
  pub reached_optional : r ≡ C.Optional p → Reached c h.ne p true
  reached_optional e =
      record { member = rw e at w.within; other = λ o. absurd (let z : ◌≡◌ {A = ℕ} 0 1 = cc in omega arith) }

  pub reached_satellite : r ≡ C.Satellite p → Reached c h.ne p false
  reached_satellite e = let m = rw e at w.within in record { member = m.0; other = λ o. m.1 }

module _ {ws : List ℕ} {end : ℕ} {names places : List ℕ} {c : Cycle} {left : ℕ} {bs : List ℕ} {h : Listed} {r : Corner}
    (w : CornerAt names c ws end inner_depth bs h r) where
  pub look_settled : r ≡ C.Settled → HandLooked ws end names places c left bs bs h (Ok tt)
  look_settled e = record { is = λ b limits. settled_corner b limits (rw e at w); long = refl }

  pub look_blocked : {n : Clause} → r ≡ C.Blocked → StuckAt left n
      → HandLooked ws end names places c left bs bs h (Err (Declined n))
  look_blocked e m =
      record {
        is = λ b limits.
            record {
              by = declined blocked_corner;
              replaced = blocked_corner_lem b limits (rw e at w);
              to = stuck_stops (meaning ws end inner_depth bs h) m;
            };
        long = refl;
      }

  module _ {after : List ℕ} {p : Place} (k : Unplanned) where
    pub look_optional : r ≡ C.Optional p → StepLooked ws end names places c left bs after h p true k
        → HandLooked ws end names places c left bs after h (Err k)
    look_optional e m =
        record {
          is = λ b limits.
              let a = target_among b (reached_optional w e).member.rule refl in
              record { by = _; replaced = optional_corner b limits a (rw e at w); to = m.is b a };
          long = m.long;
        }

    pub look_satellite : r ≡ C.Satellite p → StepLooked ws end names places c left bs after h p false k
        → HandLooked ws end names places c left bs after h (Err k)
    look_satellite e m =
        record {
          is = λ b limits.
              let a = target_among b (reached_satellite w e).member.rule refl in
              record { by = _; replaced = satellite_corner b limits a (rw e at w); to = m.is b a };
          long = m.long;
        }

-- The hub's alternative came into the hand.
pub hand_at : {ws : List ℕ} {end : ℕ} {names places : List ℕ} {c : Cycle} {left at : ℕ} {before mid after : List ℕ} {h : Listed} (k : Result (Unit {0}) Unplanned)
    → Brought ws end inner_depth at before mid h → HandLooked ws end names places c left mid after h k
    → LookedAt ws end names places c left at before after k
hand_at {left = left} k g m =
    record {
      is = λ b limits a q s. subst (λ p. LookTo (task_of b limits) left p k) (g.meant a q s) (m.is b limits);
      long = m.long ∙ g.long;
    }

pub ruleset looks = (reached_optional, reached_satellite, look_settled, look_blocked, look_optional, look_satellite)
