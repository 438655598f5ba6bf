use Rattle.std.proofs.Common.{refl}
use Rattle.plans.proofs.first_plan.Goals as goal
use Rattle.facts.proofs.Laws.Told as facts
use Rattle.plans.proofs.Laws.Ground.{read_small, read_kept, read_rises}
use Rattle.plans.proofs.Laws.Told.{first_sheet}

pub invariant_of-s : goal.invariant_of-s
invariant_of-s c = record { room = rw c.rules_end-end.ensures (facts.read_room _ _ c.in-Ok.ensures.read_as) }

pub decide_first-found-requires : goal.decide_first-found-requires
decide_first-found-requires c =
    let o = c.in-Ok.ensures in
    rw c.rules_end-end.ensures
    (record {
      bounds = (read_small _ _ o.read_as, facts.read_work _ _ o.read_as o.work_after);
    })

pub invariant_of-g : goal.invariant_of-g
invariant_of-g c = record { standing = rw c.rules_end-end.ensures (facts.read_rules _ _ c.in-Ok.ensures.read_as) }

pub slice_bounds-preserved-end : goal.slice_bounds-preserved-end
slice_bounds-preserved-end c = (read_kept _ _ c.in-Ok.ensures.read_as c.preserved_end-to.ensures).inside

pub invariant_of-preserved : goal.invariant_of-preserved
invariant_of-preserved c =
    record { rises = rw c.rules_end-end.ensures (read_rises _ _ c.in-Ok.ensures.read_as c.preserved_end-to.ensures) }

pub returns-in-Ok-clause-first_told : goal.returns-in-Ok-clause-first_told
returns-in-Ok-clause-first_told c =
    let t = c.tell-t.ensures in
    let x = c.choice_in-choice.ensures in
    first_sheet _ _ c.in-Ok.ensures.read_as c.preserved_end-to.ensures (rw (c.rules_end-end.ensures, c.reading_of.ensures) at c.decide_first-found.ensures)
    (rw x at t.0) c.members_in.ensures (rw x at t.1) refl (rw x at c.leave.ensures)
