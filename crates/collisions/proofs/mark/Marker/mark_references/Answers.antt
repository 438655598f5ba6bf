use Rattle.std.proofs.Common.{◌≡◌, ◌+◌, ◌-◌, ◌*◌, rules, arith, ◌∙◌}
use Rattle.collisions.specs.Names.{kept_trans}
use Rattle.grammar.specs.Laws.Fold.{folding_found, folding_more}
use Rattle.collisions.proofs.Laws.Mark.{next_room, references_done, same}
use Rattle.collisions.proofs.mark.Marker.mark_references.Goals as goal

pub mark_reference-requires-clause-bounds : goal.mark_reference-requires-clause-bounds
mark_reference-requires-clause-bounds c =
    let room = next_room c.args.self.now.name c.loop-i.invariant.3 (λ e. absurd (omega arith)) in search (rules, same)

pub mark_reference-requires-clause-found_reference : goal.mark_reference-requires-clause-found_reference
mark_reference-requires-clause-found_reference c = folding_found c.loop-i.invariant.3 (λ e. absurd (omega arith))

pub loop-i-preserved : goal.loop-i-preserved
loop-i-preserved c =
    let less : c.args.n - c.loop-i.i - 1 ≡ c.args.n - (c.loop-i.i + 1) = omega arith in
    let there : c.args.at + 2 * c.loop-i.i + 2 ≡ c.args.at + 2 * (c.loop-i.i + 1) = omega arith in
    let before = c.loop-i.invariant in
    let after = c.mark_reference.ensures in
    let marked = rw (← before.1) at after.marked.1 in (
      before.0 ∙ after.same_buffer,
      before.1 ∙ after.same_name,
      kept_trans before.2 after.marked.0,
      rw (← less, ← there) (folding_more before.3 (λ e. absurd (omega arith)) marked),
    )

pub returns-clause-marked : goal.returns-clause-marked
returns-clause-marked c = (c.loop-i.invariant.2, references_done c.loop-i.invariant.3 (omega arith))
