use Rattle.std.proofs.Common.{rules, ◌∙◌}
use Rattle.grammar.specs.Tree.{inner_depth}
use Rattle.collisions.specs.Names.{kept_trans}
use Rattle.collisions.proofs.Laws.Items.{itemizing}
use Rattle.collisions.proofs.Laws.Mark.{same}
use Rattle.collisions.proofs.Laws.Around.{marking_more}
use Rattle.collisions.proofs.mark.Marker.mark_items.Goals as goal

pub loop-i-preserved : goal.loop-i-preserved
loop-i-preserved c =
    let before = c.loop-i.invariant in
    let after = c.walk_element.ensures in
    let walked = rw (← before.1) at after.2 in (
      before.0 ∙ after.0.0,
      before.1 ∙ after.0.1,
      kept_trans before.2 after.0.2,
      marking_more inner_depth c.requires.ordered.1 c.requires.bounds.0 before.2 c.item-e.ensures c.args.self.now.name before.3
          c.loop-i-test.true walked,
    )

pub returns-clause-marked : goal.returns-clause-marked
returns-clause-marked c = search (rules, same, itemizing)
