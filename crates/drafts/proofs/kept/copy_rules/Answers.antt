use Rattle.std.proofs.Common.{rules, refl, get_or}
use Rattle.drafts.proofs.kept.copy_rules.Goals as goal
use Rattle.drafts.proofs.kept.copy_rules.Goals.{then-not-has, else-not-has}
use Rattle.drafts.proofs.Laws.Kept.{rule_gone, Spans, rule_spans, rule_added, copying_fits, copying_more, copying}

pub overflow_sub-long : goal.overflow_sub-long
overflow_sub-long c =
    let z : Spans c.args.g.now.s.now.end (get_or c.args.g.now.rules.now.places c.loop-i.i 0) c.rule_end.result c.loop-i.d.pen.to = rule_spans c.args.g.now.standing (search rules) (c.rule_end.ensures.is _ refl refl) refl c.if-not-has.true
    (copying_fits _ _ _ _ _ _ _ _ c.loop-i.invariant c.loop-i-test.true c.has.ensures) in
    z.past

pub copy_words-requires : goal.copy_words-requires
copy_words-requires c =
    let z : Spans c.args.g.now.s.now.end (get_or c.args.g.now.rules.now.places c.loop-i.i 0) c.rule_end.result c.loop-i.d.pen.to = rule_spans c.args.g.now.standing (search rules) (c.rule_end.ensures.is _ refl refl) refl c.if-not-has.true
    (copying_fits _ _ _ _ _ _ _ _ c.loop-i.invariant c.loop-i-test.true c.has.ensures) in
    (search rules, search (rules, copying))

pub add_row-requires : goal.add_row-requires
add_row-requires c =
    let z : Spans c.args.g.now.s.now.end (get_or c.args.g.now.rules.now.places c.loop-i.i 0) c.rule_end.result c.loop-i.d.pen.to = rule_spans c.args.g.now.standing (search rules) (c.rule_end.ensures.is _ refl refl) refl c.if-not-has.true
    (copying_fits _ _ _ _ _ _ _ _ c.loop-i.invariant c.loop-i-test.true c.has.ensures) in
    (search rules, c.loop-i.invariant.ready.low, z.fits)

-- With its row, or as before.
pub loop-i-preserved : goal.loop-i-preserved
loop-i-preserved c =
    copying_more _ _ _ _ _ _ _ _ c.loop-i.invariant c.loop-i-test.true c.has.ensures c.requires.bounds.1
    (elim c.if-not-has.branch [
      | then-not-has w ↦ rule_added c.args.g.now.s.now.room w.if-not-has.true (search rules) (w.rule_end.ensures.is _ refl refl)
          refl refl refl (search rules) (rw w.d-is w.add_row.ensures) (rw w.work-is w.copy_words.ensures)
      | else-not-has w ↦ rule_gone w.if-not-has.false w.work-is w.d-is
    ])
    c.args.g.now.standing

pub returns : goal.returns
returns c = search (rules, copying)
