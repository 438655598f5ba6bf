use Rattle.std.proofs.Common.{rules, arith, refl, get_or, ◌+◌, ◌≤◌}
use Rattle.hub.proofs.budget.alternatives.Goals as goal
use Rattle.hub.proofs.budget.alternatives.Goals.{then-has, else-has}
use Rattle.analysis.proofs.Laws.Standing.{place_found, place_room}
use Rattle.hub.proofs.Laws.Budget.{count_none, count_word, sum_more, summing}

pub loop-i-init : goal.loop-i-init
loop-i-init c = search (rules, summing)

pub word-requires : goal.word-requires
word-requires c =
    let room : get_or c.args.g.now.rules.now.places c.loop-i.i 0 + 4 ≤ c.args.g.now.s.now.end =
    place_room c.args.g.now.standing.rows (omega arith) refl refl in
    search rules

-- A member's alternatives are counted, and those of another rule are not.
pub loop-i-preserved : goal.loop-i-preserved
loop-i-preserved c =
    let inv = c.loop-i.invariant in
    let small = c.requires.bounds.0 in
    let h = c.has.ensures in
    elim c.if-has.branch [
      | then-has w ↦ sum_more inv small refl h
          (count_word (place_found c.args.g.now.standing.rows (omega arith) refl refl) w.if-has.true w.word.ensures) w.sum-is
      | else-has w ↦ sum_more inv small refl h (count_none w.if-has.false) (let z = w.sum-is in omega arith)
    ]
