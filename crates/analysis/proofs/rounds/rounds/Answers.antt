use Rattle.analysis.proofs.rounds.rounds.Goals as goal
use Rattle.analysis.proofs.rounds.rounds.Goals.{else-loop-test, then-loop-test+then-r-count}
use Rattle.analysis.proofs.Laws.Rounded.{find_none, find_last, find_stands, find_more, round_more, behind_all}
use native.Mathlib.Omega.{arith}

pub loop-init : goal.loop-init
loop-init c = (find_none (omega arith), c.round_by-r.ensures)

pub loop-preserved : goal.loop-preserved
loop-preserved c =
    let i = c.loop.invariant in
    let more = c.loop-test.true in
    (find_more i.0 i.1 (omega arith) c.if-r-count.false, round_more i.1 c.round_by-next.ensures)

pub returns-clause-facts_found : goal.returns-clause-facts_found
returns-clause-facts_found c =
    let i = c.loop.invariant in
    elim c.loop-test.branch [
      | else-loop-test w ↦ let end = w.loop-test in let low = c.loop.auto in find_last i.0 i.1 (omega arith)
      | then-loop-test+then-r-count w ↦ let more = w.loop-test in find_stands i.0 i.1 (λ z. omega arith) w.if-r-count.true
    ]

pub returns-clause-behind : goal.returns-clause-behind
returns-clause-behind c = behind_all c.loop.invariant.1
