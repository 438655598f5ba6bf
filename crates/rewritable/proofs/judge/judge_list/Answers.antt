use Rattle.std.proofs.Common.{rules, ap, sym, ◌∙◌, ◌&&◌}
use Rattle.rewritable.proofs.judge.judge_list.Goals as goal
use Rattle.rewritable.proofs.judge.judge_list.Goals.{then-primary, else-primary}
use Rattle.rewritable.proofs.Laws.Settled.{judging, judge_all, judge_stop, judge_more}

-- src/judge.rt:87:5
pub loop-init : goal.loop-init
loop-init c = search (rules, judging)

-- src/judge.rt:89:17
pub returns-in_err-a : goal.returns-in_err-a
returns-in_err-a c = judge_stop _ _ _ _ _ _ _ _ c.loop.invariant c.read_settled-r.ensures c.in_err-a.ensures c.from_residual.ensures

-- src/judge.rt:87:5
pub loop-preserved : goal.loop-preserved
loop-preserved c =
    judge_more _ _ _ _ _ _ _ _ c.loop.invariant c.read_settled-r.ensures c.loop-test.true c.in_ok-a.ensures c.union-calls.ensures

-- src/judge.rt:65:1
pub returns : goal.returns
returns c =
    let all = c.loop.recursive in
    elim c.if-primary.branch [
      | then-primary w ↦
          judge_all _ _ _ _ _ _ _ _ c.loop.invariant c.loop-test.false (w.then_some-is ∙ sym (ap (λ b. b && all) w.if-primary.true)) c.then_some.ensures
      | else-primary w ↦
          judge_all _ _ _ _ _ _ _ _ c.loop.invariant c.loop-test.false (w.then_some-is ∙ w.if-primary.false ∙ sym (ap (λ b. b && all) w.if-primary.false)) c.then_some.ensures
    ]
