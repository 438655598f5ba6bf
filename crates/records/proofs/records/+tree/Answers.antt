use Rattle.std.proofs.Common.{arith, ◌∙◌}
use Rattle.records.proofs.records.+tree.Goals as goal
use Rattle.records.proofs.Laws.Steps.{left_more, left_bad, left_done, many_steps}
use Rattle.records.proofs.Laws.Trees.{element_more}

pub element_at-returns : goal.element_at-returns
element_at-returns t c =
    element_more _ _ _ _ _ c.word.ensures _ c.try_from.ensures c.in_ok-kind.ensures.value c.in_ok-p.ensures c.payload_at.ensures

pub alternatives_at-loop-preserved : goal.alternatives_at-loop-preserved
alternatives_at-loop-preserved t c = left_more _ c.loop.invariant (omega arith) c.in_ok-p.ensures

pub alternatives_at-returns-in_err-p : goal.alternatives_at-returns-in_err-p
alternatives_at-returns-in_err-p t c =
    c.from_residual.ensures ∙ left_bad _ c.loop.invariant (omega arith) c.in_err-p.ensures ∙ many_steps _ _ _

pub alternatives_at-returns : goal.alternatives_at-returns
alternatives_at-returns t c = left_done _ c.loop.invariant (omega arith) ∙ many_steps _ _ _

pub elements_at-loop-preserved : goal.elements_at-loop-preserved
elements_at-loop-preserved t c = left_more _ c.loop.invariant (omega arith) c.in_ok-p.ensures

pub elements_at-returns-in_err-p : goal.elements_at-returns-in_err-p
elements_at-returns-in_err-p t c =
    c.from_residual.ensures ∙ left_bad _ c.loop.invariant (omega arith) c.in_err-p.ensures ∙ many_steps _ _ _

pub elements_at-returns : goal.elements_at-returns
elements_at-returns t c = left_done _ c.loop.invariant (omega arith) ∙ many_steps _ _ _
