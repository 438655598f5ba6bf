use Rattle.std.proofs.Common.{arith, ◌∙◌}
use Rattle.splices.proofs.options.meets_among.Goals as goal
use Rattle.splices.proofs.options.meets_among.Goals.{then-word-value, else-word-value}
use Rattle.splices.proofs.Laws.Options.{among_none, among_other, among_same, among_differs}

pub returns-then-word-name : goal.returns-then-word-name
returns-then-word-name g c =
    λ os n given.
    let unmet = c.loop-i.invariant os n given in
    elim c.if-word-value.branch [
      | then-word-value w ↦
          w.result-is
          ∙ among_same unmet given (omega arith) c.place-p.ensures c.word.ensures c.if-word-name.true c.word-then-word-name.ensures w.if-word-value.true
      | else-word-value w ↦
          w.result-is
          ∙ among_differs unmet given (omega arith) c.place-p.ensures c.word.ensures c.if-word-name.true c.word-then-word-name.ensures w.if-word-value.false
    ]

pub loop-i-preserved : goal.loop-i-preserved
loop-i-preserved g c =
    λ os n given.
    among_other (c.loop-i.invariant os n given) given (omega arith) c.place-p.ensures c.word.ensures c.if-word-name.false

pub returns : goal.returns
returns g c = λ os n given. among_none (c.loop-i.invariant os n given) (omega arith)
