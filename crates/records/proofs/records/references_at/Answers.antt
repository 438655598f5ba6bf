use Rattle.std.proofs.Common.{rules, ◌∙◌}
use Rattle.grammar.specs.Read.{reference_at}
use Rattle.records.specs.Lent.{text}
use Rattle.records.specs.Step.{step_of}
use Rattle.records.proofs.records.references_at.Goals as goal
use Rattle.records.proofs.Laws.Steps.{many_steps}

pub returns : goal.returns
returns c =
    c.many.ensures (λ x. step_of (reference_at (text c.args.s.now) c.args.s.now.end x)) (λ x r h p. search rules)
    ∙ many_steps (reference_at (text c.args.s.now) c.args.s.now.end) c.args.n c.args.at
