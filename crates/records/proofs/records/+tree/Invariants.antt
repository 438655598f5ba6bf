use Prim.Native.Nat.{◌+◌, ◌*◌}
use Rattle.records.specs.Lent.{form, text}
use Rattle.records.specs.Step.{step_of}
use Rattle.records.proofs.Laws.Steps.{Left}
use Rattle.grammar.specs.Read.{element_at_in, alternative_at_in, block_at_in}
use Rattle.records.proofs.records.+tree.Given as goal

abbrev pub decreases-alternative_at : goal.decreases-alternative_at
decreases-alternative_at l = l.depth * 8 + 4

abbrev pub decreases-alternatives_at : goal.decreases-alternatives_at
decreases-alternatives_at l = l.depth * 8 + 5

abbrev pub decreases-block_at : goal.decreases-block_at
decreases-block_at l = l.depth * 8

abbrev pub decreases-element_at : goal.decreases-element_at
decreases-element_at l = l.depth * 8 + 2

abbrev pub decreases-elements_at : goal.decreases-elements_at
decreases-elements_at l = l.depth * 8 + 3

abbrev pub decreases-payload_at : goal.decreases-payload_at
decreases-payload_at l = l.depth * 8 + 1

abbrev pub invariant-alternatives_at-loop : goal.invariant-alternatives_at-loop
invariant-alternatives_at-loop l =
    Left (λ x. step_of (alternative_at_in (form l.s) (text l.s) l.s.end (block_at_in (form l.s) (text l.s) l.s.end l.depth) x)) l.n l.at
    l.counter l.p

abbrev pub invariant-elements_at-loop : goal.invariant-elements_at-loop
invariant-elements_at-loop l =
    Left (λ x. step_of (element_at_in (form l.s) (text l.s) l.s.end (block_at_in (form l.s) (text l.s) l.s.end l.depth) x)) l.n l.at
    l.counter l.p
