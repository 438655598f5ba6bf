use Rattle.grammar.specs.Tree.{inner_depth}
use Rattle.steps.proofs.corner.quantifier_of.Goals as goal
use Rattle.steps.proofs.Laws.Corner.{quantifier_known}

pub unwrap-requires : goal.unwrap-requires
unwrap-requires c = quantifier_known inner_depth c.requires.found_element c.word-number.ensures _ c.try_from.ensures
