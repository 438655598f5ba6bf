use Rattle.std.proofs.Common.{arith}
use Rattle.grammar.specs.Form.{first_form}
use Rattle.grammar.specs.Tree.{inner_depth}
use Rattle.grammar.specs.Laws.Found.{rule_room}
use Rattle.convert.proofs.walk.widen_rule.Goals as goal
use Rattle.convert.proofs.Laws.Nodes.{rule_alternatives, rule_widened}

pub copy_up_to-inner-requires-clause-bounds : goal.copy_up_to-inner-requires-clause-bounds
copy_up_to-inner-requires-clause-bounds c = let r = rule_room first_form inner_depth c.requires.found_rule in (omega arith, omega arith)

pub widen_alternatives-requires-clause-found_alternatives : goal.widen_alternatives-requires-clause-found_alternatives
widen_alternatives-requires-clause-found_alternatives c =
    rule_alternatives inner_depth c.args.s.now.room c.word-count.ensures c.copy_up_to-inner.ensures.copied c.requires.found_rule

pub returns : goal.returns
returns c = rule_widened inner_depth c.args.s.now.room c.word-count.ensures c.copy_up_to-inner.ensures.copied c.widen_alternatives.ensures
