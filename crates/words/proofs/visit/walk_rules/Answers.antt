use Rattle.std.proofs.Common.{rules, arith}
use Rattle.grammar.specs.Form.{newest}
use Rattle.grammar.specs.Tree.{inner_depth, body_depth}
use Rattle.grammar.specs.Fold.{rule_fold}
use Rattle.grammar.specs.Laws.Fold.{folding_found, rules_room}
use Rattle.words.proofs.Laws.Visit.{visited_more, visited_all}
use Rattle.words.proofs.visit.walk_rules.Goals as goal

pub walk_rule-p-requires-clause-bounds : goal.walk_rule-p-requires-clause-bounds
walk_rule-p-requires-clause-bounds g c =
    let room = rules_room newest _ c.loop.invariant.2 (λ e. absurd (omega arith)) in search rules

pub walk_rule-p-requires-clause-found_rule : goal.walk_rule-p-requires-clause-found_rule
walk_rule-p-requires-clause-found_rule g c = folding_found c.loop.invariant.2 (λ e. absurd (omega arith))

pub loop-preserved : goal.loop-preserved
loop-preserved g c =
    visited_more g.met.V.Visitor.laws inner_depth (λ w. rule_fold w body_depth) c.loop-test.true c.loop.invariant c.walk_rule-p.ensures

pub returns : goal.returns
returns g c = visited_all g.met.V.Visitor.laws inner_depth (search rules) c.loop.invariant
