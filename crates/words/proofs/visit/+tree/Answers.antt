use Rattle.words.specs.Sheet.{text}
use Rattle.std.proofs.Common.{◌+◌, ◌-◌, rules, arith, ap}
use Rattle.words.specs.Kinds.{kind_number}
use Rattle.grammar.specs.Form.{newest}
use Rattle.grammar.specs.Fold.{element_fold, alternative_fold, block_fold}
use Rattle.grammar.specs.Laws.Found.{rooms, inner, block_depth}
use Rattle.grammar.specs.Laws.Fold.{folding_found}
use Rattle.words.proofs.Laws.Visit.{visited_leaf, visited_block, visited_alternative, visited_more, visited_all}
use Rattle.words.proofs.visit.+tree.Goals as goal

pub walk_alternative-alternative_head-inner-requires-clause-bounds : goal.walk_alternative-alternative_head-inner-requires-clause-bounds
walk_alternative-alternative_head-inner-requires-clause-bounds g t c = search (rules, rooms)

pub walk_alternative-walk_elements-requires : goal.walk_alternative-walk_elements-requires
walk_alternative-walk_elements-requires g t c κs within =
    let past = c.alternative_head-inner.ensures.past in
    let on =
    g.met.V.Visitor.laws.on (text c.args.s.now) c.args.s.now.end c.args.depth _ c.alternative_head-inner.result.first c.enter_alternative.new.self
    past c.enter_alternative.ensures.1 in
    search (rules, inner)

pub walk_alternative-returns : goal.walk_alternative-returns
walk_alternative-returns g t c =
    visited_alternative g.met.V.Visitor.laws c.args.depth c.alternative_head-inner.ensures c.enter_alternative.ensures c.walk_elements.ensures

pub walk_alternatives-walk_alternative-p-requires : goal.walk_alternatives-walk_alternative-p-requires
walk_alternatives-walk_alternative-p-requires g t c κs within =
    let found = folding_found c.loop.invariant.2 (λ e. absurd (omega arith)) in search rules

pub walk_alternatives-loop-preserved : goal.walk_alternatives-loop-preserved
walk_alternatives-loop-preserved g t c =
    visited_more g.met.V.Visitor.laws c.args.depth (λ w. alternative_fold w (block_fold w c.args.depth)) c.loop-test.true c.loop.invariant
    c.walk_alternative-p.ensures

pub walk_alternatives-returns : goal.walk_alternatives-returns
walk_alternatives-returns g t c =
    visited_all g.met.V.Visitor.laws c.args.depth (search rules) c.loop.invariant

pub walk_element-element_head-head-requires-clause-bounds : goal.walk_element-element_head-head-requires-clause-bounds
walk_element-element_head-head-requires-clause-bounds g t c = search (rules, rooms)

pub walk_element-enter_block-requires-clause-bounds : goal.walk_element-enter_block-requires-clause-bounds
walk_element-enter_block-requires-clause-bounds g t c =
    let six = ap kind_number c.in-Block.is in
    let deep = block_depth newest c.element_head-head.ensures six c.args.depth c.requires.found_element in search rules

pub walk_element-overflow_sub-depth : goal.walk_element-overflow_sub-depth
walk_element-overflow_sub-depth g t c =
    block_depth newest c.element_head-head.ensures (ap kind_number c.in-Block.is) c.args.depth c.requires.found_element

pub walk_element-walk_alternatives-requires : goal.walk_element-walk_alternatives-requires
walk_element-walk_alternatives-requires g t c κs within =
    let six = ap kind_number c.in-Block.is in
    let past = c.element_head-head.ensures.past in
    let on =
    g.met.V.Visitor.laws.on (text c.args.s.now) c.args.s.now.end (c.args.depth - 1) _ (c.element_head-head.result.payload + 1)
    c.enter_block.new.self (omega arith) c.enter_block.ensures.1 in
    search (rules, inner)

pub walk_element-returns-in-Block : goal.walk_element-returns-in-Block
walk_element-returns-in-Block g t c =
    let six = ap kind_number c.in-Block.is in
    let deep = block_depth newest c.element_head-head.ensures six c.args.depth c.requires.found_element in
    visited_block g.met.V.Visitor.laws c.args.depth c.element_head-head.ensures six deep c.requires.bounds
    c.word-count.ensures c.enter_block.ensures c.walk_alternatives.ensures

pub walk_element-returns-in_default : goal.walk_element-returns-in_default
walk_element-returns-in_default g t c =
    visited_leaf g.met.V.Visitor.laws c.args.depth c.element_head-head.ensures (search rules) c.leaf_end.ensures c.leaf.ensures

pub walk_elements-walk_element-p-requires : goal.walk_elements-walk_element-p-requires
walk_elements-walk_element-p-requires g t c κs within =
    let found = folding_found c.loop.invariant.2 (λ e. absurd (omega arith)) in search rules

pub walk_elements-loop-preserved : goal.walk_elements-loop-preserved
walk_elements-loop-preserved g t c =
    visited_more g.met.V.Visitor.laws c.args.depth (λ w. element_fold w (block_fold w c.args.depth)) c.loop-test.true c.loop.invariant
    c.walk_element-p.ensures

pub walk_elements-returns : goal.walk_elements-returns
walk_elements-returns g t c =
    visited_all g.met.V.Visitor.laws c.args.depth (search rules) c.loop.invariant
