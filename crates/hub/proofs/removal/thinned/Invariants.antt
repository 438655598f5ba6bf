use Rattle.grammar.specs.Numbers.{rule_limit}
use Rattle.reach.specs.Rows.{bit}
use Rattle.analysis.specs.Rounds.{count_below}
use Rattle.hub.proofs.Laws.Removal.{Thinning}
use Rattle.hub.proofs.removal.thinned.Given as goal

abbrev pub invariant-loop-planned : goal.invariant-loop-planned
invariant-loop-planned l = Thinning l.calls l.n l.planned l.hub l.initial.m l.m

abbrev pub decreases-loop-planned : goal.decreases-loop-planned
decreases-loop-planned l = count_below (bit l.m) rule_limit
