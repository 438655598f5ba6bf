use mathlib.Core.Bool.{false}
use Rattle.grammar.specs.Tree.{inner_depth}
use Rattle.planned.specs.Shown.{meant}
use Rattle.collisions.specs.Quiet.{listening}
use Rattle.collisions.proofs.Laws.Items.{Itemizing}
use Rattle.collisions.proofs.quiet.is_quiet.Given as goal

abbrev pub invariant-loop-i : goal.invariant-loop-i
invariant-loop-i l = Itemizing listening inner_depth (meant l.a).elements 0 l.a.x.ne false l.i l.listener.noisy
