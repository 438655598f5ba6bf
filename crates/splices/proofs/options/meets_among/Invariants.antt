use Rattle.std.proofs.Common.{◌≡◌, List, length}
use Rattle.grammar.specs.Words.{words}
use Rattle.grammar.specs.Tree.{OptionDecl}
use Rattle.splices.specs.Options.{GivenAt}
use Rattle.splices.proofs.Laws.Options.{Unmet}
use Rattle.splices.proofs.options.meets_among.Given as goal

abbrev pub invariant-loop-i : goal.invariant-loop-i
invariant-loop-i g l = (os : List OptionDecl) → length os ≡ l.n → GivenAt (words l.s) (goal.F-post g l.place) os → Unmet os l.name l.value l.i
