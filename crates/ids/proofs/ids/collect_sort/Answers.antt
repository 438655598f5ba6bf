use Rattle.std.proofs.Common.{rules}
use Rattle.grammar.specs.Words.{words}
use Rattle.words.specs.Kinds.{sort_number}
use Rattle.ids.proofs.ids.collect_sort.Goals as goal
use Rattle.ids.proofs.Laws.Seeing.{collected_sort}

pub returns : goal.returns
returns c =
    let walked = c.walk_rules.ensures in
    collected_sort (sort_number c.args.sort) (words c.args.work.now) (search rules) walked.1.0 walked.2
