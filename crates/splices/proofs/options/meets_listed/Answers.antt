use Rattle.words.specs.Sheet.{text}
use Rattle.std.proofs.Common.{rules}
use Rattle.planned.specs.Laws.Parts.{options_count}
use Rattle.splices.proofs.options.meets_listed.Goals as goal
use Rattle.splices.proofs.Laws.Options.{listed_at}

pub returns : goal.returns
returns c =
    let ws = text c.args.s.now in
    c.meets_among.ensures _ (options_count ws c.args.s.now.end c.args.depth c.args.work.now c.args.from c.args.n)
    (record { each = λ i p l h. listed_at ws c.args.s.now.end c.args.depth c.args.work.now c.args.from c.args.n (search rules) l })
