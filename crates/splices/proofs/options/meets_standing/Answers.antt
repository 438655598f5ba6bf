use Rattle.words.specs.Sheet.{text}
use Rattle.std.proofs.Common.{rules}
use Rattle.splices.proofs.options.meets_standing.Goals as goal
use Rattle.splices.proofs.Laws.Options.{standing_at, standing_count}

pub returns : goal.returns
returns c =
    let ws = text c.args.s.now in
    c.meets_among.ensures _ (standing_count ws c.args.s.now.end c.args.depth c.args.at c.args.n)
    (record { each = λ i p l h. standing_at ws c.args.s.now.end c.args.depth c.args.at c.args.n (search rules) l })
