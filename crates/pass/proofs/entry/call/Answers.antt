use Rattle.std.proofs.Common.{rules}
use Rattle.grammar.specs.Laws.Words.{AreBytes}
use Rattle.pass.proofs.entry.call.Goals as goal
use Rattle.pass.proofs.Laws.Outcome.{outcomes}

-- src/entry.rt:71:9
pub returns-then-not-is_length : goal.returns-then-not-is_length
returns-then-not-is_length c =
    let known : AreBytes c.args.sheet.now = λ i. (c.type_inv.sheet i).fits in search (rules, outcomes)

-- src/entry.rt:74:9
pub returns-then-not-are_lent : goal.returns-then-not-are_lent
returns-then-not-are_lent c =
    let known : AreBytes c.args.sheet.now = λ i. (c.type_inv.sheet i).fits in search (rules, outcomes)
