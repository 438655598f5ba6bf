use Rattle.std.proofs.Common.{◌≡◌, ◌+◌, arith, rules}
use Rattle.pass.proofs.deliver.deliver_sheet.Goals as goal
use Rattle.pass.proofs.Laws.Read.{readings}

pub returns-in_default-clause-answered : goal.returns-in_default-clause-answered
returns-in_default-clause-answered c = search (rules, readings)

pub run_unit-requires-clause-begun : goal.run_unit-requires-clause-begun
run_unit-requires-clause-begun c =
    let up_to : c.preserved_end-to.result ≡ c.rules_end-end.result + c.args.read.parts.count = omega arith in search (rules, readings)

pub returns-clause-answered : goal.returns-clause-answered
returns-clause-answered c =
    let up_to : c.preserved_end-to.result ≡ c.rules_end-end.result + c.args.read.parts.count = omega arith in search (rules, readings)
