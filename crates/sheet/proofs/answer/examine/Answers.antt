use Rattle.std.proofs.Common.{arith, ap, refl, is_some}
use Rattle.std.proofs.lemmas.Result.{err_from_is_err_and}
use Rattle.sheet.proofs.answer.examine.Goals as goal
use Rattle.grammar.specs.Form.{newest}
use Rattle.sheet.proofs.Laws.Front.{trailer_good, end_at, rows_found}
use Rattle.sheet.proofs.Laws.Answer.{trailer_refused, rules_refused, rising_refused, goes_on}

pub invariant_of-trailer : goal.invariant_of-trailer
invariant_of-trailer c = record { last = let least = c.requires.least in omega arith }

pub returns-in_default-clause-read_as : goal.returns-in_default-clause-read_as
returns-in_default-clause-read_as c = trailer_refused _ c.kind.ensures.good (ap is_some c.in_default.is)

pub rules_end-end-requires : goal.rules_end-end-requires
rules_end-end-requires c = (trailer_good newest _ c.kind.ensures.good (ap is_some c.in-Some.is) c.requires.least).1

pub returns-in_default-read_rules-clause-read_as : goal.returns-in_default-read_rules-clause-read_as
returns-in_default-read_rules-clause-read_as c =
    rules_refused _ c.kind.ensures.good (ap is_some c.in-Some.is) (end_at refl c.requires.least c.rules_end-end.ensures)
    c.read_rules.ensures c.in_default-read_rules.is

pub returns-then-not-is_rising-clause-read_as : goal.returns-then-not-is_rising-clause-read_as
returns-then-not-is_rising-clause-read_as c =
    rising_refused _ c.kind.ensures.good (ap is_some c.in-Some.is) (end_at refl c.requires.least c.rules_end-end.ensures)
    c.read_rules.ensures c.in-Some-read_rules.is c.is_rising.ensures c.if-not-is_rising.true

pub judged-requires-clause-found_rows : goal.judged-requires-clause-found_rows
judged-requires-clause-found_rows c = rows_found c.read_rules.ensures c.in-Some-read_rules.is

pub returns-in_err-parts-clause-read_as : goal.returns-in_err-parts-clause-read_as
returns-in_err-parts-clause-read_as c =
    let p = err_from_is_err_and c.from_residual.result c.from_residual.ensures.1 in
    rw (p.1, p.2)
    (goes_on _ c.kind.ensures.good (ap is_some c.in-Some.is) (end_at refl c.requires.least c.rules_end-end.ensures)
    c.read_rules.ensures c.in-Some-read_rules.is c.is_rising.ensures c.if-not-is_rising.false c.in_err-parts.ensures)

pub returns-clause-read_as : goal.returns-clause-read_as
returns-clause-read_as c =
    goes_on _ c.kind.ensures.good (ap is_some c.in-Some.is) (end_at refl c.requires.least c.rules_end-end.ensures)
    c.read_rules.ensures c.in-Some-read_rules.is c.is_rising.ensures c.if-not-is_rising.false c.in_ok-parts.ensures
