use Rattle.std.proofs.Common.{◌∙◌}
use Rattle.std.proofs.lemmas.Result.{err_from_is_err_and}
use Rattle.convert.proofs.entry.convert_words.Goals as goal
use Rattle.convert.proofs.Laws.Outcome.{refusal_told, wide_lent, ids_refused, too_long, written}

pub returns-in_err-n-clause-answered : goal.returns-in_err-n-clause-answered
returns-in_err-n-clause-answered c =
    let p = err_from_is_err_and c.from_residual.result c.from_residual.ensures.1 in
    rw (p.1, p.2) (refusal_told c.in_err-n.ensures.widened)

pub examine-requires : goal.examine-requires
examine-requires c =
    wide_lent c.args.sheet.now c.in_ok-n.ensures.widened (c.in_ok-n.ensures.length_stays ∙ c.wide_area-wide.ensures) c.requires

pub returns-in_err-examine-clause-answered : goal.returns-in_err-examine-clause-answered
returns-in_err-examine-clause-answered c =
    let p = err_from_is_err_and c.from_residual-in_err-examine.result c.from_residual-in_err-examine.ensures.1 in
    rw (p.1, p.2) (ids_refused c.args.sheet.now c.in_ok-n.ensures.widened c.in_err-examine.ensures.read_as)

pub returns-then-n-clause-answered : goal.returns-then-n-clause-answered
returns-then-n-clause-answered c =
    too_long c.args.sheet.now c.in_ok-n.ensures.widened c.in_ok-examine.ensures.read_as c.if-n.true

pub returns-clause-answered : goal.returns-clause-answered
returns-clause-answered c =
    written c.args.sheet.now c.in_ok-n.ensures.widened c.in_ok-examine.ensures.read_as c.if-n.false c.requires c.copy_words.ensures
