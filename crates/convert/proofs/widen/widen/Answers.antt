use Rattle.std.proofs.Common.{arith, ◌∙◌, ap, refl}
use mathlib.Core.Bool.{not}
use Rattle.grammar.specs.Form.{first_form}
use Rattle.sheet.proofs.Laws.Front.{trailer_bad, trailer_good, end_at, records_bad, preserved_bad}
use Rattle.convert.proofs.widen.widen.Goals as goal
use Rattle.convert.proofs.Laws.Read.{readable, newest_words_of}

pub invariant_of-trailer : goal.invariant_of-trailer
invariant_of-trailer c = record { last = let least = c.requires.least in omega arith }

pub returns-then-is_none-clause-widened : goal.returns-then-is_none-clause-widened
returns-then-is_none-clause-widened c =
    trailer_bad first_form _ c.kind.ensures.good (c.is_none.ensures ∙ ap not c.if-is_none.true)

pub rules_end-end-requires : goal.rules_end-end-requires
rules_end-end-requires c =
    (trailer_good first_form _ c.kind.ensures.good (c.is_none.ensures ∙ ap not c.if-is_none.false) c.requires.least).1

pub returns-in_default-clause-widened : goal.returns-in_default-clause-widened
returns-in_default-clause-widened c =
    records_bad first_form _ c.kind.ensures.good (c.is_none.ensures ∙ ap not c.if-is_none.false)
    (end_at refl c.requires.least c.rules_end-end.ensures) c.read_rules_in.ensures c.in_default.is

pub returns-then-not-is_rising-clause-widened : goal.returns-then-not-is_rising-clause-widened
returns-then-not-is_rising-clause-widened c =
    preserved_bad first_form _ c.kind.ensures.good (c.is_none.ensures ∙ ap not c.if-is_none.false)
    (end_at refl c.requires.least c.rules_end-end.ensures) c.read_rules_in.ensures c.in-Some.is c.is_rising.ensures
    c.if-not-is_rising.true

pub write_newest-requires-clause-readable : goal.write_newest-requires-clause-readable
write_newest-requires-clause-readable c =
    readable _ c.kind.ensures.good (c.is_none.ensures ∙ ap not c.if-is_none.false)
    (end_at refl c.requires.least c.rules_end-end.ensures) c.read_rules_in.ensures c.in-Some.is c.is_rising.ensures
    c.if-not-is_rising.false

pub returns-clause-widened : goal.returns-clause-widened
returns-clause-widened c =
    newest_words_of c.requires
    (readable _ c.kind.ensures.good (c.is_none.ensures ∙ ap not c.if-is_none.false)
    (end_at refl c.requires.least c.rules_end-end.ensures) c.read_rules_in.ensures c.in-Some.is c.is_rising.ensures
    c.if-not-is_rising.false)
    c.write_newest.ensures.written
