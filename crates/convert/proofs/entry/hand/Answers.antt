use Rattle.convert.proofs.entry.hand.Goals as goal
use Rattle.convert.proofs.Laws.Outcome.{handed_refused, handed_sheet}

pub returns-in-Err : goal.returns-in-Err
returns-in-Err c =
    let a = c.in-Err.ensures in
    handed_refused c.args.sheet.now c.args.res.now c.args.work.now c.requires c.convert_words.new.res c.convert_words.new.work
    a.lengths_stay.0 a.lengths_stay.1 c.clear-in-Err.ensures a.answered c.clear.ensures

pub returns-in-Ok : goal.returns-in-Ok
returns-in-Ok c =
    let a = c.in-Ok.ensures in
    handed_sheet c.args.sheet.now c.args.res.now c.args.work.now c.requires c.convert_words.new.res c.convert_words.new.work
    a.lengths_stay.0 a.lengths_stay.1 c.clear-in-Ok.ensures a.are_bytes a.answered c.clear_from.ensures
