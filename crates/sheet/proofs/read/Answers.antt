use Rattle.std.proofs.Common.{rules}
use Rattle.sheet.proofs.read.Goals as goal
use Rattle.sheet.proofs.Laws.Lent.{reads}

pub returns-then-not-is_length-clause-read_as : goal.returns-then-not-is_length-clause-read_as
returns-then-not-is_length-clause-read_as c = search (rules, reads)

pub returns-then-not-is_length-clause-work_after : goal.returns-then-not-is_length-clause-work_after
returns-then-not-is_length-clause-work_after c = search (rules, reads)

pub returns-then-work-lt-BYTES-clause-read_as : goal.returns-then-work-lt-BYTES-clause-read_as
returns-then-work-lt-BYTES-clause-read_as c = search (rules, reads)

pub returns-then-work-lt-BYTES-clause-work_after : goal.returns-then-work-lt-BYTES-clause-work_after
returns-then-work-lt-BYTES-clause-work_after c = search (rules, reads)

pub returns-clause-read_as : goal.returns-clause-read_as
returns-clause-read_as c = search (rules, reads)

pub returns-clause-work_after : goal.returns-clause-work_after
returns-clause-work_after c = search (rules, reads)
