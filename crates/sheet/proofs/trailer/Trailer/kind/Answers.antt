use Rattle.sheet.proofs.trailer.Trailer.kind.Goals as goal
use Rattle.sheet.proofs.Laws.Trailer.{in_front, kind_other, first_other, second_past, trailer_named}

pub returns-in_err-kind : goal.returns-in_err-kind
returns-in_err-kind c =
    rw c.from_residual.ensures (kind_other _ (in_front c.args.self.now.last) c.word.ensures _ c.try_from.ensures c.in_err-kind.ensures.value)

pub returns-then-first-self : goal.returns-then-first-self
returns-then-first-self c =
    first_other _ (in_front c.args.self.now.last) c.word.ensures _ c.try_from.ensures c.in_ok-kind.ensures.value c.word-first.ensures c.if-first-self.true

pub returns-then-first-count : goal.returns-then-first-count
returns-then-first-count c =
    second_past _ (in_front c.args.self.now.last) c.word.ensures _ c.try_from.ensures c.in_ok-kind.ensures.value c.word-first.ensures c.if-first-self.false
    c.count.ensures c.if-first-count.true

pub returns : goal.returns
returns c =
    trailer_named _ (in_front c.args.self.now.last) c.word.ensures _ c.try_from.ensures c.in_ok-kind.ensures.value c.word-first.ensures c.if-first-self.false
    c.count.ensures c.if-first-count.false
