use Rattle.records.proofs.records.call_at.Goals as goal
use Rattle.records.proofs.Laws.Records.{call_named}

pub returns : goal.returns
returns c = call_named _ _ _ _ c.call_words.ensures.number c.named_at.ensures
