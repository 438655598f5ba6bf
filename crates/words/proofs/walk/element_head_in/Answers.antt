use Rattle.words.proofs.walk.element_head_in.Goals as goal
use Rattle.words.proofs.Laws.Heads.{kind_known, kind_head}

pub unwrap-kind-requires : goal.unwrap-kind-requires
unwrap-kind-requires c = kind_known _ _ c.requires.found_element c.word-number.ensures _ c.try_from.ensures

pub returns : goal.returns
returns c =
    kind_head _ _ c.requires.found_element c.word-number.ensures _ c.try_from.ensures c.unwrap-kind.ensures c.word.ensures
    c.past_options-payload.ensures
