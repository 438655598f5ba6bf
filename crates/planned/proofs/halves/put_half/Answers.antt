use Rattle.std.proofs.Common.{arith, ◌∙◌}
use Rattle.planned.proofs.halves.put_half.Goals as goal
use Rattle.planned.proofs.Laws.Halves.{half_put}

-- src/halves.rt:16:1
pub returns : goal.returns
returns c = half_put _ _ _ _ _ c.requires (omega arith) (omega arith) (c.copy_from_slice.ensures.after ∙ c.to_le_bytes.ensures)
