use Rattle.listing.proofs.Laws.Handed.{handed_answers}
use Rattle.listing.proofs.answer.list_in.Goals as goal

-- src/answer.rt:56:5
pub list-requires : goal.list-requires
list-requires c = handed_answers (λ i. (c.type_inv.sheet i).fits) c.requires c.pass-a.ensures
