use Rattle.std.proofs.Common.{◌∙◌}
use Rattle.sheet.proofs.read_sheet.Goals as goal
use Rattle.sheet.proofs.Laws.Sizes.{standing, numbers_sheet, names_sheet, places_sheet}

pub counted-sizes-requires : goal.counted-sizes-requires
counted-sizes-requires c = standing _ _ c.in-Ok.ensures.read_as

pub returns-in-Ok-clause-numbers_after : goal.returns-in-Ok-clause-numbers_after
returns-in-Ok-clause-numbers_after c = numbers_sheet _ _ c.in-Ok.ensures.read_as c.counted-sizes.ensures c.sheet_numbers.ensures

pub returns-in-Ok-clause-names_after : goal.returns-in-Ok-clause-names_after
returns-in-Ok-clause-names_after c = c.copy_from_slice-in-Ok.ensures.after ∙ names_sheet _ _ c.in-Ok.ensures.read_as

pub returns-in-Ok-clause-places_after : goal.returns-in-Ok-clause-places_after
returns-in-Ok-clause-places_after c = c.copy_from_slice-in-Ok-2.ensures.after ∙ places_sheet _ _ c.in-Ok.ensures.read_as
