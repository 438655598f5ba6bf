use Rattle.planned.proofs.shown.Shown.item.Goals as goal

pub item-requires : goal.item-requires
item-requires c = (c.args.self.now.located, c.requires)

pub returns : goal.returns
returns c = c.item.ensures.is _ _ _ c.args.self.now.listed
