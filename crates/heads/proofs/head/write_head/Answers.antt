use Rattle.std.proofs.Common.{rules, ◌≡◌, ◌∙◌}
use Rattle.planned.specs.Layout.{place_of}
use Rattle.heads.proofs.head.write_head.Goals as goal
use Rattle.heads.proofs.Laws.Options.{heads}

pub write_fixed-requires : goal.write_fixed-requires
write_fixed-requires c =
    let slot : c.from-slot.result ≡ place_of c.args.x.slot = c.from-slot.ensures ∙ c.place.ensures.0 in search (rules, heads)

pub write_options-requires-clause-located : goal.write_options-requires-clause-located
write_options-requires-clause-located c = search (rules, heads)

pub returns : goal.returns
returns c =
    let slot : c.from-slot.result ≡ place_of c.args.x.slot = c.from-slot.ensures ∙ c.place.ensures.0 in search (rules, heads)
