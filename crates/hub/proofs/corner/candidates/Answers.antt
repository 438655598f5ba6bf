use Rattle.std.proofs.Common.{rules, refl}
use Rattle.hub.proofs.corner.candidates.Goals as goal
use Rattle.analysis.proofs.Laws.Standing.{place_found, place_room}
use Rattle.hub.proofs.Laws.Able.{candidates_of}

pub collect-requires-clause-test : goal.collect-requires-clause-test
collect-requires-clause-test c =
    λ i l.
    let found = place_found c.args.g.now.standing.rows l c.requires.bounds refl in
    let room = place_room c.args.g.now.standing.rows l c.requires.bounds refl in
    search rules

pub returns : goal.returns
returns c = candidates_of c.collect.ensures (search rules) (λ k b l p. search rules)
