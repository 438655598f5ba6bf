use Rattle.std.proofs.Common.{arith, rules}
use Rattle.listed.proofs.whole.list_joined.Goals as goal
use Rattle.listed.proofs.Laws.Whole.{held_trailer, held_preserved, rules_end, listings, joined_put}

pub overflow_sub-trailer : goal.overflow_sub-trailer
overflow_sub-trailer c = held_trailer c.requires.0

pub invariant_of-trailer : goal.invariant_of-trailer
invariant_of-trailer c = record { last = let held = held_trailer c.requires.0 in omega arith }

pub rules_end-end-requires : goal.rules_end-end-requires
rules_end-end-requires c = held_preserved c.requires.0

pub invariant_of-s : goal.invariant_of-s
invariant_of-s c =
    let held = c.requires.0 in
    let low = (rules_end held c.rules_end-end.ensures).low in
    let room = held.room in
    let most = held.most in
    record { room = record { trailer = omega arith; low = omega arith } }

pub list_rules-requires : goal.list_rules-requires
list_rules-requires c = let o = rules_end c.requires.0 c.rules_end-end.ensures in search (rules, listings)

pub returns : goal.returns
returns c =
    joined_put c.args.plans c.args.steps (search rules) (search rules) (rules_end c.requires.0 c.rules_end-end.ensures) c.line.ensures.1 c.list_rules.ensures.put
    c.list_entries.ensures.put
    (search rules)
