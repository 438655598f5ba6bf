use Rattle.std.proofs.Common.{◌≡◌, Bool, true, false, ap, rules}
use Rattle.words.specs.Kinds.{sort_number}
use Rattle.ids.proofs.ids.own_id.Goals as goal
use Rattle.ids.proofs.Laws.Ids.{own_no_action, own_no_predicate, owns}

-- src/ids.rt:18:1
pub returns-in-Element : goal.returns-in-Element
returns-in-Element c = search (rules, owns)

-- src/ids.rt:18:1
pub returns-in-Label : goal.returns-in-Label
returns-in-Label c = search (rules, owns)

-- src/ids.rt:18:1
pub returns-in-Action : goal.returns-in-Action
returns-in-Action c = search (rules, owns)

-- src/ids.rt:18:1
pub returns-in-Predicate : goal.returns-in-Predicate
returns-in-Predicate c = search (rules, owns)

-- src/ids.rt:18:1
pub returns-in_default : goal.returns-in_default
returns-in_default c = search (rules, owns)

-- src/ids.rt:18:1
pub returns-in_default-2 : goal.returns-in_default-2
returns-in_default-2 c =
    own_no_action _ _ _ _ c.requires.kind_is (ap sort_number c.in-Action.is)
    λ e. let z : ◌≡◌ {A = Bool} false true = rw e at c.if-eq.ensures in cc

-- src/ids.rt:18:1
pub returns-in_default-3 : goal.returns-in_default-3
returns-in_default-3 c =
    own_no_predicate _ _ _ _ c.requires.kind_is (ap sort_number c.in-Predicate.is)
    λ e. let z : ◌≡◌ {A = Bool} false true = rw e at c.if-eq-2.ensures in cc

-- src/ids.rt:18:1
pub returns-in_default-4 : goal.returns-in_default-4
returns-in_default-4 c = search (rules, owns)
