use Rattle.std.proofs.Common.{rules, get_or, ◌≤◌}
use Rattle.apply.proofs.left.words_left.Goals as goal
use Rattle.apply.proofs.left.words_left.Goals.{then-not-has, else-not-has}
use native.Mathlib.Omega.{arith}
use Prim.Native.Nat.{◌≤◌}
use mathlib.Core.Path.{refl}
use Rattle.apply.proofs.Laws.Left.{none_taken, ends_within, rule_taken, counting_more, countings}

-- src/left.rt:30:22
pub overflow_sub-total : goal.overflow_sub-total
overflow_sub-total c =
    let z : (get_or c.args.rules.places c.loop-i.i 0 ≤ c.rule_end.result) × (c.rule_end.result ≤ c.args.end) =
    ends_within c.requires.0 (search rules) (c.rule_end.ensures.is _ refl refl) refl in
    z.0

-- src/left.rt:30:13
pub overflow_add-total : goal.overflow_add-total
overflow_add-total c =
    let z : (get_or c.args.rules.places c.loop-i.i 0 ≤ c.rule_end.result) × (c.rule_end.result ≤ c.args.end) =
    ends_within c.requires.0 (search rules) (c.rule_end.ensures.is _ refl refl) refl in
    search rules

-- src/left.rt:28:5
pub loop-i-preserved : goal.loop-i-preserved
loop-i-preserved c =
    let asked = c.requires in
    let inv = c.loop-i.invariant.0 in
    let h = c.has.ensures in (
      elim c.if-not-has.branch [
        | then-not-has w ↦ counting_more _ _ _ _ _ _ inv (omega arith) asked.2 h
            (rule_taken asked.0 (search rules) (w.rule_end.ensures.is _ refl refl) refl asked.3 w.if-not-has.true)
            w.total-is
        | else-not-has w ↦ counting_more _ _ _ _ _ _ inv (omega arith) asked.2 h (none_taken w.if-not-has.false)
            (let z = w.total-is in omega arith)
      ],
      search rules,
    )

-- src/left.rt:14:1
pub returns : goal.returns
returns c = search (rules, countings)
