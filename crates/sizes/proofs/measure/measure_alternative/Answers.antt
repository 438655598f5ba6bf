use Rattle.std.proofs.Common.{rules}
use Rattle.sizes.proofs.measure.measure_alternative.Goals as goal
use native.Mathlib.Omega.{arith}
use Rattle.sizes.proofs.Laws.Elements.{no_ids_is}
use Rattle.sizes.proofs.Laws.Settled.{listed_new, listed_kept, listed_under}

-- src/measure.rt:76:17
pub overflow_add-words-2 : goal.overflow_add-words-2
overflow_add-words-2 c =
    let low = listed_under c.args.a.now c.measure_elements-m.ensures in omega (arith, low.words)

-- src/measure.rt:79:27
pub overflow_add-tally : goal.overflow_add-tally
overflow_add-tally c =
    let low = listed_under c.args.a.now c.measure_elements-m.ensures in omega (arith, low.alternatives)

-- src/measure.rt:78:9
pub returns-then-a-lt-BIT : goal.returns-then-a-lt-BIT
returns-then-a-lt-BIT c = search (rules, listed_new)

-- src/measure.rt:70:1
pub returns : goal.returns
returns c = search (rules, no_ids_is, listed_kept)
