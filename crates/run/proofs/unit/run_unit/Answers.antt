use Rattle.std.proofs.Common.{refl, rules, arith}
use Rattle.run.proofs.unit.run_unit.Goals as goal
use Rattle.run.proofs.Laws.Start.{begins, begun_rises, begun_standing}
use Rattle.run.proofs.Laws.Loop.{loops, looping_start, looping_more}

pub invariant_of-s : goal.invariant_of-s
invariant_of-s c = record { room = search (rules, loops, begins) }

-- src/unit.rt:42:9
pub find_out-ground-requires : goal.find_out-ground-requires
find_out-ground-requires c = search (rules, loops, begins)

pub invariant_of-preserved : goal.invariant_of-preserved
invariant_of-preserved c = record { rises = begun_rises c.requires.begun }

pub invariant_of-g : goal.invariant_of-g
invariant_of-g c = record { standing = begun_standing c.requires.begun }

-- src/unit.rt:46:5
pub loop-next-init : goal.loop-next-init
loop-next-init c =
    let b = c.requires.buffers in
    let g = c.find_out-ground.ensures in (
      looping_start b.0 b.1 b.2 b.3 c.requires.begun g.facts_found g.kept_of (search rules) c.begin-st.ensures,
      refl,
      refl,
      refl,
    )

-- src/unit.rt:46:5
pub loop-next-smaller : goal.loop-next-smaller
loop-next-smaller c = let t = rw c.in-Some.is at c.in_ok-next.ensures.turned_of in search (rules, loops)

-- src/unit.rt:46:5
pub loop-next-preserved : goal.loop-next-preserved
loop-next-preserved c =
    let t = rw c.in-Some.is at c.in_ok-next.ensures.turned_of in
    let o = c.in_ok-next.ensures in
    let n = o.lengths_stay in
    (looping_more c.loop-next.invariant.0 t n.0 n.1 n.2, omega arith, omega arith, omega arith)

-- src/unit.rt:20:1
pub returns-clause-run_of : goal.returns-clause-run_of
returns-clause-run_of c = let t = rw c.in_default.is at c.in_ok-next.ensures.turned_of in search (rules, loops)
