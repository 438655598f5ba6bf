-- How many settled alternatives are ahead of a position.
use Prim.Native.Nat.{ℕ, ◌+◌, ◌-◌}
use mathlib.Core.Path.{◌≡◌, refl, ap}
use mathlib.Core.List.{List, []}
use native.Mathlib.Omega.{arith}
use lib.ListN.{length}
use Rattle.planned.specs.Layout.{settled}
use Rattle.planned.specs.List.{elements_of, options_of}
use Rattle.planned.specs.Reading.{settled_from, AtFront, ReadNext}
use Rattle.planned.specs.Laws.Runs.{run_count}
use Rattle.planned.specs.declared.list.Sizes.{Sizes}
use Rattle.planned.specs.declared.list.Listed.{Listed}
use Rattle.planned.specs.declared.list.Cursor.{Cursor}

pub at_front : {c : Cursor} → c.a ≡ 0 → c.e ≡ 0 → c.o ≡ 0 → AtFront c
unfolding elements_of options_of settled settled_from
at_front {c} p q r =
    record {
      on = λ bs l. record { within = omega arith; elements = rw (p, q) refl; options = rw (p, r) refl };
      all = λ ws end d bs l. let k : l.out.a - c.a ≡ l.out.a = omega arith in rw (k, p, q, r) refl;
    }

-- From the front all of them are, and reading one leaves one less.
pub all_ahead : (bs : List ℕ) (l : Sizes) {c : Cursor} → AtFront c → l.out.a - c.a ≡ l.out.a - 0
unfolding settled_from settled
all_ahead bs l {c} k =
    let e = ap length (k.all [] 0 0 bs l) in
    let a = run_count bs [] 0 0 (l.out.a - c.a) c.a c.e c.o in
    let b = run_count bs [] 0 0 l.out.a 0 0 0 in
    omega arith

pub one_ahead : {bs : List ℕ} {l : Sizes} {c : Cursor} {x : Listed} {next : Cursor} → ReadNext bs l c x next
    → l.out.a - c.a ≡ l.out.a - next.a + 1
unfolding settled_from
one_ahead {bs} {l} {c} {x} {next} n =
    let e = ap length (n.first [] 0 0) in
    let a = run_count bs [] 0 0 (l.out.a - c.a) c.a c.e c.o in
    let b = run_count bs [] 0 0 (l.out.a - next.a) next.a next.e next.o in
    omega arith
