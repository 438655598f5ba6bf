-- The name that stands at a place comes into a set; and no set has any.
use Prim.Native.Nat.{ℕ, ◌+◌, ◌<◌, ◌≤◌}
use mathlib.Core.Path.{◌≡◌, refl, ap, ◌∙◌}
use mathlib.Core.List.{List}
use mathlib.Core.Bool.{Bool, true, false}
use native.Mathlib.Omega.{arith}
use lib.ListN.{length, get_or}
use Rattle.grammar.specs.Numbers.{work_bytes}
use Rattle.planned.specs.Layout.{hand_end}
use Rattle.planned.specs.Halves.{HalfPut}
use Rattle.collisions.specs.Names.{set_bit, entries_at, entries_end, low_in, count_in, has_among, has_name, Ordered, NamePut, Cleared}
use Rattle.collisions.specs.Order.{IsAt, Insertable, Inserted, InSet}
use Rattle.collisions.specs.declared.names.Set.{Set}
use Rattle.collisions.proofs.Laws.Bits.{set_is}
use Rattle.collisions.proofs.Laws.Entry.{insertable, name_inserted}
use Rattle.collisions.proofs.Laws.Join.{name_joined}

-- The name was read.
module _ {ws : List ℕ} {end : ℕ} {bs : List ℕ} (o : Ordered ws end bs) (at : ℕ) {n k : ℕ} (e : n ≡ get_or ws at 0) {b : Bool} (a : IsAt ws bs n k b) where
  module _ (f : b ≡ false) (some : 1 < at) (inside : at < end) where
    pub put_insertable : Insertable bs k
    put_insertable = insertable o (rw e at a) f some inside a.within

    pub put_inserted : {v : ℕ} (s : Set) → v ≡ set_bit s → {cs : List ℕ} → Inserted bs cs k (at + v) → NamePut ws end bs cs (set_bit s) (get_or ws at 0)
    put_inserted s is g = name_inserted o (rw e at a) f some inside (set_is s) a.within (rw is at g)

  pub put_joined : b ≡ true → (s : Set) → {cs : List ℕ} → InSet bs cs k (set_bit s) → NamePut ws end bs cs (set_bit s) (get_or ws at 0)
  put_joined t s j = rw e at (name_joined o a t (set_is s) refl j.joined refl j.put)

-- Nothing at all.
pub cleared : {bs cs ds : List ℕ} {m : ℕ} → work_bytes ≤ length bs → entries_at ≤ m → m ≤ entries_end → HalfPut bs cs hand_end m → HalfPut cs ds (hand_end + 1) m
    → Cleared bs ds
unfolding has_name has_among
cleared {bs} {cs} {ds} {m} long l h p q =
    record {
      list = record { long = q.long ∙ p.long; halves = λ j i. q.other j (λ z. omega arith) ∙ p.other j (λ z. omega arith) };
      ordered = λ ws end low. record {
        long = let x = q.long in let y = p.long in omega arith;
        low = low;
        first = let a = new_low in omega arith;
        order = let a = new_low in let b = q.here in omega arith;
        last = let b = q.here in omega arith;
        some = λ i k. absurd (let a = new_low in let b = q.here in omega arith);
        within = λ i k. absurd (let a = new_low in let b = q.here in omega arith);
        rises = λ i j k n. absurd (let a = new_low in let b = q.here in omega arith);
      };
      no_name = λ ws w n. ap (has_among ws ds w n) empty;
    }
  where
    new_low : low_in ds ≡ m
    new_low = q.other hand_end (λ z. omega arith) ∙ p.here

    empty : count_in ds ≡ 0
    empty = let a = new_low in let b = q.here in omega arith
