-- A half written and read back.
use Prim.Native.Nat.{ℕ, ◌+◌, ◌*◌, ◌/◌, ◌%◌, ◌<◌, ◌≤◌, ◌^◌}
use mathlib.Core.Path.{◌≡◌, sym, ◌∙◌}
use mathlib.Core.List.{List, append_assoc}
use native.Mathlib.Omega.{arith}
use lib.ListN.{length, get_or, set, length-set, take, drop}
use lib.Seq.{sets, sets-eq, get_or-set_same, get_or-set_other}
use borrow.Rule.Slice.PartMut.{put_mid}
use Rattle.std.specs.Int.{w16, to_le_bytes}
use Rattle.std.proofs.Common.{add-one, drop-drop}
use Rattle.planned.specs.Layout.{half}
use Rattle.planned.specs.Halves.{HalfPut}

-- Two bytes are written.
two_put : (bs : List ℕ) (at low high : ℕ) {v : ℕ} → 2 * at + 2 ≤ length bs → low + 256 * high ≡ v
    → HalfPut bs (set (set bs (2 * at) low) (2 * at + 1) high) at v
unfolding half
two_put bs at low high h e =
    let once = set bs (2 * at) low in
    let twice = set once (2 * at + 1) high in
    let l = length-set bs (2 * at) low in
    let first : get_or twice (2 * at) 0 ≡ low =
    get_or-set_other once (2 * at + 1) (2 * at) high 0 (λ e. omega arith) ∙ get_or-set_same bs (2 * at) low 0 (omega arith) in
    let second : get_or twice (2 * at + 1) 0 ≡ high = get_or-set_same once (2 * at + 1) high 0 (omega arith) in
    let same : (k : ℕ) → (k ≡ 2 * at → ⊥) → (k ≡ 2 * at + 1 → ⊥) → get_or twice k 0 ≡ get_or bs k 0 =
    λ k n m. get_or-set_other once (2 * at + 1) k high 0 m ∙ get_or-set_other bs (2 * at) k low 0 n in
    record {
      here = rw (first, second) e;
      other = λ j n.
          let a = same (2 * j) (λ e. n (omega arith)) (λ e. omega arith) in
          let b = same (2 * j + 1) (λ e. omega arith) (λ e. n (omega arith)) in
          rw (a, b);
      long = simp length-set;
    }

-- The two bytes of a half are written over a part.
pub half_put : (before bs : List ℕ) (at n v : ℕ) → 2 * at + 2 ≤ length before → n ≡ 2 → v < 2 ^ 16 → bs ≡ to_le_bytes w16 v
    → HalfPut before (put_mid (2 * at) n before bs) at v
half_put before bs at n v h two f e =
    let s = sets-eq (to_le_bytes w16 v) before (2 * at) h in
    let z : put_mid (2 * at) 2 before (to_le_bytes w16 v) ≡ sets before (2 * at) (to_le_bytes w16 v) =
    rw (drop-drop 2 (2 * at) before)
    (sym (s ∙ append_assoc (take (2 * at) before) (to_le_bytes w16 v) (drop (2 * at + 2) before))) in
    rw (two, e, z, ← add-one (2 * at)) (two_put before at (v % 256) (v / 256 % 256) h (omega arith))
