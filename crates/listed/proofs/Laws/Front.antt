-- What stands at the front of a longer buffer stands in the slice that is cut there: a sheet, and the entries of a trail.
use Prim.Native.Nat.{ℕ, ◌*◌, ◌/◌, ◌≤◌}
use mathlib.Core.Path.{◌≡◌, ◌∙◌}
use mathlib.Core.List.{List}
use native.Mathlib.Omega.{arith}
use lib.ListN.{length, take, drop}
use lib.Seq.{length-take-le, take-take}
use Rattle.grammar.specs.Words.{words}
use Rattle.grammar.specs.Stands.{Stands}
use Rattle.grammar.specs.Laws.Words.{length_words, words_take}
use Rattle.grammar.specs.Laws.Stands.{stands_length, stands_slice, slice_stands}
use Rattle.listed.specs.Ready.{Held, Recorded}

-- Words that stand from the first on, in as many words as they may end at.
front : (ws : List ℕ) {xs : List ℕ} (n q : ℕ) → n ≤ length ws → Stands ws n xs 0 q → Stands (take n ws) n xs 0 q
front ws {xs} n q h s =
    let l = stands_length s in
    let m : length xs ≡ q = omega arith in
    let long = length-take-le n ws h in
    let e : take q (drop 0 (take n ws)) ≡ xs = take-take q n ws (omega arith) ∙ rw m at (stands_slice (omega arith) s) in
    rw e at (slice_stands (take n ws) n q 0 q (omega arith) (omega arith) (omega arith))

-- The first n words of some bytes.
pub stands_front : (bs : List ℕ) {xs : List ℕ} (n q : ℕ) → 4 * n ≤ length bs → Stands (words bs) n xs 0 q → Stands (words (take (4 * n) bs)) n xs 0 q
stands_front bs n q h s = rw (words_take bs n) (front (words bs) n q (omega (arith, length_words bs)) s)

unfoldable pub held_front : {result : List ℕ} {n : ℕ} → Held result n → Held (take (4 * n) result) (length (take (4 * n) result) / 4)
held_front {result} {n} h =
    let room = h.room in
    let most = h.most in
    let long = length-take-le (4 * n) result room in
    let e : length (take (4 * n) result) / 4 ≡ n = omega arith in
    record {
      sheet = h.sheet;
      good = h.good;
      stands = rw e (stands_front result n n room h.stands);
      room = omega arith;
      most = omega arith;
    }

unfoldable pub recorded_front : {trail : List ℕ} {k : ℕ} → Recorded trail k
    → Recorded (take (16 * k) trail) (length (take (16 * k) trail) / 16)
recorded_front {trail} {k} r =
    let g = r.found in
    let room = r.room in
    let few = r.few in
    let many : 16 * k ≡ 4 * (4 * k) = omega arith in
    let long = length-take-le (16 * k) trail (omega arith) in
    let e : length (take (16 * k) trail) / 16 ≡ k = omega arith in
    record {
      found =
          record {
            trees = g.trees;
            next = g.next;
            spans = record { stands = rw (e, many) (stands_front trail (4 * k) g.next room g.spans.stands); fine = g.spans.fine };
            count = rw e g.count;
          };
      room = omega arith;
      few = omega arith;
    }
