-- What stands in a buffer at exit: words from the front, zeros behind them.
use Prim.Native.Nat.{ℕ, zero, suc, ◌-◌, ◌*◌}
use mathlib.Core.Path.{◌≡◌, sym, ap, ap₂, ◌∙◌}
use mathlib.Core.List.{List, [], ◌∷◌, ◌++◌}
use native.Mathlib.Omega.{arith}
use lib.ListN.{length, take, replicate}
use lib.Seq.{length-take-le}
use Rattle.grammar.specs.Words.{words, bytes}
use Rattle.grammar.specs.Laws.Words.{AreBytes, length_words, length_bytes, words_take, bytes_words}
use Rattle.grammar.specs.Laws.Stands.{stands_slice, stands_length}
use Rattle.reference.specs.Run.{filled}
use Rattle.run.specs.Ended.{Front}
use Rattle.pass.specs.Handed.{ClearedFrom}

take_bytes : (bs : List ℕ) (n : ℕ) → AreBytes bs → AreBytes (take n bs)
take_bytes bs zero h i = omega arith
take_bytes [] (suc n) h i = omega arith
take_bytes (b ∷ bs) (suc n) h zero = h 0
take_bytes (b ∷ bs) (suc n) h (suc i) = take_bytes bs n (λ j. h (suc j)) i

pub front_bytes : {bs ws : List ℕ} {n : ℕ} → AreBytes bs → Front bs ws n → take (4 * n) bs ≡ bytes ws
front_bytes {bs} {ws} {n} h f =
    let l = stands_length f.stands in
    let r = f.room in
    let w = length_words bs in
    let m : length ws ≡ n = omega arith in
    let s : take n (words bs) ≡ ws = rw m at (stands_slice (omega arith) f.stands) in
    let k = length-take-le (4 * n) bs r in
    sym (bytes_words (take (4 * n) bs) (take_bytes bs (4 * n) h) (omega arith)) ∙ ap bytes (words_take bs n ∙ s)

-- Cleared behind the words, or from the front on.
pub front_filled : {bs after ws : List ℕ} {n at : ℕ} (buffer : List ℕ) → AreBytes bs → Front bs ws n → at ≡ 4 * n
    → ClearedFrom bs after at → length bs ≡ length buffer → after ≡ filled (bytes ws) buffer
unfolding filled
front_filled {bs} {after} {ws} {n} {at} buffer h f e z l =
    let k = length_bytes ws in
    let s = stands_length f.stands in
    let m : length bs - 4 * n ≡ length buffer - length (bytes ws) = omega arith in
    z.is ∙ rw e (ap₂ ◌++◌ (front_bytes h f) (ap (λ k. replicate k 0) m))

pub none_filled : {bs after : List ℕ} {at : ℕ} (buffer : List ℕ) → at ≡ 0 → ClearedFrom bs after at → length bs ≡ length buffer
    → after ≡ filled [] buffer
unfolding filled
none_filled {bs} {after} {at} buffer e z l =
    let m : length bs - 0 ≡ length buffer - 0 = omega arith in z.is ∙ rw e (ap (λ k. replicate k 0) m)
