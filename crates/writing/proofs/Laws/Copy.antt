-- Copying words one by one.
use Prim.Native.Nat.{ℕ, ◌+◌, ◌*◌, ◌<◌, ◌≤◌}
use mathlib.Core.Path.{◌≡◌, refl, ◌∙◌}
use mathlib.Core.List.{List, [], ◌∷◌, ◌++◌}
use native.Mathlib.Omega.{arith}
use native.Mathlib.Numerals.{add-one}
use lib.ListN.{length, get_or, set, take, drop, length-take, length-drop}
use lib.Seq.{take-suc, get_or-drop}
use Rattle.grammar.specs.Words.{words}
use Rattle.grammar.specs.Laws.Words.{length_words}
use Rattle.words.specs.Words.{with_word}
use Rattle.writing.specs.Wrote.{Wrote}
use Rattle.writing.specs.Laws.Wrote.{wrote_nothing, wrote_then, wrote_word}

-- The first i of n words are copied.
pub record Copying (s : List ℕ) (from : ℕ) (before after : List ℕ) (to n i : ℕ) : Type 0 where
  pub within : i ≤ n
  pub long : length after ≡ length before
  pub read : 4 * (from + n) ≤ length s
  pub room : 4 * (to + n) ≤ length before
  pub wrote : Wrote before after to (take i (drop from (words s)))

module _ {s : List ℕ} {from : ℕ} {before : List ℕ} {to n : ℕ} where
  pub copy_none : 4 * (from + n) ≤ length s → 4 * (to + n) ≤ length before → Copying s from before before to n 0
  copy_none h g = record { within = omega arith; long = refl; read = h; room = g; wrote = wrote_nothing before to }

  module _ {out : List ℕ} {i : ℕ} (c : Copying s from before out to n i) where
    pub copy_one : {out' : List ℕ} {w : ℕ} → i < n → w ≡ get_or (words s) (from + i) 0 → words out' ≡ set (words out) (to + i) w
        → out' ≡ with_word out (4 * (to + i)) w → length out' ≡ length out
        → Copying s from before out' to n (i + 1)
    copy_one {out'} {w} h e f g l =
        let r = c.read in
        let o = c.room in
        let lw = length_words s in
        let ld = length-drop from (words s) in
        let lt : length (take i (drop from (words s))) ≡ i = omega (arith, length-take i (drop from (words s))) in
        let t : take (i + 1) (drop from (words s)) ≡ take i (drop from (words s)) ++ (w ∷ []) =
        rw (add-one i, take-suc (drop from (words s)) i 0 (omega arith), get_or-drop from (words s) i 0, e) in
        record {
          within = omega arith;
          long = l ∙ c.long;
          read = r;
          room = o;
          wrote = rw t (wrote_then (omega arith) c.wrote (wrote_word (omega (arith, c.long)) f g));
        }

    pub copied : n ≤ i → Wrote before out to (take n (drop from (words s)))
    copied h = let e : n ≡ i = omega (arith, c.within) in rw e c.wrote

pub ruleset copies = (copy_none, copy_one, copied)
