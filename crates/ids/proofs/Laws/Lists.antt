-- A row of numbers as words.
use Prim.Native.Nat.{ℕ, ◌+◌, ◌*◌, ◌<◌, ◌≤◌}
use mathlib.Core.Path.{◌≡◌, refl, sym, ◌∙◌}
use mathlib.Core.List.{List}
use native.Mathlib.Omega.{arith}
use native.Mathlib.Numerals.{add-one}
use lib.ListN.{length, get_or, set, take}
use lib.Seq.{take-suc, take-suc-set, take-length}
use Rattle.grammar.specs.Words.{words}
use Rattle.grammar.specs.Laws.Words.{length_words}

-- a row copied: the first `i` words are its first `i` numbers
pub record Copying (row before s : List ℕ) (i : ℕ) : Type 0 where
  pub within : i ≤ length row
  pub room : 4 * length row ≤ length before
  pub long : length s ≡ length before
  pub is : take i (words s) ≡ take i row

pub none_copied : (row s : List ℕ) → 4 * length row ≤ length s → Copying row s s 0
none_copied row s g = record { within = omega arith; room = g; long = refl; is = refl }

module _ {row before s : List ℕ} {i : ℕ} (c : Copying row before s i) where
  pub more_copied : {after : List ℕ} → i < length row → words after ≡ set (words s) i (get_or row i 0) → length after ≡ length s
      → Copying row before after (i + 1)
  more_copied h e l =
      let g = c.room in
      let k = c.long in
      record {
        within = omega arith;
        room = g;
        long = omega arith;
        is =
            rw (add-one i, e)
            (take-suc-set (words s) i (get_or row i 0) (rw length_words (omega arith))
            ∙ rw c.is (sym (take-suc row i 0 (omega arith))));
      }

  pub all_copied : length row ≤ i → take (length row) (words s) ≡ row
  all_copied h =
      let z = c.within in
      let e : i ≡ length row = omega arith in
      rw e at c.is ∙ take-length row

pub ruleset copies = (none_copied, more_copied, all_copied)
