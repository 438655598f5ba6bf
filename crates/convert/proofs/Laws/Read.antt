-- The returns of the function that reads an old sheet: what it refuses, and what stands in a good one.
use Prim.Native.Nat.{ℕ, ◌-◌, ◌*◌}
use mathlib.Core.Path.{◌≡◌, refl, sym, ◌∙◌}
use mathlib.Core.List.{List}
use mathlib.Core.Bool.{Bool, true}
use native.Mathlib.Omega.{arith}
use lib.ListN.{take, drop}
use Rattle.std.specs.Prelude.{Option, Some}
use Rattle.grammar.specs.Form.{first_form}
use Rattle.grammar.specs.Words.{words}
use Rattle.grammar.specs.Parse.{got}
use Rattle.grammar.specs.Lists.{rising}
use Rattle.grammar.specs.Reading.{is_trailer, sheet_of, judge, read_words_in}
use Rattle.grammar.specs.Laws.Words.{length_words}
use Rattle.grammar.specs.Laws.Convert.{widened}
use Rattle.records.specs.declared.rules.Rules.{Rules}
use Rattle.records.specs.Rules.{RulesReadIn}
use Rattle.sheet.specs.Answer.{EndAt}
use Rattle.sheet.proofs.Laws.Front.{rules_got, trailer_true, all_found}
use Rattle.convert.specs.Newest.{Widenable, Readable, InFront, Newest}

-- An old sheet that passes refusals 3 and 4.
module _ (bs : List ℕ) {b : Bool} (e : b ≡ is_trailer (words bs)) (h : b ≡ true) {t end : ℕ} (k : EndAt bs t end) {r : Option Rules}
    (f : RulesReadIn first_form (words bs) end r) {rules : Rules} (g : r ≡ Some rules) {c : Bool}
    (i : c ≡ rising (words (take (4 * t - 4 * end) (drop (4 * end) bs)))) where
  pub readable : c ≡ true → Readable bs t end rules.n
  readable j =
      let rows = (rules_got f g).rows in
      record {
        place = k;
        good = trailer_true first_form bs e h;
        found = rows.found;
        ends = rows.ends;
        all_of = all_found first_form bs e h k f g i j;
      }

-- Its newest words are judged as it is.
pub newest_words_of : {bs wide wide' : List ℕ} {t end n m : ℕ} → Widenable bs wide → (r : Readable bs t end n)
    → ((s : Readable bs t end n) → InFront (sheet_of (words bs) s.found.trees) wide' m)
    → Newest (words bs) wide' m
unfolding read_words_in
newest_words_of {bs} {end = end} l r w =
    let long = length_words bs in
    let least = l.least in
    let told : read_words_in first_form (words bs) ≡ judge (words bs) (got r.found.trees end) =
    rw (r.good, read_words_in) (rw r.all_of refl) in
    record {
      tree = sheet_of (words bs) r.found.trees;
      front = w r;
      judged = widened first_form (words bs) (omega arith) r.good r.found.trees end r.all_of ∙ sym told;
    }
