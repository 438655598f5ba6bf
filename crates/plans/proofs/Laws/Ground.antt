-- What the decisions rest on: a sheet that was read has its preserved ids behind its rules, and the limits are the definition's.
use Prim.Native.Nat.{ℕ, ◌+◌, ◌-◌, ◌≤◌}
use mathlib.Core.Path.{◌≡◌, sym, ap, ◌∙◌}
use mathlib.Core.List.{List, ◌++◌}
use mathlib.Core.Bool.{true}
use native.Mathlib.Omega.{arith}
use lib.ListN.{length, length-append}
use lib.Seq.{take-append_seam, drop-append_seam}
use borrow.Author.Tests.{leb-true}
use Rattle.grammar.specs.Form.{newest}
use Rattle.grammar.specs.Numbers.{most_words}
use Rattle.grammar.specs.Tree as tree
use Rattle.grammar.specs.Words.{words}
use Rattle.grammar.specs.Lists.{rising}
use Rattle.grammar.specs.Encode.{encode, encode_rules}
use Rattle.grammar.specs.Reading.{sheet}
use Rattle.grammar.specs.Laws.Words.{length_words, words_between}
use Rattle.grammar.specs.Laws.Whole.{words_sound, reads_sheet, valid_parts}
use Rattle.grammar.specs.Laws.Trailer.{trailing, encode_split}
use Rattle.hub.specs.Preserved.{between, bytes_between}
use Rattle.sheet.specs.Answer.{read_lent, numbers_in, answer_of, parts_of, ReadAs, Lent}
use Rattle.sheet.specs.declared.answer.Reading.{Reading}
use Rattle.std.specs.Prelude.{Ok}
use Rattle.sheet.specs.Read.{WasRead}
use Rattle.sheet.proofs.Laws.Lent.{sheet_most, lent_all}
use Rattle.sheet.proofs.Laws.Sizes.{was_read, Taken, taken}
use Rattle.plan.specs.Ground.{KeptAt}

-- Where a sheet was read, all that was lent is long enough, and its words encode it.
lent : {bs work : List ℕ} {s : tree.Sheet} → Taken bs work s → Lent bs work
lent {bs} {work} t = lent_all bs work t.long (leb-true _ _ t.enough)

encoded : {bs work : List ℕ} {s : tree.Sheet} → Taken bs work s → encode s ≡ words bs
encoded {bs} t =
    let l = length_words bs in
    let h = (lent t).least in
    (reads_sheet (words_sound newest (words bs) (omega arith)) t.is).words

-- The words behind the rules are the preserved ids.
kept_between : (s : tree.Sheet) {ws : List ℕ} {from to : ℕ} → encode s ≡ ws → from ≡ length (encode_rules s.rules)
    → to ≡ from + length s.preserved → between ws from to ≡ s.preserved
kept_between s {ws} {from} {to} e f g =
    let n : to - from ≡ length s.preserved = omega arith in
    rw (n, f, ← e, encode_split newest s, drop-append_seam (encode_rules s.rules) (s.preserved ++ trailing s))
    (take-append_seam s.preserved (trailing s))

-- An answer of the reader.
module _ (bs work : List ℕ) {r : Reading} (a : ReadAs (read_lent bs work) (Ok r)) where
  abbrev was : WasRead bs work r.parts.preserved r.rules
  was = was_read bs work a

  parts_are : numbers_in r.parts ≡ parts_of was.tree
  parts_are = let e : answer_of (sheet was.tree) ≡ Ok (numbers_in r.parts) = ap answer_of (sym was.is) ∙ sym a.answer in cc

  pub read_end : r.parts.preserved ≡ length (encode_rules was.tree.rules)
  read_end = ap (λ q. q.preserved) parts_are

  read_count : r.parts.count ≡ length was.tree.preserved
  read_count = ap (λ q. q.count) parts_are

  pub read_small : r.parts.preserved ≤ most_words
  read_small = let t = sheet_most bs (taken bs work was.tree was.is).long in let z = was.room.trailer in omega arith

  module _ {to : ℕ} (e : to ≡ r.parts.preserved + r.parts.count) where
    between_read : between (words bs) r.parts.preserved to ≡ was.tree.preserved
    between_read =
        kept_between was.tree (encoded (taken bs work was.tree was.is)) read_end (e ∙ ap (λ k. r.parts.preserved + k) read_count)

    pub read_preserved : words (bytes_between bs r.parts.preserved to) ≡ was.tree.preserved
    read_preserved = words_between bs r.parts.preserved to ∙ between_read

    pub read_rises : rising (words (bytes_between bs r.parts.preserved to)) ≡ true
    read_rises = ap rising read_preserved ∙ (valid_parts newest was.tree was.good).preserved

    pub read_kept : KeptAt bs r.parts.preserved to
    read_kept =
        let w = encoded (taken bs work was.tree was.is) in
        let l = length_words bs in
        let k = ap length (sym w ∙ encode_split newest was.tree) in
        let i = length-append (encode_rules was.tree.rules) (was.tree.preserved ++ trailing was.tree) in
        let j = length-append was.tree.preserved (trailing was.tree) in
        let x = read_end in
        let y = read_count in
        record {
          order = omega arith;
          inside = omega arith;
          rises = ap rising between_read ∙ (valid_parts newest was.tree was.good).preserved;
        }

pub ruleset readings = (read_small, read_kept)
