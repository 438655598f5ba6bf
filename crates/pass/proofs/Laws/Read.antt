-- From what the reader answers to the run: a refusal, a unit of another kind, or a parser's sheet in the result.
use Rattle.std.specs.Prelude.{Result, Ok, Err}
use Rattle.std.specs.Cmp.{first_so, second_so}
use Prim.Native.Nat.{ℕ, ◌+◌, ◌*◌, ◌/◌, ◌≤◌}
use mathlib.Core.Path.{◌≡◌, refl, sym, ap, ◌∙◌, subst}
use mathlib.Core.List.{List, []}
use mathlib.Core.Bool.{true}
use native.Mathlib.Omega.{arith}
use lib.ListN.{length, take, drop}
use lib.Seq.{take-length}
use lib.Dec.{leb}
use borrow.Author.Tests.{leb-true}
use Rattle.grammar.specs.Form.{newest}
use Rattle.grammar.specs.Numbers.{parser, trailer_words, least_bytes, most_bytes, most_words, result_bytes}
use Rattle.grammar.specs.Tree as tree
use Rattle.grammar.specs.Words.{words}
use Rattle.grammar.specs.Stands.{Stands}
use Rattle.grammar.specs.Encode.{encode, encode_rules}
use Rattle.grammar.specs.Reading as reading
use Rattle.grammar.specs.Reading.{refused, sheet, is_length, read_words, read, read_in}
use Rattle.grammar.specs.Laws.Words.{AreBytes, length_words}
use Rattle.grammar.specs.Laws.Stands.{stands_none}
use Rattle.grammar.specs.Laws.Codec.{accepted_valid, is_encoding_words}
use Rattle.grammar.specs.Corners.{Corners, rust}
use Rattle.reference.specs.Substitute.{standard}
use Rattle.reference.specs.Run.{answer, refusal, answer_run, answer_reading, answer_to, eliminate_mutual_left_recursion}
use Rattle.laws.specs.Proved.OtherUnits.{other_answer}
use Rattle.writing.specs.Wrote.{Wrote}
use Rattle.writing.specs.Laws.Wrote.{wrote_stands}
use Rattle.writing.specs.Taken.{counters_of}
use Rattle.writing.specs.declared.counters.Counters.{Counters}
use Rattle.records.specs.Rules.{RowsOf}
use Rattle.sheet.specs.Answer as reader
use Rattle.sheet.specs.Answer.{numbers_in, parts_of, ReadAs}
use Rattle.sheet.specs.declared.answer.Reading.{Reading}
use Rattle.words.specs.Kinds.{unit_number}
use Rattle.words.specs.Refusal.{refusal_number}
use Rattle.words.specs.declared.numbers.UnitKind.{UnitKind}
use Rattle.words.specs.declared.numbers.UnitKind.TheVariants.{Lexer, Parser, Combined}
use Rattle.words.specs.declared.numbers.Refusal.{Refusal}
use Rattle.sheet.proofs.Laws.Lent.{lent_all}
use Rattle.apply.specs.Applied.{Buffers}
use Rattle.apply.specs.Laws.Held.{encode_long}
use Rattle.run.specs.Ended.{Front, AnswerIs}
use Rattle.run.specs.Midst.{Begun}
use Rattle.run.specs.Turn.{Small, RunOf}
use Rattle.run.specs.declared.state.Ended.{Ended}
use Rattle.turns.specs.Midway.{limits_of, IsStandard}
use Rattle.turns.specs.declared.limits.Limits.{Limits}
use Rattle.pass.specs.Handed.{Answered, Lent, WasSheet}

-- The parser's kind alone has its number.
is_parser : (k : UnitKind) → unit_number k ≡ parser → k ≡ Parser
is_parser Lexer e = absurd (omega arith)
is_parser Parser e = refl
is_parser Combined e = absurd (omega arith)

was_sheet : (g : reading.Reading) {r : Reading} → ReadAs g (Ok r)
    → (t : tree.Sheet) × (g ≡ sheet t) × (numbers_in r.parts ≡ parts_of t) × RowsOf t.rules r.rules
was_sheet (refused n) a = absurd (let x = a.answer in let z : ◌≡◌ {A = ℕ} 0 1 = cc in omega arith)
was_sheet (sheet s) {r} a = let x = a.answer in (s, refl, cc, a.rows s r refl refl)

was_refused : (g : reading.Reading) {f : Refusal} → ReadAs g (Err f) → g ≡ refused (refusal_number f)
was_refused (refused m) a = let x = a.answer in ap refused cc
was_refused (sheet s) a = absurd (let x = a.answer in let z : ◌≡◌ {A = ℕ} 0 1 = cc in omega arith)

read_is : (bs : List ℕ) → is_length (length bs) ≡ true → read bs ≡ read_words (words bs)
unfolding read_in
read_is bs e = rw (e, read_in) refl

module _ (reading : Corners) (bs : List ℕ) (long : is_length (length bs) ≡ true) where
  -- A refusal of the reader.
  pub answered_refused : {f : Refusal} (result trail : List ℕ) → ReadAs (read_words (words bs)) (Err f)
      → Answered reading bs result trail (Err f)
  unfolding answer_to answer_reading
  answered_refused {f} result trail a =
      let w = read_is bs long ∙ was_refused (read_words (words bs)) a in
      let z : answer_to standard reading bs ≡ refusal (refusal_number f) = ap (answer_reading standard reading) w in
      record {
        is = record { refused = λ k x. let y = sym z ∙ x in cc; delivered = λ plans steps ws ts x. never (sym z ∙ x) };
        short = tt;
      }
    where
      never : {n plans steps : ℕ} {ws ts : List ℕ} → refusal n ≡ answer plans steps ws ts → ⊥
      never e = let u : ◌≡◌ {A = ℕ} 0 1 = cc in omega arith

  module _ {r : Reading} (a : ReadAs (read_words (words bs)) (Ok r)) where
    abbrev tree_read : tree.Sheet
    tree_read = (was_sheet (read_words (words bs)) a).0

    reads : read bs ≡ sheet tree_read
    reads = read_is bs long ∙ (was_sheet (read_words (words bs)) a).1

    parts : numbers_in r.parts ≡ parts_of tree_read
    parts = (was_sheet (read_words (words bs)) a).2

    rows : RowsOf tree_read.rules r.rules
    rows = (was_sheet (read_words (words bs)) a).3

    encoded : encode tree_read ≡ words bs
    encoded = is_encoding_words newest bs tree_read reads

    answer_is : answer_to standard reading bs
        ≡ answer_run tree_read (eliminate_mutual_left_recursion standard reading tree_read)
    unfolding answer_to answer_reading
    answer_is = ap (answer_reading standard reading) reads

    module _ {result result' : List ℕ} {n : ℕ} (count : n ≡ length bs / 4) (room : result_bytes ≤ length result)
        (w : Wrote result result' 0 (take n (drop 0 (words bs)))) where
      copied : Wrote result result' 0 (words bs)
      copied =
          let e : n ≡ length (words bs) = count ∙ sym (length_words bs) in
          subst (λ l. Wrote result result' 0 l) (rw e (take-length (words bs))) w

      most : n ≤ most_words
      most =
          let l = leb-true (length bs) most_bytes
          (first_so (leb (length bs) most_bytes) _ (second_so (leb least_bytes (length bs)) _ long)) in
          omega arith

      counted : 0 + length (words bs) ≡ n
      counted = let e = length_words bs in omega arith

      sheet_stands : Stands (words result') n (words bs) 0 n
      sheet_stands = rw counted at (wrote_stands copied n (omega (arith, counted)))

      sheet_room : 4 * n ≤ length result'
      sheet_room = let l = copied.long in let m = most in omega arith

      -- A unit of another kind.
      pub answered_other : (trail : List ℕ) → (r.parts.kind ≡ Parser → ⊥)
          → Answered reading bs result' trail (Ok (record { plans = 0; steps = 0; words = n; entries = 0 }))
      answered_other trail other =
          let k : unit_number r.parts.kind ≡ tree_read.kind = ap (λ q. q.kind) parts in
          let z = other_answer standard reading bs tree_read reads (λ f. other (is_parser r.parts.kind (k ∙ f))) in
          record {
            is =
                record {
                  refused = λ m x. never (sym z ∙ x);
                  delivered = λ plans steps ws ts x.
                      let y = sym z ∙ x in
                      let i : words bs ≡ ws = cc in
                      let j : [] ≡ ts = cc in
                      record {
                        plans_are = cc;
                        steps_are = cc;
                        sheet = record { stands = subst (λ l. Stands (words result') n l 0 n) i sheet_stands; room = sheet_room };
                        entries = subst (λ l. Front trail l 0) j (record { stands = stands_none (omega arith); room = omega arith });
                      };
                };
            short = record { words = most; entries = omega arith };
          }
        where
          never : {m : ℕ} {ws ts : List ℕ} → answer 0 0 ws ts ≡ refusal m → ⊥
          never e = let u : ◌≡◌ {A = ℕ} 0 1 = cc in omega arith

      module _ (are : AreBytes bs) (kind : r.parts.kind ≡ Parser) {end to : ℕ} {counters : Counters} (ends : end ≡ r.parts.preserved)
          (up_to : to ≡ end + r.parts.count) (same : counters ≡ r.parts.counters) where
        -- A parser's unit stands in the result.
        pub begun : Begun result' end to r.rules counters
        begun =
            let good = accepted_valid newest bs are tree_read reads in
            let l = encode_long tree_read in
            let q = ap length encoded in
            let c = length_words bs in
            let x : end ≡ length (encode_rules tree_read.rules) = ends ∙ ap (λ q. q.preserved) parts in
            let y : r.parts.count ≡ length tree_read.preserved = ap (λ q. q.count) parts in
            let m : n ≡ to + trailer_words = omega (arith, count) in
            record {
              sheet = tree_read;
              is_valid = good.0;
              is_fitting = good.1;
              is_parser = ap (λ q. q.kind) (sym parts) ∙ ap unit_number kind;
              held =
                  record {
                    stands =
                        subst (λ l. Stands (words result') (to + trailer_words) l 0 (to + trailer_words)) (sym encoded)
                        (subst (λ k. Stands (words result') k (words bs) 0 k) m sheet_stands);
                    ends = x;
                    up_to = up_to ∙ ap (λ k. end + k) y;
                    room = let s = sheet_room in omega arith;
                  };
              rows = rows;
              counters_are = ap counters_of (same ∙ ap (λ q. q.counters) parts);
            }

        pub answered_run : {result'' trail'' : List ℕ} {e : Result Ended Refusal}
            → RunOf standard reading result' end to r.rules counters result'' trail'' e → Answered reading bs result'' trail'' e
        unfolding begun
        answered_run {result''} {trail''} {e} o =
            record {
              is = subst (λ x. AnswerIs result'' trail'' e x) (sym answer_is) (o.is begun);
              short = o.short;
            }

-- The same of what the reader hands over.
module _ {bs : List ℕ} {r : Reading} (s : WasSheet bs r) {result trail work : List ℕ}
    (l : Lent bs result trail work) {result' : List ℕ} {n : ℕ} (count : n ≡ length bs / 4)
    (w : Wrote result result' 0 (take n (drop 0 (words bs)))) where
  abbrev long : is_length (length bs) ≡ true
  long = l.long

  abbrev room : result_bytes ≤ length result
  room = l.buffers.for_result

  pub sheet_other : (reading : Corners) (trail' : List ℕ) → (r.parts.kind ≡ Parser → ⊥)
      → Answered reading bs result' trail' (Ok (record { plans = 0; steps = 0; words = n; entries = 0 }))
  sheet_other reading = answered_other reading bs long s.found count room w

  module _ (are : AreBytes bs) (kind : r.parts.kind ≡ Parser) {end to : ℕ} {counters : Counters} (ends : end ≡ r.parts.preserved)
      (up_to : to ≡ end + r.parts.count) (same : counters ≡ r.parts.counters) where
    pub sheet_begun : Begun result' end to r.rules counters
    sheet_begun = begun rust bs long s.found count room w are kind ends up_to same

    pub sheet_run : {limits : Limits} {reading : Corners} {result'' trail'' : List ℕ} {e : Result Ended Refusal} → IsStandard limits
        → RunOf (limits_of limits) reading result' end to r.rules counters result'' trail'' e → Answered reading bs result'' trail'' e
    sheet_run {limits} {reading} {result''} {trail''} {e} i o =
        answered_run reading bs long s.found count room w are kind ends up_to same
        (subst (λ l. RunOf l reading result' end to r.rules counters result'' trail'' e) i.is o)

pub lent_most : {bs result trail work : List ℕ} → Lent bs result trail work → length bs ≤ most_bytes
lent_most {bs} l =
    leb-true (length bs) most_bytes (first_so (leb (length bs) most_bytes) _ (second_so (leb least_bytes (length bs)) _ l.long))

-- The sheet has room in the result.
pub lent_room : {bs result trail work : List ℕ} {n : ℕ} → Lent bs result trail work → n ≡ length bs / 4 → 4 * (0 + n) ≤ length result
lent_room l e = let m = lent_most l in let r = l.buffers.for_result in omega arith

-- The work area serves the reader.
pub lent_reader : {bs result trail work : List ℕ} → Lent bs result trail work → reader.Lent bs work
lent_reader {bs} {result} {trail} {work} l = lent_all bs work l.long l.buffers.for_work

pub was_read : {bs : List ℕ} {r : Reading} → ReadAs (read_words (words bs)) (Ok r) → WasSheet bs r
was_read a = record { found = a }

-- The buffers stay long enough behind the reader, and behind the copy.
pub lent_read : {bs result trail work work' : List ℕ} → Lent bs result trail work → length work' ≡ length work → Lent bs result trail work'
lent_read l e =
    let b = l.buffers in
    record { long = l.long; buffers = record { for_result = b.for_result; for_trail = b.for_trail; for_work = omega arith } }

pub lent_copied : {bs result trail work result' xs : List ℕ} {at : ℕ} → Lent bs result trail work → Wrote result result' at xs
    → Buffers result' trail work
lent_copied l w =
    let b = l.buffers in
    let e = w.long in
    record { for_result = omega arith; for_trail = b.for_trail; for_work = b.for_work }

pub standard_small : {limits : Limits} → IsStandard limits → Small limits
standard_small i = record { floor = let e = ap (λ l. l.budget_floor) i.is in omega arith }

pub ruleset readings = (
  lent_room,
  lent_reader,
  was_read,
  lent_read,
  lent_copied,
  answered_refused,
  sheet_other,
  sheet_begun,
  sheet_run,
  standard_small,
)
