-- Counting what stands in a sheet that was read.
use Prim.Native.Nat.{ℕ, ◌+◌, ◌*◌, ◌≤◌}
use mathlib.Core.Path.{◌≡◌, refl, sym, ap, ap₂, subst, ◌∙◌}
use mathlib.Core.List.{List, ◌++◌}
use mathlib.Core.Bool.{Bool, true, false}
use native.Mathlib.Omega.{arith}
use lib.ListN.{length, length-append}
use lib.Dec.{leb}
use borrow.Author.Tests.{leb-true}
use Rattle.grammar.specs.Form.{newest}
use Rattle.grammar.specs.Stands.{Stands}
use Rattle.grammar.specs.Numbers.{least_bytes, trailer_words, work_bytes, rule_limit}
use Rattle.grammar.specs.Tree as tree
use Rattle.grammar.specs.Words.{words}
use Rattle.grammar.specs.Encode.{encode_rules}
use Rattle.grammar.specs.Reading as reading
use Rattle.grammar.specs.Reading.{refused, sheet, is_length, read_words, read, read_in}
use Rattle.grammar.specs.Laws.Words.{length_words}
use Rattle.grammar.specs.Laws.Stands.{stands_self, stands_split, stands_length, stands_within}
use Rattle.grammar.specs.Laws.Whole as Whole
use Rattle.grammar.specs.Laws.Whole.{words_sound, reads_sheet, parts_valid}
use Rattle.sheet.specs.declared.answer.Parts.{Parts}
use Rattle.std.specs.Prelude.{Ok, Err}
use Rattle.words.specs.declared.numbers.Refusal.{Refusal}
use Rattle.words.specs.Refusal.{refusal_number}
use Rattle.grammar.specs.Found.{FoundRules, RulesSpan}
use Rattle.grammar.specs.Laws.Trailer.{trailing, encode_split, trailing_in}
use Rattle.ids.specs.declared.survey.Survey.{Survey}
use Rattle.ids.specs.Survey.{Surveyed}
use Rattle.sheet.specs.declared.answer.Reading.{Reading}
use Rattle.sheet.specs.declared.counts.Sizes.{Sizes}
use Rattle.records.specs.Rules.{RowsOf}
use Rattle.sheet.specs.Answer.{numbers_in, answer_of, parts_of, read_lent, work_after, ReadAs, Lent}
use Rattle.sheet.specs.Sizes.{Standing, Counted, sizes_of, numbers_from, numbers_of, names_of, places_of}
use Rattle.sheet.specs.Sizes.{values_of, SummedAs}
use Rattle.sheet.specs.Read.{WasRead}
use Rattle.sheet.proofs.Laws.Lent.{lent_all}

-- as many ids as stand there
pub sizes_counted : {ws : List ℕ} {end n : ℕ} (p : ℕ) {v : Survey} → Surveyed ws end n v → (f : FoundRules ws end n 0)
    → Counted f.trees n p (record { rules = n; alternatives = v.alternatives; elements = v.elements; preserved = p })
sizes_counted p s f = record { rules = refl; alternatives = s.alternative_count f; elements = s.element_count f; kept = refl }

-- a sheet that was read has its rules from the first word on
record Good (bs : List ℕ) (s : tree.Sheet) : Type 0 where
  next : ℕ
  spans : RulesSpan (words bs) (length (encode_rules s.rules)) 0 s.rules next
  ends : next ≡ length (encode_rules s.rules)
  parts : Whole.Parts s
  room : 4 * length (encode_rules s.rules) + least_bytes ≤ length bs

-- the words behind the rules: the preserved ids and the trailer
abbrev behind : tree.Sheet → List ℕ
behind s = s.preserved ++ trailing s

behind_long : (s : tree.Sheet) → trailer_words ≤ length (behind s)
unfolding trailing_in
behind_long s = let l = length-append s.preserved (trailing s) in omega arith

good_words : (bs : List ℕ) (s : tree.Sheet) → least_bytes ≤ length bs → read_words (words bs) ≡ sheet s → Good bs s
good_words bs s h e =
    let l = length_words bs in
    let i = reads_sheet (words_sound newest (words bs) (omega arith)) e in
    let n = length (words bs) in
    let st : Stands (words bs) n (encode_rules s.rules ++ behind s) 0 n =
    subst (λ x. Stands (words bs) n x 0 n) (sym i.words ∙ encode_split newest s) (stands_self (words bs)) in
    let t = stands_split (encode_rules s.rules) (behind s) st in
    let a = stands_length t.1 in
    let b = stands_length t.2 in
    let c = behind_long s in
    let k : t.0 ≡ length (encode_rules s.rules) = omega arith in
    record {
      next = t.0;
      spans = record { stands = stands_within (length (encode_rules s.rules)) (omega arith) t.1; fine = i.parts.rules };
      ends = k;
      parts = i.parts;
      room = omega arith;
    }

-- what was lent is long enough where a sheet was read
pub record Taken (bs work : List ℕ) (s : tree.Sheet) : Type 0 where
  pub long : is_length (length bs) ≡ true
  pub enough : leb work_bytes (length work) ≡ true
  pub is : read_words (words bs) ≡ sheet s

never_sheet : {A : Type 0} {n : ℕ} {s : tree.Sheet} → refused n ≡ sheet s → A
never_sheet e = absurd (let u : ◌≡◌ {A = ℕ} 0 1 = cc in omega arith)

pub taken : (bs work : List ℕ) (s : tree.Sheet) → read_lent bs work ≡ sheet s → Taken bs work s
unfolding read_lent read_in
taken bs work s e = go (is_length (length bs)) refl (leb work_bytes (length work)) refl
  where
    go : (b : Bool) → is_length (length bs) ≡ b → (d : Bool) → leb work_bytes (length work) ≡ d → Taken bs work s
    go false x d y = never_sheet (rw (x, read_lent) at e)
    go true x false y = never_sheet (rw (x, y, read_lent) at e)
    go true x true y = record { long = x; enough = y; is = rw (x, read_in) at (rw (x, y, read_lent) at e) }

good : (bs work : List ℕ) (s : tree.Sheet) → read_lent bs work ≡ sheet s → Good bs s × Lent bs work
good bs work s e =
    let t = taken bs work s e in
    let l = lent_all bs work t.long (leb-true _ _ t.enough) in
    (good_words bs s l.least t.is, l)

-- an answer taken back to what was read
record WasSheet (g : reading.Reading) (p : Parts) : Type 0 where
  tree : tree.Sheet
  is : g ≡ sheet tree
  parts : numbers_in p ≡ parts_of tree

was_sheet : (g : reading.Reading) (p : Parts) → answer_of g ≡ Ok (numbers_in p) → WasSheet g p
was_sheet (refused n) p e = absurd (let z : ◌≡◌ {A = ℕ} 0 1 = cc in omega arith)
was_sheet (sheet s) p e = record { tree = s; is = refl; parts = cc }

was_refused : (g : reading.Reading) (n : ℕ) → answer_of g ≡ Err n → g ≡ refused n
was_refused (refused m) n e = let z : m ≡ n = cc in ap refused z
was_refused (sheet s) n e = absurd (let z : ◌≡◌ {A = ℕ} 0 1 = cc in omega arith)

-- a refusal
module _ (bs work : List ℕ) {e : Refusal} (a : ReadAs (read_lent bs work) (Err e)) where
  pub is_refused : read_lent bs work ≡ refused (refusal_number e)
  is_refused = was_refused (read_lent bs work) (refusal_number e) (sym a.answer)

-- a sheet that was read, as its walks need it
module _ (bs work : List ℕ) {x : Reading} (a : ReadAs (read_lent bs work) (Ok x)) where
  was : WasSheet (read_lent bs work) x.parts
  was = was_sheet (read_lent bs work) x.parts (sym a.answer)

  rows_of : RowsOf was.tree.rules x.rules
  rows_of = a.rows was.tree x was.is refl

  found_rules : FoundRules (words bs) x.parts.preserved x.rules.n 0
  found_rules =
      let g = good bs work was.tree was.is in
      let k : x.parts.preserved ≡ length (encode_rules was.tree.rules) = ap (λ q. q.preserved) was.parts in
      record {
        trees = was.tree.rules;
        next = g.0.next;
        spans = subst (λ n. RulesSpan (words bs) n 0 was.tree.rules g.0.next) (sym k) g.0.spans;
        count = sym rows_of.count;
      }

  pub standing : Standing bs x.parts.preserved x.rules.n
  standing =
      let g = good bs work was.tree was.is in
      let k : x.parts.preserved ≡ length (encode_rules was.tree.rules) = ap (λ q. q.preserved) was.parts in
      let y = g.0.room in
      let z = g.1.most in
      record { room = record { trailer = omega arith; low = omega arith }; found = found_rules }

  pub was_read : WasRead bs work x.parts.preserved x.rules
  unfolding found_rules work_after
  was_read =
      let g = good bs work was.tree was.is in
      let k : x.parts.preserved ≡ length (encode_rules was.tree.rules) = ap (λ q. q.preserved) was.parts in
      let few : length was.tree.rules ≤ rule_limit = leb-true (length was.tree.rules) rule_limit g.0.parts.few in
      let count = rows_of.count in
      record {
        tree = was.tree;
        is = was.is;
        good = parts_valid newest was.tree g.0.parts;
        room = standing.room;
        rows = record { found = found_rules; ends = g.0.ends ∙ sym k; rows = rows_of; few = omega arith };
        trees = refl;
        lent = let t = taken bs work was.tree was.is in leb-true _ _ t.enough;
        cleared = let t = taken bs work was.tree was.is in rw (t.long, t.enough, work_after) refl;
      }

  module _ {z : Sizes}
      (c : (f : FoundRules (words bs) x.parts.preserved x.rules.n 0) → Counted f.trees x.rules.n x.parts.count z) where
    sizes_are : z ≡ sizes_of was.tree
    unfolding found_rules
    sizes_are i =
        let o = c found_rules in
        record {
          rules = (o.rules ∙ rows_of.count) i;
          alternatives = o.alternatives i;
          elements = o.elements i;
          preserved = (o.kept ∙ ap (λ q. q.count) was.parts) i;
        }

    pub summary_sheet : SummedAs (read_lent bs work) (Ok z)
    summary_sheet =
        rw was.is (record { summary = ap Ok sizes_are; number = refl; values = ap (λ y. values_of (Ok y)) sizes_are })

    pub numbers_sheet : {ns : List ℕ} → ns ≡ numbers_from (numbers_in x.parts) z → ns ≡ numbers_of (read_lent bs work)
    numbers_sheet f = f ∙ ap₂ numbers_from was.parts sizes_are ∙ sym (ap numbers_of was.is)

  pub names_sheet : x.rules.names ≡ names_of (read_lent bs work)
  names_sheet = rows_of.names ∙ sym (ap names_of was.is)

  pub places_sheet : x.rules.places ≡ places_of (read_lent bs work)
  places_sheet = rows_of.places ∙ sym (ap places_of was.is)
