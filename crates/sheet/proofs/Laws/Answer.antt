-- The returns of the functions that give the answer.
use Prim.Native.Nat.{ℕ, ◌+◌, ◌-◌, ◌*◌}
use mathlib.Core.Path.{◌≡◌, refl, sym, ap, subst, ◌∙◌}
use mathlib.Core.List.{List, ◌∷◌}
use mathlib.Core.Bool.{Bool, true, false}
use native.Mathlib.Omega.{arith}
use lib.ListN.{length, get_or, take, drop, length-drop}
use lib.Seq.{length-take-le}
use Rattle.grammar.specs.Form.{newest}
use Rattle.grammar.specs.Numbers.{trailer_words}
use Rattle.grammar.specs.Parse.{got}
use Rattle.grammar.specs.Encode.{encode_rules, encode_counters}
use Rattle.grammar.specs.Words.{words}
use Rattle.grammar.specs.Lists.{rising}
use Rattle.grammar.specs.Ids.{is_distinct, is_below}
use Rattle.grammar.specs.Tree as tree
use Rattle.grammar.specs.Reading as reading
use Rattle.grammar.specs.Reading.{refused, sheet, trailer, unit_kind, first_distance, second_distance, rules_end, is_trailer, read_words_in}
use Rattle.grammar.specs.Reading.{rules_of_in}
use Rattle.grammar.specs.Reading.{preserved_ids, counters_of, sheet_of, judge, read_words}
use Rattle.grammar.specs.Laws.Words.{length_words}
use Rattle.grammar.specs.Laws.Stands.{stands_length}
use Rattle.writing.specs.declared.counters.Counters.{Counters}
use Rattle.writing.specs.Taken as taken
use Rattle.records.specs.declared.rules.Rules.{Rules}
use Rattle.std.specs.Prelude.{Option, Some, None, Result, Ok, Err}
use Rattle.words.specs.declared.numbers.UnitKind.{UnitKind}
use Rattle.words.specs.Kinds.{unit_number}
use Rattle.words.specs.declared.numbers.Refusal.{Refusal}
use Rattle.words.specs.declared.numbers.Refusal.TheVariants.{BadTrailer, BadRecord, SharedNumber, IdPastCounter}
use Rattle.words.specs.Refusal.{refusal_number}
use Rattle.sheet.specs.declared.answer.Parts.{Parts}
use Rattle.sheet.specs.declared.answer.Reading.{Reading}
use Rattle.records.specs.Rules.{RowsOf, RulesRead, FoundRows}
use Rattle.sheet.specs.Answer as answer
use Rattle.sheet.specs.Answer.{Numbers, numbers_in, CountersAt, ReadAs}
use Rattle.sheet.specs.Verdict.{verdict}
use Rattle.sheet.specs.Answer.{EndAt}
use Rattle.sheet.proofs.Laws.Trailer.{here}
use Rattle.sheet.proofs.Laws.Front.{rules_got, trailer_bad, trailer_true, records_bad, preserved_bad, all_found}

-- refusals, and a sheet with its rules
pub read_refused : {g : reading.Reading} {n : ℕ} (e : Refusal) → g ≡ refused n → refusal_number e ≡ n → ReadAs g (Err e)
read_refused e g f =
    rw g
    (record {
      answer = ap Err f;
      number = f;
      values = refl;
      rows = λ s x z w. absurd (let u : ◌≡◌ {A = ℕ} 0 1 = cc in omega arith);
    })

read_sheet : {g : reading.Reading} {s : tree.Sheet} {p : Parts} {rules : Rules} → g ≡ sheet s → numbers_in p ≡ answer.parts_of s → RowsOf s.rules rules
    → ReadAs g (Ok (record { parts = p; rules = rules }))
read_sheet {s = s} {p} {rules} g e o =
    rw g
    (record {
      answer = ap Ok e;
      number = refl;
      values = ap (λ q. q.kind ∷ q.preserved ∷ q.count ∷ encode_counters (taken.counters_of q.counters)) e;
      rows = λ t x z w.
          let same : s ≡ t = cc in
          let are : rules ≡ x.rules = ap (λ y. y.rules) (let k : ◌≡◌ {A = Reading} (record { parts = p; rules = rules }) x = cc in k) in
          subst (λ y. RowsOf y.rules x.rules) same (subst (λ y. RowsOf s.rules y) are o);
    })

counters_same : (ws : List ℕ) {t : ℕ} {c : Counters} → length ws - trailer_words ≡ t → CountersAt ws t c
    → taken.counters_of c ≡ counters_of ws
unfolding counters_of
counters_same ws {t} {c} e a =
    rw e
    λ i. record {
      alternative = a.alternative i;
      element = a.element i;
      label = a.label i;
      action = a.action i;
      predicate = a.predicate i;
    }

-- what is good and distinct, below its counters, and in the trailer
module _ (bs : List ℕ) {t end : ℕ} {rules : Rules} (k : EndAt bs t end) (f : FoundRows (words bs) end rules) where
  second_is : length (preserved_ids (words bs)) ≡ get_or (words bs) (t + 2) 0
  unfolding preserved_ids
  second_is =
      let l = length_words bs in
      let n = get_or (words bs) (t + 2) 0 in
      rw (here bs k.place) (length-take-le n (drop (t - n) (words bs)) (rw (length-drop (t - n) (words bs)) (omega arith)))

  rules_long : length (encode_rules f.found.trees) ≡ end
  rules_long = let l = stands_length f.found.spans.stands in let n = f.ends in omega arith

  back : (i : ℕ) → get_or (words bs) (t + i) 0 ≡ get_or (words bs) (length (words bs) - trailer_words + i) 0
  back i = ap (λ x. get_or (words bs) (x + i) 0) (sym (here bs k.place))

  parts_same : (w : UnitKind) {c : ℕ} {a : Counters} → unit_number w ≡ get_or (words bs) t 0 → c ≡ get_or (words bs) (t + 2) 0 → CountersAt (words bs) t a
      → ◌≡◌ {A = Numbers} (record { kind = unit_number w; preserved = end; count = c; counters = a })
      (answer.parts_of (sheet_of (words bs) f.found.trees))
  unfolding sheet_of counters_of
  parts_same w p q n i =
      record {
        kind = (p ∙ ap (λ x. get_or (words bs) x 0) (sym (here bs k.place))) i;
        preserved = sym rules_long i;
        count = (q ∙ sym second_is) i;
        counters =
            record {
              alternative = (n.alternative ∙ back 3) i;
              element = (n.element ∙ back 4) i;
              label = (n.label ∙ back 5) i;
              action = (n.action ∙ back 6) i;
              predicate = (n.predicate ∙ back 7) i;
            };
      }

-- refusals 5 and 6, and what is no refusal
module _ (bs : List ℕ) {t end : ℕ} {rules : Rules} (k : EndAt bs t end) {a : Counters} (n : CountersAt (words bs) t a) where
  below_is : (f : FoundRows (words bs) end rules)
      → is_below (taken.counters_of a) f.found.trees ≡ is_below (counters_of (words bs)) f.found.trees
  below_is f = ap (λ z. is_below z f.found.trees) (counters_same (words bs) (here bs k.place) n)

  pub ids_refused : {e : Refusal}
      → ((f : FoundRows (words bs) end rules) → Err e ≡ verdict (is_distinct f.found.trees) (is_below (taken.counters_of a) f.found.trees))
      → (f : FoundRows (words bs) end rules) → ReadAs (judge (words bs) (got f.found.trees end)) (Err e)
  unfolding judge
  ids_refused {e} d f = go (is_distinct f.found.trees) refl (is_below (counters_of (words bs)) f.found.trees) refl
    where
      said : Err e ≡ verdict (is_distinct f.found.trees) (is_below (counters_of (words bs)) f.found.trees)
      said = d f ∙ ap (verdict (is_distinct f.found.trees)) (below_is f)

      go : (b : Bool) → is_distinct f.found.trees ≡ b → (c : Bool) → is_below (counters_of (words bs)) f.found.trees ≡ c
          → ReadAs (judge (words bs) (got f.found.trees end)) (Err e)
      go false y c z =
          let w : e ≡ SharedNumber = let u = rw y at said in cc in
          rw w (read_refused SharedNumber (rw (y, judge) refl) refl)
      go true y false z =
          let w : e ≡ IdPastCounter = let u = rw (y, z) at said in cc in
          rw w (read_refused IdPastCounter (rw (y, z, judge) refl) refl)
      go true y true z = absurd (let u = rw (y, z) at said in let o : ◌≡◌ {A = ℕ} 0 1 = cc in omega arith)

  pub sheet_read : {u : Unit {0}} {w : UnitKind} {m : ℕ}
      → ((f : FoundRows (words bs) end rules) → Ok u ≡ verdict (is_distinct f.found.trees) (is_below (taken.counters_of a) f.found.trees))
      → unit_number w ≡ get_or (words bs) t 0 → m ≡ get_or (words bs) (t + 2) 0 → (f : FoundRows (words bs) end rules)
      → ReadAs (judge (words bs) (got f.found.trees end))
      (Ok (record { parts = record { kind = w; preserved = end; count = m; counters = a }; rules = rules }))
  unfolding judge sheet_of
  sheet_read {u} {w} {m} d p q f = go (is_distinct f.found.trees) refl (is_below (counters_of (words bs)) f.found.trees) refl
    where
      said : Ok u ≡ verdict (is_distinct f.found.trees) (is_below (counters_of (words bs)) f.found.trees)
      said = d f ∙ ap (verdict (is_distinct f.found.trees)) (below_is f)

      go : (b : Bool) → is_distinct f.found.trees ≡ b → (c : Bool) → is_below (counters_of (words bs)) f.found.trees ≡ c
          → ReadAs (judge (words bs) (got f.found.trees end))
          (Ok (record { parts = record { kind = w; preserved = end; count = m; counters = a }; rules = rules }))
      go false y c z = absurd (let u = rw y at said in let o : ◌≡◌ {A = ℕ} 0 1 = cc in omega arith)
      go true y false z = absurd (let u = rw (y, z) at said in let o : ◌≡◌ {A = ℕ} 0 1 = cc in omega arith)
      go true y true z =
          read_sheet {s = sheet_of (words bs) f.found.trees} (rw (y, z, judge) refl) (parts_same bs k f w p q n) f.rows

-- the records in front of the trailer
module _ (bs : List ℕ) {b : Bool} (e : b ≡ is_trailer (words bs)) where
  pub trailer_refused : b ≡ false → ReadAs (read_words (words bs)) (Err BadTrailer)
  trailer_refused h = read_refused BadTrailer (trailer_bad newest bs e h) refl

  module _ (h : b ≡ true) {t end : ℕ} (k : EndAt bs t end) {r : Option Rules} (f : RulesRead (words bs) end r) where
    pub rules_refused : r ≡ None → ReadAs (read_words (words bs)) (Err BadRecord)
    rules_refused o = read_refused BadRecord (records_bad newest bs e h k f o) refl

    module _ {rules : Rules} (g : r ≡ Some rules) {c : Bool} (i : c ≡ rising (words (take (4 * t - 4 * end) (drop (4 * end) bs)))) where
      pub rising_refused : c ≡ false → ReadAs (read_words (words bs)) (Err BadRecord)
      rising_refused j = read_refused BadRecord (preserved_bad newest bs e h k f g i j) refl

      pub goes_on : {x : Result Reading Refusal} → c ≡ true
          → ((o : FoundRows (words bs) end rules) → ReadAs (judge (words bs) (got o.found.trees end)) x)
          → ReadAs (read_words (words bs)) x
      unfolding read_words_in
      goes_on j p =
          rw (trailer_true newest bs e h, read_words_in) (rw (all_found newest bs e h k f g i j) (p (rules_got f g).rows))
