-- A plan that is not refused: the new sheet may be composed, and stands in the result then.
use Prim.Native.Nat.{ℕ, ◌+◌, ◌-◌, ◌*◌, ◌<◌, ◌≤◌}
use Rattle.std.specs.Prelude.{Ok, Err}
use Rattle.std.specs.Cmp.{first_so, second_so}
use mathlib.Core.Path.{◌≡◌, refl, sym, ap, ap₂, ◌∙◌, subst}
use mathlib.Core.List.{List}
use mathlib.Core.Bool.{Bool, true, false}
use native.Mathlib.Omega.{arith}
use lib.ListN.{length, take, drop}
use lib.Dec.{leb}
use borrow.Author.Tests.{leb-true}
use mir.Syntax.{w64}
use mir.Val.{Fits}
use Rattle.grammar.specs.Numbers.{most_words, trailer_words, counter_past_end, result_too_long, result_bytes, trail_bytes, work_bytes, rule_limit}
use Rattle.grammar.specs.Tree.{Rule, Sheet, inner_depth}
use Rattle.grammar.specs.Words.{words}
use Rattle.grammar.specs.Stands.{Stands}
use Rattle.grammar.specs.Encode.{encode, encode_rules}
use Rattle.reference.specs.Numbers.{most_entries, entry_words}
use Rattle.reference.specs.Apply.{Fresh}
use Rattle.reference.specs.Run.{sheet_with, are_words, is_short, refusal_of}
use Rattle.graph.specs.Entries.{entries_long}
use Rattle.writing.specs.Wrote.{Wrote}
use Rattle.writing.specs.Taken.{counters_of}
use Rattle.writing.specs.Laws.Wrote.{wrote_stands, wrote_slice}
use Rattle.writing.specs.declared.counters.Counters.{Counters}
use Rattle.words.specs.Room.{Room}
use Rattle.records.specs.declared.rules.Rules.{Rules}
use Rattle.analysis.specs.Facts.{Standing}
use Rattle.planned.specs.Layout.{settled}
use Rattle.planned.specs.List.{Laid, AllIn}
use Rattle.heads.specs.Front.{compose_at}
use Rattle.copies.specs.declared.pen.Pen.{Pen}
use Rattle.plan.specs.declared.plan.Plan.{Plan}
use Rattle.compose.specs.Compose.{Applies, ComposedAs, sheet_after}
use Rattle.compose.specs.declared.compose.Composed.{Composed}
use Rattle.sizes.specs.Sized.{Measured}
use Rattle.sizes.specs.declared.sums.Measure.{Measure}
use Rattle.apply.specs.Judged.{Judged}
use Rattle.apply.specs.Laws.Held.{encode_long, held_kind, held_preserved, held_standing}
use Rattle.apply.specs.Applied.{Applicable, after_of, Done, AppliedOf, WordsAfter, EntriesAfter, RefusedBy}
use Rattle.words.specs.declared.numbers.Refusal.{Refusal}
use Rattle.apply.proofs.Laws.Sizes.{refused_by}

-- What refusal 0 says.
record Good (kind : ℕ) (preserved : List ℕ) (f : Fresh (List Rule)) (recorded : ℕ) : Type 0 where
  counters : are_words f.counters ≡ true
  words : length (encode (sheet_with kind preserved f)) ≤ most_words
  entries : recorded + length f.entries ≤ most_entries

good : (kind : ℕ) (preserved : List ℕ) (f : Fresh (List Rule)) (recorded : ℕ) → refusal_of kind preserved f recorded ≡ 0
    → Good kind preserved f recorded
unfolding refusal_of is_short
good kind preserved f recorded e = go (are_words f.counters) refl (is_short kind preserved f recorded) refl
  where
    go : (a : Bool) → are_words f.counters ≡ a → (b : Bool) → is_short kind preserved f recorded ≡ b → Good kind preserved f recorded
    go false x b y = absurd (let z : counter_past_end ≡ 0 = rw (x, refusal_of) at e in omega arith)
    go true x false y = absurd (let z : result_too_long ≡ 0 = rw (x, y, refusal_of) at e in omega arith)
    go true x true y =
        record {
          counters = x;
          words = leb-true _ _ (first_so (leb (length (encode (sheet_with kind preserved f))) most_words) _ y);
          entries = leb-true _ _ (second_so (leb (length (encode (sheet_with kind preserved f))) most_words) _ y);
        }

module _ {result work : List ℕ} {end to : ℕ} {rules : Rules} {p : Plan} (x : Applicable result work end to rules p) (c : Counters) where
  -- Where the new sheet is composed, and its entries are told.
  abbrev pen_at : ℕ → Pen
  pen_at recorded = record { to = compose_at; trail = entry_words * recorded; counters = c }

  same_sheet : sheet_after (words result) end to (after_of x c) ≡ sheet_with x.sheet.kind x.sheet.preserved (after_of x c)
  same_sheet = ap₂ (λ k ps. sheet_with k ps (after_of x c)) (held_kind x.held) (held_preserved x.held)

  module _ (recorded : ℕ) (fine : Good x.sheet.kind x.sheet.preserved (after_of x c) recorded) where
    abbrev new : Sheet
    new = sheet_with x.sheet.kind x.sheet.preserved (after_of x c)

    applies : {trail : List ℕ} → trail_bytes ≤ length trail → Applies (words result) end to rules p work trail (pen_at recorded)
    unfolding held_standing
    applies l =
        record {
          standing = held_standing x.held x.is_valid x.rows;
          plan = x.plan;
          same = x.same;
          stays = x.hub_stays;
          counters = fine.counters;
          words = rw (ap (λ s. length (encode s)) same_sheet) fine.words;
          entries = let n = entries_long (after_of x c).entries in let m = fine.entries in omega arith;
        }

    module _ {work' trail trail' result' : List ℕ} {k : Composed} {n es : ℕ} (l : trail_bytes ≤ length trail) (b : work_bytes ≤ length work)
        (o : result_bytes ≤ length result)
        (w : ComposedAs (words result) end to rules p work work' trail trail' (pen_at recorded) k)
        (u : Wrote result result' 0 (take n (drop compose_at (words work')))) (h : n ≡ length (encode new))
        (i : es ≡ recorded + length (after_of x c).entries) where
      wrote_new : Wrote result result' 0 (encode new)
      unfolding applies held_standing
      wrote_new =
          let d = (w.drawn (applies l)).wrote in
          let e = ap encode same_sheet in
          let v : Wrote work work' compose_at (encode new) = subst (λ ys. Wrote work work' compose_at ys) e d in
          let s = wrote_slice v (let m = fine.words in omega arith) in
          subst (λ ys. Wrote result result' 0 ys) (ap (λ j. take j (drop compose_at (words work'))) h ∙ s) u

      done : Done x.sheet.kind x.sheet.preserved (after_of x c) recorded result' trail trail'
          (record { rules = k.rules; counters = k.pen.counters; end = k.end; to = k.end + (to - end); entries = es })
      unfolding applies held_standing
      done =
          let y = applies l in
          let e : k.end ≡ length (encode_rules (after_of x c).node) = w.ends y in
          let t : to - end ≡ length x.sheet.preserved = let z = x.held.up_to in omega arith in
          let q = encode_long new in
          let s : 0 + length (encode new) ≡ k.end + (to - end) + trailer_words = omega arith in
          let m = fine.words in
          let z = wrote_new.long in
          record {
            held =
                record {
                  stands =
                      subst (λ j. Stands (words result') j (encode new) 0 j) s
                      (wrote_stands wrote_new (0 + length (encode new)) (omega arith));
                  ends = e;
                  up_to = ap (λ j. k.end + j) t;
                  room = omega arith;
                };
            rows = w.rows y;
            counters_are = (w.drawn y).counters;
            told = (w.drawn y).told;
            entries = i;
            room = let f = fine.entries in omega arith;
          }

module _ {result work : List ℕ} {end to : ℕ} {rules : Rules} {p : Plan} {c : Counters} {recorded r : ℕ}
    (f : RefusedBy result work end to rules p c recorded r) where
  module _ (z : r ≡ 0) where
    fine_by : (x : Applicable result work end to rules p) → Good x.sheet.kind x.sheet.preserved (after_of x c) recorded
    fine_by x = good x.sheet.kind x.sheet.preserved (after_of x c) recorded (sym (f.is x) ∙ z)

    pub applies_by : Applicable result work end to rules p → {trail : List ℕ} → trail_bytes ≤ length trail
        → Applies (words result) end to rules p work trail (record { to = compose_at; trail = entry_words * recorded; counters = c })
    applies_by x = applies x c recorded (fine_by x)

    pub composed_fits : {work' trail trail' : List ℕ} {k : Composed}
        → ComposedAs (words result) end to rules p work work' trail trail'
        (record { to = compose_at; trail = entry_words * recorded; counters = c }) k
        → Applicable result work end to rules p → trail_bytes ≤ length trail → to ≤ most_words → Fits w64 (k.end + (to - end))
    unfolding applies held_standing
    composed_fits w x l b =
        let e : _ ≡ length (encode_rules (after_of x c).node) = w.ends (applies x c recorded (fine_by x) l) in
        let q = encode_long (sheet_with x.sheet.kind x.sheet.preserved (after_of x c)) in
        let m = (fine_by x).words in
        record { fits = omega arith }

    pub applied_done : {work' trail trail' result' : List ℕ} {k : Composed} {n es : ℕ} → trail_bytes ≤ length trail → work_bytes ≤ length work
        → result_bytes ≤ length result
        → ComposedAs (words result) end to rules p work work' trail trail'
        (record { to = compose_at; trail = entry_words * recorded; counters = c }) k
        → Wrote result result' 0 (take n (drop compose_at (words work'))) → WordsAfter result work end to rules p n
        → EntriesAfter result work end to rules p recorded es
        → AppliedOf result work end to rules c p recorded result' trail trail'
        (Ok (record { rules = k.rules; counters = k.pen.counters; end = k.end; to = k.end + (to - end); entries = es }))
    applied_done l b o w u h i =
        record {
          is = λ x.
              record {
                number = sym z ∙ f.is x;
                done = done x c recorded (fine_by x) l b o w u (h.is x c) (i.is x c);
              };
        }

-- By what was judged.
module _ {result work : List ℕ} {end to : ℕ} {rules : Rules} {p : Plan} {m : Measure} {c : Counters} {n room recorded : ℕ}
    (a : WordsAfter result work end to rules p n)
    (w : Measured inner_depth (settled (words result) end inner_depth work p.l) m) (e : room ≡ most_words) where
  pub judged_refused : {f : Refusal} → Judged (counters_of c) m n room recorded (Err f) → {result' trail trail' : List ℕ}
      → AppliedOf result work end to rules c p recorded result' trail trail' (Err f)
  judged_refused j = record { is = λ x. record { number = (refused_by w a e j).is x; done = tt } }

  module _ {u : Unit {0}} (j : Judged (counters_of c) m n room recorded (Ok u)) where
    pub judged_none : RefusedBy result work end to rules p c recorded 0
    judged_none = refused_by w a e j

    pub judged_few : Applicable result work end to rules p → n ≤ most_words
    judged_few x = let i = a.is x c in let l = (fine_by judged_none refl x).words in omega arith

pub applicable_room : {result work : List ℕ} {end to : ℕ} {rules : Rules} {p : Plan} → Applicable result work end to rules p
    → Room result to
applicable_room x = let r = x.held.room in let s = x.short in record { trailer = omega arith; low = omega arith }

pub ruleset applyings = (applies_by, composed_fits, applied_done)

-- What is known where a plan may be applied.
module _ {result work : List ℕ} {end to : ℕ} {rules : Rules} {p : Plan} (x : Applicable result work end to rules p) where
  pub applicable_standing : Standing (words result) end rules
  applicable_standing = held_standing x.held x.is_valid x.rows

  pub applicable_order : end ≤ to
  applicable_order = let u = x.held.up_to in omega arith

  pub applicable_small : end ≤ most_words
  applicable_small = let u = x.held.up_to in let s = x.short in omega arith

  pub applicable_to : to ≤ most_words
  applicable_to = let s = x.short in omega arith

  pub applicable_end : Room result end
  applicable_end = let r = applicable_room x in let o = applicable_order in let t = r.trailer in let l = r.low in
      record { trailer = omega arith; low = omega arith }

  pub applicable_hub : p.hub < rules.n
  applicable_hub = x.same.inside

  pub applicable_few : rules.n ≤ rule_limit
  applicable_few = applicable_standing.rows.few

  pub applicable_laid : Laid work p.l
  applicable_laid = x.same.laid

  pub applicable_listed : AllIn (words result) end inner_depth work p.l
  applicable_listed = x.same.listed

pub ruleset applicables = (
  applicable_room,
  applicable_standing,
  applicable_order,
  applicable_small,
  applicable_to,
  applicable_end,
  applicable_hub,
  applicable_few,
  applicable_laid,
  applicable_listed,
)
