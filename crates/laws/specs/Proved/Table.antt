-- The table of numbers: each call is in one row.
use Rattle.std.specs.Prelude.{ℕ, ◌≤◌, ◌-◌, ◌*◌, ◌%◌, ◌≡◌, ◌⊎◌}
use Rattle.std.specs.Prelude.{List, [], ◌∷◌, ◌++◌, map, Bool, ◌&&◌, length, replicate, eqb}
use Rattle.std.proofs.Math.Path.{refl, subst}
use Rattle.std.proofs.Common.{sym, ap, ◌∙◌, inl, inr, arith, length-append, take_at, drop_at}
use Rattle.std.proofs.Math.Bool.{true, false, true≢false}
use Rattle.std.proofs.lemmas.List.{length-replicate}
use Rattle.std.proofs.Math.Dec.{leb}
use Rattle.std.proofs.lemmas.Bool.{and_from}
use Rattle.std.specs.Cmp.{first_so, second_so}
use borrow.Author.Tests.{leb-true, le-leb, eqb-true, eq-eqb}
use Rattle.grammar.specs.Form.{Form, newest}
use Rattle.grammar.specs.Lists.{each, total}
use Rattle.grammar.specs.Tree.{Rule, Sheet, Counters}
use Rattle.grammar.specs.Words.{words, bytes}
use Rattle.grammar.specs.Encode.{encode}
use Rattle.grammar.specs.Ids.{is_distinct, is_below}
use Rattle.grammar.specs.Parse.{Got, got, bad}
use Rattle.grammar.specs.Reading.{Reading, refused, sheet, is_length, is_trailer, rules_of_in, counters_of, sheet_of, judge, read}
use Rattle.grammar.specs.Reading.{read_in, read_words_in}
use Rattle.grammar.specs.Corners.{Corners}
use Rattle.grammar.specs.Laws.Lists.{each_append}
use Rattle.grammar.specs.Laws.Words.{length_words, length_bytes}
use Rattle.grammar.specs.Laws.Codec.{is_encoding_words}
use Rattle.reference.specs.Substitute.{Limits}
use Rattle.reference.specs.Apply.{Fresh, apply_plan}
use Rattle.reference.specs.Run.{inner_depth, Stage, Run, ended, stopped, eliminate_mutual_left_recursion, sheet_after, steps_of, entries_of}
use Rattle.reference.specs.Run.{encode_entry, Outcome, refusal, answer_run, answer_reading, answer_to, filled, are_lent, untouched}
use Rattle.reference.specs.Run.{delivered}
use Rattle.reference.specs.Run.{outcome}
use Rattle.graph.specs.Entries.{entries_long}
use Rattle.grammar.specs.Numbers.{least_bytes, most_bytes, result_bytes, trail_bytes, work_bytes, most_words}
use Rattle.grammar.specs.Numbers.{short_buffer, bad_trailer, shared_number, id_past_counter}
use Rattle.laws.specs.Demands.Table.{GoodLength, Lent, FailsIn, trailer, records, equal_ids, high_ids, PassesIn, Passes, zeros}
use Rattle.laws.specs.Demands.Table.{Holds, trail_words}
use Rattle.laws.specs.Demands.Table.{Delivered, cleared, Row, bad_length, not_lent, not_read, not_ended, is_ended}
use Rattle.laws.specs.Running.Refused.{Refused, for_ids, for_length, is_refused}
use Rattle.laws.specs.Running.Stages.{sheet_ends}
use Rattle.laws.specs.Running.Stopped.{StopsAt, by_search, by_plan, sheet_stops}
use Rattle.laws.specs.Validity.Result.{stages_short, stages_words}

-- The tests of length and buffers.
pub good_length_lem : (bs : List ℕ) → is_length (length bs) ≡ true → GoodLength bs
good_length_lem bs t =
    let rest = second_so (leb least_bytes (length bs)) _ t in
    record {
      least = leb-true least_bytes (length bs) (first_so _ (leb (length bs) most_bytes && eqb (length bs % 4) 0) t);
      most = leb-true (length bs) most_bytes (first_so _ (eqb (length bs % 4) 0) rest);
      whole = eqb-true (length bs % 4) 0 (second_so (leb (length bs) most_bytes) _ rest);
    }

pub length_good : (bs : List ℕ) → GoodLength bs → is_length (length bs) ≡ true
length_good bs g =
    and_from _ _ (le-leb least_bytes (length bs) g.least)
    (and_from _ _ (le-leb (length bs) most_bytes g.most) (eq-eqb (length bs % 4) 0 g.whole))

module _ (result trail work : List ℕ) where
  pub are_lent_lem : are_lent result trail work ≡ true → Lent result trail work
  unfolding are_lent
  are_lent_lem t =
      let rest = second_so (leb result_bytes (length result)) _ t in
      record {
        for_result = leb-true result_bytes (length result) (first_so _ (leb trail_bytes (length trail) && leb work_bytes (length work)) t);
        for_trail = leb-true trail_bytes (length trail) (first_so _ (leb work_bytes (length work)) rest);
        for_work = leb-true work_bytes (length work) (second_so (leb trail_bytes (length trail)) _ rest);
      }

  pub lent_are : Lent result trail work → are_lent result trail work ≡ true
  unfolding are_lent
  lent_are l =
      and_from _ _ (le-leb result_bytes (length result) l.for_result)
      (and_from _ _ (le-leb trail_bytes (length trail) l.for_trail) (le-leb work_bytes (length work) l.for_work))

-- The reader's tests.
abbrev pub Judged : Form → List ℕ → Reading → Type 0
Judged f ws (refused n) = FailsIn f ws n
Judged f ws (sheet s) = PassesIn f ws s

judged : (f : Form) (ws : List ℕ) → Judged f ws (read_words_in f ws)
unfolding read_words_in judge
judged f ws = whole (is_trailer ws) refl
  where
    low : is_trailer ws ≡ true → (rs : List Rule) (q : ℕ) → rules_of_in f ws ≡ got rs q → is_distinct rs ≡ true → (b : Bool)
        → is_below (counters_of ws) rs ≡ b
        → Judged f ws (elim b as (λ x. Reading) [ false ↦ refused id_past_counter | true ↦ sheet (sheet_of ws rs) ])
    low t rs q r d true k = record { trailer = t; rules = rs; next = q; records = r; distinct_ids = d; low_ids = k; is_sheet = refl }
    low t rs q r d false k = high_ids t r d k

    apart : is_trailer ws ≡ true → (rs : List Rule) (q : ℕ) → rules_of_in f ws ≡ got rs q → (b : Bool) → is_distinct rs ≡ b
        → Judged f ws (elim b as (λ x. Reading) [
          | false ↦ refused shared_number
          | true ↦ elim (is_below (counters_of ws) rs) as (λ x. Reading)
              [ false ↦ refused id_past_counter | true ↦ sheet (sheet_of ws rs) ]
        ])
    apart t rs q r true d = low t rs q r d (is_below (counters_of ws) rs) refl
    apart t rs q r false d = equal_ids t r d

    found : is_trailer ws ≡ true → (g : Got (List Rule)) → rules_of_in f ws ≡ g → Judged f ws (judge ws g)
    found t bad r = records t r
    found t (got rs q) r = apart t rs q r (is_distinct rs) refl

    whole : (b : Bool) → is_trailer ws ≡ b → Judged f ws
        (elim b as (λ x. Reading) [ false ↦ refused bad_trailer | true ↦ judge ws (rules_of_in f ws) ])
    whole true t = found t (rules_of_in f ws) refl
    whole false t = trailer t

pub read_judged : (f : Form) (bs : List ℕ) → is_length (length bs) ≡ true → Judged f (words bs) (read_in f bs)
unfolding read_in
read_judged f bs t = rw (t, read_in) (judged f (words bs))

-- What passes the reader's tests is read, and a number of what fails is none.
pub passes_reads : (f : Form) (bs : List ℕ) (s : Sheet) → GoodLength bs → PassesIn f (words bs) s → read_in f bs ≡ sheet s
unfolding read_in read_words_in judge
passes_reads f bs s g p =
    rw (length_good bs g, read_in)
    (rw (p.trailer, read_words_in) (rw (p.records, judge) (rw (p.distinct_ids, p.low_ids) (ap sheet p.is_sheet))))

pub fails_number : {f : Form} {ws : List ℕ} {n : ℕ} → FailsIn f ws n → 1 ≤ n
fails_number (trailer t) = omega arith
fails_number (records t r) = omega arith
fails_number (equal_ids t r d) = omega arith
fails_number (high_ids t r d b) = omega arith

-- What a buffer holds that was filled.
pub holds : (ws before : List ℕ) → 4 * length ws ≤ length before → Holds ws before (filled (bytes ws) before)
unfolding filled
holds ws before l =
    let n = length_bytes ws in
    let left = length before - length (bytes ws) in
    let zs : List ℕ = replicate left 0 in
    record {
      front = take_at (bytes ws) zs (4 * length ws) n;
      behind = drop_at (bytes ws) zs (4 * length ws) n ∙ ap (λ k. replicate (length before - k) 0) n;
      same_length = let a = length-append (bytes ws) zs in let r = length-replicate {A = ℕ} left 0 in omega arith;
    }

pub filled_none : (before : List ℕ) → filled [] before ≡ zeros before
unfolding filled
filled_none before = let n : length before - length {A = ℕ} [] ≡ length before = omega arith in ap (λ n. replicate n 0) n

-- The trail of a run, its words and its entries.
pub trail_words_lem : (ts : List Stage) → each encode_entry (entries_of ts) ≡ trail_words ts
unfolding entries_of encode_entry
trail_words_lem [] = refl
trail_words_lem (t ∷ ts) =
    each_append encode_entry t.after.entries (entries_of ts) ∙ ap (λ l. each encode_entry t.after.entries ++ l) (trail_words_lem ts)

pub trail_entries : (ts : List Stage) → length (entries_of ts) ≡ total (map (λ t. length t.after.entries) ts)
unfolding entries_of total
trail_entries [] = refl
trail_entries (t ∷ ts) = let l = length-append t.after.entries (entries_of ts) in let h = trail_entries ts in omega arith

-- Why a run stops: there is no other number.
pub stop_numbers : (limits : Limits) (corners : Corners) (s : Sheet) (ts : List Stage) (n : ℕ)
    → eliminate_mutual_left_recursion limits corners s ≡ stopped ts n
    → (n ≡ 7) ⊎ ((n ≡ 8) ⊎ (n ≡ 9))
stop_numbers limits corners s ts n e = number (sheet_stops limits corners s ts n e).1.reason
  where
    refusal_number : {after : Fresh (List Rule)} {recorded m : ℕ} → Refused s.kind s.preserved after recorded m
        → (m ≡ 7) ⊎ ((m ≡ 8) ⊎ (m ≡ 9))
    refusal_number (for_ids x) = inr (inl refl)
    refusal_number (for_length x y) = inr (inr refl)

    number : {rs : List Rule} {c : Counters} {recorded m : ℕ} → StopsAt limits corners s.kind s.preserved rs c recorded m
        → (m ≡ 7) ⊎ ((m ≡ 8) ⊎ (m ≡ 9))
    number (by_search f) = inl refl
    number {rs} {c} {recorded} (by_plan {plan = plan} f r) =
        refusal_number (is_refused s.kind s.preserved (apply_plan inner_depth rs plan c) recorded r)

module _ (limits : Limits) (corners : Corners) (bs result trail work : List ℕ) where
  -- A run that ended leaves a sheet and a trail for which there is room.
  module _ (g : GoodLength bs) (l : Lent result trail work) (s : Sheet) (k : read bs ≡ sheet s) (ts : List Stage)
      (u : eliminate_mutual_left_recursion limits corners s ≡ ended ts) where
    pub result_fits : 4 * length (encode (sheet_after s ts)) ≤ length result
    result_fits =
        let e = ap length (is_encoding_words newest bs s k) in
        let n = length_words bs in
        let short : length (encode s) ≤ most_words = omega (arith, g.most) in
        let h = stages_words limits corners s.kind s.preserved (sheet_ends limits corners s ts u).0 short in
        omega (arith, l.for_result)

    trail_fits : 4 * length (trail_words ts) ≤ length trail
    trail_fits =
        let h = stages_short limits corners s.kind s.preserved (sheet_ends limits corners s ts u).0 (omega arith) in
        let n = ap length (trail_words_lem ts) in
        let m = entries_long (entries_of ts) in
        omega (arith, l.for_trail)

    ended_delivered : Delivered result trail work s ts (delivered result trail work (answer_run s (ended ts)))
    unfolding delivered answer_run steps_of
    ended_delivered =
        record {
          number = refl;
          plans = refl;
          steps = refl;
          result_length = refl;
          trail_length = let m = entries_long (entries_of ts) in let n = trail_entries ts in omega arith;
          result_holds = holds (encode (sheet_after s ts)) result result_fits;
          trail_holds =
              subst (λ ws. Holds (trail_words ts) trail (filled (bytes ws) trail)) (sym (trail_words_lem ts))
              (holds (trail_words ts) trail trail_fits);
          work_holds = filled_none work;
        }

  cleared_all : (n : ℕ) → delivered result trail work (refusal n) ≡ cleared limits corners bs result trail work n
  unfolding delivered
  cleared_all n = rw (filled_none result, filled_none trail, filled_none work) refl

  running : GoodLength bs → Lent result trail work → (s : Sheet) → read bs ≡ sheet s → Passes (words bs) s → (r : Run)
      → eliminate_mutual_left_recursion limits corners s ≡ r
      → Row limits corners bs result trail work (delivered result trail work (answer_run s r))
  unfolding answer_run
  running g l s k p (ended ts) u = is_ended g l p u (ended_delivered g l s k ts u)
  running g l s k p (stopped ts n) u = not_ended g l p u (stop_numbers limits corners s ts n u) (cleared_all n)

  reading : GoodLength bs → Lent result trail work → (r : Reading) → read bs ≡ r → Judged newest (words bs) r
      → Row limits corners bs result trail work (delivered result trail work (answer_reading limits corners r))
  unfolding answer_reading
  reading g l (refused n) k p = not_read g l p (cleared_all n)
  reading g l (sheet s) k p = running g l s k p (eliminate_mutual_left_recursion limits corners s) refl

  pub table : Row limits corners bs result trail work (outcome limits corners bs result trail work)
  unfolding outcome untouched answer_to
  table = sized (is_length (length bs)) refl
    where
      room : is_length (length bs) ≡ true → (b : Bool) → are_lent result trail work ≡ b
          → Row limits corners bs result trail work
          (elim b as (λ x. Outcome) [
            | false ↦ untouched result trail work short_buffer
            | true ↦ delivered result trail work
                (answer_to limits corners bs)
          ])
      room t true l = reading (good_length_lem bs t) (are_lent_lem result trail work l) (read bs) refl (read_judged newest bs t)
      room t false l = not_lent (good_length_lem bs t) (λ k. true≢false (sym (lent_are result trail work k) ∙ l)) refl

      sized : (b : Bool) → is_length (length bs) ≡ b
          → Row limits corners bs result trail work
          (elim b as (λ x. Outcome) [
            | false ↦ untouched result trail work 1
            | true ↦ elim (are_lent result trail work) as (λ x. Outcome)
                [ false ↦ untouched result trail work short_buffer | true ↦ delivered result trail work (answer_to limits corners bs) ]
          ])
      sized true t = room t (are_lent result trail work) refl
      sized false t = bad_length (λ k. true≢false (sym (length_good bs k) ∙ t)) refl
