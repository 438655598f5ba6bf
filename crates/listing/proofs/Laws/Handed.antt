-- What the pass hands over is listed as the definition says.
use Rattle.std.specs.Prelude.{Result, Ok, Err}
use Rattle.std.proofs.lemmas.Bool.{and_from}
use Rattle.std.specs.Cmp.{first_so}
use Prim.Native.Nat.{ℕ, ◌-◌, ◌*◌, ◌/◌, ◌%◌, ◌≤◌}
use mathlib.Core.Path.{◌≡◌, refl, sym, ap, ◌∙◌}
use mathlib.Core.List.{List, [], ◌∷◌, ◌++◌}
use mathlib.Core.Bool.{true, false}
use native.Mathlib.Omega.{arith}
use lib.ListN.{length, replicate, length-append}
use lib.Seq.{take-append_seam}
use lib.Dec.{leb}
use borrow.Author.Tests.{leb-true, le-leb}
use Rattle.grammar.specs.Form.{newest}
use Rattle.grammar.specs.Numbers.{most_words, result_bytes, trail_bytes, work_bytes}
use Rattle.grammar.specs.Corners.{rust}
use Rattle.grammar.specs.Lists.{all, member}
use Rattle.grammar.specs.Tree.{Sheet}
use Rattle.grammar.specs.Words.{word_of, words, bytes}
use Rattle.grammar.specs.Encode.{encode}
use Rattle.grammar.specs.Stands.{Stands}
use Rattle.grammar.specs.Valid.{fits_in, ok_rules_in}
use Rattle.grammar.specs.Reading as reading
use Rattle.grammar.specs.Reading.{refused, sheet, is_length, read, read_in}
use Rattle.grammar.specs.Laws.Words.{AreBytes, length_bytes, words_bytes, in_words}
use Rattle.grammar.specs.Laws.Parse.{either}
use Rattle.grammar.specs.Laws.Stands.{slice_stands}
use Rattle.grammar.specs.Laws.Whole.{valid_parts}
use Rattle.grammar.specs.Laws.Codec.{is_encoding_words, refuses_only, encode_length}
use Rattle.reference.specs.Substitute.{standard}
use Rattle.reference.specs.Apply.{Entry}
use Rattle.reference.specs.Run as R
use Rattle.reference.specs.Run.{Run, ended, stopped, eliminate_mutual_left_recursion, sheet_after, entries_of, are_lent, filled}
use Rattle.reference.specs.Run.{outcome}
use Rattle.reference.specs.Run.{answer_to, answer_reading, answer_run, delivered, untouched, refused_with, refusal, answer}
use Rattle.graph.specs.Entries.{entries_long}
use Rattle.laws.specs.Demands.Answers.{Answered}
use Rattle.laws.specs.Demands.Refusals.{RefusedSo, by_reader, by_run, Stops, too_large, no_id_left, too_long}
use Rattle.laws.specs.Proved.All.{theorems}
use Rattle.listed.specs.Listed.{listed_refusal, listed_rules, listed_run, listed_reading, listed}
use Rattle.listed.specs.Walk.{any_entry}
use Rattle.listed.specs.Ready.{Held, Recorded}
use Rattle.words.specs.Refusal.{refusal_number}
use Rattle.words.specs.declared.numbers.Refusal.{Refusal}
use Rattle.pass.specs.declared.answer.Totals.{Totals}
use Rattle.pass.specs.Handed.{outcome_of, Handed}
use Rattle.listing.specs.Told.{refusal_in, Answers, Lent}

-- The listing of bytes, by their answer.
module _ (bs : List ℕ) where
  listed_refusal_lem : {n : ℕ} → answer_to standard rust bs ≡ refusal n → listed standard rust bs ≡ listed_refusal n
  unfolding answer_to answer_reading answer_run listed listed_reading listed_run
  listed_refusal_lem {n} e = go (read bs) e
    where
      run : (s : Sheet) (r : Run) → answer_run s r ≡ refusal n → listed_run s r ≡ listed_refusal n
      run s (stopped ss m) e = ap listed_refusal cc
      run s (ended ss) e = absurd (let z : ◌≡◌ {A = ℕ} 0 1 = cc in omega arith)

      go : (r : reading.Reading) → answer_reading standard rust r ≡ refusal n → listed_reading standard rust r ≡ listed_refusal n
      go (refused m) e = ap listed_refusal cc
      go (sheet s) e = run s (eliminate_mutual_left_recursion standard rust s) e

  listed_answer : {plans steps : ℕ} {ws ts : List ℕ} (a : Answered standard rust bs plans steps ws ts)
      → listed standard rust bs ≡ listed_rules plans steps (sheet_after a.handed_in a.stages).rules (entries_of a.stages)
  unfolding listed listed_reading listed_run
  listed_answer a =
      ap (listed_reading standard rust) a.reads
      ∙ ap (listed_run a.handed_in) a.run
      ∙ rw (a.plans_are, a.steps_are) refl

-- Words at the front of a buffer.
words_front : (ws rest : List ℕ) → words (bytes ws ++ rest) ≡ words (bytes ws) ++ words rest
unfolding words bytes
words_front [] rest = refl
words_front (w ∷ ws) rest =
    ap {B = List ℕ} (λ l. word_of (w % 256) (w / 256 % 256) (w / 256 / 256 % 256) (w / 256 / 256 / 256 % 256) ∷ l) (words_front ws rest)

front_stands : {ws : List ℕ} (buffer : List ℕ) → words (bytes ws) ≡ ws
    → Stands (words (filled (bytes ws) buffer)) (length ws) ws 0 (length ws)
unfolding filled
front_stands {ws} buffer e =
    let zs : List ℕ = replicate (length buffer - length (bytes ws)) 0 in
    let f : words (bytes ws ++ zs) ≡ ws ++ words zs = words_front ws zs ∙ ap (λ l. l ++ words zs) e in
    let s =
    slice_stands (ws ++ words zs) (length ws) (length ws) 0 (length ws) (omega arith) (let l = length-append ws (words zs) in omega arith)
    (omega arith) in
    rw f (rw (take-append_seam ws (words zs)) at s)

front_long : (ws buffer : List ℕ) → 4 * length ws ≤ length (filled (bytes ws) buffer)
unfolding filled
front_long ws buffer =
    let zs : List ℕ = replicate (length buffer - length (bytes ws)) 0 in
    let l = length-append (bytes ws) zs in
    let k = length_bytes ws in
    omega arith

-- No refusal has the number 0.
stops_positive : {s : _} {stages : List R.Stage} {n : ℕ} → Stops s standard rust stages n → n ≡ 0 → ⊥
stops_positive (too_large x d) e = omega arith
stops_positive (no_id_left x d) e = omega arith
stops_positive (too_long x d y) e = omega arith

refused_positive : {bs : List ℕ} {n : ℕ} → RefusedSo standard rust bs n → n ≡ 0 → ⊥
unfolding member
refused_positive {bs} {n} (by_reader e) z =
    let m = refuses_only newest bs n e in let k : false ≡ true = rw z at m in absurd (let u : ◌≡◌ {A = ℕ} 0 1 = cc in omega arith)
refused_positive (by_run r k e s x) z = stops_positive x z

module _ {bs : List ℕ} {plans steps : ℕ} {ws ts : List ℕ} (a : Answered standard rust bs plans steps ws ts) where
  -- The sheet of an answer in the result.
  answer_held : {after : List ℕ} (buffer : List ℕ) (n : ℕ) → after ≡ filled (bytes ws) buffer → n ≡ length ws → Held after n
  unfolding ok_rules_in fits_in
  answer_held {after} buffer n f e =
      let g = a.good in
      let t = sheet_after a.handed_in a.stages in
      let r = g.reads_back in
      let same : words (bytes ws) ≡ ws = rw g.is_encoding at (sym (is_encoding_words newest (bytes (encode t)) t r.found)) in
      record {
        sheet = t;
        good = let v = valid_parts newest t r.is_valid in and_from _ _ v.few v.rules;
        stands = rw (f, e, g.is_encoding) (front_stands buffer same);
        room = rw (f, e) (front_long ws buffer);
        most =
            let l = leb-true (length (encode t)) most_words (first_so (leb (length (encode t)) most_words) _ r.is_fitting) in
            let m = ap length g.is_encoding in
            omega arith;
      }

  -- Its entries in the trail.
  answer_recorded : {after : List ℕ} (buffer : List ℕ) (k : ℕ) → after ≡ filled (bytes ts) buffer → 4 * k ≡ length ts → Recorded after k
  unfolding all
  answer_recorded {after} buffer k f e =
      let g = a.good in
      let es = entries_of a.stages in
      let l = entries_long es in
      let m = ap length a.trail_is in
      let s = front_stands buffer (words_bytes ts (in_words ts g.are_words)) in
      record {
        found =
            record {
              trees = es;
              next = 4 * k;
              spans = record { stands = rw (f, a.trail_is, e) s; fine = every es };
              count = omega arith;
            };
        room = rw f (let r = front_long ts buffer in omega arith);
        few = let r = g.short in omega arith;
      }
    where
      every : (es : List Entry) → all any_entry es ≡ true
      every [] = refl
      every (x ∷ es) = every es

-- The sheet's bytes, and buffers that are long enough.
module _ (bs result trail work : List ℕ) (are : AreBytes bs) (lent : are_lent result trail work ≡ true) where
  -- A sheet of a good length is answered by its words.
  delivers : is_length (length bs) ≡ true
      → outcome standard rust bs result trail work ≡ delivered result trail work (answer_to standard rust bs)
  unfolding outcome
  delivers e = rw (e, lent, outcome) refl

  refuses : is_length (length bs) ≡ false → outcome standard rust bs result trail work ≡ untouched result trail work 1
  unfolding outcome
  refuses e = rw (e, outcome) refl

  short_answer : is_length (length bs) ≡ false → answer_to standard rust bs ≡ refusal 1
  unfolding answer_to answer_reading read_in
  short_answer e = rw (e, read_in) refl

  -- The answer, and the outcome with its number.
  data Came : Type 0 where
    came_refused : (n : ℕ) → answer_to standard rust bs ≡ refusal n → (n ≡ 0 → ⊥)
        → (outcome standard rust bs result trail work).number ≡ n → Came
    came_answered : (plans steps : ℕ) (ws ts : List ℕ) → answer_to standard rust bs ≡ answer plans steps ws ts
        → outcome standard rust bs result trail work ≡ delivered result trail work (answer plans steps ws ts) → Came

  came : Came
  unfolding delivered untouched
  came =
      either (is_length (length bs))
      (λ e. go (answer_to standard rust bs) refl (delivers e))
      (λ e. came_refused 1 (short_answer e) (λ z. omega arith) (ap (λ o. o.number) (refuses e)))
    where
      go : (x : R.Answer) → answer_to standard rust bs ≡ x
          → outcome standard rust bs result trail work ≡ delivered result trail work (answer_to standard rust bs) → Came
      go (refusal n) e f =
          came_refused n e (refused_positive (theorems.refused_so standard rust bs are n e))
          (ap (λ o. o.number) (f ∙ ap (delivered result trail work) e))
      go (answer p s ws ts) e f = came_answered p s ws ts e (f ∙ ap (delivered result trail work) e)

  -- A refusal, and no refusal, are what was handed over.
  module _ {result' trail' work' : List ℕ} where
    refused_answers : (r : Refusal) → refused_with (refusal_number r) result' trail' work' ≡ outcome standard rust bs result trail work → Came
        → Answers bs (Err r) result' trail'
    unfolding delivered
    refused_answers r h (came_refused m e p f) =
        let same : refusal_number r ≡ m = ap (λ o. o.number) h ∙ f in
        record { so = record { is = listed_refusal_lem bs e ∙ ap listed_refusal (sym same); number = ap refusal_in e ∙ sym same } }
    refused_answers r h (came_answered p s ws ts e f) =
        let a = theorems.answered standard rust bs are p s ws ts e in
        let z : 0 ≡ 4 * length ws = ap (λ o. o.result_length) (h ∙ f) in
        let l = encode_length newest (sheet_after a.handed_in a.stages) in
        let m = ap length a.good.is_encoding in
        absurd (omega arith)

    joined_answers : (t : Totals) → outcome_of (Ok t) result' trail' work' ≡ outcome standard rust bs result trail work → Came
        → Answers bs (Ok t) result' trail'
    unfolding delivered answer_held answer_recorded
    joined_answers t h (came_refused m e p f) = absurd (p (sym (ap (λ o. o.number) h ∙ f)))
    joined_answers t h (came_answered p s ws ts e f) =
        let a = theorems.answered standard rust bs are p s ws ts e in
        let x = h ∙ f in
        let l : t.result ≡ 4 * length ws = ap (λ o. o.result_length) x in
        let m : t.trail ≡ 4 * length ts = ap (λ o. o.trail_length) x in
        let k = ap length a.trail_is in
        let i = entries_long (entries_of a.stages) in
        record {
          so =
              record {
                held = answer_held a result (t.result / 4) (ap (λ o. o.result) x) (omega arith);
                recorded = answer_recorded a trail (t.trail / 16) (ap (λ o. o.trail) x) (omega arith);
                is = listed_answer bs a ∙ rw (ap (λ o. o.plans) x, ap (λ o. o.steps) x) refl;
                number = ap refusal_in e;
              };
        }

pub handed_answers : {bs result trail work : List ℕ} {a : Result Totals Refusal} {result' trail' work' : List ℕ} → AreBytes bs → Lent result trail work
    → Handed rust bs result trail work a result' trail' work'
    → Answers bs a result' trail'
unfolding are_lent
handed_answers {bs} {result} {trail} {work} {a} {result'} {trail'} {work'} k l h = go a h.is
  where
    lent : are_lent result trail work ≡ true
    lent =
        and_from _ _ (le-leb result_bytes (length result) l.result)
        (and_from _ _ (le-leb trail_bytes (length trail) l.trail) (le-leb work_bytes (length work) l.work))

    go : (a : Result Totals Refusal) → outcome_of a result' trail' work' ≡ outcome standard rust bs result trail work → Answers bs a result' trail'
    go (Err r) e = refused_answers bs result trail work k lent r e (came bs result trail work k lent)
    go (Ok t) e = joined_answers bs result trail work k lent t e (came bs result trail work k lent)
