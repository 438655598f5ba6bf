-- What a call means: from the row of the table that it is in, all that is promised of the run in it.
use Rattle.std.specs.Prelude.{ℕ, ◌≤◌, ◌*◌, ◌≡◌, length, Bool}
use Rattle.std.proofs.Math.Path.{refl, sym, ap}
use Rattle.std.proofs.Common.{ap₂, ◌∙◌, subst, ⊎_elim, arith}
use mathlib.Core.List.{List, []}
use Rattle.std.proofs.Math.ListN.{take}
use Rattle.grammar.specs.Form.{newest}
use Rattle.grammar.specs.Tree.{Rule, Sheet}
use Rattle.grammar.specs.Words.{words, bytes}
use Rattle.grammar.specs.Reading.{sheet, read}
use Rattle.grammar.specs.Corners.{Corners, rust, textbook}
use Rattle.grammar.specs.Laws.Words.{AreBytes, words_bytes, in_words}
use Rattle.grammar.specs.Laws.Codec.{accepted_valid}
use Rattle.grammar.specs.Lists.{each}
use Rattle.grammar.specs.Encode.{encode}
use Rattle.reference.specs.Substitute.{Limits}
use Rattle.reference.specs.Run.{Stage, ended, eliminate_mutual_left_recursion, sheet_after, steps_of, encode_entry, entries_of, Outcome}
use Rattle.reference.specs.Run.{filled}
use Rattle.reference.specs.Run.{Answer, refusal, answer, answer_to, are_lent, untouched, delivered, outcome}
use Rattle.graph.specs.Entries.{entries_long}
use Rattle.grammar.specs.Reading.{is_length}
use Rattle.laws.specs.Demands.Refusals.{RefusedSo}
use Rattle.laws.specs.Proved.Refusals.{refused_so_lem}
use Rattle.std.proofs.Math.Bool.{true, false}
use Rattle.laws.specs.Demands.Shape.{Elements, NoOptionalSymbol, NoLeftCorner, OnlyPastSymbols}
use Rattle.laws.specs.Demands.Run.{Demand3}
use Rattle.laws.specs.Demands.Table.{trail_words, Delivered, Row}
use Rattle.laws.specs.Demands.Table.{bad_length, not_lent, not_read, not_ended, is_ended}
use Rattle.laws.specs.Demands.Kept.{same_bytes, OwnResult, Kept, KeptRust, Bought, EveryCall}
use Rattle.laws.specs.Running.Leaves.{Told}
use Rattle.laws.specs.Running.Stages.{valid_told}
use Rattle.laws.specs.Validity.Result.{good_of, run_room}
use Rattle.laws.specs.BothReadings.Readings.{demand3_textbook_lem, demand3_rust_lem}
use Rattle.laws.specs.BothReadings.Later.{later_rust_lem}
use Rattle.laws.specs.BothReadings.SameRun.{sheet_same}
use Rattle.laws.specs.Proved.Analysis.{origins_told_lem, result_reads_back_lem}
use Rattle.laws.specs.Proved.Applied.{one_origin_each}
use Rattle.laws.specs.Proved.Demand3.{bound, preserved_rules_stay}
use Rattle.laws.specs.Proved.OtherUnits.{other_outcome}
use Rattle.laws.specs.Sameness.Again.{again}
use Rattle.laws.specs.Proved.Table.{passes_reads, fails_number, lent_are, filled_none, trail_words_lem, trail_entries, table}

-- A buffer filled with nothing is zeros.
nothing_else : (bs result trail work : List ℕ)
    → record {
      number = 0;
      plans = 0;
      steps = 0;
      result_length = length bs;
      trail_length = 0;
      result = filled bs result;
      trail = filled [] trail;
      work = filled [] work;
    }
    ≡ same_bytes bs result trail work
nothing_else bs result trail work =
    ap₂ (λ t w. record {
      number = 0;
      plans = 0;
      steps = 0;
      result_length = length bs;
      trail_length = 0;
      result = filled bs result;
      trail = t;
      work = w;
    }) (filled_none trail) (filled_none work)

module _ (limits : Limits) (bs : List ℕ) (b : AreBytes bs) (result trail work : List ℕ) (o : Outcome) where
  -- A run that ended and was delivered, by either reading.
  record Came (c : Corners) : Type 0 where
    handed_in : Sheet
    reads : read bs ≡ sheet handed_in
    stages : List Stage
    run : eliminate_mutual_left_recursion limits c handed_in ≡ ended stages
    is_delivered : Delivered result trail work handed_in stages o

  never : {A : Type 0} (n : ℕ) → 1 ≤ n → o.number ≡ n → o.number ≡ 0 → A
  never n l e z = absurd (omega arith)

  row_came : (c : Corners) → Row limits c bs result trail work o → o.number ≡ 0 → Came c
  row_came c (bad_length x e) z = never 1 (omega arith) (ap (λ o. o.number) e) z
  row_came c (not_lent g x e) z = never 2 (omega arith) (ap (λ o. o.number) e) z
  row_came c (not_read g l {n = n} x e) z = never n (fails_number x) (ap (λ o. o.number) e) z
  row_came c (not_ended g l p {n = n} u x e) z =
      never n (⊎_elim (λ y. omega arith) (⊎_elim (λ y. omega arith) (λ y. omega arith)) x) (ap (λ o. o.number) e) z
  row_came c (is_ended g l {s = s} p {stages = ts} u d) z =
      record { handed_in = s; reads = passes_reads newest bs s g p; stages = ts; run = u; is_delivered = d }

  module _ (c : Corners) (x : Came c) where
    abbrev s : Sheet
    s = x.handed_in

    abbrev ts : List Stage
    ts = x.stages

    abbrev told : Told s.rules
    told = valid_told s (accepted_valid newest bs b s x.reads).0

    -- What stands in the trail are the words of the entries.
    trail_read : words (take o.trail_length o.trail) ≡ each encode_entry (entries_of ts)
    trail_read =
        let d = x.is_delivered in
        let (v, f) = accepted_valid newest bs b s x.reads in
        let same = trail_words_lem ts in
        let lengths = ap length same in
        let entries = entries_long (entries_of ts) in
        let count = trail_entries ts in
        let size : o.trail_length ≡ 4 * length (trail_words ts) = let h = d.trail_length in omega arith in
        ap (λ n. words (take n o.trail)) size ∙ ap words (d.trail_holds.front ∙ ap bytes (sym same))
        ∙ words_bytes (each encode_entry (entries_of ts)) (in_words (each encode_entry (entries_of ts))
        (run_room limits c s x.run (good_of s v f)).1)

    -- What stands in the result has no plan left.
    came_again : OwnResult limits c o
    came_again r t w l =
        let d = x.is_delivered in
        let (v, f) = accepted_valid newest bs b s x.reads in
        subst (λ bs. outcome limits c bs r t w ≡ same_bytes bs r t w)
        (sym (ap (λ n. take n o.result) d.result_length ∙ d.result_holds.front))
        (again limits c s v f ts x.run r t w (lent_are r t w l) ∙ nothing_else (bytes (encode (sheet_after s ts))) r t w)

    came_kept : (Without : List Rule → List ℕ → Elements → Type 0) → Demand3 s limits c Without ts → Kept limits c Without bs o
    unfolding steps_of
    came_kept Without demand =
        let d = x.is_delivered in
        let (v, f) = accepted_valid newest bs b s x.reads in
        record {
          before = s;
          reads = x.reads;
          after = sheet_after s ts;
          reads_back = ap read (ap (λ n. take n o.result) d.result_length ∙ d.result_holds.front)
              ∙ (result_reads_back_lem s v f limits c ts x.run).found;
          stages = ts;
          run = x.run;
          is_after = refl;
          plans = sym d.plans;
          steps = sym d.steps;
          trail = trail_read;
          strings = demand.same_strings;
          readings = demand.same_readings;
          closed = demand.closed;
          demand3 = demand;
          bound = bound limits c s told ts x.run;
          stay = preserved_rules_stay limits c s told ts x.run;
          origins = origins_told_lem s v f limits c ts x.run;
          one_origin = one_origin_each limits c s v ts x.run f;
          again = came_again;
        }

  kept_textbook : Came textbook → Kept limits textbook NoLeftCorner bs o
  kept_textbook x =
      came_kept textbook x NoLeftCorner (demand3_textbook_lem limits x.handed_in (told textbook x) x.stages x.run)

  later_kept : Kept limits rust OnlyPastSymbols bs o → KeptRust limits bs o
  later_kept k =
      record {
        kept = k;
        later_cycles =
            later_rust_lem limits k.before (valid_told k.before (accepted_valid newest bs b k.before k.reads).0) k.stages k.run;
      }

  kept_rust : Came rust → KeptRust limits bs o
  kept_rust x =
      later_kept (came_kept rust x OnlyPastSymbols (demand3_rust_lem limits x.handed_in (told rust x) x.stages x.run))

  -- Without a symbol of quantifier 1 to 4 the Rust's run is the textbook's.
  came_plain : ((s : Sheet) → read bs ≡ sheet s → NoOptionalSymbol s.rules) → Came rust → Came textbook
  came_plain p x =
      record {
        handed_in = x.handed_in;
        reads = x.reads;
        stages = x.stages;
        run = sym (sheet_same limits x.handed_in (accepted_valid newest bs b x.handed_in x.reads).0 (p x.handed_in x.reads)) ∙ x.run;
        is_delivered = x.is_delivered;
      }

  -- So the row alone says what is bought.
  pub row_bought : (c : Corners) → Row limits c bs result trail work o → Bought limits c bs o
  row_bought rust r =
      record {
        everywhere = λ z. kept_rust (row_came rust r z);
        plain_symbols = λ z p. kept_textbook (came_plain p (row_came rust r z));
      }
  row_bought textbook r = record { everywhere = λ z. kept_textbook (row_came textbook r z) }

pub own_result_lem : (limits : Limits) (c : Corners) (bs result trail work : List ℕ) → AreBytes bs
    → (outcome limits c bs result trail work).number ≡ 0 → OwnResult limits c (outcome limits c bs result trail work)
own_result_lem limits c bs result trail work b z =
    let o = outcome limits c bs result trail work in
    came_again limits bs b result trail work o c (row_came limits bs b result trail work o c (table limits c bs result trail work) z)

-- A call refused by 3 or more has a good length and its buffers, and the answer to its bytes is that refusal.
module _ (limits : Limits) (c : Corners) (bs result trail work : List ℕ) (b : AreBytes bs) where
  answer_why : (a : Answer) → answer_to limits c bs ≡ a → 3 ≤ (delivered result trail work a).number
      → RefusedSo limits c bs (delivered result trail work a).number
  unfolding delivered
  answer_why (refusal n) e l = refused_so_lem limits c bs b n e
  answer_why (answer plans steps ws ts) e l = absurd (omega arith)

  abbrev lent_or : Bool → Outcome
  lent_or false = untouched result trail work 2
  lent_or true = delivered result trail work (answer_to limits c bs)

  lent_why : (x : Bool) → 3 ≤ (lent_or x).number → RefusedSo limits c bs (lent_or x).number
  unfolding untouched
  lent_why false l = absurd (omega arith)
  lent_why true l = answer_why (answer_to limits c bs) refl l

  abbrev sized_or : Bool → Outcome
  sized_or false = untouched result trail work 1
  sized_or true = lent_or (are_lent result trail work)

  sized_why : (x : Bool) → 3 ≤ (sized_or x).number → RefusedSo limits c bs (sized_or x).number
  unfolding untouched
  sized_why false l = absurd (omega arith)
  sized_why true l = lent_why (are_lent result trail work) l

  call_why : 3 ≤ (outcome limits c bs result trail work).number → RefusedSo limits c bs (outcome limits c bs result trail work).number
  unfolding outcome
  call_why = sized_why (is_length (length bs))

pub every_call_lem : (limits : Limits) (c : Corners) (bs result trail work : List ℕ) → AreBytes bs
    → EveryCall limits c bs result trail work (outcome limits c bs result trail work)
every_call_lem limits c bs result trail work b =
    let r = table limits c bs result trail work in
    record {
      row = r;
      bought = row_bought limits bs b result trail work (outcome limits c bs result trail work) c r;
      refused_so = call_why limits c bs result trail work b;
      other_units = λ l s k n.
          other_outcome limits c bs result trail work b s k n (lent_are result trail work l) ∙ nothing_else bs result trail work;
    }
