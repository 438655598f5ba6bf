-- Whole calls compared: the outcome of a sheet with other names, carried numbers or precedences is the sheet's, with the result so
-- changed.
use Prim.Native.Nat.{ℕ, zero, suc, ◌-◌, ◌*◌, ◌≤◌}
use Rattle.std.specs.Prelude.{◌≡◌, Bool, replicate}
use Rattle.std.proofs.Math.Path.{refl, sym, ap, ap₂}
use Rattle.std.proofs.Common.{◌∙◌, ⊎_elim, arith}
use mathlib.Core.List.{List, [], ◌++◌}
use Rattle.std.proofs.Math.Bool.{true, false}
use Rattle.std.proofs.Math.ListN.{length}
use Rattle.grammar.specs.Form.{newest}
use Rattle.grammar.specs.Tree.{Sheet}
use Rattle.grammar.specs.Lists.{member, each}
use Rattle.grammar.specs.Words.{bytes}
use Rattle.grammar.specs.Encode.{encode}
use Rattle.grammar.specs.Ids.{is_distinct, is_below}
use Rattle.grammar.specs.Numbers.{short_buffer, shared_number, id_past_counter}
use Rattle.grammar.specs.Reading.{Reading, refused, sheet, read}
use Rattle.grammar.specs.Corners.{Corners}
use Rattle.grammar.specs.Laws.Parse.{either}
use Rattle.grammar.specs.Laws.Words.{AreBytes}
use Rattle.grammar.specs.Laws.Codec.{accepted_valid}
use Rattle.reference.specs.Substitute.{Limits}
use Rattle.reference.specs.Run.{Stage, Run, ended, stopped, eliminate_mutual_left_recursion, sheet_after, steps_of, encode_entry}
use Rattle.reference.specs.Run.{entries_of}
use Rattle.reference.specs.Run.{Answer, Outcome, refusal, answer, answer_run, answer_reading, answer_to, filled, are_lent, untouched}
use Rattle.reference.specs.Run.{delivered, outcome}
use Rattle.laws.specs.Demands.Table.{GoodLength, Lent}
use Rattle.laws.specs.Demands.Sameness.{TreeIn, same, on_bytes, on_outcome, Renames, Renamed}
use Rattle.laws.specs.Proved.Table.{length_good, are_lent_lem, holds, stop_numbers, result_fits}
use Rattle.laws.specs.Proved.Analysis.{result_reads_back_lem}
use Rattle.laws.specs.Sameness.Free.{no_new_names}
use Rattle.laws.specs.Demands.Marks.{on_sheet, names_in}
use Rattle.laws.specs.Sameness.Names.{sheet_agrees}
use Rattle.laws.specs.Sameness.Lengths.{whole_length}
use Rattle.laws.specs.Sameness.Laws.{wider, wider_there, wider_one}
use Rattle.laws.specs.Sameness.Judged.{distinct_on, below_on}
use Rattle.laws.specs.Sameness.Answers.{answer_on, answer-on}
use Rattle.laws.specs.Sameness.Renamed.{reading_of, holds_read, holds_on}

-- What 5 and 6 make of the changed sheet, names told apart.
abbrev on_reading : (f r pr : ℕ → ℕ) → Reading → Reading
on_reading f r pr (refused n) = refused n
on_reading f r pr (sheet s) = sheet (on_sheet f r pr s)

reading_on : (f r pr : ℕ → ℕ) → ((a b : ℕ) → f a ≡ f b → a ≡ b) → (t : Sheet)
    → reading_of (on_sheet f r pr t) ≡ on_reading f r pr (reading_of t)
unfolding reading_of on_sheet
reading_on f r pr one t =
    ap₂ {C = Reading} (λ x y. elim x as (λ z. Reading) [
      | false ↦ refused shared_number
      | true ↦ elim y as (λ z. Reading) [ false ↦ refused id_past_counter | true ↦ sheet (on_sheet f r pr t) ]
    ]) (distinct_on f r pr one t.rules) (below_on f r pr one t.counters t.rules)
    ∙ go (is_distinct t.rules) (is_below t.counters t.rules)
  where
    go : (x y : Bool)
        → (elim x as (λ z. Reading) [
          | false ↦ refused shared_number
          | true ↦ elim y as (λ z. Reading) [ false ↦ refused id_past_counter | true ↦ sheet (on_sheet f r pr t) ]
        ])
        ≡ on_reading f r pr (elim x as (λ z. Reading) [
          | false ↦ refused shared_number
          | true ↦ elim y as (λ z. Reading) [ false ↦ refused id_past_counter | true ↦ sheet t ]
        ])
    go false y = refl
    go true false = refl
    go true true = refl

-- Of a buffer its length alone counts.
filled_as : (buffer other : List ℕ) → length buffer ≡ length other → {x y : List ℕ} → x ≡ y → filled x buffer ≡ filled y other
unfolding filled
filled_as buffer other n e = ap₂ (λ x n. x ++ replicate (n - length x) 0) e n

module _ (result trail work : List ℕ) (f r pr : ℕ → ℕ) where
  -- A refusal has no result.
  refusal_stays : (n : ℕ) → 1 ≤ n → on_outcome f r pr (delivered result trail work (refusal n)) ≡ delivered result trail work (refusal n)
  unfolding on_outcome delivered
  refusal_stays zero l = absurd (omega arith)
  refusal_stays (suc n) l = refl

  bytes_on : (a : Sheet) → read (bytes (encode a)) ≡ sheet a → on_bytes f r pr (bytes (encode a)) ≡ bytes (encode (on_sheet f r pr a))
  unfolding on_bytes
  bytes_on a reads = rw (reads, on_bytes) refl

  -- A result that reads back is changed as a tree.
  delivered_on : (a : Sheet) → read (bytes (encode a)) ≡ sheet a → 4 * length (encode a) ≤ length result → (plans steps : ℕ) (es : List ℕ)
      → on_outcome f r pr (delivered result trail work (answer plans steps (encode a) es))
      ≡ delivered result trail work (answer plans steps (encode (on_sheet f r pr a)) es)
  unfolding on_outcome delivered
  delivered_on a reads fits plans steps es =
      let h = holds (encode a) result fits in
      ap₂ (λ n bs. record {
        number = 0;
        plans = plans;
        steps = steps;
        result_length = 4 * n;
        trail_length = 4 * length es;
        result = bs;
        trail = filled (bytes es) trail;
        work = filled [] work;
      })
      (sym (whole_length f r pr a))
      (filled_as (filled (bytes (encode a)) result) result h.same_length (ap (on_bytes f r pr) h.front ∙ bytes_on a reads))

module _ (limits : Limits) (c : Corners) (bs : List ℕ) (b : AreBytes bs) (g : GoodLength bs) (t : Sheet) (reads : read bs ≡ reading_of t)
    (result trail work : List ℕ) (l : Lent result trail work) where
  abbrev run : Run
  run = eliminate_mutual_left_recursion limits c t

  abbrev handed : Answer → Outcome
  handed = delivered result trail work

  -- What 5 and 6 make of the tree, and what a run ends with.
  by_reading : (P : Reading → Type 0) → P (refused 5) → P (refused 6) → (read bs ≡ sheet t → P (sheet t)) → P (reading_of t)
  unfolding reading_of
  by_reading P five six came = go (is_distinct t.rules) (is_below t.counters t.rules) reads
    where
      go : (x y : Bool)
          → read bs ≡ (elim x as (λ z. Reading) [
            | false ↦ refused shared_number
            | true ↦ elim y as (λ z. Reading) [ false ↦ refused id_past_counter | true ↦ sheet t ]
          ])
          → P (elim x as (λ z. Reading) [
            | false ↦ refused shared_number
            | true ↦ elim y as (λ z. Reading) [ false ↦ refused id_past_counter | true ↦ sheet t ]
          ])
      go false y k = five
      go true false k = six
      go true true k = came k

  by_run : (Q : Run → Type 0) → ((ts : List Stage) (n : ℕ) → 1 ≤ n → Q (stopped ts n))
      → ((ts : List Stage) → run ≡ ended ts → Q (ended ts)) → Q run
  by_run Q stops ends = go run refl
    where
      go : (x : Run) → run ≡ x → Q x
      go (ended ts) u = ends ts u
      go (stopped ts n) u =
          stops ts n (⊎_elim (λ e. omega arith) (⊎_elim (λ e. omega arith) (λ e. omega arith)) (stop_numbers limits c t ts n u))

  -- A run's result, changed.
  ended_on : (f r pr : ℕ → ℕ) (ts : List Stage) → read bs ≡ sheet t → run ≡ ended ts
      → on_outcome f r pr (handed (answer_run t (ended ts)))
      ≡ handed (answer (length ts) (steps_of ts) (encode (on_sheet f r pr (sheet_after t ts))) (each encode_entry (entries_of ts)))
  unfolding answer_run
  ended_on f r pr ts k u =
      let (v, w) = accepted_valid newest bs b t k in
      delivered_on result trail work f r pr (sheet_after t ts) (result_reads_back_lem t v w limits c ts u).found
      (result_fits limits c bs result trail work g l t k ts u) (length ts) (steps_of ts) (each encode_entry (entries_of ts))

  -- Two renamings that agree on the sheet's names change an outcome alike: the result has no other names.
  outcome_agrees : (f g r pr : ℕ → ℕ) → ((n : ℕ) → member n (names_in t) ≡ true → f n ≡ g n)
      → on_outcome f r pr (handed (answer_reading limits c (reading_of t)))
      ≡ on_outcome g r pr (handed (answer_reading limits c (reading_of t)))
  unfolding answer_reading answer_run
  outcome_agrees f g r pr agree =
      by_reading (λ x. on_outcome f r pr (handed (answer_reading limits c x)) ≡ on_outcome g r pr (handed (answer_reading limits c x)))
      (stay 5 (omega arith)) (stay 6 (omega arith))
      (λ k.
      by_run (λ x. on_outcome f r pr (handed (answer_run t x)) ≡ on_outcome g r pr (handed (answer_run t x)))
      (λ ts n h. stay n h)
      (λ ts u.
      ended_on f r pr ts k u
      ∙ ap (λ a. handed (answer (length ts) (steps_of ts) (encode a) (each encode_entry (entries_of ts))))
      (sheet_agrees f g r pr (sheet_after t ts) (λ n m. agree n (no_new_names limits c t ts u n m)))
      ∙ sym (ended_on g r pr ts k u)))
    where
      stay : (n : ℕ) → 1 ≤ n → on_outcome f r pr (handed (refusal n)) ≡ on_outcome g r pr (handed (refusal n))
      stay n h = refusal_stays result trail work f r pr n h ∙ sym (refusal_stays result trail work g r pr n h)

  -- With names told apart, the changed sheet has the outcome of the sheet, its result changed.
  outcome_on : (f r pr : ℕ → ℕ) (one : (a b : ℕ) → f a ≡ f b → a ≡ b)
      → handed (answer_reading limits c (reading_of (on_sheet f r pr t)))
      ≡ on_outcome f r pr (handed (answer_reading limits c (reading_of t)))
  unfolding answer_reading answer_run answer_on
  outcome_on f r pr one =
      ap (λ x. handed (answer_reading limits c x)) (reading_on f r pr one t)
      ∙ by_reading (λ x. handed (answer_reading limits c (on_reading f r pr x)) ≡ on_outcome f r pr (handed (answer_reading limits c x)))
      (sym (refusal_stays result trail work f r pr 5 (omega arith))) (sym (refusal_stays result trail work f r pr 6 (omega arith)))
      (λ k.
      ap handed (answer-on f r pr one limits c t)
      ∙ by_run (λ x. handed (answer_on f r pr one t x) ≡ on_outcome f r pr (handed (answer_run t x)))
      (λ ts n h. sym (refusal_stays result trail work f r pr n h))
      (λ ts u. sym (ended_on f r pr ts k u)))

-- From bytes that pass 1 to 4: the outcome is what 5 and 6, and then the run, make of the tree; or 2.
module _ (limits : Limits) (c : Corners) (result trail work : List ℕ) where
  lent_outcome : are_lent result trail work ≡ true → (bs : List ℕ) (t : Sheet) → TreeIn bs t
      → outcome limits c bs result trail work ≡ delivered result trail work (answer_reading limits c (reading_of t))
  unfolding outcome answer_to
  lent_outcome l bs t h = rw (length_good bs h.good_length, l, outcome) (rw (holds_read bs t h) refl)

  short_outcome : are_lent result trail work ≡ false → (bs : List ℕ) (t : Sheet) → TreeIn bs t
      → outcome limits c bs result trail work ≡ untouched result trail work short_buffer
  unfolding outcome
  short_outcome l bs t h = rw (length_good bs h.good_length, l, outcome) refl

  short_stays : (f r pr : ℕ → ℕ) → on_outcome f r pr (untouched result trail work short_buffer) ≡ untouched result trail work short_buffer
  unfolding on_outcome untouched
  short_stays f r pr = refl

  pub renamed : (bs : List ℕ) → AreBytes bs → (t : Sheet) → TreeIn bs t → (f : ℕ → ℕ) → Renames f t
      → Renamed limits c result trail work bs t f
  renamed bs b t h f names =
      let t' = on_sheet f same same t in
      let h' = holds_on bs b t h f same same (λ n w. w) (λ n w. w) names.are_names in
      either (are_lent result trail work)
      (λ l.
      let lent = are_lent_lem result trail work l in
      lent_outcome l (bytes (encode t')) t' h'
      ∙ ap (λ s. delivered result trail work (answer_reading limits c (reading_of s)))
      (sym (sheet_agrees (wider f (names_in t)) f same same t (λ n m. wider_there f (names_in t) n m)))
      ∙ outcome_on limits c bs b h.good_length t (holds_read bs t h) result trail work lent (wider f (names_in t)) same same
      (wider_one f (names_in t) names.apart)
      ∙ outcome_agrees limits c bs b h.good_length t (holds_read bs t h) result trail work lent (wider f (names_in t)) f same same
      (λ n m. wider_there f (names_in t) n m)
      ∙ ap (on_outcome f same same) (sym (lent_outcome l bs t h)))
      (λ l.
      short_outcome l (bytes (encode t')) t' h' ∙ sym (short_stays f same same)
      ∙ ap (on_outcome f same same) (sym (short_outcome l bs t h)))

  -- With other carried numbers and precedences the outcome is the sheet's, but for those numbers of its result.
  others : (r pr : ℕ → ℕ) → are_lent result trail work ≡ true → (bs : List ℕ) → AreBytes bs → (t : Sheet) → TreeIn bs t
      → on_outcome same r pr (outcome limits c bs result trail work)
      ≡ delivered result trail work (answer_reading limits c (reading_of (on_sheet same r pr t)))
  others r pr l bs b t h =
      ap (on_outcome same r pr) (lent_outcome l bs t h)
      ∙ sym (outcome_on limits c bs b h.good_length t (holds_read bs t h) result trail work (are_lent_lem result trail work l) same r pr
      (λ x y k. k))

  pub others_alike : (r pr : ℕ → ℕ) (bs : List ℕ) → AreBytes bs → (t : Sheet) → TreeIn bs t → (bs' : List ℕ) → AreBytes bs' → (t' : Sheet)
      → TreeIn bs' t' → on_sheet same r pr t ≡ on_sheet same r pr t'
      → on_outcome same r pr (outcome limits c bs result trail work) ≡ on_outcome same r pr (outcome limits c bs' result trail work)
  others_alike r pr bs b t h bs' b' t' h' e =
      either (are_lent result trail work)
      (λ l. others r pr l bs b t h ∙ ap (λ s. delivered result trail work (answer_reading limits c (reading_of s))) e
      ∙ sym (others r pr l bs' b' t' h'))
      (λ l. ap (on_outcome same r pr) (short_outcome l bs t h ∙ sym (short_outcome l bs' t' h')))
