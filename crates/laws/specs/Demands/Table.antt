-- What is promised of a whole call (SPECIFICATION 3.1 to 3.6, 4.1 to 4.6, 4.20): the number, the four values, and what stands
-- in the three buffers at exit, row by row: 13. The rows exclude each other, so that each is given exactly where its condition
-- holds.
use Rattle.std.specs.Prelude.{ℕ, ◌≤◌, ◌-◌, ◌*◌, ◌%◌, ◌≡◌, ◌⊎◌}
use Rattle.std.specs.Prelude.{List, [], ◌∷◌, map, true, false, length, take, drop, replicate}
use Rattle.grammar.specs.Lists.{each, total}
use Rattle.grammar.specs.Tree.{Rule, Sheet}
use Rattle.grammar.specs.Words.{words, bytes}
use Rattle.grammar.specs.Encode.{encode}
use Rattle.grammar.specs.Ids.{is_distinct, is_below}
use Rattle.grammar.specs.Parse.{got, bad}
use Rattle.grammar.specs.Form.{Form, newest}
use Rattle.grammar.specs.Reading.{is_trailer, rules_of_in, counters_of, sheet_of}
use Rattle.grammar.specs.Corners.{Corners}
use Rattle.reference.specs.Substitute.{Limits}
use Rattle.reference.specs.Run.{Stage, ended, stopped, eliminate_mutual_left_recursion, sheet_after, Outcome}
use Rattle.grammar.specs.Numbers.{least_bytes, most_bytes, result_bytes, trail_bytes, work_bytes}

-- What refusal 1 excludes (SPECIFICATION 4.1).
pub record GoodLength (bs : List ℕ) : Type 0 where
  pub least : least_bytes ≤ length bs
  pub most : length bs ≤ most_bytes
  pub whole : length bs % 4 ≡ 0

-- What refusal 2 excludes (SPECIFICATION 4.2).
pub record Lent (result trail work : List ℕ) : Type 0 where
  pub for_result : result_bytes ≤ length result
  pub for_trail : trail_bytes ≤ length trail
  pub for_work : work_bytes ≤ length work

-- The words of a sheet of a form fail a test of the reader, the first in this order: the trailer; records and preserved ids; no two
-- ids of a sort and no two names are equal; all ids are below their counters.
pub data FailsIn (f : Form) (ws : List ℕ) : (number : ℕ) → Type 0 where
  trailer : is_trailer ws ≡ false → FailsIn f ws 3
  records : is_trailer ws ≡ true → rules_of_in f ws ≡ bad → FailsIn f ws 4
  equal_ids : is_trailer ws ≡ true → {rules : List Rule} {next : ℕ} → rules_of_in f ws ≡ got rules next → is_distinct rules ≡ false
      → FailsIn f ws 5
  high_ids : is_trailer ws ≡ true → {rules : List Rule} {next : ℕ} → rules_of_in f ws ≡ got rules next → is_distinct rules ≡ true
      → is_below (counters_of ws) rules ≡ false → FailsIn f ws 6

-- They pass all of them, and are a sheet.
pub record PassesIn (f : Form) (ws : List ℕ) (s : Sheet) : Type 0 where
  pub trailer : is_trailer ws ≡ true
  pub rules : List Rule
  pub next : ℕ
  pub records : rules_of_in f ws ≡ got rules next
  pub distinct_ids : is_distinct rules ≡ true
  pub low_ids : is_below (counters_of ws) rules ≡ true
  pub is_sheet : sheet_of ws rules ≡ s

-- In the newest form.
abbrev pub Fails : List ℕ → (number : ℕ) → Type 0
Fails = FailsIn newest

abbrev pub Passes : List ℕ → Sheet → Type 0
Passes = PassesIn newest

-- What stands in a buffer: zeros alone; or words and zeros behind them.
abbrev pub zeros : List ℕ → List ℕ
zeros before = replicate (length before) 0

pub record Holds (ws before after : List ℕ) : Type 0 where
  pub front : take (4 * length ws) after ≡ bytes ws
  pub behind : drop (4 * length ws) after ≡ replicate (length before - 4 * length ws) 0
  pub same_length : length after ≡ length before

-- The words of a run's trail: the entries of its stages in order, 4 words each.
abbrev pub trail_words : List Stage → List ℕ
trail_words = each λ t. each (λ e. e.kind ∷ e.id ∷ e.reason ∷ e.owner ∷ []) t.after.entries

module _ (result trail work : List ℕ) where
  -- The outcome of a refusal, with what stands in the buffers.
  abbrev pub refused_with : ℕ → Outcome
  refused_with n =
      record { number = n; plans = 0; steps = 0; result_length = 0; trail_length = 0; result = result; trail = trail; work = work }

  -- The outcome of a run that ended.
  pub record Delivered (s : Sheet) (stages : List Stage) (o : Outcome) : Type 0 where
    pub number : o.number ≡ 0
    pub plans : o.plans ≡ length stages
    pub steps : o.steps ≡ total (map (λ t. t.plan.steps) stages)
    pub result_length : o.result_length ≡ 4 * length (encode (sheet_after s stages))
    pub trail_length : o.trail_length ≡ 16 * total (map (λ t. length t.after.entries) stages)
    pub result_holds : Holds (encode (sheet_after s stages)) result o.result
    pub trail_holds : Holds (trail_words stages) trail o.trail
    pub work_holds : o.work ≡ zeros work

module _ (limits : Limits) (corners : Corners) (bs result trail work : List ℕ) where
  abbrev pub cleared : ℕ → Outcome
  cleared = refused_with (zeros result) (zeros trail) (zeros work)

  pub data Row (o : Outcome) : Type 0 where
    bad_length : (GoodLength bs → ⊥) → o ≡ refused_with result trail work 1 → Row o
    not_lent : GoodLength bs → (Lent result trail work → ⊥) → o ≡ refused_with result trail work 2 → Row o
    not_read : GoodLength bs → Lent result trail work → {n : ℕ} → Fails (words bs) n → o ≡ cleared n → Row o
    not_ended : GoodLength bs → Lent result trail work → {s : Sheet} → Passes (words bs) s
        → {stages : List Stage} {n : ℕ} → eliminate_mutual_left_recursion limits corners s ≡ stopped stages n
        → (n ≡ 7) ⊎ ((n ≡ 8) ⊎ (n ≡ 9)) → o ≡ cleared n → Row o
    is_ended : GoodLength bs → Lent result trail work → {s : Sheet} → Passes (words bs) s
        → {stages : List Stage} → eliminate_mutual_left_recursion limits corners s ≡ ended stages
        → Delivered result trail work s stages o → Row o
