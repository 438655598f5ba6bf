-- What is promised of refusals 7 to 9 (SPECIFICATION 4.7 to 4.9, 4.21, 4.22): each is given for its reason alone, at the first
-- cycle that is not declined, behind stages that kept every limit: 12.
use Rattle.std.specs.Prelude.{ℕ, ◌≤◌, ◌<◌, ◌≡◌, ◌⊎◌, List, [], ◌∷◌, ◌++◌, length}
use Rattle.grammar.specs.Lists.{AllOf, AnyOf}
use Rattle.grammar.specs.Tree.{Sheet, body_depth}
use Rattle.grammar.specs.Encode.{encode, encode_counters}
use Rattle.grammar.specs.Reading.{refused, sheet, read}
use Rattle.grammar.specs.Corners.{Corners}
use Rattle.reference.specs.Analysis.{grammar_of}
use Rattle.reference.specs.Substitute.{Limits, Decided, overfull}
use Rattle.reference.specs.Plan.{CyclePlan}
use Rattle.reference.specs.Run.{inner_depth, Stage, stopped, eliminate_mutual_left_recursion, sheet_after, entries_of}
use Rattle.grammar.specs.Numbers.{most_words, parser}
use Rattle.reference.specs.Numbers.{most_entries, counter_end}
use Rattle.laws.specs.Demands.Shape.{NextCycle, Joins}
use Rattle.laws.specs.Demands.Decision.{Decision}

-- What is decided on a cycle of a sheet's rules, and why.
abbrev pub DecisionOf : Limits → Corners → Sheet → List ℕ → Decided (CyclePlan inner_depth) → Type 0
DecisionOf limits corners s = Decision limits corners inner_depth s.rules (grammar_of body_depth s.rules) s.preserved

module _ (s : Sheet) where
  -- The sheet that stages leave, and their trail.
  abbrev pub words_left : List Stage → ℕ
  words_left ts = length (encode (sheet_after s ts))

  abbrev pub entries_left : List Stage → ℕ
  entries_left ts = length (entries_of ts)

  -- A stage behind others has room: every counter is a word, and neither sheet nor trail is too long.
  pub record HasRoom (front : List Stage) (t : Stage) : Type 0 where
    pub counters : AllOf (λ n. n < counter_end) (encode_counters t.after.counters)
    pub words : words_left (front ++ (t ∷ [])) ≤ most_words
    pub entries : entries_left (front ++ (t ∷ [])) ≤ most_entries

  module _ (limits : Limits) (corners : Corners) where
    -- The stages of a run, ended or stopped.
    pub record Staged (stages : List Stage) : Type 0 where
      pub joins : (front : List Stage) (t : Stage) (rest : List Stage) → front ++ (t ∷ rest) ≡ stages
          → Joins limits corners (sheet_after s front) t
      pub room : (front : List Stage) (t : Stage) (rest : List Stage) → front ++ (t ∷ rest) ≡ stages → HasRoom front t

    -- Why a run stops behind its stages, by the refusal's number. 7: on the first cycle that is not declined, a step leads
    -- beyond the limits. 8: one stage more would take a counter past its end. 9: it would leave all counters good, and a sheet
    -- or a trail too long.
    pub data Stops (stages : List Stage) : (number : ℕ) → Type 0 where
      too_large : {cycle : List ℕ} → NextCycle limits corners (sheet_after s stages) cycle
          → DecisionOf limits corners (sheet_after s stages) cycle overfull
          → Stops stages 7
      no_id_left : {t : Stage} → Joins limits corners (sheet_after s stages) t
          → AnyOf (λ n. counter_end ≤ n) (encode_counters t.after.counters) → Stops stages 8
      too_long : {t : Stage} → Joins limits corners (sheet_after s stages) t
          → AllOf (λ n. n < counter_end) (encode_counters t.after.counters)
          → (most_words < words_left (stages ++ (t ∷ []))) ⊎ (most_entries < entries_left (stages ++ (t ∷ []))) → Stops stages 9

-- A refusal from bytes: the reader's, or the run of a parser's sheet was stopped.
pub data RefusedSo (limits : Limits) (corners : Corners) (bs : List ℕ) (number : ℕ) : Type 0 where
  by_reader : read bs ≡ refused number → RefusedSo limits corners bs number
  by_run : {s : Sheet} {stages : List Stage} → read bs ≡ sheet s → s.kind ≡ parser
      → eliminate_mutual_left_recursion limits corners s ≡ stopped stages number
      → Staged s limits corners stages → Stops s limits corners stages number → RefusedSo limits corners bs number
