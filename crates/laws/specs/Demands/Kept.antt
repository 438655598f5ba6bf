-- What a call means, of the bytes handed in and the outcome handed back: 14. Number 0 buys demand 3 (SPECIFICATION 1.5 to 1.8) of
-- the sheet that stands in the one and the sheet that stands in the other.
use Rattle.std.specs.Prelude.{ℕ, ◌≤◌, ◌≡◌, List, ◌∷◌, ◌++◌, length, take}
use Rattle.grammar.specs.Lists.{each}
use Rattle.grammar.specs.Tree.{Rule, Sheet}
use Rattle.grammar.specs.Words.{words}
use Rattle.grammar.specs.Reading.{sheet, read}
use Rattle.grammar.specs.Corners.{Corners, rust, textbook}
use Rattle.grammar.specs.Numbers.{parser}
use Rattle.reference.specs.Substitute.{Limits}
use Rattle.reference.specs.Run.{Stage, ended, eliminate_mutual_left_recursion, sheet_after, steps_of, encode_entry, entries_of, Outcome}
use Rattle.reference.specs.Run.{filled}
use Rattle.reference.specs.Run.{outcome}
use Rattle.laws.specs.Demands.Shape.{Closed, Elements, LaterPastSymbols, NoLeftCorner, NoOptionalSymbol, OnlyPastSymbols}
use Rattle.laws.specs.Demands.Shape.{SameReadings, SameStrings}
use Rattle.laws.specs.Demands.Run.{Bound, Demand3, PreservedStay, rules_of}
use Rattle.laws.specs.Demands.Trail.{OneOrigin, OriginsTold}
use Rattle.laws.specs.Demands.Refusals.{RefusedSo}
use Rattle.laws.specs.Demands.Table.{Lent, Row, zeros}

-- The outcome that has the bytes handed in, no plan, no step and no entry.
abbrev pub same_bytes : (bs result trail work : List ℕ) → Outcome
same_bytes bs result trail work =
    record {
      number = 0;
      plans = 0;
      steps = 0;
      result_length = length bs;
      trail_length = 0;
      result = filled bs result;
      trail = zeros trail;
      work = zeros work;
    }

module _ (limits : Limits) where
  -- The pass has nothing to do on what it handed back: no plan, no step, no entry, the same bytes (SPECIFICATION 1.15).
  abbrev pub OwnResult : Corners → Outcome → Type 0
  OwnResult c o =
      (result trail work : List ℕ) → Lent result trail work
      → outcome limits c (take o.result_length o.result) result trail work
      ≡ same_bytes (take o.result_length o.result) result trail work

  -- The sheet handed in and the sheet handed back, the run between them with all that is promised of one, and the four values
  -- and the trail as that run's. What is a left corner, and what is said of the second sort of alternative, is handed in.
  pub record Kept (c : Corners) (Without : List Rule → List ℕ → Elements → Type 0) (bs : List ℕ) (o : Outcome) : Type 0 where
    pub before : Sheet
    pub reads : read bs ≡ sheet before
    pub after : Sheet
    pub reads_back : read (take o.result_length o.result) ≡ sheet after
    pub stages : List Stage
    pub run : eliminate_mutual_left_recursion limits c before ≡ ended stages
    pub is_after : sheet_after before stages ≡ after
    pub plans : length stages ≡ o.plans
    pub steps : steps_of stages ≡ o.steps
    pub trail : words (take o.trail_length o.trail) ≡ each encode_entry (entries_of stages)
    pub strings : SameStrings before.rules after.rules
    pub readings : SameReadings before.rules after.rules
    pub closed : Closed before.rules after.rules
    pub demand3 : Demand3 before limits c Without stages
    pub bound : Bound before limits c stages
    pub stay : PreservedStay before stages
    pub origins : OriginsTold (entries_of stages)
    pub one_origin : OneOrigin (entries_of stages)
    pub again : OwnResult c o

  -- The same of the Rust's run, with what is left of later cycles by the textbook's left corners (SPECIFICATION 14.8).
  pub record KeptRust (bs : List ℕ) (o : Outcome) : Type 0 where
    pub kept : Kept rust OnlyPastSymbols bs o
    pub later_cycles : (front : List Stage) (t : Stage) (middle rest : List Stage) → front ++ (t ∷ (middle ++ rest)) ≡ kept.stages
        → LaterPastSymbols t (rules_of kept.before (front ++ (t ∷ middle)))

  -- What number 0 buys by the Rust's reading; where no symbol has quantifier 1 to 4, the textbook's run too (SPECIFICATION 14.6).
  pub record BoughtRust (bs : List ℕ) (o : Outcome) : Type 0 where
    pub everywhere : o.number ≡ 0 → KeptRust bs o
    pub plain_symbols : o.number ≡ 0 → ((s : Sheet) → read bs ≡ sheet s → NoOptionalSymbol s.rules) → Kept textbook NoLeftCorner bs o

  -- By the textbook's.
  pub record BoughtTextbook (bs : List ℕ) (o : Outcome) : Type 0 where
    pub everywhere : o.number ≡ 0 → Kept textbook NoLeftCorner bs o

  abbrev pub Bought : Corners → List ℕ → Outcome → Type 0
  Bought rust = BoughtRust
  Bought textbook = BoughtTextbook

  -- A whole call: its row of the table, what its number buys, why it is refused by 3 to 9 (4.3 to 4.9), and that a lexer or combined
  -- unit comes back (SPECIFICATION 5.1).
  pub record EveryCall (c : Corners) (bs result trail work : List ℕ) (o : Outcome) : Type 0 where
    pub row : Row limits c bs result trail work o
    pub bought : Bought c bs o
    pub refused_so : 3 ≤ o.number → RefusedSo limits c bs o.number
    pub other_units : Lent result trail work → (s : Sheet) → read bs ≡ sheet s → (s.kind ≡ parser → ⊥)
        → o ≡ same_bytes bs result trail work
