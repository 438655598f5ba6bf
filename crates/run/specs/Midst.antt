-- A run on its way: the sheet that the plans so far left stands in the result, what was recorded in the trail, and the facts of its
-- rules are known.
use Rattle.std.specs.Prelude.{ℕ, ◌*◌, ◌≡◌, List, true, length}
use Rattle.grammar.specs.Numbers.{parser}
use Rattle.grammar.specs.Tree.{Sheet}
use Rattle.grammar.specs.Lists.{each}
use Rattle.grammar.specs.Valid.{valid, fits}
use Rattle.grammar.specs.Corners.{Corners}
use Rattle.reference.specs.Numbers.{entry_words}
use Rattle.reference.specs.Substitute as R
use Rattle.reference.specs.Run.{Stage, steps_of, encode_entry, entries_of}
use Rattle.laws.specs.Running.Midway.{Midway}
use Rattle.writing.specs.Taken.{counters_of}
use Rattle.writing.specs.declared.counters.Counters.{Counters}
use Rattle.records.specs.Rules.{RowsOf}
use Rattle.records.specs.declared.rules.Rules.{Rules}
use Rattle.reach.specs.Rows.{RowOf}
use Rattle.analysis.specs.Facts.{FactsOf}
use Rattle.plan.specs.declared.ground.Ground.{Ground}
use Rattle.apply.specs.declared.apply.Applied.{Applied}
use Rattle.apply.specs.Held.{Held}
use Rattle.run.specs.declared.state.State.{State}
use Rattle.run.specs.Ended.{Front}

-- Before the first plan, with what is found out about the rules.
abbrev pub at_start : (at : Applied) (ground : Ground) → State
at_start at ground = record { at = at; ground = ground; plans = 0; steps = 0 }

-- The sheet of a parser's unit in the result, its rules and its counters.
pub record Begun (result : List ℕ) (end to : ℕ) (rules : Rules) (counters : Counters) : Type 0 where
  pub sheet : Sheet
  pub is_valid : valid sheet ≡ true
  pub is_fitting : fits sheet ≡ true
  pub is_parser : sheet.kind ≡ parser
  pub held : Held result sheet end to
  pub rows : RowsOf sheet.rules rules
  pub counters_are : counters_of counters ≡ sheet.counters

module _ (limits : R.Limits) (reading : Corners) (s : Sheet) (result trail : List ℕ) (calls corners : List (List ℕ)) (st : State) where
  pub record Midst : Type 0 where
    pub stages : List Stage
    pub now : Sheet
    pub midway : Midway limits reading s stages now
    pub held : Held result now st.at.end st.at.to
    pub rows : RowsOf now.rules st.at.rules
    pub counters : counters_of st.at.counters ≡ now.counters
    pub facts : FactsOf reading now.rules st.at.rules.ids calls corners st.ground.marks
    pub keeps : RowOf st.at.rules.ids st.at.rules.n s.preserved st.ground.kept
    pub told : Front trail (each encode_entry (entries_of stages)) (entry_words * st.at.entries)
    pub entries : st.at.entries ≡ length (entries_of stages)
    pub plans : st.plans ≡ length stages
    pub steps : st.steps ≡ steps_of stages

-- So it is for some sheet handed in.
pub record Going (limits : R.Limits) (reading : Corners) (result trail : List ℕ) (calls corners : List (List ℕ)) (st : State) : Type 0 where
  pub sheet : Sheet
  pub midst : Midst limits reading sheet result trail calls corners st
