-- All that is promised of the definition: each property of this folder, and of what it holds. The proof is in Proved.
use Rattle.std.specs.Prelude.{ℕ, suc, ◌≡◌, ◌↔◌, true}
use mathlib.Core.List.{List, [], ◌∷◌, ◌++◌, map, Memᴰ}
use Rattle.std.proofs.Math.Option.{some}
use Rattle.grammar.specs.Lists.{AllOf, member}
use Rattle.grammar.specs.Form.{Form, first_form}
use Rattle.grammar.specs.Convert.{conversion}
use Rattle.grammar.specs.Tree.{OptionDecl, ElementHead, Call, Element, leaf, call, Block, RuleOf, Sheet, body_depth, Alternative, Rule}
use Rattle.grammar.specs.Valid.{valid, fits}
use Rattle.grammar.specs.Reading.{sheet, read}
use Rattle.grammar.specs.Laws.Words.{AreBytes}
use Rattle.language.specs.Shape.{Shapes}
use Rattle.language.specs.Laws.Cover.{ButFor}
use Rattle.grammar.specs.Corners.{Corners, rust, textbook}
use Rattle.grammar.specs.Numbers.{parser, once}
use Rattle.reference.specs.Analysis.{Grammar, target, grammar_of}
use Rattle.reference.specs.Substitute.{Limits, Planned, settled, planned_corner, union_options}
use Rattle.reference.specs.Apply.{Entry, Origins}
use Rattle.reference.specs.Run.{inner_depth, Stage, ended, sheet_with, eliminate_mutual_left_recursion, sheet_after, entries_of, answer}
use Rattle.reference.specs.Run.{refusal}
use Rattle.reference.specs.Run.{answer_to, outcome}
use Rattle.reference.specs.Walks.{is_epsilon_only}
use Rattle.reference.specs.Plan.{choose_hub, satellite_is_inlinable, planned_hub_is_directly_rewritable, plan_cycle}
use Rattle.laws.specs.Before
use Rattle.laws.specs.Demands.Lists.{ListsTold}
use Rattle.laws.specs.Demands.Numbers.{NumbersBought}
use Rattle.laws.specs.Demands.Format.{FormatTold}
use Rattle.laws.specs.Demands.Derivation.{DerivesTold}
use Rattle.laws.specs.Demands.Strings.{StringsTold}
use Rattle.laws.specs.Demands.Counted.{ReadingsCounted}
use Rattle.laws.specs.Demands.Corners.{LeftCornersTold}
use Rattle.laws.specs.Demands.Names.{NamesFitted}
use Rattle.laws.specs.Demands.Analysis.{CyclesListed, EmptyDerivation, LeftCornersListed, TextbookCorners}
use Rattle.laws.specs.Demands.End.{AsBefore, EmptyIsEmpty, EndSkipped, NoEnd}
use Rattle.laws.specs.Demands.Shape.{LaterPastSymbols, NoCorner, NoLeftCorner, NoOptionalSymbol, OnlyPastSymbols}
use Rattle.laws.specs.Demands.Readings.{TreesTold, TurnsTold, JoinedTold, PlanTrees, PlanReadings}
use Rattle.laws.specs.Demands.Run.{SheetLeft, Bound, Demand3, EnoughTurns, PreservedStay, rules_of}
use Rattle.laws.specs.Demands.Inlinable.{Inlinable}
use Rattle.laws.specs.Demands.Step.{JoinedOptions, StartTold, StepTold}
use Rattle.laws.specs.Demands.Collisions.{CollisionsTold}
use Rattle.laws.specs.Demands.Declines.{CornersTold, DeclinesTold}
use Rattle.laws.specs.Demands.Rewritable.{Rewritable}
use Rattle.laws.specs.Demands.Substitution.{SlotsKept}
use Rattle.laws.specs.Demands.Trail.{OneOrigin, OriginsTold, RecordedSo, TrailTold}
use Rattle.laws.specs.Demands.Applied.{CopiesAlike, FreshIds, RemovesMost, RulesStay}
use Rattle.laws.specs.Demands.Facts.{FactsStay}
use Rattle.laws.specs.Demands.Answers.{Answered, ComesBack, ReadsBack}
use Rattle.laws.specs.Demands.Examples.{EmptyByMark, EndOfInputs, NoMoreOfRust, NullableHubReturns, MarksShown, NoOtherReadings}
use Rattle.laws.specs.Demands.Examples.{TwoReadings, TooLittle}
use Rattle.laws.specs.Demands.Hub.{HubTold}
use Rattle.laws.specs.Demands.Decision.{Decision}
use Rattle.laws.specs.Demands.Refusals.{HasRoom, RefusedSo}
use Rattle.laws.specs.Demands.Table.{Row}
use Rattle.laws.specs.Demands.Conversion.{CodecIn, ConvertRow, ConvertReads, ConvertApart, ConvertLength, SumConverted, LengthTells}
use Rattle.laws.specs.Demands.Conversion.{PrecedencesUnseen, CallsCopied}
use Rattle.laws.specs.Demands.Kept.{OwnResult, EveryCall}
use Rattle.laws.specs.Demands.Sameness.{TreeIn, same, none, Renames, Renamed, AlikeButCarried, AlikeButPrecedences}
use Rattle.laws.specs.Demands.Marks.{on_sheet}
use Rattle.laws.specs.Demands.WordSorts.{MarksTold}

-- A sheet that is not refused, and its run.
abbrev pub Ends : Limits → Corners → Sheet → List Stage → Type 0
Ends limits c s stages = (valid s ≡ true) × (eliminate_mutual_left_recursion limits c s ≡ ended stages)

-- The theorems. A sheet that the reader accepts is valid and fits (grammar, Laws/Codec), and so is what a plan leaves (11).
pub record Theorems : Type 0 where
  -- Words about lists that the others use.
  pub lists_told : ListsTold
  pub numbers_bought : NumbersBought
  -- The format, and what is good in a sheet.
  pub format_told : FormatTold
  -- Words and tree in every form; and the conversion of an old sheet: of every call its row, and what it means if it is on bytes.
  pub codec_in : (f : Form) → CodecIn f
  pub convert_row : (bs result work : List ℕ) → ConvertRow bs result work (conversion first_form bs result work)
  pub convert_reads : (bs result work : List ℕ) → AreBytes bs → (conversion first_form bs result work).number ≡ 0
      → ConvertReads bs result (conversion first_form bs result work)
  pub convert_apart : (bs bs' result result' work work' : List ℕ) → AreBytes bs → AreBytes bs'
      → ConvertApart bs bs' result result' work work'
  pub convert_length : (bs result work : List ℕ) → ConvertLength bs result work
  pub sum_converted : SumConverted
  pub length_tells : LengthTells
  -- What is derived, of every sheet that the reader accepts: the first wording agrees with a second. Strings of
  -- small grammars, how many derivations some have, and that precedences are not looked at.
  pub derives_told : (s : Sheet) → valid s ≡ true → DerivesTold inner_depth s.rules
  pub strings_told : StringsTold
  pub precedences_unseen : (f : ℕ → ℕ) (s : Sheet) → PrecedencesUnseen f s
  pub readings_counted : ReadingsCounted
  -- With a lower last name, 65,535 say, those sheets would be valid that are valid and have no name above it.
  pub names_fitted : NamesFitted
  -- 1 to 3, of every sheet that the reader accepts.
  pub empty_derivation : (s : Sheet) → valid s ≡ true → EmptyDerivation body_depth s.rules
  pub left_corners_listed : (c : Corners) (s : Sheet) → valid s ≡ true → LeftCornersListed c body_depth s.rules
  pub left_corners_told : (s : Sheet) → valid s ≡ true → LeftCornersTold inner_depth s.rules
  pub textbook_corners : (G : Shapes) → TextbookCorners G
  pub cycles_listed : (c : Corners) (s : Sheet) → valid s ≡ true → CyclesListed c body_depth s.rules
  -- End of input is looked past; without it only the empty string is empty, in every grammar. Some sheets with it.
  pub end_skipped : (G : Shapes) → EndSkipped G
  pub empty_is_empty : (d : ℕ) (rs : List (RuleOf (Block d))) → NoEnd d rs → EmptyIsEmpty d rs
  pub end_of_inputs : (c : Corners) → EndOfInputs c
  pub empty_by_mark : EmptyByMark
  -- Without it all is as it was before there was one.
  pub without_end : (d : ℕ) (rs : List (RuleOf (Block d))) → NoEnd d rs → AsBefore d rs
  pub outcome_without_end : (limits : Limits) (c : Corners) (bs result trail work : List ℕ) → AreBytes bs
      → ((s : Sheet) → read bs ≡ sheet s → NoEnd body_depth s.rules)
      → outcome limits c bs result trail work ≡ Before.outcome limits c bs result trail work
  -- Of every sheet and all stages.
  pub sheet_left : (s : Sheet) → SheetLeft s
  -- 4 to 7, of every sheet that is not refused, with left corners and cycles by either reading.
  pub demand3 : (limits : Limits) (c : Corners) (s : Sheet) (stages : List Stage) → Ends limits c s stages
      → Demand3 s limits c (NoCorner c) stages
  -- 4b: what a tree is, in every grammar; what a turn does to each tree, and what a plan does; and that what demand 3 pairs over
  -- one stage of a run is what the stage's plan pairs.
  pub trees_told : (G : Shapes) → TreesTold G
  pub turns_told : (H : ℕ) (G X : Shapes) (o : ButFor H G X) → TurnsTold H G X o
  pub joined_told : (before : List Rule) (t : Stage) (after : List Rule) (p : PlanTrees before t after) → JoinedTold p.trees
  pub plan_readings : (limits : Limits) (c : Corners) (s : Sheet) (stages : List Stage) (e : Ends limits c s stages)
      → (front : List Stage) (t : Stage) (rest : List Stage) (w : front ++ (t ∷ rest) ≡ stages)
      → PlanReadings (rules_of s front) t (rules_of s (front ++ (t ∷ [])))
      ((demand3 limits c s stages e).readings_between front (t ∷ []) rest w)
  -- The readings of one string, told one by one; what cannot be said instead, and what would be too little.
  pub two_readings : (c : Corners) → TwoReadings c
  pub no_other_readings : NoOtherReadings
  pub too_little : TooLittle
  -- For the textbook reading whole (SPECIFICATION 14.5); for the Rust's what is left (14.4), and that no more can be had (14.2).
  pub demand3_textbook : (limits : Limits) (s : Sheet) (stages : List Stage) → Ends limits textbook s stages
      → Demand3 s limits textbook NoLeftCorner stages
  pub demand3_rust : (limits : Limits) (s : Sheet) (stages : List Stage) → Ends limits rust s stages
      → Demand3 s limits rust OnlyPastSymbols stages
  pub later_rust : (limits : Limits) (s : Sheet) (stages : List Stage) → Ends limits rust s stages
      → (front : List Stage) (t : Stage) (middle rest : List Stage) → front ++ (t ∷ (middle ++ rest)) ≡ stages
      → LaterPastSymbols t (rules_of s (front ++ (t ∷ middle)))
  pub no_more_of_rust : NoMoreOfRust
  -- Where no symbol has quantifier 1 to 4, both readings give the same outcome.
  pub same_outcome : (limits : Limits) (bs result trail work : List ℕ) → AreBytes bs
      → ((s : Sheet) → read bs ≡ sheet s → NoOptionalSymbol s.rules)
      → outcome limits rust bs result trail work ≡ outcome limits textbook bs result trail work
  -- Why 7 asks that the rule joined cannot be empty.
  pub nullable_hub_returns : (c : Corners) → NullableHubReturns c
  -- 8, of every sheet that is not refused, and of every plan.
  pub bound : (limits : Limits) (c : Corners) (s : Sheet) (stages : List Stage) → Ends limits c s stages → Bound s limits c stages
  pub enough_turns : (limits : Limits) (c : Corners) (s : Sheet) → valid s ≡ true → EnoughTurns s limits c
  pub decisions : (limits : Limits) (c : Corners) (d : ℕ) (rs : List (RuleOf (Block (suc d)))) (g : Grammar) (preserved cycle : List ℕ)
      → Decision limits c d rs g preserved cycle (plan_cycle limits c g d rs preserved cycle)
  pub hub_told : (s : Sheet) → valid s ≡ true → (cycle : List ℕ)
      → HubTold (grammar_of body_depth s.rules) cycle inner_depth s.rules s.preserved
      (choose_hub (grammar_of body_depth s.rules) cycle inner_depth s.rules s.preserved)
  pub preserved_stay : (limits : Limits) (c : Corners) (s : Sheet) (stages : List Stage) → Ends limits c s stages → PreservedStay s stages
  pub inlinable_told : (d : ℕ) (r : RuleOf (Block (suc d))) → (satellite_is_inlinable d r ≡ true) ↔ Inlinable d r
  -- The planned list at its start; a step replaces the first alternative with work left; and when options are joined.
  pub start_told : (as' : List Alternative) → StartTold as'
  pub step_told : (d : ℕ) (rs : List (RuleOf (Block (suc d)))) (cycle : List ℕ) (hub : ℕ) (ps : List (Planned d))
      → StepTold d rs (grammar_of (suc d) rs) cycle hub ps
  pub options_joined : (os more ws : List OptionDecl) → (union_options os more ≡ some ws) ↔ JoinedOptions os more ws
  -- When labels, bindings, references and options are in the way of a splice; what an alternative needs; when a step declines.
  pub collisions_told : (d : ℕ) → CollisionsTold d
  pub corners_told : (d : ℕ) (g : Grammar) (cycle : List ℕ) (hub : ℕ) (es : List (Element (Block d))) → CornersTold g cycle hub es
  pub declines_told : (s : Sheet) → valid s ≡ true → (cycle : List ℕ) (hub : ℕ) (ps : List (Planned inner_depth))
      → DeclinesTold (grammar_of body_depth s.rules) cycle hub inner_depth s.rules ps
  -- The rewriting test asks for the shape of 1.7 before the plan, and for what 9.2 adds.
  pub rewritable_told : (c : Corners) (s : Sheet) → valid s ≡ true → (cycle : List ℕ) (hub : Rule) → Memᴰ hub s.rules
      → member hub.id cycle ≡ true → (ps : List (Planned inner_depth))
      → (planned_hub_is_directly_rewritable c (grammar_of body_depth s.rules) cycle hub.id inner_depth ps ≡ true)
      ↔ Rewritable c s.rules cycle hub ps
  -- The hub's call of quantifier 0 is settled, and never spliced (SPECIFICATION 8.2).
  pub hub_settled : (d : ℕ) (g : Grammar) (cycle : List ℕ) (hub : ℕ) (front rest : List (Element (Block d))) (h : ElementHead) (k : Call)
      → AllOf (λ e. is_epsilon_only e ≡ true) front → target g k.name ≡ some hub → h.quantifier ≡ once
      → planned_corner g cycle hub (front ++ (leaf h (call k) ∷ rest)) ≡ settled
  -- 9, of every sheet that is not refused, and of every recording; then what the trail of each plan is.
  pub origins_told : (limits : Limits) (c : Corners) (s : Sheet) (stages : List Stage) → fits s ≡ true → Ends limits c s stages
      → OriginsTold (entries_of stages)
  pub one_origin : (limits : Limits) (c : Corners) (s : Sheet) (stages : List Stage) → fits s ≡ true → Ends limits c s stages
      → OneOrigin (entries_of stages)
  pub recorded_so : (index : List Origins) (e : Entry) → RecordedSo index e
  pub trail_told : (limits : Limits) (c : Corners) (s : Sheet) (stages : List Stage) → Ends limits c s stages → (t : Stage)
      → Memᴰ t stages → TrailTold t
  pub slots_kept : (p : Planned inner_depth) (i : ℕ) → SlotsKept p i
  -- Of every plan: copies differ in ids alone, and what can be removed is. Of every run: ids in order, calls copied with their
  -- precedences, and rules that stay.
  pub copies_alike : (limits : Limits) (c : Corners) (s : Sheet) (stages : List Stage) → Ends limits c s stages
      → (t : Stage) → Memᴰ t stages → CopiesAlike t
  pub fresh_ids : (limits : Limits) (c : Corners) (s : Sheet) (stages : List Stage) → fits s ≡ true → Ends limits c s stages
      → FreshIds s stages
  pub calls_copied : (limits : Limits) (c : Corners) (s : Sheet) (stages : List Stage) → Ends limits c s stages → CallsCopied s stages
  pub rules_stay : (limits : Limits) (c : Corners) (s : Sheet) (stages : List Stage) → Ends limits c s stages → RulesStay s stages
  pub removes_most : (limits : Limits) (c : Corners) (s : Sheet) (stages : List Stage) → Ends limits c s stages
      → (t : Stage) → Memᴰ t stages → RemovesMost s.preserved t
  -- Of each plan, and of several in a row: what is found out about the grammar stays, the rules joined and removed aside.
  pub facts_stay : (limits : Limits) (c : Corners) (s : Sheet) (stages : List Stage) → Ends limits c s stages
      → (front middle rest : List Stage) → front ++ (middle ++ rest) ≡ stages
      → FactsStay body_depth (rules_of s front) (map (λ t. t.plan.hub) middle) (rules_of s (front ++ middle))
  -- 10, of all bytes that hold another unit than a parser's.
  pub comes_back : (limits : Limits) (c : Corners) (bs : List ℕ) → AreBytes bs → (s : Sheet) → read bs ≡ sheet s → (s.kind ≡ parser → ⊥)
      → ComesBack limits c bs
  -- 11, of the result and of every grammar on the way.
  pub result_reads_back : (limits : Limits) (c : Corners) (s : Sheet) (stages : List Stage) → fits s ≡ true → Ends limits c s stages
      → ReadsBack (sheet_after s stages)
  pub stage_reads_back : (limits : Limits) (c : Corners) (s : Sheet) (stages : List Stage) → fits s ≡ true → Ends limits c s stages
      → (t : Stage) → Memᴰ t stages
      → ReadsBack (sheet_with s.kind s.preserved t.after)
  -- The same from the bytes of a sheet: every answer that is no refusal.
  pub answered : (limits : Limits) (c : Corners) (bs : List ℕ) → AreBytes bs → (plans steps : ℕ) (result trail : List ℕ)
      → answer_to limits c bs ≡ answer plans steps result trail → Answered limits c bs plans steps result trail
  -- 12, of every sheet that is not refused, and of every refusal from bytes.
  pub stages_have_room : (limits : Limits) (c : Corners) (s : Sheet) (stages : List Stage) → Ends limits c s stages
      → (front : List Stage) (t : Stage) (rest : List Stage) → front ++ (t ∷ rest) ≡ stages → HasRoom s front t
  pub refused_so : (limits : Limits) (c : Corners) (bs : List ℕ) → AreBytes bs → (n : ℕ) → answer_to limits c bs ≡ refusal n
      → RefusedSo limits c bs n
  -- 13, of every call.
  pub table : (limits : Limits) (c : Corners) (bs result trail work : List ℕ)
      → Row limits c bs result trail work (outcome limits c bs result trail work)
  -- 14, of every call on bytes: the row, and what it means of the bytes handed in and handed back.
  pub every_call : (limits : Limits) (c : Corners) (bs result trail work : List ℕ) → AreBytes bs
      → EveryCall limits c bs result trail work (outcome limits c bs result trail work)
  -- 15 to 17, runs compared, with the same limits and reading: on the pass's own result; and on two sheets that pass 1, 3 and 4.
  pub own_result : (limits : Limits) (c : Corners) (bs result trail work : List ℕ) → AreBytes bs
      → (outcome limits c bs result trail work).number ≡ 0 → OwnResult limits c (outcome limits c bs result trail work)
  pub renamed : (limits : Limits) (c : Corners) (result trail work bs : List ℕ) → AreBytes bs → (t : Sheet) → TreeIn bs t
      → (f : ℕ → ℕ) → Renames f t → Renamed limits c result trail work bs t f
  pub carried_apart : (limits : Limits) (c : Corners) (result trail work bs : List ℕ) → AreBytes bs → (t : Sheet) → TreeIn bs t
      → (bs' : List ℕ) → AreBytes bs' → (t' : Sheet) → TreeIn bs' t' → on_sheet same none same t ≡ on_sheet same none same t'
      → AlikeButCarried limits c result trail work bs bs'
  pub precedences_apart : (limits : Limits) (c : Corners) (result trail work bs : List ℕ) → AreBytes bs → (t : Sheet) → TreeIn bs t
      → (bs' : List ℕ) → AreBytes bs' → (t' : Sheet) → TreeIn bs' t' → on_sheet same same none t ≡ on_sheet same same none t'
      → AlikeButPrecedences limits c result trail work bs bs'
  -- What other names, carried numbers and precedences are: of every sheet by the sorts of its words, and of one sheet by its words.
  pub marks_told : (s : Sheet) → MarksTold s
  pub marks_shown : MarksShown
