-- What the theorems suppose is met: for each set of suppositions one case, with the same words, so that no promise is empty.
use Rattle.std.specs.Prelude.{ℕ, ◌≤◌, ◌≡◌, true}
use mathlib.Core.List.{List, ◌∷◌, ◌++◌, Memᴰ}
use Rattle.std.proofs.Math.Option.{some}
use Rattle.grammar.specs.Lists.{AllOf, member}
use Rattle.grammar.specs.Form.{first_form}
use Rattle.grammar.specs.Convert.{conversion}
use Rattle.grammar.specs.Tree.{Block, Call, ElementHead, Element, RuleOf, Rule, Sheet, body_depth}
use Rattle.grammar.specs.Valid.{valid, fits}
use Rattle.grammar.specs.Numbers.{parser, once}
use Rattle.grammar.specs.Corners.{Corners, rust, textbook}
use Rattle.grammar.specs.Reading.{sheet, read}
use Rattle.grammar.specs.Laws.Words.{AreBytes}
use Rattle.reference.specs.Analysis.{Grammar, target}
use Rattle.reference.specs.Walks.{is_epsilon_only}
use Rattle.reference.specs.Substitute.{Limits}
use Rattle.reference.specs.Run.{Stage, answer, refusal, answer_to, outcome}
use Rattle.laws.specs.Demands.End.{NoEnd}
use Rattle.laws.specs.Demands.Shape.{NoOptionalSymbol}
use Rattle.laws.specs.Demands.Run.{rules_of}
use Rattle.laws.specs.Demands.Table.{Lent}
use Rattle.laws.specs.Demands.Marks.{on_sheet}
use Rattle.laws.specs.Demands.Sameness.{TreeIn, same, none, Renames}
use Rattle.laws.specs.Demands.Theorems.{Ends}

pub record Met : Type 0 where
  pub a_sheet : (s : Sheet) × (valid s ≡ true)
  -- A run, in either reading, of a sheet that fits, with a stage at least: it stands between what is in front of it and behind it,
  -- and the rule that it joins is left.
  pub a_run : (limits : Limits) × (c : Corners) × (s : Sheet) × (stages : List Stage) × (fits s ≡ true) × Ends limits c s stages
      × (t : Stage) × Memᴰ t stages × (q : Rule) × Memᴰ q (rules_of s stages) × (q.id ≡ t.plan.hub)
  pub rust_run : (limits : Limits) × (s : Sheet) × (stages : List Stage) × Ends limits rust s stages × (front : List Stage) × (t : Stage)
      × (middle : List Stage) × (rest : List Stage) × (front ++ (t ∷ (middle ++ rest)) ≡ stages)
  pub textbook_run : (limits : Limits) × (s : Sheet) × (stages : List Stage) × Ends limits textbook s stages × (front : List Stage)
      × (t : Stage) × (rest : List Stage) × (front ++ (t ∷ rest) ≡ stages)
  pub a_part : (limits : Limits) × (c : Corners) × (s : Sheet) × (stages : List Stage) × Ends limits c s stages × (front : List Stage)
      × (middle : List Stage) × (rest : List Stage) × (front ++ (middle ++ rest) ≡ stages)
  -- The hub's plain call at the front of an alternative.
  pub a_call : (d : ℕ) × (g : Grammar) × (hub : ℕ) × (front : List (Element (Block d))) × (h : ElementHead) × (k : Call)
      × AllOf (λ e. is_epsilon_only e ≡ true) front × (target g k.name ≡ some hub) × (h.quantifier ≡ once)
  -- Bytes: an answer; a refusal; another unit than a parser's, with buffers that are long enough; number 0; no optional symbol.
  pub an_answer : (limits : Limits) × (c : Corners) × (bs : List ℕ) × AreBytes bs × (plans : ℕ) × (steps : ℕ) × (result : List ℕ)
      × (trail : List ℕ) × (answer_to limits c bs ≡ answer plans steps result trail)
  pub a_refusal : (limits : Limits) × (c : Corners) × (bs : List ℕ) × AreBytes bs × (n : ℕ) × (answer_to limits c bs ≡ refusal n)
  pub other_unit : (limits : Limits) × (c : Corners) × (bs : List ℕ) × (result : List ℕ) × (trail : List ℕ) × (work : List ℕ)
      × Lent result trail work × AreBytes bs × (s : Sheet) × (read bs ≡ sheet s) × (s.kind ≡ parser → ⊥)
      × ((outcome limits c bs result trail work).number ≡ 0)
  pub plain_symbols : (bs : List ℕ) × AreBytes bs × (s : Sheet) × (read bs ≡ sheet s)
      × ((s : Sheet) → read bs ≡ sheet s → NoOptionalSymbol s.rules)
  -- An old sheet that is converted.
  pub a_conversion : (bs : List ℕ) × (result : List ℕ) × (work : List ℕ) × AreBytes bs × ((conversion first_form bs result work).number ≡ 0)
  -- Rules without end of input, and bytes of a sheet of such rules.
  pub no_end : (d : ℕ) × (rs : List (RuleOf (Block d))) × NoEnd d rs
  pub bytes_no_end : (bs : List ℕ) × AreBytes bs × (s : Sheet) × (read bs ≡ sheet s)
      × ((s : Sheet) → read bs ≡ sheet s → NoEnd body_depth s.rules)
  -- A rule in a cycle.
  pub a_member : (s : Sheet) × (valid s ≡ true) × (hub : Rule) × Memᴰ hub s.rules × (cycle : List ℕ)
      × (member hub.id cycle ≡ true)
  -- A renaming that changes every name; two sheets that differ in carried numbers, and two in precedences; a call that is refused behind 2.
  pub a_renaming : (bs : List ℕ) × AreBytes bs × (t : Sheet) × TreeIn bs t × (f : ℕ → ℕ) × Renames f t
  pub other_carried : (bs : List ℕ) × AreBytes bs × (t : Sheet) × TreeIn bs t × (bs' : List ℕ) × AreBytes bs' × (t' : Sheet) × TreeIn bs' t'
      × (on_sheet same none same t ≡ on_sheet same none same t')
  pub other_precedences : (bs : List ℕ) × AreBytes bs × (t : Sheet) × TreeIn bs t × (bs' : List ℕ) × AreBytes bs' × (t' : Sheet)
      × TreeIn bs' t' × (on_sheet same same none t ≡ on_sheet same same none t')
  pub a_refused_call : (limits : Limits) × (c : Corners) × (bs : List ℕ) × (result : List ℕ) × (trail : List ℕ) × (work : List ℕ)
      × AreBytes bs × (3 ≤ (outcome limits c bs result trail work).number)
