-- One step decided whole: a split, or the splice of a satellite, in place of an element of the alternative in hand.
use Rattle.std.specs.Prelude.{ℕ, suc, ◌*◌, ◌-◌, ◌≡◌, List, ◌∷◌, map, Bool, true, false, not, length, drop, Result, Ok, Err}
use Rattle.grammar.specs.Tree.{ElementHead, Call, call, Element, leaf, Block, RuleOf}
use Rattle.grammar.specs.Lists.{total, AllOf}
use Rattle.grammar.specs.Found.{RuleSpans}
use Rattle.reference.specs.Substitute.{Decided, decided, Planned, require, dangling_reference, remaining_actions_reference, split_optional}
use Rattle.reference.specs.Substitute.{splice_satellite}
use Rattle.planned.specs.Layout.{meaning}
use Rattle.planned.specs.List.{SameList, CallAt, Laid}
use Rattle.planned.specs.Moves.{Pushed, Grown}
use Rattle.planned.specs.declared.list.Sizes.{Sizes}
use Rattle.planned.specs.declared.list.Listed.{Listed}
use Rattle.steps.specs.Decide.{DeclinedBy, Around, Searchable, Unreferring, SmallSize}
use Rattle.steps.specs.declared.decide.Clause.{Clause}
use Rattle.steps.specs.declared.decide.Clause.TheVariants.{DanglingReference}
use Rattle.splices.specs.declared.splice.Size.{Size}
use Rattle.steps.specs.declared.step.Step.{Step}
use Rattle.steps.specs.declared.step.Step.TheVariants.{Split, Splice}

-- Whether a step splits the alternative.
abbrev pub splits : Step → Bool
splits Split = true
splits Splice = false

-- The rule that stands at a place: its name; and that it refers to nothing.
pub record RuleNamed (ws : List ℕ) (end d at name : ℕ) : Type 0 where
  pub is : (t : RuleOf (Block (suc d))) (q : ℕ) → RuleSpans ws end (suc d) at t q → name ≡ t.name

pub record RuleUnreferring (ws : List ℕ) (end d at : ℕ) : Type 0 where
  pub is : (t : RuleOf (Block (suc d))) (q : ℕ) → RuleSpans ws end (suc d) at t q → AllOf (Unreferring d) t.body

-- The element at an index is a call.
pub record CallIn {B : Type 0} (es : List (Element B)) (i : ℕ) : Type 0 where
  pub head : ElementHead
  pub called : Call
  pub rest : List (Element B)
  pub is : drop i es ≡ leaf head (call called) ∷ rest

-- What the definition puts in the place of an alternative whose corner is optional, or a satellite.
abbrev pub step_by : (d : ℕ) → Planned d → ℕ → RuleOf (Block (suc d)) → (optional : Bool) → Decided (List (Planned d))
step_by d p index t true =
    require dangling_reference (not (remaining_actions_reference d p.elements index t.name)) λ _. decided (split_optional p index)
step_by d p index t false = splice_satellite d p index t

-- It is put there, with so many alternatives, elements and options.
pub record GoesTo (d : ℕ) (m : Decided (List (Planned d))) (z : Size) : Type 0 where
  pub ps : List (Planned d)
  pub is : m ≡ decided ps
  pub alternatives : z.a ≡ length ps
  pub elements : z.e ≡ total (map (λ q. length q.elements) ps)
  pub options : z.o ≡ total (map (λ q. length q.options) ps)

abbrev pub DecisionOf : (d : ℕ) → Decided (List (Planned d)) → Result Size Clause → Type 0
DecisionOf d m (Err c) = DeclinedBy m c
DecisionOf d m (Ok z) = GoesTo d m z

-- What stands around the element is known: no reference there would dangle, and whether nothing there can collide.
pub record SafeAround (ws : List ℕ) (end d : ℕ) (es : List (Element (Block d))) (index name : ℕ) (after : List ℕ) (quiet : Bool)
    : Type 0 where
  pub searchable : Searchable ws end after quiet
  pub safe : remaining_actions_reference d es index name ≡ false
  pub around : Around ws d es index after quiet

-- Or a reference there would dangle.
abbrev pub PreparedTo : (ws : List ℕ) (end d : ℕ) (es : List (Element (Block d))) (index name : ℕ) (after : List ℕ) → Result Bool Clause
    → Type 0
PreparedTo ws end d es index name after (Ok quiet) = SafeAround ws end d es index name after quiet
PreparedTo ws end d es index name after (Err c) = (c ≡ DanglingReference) × (remaining_actions_reference d es index name ≡ true)

pub record PreparedFor (ws : List ℕ) (end d : ℕ) (es : List (Element (Block d))) (index name : ℕ) (before after : List ℕ)
    (r : Result Bool Clause) : Type 0 where
  pub list : SameList before after
  pub to : PreparedTo ws end d es index name after r

-- What a split pushes.
pub record SplitSize (h : Listed) (z : Size) : Type 0 where
  pub alternatives : z.a ≡ 2
  pub elements : z.e ≡ 2 * h.ne - 1
  pub options : z.o ≡ 2 * h.no

-- The step is decided; the list is as it was.
pub record DecidedAt (ws : List ℕ) (end d at : ℕ) (before after : List ℕ) (h : Listed) (index : ℕ) (optional : Bool)
    (r : Result Size Clause) : Type 0 where
  pub list : SameList before after
  pub is : (t : RuleOf (Block (suc d))) (q : ℕ) → RuleSpans ws end (suc d) at t q
      → DecisionOf d (step_by d (meaning ws end d before h) index t optional) r
  pub small : (z : Size) → r ≡ Ok z → SmallSize z
  pub split : optional ≡ true → (z : Size) → r ≡ Ok z → SplitSize h z

-- A step that goes: what it pushes, for the rule at a place.
pub record Goable (ws : List ℕ) (end d at : ℕ) (bs : List ℕ) (h : Listed) (index : ℕ) (optional : Bool) (z : Size) : Type 0 where
  pub goes : (t : RuleOf (Block (suc d))) (q : ℕ) → RuleSpans ws end (suc d) at t q
      → GoesTo d (step_by d (meaning ws end d bs h) index t optional) z
  pub split : optional ≡ true → SplitSize h z
  pub call : optional ≡ true → CallAt ws bs h index

-- It is pushed.
pub record PushedBy (ws : List ℕ) (end d at : ℕ) (before after : List ℕ) (l r : Sizes) (h : Listed) (index : ℕ) (optional : Bool) (z : Size)
    : Type 0 where
  pub is : (t : RuleOf (Block (suc d))) (q : ℕ) → RuleSpans ws end (suc d) at t q
      → (g : GoesTo d (step_by d (meaning ws end d before h) index t optional) z) → Pushed ws end d before after l r g.ps
  pub grown : Grown l r z.a z.e z.o
  pub laid : Laid after r
  pub long : length after ≡ length before
