-- A substitution on its way: what the work area and the sheet hold of the list, and what that is of the definition's.
use Rattle.std.specs.Prelude.{ℕ, ◌+◌, ◌≤◌, ◌<◌, ◌^◌, ◌≡◌, List, ◌∷◌, ◌++◌, Bool, true, false, ◌&&◌, length, leb}
use Rattle.grammar.specs.Tree.{inner_depth}
use Rattle.grammar.specs.Found.{FoundAlternatives}
use Rattle.reference.specs.Numbers.{most_alternatives, most_elements, most_options}
use Rattle.reference.specs.Substitute.{Planned}
use Rattle.reference.specs.Substitute as R
use Rattle.reference.specs.Plan.{as_they_are}
use Rattle.planned.specs.Layout.{meaning, settled, stack}
use Rattle.planned.specs.List.{alternatives_in, elements_in, options_in, Laid, HasTop, Located, Movable, InHand, ListedIn, AllIn}
use Rattle.planned.specs.Moves.{IsDrained, IsEmpty}
use Rattle.planned.specs.Laws.Counts.{elements_all, options_all}
use Rattle.planned.specs.declared.list.Listed.{Listed}
use Rattle.splices.specs.declared.splice.Size.{Size}
use Rattle.turns.specs.Turns.{Task, IsSettled, Substituting}
use Rattle.steps.specs.Decide.{SmallSize}
use Rattle.turns.specs.declared.limits.Limits.{Limits}
use Rattle.turns.specs.declared.state.State.{State}
use Rattle.turns.specs.declared.taken.Taken.{Taken}
use Rattle.turns.specs.declared.taken.Alternative.{Alternative}
use Rattle.turns.specs.declared.taken.Alternative.TheVariants.{Hand, Stack}

-- The limits as the definition has them.
abbrev pub limits_of : Limits → R.Limits
limits_of x = record { budget_floor = x.floor; alternatives = x.alternatives; elements = x.elements; options = x.options }

-- They are the definition's.
pub record IsStandard (x : Limits) : Type 0 where
  pub is : limits_of x ≡ R.standard

-- A size is within them.
abbrev pub within : Size → Size → Bool
within most z = leb z.a most.a && (leb z.e most.e && leb z.o most.o)

abbrev pub most_of : Limits → Size
most_of x = record { a = x.alternatives; e = x.elements; o = x.options }

abbrev pub within_limits : Limits → Size → Bool
within_limits x = within (most_of x)

module _ (ws : List ℕ) (end : ℕ) (bs : List ℕ) (st : State) where
  -- The two ends of the list in the work area, the hub's remaining alternatives in the sheet, and how large all of it is, with
  -- so many alternatives, elements and options that are out of the list.
  pub record Ready (a e o : ℕ) : Type 0 where
    pub laid : Laid bs st.l
    pub listed : AllIn ws end inner_depth bs st.l
    pub remaining : FoundAlternatives ws end inner_depth st.left st.at
    pub within : st.at ≤ end
    pub alternatives : alternatives_in st.l + a + st.left ≡ st.all.a
    pub elements : elements_in st.l + e + elements_all (as_they_are remaining.trees) ≡ st.all.e
    pub options : options_in st.l + o + options_all (as_they_are remaining.trees) ≡ st.all.o
    pub few_alternatives : st.all.a ≤ most_alternatives
    pub few_elements : st.all.e ≤ most_elements
    pub few_options : st.all.o ≤ most_options
    pub counted : st.steps + st.budget < 2 ^ 64

  -- What is still to be looked at.
  abbrev pub pending : {a e o : ℕ} → Ready a e o → List (Planned inner_depth)
  pending r = stack ws end inner_depth bs st.l ++ as_they_are r.remaining.trees

  -- An alternative was taken and is out of the list.
  pub record With (x : Listed) : Type 0 where
    pub ready : Ready 1 x.ne x.no
    pub located : Located bs x
    pub listed : ListedIn ws end inner_depth bs x
    pub movable : Movable st.l x

  module _ (t : Task inner_depth) (budget : ℕ) (start : List (Planned inner_depth)) where
    -- The list is what the definition has come to.
    pub record Midway (r : Ready 0 0 0) : Type 0 where
      pub run : Substituting t budget start st.budget st.steps (settled ws end inner_depth bs st.l) (pending r)

    -- So it is with the alternative that was taken.
    pub record Holding (x : Listed) (w : With x) : Type 0 where
      pub run : Substituting t budget start st.budget st.steps (settled ws end inner_depth bs st.l)
          (meaning ws end inner_depth bs x ∷ pending w.ready)

-- A fact with many parts, which laws alone take apart.
pub data Shut (A : Type 0) : Type 0 where
  shut : A → Shut A

abbrev pub opened : {A : Type 0} → Shut A → A
opened (shut a) = a

-- Something is still to be looked at.
pub record HasNext (st : State) : Type 0 where
  pub top : st.left ≡ 0 → HasTop st.l

-- How much is still to be looked at.
abbrev pub pending_count : (ws : List ℕ) (end : ℕ) (bs : List ℕ) → State → ℕ
pending_count ws end bs st = length (stack ws end inner_depth bs st.l) + st.left

-- An alternative that was taken, in hand or not.
abbrev pub listed_of : Alternative → Listed
listed_of (Hand h) = h.x
listed_of (Stack t) = t.x

-- The next alternative is taken.
pub record TakenFrom (ws : List ℕ) (end : ℕ) (before after : List ℕ) (st : State) (r : Taken) : Type 0 where
  pub with : Ready ws end before st 0 0 0 → With ws end after r.st (listed_of r.x)
  pub holds : (t : Task inner_depth) (budget : ℕ) (start : List (Planned inner_depth)) (y : Ready ws end before st 0 0 0)
      → Midway ws end before st t budget start y → Holding ws end after r.st t budget start (listed_of r.x) (with y)
  pub fewer : Ready ws end before st 0 0 0 → pending_count ws end after r.st + 1 ≡ pending_count ws end before st
  pub same_budget : r.st.budget ≡ st.budget
  pub same_steps : r.st.steps ≡ st.steps
  pub long : length after ≡ length before

-- It is settled.
pub record SettledIn (ws : List ℕ) (end : ℕ) (before after : List ℕ) (st : State) (x : Listed) (r : State) : Type 0 where
  pub ready : With ws end before st x → Ready ws end after r 0 0 0
  pub goes : (t : Task inner_depth) (budget : ℕ) (start : List (Planned inner_depth)) (w : With ws end before st x)
      → Holding ws end before st t budget start x w → IsSettled t (meaning ws end inner_depth before x)
      → Midway ws end after r t budget start (ready w)
  pub same : pending_count ws end after r ≡ pending_count ws end before st
  pub same_budget : r.budget ≡ st.budget
  pub long : length after ≡ length before

-- Whatever the sheet.
pub record StackTaken (bs : List ℕ) (st : State) (r : Taken) : Type 0 where
  pub is : (ws : List ℕ) (end : ℕ) → TakenFrom ws end bs bs st r

pub record PutSettled (before after : List ℕ) (st : State) (x : Listed) (r : State) : Type 0 where
  pub is : (ws : List ℕ) (end : ℕ) → SettledIn ws end before after st x r

-- What was taken is in hand.
pub record HeldIn (ws : List ℕ) (end : ℕ) (before after : List ℕ) (st : State) (x h : Listed) : Type 0 where
  pub with : With ws end before st x → With ws end after st h
  pub holds : (t : Task inner_depth) (budget : ℕ) (start : List (Planned inner_depth)) (w : With ws end before st x)
      → Holding ws end before st t budget start x w → Holding ws end after st t budget start h (with w)
  pub meant : meaning ws end inner_depth after h ≡ meaning ws end inner_depth before x
  pub same : pending_count ws end after st ≡ pending_count ws end before st

pub record Held (before after : List ℕ) (st : State) (x h : Listed) : Type 0 where
  pub is : (ws : List ℕ) (end : ℕ) → HeldIn ws end before after st x h
  pub in_hand : InHand h
  pub elements : h.ne ≡ x.ne
  pub options : h.no ≡ x.no
  pub long : length after ≡ length before

-- It can be taken out of all of the list, and z put in its place.
pub record CanReplace (whole : Size) (h : Listed) (z : Size) : Type 0 where
  pub all : SmallSize whole
  pub size : SmallSize z
  pub alternatives : 1 ≤ whole.a
  pub elements : h.ne ≤ whole.e
  pub options : h.no ≤ whole.o

-- All of the list, with what a step puts in the place of the alternative in hand.
pub record SizeAfter (all : Size) (h : Listed) (z r : Size) : Type 0 where
  pub alternatives : r.a + 1 ≡ all.a + z.a
  pub elements : r.e + h.ne ≡ all.e + z.e
  pub options : r.o + h.no ≡ all.o + z.o

-- Whether there is more.
pub record NextIs (st : State) (r : Bool) : Type 0 where
  pub more : r ≡ true → HasNext st
  pub left : r ≡ false → st.left ≡ 0
  pub drained : r ≡ false → IsDrained st.l true

-- Nothing is done yet.
pub record Begun (left at : ℕ) (all : Size) (budget : ℕ) (r : State) : Type 0 where
  pub empty : IsEmpty r.l
  pub is_left : r.left ≡ left
  pub is_at : r.at ≡ at
  pub is_all : r.all ≡ all
  pub is_budget : r.budget ≡ budget
  pub is_steps : r.steps ≡ 0
