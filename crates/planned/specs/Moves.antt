-- What each operation on the list does to it.
use Rattle.std.specs.Prelude.{ℕ, ◌+◌, ◌-◌, ◌*◌, ◌≤◌, ◌≡◌, List, [], ◌∷◌, ◌++◌, Bool, true, false, length}
use Rattle.grammar.specs.Numbers.{work_bytes}
use Rattle.reference.specs.Substitute.{Planned, split_optional}
use Rattle.planned.specs.Layout.{meaning, settled, stack}
use Rattle.planned.specs.List.{alternatives_in, elements_in, options_in, Laid, HasTop, Located, Movable, InList, InHand, ListedIn, AllIn}
use Rattle.planned.specs.List.{CallAt}
use Rattle.planned.specs.declared.list.Sizes.{Sizes}
use Rattle.planned.specs.declared.list.Listed.{Listed}

-- The list has so many alternatives, elements and options more.
pub record Grown (l r : Sizes) (a e o : ℕ) : Type 0 where
  pub alternatives : alternatives_in r ≡ alternatives_in l + a
  pub elements : elements_in r ≡ elements_in l + e
  pub options : options_in r ≡ options_in l + o

-- Nothing settled, nothing on the stack, whatever stands in the work area.
pub record IsEmpty (r : Sizes) : Type 0 where
  pub laid : (bs : List ℕ) → work_bytes ≤ length bs → Laid bs r
  pub settled_none : (ws : List ℕ) (end d : ℕ) (bs : List ℕ) → settled ws end d bs r ≡ []
  pub stack_none : (ws : List ℕ) (end d : ℕ) (bs : List ℕ) → stack ws end d bs r ≡ []
  pub all_in : (ws : List ℕ) (end d : ℕ) (bs : List ℕ) → AllIn ws end d bs r
  pub none : (alternatives_in r ≡ 0) × (elements_in r ≡ 0) × (options_in r ≡ 0)

-- Whether the stack is empty.
pub record IsDrained (l : Sizes) (r : Bool) : Type 0 where
  pub done : r ≡ true → (ws : List ℕ) (end d : ℕ) (bs : List ℕ) → Laid bs l → stack ws end d bs l ≡ []
  pub more : r ≡ false → HasTop l

-- The list is what it was.
pub record SameEnds (before after : List ℕ) (l r : Sizes) : Type 0 where
  pub laid : Laid after r
  pub settled_same : (ws : List ℕ) (end d : ℕ) → settled ws end d after r ≡ settled ws end d before l
  pub stack_same : (ws : List ℕ) (end d : ℕ) → stack ws end d after r ≡ stack ws end d before l
  pub all_in : (ws : List ℕ) (end d : ℕ) → AllIn ws end d before l → AllIn ws end d after r

-- The top of the stack, and what is below it.
pub record Took (bs : List ℕ) (l : Sizes) (x : Listed) (rest : Sizes) : Type 0 where
  pub laid : Laid bs rest
  pub settled_same : (ws : List ℕ) (end d : ℕ) → settled ws end d bs rest ≡ settled ws end d bs l
  pub stack_is : (ws : List ℕ) (end d : ℕ) → stack ws end d bs l ≡ meaning ws end d bs x ∷ stack ws end d bs rest
  pub all_in : (ws : List ℕ) (end d : ℕ) → AllIn ws end d bs l → AllIn ws end d bs rest
  pub listed : (ws : List ℕ) (end d : ℕ) → AllIn ws end d bs l → ListedIn ws end d bs x
  pub located : Located bs x
  pub movable : Movable rest x
  pub in_list : InList x
  pub fewer : Grown rest l 1 x.ne x.no

-- One alternative more is settled.
pub record Settled (before after : List ℕ) (l r : Sizes) (x : Listed) : Type 0 where
  pub laid : Laid after r
  pub settled_more : (ws : List ℕ) (end d : ℕ)
      → settled ws end d after r ≡ settled ws end d before l ++ (meaning ws end d before x ∷ [])
  pub stack_same : (ws : List ℕ) (end d : ℕ) → stack ws end d after r ≡ stack ws end d before l
  pub all_in : (ws : List ℕ) (end d : ℕ) → AllIn ws end d before l → ListedIn ws end d before x → AllIn ws end d after r
  pub grown : Grown l r 1 x.ne x.no
  pub long : length after ≡ length before

-- An alternative that is listed comes into the hand; the list is as it was.
pub record Handed (before after : List ℕ) (l : Sizes) (x h : Listed) : Type 0 where
  pub same : Laid before l → SameEnds before after l l
  pub laid : Laid after l
  pub meant : (ws : List ℕ) (end d : ℕ) → meaning ws end d after h ≡ meaning ws end d before x
  pub listed : (ws : List ℕ) (end d : ℕ) → ListedIn ws end d before x → ListedIn ws end d after h
  pub located : Located after h
  pub in_hand : InHand h
  pub elements : h.ne ≡ x.ne
  pub options : h.no ≡ x.no
  pub long : length after ≡ length before

-- Several alternatives more are on the stack, the first on top.
module _ (ws : List ℕ) (end d : ℕ) (before after : List ℕ) (l r : Sizes) where
  pub record Pushed (ps : List (Planned d)) : Type 0 where
    pub laid : Laid after r
    pub settled_same : settled ws end d after r ≡ settled ws end d before l
    pub stack_more : stack ws end d after r ≡ ps ++ stack ws end d before l
    pub all_in : AllIn ws end d before l → AllIn ws end d after r
    pub long : length after ≡ length before

-- The alternative in hand, split at an index: with the element made plain, and without it.
pub record PushedSplit (before after : List ℕ) (l r : Sizes) (h : Listed) (index : ℕ) : Type 0 where
  pub laid : Laid after r
  pub is : (ws : List ℕ) (end d : ℕ) → ListedIn ws end d before h → CallAt ws before h index
      → Pushed ws end d before after l r (split_optional (meaning ws end d before h) index)
  pub grown : Grown l r 2 (2 * h.ne - 1) (2 * h.no)
  pub long : length after ≡ length before
