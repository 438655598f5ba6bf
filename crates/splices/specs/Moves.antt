-- What comes from the sheet into the list: the hub's alternatives, a satellite's in place of a call, their options.
use Rattle.std.specs.Prelude.{ℕ, suc, ◌+◌, ◌≡◌, List, map, length, Option, Some, None}
use Rattle.std.proofs.Math.Option.{none, some}
use Rattle.grammar.specs.Tree.{OptionDecl, Block, AlternativeOf, RuleOf}
use Rattle.grammar.specs.Lists.{total}
use Rattle.grammar.specs.Found.{AlternativeSpans, RuleSpans}
use Rattle.reference.specs.Substitute.{Planned, decided, decide_each, splice_alternative, union_options}
use Rattle.reference.specs.Plan.{as_it_is}
use Rattle.planned.specs.Layout.{meaning}
use Rattle.planned.specs.List.{Laid, Located, InHand, ListedIn}
use Rattle.planned.specs.Moves.{Grown, SameEnds, Pushed}
use Rattle.planned.specs.declared.list.Sizes.{Sizes}
use Rattle.planned.specs.declared.list.Listed.{Listed}

-- The hub's alternative that stands at a place comes into the hand, as it is; every list is as it was.
pub record Brought (ws : List ℕ) (end d at : ℕ) (before after : List ℕ) (h : Listed) : Type 0 where
  pub same : (l : Sizes) → Laid before l → SameEnds before after l l
  pub meant : (a : AlternativeOf (Block d)) (q : ℕ) → AlternativeSpans ws end d at a q → meaning ws end d after h ≡ as_it_is a
  pub listed : ListedIn ws end d after h
  pub located : Located after h
  pub in_hand : InHand h
  pub long : length after ≡ length before

-- What the alternatives of a rule become in place of the element at an index, and how many elements and options that is.
pub record SplicedTo (d : ℕ) (p : Planned d) (index : ℕ) (body : List (AlternativeOf (Block d))) (a e o : ℕ) : Type 0 where
  pub ps : List (Planned d)
  pub are : decide_each (splice_alternative d p index) body ≡ decided ps
  pub alternatives : a ≡ length ps
  pub elements : e ≡ total (map (λ q. length q.elements) ps)
  pub options : o ≡ total (map (λ q. length q.options) ps)

-- So it is for the rule at a place and the alternative in hand.
pub record Spliceable (ws : List ℕ) (end d at : ℕ) (bs : List ℕ) (h : Listed) (index a e o : ℕ) : Type 0 where
  pub is : (t : RuleOf (Block (suc d))) (q : ℕ) → RuleSpans ws end (suc d) at t q
      → SplicedTo d (meaning ws end d bs h) index t.body a e o

-- The alternatives of the rule at a place, each in place of the element at an index of the alternative in hand.
pub record PushedSplice (ws : List ℕ) (end d at : ℕ) (before after : List ℕ) (l r : Sizes) (h : Listed) (index a e o : ℕ) : Type 0 where
  pub is : (t : RuleOf (Block (suc d))) (q : ℕ) → RuleSpans ws end (suc d) at t q
      → (s : SplicedTo d (meaning ws end d before h) index t.body a e o) → Pushed ws end d before after l r s.ps
  pub grown : Grown l r a e o

-- The options in hand with those of the alternative at a place, as many more; or two of one name clash.
pub record UnionOf (os more : List OptionDecl) (k : ℕ) : Type 0 where
  pub all : List OptionDecl
  pub is : union_options os more ≡ some all
  pub count : length all ≡ length os + k

pub record OptionsAdded (ws : List ℕ) (end d at : ℕ) (os : List OptionDecl) (r : Option ℕ) : Type 0 where
  pub clash : r ≡ None → (a : AlternativeOf (Block d)) (q : ℕ) → AlternativeSpans ws end d at a q → union_options os a.options ≡ none
  pub more : (k : ℕ) → r ≡ Some k → (a : AlternativeOf (Block d)) (q : ℕ) → AlternativeSpans ws end d at a q → UnionOf os a.options k
