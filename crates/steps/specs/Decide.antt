-- What is decided of a step before anything is written: a decline and its clause, or what would be pushed.
use Rattle.std.specs.Prelude.{ℕ, suc, ◌+◌, ◌<◌, ◌≤◌, ◌^◌, ◌≡◌}
use Rattle.std.specs.Prelude.{List, [], ◌++◌, map, Bool, true, false, length, take, drop, Result, Ok, Err}
use Rattle.grammar.specs.Tree.{OptionDecl, Element, Block, AlternativeOf, RuleOf}
use Rattle.grammar.specs.Lists.{total, each, all, AllOf}
use Rattle.grammar.specs.Stands.{Spans}
use Rattle.grammar.specs.Encode.{encode_alternative, encode_block}
use Rattle.grammar.specs.Valid.{ok_alternative, ok_block}
use Rattle.grammar.specs.Numbers.{most_words}
use Rattle.grammar.specs.Found.{AlternativeSpans, RuleSpans, AlternativeAt}
use Rattle.reference.specs.Substitute as R
use Rattle.reference.specs.Substitute.{clause_number, Decided, decided, declined, Planned, without, in_slot_of, decide_each}
use Rattle.reference.specs.Substitute.{collect_labels, action_reference_names, splice_alternative}
use Rattle.reference.specs.Substitute.{found, option_collision, union_options, ◌and_then◌}
use Rattle.planned.specs.Layout.{meaning, hand_halves}
use Rattle.planned.specs.declared.list.Listed.{Listed}
use Rattle.collisions.specs.Names.{Ordered, Marked}
use Rattle.collisions.specs.Quiet.{Silent}
use Rattle.steps.specs.declared.decide.Clause.{Clause}
use Rattle.steps.specs.declared.decide.Clause.TheVariants.{NoHub, HubWithArguments, SatelliteNotInlinable, Budget, DanglingReference}
use Rattle.steps.specs.declared.decide.Clause.TheVariants.{BlockedCorner, LabelCollision, BindingCollision, OptionCollision}
use Rattle.steps.specs.declared.decide.Clause.TheVariants.{NoSteps, NotDirectlyRewritable}
use Rattle.splices.specs.declared.splice.Size.{Size}

-- Sizes that can be added to.
pub record SmallSize (z : Size) : Type 0 where
  pub alternatives : z.a < 2 ^ 62
  pub elements : z.e < 2 ^ 62
  pub options : z.o < 2 ^ 62

-- The definition's clause.
abbrev pub clause_of : Clause → R.Clause
clause_of NoHub = R.no_hub
clause_of HubWithArguments = R.hub_with_arguments
clause_of SatelliteNotInlinable = R.satellite_not_inlinable
clause_of Budget = R.budget
clause_of DanglingReference = R.dangling_reference
clause_of BlockedCorner = R.blocked_corner
clause_of LabelCollision = R.label_collision
clause_of BindingCollision = R.binding_collision
clause_of OptionCollision = R.option_collision
clause_of NoSteps = R.no_steps
clause_of NotDirectlyRewritable = R.not_directly_rewritable

-- A decline by a clause.
pub record DeclinedBy {A : Type 0} (d : Decided A) (c : Clause) : Type 0 where
  pub is : d ≡ declined (clause_of c)

-- A decline, by its clause's number.
pub record DeclinedByNumber {A : Type 0} (d : Decided A) (n : ℕ) : Type 0 where
  pub clause : R.Clause
  pub number : clause_number clause ≡ n
  pub is : d ≡ declined clause

-- What stands around the element at an index: nothing that could collide, or its names are in the sets.
pub record Around (ws : List ℕ) (d : ℕ) (es : List (Element (Block d))) (index : ℕ) (bs : List ℕ) (quiet : Bool) : Type 0 where
  pub silent : quiet ≡ true → Silent d es index
  pub marked : quiet ≡ false → Marked ws bs (collect_labels d (without index es)) (action_reference_names d (without index es))

-- The names around it can be looked up, where there are any.
pub record Searchable (ws : List ℕ) (end : ℕ) (bs : List ℕ) (quiet : Bool) : Type 0 where
  pub ordered : quiet ≡ false → Ordered ws end bs

module _ (d : ℕ) (p : Planned d) (index : ℕ) where
  -- What is left of a splice where no names collide: the options.
  unfoldable pub join_options : AlternativeOf (Block d) → Decided (Planned d)
  join_options a =
      found option_collision (union_options p.options a.options) and_then λ os.
      decided (in_slot_of p os a.id (take index p.elements ++ (a.elements ++ drop (suc index) p.elements)))

  -- An alternative spliced, with so many options more.
  pub record Joined (a : AlternativeOf (Block d)) (more : ℕ) : Type 0 where
    pub options : List OptionDecl
    pub is : splice_alternative d p index a
        ≡ decided (in_slot_of p options a.id (take index p.elements ++ (a.elements ++ drop (suc index) p.elements)))
    pub count : length options ≡ length p.options + more

  abbrev pub OneTo : AlternativeOf (Block d) → Result ℕ Clause → Type 0
  OneTo a (Err c) = DeclinedBy (splice_alternative d p index a) c
  OneTo a (Ok more) = Joined a more

  -- Several alternatives, on top of what was counted before.
  pub record SizedTo (as' : List (AlternativeOf (Block d))) (before after : Size) : Type 0 where
    pub ps : List (Planned d)
    pub are : decide_each (splice_alternative d p index) as' ≡ decided ps
    pub alternatives : after.a ≡ before.a + length ps
    pub elements : after.e ≡ before.e + total (map (λ q. length q.elements) ps)
    pub options : after.o ≡ before.o + total (map (λ q. length q.options) ps)

  abbrev pub SizedSo : List (AlternativeOf (Block d)) → Size → Result Size Clause → Type 0
  SizedSo as' before (Ok after) = SizedTo as' before after
  SizedSo as' before (Err c) = DeclinedBy (decide_each (splice_alternative d p index) as') c

-- It refers to nothing.
abbrev pub Unreferring : (d : ℕ) → AlternativeOf (Block d) → Type 0
Unreferring d a = action_reference_names d a.elements ≡ []

module _ (ws : List ℕ) (end d at : ℕ) (bs : List ℕ) where
  -- The names of the alternative at a place against those around an element.
  pub record CollisionAt (quiet : Bool) (r : Result (Unit {0}) Clause) : Type 0 where
    pub some : (c : Clause) → r ≡ Err c
        → (p : Planned d) (index : ℕ) → Around ws d p.elements index bs quiet → (a : AlternativeOf (Block d)) (q : ℕ)
        → AlternativeSpans ws end d at a q → Unreferring d a → DeclinedBy (splice_alternative d p index a) c
    pub none : r ≡ Ok tt → (p : Planned d) (index : ℕ) → Around ws d p.elements index bs quiet → (a : AlternativeOf (Block d)) (q : ℕ)
        → AlternativeSpans ws end d at a q → Unreferring d a → splice_alternative d p index a ≡ join_options d p index a

  -- The alternative in place of an element of the one in hand.
  pub record OneAt (h : Listed) (quiet : Bool) (r : Result ℕ Clause) : Type 0 where
    pub is : (index : ℕ) → Around ws d (meaning ws end d bs h).elements index bs quiet → (a : AlternativeOf (Block d)) (q : ℕ)
        → AlternativeSpans ws end d at a q → Unreferring d a → OneTo d (meaning ws end d bs h) index a r
    pub low : (m : ℕ) → r ≡ Ok m → m ≤ most_words

  -- So it is for n alternatives that stand there, on top of what was counted.
  pub record ManySized (h : Listed) (quiet : Bool) (n : ℕ) (before : Size) (r : Result Size Clause) : Type 0 where
    pub is : (index : ℕ) → index < h.ne → Around ws d (meaning ws end d bs h).elements index bs quiet
        → (as' : List (AlternativeOf (Block d))) (q : ℕ)
        → Spans ws end (each (encode_alternative (encode_block d))) (all (ok_alternative (ok_block d))) at as' q → length as' ≡ n
        → AllOf (Unreferring d) as' → SizedSo d (meaning ws end d bs h) index as' before r

  -- And for those of the rule that stands there.
  pub record RuleSized (h : Listed) (quiet : Bool) (r : Result Size Clause) : Type 0 where
    pub is : (index : ℕ) → index < h.ne → Around ws d (meaning ws end d bs h).elements index bs quiet
        → (t : RuleOf (Block (suc d))) (q : ℕ) → RuleSpans ws end (suc d) at t q → AllOf (Unreferring d) t.body
        → SizedSo d (meaning ws end d bs h) index t.body (record { a = 0; e = 0; o = 0 }) r
    pub small : (z : Size) → r ≡ Ok z → SmallSize z

-- An alternative in hand that has an element.
pub record HandFits (h : Listed) : Type 0 where
  pub some : 0 < h.ne
  pub few_elements : h.ne ≤ hand_halves
  pub few_options : h.no ≤ hand_halves

pub record IsCounted (z : Size) (ne no : ℕ) (r : Size) : Type 0 where
  pub alternatives : r.a ≡ z.a + 1
  pub elements : r.e ≡ z.e + ne
  pub options : r.o ≡ z.o + no

-- The alternative at a place in place of one element of the one in hand, with so many options more.
pub record AlternativeCounted (ws : List ℕ) (end d at : ℕ) (h : Listed) (more : ℕ) (z r : Size) : Type 0 where
  pub ne : ℕ
  pub no' : ℕ
  pub count : ℕ
  pub first : ℕ
  pub head : AlternativeAt ws end at count first
  pub is_elements : ne + 1 ≡ h.ne + count
  pub is_options : no' ≡ h.no + more
  pub counted : IsCounted z ne no' r
  pub few_elements : ne ≤ hand_halves + most_words
  pub few_options : no' ≤ hand_halves + most_words
