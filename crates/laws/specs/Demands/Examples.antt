-- Two sheets on which more cannot be had (SPECIFICATION 14.2 and 13.16), one whose readings are told one by one (13.18), what would be
-- too little to say of readings, one whose names and carried numbers are changed (18), and some with end of input (15.15 to 15.19).
use Rattle.std.specs.Prelude.{ℕ, suc, ◌+◌, ◌≤◌, ◌≡◌, ◌⊎◌, true, false, length}
use mathlib.Core.Equiv.{Iso}
use mathlib.Core.List.{List, [], ◌∷◌, map, Memᴰ}
use Rattle.grammar.specs.Lists.{member}
use Rattle.grammar.specs.Numbers.{once, one_or_more_greedy}
use Rattle.grammar.specs.Tree.{terminal, end_of_input, body_depth, Rule, Sheet}
use Rattle.grammar.specs.Encode.{encode}
use Rattle.grammar.specs.Valid.{valid}
use Rattle.language.specs.Shape.{token_symbol, Word, Shape, Shapes, erase_leaf, erase_rules}
use Rattle.language.specs.Derive.{Der, RuleDerives, RuleCanBeEmpty}
use Rattle.language.specs.Readings.{Tree, t_eps, t_symbol, t_call, t_unknown, t_seq, t_left, t_right, t_absent, t_present, t_none}
use Rattle.language.specs.Readings.{t_more, t_some, yield, Choice, first, next, absent, present, enough, again, choices, tree_of}
use Rattle.grammar.specs.Corners.{Corners, rust, textbook}
use Rattle.language.specs.Cycles.{LeftCorner}
use Rattle.reference.specs.Analysis.{nullable_rules, grammar_of, left_corner_cycles}
use Rattle.reference.specs.Substitute.{Clause, no_steps, not_directly_rewritable, declined, standard}
use Rattle.reference.specs.Run.{inner_depth, Stage, ended, eliminate_mutual_left_recursion}
use Rattle.laws.specs.Examples.{parting, behind_name, parted, returning, returned, every_sort, doubling_hub, doubling, doubled, merged}
use Rattle.laws.specs.Examples.{single, row_twice, row_once, end_in_front, end_settled, tail_of, tail_joined, end_alone, alone_joined}
use Rattle.laws.specs.Examples.{end_behind, behind_joined, only_end}
use Rattle.laws.specs.Demands.Shape.{NoLeftCorner, NoCorner, SameReadings, SameStrings, decision_on}
use Rattle.laws.specs.Demands.Run.{Demand3, rules_of}
use Rattle.laws.specs.Demands.Marks.{on_sheet, names_in}

-- SPECIFICATION 14.2. For the Rust's reading no more can be had than `OnlyPastSymbols`: of
-- `e: a | INT; a: e PLUS | NAME? e MINUS;` it makes `e: e PLUS | NAME? e MINUS | INT;`, where e is a left corner behind
-- NAME?, and e is in the cycle replaced. So this has not demand 3 by the textbook's left corners. By these, the cycle has
-- no plan.
pub record NoMoreOfRust : Type 0 where
  pub is_valid : valid parting ≡ true
  pub stages : List Stage
  pub run : eliminate_mutual_left_recursion standard rust parting ≡ ended stages
  pub answer : rules_of parting stages ≡ parted
  pub corner : LeftCorner (erase_rules body_depth parted) inner_depth behind_name 1
  pub not_whole : Demand3 parting standard rust NoLeftCorner stages → ⊥
  pub by_textbook : eliminate_mutual_left_recursion standard textbook parting ≡ ended []

-- SPECIFICATION 13.16. The condition of `NoLaterCycle` is needed: in `e: a | .?; a: e a;` e is joined, can be empty, and
-- stands in a cycle of what its plan leaves, in either reading. No smaller sheet shows it.
pub record NullableHubReturns (corners : Corners) : Type 0 where
  pub is_valid : valid returning ≡ true
  pub stages : List Stage
  pub run : eliminate_mutual_left_recursion standard corners returning ≡ ended stages
  pub answer : rules_of returning stages ≡ returned
  pub hub : map (λ t. t.plan.hub) stages ≡ 1 ∷ []
  pub empty : RuleCanBeEmpty body_depth returned 1
  pub cycle : left_corner_cycles corners (grammar_of body_depth returned) body_depth returned ≡ (1 ∷ 2 ∷ []) ∷ []
  pub needed : ((t : Stage) → Memᴰ t stages → (cycle : List ℕ)
      → Memᴰ cycle (left_corner_cycles corners (grammar_of body_depth t.after.node) body_depth t.after.node)
      → member t.plan.hub cycle ≡ false)
      → ⊥

-- SPECIFICATION 18. A sheet with a name at each place where one can stand, carried numbers and a precedence: its words, its names, and
-- its words with 100 added to each name, 1000 to each carried number and 10 to the precedence.
pub record MarksShown : Type 0 where
  pub is_valid : valid every_sort ≡ true
  pub words : encode every_sort
      ≡ 1 ∷ 11 ∷ 2 ∷ 1
      ∷ 5 ∷ 21 ∷ 1 ∷ 1 ∷ 7 ∷ 12 ∷ 31
      ∷ 1 ∷ 22 ∷ 1 ∷ 0 ∷ 0 ∷ 0 ∷ 1 ∷ 1 ∷ 0 ∷ 13
      ∷ 2 ∷ 23 ∷ 2 ∷ 0 ∷ 0 ∷ 0 ∷ 1 ∷ 1 ∷ 2 ∷ 14
      ∷ 3 ∷ 24 ∷ 259 ∷ 4 ∷ 15 ∷ 1 ∷ 16 ∷ 32 ∷ 17 ∷ 33 ∷ 4
      ∷ 4 ∷ 25 ∷ 4 ∷ 0 ∷ 0 ∷ 0 ∷ 18
      ∷ 5 ∷ 26 ∷ 5 ∷ 0 ∷ 0 ∷ 0
      ∷ 8 ∷ 30 ∷ 7 ∷ 0 ∷ 0 ∷ 0
      ∷ 6 ∷ 27 ∷ 6 ∷ 0 ∷ 0 ∷ 0 ∷ 1
      ∷ 6 ∷ 28 ∷ 0 ∷ 1 ∷ 1 ∷ 19 ∷ 34
      ∷ 7 ∷ 29 ∷ 4 ∷ 0 ∷ 0 ∷ 0 ∷ 20
      ∷ 2 ∷ 10 ∷ 0 ∷ 0
      ∷ 2
      ∷ 2 ∷ 87 ∷ 1 ∷ 7 ∷ 9 ∷ 5 ∷ 2 ∷ 2 ∷ []
  pub names : names_in every_sort ≡ 11 ∷ 12 ∷ 13 ∷ 14 ∷ 15 ∷ 16 ∷ 17 ∷ 18 ∷ 19 ∷ 20 ∷ 10 ∷ []
  pub changed : encode (on_sheet (λ n. n + 100) (λ n. n + 1000) (λ n. n + 10) every_sort)
      ≡ 1 ∷ 111 ∷ 2 ∷ 1
      ∷ 5 ∷ 1021 ∷ 1 ∷ 1 ∷ 7 ∷ 112 ∷ 31
      ∷ 1 ∷ 1022 ∷ 1 ∷ 0 ∷ 0 ∷ 0 ∷ 1 ∷ 1 ∷ 0 ∷ 113
      ∷ 2 ∷ 1023 ∷ 2 ∷ 0 ∷ 0 ∷ 0 ∷ 1 ∷ 1 ∷ 2 ∷ 114
      ∷ 3 ∷ 1024 ∷ 259 ∷ 4 ∷ 115 ∷ 1 ∷ 116 ∷ 32 ∷ 117 ∷ 33 ∷ 14
      ∷ 4 ∷ 1025 ∷ 4 ∷ 0 ∷ 0 ∷ 0 ∷ 118
      ∷ 5 ∷ 1026 ∷ 5 ∷ 0 ∷ 0 ∷ 0
      ∷ 8 ∷ 1030 ∷ 7 ∷ 0 ∷ 0 ∷ 0
      ∷ 6 ∷ 1027 ∷ 6 ∷ 0 ∷ 0 ∷ 0 ∷ 1
      ∷ 6 ∷ 1028 ∷ 0 ∷ 1 ∷ 1 ∷ 119 ∷ 34
      ∷ 7 ∷ 1029 ∷ 4 ∷ 0 ∷ 0 ∷ 0 ∷ 120
      ∷ 2 ∷ 110 ∷ 0 ∷ 0
      ∷ 2
      ∷ 2 ∷ 87 ∷ 1 ∷ 7 ∷ 9 ∷ 5 ∷ 2 ∷ 2 ∷ []

-- The string DOTS.
abbrev pub dots : Word
dots = token_symbol 5 ∷ []

-- No optional of a tree is there and empty.
unfoldable pub Filled : {G : Shapes} {s : Shape} → Tree G s → Type 0
Filled t_eps = Unit {0}
Filled t_symbol = Unit {0}
Filled (t_call e x) = Filled x
Filled (t_unknown e) = Unit {0}
Filled (t_seq x y) = Filled x × Filled y
Filled (t_left x) = Filled x
Filled (t_right x) = Filled x
Filled t_absent = Unit {0}
Filled (t_present x) = (yield x ≡ [] → ⊥) × Filled x
Filled t_none = Unit {0}
Filled (t_more x y) = Filled x × Filled y
Filled (t_some x y) = Filled x × Filled y

-- Choices without slots.
unfoldable pub slotless : List Choice → List Choice
slotless [] = []
slotless (first ∷ cs) = slotless cs
slotless (next ∷ cs) = slotless cs
slotless (absent ∷ cs) = absent ∷ slotless cs
slotless (present ∷ cs) = present ∷ slotless cs
slotless (enough ∷ cs) = enough ∷ slotless cs
slotless (again ∷ cs) = again ∷ slotless cs

-- All derivations of DOTS are one, if slots are not looked at.
abbrev pub OneWithoutSlots : List Rule → Type 0
OneWithoutSlots rs =
    (x y : RuleDerives body_depth rs 1 dots) → slotless (choices (tree_of x.tree)) ≡ slotless (choices (tree_of y.tree))

-- SPECIFICATION 13.18. In `e: a? DOTS | INT; a: e PLUS | ;` DOTS has two readings: a is absent, or it is there and empty. Of this the
-- run makes `e: e PLUS DOTS | DOTS | DOTS | INT;`, where the one is the third alternative and the other the second.
pub record TwoReadings (corners : Corners) : Type 0 where
  pub is_valid : valid doubling ≡ true
  pub stages : List Stage
  pub run : eliminate_mutual_left_recursion standard corners doubling ≡ ended stages
  pub answer : rules_of doubling stages ≡ doubled
  pub without : RuleDerives body_depth doubling.rules 1 dots
  pub without_chooses : choices (tree_of without.tree) ≡ first ∷ absent ∷ []
  pub empty : RuleDerives body_depth doubling.rules 1 dots
  pub empty_chooses : choices (tree_of empty.tree) ≡ first ∷ present ∷ next ∷ first ∷ []
  pub no_more : (x : RuleDerives body_depth doubling.rules 1 dots) → (x ≡ without) ⊎ (x ≡ empty)
  -- What demand 3 pairs with each of them.
  pub without_paired : (d : Demand3 doubling standard corners (NoCorner corners) stages) (m : Memᴰ doubling_hub doubling.rules)
      (q : Rule) (n : Memᴰ q (rules_of doubling stages)) (e : q.id ≡ 1)
      → choices (tree_of ((d.same_readings.pairs doubling_hub q m n e dots).fun without).tree) ≡ next ∷ next ∷ first ∷ []
  pub empty_paired : (d : Demand3 doubling standard corners (NoCorner corners) stages) (m : Memᴰ doubling_hub doubling.rules)
      (q : Rule) (n : Memᴰ q (rules_of doubling stages)) (e : q.id ≡ 1)
      → choices (tree_of ((d.same_readings.pairs doubling_hub q m n e dots).fun empty).tree) ≡ next ∷ first ∷ []

-- What cannot be said instead, on the same sheet.
pub record NoOtherReadings : Type 0 where
  -- Equal strings are not enough: without one of the two equal alternatives all strings stay, and a reading is lost.
  pub same_strings : SameStrings doubling.rules merged
  pub reading_lost : SameReadings doubling.rules merged → ⊥
  -- An optional that is there cannot be asked not to be empty: before, one of the two readings of DOTS is left; after, both are.
  pub not_filled : Iso ((x : RuleDerives body_depth doubling.rules 1 dots) × Filled (tree_of x.tree))
      ((y : RuleDerives body_depth doubled 1 dots) × Filled (tree_of y.tree))
      → ⊥
  -- Slots cannot be left out of a reading: without them DOTS has one after, and not before.
  pub one_after : OneWithoutSlots doubled
  pub not_before : OneWithoutSlots doubling.rules → ⊥
  -- Nor can all shapes be asked for: a call of the rule removed is another thing after it.
  pub not_all_shapes : ((s : Shape) (w : Word)
      → Iso (Der (erase_rules body_depth doubling.rules) s w) (Der (erase_rules body_depth doubled) s w))
      → ⊥

-- What would be too little.
pub record TooLittle : Type 0 where
  -- A pairing of all readings that forgets the string lets INT become PLUS.
  pub forgetful : Iso ((w : Word) × RuleDerives body_depth (single 3) 1 w) ((w : Word) × RuleDerives body_depth (single 4) 1 w)
  pub other_string : SameStrings (single 3) (single 4) → ⊥
  -- Numbers of readings up to a length, whatever it is, let one go behind it.
  pub short_ones : (n : ℕ) (w : Word) → length w ≤ n
      → Iso (RuleDerives body_depth (row_twice (suc n)) 1 w) (RuleDerives body_depth (row_once (suc n)) 1 w)
  pub long_one : (n : ℕ) → SameReadings (row_twice (suc n)) (row_once (suc n)) → ⊥

-- In a reading, a sheet of two rules has them as its cycle, which is declined for a clause, so that nothing changes.
pub record DeclinedFor (why : Clause) (corners : Corners) (s : Sheet) : Type 0 where
  pub is_valid : valid s ≡ true
  pub cycle : left_corner_cycles corners (grammar_of body_depth s.rules) body_depth s.rules ≡ (1 ∷ 2 ∷ []) ∷ []
  pub decision : decision_on standard corners s (1 ∷ 2 ∷ []) ≡ declined why
  pub run : eliminate_mutual_left_recursion standard corners s ≡ ended []

-- In a reading, a sheet is joined to some rules.
pub record JoinedTo (rules : List Rule) (corners : Corners) (s : Sheet) : Type 0 where
  pub is_valid : valid s ≡ true
  pub stages : List Stage
  pub run : eliminate_mutual_left_recursion standard corners s ≡ ended stages
  pub answer : rules_of s stages ≡ rules

-- End of input, in either reading (SPECIFICATION 6.2, 6.5, 7.1, 8.2 and 13.2).
pub record EndOfInputs (corners : Corners) : Type 0 where
  -- `e: a; a: e . | EOF e;`: e is a left corner behind EOF, and so is left.
  pub in_front : DeclinedFor not_directly_rewritable corners end_in_front
  -- `e: EOF a | INT; a: e PLUS;`: EOF in front settles the alternative.
  pub settled : DeclinedFor no_steps corners end_settled
  -- `e: a | INT; a: e EOF;` and `.. e EOF+;`: the tail can be empty. `.. e .;` is joined.
  pub tail : DeclinedFor not_directly_rewritable corners (tail_of once end_of_input)
  pub tail_plus : DeclinedFor not_directly_rewritable corners (tail_of one_or_more_greedy end_of_input)
  pub other_tail : JoinedTo (tail_joined terminal) corners (tail_of once terminal)
  -- `e: a | EOF; a: e PLUS;`: EOF alone is significant. `e: a | INT; a: e PLUS EOF;`: it does not stop inlining.
  pub alone : JoinedTo alone_joined corners end_alone
  pub behind : JoinedTo behind_joined corners end_behind
  -- The end mark is one, whatever number is carried.
  pub one_mark : erase_leaf 4 end_of_input ≡ erase_leaf 5 end_of_input

-- To be empty is not to derive the empty string (SPECIFICATION 13.9): `n: EOF;` and `n: EOF+;` can be empty, and derive a string
-- of one end mark or more.
pub record EmptyByMark : Type 0 where
  pub nullable : nullable_rules body_depth (only_end once) ≡ 1 ∷ []
  pub nullable_plus : nullable_rules body_depth (only_end one_or_more_greedy) ≡ 1 ∷ []
  pub empty : RuleCanBeEmpty body_depth (only_end once) 1
  pub empty_plus : RuleCanBeEmpty body_depth (only_end one_or_more_greedy) 1
  pub not_nothing : RuleDerives body_depth (only_end once) 1 [] → ⊥
  pub not_nothing_plus : RuleDerives body_depth (only_end one_or_more_greedy) 1 [] → ⊥
