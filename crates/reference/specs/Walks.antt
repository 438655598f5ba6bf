-- What the Rust's matches tell apart in an element, and its walks down a tree. Line numbers are those of
-- mutual_recursion.rs, here and in the other files; the Rust's sets, maps and sinks are lists.
use Rattle.std.specs.Prelude.{ℕ, zero, suc, List, [], ◌∷◌, ◌++◌, Bool, true, false, ◌&&◌, leb, eqb}
use Rattle.grammar.specs.Tree.{Reference, Label, unlabelled, labelled, ElementHead, Call, Leaf, epsilon, action, predicate, call, token}
use Rattle.grammar.specs.Tree.{terminal, end_of_input, Element, leaf, block, Block}
use Rattle.grammar.specs.Lists.{each, is_empty}
use Rattle.grammar.specs.Numbers.{once, optional_greedy, zero_or_more_nongreedy}

-- The arms of most matches, as in classify_corner, l. 259: what takes no input; tokens and kind 5, and end of input, which the
-- Rust does not have; calls. Blocks are apart.
pub data Sort : Type 0 where
  silent consuming : Sort
  calling : Call → Sort

unfoldable pub sort_of : Leaf → Sort  -- That match, in classify_corner, l. 259.
sort_of epsilon = silent
sort_of (action a) = silent
sort_of (predicate p) = silent
sort_of (call c) = calling c
sort_of (token n) = consuming
sort_of terminal = consuming
sort_of end_of_input = consuming

-- End of input takes nothing (SPECIFICATION 6.2 and 6.5). It is asked for in front of the Rust's matches.
unfoldable pub is_end : Leaf → Bool
is_end epsilon = false
is_end (action a) = false
is_end (predicate p) = false
is_end (call c) = false
is_end (token n) = false
is_end terminal = false
is_end end_of_input = true

-- is_epsilon_only, l. 877.
unfoldable pub is_epsilon_only : {B : Type 0} → Element B → Bool
is_epsilon_only (leaf h l) = elim (sort_of l) [ silent ↦ true | consuming ↦ false | calling c ↦ false ]
is_epsilon_only (block h b) = false

-- The first test of element_nullable, l. 1262: optional or zero or more, greedy or not.
abbrev pub is_optional : ElementHead → Bool
is_optional h = leb optional_greedy h.quantifier && leb h.quantifier zero_or_more_nongreedy

abbrev pub is_one : ElementHead → Bool  -- Quantifier::One, as planned_corner asks for it, l. 480.
is_one h = eqb h.quantifier once

-- bare_reference, l. 308: of an element's head and its call.
unfoldable pub bare_reference : ElementHead → Call → Bool
bare_reference h c = elim h.label [ unlabelled ↦ eqb c.arguments 0 && is_empty h.options | labelled i n ↦ false ]

-- One walk serves where the Rust has five, since they differ in what they take only: element_actions_reference, l. 511,
-- collect_labels, l. 658, action_reference_names, l. 700, bindable_names, l. 738, and collect_calls_in_elements, l. 1205.
-- It gives all numbers that labels and leaves give, nested ones too.
module _ (of_label : Label → List ℕ) (of_leaf : Leaf → List ℕ) where
  unfoldable pub element_gives : {B : Type 0} → (B → List ℕ) → Element B → List ℕ  -- As bindable_names, l. 740 to 756.
  element_gives of_block (leaf h l) = of_label h.label ++ of_leaf l
  element_gives of_block (block h b) = of_label h.label ++ of_block b

  unfoldable pub block_gives : (d : ℕ) → Block d → List ℕ  -- Its arm for a block, as bindable_names, l. 750.
  block_gives zero b = absurd b
  block_gives (suc d) as' = each (λ a. each (element_gives (block_gives d)) a.elements) as'

  unfoldable pub elements_give : (d : ℕ) → List (Element (Block d)) → List ℕ  -- Its loop, as bindable_names, l. 739.
  elements_give d es = each (element_gives (block_gives d)) es

abbrev pub label_names : Label → List ℕ  -- Of collect_labels, l. 660, and bindable_names, l. 740.
label_names unlabelled = []
label_names (labelled i n) = n ∷ []

-- The names of calls and tokens, of bindable_names, l. 744 to 749.
unfoldable pub leaf_names : Leaf → List ℕ
leaf_names epsilon = []
leaf_names (action a) = []
leaf_names (predicate p) = []
leaf_names (call c) = c.name ∷ []
leaf_names (token n) = n ∷ []
leaf_names terminal = []
leaf_names end_of_input = []

-- What actions and predicates refer to. The Rust asks action_reference_parser, l. 535 and 723, for each body, and for a
-- predicate's `fail` too; here the sheet brings all its answers in one list.
unfoldable pub references : Leaf → List Reference
references epsilon = []
references (action a) = a.references
references (predicate p) = p.references
references (call c) = []
references (token n) = []
references terminal = []
references end_of_input = []
