-- A sheet with other names, carried numbers and precedences, told a second time, by its words: the sort of each word, record by record as
-- SPECIFICATION 2.7 and 2.11 list them, and what becomes of a word of each sort (18). No definition here uses one of Marks.
use Rattle.std.specs.Prelude.{ℕ, zero, suc, ◌≡◌, Bool, true, false, length}
use mathlib.Core.List.{List, [], ◌∷◌, ◌++◌, map, flat_map, flatten, zip_with}
use Rattle.grammar.specs.Tree.{OptionDecl, Reference, Label, unlabelled, labelled, ElementHead, Leaf, epsilon, action, predicate, call}
use Rattle.grammar.specs.Tree.{token, terminal, end_of_input, Element, leaf, block, AlternativeOf, Block, RuleOf, Sheet, body_depth}
use Rattle.grammar.specs.Encode.{encode}
use Rattle.grammar.specs.Form.{newest}
use Rattle.laws.specs.Demands.Marks.{on_sheet, names_in}

-- A name, a carried number, a call's precedence, or a word of any other sort.
pub data Sort : Type 0 where
  kept : Sort
  name : Sort
  carried : Sort
  precedence : Sort

abbrev pub option_sorts : OptionDecl → List Sort
option_sorts o = name ∷ kept ∷ []

abbrev pub reference_sorts : Reference → List Sort
reference_sorts o = kept ∷ name ∷ []

-- The label name of an element without a label is no name.
abbrev pub label_sort : Label → Sort
label_sort unlabelled = kept
label_sort (labelled i n) = name

-- Id, carried number, kind and quantifier, label id, label name, number of options, the options.
unfoldable pub head_sorts : ElementHead → List Sort
head_sorts h = kept ∷ carried ∷ kept ∷ kept ∷ label_sort h.label ∷ kept ∷ flat_map option_sorts h.options

-- The word of a precedence, where there is a place for it.
abbrev pub precedence_where : Bool → List Sort
precedence_where true = precedence ∷ []
precedence_where false = []

-- The payload: an id, a number of references and the references; a name, arguments and, if there is a place for it, a precedence; a
-- name; or nothing.
unfoldable pub leaf_sorts : Leaf → List Sort
leaf_sorts epsilon = []
leaf_sorts (action a) = kept ∷ kept ∷ flat_map reference_sorts a.references
leaf_sorts (predicate p) = kept ∷ kept ∷ flat_map reference_sorts p.references
leaf_sorts (call c) = name ∷ kept ∷ precedence_where newest.precedences
leaf_sorts (token n) = name ∷ []
leaf_sorts terminal = []
leaf_sorts end_of_input = []

module _ {B : Type 0} (sorts : B → List Sort) where
  unfoldable pub element_sorts : Element B → List Sort
  element_sorts (leaf h l) = head_sorts h ++ leaf_sorts l
  element_sorts (block h b) = head_sorts h ++ sorts b

  -- Id, carried number, flag, number of options, number of elements, the options, the elements.
  unfoldable pub alternative_sorts : AlternativeOf B → List Sort
  alternative_sorts a =
      kept ∷ carried ∷ kept ∷ kept ∷ kept ∷ flat_map option_sorts a.options ++ flat_map element_sorts a.elements

  -- Id, name, flags, and the body.
  unfoldable pub rule_sorts : RuleOf B → List Sort
  rule_sorts q = kept ∷ name ∷ kept ∷ sorts q.body

-- A number of alternatives, the alternatives.
unfoldable pub block_sorts : (d : ℕ) → Block d → List Sort
block_sorts zero b = absurd b
block_sorts (suc d) as' = kept ∷ flat_map (alternative_sorts (block_sorts d)) as'

-- The rules, the preserved ids, the eight words of the trailer.
unfoldable pub sorts_of : Sheet → List Sort
sorts_of s =
    (flat_map (rule_sorts (block_sorts body_depth)) s.rules ++ map (λ i. kept) s.preserved)
    ++ (kept ∷ kept ∷ kept ∷ kept ∷ kept ∷ kept ∷ kept ∷ kept ∷ [])

module _ (f r pr : ℕ → ℕ) where
  abbrev pub moved_word : Sort → ℕ → ℕ
  moved_word kept w = w
  moved_word name w = f w
  moved_word carried w = r w
  moved_word precedence w = pr w

  -- Each word as its sort says.
  unfoldable pub moved : List Sort → List ℕ → List ℕ
  moved = zip_with moved_word

abbrev pub if_name : Sort → ℕ → List ℕ
if_name kept w = []
if_name name w = w ∷ []
if_name carried w = []
if_name precedence w = []

-- The words that are names, in their order.
unfoldable pub names_among : List Sort → List ℕ → List ℕ
names_among ss ws = flatten (zip_with if_name ss ws)

-- Each word has a sort; `on_sheet` changes names, carried numbers and precedences, each sort by a function of its own, and no other word;
-- `names_in` lists the names. So both are held to the words of a sheet.
pub record MarksTold (s : Sheet) : Type 0 where
  pub one_each : length (sorts_of s) ≡ length (encode s)
  pub words : (f r pr : ℕ → ℕ) → encode (on_sheet f r pr s) ≡ moved f r pr (sorts_of s) (encode s)
  pub names : names_in s ≡ names_among (sorts_of s) (encode s)
