-- The format of a sheet (SPECIFICATION 2.2 to 2.15 and 2.19), told a second time by its numbers: the words of each record where they
-- stand, and what is good in a sheet.
use Rattle.std.specs.Prelude.{ℕ, zero, suc, ◌+◌, ◌*◌, ◌%◌, ◌≤◌, ◌≡◌, ◌↔◌}
use Rattle.std.specs.Prelude.{List, [], ◌∷◌, ◌++◌, map, true, false, length, eqb}
use Rattle.grammar.specs.Lists.{each, only, AllOf}
use Rattle.grammar.specs.Form.{newest}
use Rattle.grammar.specs.Tree.{OptionDecl, Reference, Label, unlabelled, labelled, ElementHead, Call, Leaf, epsilon, action, predicate}
use Rattle.grammar.specs.Tree.{call}
use Rattle.grammar.specs.Tree.{token, terminal, end_of_input, Element, leaf, block, AlternativeOf, Block, RuleOf, Sheet}
use Rattle.grammar.specs.Words.{words, bytes}
use Rattle.grammar.specs.Encode.{encode}
use Rattle.grammar.specs.Reading.{sheet, read}
use Rattle.grammar.specs.Valid.{valid, fits}
use Rattle.grammar.specs.Laws.Words.{AreBytes}
use Rattle.laws.specs.Demands.Lists.{NoTwo, Low, Rises}
use Rattle.laws.specs.Demands.Nodes.{block_nodes}

-- 2.7, 2.10, 2.11 and 2.13: an option, a reference, a label; the words that every element has, its kind given.
abbrev pub option_words : OptionDecl → List ℕ
option_words o = o.name ∷ o.value ∷ []

abbrev pub reference_words : Reference → List ℕ
reference_words r = r.kind ∷ r.name ∷ []

abbrev pub label_words : Label → List ℕ
label_words unlabelled = 0 ∷ 0 ∷ []
label_words (labelled i n) = i ∷ n ∷ []

abbrev pub head_words : ElementHead → (kind : ℕ) → List ℕ
head_words h kind =
    h.id
    ∷ h.carried
    ∷ (kind + 256 * h.quantifier)
    ∷ (label_words h.label ++ (length h.options ∷ each option_words h.options))

-- The words of an action or a predicate behind those.
abbrev pub body_words : (id : ℕ) → List Reference → List ℕ
body_words i rs = i ∷ length rs ∷ each reference_words rs

-- A call has its precedence behind these two, if there is a place for it.
abbrev pub call_words : Call → List ℕ
call_words c = c.name ∷ c.arguments ∷ only newest.precedences c.precedence

abbrev pub leaf_words : ElementHead → Leaf → List ℕ
leaf_words h epsilon = head_words h 0 ++ []
leaf_words h (action a) = head_words h 1 ++ body_words a.id a.references
leaf_words h (predicate p) = head_words h 2 ++ body_words p.id p.references
leaf_words h (call c) = head_words h 3 ++ call_words c
leaf_words h (token n) = head_words h 4 ++ (n ∷ [])
leaf_words h terminal = head_words h 5 ++ []
leaf_words h end_of_input = head_words h 7 ++ []

abbrev pub element_words : {B : Type 0} → (B → List ℕ) → Element B → List ℕ
element_words inner (leaf h l) = leaf_words h l
element_words inner (block h b) = head_words h 6 ++ inner b

abbrev pub alternative_words : {B : Type 0} → (B → List ℕ) → AlternativeOf B → List ℕ
alternative_words inner a =
    a.id
    ∷ a.carried
    ∷ a.flag
    ∷ length a.options
    ∷ length a.elements
    ∷ (each option_words a.options ++ each (element_words inner) a.elements)

unfoldable pub block_words : (d : ℕ) → Block d → List ℕ
block_words zero b = absurd b
block_words (suc d) as' = length as' ∷ each (alternative_words (block_words d)) as'

abbrev pub rule_words : RuleOf (Block 9) → List ℕ
rule_words r = r.id ∷ r.name ∷ r.flags ∷ block_words 9 r.body

-- 2.2, 2.4 and 2.5: the rules, the preserved ids, the eight words of the trailer.
abbrev pub sheet_words : Sheet → List ℕ
sheet_words s =
    let front = each rule_words s.rules ++ s.preserved in
    front
    ++ (s.kind
    ∷ length front
    ∷ length s.preserved
    ∷ s.counters.alternative
    ∷ s.counters.element
    ∷ s.counters.label
    ∷ s.counters.action
    ∷ s.counters.predicate
    ∷ [])

-- 2.15.
abbrev pub Name : ℕ → Type 0
Name n = (1 ≤ n) × (n ≤ 4294967295)

abbrev pub Named : OptionDecl → Type 0
Named o = Name o.name

-- 2.14.
abbrev pub GoodReference : Reference → Type 0
GoodReference r = (r.kind ≤ 2) × Name r.name

abbrev pub GoodLabel : Label → Type 0
GoodLabel unlabelled = Unit {0}
GoodLabel (labelled i n) = Name n

-- 2.10.
abbrev pub GoodHead : ElementHead → Type 0
GoodHead h = (h.quantifier ≤ 6) × (GoodLabel h.label × AllOf Named h.options)

-- A call has a name, and no precedence if there is no place for one.
abbrev pub GoodCall : Call → Type 0
GoodCall c = (newest.precedences ≡ false → c.precedence ≡ 0) × Name c.name

abbrev pub GoodLeaf : Leaf → Type 0
GoodLeaf epsilon = Unit {0}
GoodLeaf (action a) = AllOf GoodReference a.references
GoodLeaf (predicate p) = AllOf GoodReference p.references
GoodLeaf (call c) = GoodCall c
GoodLeaf (token n) = Name n
GoodLeaf terminal = Unit {0}
GoodLeaf end_of_input = Unit {0}

abbrev pub GoodElement : {B : Type 0} → (B → Type 0) → Element B → Type 0
GoodElement Good (leaf h l) = GoodHead h × GoodLeaf l
GoodElement Good (block h b) = GoodHead h × Good b

-- 2.9.
abbrev pub GoodAlternative : {B : Type 0} → (B → Type 0) → AlternativeOf B → Type 0
GoodAlternative Good a = (a.flag ≤ 1) × (AllOf Named a.options × AllOf (GoodElement Good) a.elements)

unfoldable pub GoodBlock : (d : ℕ) → Block d → Type 0
GoodBlock zero b = absurd b
GoodBlock (suc d) as' = AllOf (GoodAlternative (GoodBlock d)) as'

-- 2.8.
abbrev pub GoodRule : RuleOf (Block 9) → Type 0
GoodRule r = Name r.name × ((r.flags ≤ 3) × GoodBlock 9 r.body)

-- 2.18 and 4.24: the ids of a sort, numbered as in the trail, wherever they stand.
abbrev pub ids_of : ℕ → List (RuleOf (Block 9)) → List ℕ
ids_of sort = each λ r. block_nodes (λ k i. only (eqb sort k) i) 9 r.body

-- 2.3, 2.6, 2.18, 2.19 and 4.6.
pub record GoodSheet (s : Sheet) : Type 0 where
  pub kind : (1 ≤ s.kind) × (s.kind ≤ 3)
  pub few : length s.rules ≤ 128
  pub rules : AllOf GoodRule s.rules
  pub preserved : Rises s.preserved
  pub rule_ids : NoTwo (map (λ r. r.id) s.rules)
  pub rule_names : NoTwo (map (λ r. r.name) s.rules)
  pub alternative_ids : NoTwo (ids_of 2 s.rules) × Low s.counters.alternative (ids_of 2 s.rules)
  pub element_ids : NoTwo (ids_of 3 s.rules) × Low s.counters.element (ids_of 3 s.rules)
  pub label_ids : NoTwo (ids_of 4 s.rules) × Low s.counters.label (ids_of 4 s.rules)
  pub action_ids : NoTwo (ids_of 5 s.rules) × Low s.counters.action (ids_of 5 s.rules)
  pub predicate_ids : NoTwo (ids_of 6 s.rules) × Low s.counters.predicate (ids_of 6 s.rules)

pub record FormatTold : Type 0 where
  -- 2.1: four bytes make a word, the low one first.
  pub low_first : (a b c d : ℕ) (bs : List ℕ) → words (a ∷ b ∷ c ∷ d ∷ bs) ≡ (a + 256 * b + 65536 * c + 16777216 * d) ∷ words bs
  pub in_bytes : (bs : List ℕ) → AreBytes bs → length bs % 4 ≡ 0 → bytes (words bs) ≡ bs
  pub of_sheet : (s : Sheet) → encode s ≡ sheet_words s
  pub good : (s : Sheet) → (valid s ≡ true) ↔ GoodSheet s
  -- Bytes are read as a sheet exactly if it is good, fits, and is written as they are.
  pub reading : (bs : List ℕ) → AreBytes bs → (s : Sheet)
      → (read bs ≡ sheet s) ↔ ((valid s ≡ true) × (fits s ≡ true) × (bytes (encode s) ≡ bs))
