-- What is found out about one grammar before anything is planned: names, nullability, left corners, cycles
-- (SPECIFICATION 6).
use Rattle.std.specs.Prelude.{ℕ, zero, suc, List, [], ◌∷◌, ◌++◌, map, Bool, true, false, ◌&&◌, ◌||◌, not, length, eqb}
use Rattle.std.proofs.Math.Option.{Option, none, some}
use Rattle.grammar.specs.Tree.{Leaf, Element, leaf, block, Block, RuleOf}
use Rattle.grammar.specs.Lists.{each, member, all, nothing, any, push, keep, first, sorted, rounds}
use Rattle.grammar.specs.Corners.{Corners, rust, textbook}
use Rattle.reference.specs.Walks.{silent, consuming, calling, sort_of, is_end, is_optional, block_gives, elements_give}

-- A rule's name with its id.
pub record Name : Type 0 where
  pub name : ℕ
  pub id : ℕ

-- Grammar, l. 116: what every walk needs to know.
pub record Grammar : Type 0 where
  pub names : List Name
  pub nullable : List ℕ

abbrev pub name_of : {B : Type 0} → RuleOf B → Name  -- An entry of rule_names, l. 1230.
name_of r = record { name = r.name; id = r.id }

-- rule_names, l. 1227. Names are distinct, so it does not matter which entry of a name would win.
unfoldable pub names_of : {B : Type 0} → List (RuleOf B) → List Name
names_of rs = map name_of rs

abbrev pub ids_of : {B : Type 0} → List (RuleOf B) → List ℕ  -- The keys of rules_by_id, l. 1223, unsorted.
ids_of = map λ r. r.id

-- rules_by_id, l. 1223, looked up.
unfoldable pub rule_with_id : {B : Type 0} → List (RuleOf B) → ℕ → Option (RuleOf B)
rule_with_id rs i = first (λ r. eqb r.id i) rs

-- Grammar::target, l. 122.
unfoldable pub target : Grammar → ℕ → Option ℕ
target g n = elim (first (λ p. eqb p.name n) g.names) [ none ↦ none | some p ↦ some p.id ]

module _ (g : Grammar) where
  -- The rule that a leaf calls, if it is known: the arm of collect_calls_in_elements, l. 1212.
  unfoldable pub calls : Leaf → List ℕ
  calls l = elim (sort_of l) [ silent ↦ [] | calling c ↦ elim (target g c.name) [ none ↦ [] | some t ↦ t ∷ [] ] | consuming ↦ [] ]

  -- collect_calls_in_elements, l. 1205.
  unfoldable pub collect_calls_in_elements : (d : ℕ) → List (Element (Block d)) → List ℕ
  collect_calls_in_elements = elements_give nothing calls

  -- collect_calls_into, l. 1195.
  unfoldable pub collect_calls_into : (d : ℕ) → Block d → List ℕ
  collect_calls_into = block_gives nothing calls

  unfoldable pub leaf_nullable : Leaf → Bool  -- Behind `is_end`, the arms of element_nullable for leaves, l. 1269 to 1274.
  leaf_nullable l =
      is_end l
      || elim (sort_of l) [
        | silent ↦ true
        | consuming ↦ false
        | calling c ↦ elim (target g c.name) [ none ↦ false | some t ↦ member t g.nullable ]
      ]

  -- element_nullable, l. 1257.
  unfoldable pub element_nullable : {B : Type 0} → (B → Bool) → Element B → Bool
  element_nullable block_nullable (leaf h l) = is_optional h || leaf_nullable l
  element_nullable block_nullable (block h b) = is_optional h || block_nullable b

  -- block_is_nullable, l. 1278; of a rule's body too.
  unfoldable pub block_is_nullable : (d : ℕ) → Block d → Bool
  block_is_nullable zero b = absurd b
  block_is_nullable (suc d) as' = any (λ a. all (element_nullable (block_is_nullable d)) a.elements) as'

module _ (d : ℕ) (rs : List (RuleOf (Block d))) where
  -- One turn of the loop in nullable_rules, l. 1239: the rules that are nullable if those in a set are.
  unfoldable pub nullable_round : List ℕ → List ℕ
  nullable_round found =
      let g : Grammar = record { names = names_of rs; nullable = found } in
      ids_of (keep (λ r. block_is_nullable g d r.body) rs)

  -- nullable_rules, l. 1236. The Rust adds to the set within a round; here a round starts from the set that the one
  -- before left. Both end with the least set, here after at most as many rounds as there are rules.
  unfoldable pub nullable_rules : List ℕ
  nullable_rules = rounds nullable_round (length rs) []

  unfoldable pub grammar_of : Grammar  -- What eliminate_in_unit makes for each turn, l. 143.
  grammar_of = record { names = names_of rs; nullable = nullable_rules }

-- Where a reading of left corners stops, even if the leaf can be empty: collect_left_corner_calls, l. 1167, and its
-- last arm, l. 1190. Only collect_left_corner_calls asks for the reading.
unfoldable pub is_stop : Corners → Grammar → Leaf → Bool
is_stop textbook g l = false
is_stop rust g l =
    not (is_end l)
    && elim (sort_of l) [ silent ↦ false | consuming ↦ true | calling c ↦ elim (target g c.name) [ none ↦ true | some t ↦ false ] ]

module _ (c : Corners) (g : Grammar) where
  module _ {B : Type 0} (block_corners : B → List ℕ) (block_nullable : B → Bool) where
    -- collect_left_corner_calls, l. 1157. Where that has a test for skippable in each arm, l. 1170 and 1182, here is
    -- element_nullable, which is the same.
    unfoldable pub collect_left_corner_calls : List (Element B) → List ℕ
    collect_left_corner_calls [] = []
    collect_left_corner_calls (leaf h l ∷ es) =
        calls g l
        ++ elim (not (is_stop c g l) && element_nullable g block_nullable (leaf h l)) [ true ↦ collect_left_corner_calls es | false ↦ [] ]
    collect_left_corner_calls (block h b ∷ es) =
        block_corners b ++ elim (element_nullable g block_nullable (block h b)) [ true ↦ collect_left_corner_calls es | false ↦ [] ]

  -- The loop in collect_left_corner_calls, l. 1179, over a block, and in left_corner_cycles, l. 1127, over a rule.
  unfoldable pub block_corners : (d : ℕ) → Block d → List ℕ
  block_corners zero b = absurd b
  block_corners (suc d) as' = each (λ a. collect_left_corner_calls (block_corners d) (block_is_nullable g d) a.elements) as'

  unfoldable pub left_corners : (d : ℕ) → List (Element (Block d)) → List ℕ  -- As planned_hub_is_directly_rewritable asks, l. 867.
  left_corners d = collect_left_corner_calls (block_corners d) (block_is_nullable g d)

-- A node of the graph in left_corner_cycles, l. 1119: a rule and those that it leads to. The Rust hands the graph to
-- tarjan_scc, l. 1137; what stands from here to `component` is in place of that, by closing the graph.
pub record Row : Type 0 where
  pub id : ℕ
  pub to : List ℕ

abbrev pub row_ids : List Row → List ℕ  -- The nodes in left_corner_cycles, l. 1120.
row_ids = map λ r. r.id

module _ (rows : List Row) where
  -- Where the rules in a set lead, by the edges in left_corner_cycles, l. 1132.
  unfoldable pub lead_from : List ℕ → List ℕ
  lead_from found = each (λ r. elim (member r.id found) [ true ↦ r.to | false ↦ [] ]) rows

  -- One round (for tarjan_scc, l. 1137): the set, and where its rules lead.
  unfoldable pub reach_round : List ℕ → List ℕ
  reach_round found =
      let wider = found ++ lead_from found in
      keep (λ i. member i wider) (row_ids rows)

  -- All that is reached from a set of rules, the set too (for tarjan_scc, l. 1137).
  unfoldable pub reach_from : List ℕ → List ℕ
  reach_from found = rounds reach_round (length rows) (keep (λ i. member i found) (row_ids rows))

  -- A rule with all that it reaches in one step or more (for tarjan_scc, l. 1137).
  abbrev pub reached : Row → Row
  reached r = record { id = r.id; to = reach_from r.to }

  -- Each rule so (for tarjan_scc, l. 1137).
  unfoldable pub reach : List Row
  reach = map reached rows

  -- A component (for tarjan_scc, l. 1137), where rows hold all that is reached: rule i itself, and each that it
  -- reaches and that reaches it.
  unfoldable pub component : ℕ → List ℕ
  component i =
      let out = lead_from (i ∷ []) in
      sorted (row_ids (keep (λ r. eqb r.id i || (member r.id out && member i r.to)) rows))

-- More than one rule, as left_corner_cycles asks, l. 1140, and i is the least, so that no component is taken twice.
unfoldable pub is_cycle : ℕ → List ℕ → Bool
is_cycle i [] = false
is_cycle i (x ∷ []) = false
is_cycle i (x ∷ y ∷ ys) = eqb i x

-- The components in left_corner_cycles, l. 1137 to 1149, whose least id is in a list, in its order.
unfoldable pub cycles_from : List Row → List ℕ → List (List ℕ)
cycles_from rows [] = []
cycles_from rows (i ∷ is) =
    let c = component rows i in
    push (is_cycle i c) c (cycles_from rows is)

-- A rule with its left corners: the edges from a node in left_corner_cycles, l. 1124 to 1134.
abbrev pub row_of : Corners → Grammar → (d : ℕ) → RuleOf (Block d) → Row
row_of c g d r = record { id = r.id; to = block_corners c g d r.body }

-- left_corner_cycles, l. 1118. The Rust takes the components from tarjan_scc; here they are those of the graph closed
-- under reachability. Each has rising ids, and they come by their least ids.
unfoldable pub left_corner_cycles : (c : Corners) (g : Grammar) (d : ℕ) → List (RuleOf (Block d)) → List (List ℕ)
left_corner_cycles c g d rs = cycles_from (reach (map (row_of c g d) rs)) (sorted (ids_of rs))
