-- What is found out about a grammar does not look at names but for which are equal, nor at carried numbers.
use Prim.Native.Nat.{ℕ, zero, suc}
use Rattle.std.specs.Prelude.{◌≡◌, Bool, ◌&&◌, ◌||◌, not, length}
use Rattle.std.proofs.Math.Path.{refl, ap, ap₂, fun_ext}
use Rattle.std.proofs.Common.{sym, ◌∙◌, eqb-true, eq-eqb, ne_eqb}
use mathlib.Core.List.{List, [], ◌∷◌, ◌++◌, map, map-map}
use Rattle.std.proofs.Math.Option
use Rattle.std.proofs.Math.Option.{Option, none, some}
use Rattle.std.proofs.Math.Bool.{true, false}
use Rattle.std.proofs.lemmas.List.{length-map}
use Rattle.std.proofs.Math.Dec.{eqb}
use Rattle.std.proofs.lemmas.Bool.{eqb-false}
use Rattle.grammar.specs.Laws.Parse.{either}
use Rattle.grammar.specs.Numbers.{optional_greedy}
use Rattle.grammar.specs.Corners.{Corners, rust, textbook}
use Rattle.grammar.specs.Lists.{member, all, keep, first, rounds, sorted}
use Rattle.grammar.specs.Tree.{Label, unlabelled, labelled, ElementHead, Call, with_label, Leaf, epsilon, action, predicate, call, token}
use Rattle.grammar.specs.Tree.{terminal, end_of_input, Element, leaf, block, Block, RuleOf}
use Rattle.reference.specs.Walks.{sort_of, is_end, is_optional, is_one, bare_reference}
use Rattle.reference.specs.Analysis.{Name, Grammar, name_of, names_of, target, leaf_nullable, element_nullable, block_is_nullable}
use Rattle.reference.specs.Analysis.{nullable_round}
use Rattle.reference.specs.Analysis.{ids_of, nullable_rules, grammar_of, calls, is_stop, collect_left_corner_calls, block_corners, row_of}
use Rattle.reference.specs.Analysis.{cycles_from, reach, left_corner_cycles}
use Rattle.reference.specs.Substitute.{PlannedCorner, optional, satellite, blocked, settled, further, member_corner, planned_corner}
use Rattle.laws.specs.Lists.Mapped.{empty_on, all_same, any_same, keep_same, first_same, each_same}
use Rattle.laws.specs.Demands.Marks.{on_option, on_head, on_call, on_leaf, on_element, on_alternative, on_rule, on_block}

-- A list, where a test holds.
abbrev skip : Bool → List ℕ → List ℕ
skip b z = elim b [ true ↦ z | false ↦ [] ]

module _ (f r pr : ℕ → ℕ) (one : (a b : ℕ) → f a ≡ f b → a ≡ b) where
  -- Names are equal exactly where they were.
  pub same_names : (a b : ℕ) → eqb (f a) (f b) ≡ eqb a b
  same_names a b =
      either (eqb a b)
      (λ t. eq-eqb (f a) (f b) (ap f (eqb-true a b t)) ∙ sym t)
      (λ n. ne_eqb (f a) (f b) (λ e. eqb-false a b n (one a b e)) ∙ sym n)

  -- What the analysis holds of a grammar, with other names.
  abbrev pub on_name : Name → Name
  on_name n = record { name = f n.name; id = n.id }

  abbrev pub on_grammar : Grammar → Grammar
  on_grammar g = record { names = map on_name g.names; nullable = g.nullable }

  abbrev pub on_rules : (d : ℕ) → List (RuleOf (Block d)) → List (RuleOf (Block d))
  on_rules d = map (on_rule f r pr (on_block f r pr d))

  names_on : (d : ℕ) (rs : List (RuleOf (Block d))) → map name_of (on_rules d rs) ≡ map on_name (map name_of rs)
  names_on d rs = map-map name_of (on_rule f r pr (on_block f r pr d)) rs ∙ sym (map-map on_name name_of rs)

  -- A name has the rule that it had.
  pub target_on : (g : Grammar) (n : ℕ) → target (on_grammar g) (f n) ≡ target g n
  unfolding target
  target_on g n =
      ap found (first_same on_name (λ p. eqb p.name (f n)) (λ p. eqb p.name n) (λ p. same_names p.name n) g.names)
      ∙ go (first (λ p. eqb p.name n) g.names)
    where
      found : Option Name → Option ℕ
      found o = elim o [ none ↦ none | some p ↦ some p.id ]

      go : (o : Option Name) → found (Option.map on_name o) ≡ found o
      go none = refl
      go (some p) = refl

  -- What can be empty is the same.
  module _ (g : Grammar) where
    leaf_on : (l : Leaf) → leaf_nullable (on_grammar g) (on_leaf f r pr l) ≡ leaf_nullable g l
    unfolding leaf_nullable sort_of is_end on_leaf
    leaf_on epsilon = refl
    leaf_on (action a) = refl
    leaf_on (predicate p) = refl
    leaf_on (call c) = rw (target_on g c.name, leaf_nullable) refl
    leaf_on (token n) = refl
    leaf_on terminal = refl
    leaf_on end_of_input = refl

    module _ {B : Type 0} (on_b : B → B) (test test' : B → Bool) (h : (b : B) → test' (on_b b) ≡ test b) where
      pub element_on : (e : Element B) → element_nullable (on_grammar g) test' (on_element f r pr on_b e) ≡ element_nullable g test e
      unfolding element_nullable on_element
      element_on (leaf x l) = ap (λ z. is_optional x || z) (leaf_on l)
      element_on (block x b) = ap (λ z. is_optional x || z) (h b)

      pub elements_on : (es : List (Element B))
          → all (element_nullable (on_grammar g) test') (map (on_element f r pr on_b) es) ≡ all (element_nullable g test) es
      elements_on = all_same (on_element f r pr on_b) (element_nullable (on_grammar g) test') (element_nullable g test) element_on

    pub block_on : (d : ℕ) (b : Block d) → block_is_nullable (on_grammar g) d (on_block f r pr d b) ≡ block_is_nullable g d b
    unfolding block_is_nullable on_block
    block_on zero b = absurd b
    block_on (suc d) as' =
        any_same (on_alternative f r pr (on_block f r pr d)) _ (λ a. all (element_nullable g (block_is_nullable g d)) a.elements)
        (λ a. elements_on (on_block f r pr d) (block_is_nullable g d) (block_is_nullable (on_grammar g) d) (block_on d) a.elements) as'

    -- Left corners are of the same rules.
    pub calls_on : (l : Leaf) → calls (on_grammar g) (on_leaf f r pr l) ≡ calls g l
    unfolding calls sort_of on_leaf
    calls_on epsilon = refl
    calls_on (action a) = refl
    calls_on (predicate p) = refl
    calls_on (call c) = rw (target_on g c.name, calls) refl
    calls_on (token n) = refl
    calls_on terminal = refl
    calls_on end_of_input = refl

    stop_on : (c : Corners) (l : Leaf) → is_stop c (on_grammar g) (on_leaf f r pr l) ≡ is_stop c g l
    unfolding is_stop sort_of is_end on_leaf
    stop_on textbook l = refl
    stop_on rust epsilon = refl
    stop_on rust (action a) = refl
    stop_on rust (predicate p) = refl
    stop_on rust (call c) = rw (target_on g c.name, is_stop) refl
    stop_on rust (token n) = refl
    stop_on rust terminal = refl
    stop_on rust end_of_input = refl

    module _ (c : Corners) {B : Type 0} (on_b : B → B) (corners : B → List ℕ) (corners' : B → List ℕ) (test test' : B → Bool)
        (h : (b : B) → corners' (on_b b) ≡ corners b) (k : (b : B) → test' (on_b b) ≡ test b) where
      pub corners_on : (es : List (Element B))
          → collect_left_corner_calls c (on_grammar g) corners' test' (map (on_element f r pr on_b) es)
          ≡ collect_left_corner_calls c g corners test es
      unfolding collect_left_corner_calls on_element element_nullable
      corners_on [] = refl
      corners_on (leaf x l ∷ es) =
          rw (calls_on l, stop_on c l, leaf_on l)
          (ap (λ z. calls g l ++ skip (not (is_stop c g l) && (is_optional x || leaf_nullable g l)) z) (corners_on es))
      corners_on (block x b ∷ es) = rw (h b, k b) (ap (λ z. corners b ++ skip (is_optional x || test b) z) (corners_on es))

    pub block_corners_on : (c : Corners) (d : ℕ) (b : Block d)
        → block_corners c (on_grammar g) d (on_block f r pr d b) ≡ block_corners c g d b
    unfolding block_corners on_block
    block_corners_on c zero b = absurd b
    block_corners_on c (suc d) as' =
        each_same (on_alternative f r pr (on_block f r pr d)) _
        (λ a. collect_left_corner_calls c g (block_corners c g d) (block_is_nullable g d) a.elements)
        (λ a. corners_on c (on_block f r pr d) (block_corners c g d) (block_corners c (on_grammar g) d) (block_is_nullable g d)
        (block_is_nullable (on_grammar g) d) (block_corners_on c d) (block_on d) a.elements) as'

    rows_on : (c : Corners) (d : ℕ) (rs : List (RuleOf (Block d))) → map (row_of c (on_grammar g) d) (on_rules d rs) ≡ map (row_of c g d) rs
    rows_on c d rs =
        map-map (row_of c (on_grammar g) d) (on_rule f r pr (on_block f r pr d)) rs
        ∙ ap (λ row. map row rs) (fun_ext (λ q. ap (λ (to : List ℕ). record { id = q.id; to = to }) (block_corners_on c d q.body)))

  pub ids_on : (d : ℕ) (rs : List (RuleOf (Block d))) → ids_of (on_rules d rs) ≡ ids_of rs
  ids_on d rs = map-map (λ q. q.id) (on_rule f r pr (on_block f r pr d)) rs

  pub cycles_on : (g : Grammar) (c : Corners) (d : ℕ) (rs : List (RuleOf (Block d)))
      → left_corner_cycles c (on_grammar g) d (on_rules d rs) ≡ left_corner_cycles c g d rs
  unfolding left_corner_cycles
  cycles_on g c d rs = ap₂ (λ rows is. cycles_from (reach rows) (sorted is)) (rows_on g c d rs) (ids_on d rs)

  -- The rules that can be empty are found in the same rounds.
  kept_on : (d : ℕ) (test test' : RuleOf (Block d) → Bool)
      → ((q : RuleOf (Block d)) → test' (on_rule f r pr (on_block f r pr d) q) ≡ test q)
      → (rs : List (RuleOf (Block d))) → ids_of (keep test' (on_rules d rs)) ≡ ids_of (keep test rs)
  kept_on d test test' h rs = ap ids_of (keep_same (on_rule f r pr (on_block f r pr d)) test' test h rs) ∙ ids_on d (keep test rs)

  round_on : (d : ℕ) (rs : List (RuleOf (Block d))) (xs : List ℕ) → nullable_round d (on_rules d rs) xs ≡ nullable_round d rs xs
  unfolding nullable_round names_of
  round_on d rs xs =
      ap (λ ns. ids_of (keep (λ q. block_is_nullable (record { names = ns; nullable = xs }) d q.body) (on_rules d rs))) (names_on d rs)
      ∙ kept_on d (λ q. block_is_nullable (record { names = map name_of rs; nullable = xs }) d q.body) _
      (λ q. block_on (record { names = map name_of rs; nullable = xs }) d q.body) rs

  pub length_on : (d : ℕ) (rs : List (RuleOf (Block d))) → length (on_rules d rs) ≡ length rs
  length_on d rs = length-map rs (on_rule f r pr (on_block f r pr d))

  pub grammar_on : (d : ℕ) (rs : List (RuleOf (Block d))) → grammar_of d (on_rules d rs) ≡ on_grammar (grammar_of d rs)
  unfolding grammar_of nullable_rules names_of
  grammar_on d rs =
      ap₂ (λ (ns : List Name) (xs : List ℕ). record { names = ns; nullable = xs }) (names_on d rs)
      (ap₂ (λ round n. rounds round n []) (fun_ext (round_on d rs)) (length_on d rs))

  -- The corner that a step looks at.
  pub bare_on : (h : ElementHead) (c : Call) → bare_reference (on_head f r pr h) (on_call f r pr c) ≡ bare_reference h c
  unfolding bare_reference
  bare_on h c = go h.label
    where
      go : (l : Label) → bare_reference (on_head f r pr (with_label l h)) (on_call f r pr c) ≡ bare_reference (with_label l h) c
      go unlabelled = ap (λ b. eqb c.arguments 0 && b) (empty_on (on_option f r pr) h.options)
      go (labelled i n) = refl

  member_on : (hub : ℕ) (h : ElementHead) (c : Call) (t : ℕ)
      → member_corner hub (on_head f r pr h) (on_call f r pr c) t ≡ member_corner hub h c t
  unfolding member_corner
  member_on hub h c t =
      ap {B = PlannedCorner} (λ b. elim (eqb h.quantifier optional_greedy && b) as (λ x. PlannedCorner) [
        | true ↦ optional 0 t
        | false ↦
            elim (eqb t hub && is_one h) as (λ x. PlannedCorner) [
              | true ↦ settled
              | false ↦ elim (is_one h && b) as (λ x. PlannedCorner) [ true ↦ satellite 0 t | false ↦ blocked ]
            ]
      ]) (bare_on h c)

  pub corner_on : (g : Grammar) (cycle : List ℕ) (hub : ℕ) {B : Type 0} (on_b : B → B) (es : List (Element B))
      → planned_corner (on_grammar g) cycle hub (map (on_element f r pr on_b) es) ≡ planned_corner g cycle hub es
  unfolding planned_corner on_element on_leaf sort_of member_corner
  corner_on g cycle hub on_b [] = refl
  corner_on g cycle hub on_b (leaf h epsilon ∷ es) = ap further (corner_on g cycle hub on_b es)
  corner_on g cycle hub on_b (leaf h (action a) ∷ es) = ap further (corner_on g cycle hub on_b es)
  corner_on g cycle hub on_b (leaf h (predicate p) ∷ es) = ap further (corner_on g cycle hub on_b es)
  corner_on g cycle hub on_b (leaf h (call c) ∷ es) =
      rw (target_on g c.name, planned_corner)
      (ap {B = PlannedCorner} (λ (at : ℕ → PlannedCorner). elim (target g c.name) as (λ o. PlannedCorner) [
        | none ↦ settled
        | some t ↦ elim (member t cycle) as (λ b. PlannedCorner) [ true ↦ at t | false ↦ settled ]
      ]) (fun_ext (member_on hub h c)))
  corner_on g cycle hub on_b (leaf h (token n) ∷ es) = refl
  corner_on g cycle hub on_b (leaf h terminal ∷ es) = refl
  corner_on g cycle hub on_b (leaf h end_of_input ∷ es) = refl
  corner_on g cycle hub on_b (block h b ∷ es) = refl
