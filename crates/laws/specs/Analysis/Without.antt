-- Without end of input the analysis finds what it found before there was one.
use Prim.Native.Nat.{ℕ, zero, suc}
use Rattle.std.specs.Prelude.{◌≡◌, length}
use Rattle.std.proofs.Math.Path.{refl, ap, ap₂, fun_ext}
use Rattle.std.proofs.Common.{◌∙◌}
use mathlib.Core.List.{List, [], ◌∷◌, ◌++◌, map, Memᴰ}
use Rattle.std.proofs.Math.Bool.{true, false, ◌&&◌, ◌||◌, not}
use Rattle.grammar.specs.Lists.{AllOf, all, any, keep, push, sorted, rounds}
use Rattle.grammar.specs.Tree.{Leaf, Element, leaf, block, Block, RuleOf}
use Rattle.grammar.specs.Corners.{Corners, rust, textbook}
use Rattle.language.specs.Shape.{OnElement, OnBlock}
use Rattle.reference.specs.Walks.{is_end, is_optional}
use Rattle.reference.specs.Analysis.{Grammar, names_of, ids_of, calls, leaf_nullable, element_nullable, block_is_nullable, nullable_round}
use Rattle.reference.specs.Analysis.{nullable_rules, grammar_of, is_stop, collect_left_corner_calls, block_corners, left_corners, reach}
use Rattle.reference.specs.Analysis.{cycles_from}
use Rattle.reference.specs.Analysis.{row_of, left_corner_cycles}
use Rattle.laws.specs.Before
use Rattle.laws.specs.Demands.End.{NotEnd, NoEnd, AsBefore}

module _ (g : Grammar) where
  leaf_same : (l : Leaf) → is_end l ≡ false → leaf_nullable g l ≡ Before.leaf_nullable g l
  unfolding leaf_nullable Before.leaf_nullable
  leaf_same l e = ap (λ b. b || Before.leaf_nullable g l) e

  stop_same : (c : Corners) (l : Leaf) → is_end l ≡ false → is_stop c g l ≡ Before.is_stop c g l
  unfolding is_stop Before.is_stop
  stop_same textbook l e = refl
  stop_same rust l e = ap (λ b. not b && Before.is_stop rust g l) e

  module _ (d : ℕ) (inner : (b : Block d) → OnBlock NotEnd d b → block_is_nullable g d b ≡ Before.block_is_nullable g d b) where
    element_same : (e : Element (Block d)) → OnElement NotEnd (OnBlock NotEnd d) e
        → element_nullable g (block_is_nullable g d) e ≡ Before.element_nullable g (Before.block_is_nullable g d) e
    unfolding element_nullable Before.element_nullable
    element_same (leaf h l) p = ap (λ b. is_optional h || b) (leaf_same l p)
    element_same (block h b) p = ap (λ b. is_optional h || b) (inner b p)

    elements_same : (es : List (Element (Block d))) → AllOf (OnElement NotEnd (OnBlock NotEnd d)) es
        → all (element_nullable g (block_is_nullable g d)) es ≡ all (Before.element_nullable g (Before.block_is_nullable g d)) es
    unfolding all
    elements_same [] p = refl
    elements_same (e ∷ es) p = ap₂ ◌&&◌ (element_same e p.0) (elements_same es p.1)

  block_same : (d : ℕ) (b : Block d) → OnBlock NotEnd d b → block_is_nullable g d b ≡ Before.block_is_nullable g d b
  unfolding block_is_nullable Before.block_is_nullable OnBlock any
  block_same zero b p = absurd b
  block_same (suc d) [] p = refl
  block_same (suc d) (a ∷ as') p = ap₂ ◌||◌ (elements_same d (block_same d) a.elements p.0) (block_same (suc d) as' p.1)

  pub nullable_same : (d : ℕ) (es : List (Element (Block d))) → AllOf (OnElement NotEnd (OnBlock NotEnd d)) es
      → all (element_nullable g (block_is_nullable g d)) es ≡ all (Before.element_nullable g (Before.block_is_nullable g d)) es
  nullable_same d es p = elements_same d (block_same d) es p

  -- Left corners.
  module _ (c : Corners) where
    module _ (d : ℕ) (inner : (b : Block d) → OnBlock NotEnd d b → block_corners c g d b ≡ Before.block_corners c g d b) where
      collected_same : (es : List (Element (Block d))) → AllOf (OnElement NotEnd (OnBlock NotEnd d)) es
          → collect_left_corner_calls c g (block_corners c g d) (block_is_nullable g d) es
          ≡ Before.collect_left_corner_calls c g (Before.block_corners c g d) (Before.block_is_nullable g d) es
      unfolding collect_left_corner_calls Before.collect_left_corner_calls
      collected_same [] p = refl
      collected_same (leaf h l ∷ es) p =
          ap₂ (λ t xs. calls g l ++ elim t as (λ x. List ℕ) [ true ↦ xs | false ↦ [] ])
          (ap₂ (λ s n. not s && n) (stop_same c l p.0) (element_same d (block_same d) (leaf h l) p.0))
          (collected_same es p.1)
      collected_same (block h b ∷ es) p =
          ap₂ ◌++◌ (inner b p.0)
          (ap₂ (λ t xs. elim t as (λ x. List ℕ) [ true ↦ xs | false ↦ [] ]) (element_same d (block_same d) (block h b) p.0)
          (collected_same es p.1))

    block_corners_same : (d : ℕ) (b : Block d) → OnBlock NotEnd d b → block_corners c g d b ≡ Before.block_corners c g d b
    unfolding block_corners Before.block_corners OnBlock
    block_corners_same zero b p = absurd b
    block_corners_same (suc d) [] p = refl
    block_corners_same (suc d) (a ∷ as') p =
        ap₂ ◌++◌ (collected_same d (block_corners_same d) a.elements p.0) (block_corners_same (suc d) as' p.1)

    pub corners_same : (d : ℕ) (es : List (Element (Block d))) → AllOf (OnElement NotEnd (OnBlock NotEnd d)) es
        → left_corners c g d es ≡ Before.left_corners c g d es
    unfolding left_corners Before.left_corners
    corners_same d es p = collected_same d (block_corners_same d) es p

    rows_same : (d : ℕ) (rs : List (RuleOf (Block d))) → ((r : RuleOf (Block d)) → Memᴰ r rs → OnBlock NotEnd d r.body)
        → map (row_of c g d) rs ≡ map (Before.row_of c g d) rs
    rows_same d [] h = refl
    rows_same d (r ∷ rs) h =
        ap₂ (λ t rows. record { id = r.id; to = t } ∷ rows) (block_corners_same d r.body (h r (Memᴰ.head refl)))
        (rows_same d rs (λ q m. h q (Memᴰ.tail m)))

    pub cycles_same : (d : ℕ) (rs : List (RuleOf (Block d))) → NoEnd d rs → left_corner_cycles c g d rs ≡ Before.left_corner_cycles c g d rs
    unfolding left_corner_cycles Before.left_corner_cycles
    cycles_same d rs none = ap (λ rows. cycles_from (reach rows) (sorted (ids_of rs))) (rows_same d rs none.everywhere)

module _ (d : ℕ) where
  kept_same : (g : Grammar) (rs : List (RuleOf (Block d))) → ((r : RuleOf (Block d)) → Memᴰ r rs → OnBlock NotEnd d r.body)
      → keep (λ r. block_is_nullable g d r.body) rs ≡ keep (λ r. Before.block_is_nullable g d r.body) rs
  unfolding keep
  kept_same g [] h = refl
  kept_same g (r ∷ rs) h =
      ap₂ (λ b qs. push b r qs) (block_same g d r.body (h r (Memᴰ.head refl))) (kept_same g rs (λ q m. h q (Memᴰ.tail m)))

  module _ (rs : List (RuleOf (Block d))) (none : NoEnd d rs) where
    round_same : (xs : List ℕ) → nullable_round d rs xs ≡ Before.nullable_round d rs xs
    unfolding nullable_round Before.nullable_round
    round_same xs = ap ids_of (kept_same (record { names = names_of rs; nullable = xs }) rs none.everywhere)

    rules_same : nullable_rules d rs ≡ Before.nullable_rules d rs
    unfolding nullable_rules Before.nullable_rules
    rules_same = ap (λ round. rounds round (length rs) []) (fun_ext round_same)

    pub grammar_same : grammar_of d rs ≡ Before.grammar_of d rs
    unfolding grammar_of Before.grammar_of
    grammar_same = ap (λ xs. record { names = names_of rs; nullable = xs }) rules_same

    pub as_before : AsBefore d rs
    as_before =
        record {
          nullable = rules_same;
          of_alternative = λ k es p.
              nullable_same (grammar_of d rs) k es p
              ∙ ap (λ g. all (Before.element_nullable g (Before.block_is_nullable g k)) es) grammar_same;
          corners = λ c k es p. corners_same (grammar_of d rs) c k es p ∙ ap (λ g. Before.left_corners c g k es) grammar_same;
          cycles = λ c. cycles_same (grammar_of d rs) c d rs none ∙ ap (λ g. Before.left_corner_cycles c g d rs) grammar_same;
        }
