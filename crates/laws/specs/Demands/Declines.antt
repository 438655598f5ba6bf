-- What is promised of a step that declines (SPECIFICATION 8.2, 8.6, 8.7, 10.5 to 10.9 and 10.20): for what, and exactly where.
use Rattle.std.specs.Prelude.{ℕ, suc, ◌≡◌, ◌↔◌, ◌⊎◌}
use mathlib.Core.List.{List, [], ◌∷◌, ◌++◌, Memᴰ}
use Rattle.std.proofs.Math.Option.{some, none}
use Rattle.grammar.specs.Tree.{unlabelled, ElementHead, Call, Element, AlternativeOf, Block, RuleOf}
use Rattle.reference.specs.Analysis.{Grammar}
use Rattle.reference.specs.Substitute.{Clause, dangling_reference, blocked_corner, label_collision, binding_collision, option_collision}
use Rattle.reference.specs.Substitute.{declined, optional, satellite, blocked, settled, planned_corner, Planned, step}
use Rattle.laws.specs.Demands.Step.{CornerAt, Work, NoWork}
use Rattle.laws.specs.Demands.Collisions.{Items, RefersTo, SameLabel, SameBinding, OtherValue}

-- A call without label, options and arguments (SPECIFICATION 8.3).
pub record Bare (h : ElementHead) (c : Call) : Type 0 where
  pub no_label : h.label ≡ unlabelled
  pub no_options : h.options ≡ []
  pub no_arguments : c.arguments ≡ 0

-- The lines of the table in SPECIFICATION 8.2, of a call of the member t.
module _ (hub : ℕ) (h : ElementHead) (c : Call) (t : ℕ) where
  pub record Splits : Type 0 where
    pub quantifier : h.quantifier ≡ 1
    pub bare : Bare h c

  pub record Settles : Type 0 where
    pub quantifier : h.quantifier ≡ 0
    pub is_hub : t ≡ hub

  pub record Splices : Type 0 where
    pub quantifier : h.quantifier ≡ 0
    pub bare : Bare h c
    pub not_hub : t ≡ hub → ⊥

  pub record Blocks : Type 0 where
    pub no_split : Splits → ⊥
    pub no_hub : Settles → ⊥
    pub no_splice : Splices → ⊥

module _ (g : Grammar) (cycle : List ℕ) (hub : ℕ) where
  -- What an alternative needs.
  pub record CornersTold {B : Type 0} (es : List (Element B)) : Type 0 where
    pub splits : (i t : ℕ) → (planned_corner g cycle hub es ≡ optional i t)
        ↔ ((x : CornerAt g cycle es i t) × Splits hub x.head x.site t)
    pub splices : (i t : ℕ) → (planned_corner g cycle hub es ≡ satellite i t)
        ↔ ((x : CornerAt g cycle es i t) × Splices hub x.head x.site t)
    pub blocks : (planned_corner g cycle hub es ≡ blocked)
        ↔ ((i : ℕ) × (t : ℕ) × (x : CornerAt g cycle es i t) × Blocks hub x.head x.site t)
    pub settles : (planned_corner g cycle hub es ≡ settled) ↔ (Work g cycle hub es → ⊥)

  module _ (d : ℕ) (rs : List (RuleOf (Block (suc d)))) where
    -- Why a satellite's alternatives cannot all be spliced between two parts of another: the first that cannot, and of it
    -- labels before bindings before options.
    pub data Collides (p : Planned d) (front rest : Items d) : List (AlternativeOf (Block d)) → Clause → Type 0 where
      labels : {a : AlternativeOf (Block d)} {as' : List (AlternativeOf (Block d))} → SameLabel d (front ++ rest) a.elements
          → Collides p front rest (a ∷ as') label_collision
      bindings : {a : AlternativeOf (Block d)} {as' : List (AlternativeOf (Block d))} → (SameLabel d (front ++ rest) a.elements → ⊥)
          → SameBinding d (front ++ rest) a.elements → Collides p front rest (a ∷ as') binding_collision
      options : {a : AlternativeOf (Block d)} {as' : List (AlternativeOf (Block d))} → (SameLabel d (front ++ rest) a.elements → ⊥)
          → (SameBinding d (front ++ rest) a.elements → ⊥) → OtherValue p.options a.options
          → Collides p front rest (a ∷ as') option_collision
      later : {a : AlternativeOf (Block d)} {as' : List (AlternativeOf (Block d))} {why : Clause}
          → (SameLabel d (front ++ rest) a.elements → ⊥) → (SameBinding d (front ++ rest) a.elements → ⊥)
          → (OtherValue p.options a.options → ⊥) → Collides p front rest as' why → Collides p front rest (a ∷ as') why

    -- Why nothing can take the place of an alternative.
    pub data Stuck (p : Planned d) : Clause → Type 0 where
      blocked_at : {i t : ℕ} (x : CornerAt g cycle p.elements i t) → Blocks hub x.head x.site t → Stuck p blocked_corner
      dangling_at : {i t : ℕ} (x : CornerAt g cycle p.elements i t)
          → Splits hub x.head x.site t ⊎ Splices hub x.head x.site t → (r : RuleOf (Block (suc d))) → Memᴰ r rs
          → r.id ≡ t → RefersTo d r.name (x.front ++ x.rest) → Stuck p dangling_reference
      colliding_at : {i t : ℕ} (x : CornerAt g cycle p.elements i t) → Splices hub x.head x.site t
          → (r : RuleOf (Block (suc d))) → Memᴰ r rs → r.id ≡ t → (RefersTo d r.name (x.front ++ x.rest) → ⊥)
          → {why : Clause} → Collides p x.front x.rest r.body why → Stuck p why

    -- The first alternative with work left is stuck.
    pub record FirstStuck (ps : List (Planned d)) (why : Clause) : Type 0 where
      pub front : List (Planned d)
      pub slot : Planned d
      pub rest : List (Planned d)
      pub whole : front ++ (slot ∷ rest) ≡ ps
      pub is_first : NoWork d rs g cycle hub front
      pub is_stuck : Stuck slot why

    pub record DeclinesTold (ps : List (Planned d)) : Type 0 where
      pub declines : (why : Clause) → (step d rs g cycle hub ps ≡ some (declined why)) ↔ FirstStuck ps why
      pub ends : (step d rs g cycle hub ps ≡ none) ↔ NoWork d rs g cycle hub ps
