-- What is promised of one plan and of what it leaves: the language, what is removed, the shape of the rule joined, later
-- cycles: 4 to 7.
use Rattle.std.specs.Prelude.{ℕ, suc, ◌≡◌, ◌↔◌, ◌⊎◌, true, false}
use mathlib.Core.List.{List, ◌∷◌, ◌++◌, Memᴰ}
use mathlib.Core.Equiv.{Iso}
use Rattle.grammar.specs.Lists.{AnyOf, member}
use Rattle.grammar.specs.Tree.{ElementHead, Call, Element, leaf, block, call, AlternativeOf, Block, Leaf, Alternative, Rule, body_depth}
use Rattle.grammar.specs.Tree.{Sheet}
use Rattle.language.specs.Shape.{erase_elements, erase_block, Shapes, erase_rules, Word, OnBlock}
use Rattle.language.specs.Derive.{CanBeEmpty, RuleDerives, RuleCanBeEmpty}
use Rattle.grammar.specs.Corners.{Corners, rust, textbook}
use Rattle.grammar.specs.Numbers.{once}
use Rattle.language.specs.LeftCorners.{IsSymbol, Corner}
use Rattle.language.specs.Cycles.{LeftCorner, called, inside}
use Rattle.reference.specs.Analysis.{grammar_of, left_corner_cycles}
use Rattle.reference.specs.Substitute.{Clause, Limits, Decided, decided, declined}
use Rattle.reference.specs.Plan.{CyclePlan, plan_cycle}
use Rattle.reference.specs.Apply.{apply_plan}
use Rattle.reference.specs.Run.{inner_depth, Stage}
use Rattle.reference.specs.Walks.{is_optional}

abbrev pub Elements : Type 0
Elements = List (Element (Block inner_depth))

-- A rule is kept where a rule of the result has its id, and removed where none has (SPECIFICATION 13.12).
abbrev pub Removed : Rule → List Rule → Type 0
Removed r after = (q : Rule) → Memᴰ q after → q.id ≡ r.id → ⊥

-- A call of a name stands in alternatives, or in a block of theirs at any depth.
pub data Calls : (k : ℕ) → List (AlternativeOf (Block k)) → ℕ → Type 0 where
  outermost : {k : ℕ} {as' : List (AlternativeOf (Block k))} {a : AlternativeOf (Block k)} {h : ElementHead} {c : Call}
      → Memᴰ a as' → Memᴰ (leaf h (call c)) a.elements → Calls k as' c.name
  deeper : {k : ℕ} {as' : List (AlternativeOf (Block (suc k)))} {a : AlternativeOf (Block (suc k))} {h : ElementHead} {b : Block (suc k)}
      {n : ℕ} → Memᴰ a as' → Memᴰ (block h b) a.elements → Calls k b n → Calls (suc k) as' n

-- 4. Every rule that is kept derives the same token strings before and after (SPECIFICATION 1.5): two rules with one id.
pub record SameStrings (before after : List Rule) : Type 0 where
  pub derives : (r q : Rule) → Memᴰ r before → Memᴰ q after → q.id ≡ r.id → (w : Word)
      → RuleDerives body_depth before r.id w ↔ RuleDerives body_depth after q.id w

-- 4a. The derivations of every rule that is kept pair off, string by string: no sentence gains or loses a reading
-- (SPECIFICATION 1.14 and 13.17). Which is paired with which: 4b, in Readings.
pub record SameReadings (before after : List Rule) : Type 0 where
  pub pairs : (r q : Rule) → Memᴰ r before → Memᴰ q after → q.id ≡ r.id → (w : Word)
      → Iso (RuleDerives body_depth before r.id w) (RuleDerives body_depth after q.id w)

-- 5. No rule that is kept calls one that is removed (SPECIFICATION 1.6).
pub record Closed (before after : List Rule) : Type 0 where
  pub uncalled : (r : Rule) → Memᴰ r before → Removed r after → (q : Rule) → Memᴰ q after
      → Calls inner_depth q.body r.name → ⊥

-- 6. The first sort of alternative (SPECIFICATION 1.7 and 13.10): it starts with the plain call of a rule, without arguments,
-- and goes on with something that cannot be empty in a grammar.
pub record Continues (rules : List Rule) (name : ℕ) (es : Elements) : Type 0 where
  pub head : ElementHead
  pub site : Call
  pub rest : Elements
  pub starts : es ≡ leaf head (call site) ∷ rest
  pub called : site.name ≡ name
  pub plain : head.quantifier ≡ once
  pub bare : site.arguments ≡ 0
  pub goes_on : CanBeEmpty (erase_rules body_depth rules) (erase_elements (erase_block inner_depth) rest) → ⊥

-- The second sort: it has no left corner in a cycle, read in a grammar.
pub record NoCorner (corners : Corners) (rules : List Rule) (cycle : List ℕ) (es : Elements) : Type 0 where
  pub none : (q : Rule) → Memᴰ q rules → member q.id cycle ≡ true
      → Corner corners (erase_rules body_depth rules) (erase_elements (erase_block inner_depth) es) q.name → ⊥

-- A leaf is no symbol with quantifier 1 to 4.
abbrev pub NotOptional : Shapes → ElementHead → Leaf → Type 0
NotOptional G h l = IsSymbol G l → is_optional h ≡ false

-- A grammar without a symbol of quantifier 1 to 4.
pub record NoOptionalSymbol (rules : List Rule) : Type 0 where
  pub everywhere : (r : Rule) → Memᴰ r rules → OnBlock (NotOptional (erase_rules body_depth rules)) body_depth r.body

-- An element is such a symbol.
abbrev pub IsOptionalSymbol : {B : Type 0} → Shapes → Element B → Type 0
IsOptionalSymbol G (leaf h l) = IsSymbol G l × (is_optional h ≡ true)
IsOptionalSymbol G (block h b) = ⊥

-- A left corner, as SPECIFICATION 13.11 finds it, has such a symbol in front of it.
unfoldable pub PastSymbol : {G : Shapes} {d : ℕ} {es : List (Element (Block d))} {n : ℕ} → LeftCorner G d es n → Type 0
PastSymbol {G} (called front rest h c w s f) = AnyOf (IsOptionalSymbol G) front
PastSymbol {G} (inside front rest h b w s m k) = AnyOf (IsOptionalSymbol G) front ⊎ PastSymbol k

-- By the textbook's left corners, of an alternative of the second sort: none is in the cycle replaced.
pub record NoLeftCorner (rules : List Rule) (cycle : List ℕ) (es : Elements) : Type 0 where
  pub none : (q : Rule) → Memᴰ q rules → member q.id cycle ≡ true
      → LeftCorner (erase_rules body_depth rules) inner_depth es q.name → ⊥

-- By the textbook's left corners, but for the Rust's run: none is, or a symbol with quantifier 1 to 4 stands in front of it
-- (SPECIFICATION 14.4).
pub record OnlyPastSymbols (rules : List Rule) (cycle : List ℕ) (es : Elements) : Type 0 where
  pub past : (q : Rule) → Memᴰ q rules → member q.id cycle ≡ true
      → (k : LeftCorner (erase_rules body_depth rules) inner_depth es q.name) → PastSymbol k

-- The same in each reading's own words.
abbrev pub SecondSort : Corners → List Rule → List ℕ → Elements → Type 0
SecondSort rust = OnlyPastSymbols
SecondSort textbook = NoLeftCorner

-- A rule joined, as its plan leaves it: every alternative goes on after the rule's plain call, or is of the second sort,
-- which is handed in, since the readings of left corners part there. Both sorts occur.
pub record JoinedShape (Without : Elements → Type 0) (rules : List Rule) (hub : ℕ) : Type 0 where
  pub rule : Rule
  pub is_left : Memᴰ rule rules
  pub is_hub : rule.id ≡ hub
  pub every : (a : Alternative) → Memᴰ a rule.body → Continues rules rule.name a.elements ⊎ Without a.elements
  pub one_continues : (a : Alternative) × Memᴰ a rule.body × Continues rules rule.name a.elements
  pub one_without : (a : Alternative) × Memᴰ a rule.body × Without a.elements

-- 7. If the rule joined cannot be empty, no later cycle holds it (SPECIFICATION 1.8 and 13.15).
pub record NoLaterCycle (corners : Corners) (t : Stage) (later : List Rule) : Type 0 where
  pub free : (RuleCanBeEmpty body_depth t.after.node t.plan.hub → ⊥) → (cycle : List ℕ)
      → Memᴰ cycle (left_corner_cycles corners (grammar_of body_depth later) body_depth later) → member t.plan.hub cycle ≡ false

-- In some rules, a symbol with quantifier 1 to 4 stands in front of a left corner that leads from a member of a cycle to a
-- member of it.
pub record LedPastSymbol (rules : List Rule) (cycle : List ℕ) : Type 0 where
  pub source : Rule
  pub source_there : Memᴰ source rules
  pub source_in : member source.id cycle ≡ true
  pub goal : Rule
  pub goal_there : Memᴰ goal rules
  pub goal_in : member goal.id cycle ≡ true
  pub alternative : Alternative
  pub is_alternative : Memᴰ alternative source.body
  pub corner : LeftCorner (erase_rules body_depth rules) inner_depth alternative.elements goal.name
  pub past : PastSymbol corner

-- What is left of 7 by the textbook's left corners in a run by the Rust's (SPECIFICATION 14.8): if the rule joined cannot be
-- empty, a later cycle by the textbook's may hold it, but only one with such a left corner.
pub record LaterPastSymbols (t : Stage) (later : List Rule) : Type 0 where
  pub led : (RuleCanBeEmpty body_depth t.after.node t.plan.hub → ⊥) → (cycle : List ℕ)
      → Memᴰ cycle (left_corner_cycles textbook (grammar_of body_depth later) body_depth later) → member t.plan.hub cycle ≡ true
      → LedPastSymbol later cycle

-- What is decided on a cycle of a sheet's rules; and that it is declined, for some clause.
abbrev pub decision_on : Limits → Corners → Sheet → List ℕ → Decided (CyclePlan inner_depth)
decision_on limits corners s cycle = plan_cycle limits corners (grammar_of body_depth s.rules) inner_depth s.rules s.preserved cycle

abbrev pub Declined : Limits → Corners → Sheet → List ℕ → Type 0
Declined limits corners s cycle = (c : Clause) × (decision_on limits corners s cycle ≡ declined c)

-- A cycle of a sheet's rules, the first that is not declined.
pub record NextCycle (limits : Limits) (corners : Corners) (s : Sheet) (cycle : List ℕ) : Type 0 where
  pub in_front : List (List ℕ)
  pub behind : List (List ℕ)
  pub is_cycle : in_front ++ (cycle ∷ behind) ≡ left_corner_cycles corners (grammar_of body_depth s.rules) body_depth s.rules
  pub is_first : (other : List ℕ) → Memᴰ other in_front → Declined limits corners s other

-- Of a stage and the sheet that it starts from (SPECIFICATION 5.2, 5.3 and 13.13): its cycle is the first that is not declined, its
-- plan is that cycle's, and what it leaves is what applying the plan gives, with ids from the sheet's counters.
pub record Joins (limits : Limits) (corners : Corners) (before : Sheet) (t : Stage) : Type 0 where
  pub starts : t.before ≡ before.rules
  pub in_cycle : member t.plan.hub t.cycle ≡ true
  pub next : NextCycle limits corners before t.cycle
  pub is_plan : decision_on limits corners before t.cycle ≡ decided t.plan
  pub is_applied : t.after ≡ apply_plan inner_depth before.rules t.plan before.counters
