-- What is promised of the test whether a satellite can be inlined (SPECIFICATION 7.5).
use Rattle.std.specs.Prelude.{ℕ, suc, ◌≡◌}
use mathlib.Core.List.{Memᴰ}
use Rattle.grammar.specs.Tree.{Leaf, epsilon, action, predicate, call, token, terminal, end_of_input, AlternativeOf, Block, RuleOf}
use Rattle.language.specs.Shape.{OnBlock}

-- Neither an action nor a predicate.
abbrev pub NoCode : Leaf → Type 0
NoCode epsilon = Unit {0}
NoCode (action a) = ⊥
NoCode (predicate p) = ⊥
NoCode (call c) = Unit {0}
NoCode (token n) = Unit {0}
NoCode terminal = Unit {0}
NoCode end_of_input = Unit {0}

-- Nothing in its flags, no labelled outermost alternative, and no action or predicate, in blocks too.
pub record Inlinable (d : ℕ) (r : RuleOf (Block (suc d))) : Type 0 where
  pub flags : r.flags ≡ 0
  pub unlabelled : (a : AlternativeOf (Block d)) → Memᴰ a r.body → a.flag ≡ 0
  pub no_code : OnBlock (λ h l. NoCode l) (suc d) r.body
