-- What is promised of what is found out about a grammar (SPECIFICATION 5.2 and 6) when plans are applied: it changes for the rules
-- joined and for those removed alone, and which rules are nullable does not change.
use Rattle.std.specs.Prelude.{ℕ, ◌≡◌, ◌↔◌, true, false, ◌&&◌}
use mathlib.Core.List.{List, Memᴰ}
use Rattle.grammar.specs.Lists.{member}
use Rattle.grammar.specs.Tree.{Block, RuleOf}
use Rattle.grammar.specs.Corners.{Corners}
use Rattle.reference.specs.Analysis.{ids_of, collect_calls_into, block_is_nullable, nullable_rules, grammar_of, block_corners}

-- Of rules before and after some plans, and the ids of the rules joined.
pub record FactsStay (d : ℕ) (before : List (RuleOf (Block d))) (joined : List ℕ) (after : List (RuleOf (Block d))) : Type 0 where
  -- A rule that was not joined stays as it was, unless its id is gone; so it can be inlined (7.5) exactly if it could.
  pub rules : (r : RuleOf (Block d)) → member r.id joined ≡ false
      → Memᴰ r after ↔ (Memᴰ r before × (member r.id (ids_of after) ≡ true))
  -- Of the rules left those are nullable that were (6.4), joined ones too; no other is.
  pub nullable : (i : ℕ) → member i (nullable_rules d after) ≡ (member i (ids_of after) && member i (nullable_rules d before))
  -- The body of a rule left, joined or not, calls what it does in the grammar before (6.1); it can be empty if it can there (6.3),
  -- and has the same left corners (6.6), in each reading.
  pub calls : (r : RuleOf (Block d)) → Memᴰ r after
      → collect_calls_into (grammar_of d after) d r.body ≡ collect_calls_into (grammar_of d before) d r.body
  pub empty : (r : RuleOf (Block d)) → Memᴰ r after
      → block_is_nullable (grammar_of d after) d r.body ≡ block_is_nullable (grammar_of d before) d r.body
  pub corners : (c : Corners) (r : RuleOf (Block d)) → Memᴰ r after
      → block_corners c (grammar_of d after) d r.body ≡ block_corners c (grammar_of d before) d r.body
