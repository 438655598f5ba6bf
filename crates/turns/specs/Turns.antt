-- The substitution, one alternative after the other: what is settled in front, what is still to be looked at behind it.
use Rattle.std.specs.Prelude.{ℕ, suc, ◌≡◌, List, ◌++◌}
use Rattle.std.proofs.Math.Option.{Option, none, some}
use Rattle.grammar.specs.Tree.{Block, RuleOf}
use Rattle.grammar.specs.Lists.{AllOf}
use Rattle.reference.specs.Analysis.{Grammar}
use Rattle.reference.specs.Substitute.{Planned, Limits, Decided, Substituted, replacement, planned_corner, substitute}

-- What a substitution is made on.
pub record Task (d : ℕ) : Type 0 where
  pub rules : List (RuleOf (Block (suc d)))
  pub grammar : Grammar
  pub cycle : List ℕ
  pub hub : ℕ
  pub limits : Limits

module _ {d : ℕ} (t : Task d) where
  -- What the definition puts in the place of an alternative.
  abbrev pub replaced : Planned d → Option (Decided (List (Planned d)))
  replaced p = replacement d t.rules p (planned_corner t.grammar t.cycle t.hub p.elements)

  pub record Replaced (p : Planned d) (r : Decided (List (Planned d))) : Type 0 where
    pub is : replaced p ≡ some r

  -- No work is left with it.
  pub record IsSettled (p : Planned d) : Type 0 where
    pub none : replaced p ≡ none

  abbrev pub AllSettled : List (Planned d) → Type 0
  AllSettled = AllOf IsSettled

  abbrev pub substitution : (left made : ℕ) → List (Planned d) → Decided (Substituted d)
  substitution = substitute d t.rules t.grammar t.cycle t.hub t.limits

  module _ (budget : ℕ) (start : List (Planned d)) where
    -- The whole substitution is what is left of it: so many steps, so many made, a list in which the first are settled.
    pub record Substituting (left made : ℕ) (out ps : List (Planned d)) : Type 0 where
      pub same : substitution budget 0 start ≡ substitution left made (out ++ ps)
      pub settled : AllSettled out

    -- What it comes to.
    pub record ComesTo (a : Decided (Substituted d)) : Type 0 where
      pub is : substitution budget 0 start ≡ a
