-- What limits of a planned list have to be.
use Rattle.std.specs.Prelude.{ℕ, ◌≤◌}
use Rattle.grammar.specs.Numbers.{most_words}
use Rattle.reference.specs.Numbers.{most_alternatives, most_elements, most_options}

-- They leave what is within them room in the work area, and no sheet has more elements than they allow.
pub record LimitsFit (alternatives elements options : ℕ) : Type 0 where
  pub few_alternatives : alternatives ≤ most_alternatives
  pub few_elements : elements ≤ most_elements
  pub few_options : options ≤ most_options
  pub sheet : most_words ≤ elements
