-- The numbers that have a meaning in a sheet, each by the name that the code has for it.
use Rattle.std.specs.Prelude.{ℕ, ◌≡◌, Result, MatchResult}
use Rattle.grammar.specs.Numbers.{lexer, parser, combined}
use Rattle.grammar.specs.Numbers.{once, optional_greedy, optional_nongreedy, zero_or_more_greedy, zero_or_more_nongreedy}
use Rattle.grammar.specs.Numbers.{one_or_more_greedy, one_or_more_nongreedy}
use Rattle.grammar.specs.Numbers.{epsilon_kind, action_kind, predicate_kind, call_kind, token_kind, terminal_kind, block_kind, end_kind}
use Rattle.grammar.specs.Numbers.{attribute, qualified, non_local}
use Rattle.grammar.specs.Numbers.{alternative_sort, element_sort, label_sort, action_sort, predicate_sort}
use Rattle.words.specs.declared.numbers.UnitKind.{UnitKind}
use Rattle.words.specs.declared.numbers.UnitKind.TheVariants.{Lexer, Parser, Combined}
use Rattle.words.specs.declared.numbers.Quantifier.{Quantifier}
use Rattle.words.specs.declared.numbers.Quantifier.TheVariants.{Once, OptionalGreedy, OptionalNongreedy, ZeroOrMoreGreedy}
use Rattle.words.specs.declared.numbers.Quantifier.TheVariants.{ZeroOrMoreNongreedy, OneOrMoreGreedy, OneOrMoreNongreedy}
use Rattle.words.specs.declared.numbers.Kind.{Kind}
use Rattle.words.specs.declared.numbers.Kind.TheVariants as kind
use Rattle.words.specs.declared.numbers.ReferenceKind.{ReferenceKind}
use Rattle.words.specs.declared.numbers.ReferenceKind.TheVariants.{Attribute, Qualified, NonLocal}
use Rattle.words.specs.declared.numbers.Sort.{Sort}
use Rattle.words.specs.declared.numbers.Sort.TheVariants as sort
use Rattle.words.specs.declared.numbers.Unnamed.{Unnamed}

abbrev pub unit_number : UnitKind → ℕ
unit_number Lexer = lexer
unit_number Parser = parser
unit_number Combined = combined

abbrev pub quantifier_number : Quantifier → ℕ
quantifier_number Once = once
quantifier_number OptionalGreedy = optional_greedy
quantifier_number OptionalNongreedy = optional_nongreedy
quantifier_number ZeroOrMoreGreedy = zero_or_more_greedy
quantifier_number ZeroOrMoreNongreedy = zero_or_more_nongreedy
quantifier_number OneOrMoreGreedy = one_or_more_greedy
quantifier_number OneOrMoreNongreedy = one_or_more_nongreedy

abbrev pub kind_number : Kind → ℕ
kind_number kind.Epsilon = epsilon_kind
kind_number kind.Action = action_kind
kind_number kind.Predicate = predicate_kind
kind_number kind.Call = call_kind
kind_number kind.Token = token_kind
kind_number kind.Terminal = terminal_kind
kind_number kind.Block = block_kind
kind_number kind.EndOfInput = end_kind

abbrev pub reference_number : ReferenceKind → ℕ
reference_number Attribute = attribute
reference_number Qualified = qualified
reference_number NonLocal = non_local

abbrev pub sort_number : Sort → ℕ
sort_number sort.Alternative = alternative_sort
sort_number sort.Element = element_sort
sort_number sort.Label = label_sort
sort_number sort.Action = action_sort
sort_number sort.Predicate = predicate_sort

-- What has this number, or the number, where nothing has it.
module _ {A : Type 0} (number_of : A → ℕ) where
  abbrev pub Names : ℕ → Result A Unnamed → Type 0
  Names n r = MatchResult r (λ a. number_of a ≡ n) (λ e. (e.0 ≡ n) × ((a : A) → number_of a ≡ n → ⊥))
