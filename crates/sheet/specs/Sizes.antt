-- How much a sheet holds: alternatives and elements are counted by their ids, nested ones too.
use Rattle.std.specs.Prelude.{ℕ, ◌≡◌, List, [], ◌∷◌, length, replicate, Result, Ok, Err}
use Rattle.grammar.specs.Numbers.{alternative_sort, element_sort, rule_limit}
use Rattle.grammar.specs.Tree as tree
use Rattle.grammar.specs.Words.{words}
use Rattle.grammar.specs.Ids.{body_ids, rule_ids, rule_names}
use Rattle.grammar.specs.Reading as reading
use Rattle.grammar.specs.Reading.{refused, sheet}
use Rattle.sheet.specs.declared.counts.Sizes.{Sizes}
use Rattle.grammar.specs.Found.{FoundRules}
use Rattle.words.specs.Room.{Room}
use Rattle.records.specs.Rules.{row, places_from}
use Rattle.sheet.specs.Answer.{Numbers, parts_of, number_in}
use Rattle.words.specs.declared.numbers.Refusal.{Refusal}
use Rattle.words.specs.Refusal.{refusal_number}

abbrev pub sizes_of : tree.Sheet → Sizes
sizes_of s =
    record {
      rules = length s.rules;
      alternatives = length (body_ids alternative_sort s.rules);
      elements = length (body_ids element_sort s.rules);
      preserved = length s.preserved;
    }

abbrev pub summary_of : reading.Reading → Result Sizes ℕ
summary_of (refused n) = Err n
summary_of (sheet s) = Ok (sizes_of s)

-- The same of what the code tells.
abbrev pub told_of : Result Sizes Refusal → Result Sizes ℕ
told_of (Err e) = Err (refusal_number e)
told_of (Ok z) = Ok z

-- The number for each case of the summary, and the sizes of a sheet (SPECIFICATION 3.8); then that the code's summary is the
-- definition's.
abbrev pub number_of : Result Sizes Refusal → ℕ
number_of (Err e) = refusal_number e
number_of (Ok z) = 0

abbrev pub values_of : Result Sizes Refusal → List ℕ
values_of (Err e) = []
values_of (Ok z) = z.rules ∷ z.alternatives ∷ z.elements ∷ z.preserved ∷ []

abbrev pub values_in : reading.Reading → List ℕ
values_in (refused n) = []
values_in (sheet s) =
    length s.rules ∷ length (body_ids alternative_sort s.rules) ∷ length (body_ids element_sort s.rules) ∷ length s.preserved ∷ []

pub record SummedAs (found : reading.Reading) (r : Result Sizes Refusal) : Type 0 where
  pub summary : told_of r ≡ summary_of found
  pub number : number_of r ≡ number_in found
  pub values : values_of r ≡ values_in found

-- Rules stand from the first word up to an end.
pub record Standing (bs : List ℕ) (end n : ℕ) : Type 0 where
  pub room : Room bs end
  pub found : FoundRules (words bs) end n 0

pub record Counted (rs : List tree.Rule) (n preserved : ℕ) (r : Sizes) : Type 0 where
  pub rules : r.rules ≡ n
  pub alternatives : r.alternatives ≡ length (body_ids alternative_sort rs)
  pub elements : r.elements ≡ length (body_ids element_sort rs)
  pub kept : r.preserved ≡ preserved

-- The reader's answer as numbers (SPECIFICATION 3.9): a refusal and zeros; or 0, unit kind, the preserved list's place and size, the five
-- counters, and the numbers of rules, alternatives and elements.
abbrev pub numbers_from : Numbers → Sizes → List ℕ
numbers_from p z =
    0
    ∷ p.kind
    ∷ p.preserved
    ∷ p.count
    ∷ p.counters.alternative
    ∷ p.counters.element
    ∷ p.counters.label
    ∷ p.counters.action
    ∷ p.counters.predicate
    ∷ z.rules
    ∷ z.alternatives
    ∷ z.elements
    ∷ []

abbrev pub numbers_of : reading.Reading → List ℕ
numbers_of (refused n) = n ∷ replicate 11 0
numbers_of (sheet s) = numbers_from (parts_of s) (sizes_of s)

-- The rows beside it, zeros under a refusal.
abbrev pub ids_of : reading.Reading → List ℕ
ids_of (refused n) = replicate rule_limit 0
ids_of (sheet s) = row (rule_ids s.rules)

abbrev pub names_of : reading.Reading → List ℕ
names_of (refused n) = replicate rule_limit 0
names_of (sheet s) = row (rule_names s.rules)

abbrev pub places_of : reading.Reading → List ℕ
places_of (refused n) = replicate rule_limit 0
places_of (sheet s) = row (places_from 0 s.rules)
