-- What taking an id from the counters gives (SPECIFICATION 11.5): the counter of its sort, which moves on by one, up to the last
-- number that a word holds.
use Rattle.std.specs.Prelude.{ℕ, ◌+◌, ◌-◌, min, ◌≡◌}
use Rattle.grammar.specs.Tree as tree
use Rattle.grammar.specs.Numbers.{word_end}
use Rattle.writing.specs.declared.counters.Counters.{Counters}
use Rattle.words.specs.declared.numbers.Sort.{Sort}
use Rattle.words.specs.declared.numbers.Sort.TheVariants.{Alternative, Element, Label, Action, Predicate}

-- The definition's counters.
abbrev pub counters_of : Counters → tree.Counters
counters_of c =
    record { alternative = c.alternative; element = c.element; label = c.label; action = c.action; predicate = c.predicate }

-- The number behind a number; the last stays.
abbrev pub following : ℕ → ℕ
following n = min (n + 1) (word_end - 1)

pub record TookAlternative (c : Counters) (id : ℕ) (r : Counters) : Type 0 where
  pub is : id ≡ c.alternative
  pub alternative : r.alternative ≡ following c.alternative
  pub element : r.element ≡ c.element
  pub label : r.label ≡ c.label
  pub action : r.action ≡ c.action
  pub predicate : r.predicate ≡ c.predicate

pub record TookElement (c : Counters) (id : ℕ) (r : Counters) : Type 0 where
  pub is : id ≡ c.element
  pub alternative : r.alternative ≡ c.alternative
  pub element : r.element ≡ following c.element
  pub label : r.label ≡ c.label
  pub action : r.action ≡ c.action
  pub predicate : r.predicate ≡ c.predicate

pub record TookLabel (c : Counters) (id : ℕ) (r : Counters) : Type 0 where
  pub is : id ≡ c.label
  pub alternative : r.alternative ≡ c.alternative
  pub element : r.element ≡ c.element
  pub label : r.label ≡ following c.label
  pub action : r.action ≡ c.action
  pub predicate : r.predicate ≡ c.predicate

pub record TookAction (c : Counters) (id : ℕ) (r : Counters) : Type 0 where
  pub is : id ≡ c.action
  pub alternative : r.alternative ≡ c.alternative
  pub element : r.element ≡ c.element
  pub label : r.label ≡ c.label
  pub action : r.action ≡ following c.action
  pub predicate : r.predicate ≡ c.predicate

pub record TookPredicate (c : Counters) (id : ℕ) (r : Counters) : Type 0 where
  pub is : id ≡ c.predicate
  pub alternative : r.alternative ≡ c.alternative
  pub element : r.element ≡ c.element
  pub label : r.label ≡ c.label
  pub action : r.action ≡ c.action
  pub predicate : r.predicate ≡ following c.predicate

-- The same of any sort.
abbrev pub Took : Sort → Counters → ℕ → Counters → Type 0
Took Alternative = TookAlternative
Took Element = TookElement
Took Label = TookLabel
Took Action = TookAction
Took Predicate = TookPredicate
