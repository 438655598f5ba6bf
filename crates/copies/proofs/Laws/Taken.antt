-- What it is to take an id of a sort, by the definition's counters.
use Rattle.std.specs.Prelude.{ℕ, ◌+◌, ◌<◌, ◌^◌, ◌≡◌}
use Rattle.std.proofs.Common.{arith, rules}
use Rattle.reference.specs.Apply.{past}
use Rattle.words.specs.Kinds.{sort_number}
use Rattle.words.specs.declared.numbers.Sort.{Sort}
use Rattle.words.specs.declared.numbers.Sort.TheVariants.{Alternative, Element, Label, Action, Predicate}
use Rattle.writing.specs.Taken.{counters_of, following, Took}
use Rattle.writing.specs.declared.counters.Counters.{Counters}
use Rattle.copies.specs.Reasons.{counter_of}

-- The number behind a number that is not the last.
next_of : (n : ℕ) → n + 1 < 2 ^ 32 → following n ≡ n + 1
next_of n h = omega arith

module _ (c : Counters) (id : ℕ) (r : Counters) where
  -- The id is the sort's counter.
  pub taken_is : (sort : Sort) → Took sort c id r → id ≡ counter_of sort c
  taken_is Alternative t = t.is
  taken_is Element t = t.is
  taken_is Label t = t.is
  taken_is Action t = t.is
  taken_is Predicate t = t.is

  -- Where there is a next number, the counters are those of the definition.
  pub taken_past : (sort : Sort) → Took sort c id r → counter_of sort c + 1 < 2 ^ 32
      → counters_of r ≡ past (sort_number sort) (counters_of c)
  taken_past Alternative t h = rw (t.alternative, t.element, t.label, t.action, t.predicate, next_of c.alternative h) (search rules)
  taken_past Element t h = rw (t.alternative, t.element, t.label, t.action, t.predicate, next_of c.element h) (search rules)
  taken_past Label t h = rw (t.alternative, t.element, t.label, t.action, t.predicate, next_of c.label h) (search rules)
  taken_past Action t h = rw (t.alternative, t.element, t.label, t.action, t.predicate, next_of c.action h) (search rules)
  taken_past Predicate t h = rw (t.alternative, t.element, t.label, t.action, t.predicate, next_of c.predicate h) (search rules)
