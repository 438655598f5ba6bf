-- The limits of a run, and the numbers of its trail, by name (SPECIFICATION 4, 8 and 12).
use Rattle.std.specs.Prelude.{ℕ, ◌*◌}
use Rattle.grammar.specs.Numbers.{word_end}

-- A planned list after a step, and the least budget.
abbrev pub most_alternatives : ℕ
most_alternatives = 1024

abbrev pub most_elements : ℕ
most_elements = 8192

abbrev pub most_options : ℕ
most_options = 2048

abbrev pub least_budget : ℕ
least_budget = 64

-- A counter is below this.
abbrev pub counter_end : ℕ
counter_end = word_end

-- The trail: its entries, and their words.
abbrev pub most_entries : ℕ
most_entries = 4096

abbrev pub entry_words : ℕ
entry_words = 4

abbrev pub most_trail_words : ℕ
most_trail_words = entry_words * most_entries

-- Reasons of an entry: the original's RuleBoundary and BlockBoundary.
abbrev pub rule_boundary : ℕ
rule_boundary = 1

abbrev pub block_boundary : ℕ
block_boundary = 2
