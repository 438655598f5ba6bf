-- The limits of a sheet, and the numbers that have a meaning in it, by name (SPECIFICATION 2 and 4).
use Rattle.std.specs.Prelude.{ℕ, ◌^◌}

-- A sheet: its bytes, its words of 32 bits, its trailer.
abbrev pub least_bytes : ℕ
least_bytes = 32

abbrev pub most_bytes : ℕ
most_bytes = 32768

abbrev pub most_words : ℕ
most_words = 8192

abbrev pub trailer_words : ℕ
trailer_words = 8

abbrev pub word_end : ℕ
word_end = 2 ^ 32

-- What a caller lends at least.
abbrev pub result_bytes : ℕ
result_bytes = 32768

abbrev pub trail_bytes : ℕ
trail_bytes = 65536

abbrev pub work_bytes : ℕ
work_bytes = 65536

-- Names run from 1 to this.
abbrev pub most_name : ℕ
most_name = 4294967295

abbrev pub rule_limit : ℕ
rule_limit = 128

-- Kinds of unit.
abbrev pub lexer : ℕ
lexer = 1

abbrev pub parser : ℕ
parser = 2

abbrev pub combined : ℕ
combined = 3

-- The largest flags of a rule, which has arguments (1) and something else that stops inlining (2); the largest flag of an
-- alternative, which is labelled.
abbrev pub most_rule_flags : ℕ
most_rule_flags = 3

abbrev pub most_alternative_flag : ℕ
most_alternative_flag = 1

-- Quantifiers; but for the first the odd ones are greedy.
abbrev pub once : ℕ
once = 0

abbrev pub optional_greedy : ℕ
optional_greedy = 1

abbrev pub optional_nongreedy : ℕ
optional_nongreedy = 2

abbrev pub zero_or_more_greedy : ℕ
zero_or_more_greedy = 3

abbrev pub zero_or_more_nongreedy : ℕ
zero_or_more_nongreedy = 4

abbrev pub one_or_more_greedy : ℕ
one_or_more_greedy = 5

abbrev pub one_or_more_nongreedy : ℕ
one_or_more_nongreedy = 6

-- Kinds of element. A word of an element packs its kind with its quantifier.
abbrev pub epsilon_kind : ℕ
epsilon_kind = 0

abbrev pub action_kind : ℕ
action_kind = 1

abbrev pub predicate_kind : ℕ
predicate_kind = 2

abbrev pub call_kind : ℕ
call_kind = 3

abbrev pub token_kind : ℕ
token_kind = 4

abbrev pub terminal_kind : ℕ
terminal_kind = 5

abbrev pub block_kind : ℕ
block_kind = 6

abbrev pub end_kind : ℕ
end_kind = 7

abbrev pub kind_end : ℕ
kind_end = 256

-- Kinds of reference.
abbrev pub attribute : ℕ
attribute = 0

abbrev pub qualified : ℕ
qualified = 1

abbrev pub non_local : ℕ
non_local = 2

-- Sorts of node; ids are told apart within a sort.
abbrev pub rule_sort : ℕ
rule_sort = 1

abbrev pub alternative_sort : ℕ
alternative_sort = 2

abbrev pub element_sort : ℕ
element_sort = 3

abbrev pub label_sort : ℕ
label_sort = 4

abbrev pub action_sort : ℕ
action_sort = 5

abbrev pub predicate_sort : ℕ
predicate_sort = 6

-- Refusals.
abbrev pub bad_length : ℕ
bad_length = 1

abbrev pub short_buffer : ℕ
short_buffer = 2

abbrev pub bad_trailer : ℕ
bad_trailer = 3

abbrev pub bad_record : ℕ
bad_record = 4

abbrev pub shared_number : ℕ
shared_number = 5

abbrev pub id_past_counter : ℕ
id_past_counter = 6

abbrev pub plan_too_large : ℕ
plan_too_large = 7

abbrev pub counter_past_end : ℕ
counter_past_end = 8

abbrev pub result_too_long : ℕ
result_too_long = 9
