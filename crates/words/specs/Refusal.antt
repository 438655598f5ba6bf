-- The number of each refusal (SPECIFICATION 4).
use Rattle.std.specs.Prelude.{ℕ}
use Rattle.grammar.specs.Numbers.{bad_length, short_buffer, bad_trailer, bad_record, shared_number, id_past_counter}
use Rattle.grammar.specs.Numbers.{plan_too_large, counter_past_end, result_too_long}
use Rattle.words.specs.declared.numbers.Refusal.{Refusal}
use Rattle.words.specs.declared.numbers.Refusal.TheVariants.{BadLength, ShortBuffer, BadTrailer, BadRecord, SharedNumber}
use Rattle.words.specs.declared.numbers.Refusal.TheVariants.{IdPastCounter, PlanTooLarge, CounterPastEnd, ResultTooLong}

abbrev pub refusal_number : Refusal → ℕ
refusal_number BadLength = bad_length
refusal_number ShortBuffer = short_buffer
refusal_number BadTrailer = bad_trailer
refusal_number BadRecord = bad_record
refusal_number SharedNumber = shared_number
refusal_number IdPastCounter = id_past_counter
refusal_number PlanTooLarge = plan_too_large
refusal_number CounterPastEnd = counter_past_end
refusal_number ResultTooLong = result_too_long
