-- The verdict on good rules: refusal 5 where two ids or names are equal, refusal 6 where only an id is not below its counter.
use Rattle.std.specs.Prelude.{Bool, true, false, Result, Ok, Err}
use Rattle.words.specs.declared.numbers.Refusal.{Refusal}
use Rattle.words.specs.declared.numbers.Refusal.TheVariants.{SharedNumber, IdPastCounter}

abbrev pub verdict : (distinct below : Bool) → Result (Unit {0}) Refusal
verdict false b = Err SharedNumber
verdict true false = Err IdPastCounter
verdict true true = Ok tt
