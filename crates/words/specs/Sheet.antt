-- The words of a sheet.
use Rattle.std.specs.Prelude.{ℕ, List}
use Rattle.grammar.specs.Words.{words}
use Rattle.words.specs.declared.sheet.Sheet.{Sheet}

abbrev pub text : Sheet → List ℕ
text s = words s.bytes.now
