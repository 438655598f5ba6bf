-- How left corners are read, as the definition has it (SPECIFICATION 14.3).
use Rattle.std.specs.Prelude.{Bool, true, false}
use Rattle.grammar.specs.Corners.{Corners, rust, textbook}
use Rattle.analysis.specs.declared.corners.Corners.{Corners as Held}
use Rattle.analysis.specs.declared.corners.Corners.TheVariants.{Rust, Textbook}

abbrev pub corners_of : Held → Corners
corners_of Rust = rust
corners_of Textbook = textbook

-- Whether left corners go past a symbol that can be empty.
abbrev pub passes_symbols : Corners → Bool
passes_symbols rust = false
passes_symbols textbook = true
