-- The forms that a sheet has had: the same trees, in other words.
use Rattle.std.specs.Prelude.{ℕ, Bool, true, false}

-- What a form has a place for: a third word of each call, its precedence.
pub record Form : Type 0 where
  pub precedences : Bool

abbrev pub first_form : Form
first_form = record { precedences = false }

-- The form of every sheet that is handed in or out today.
abbrev pub newest : Form
newest = record { precedences = true }

-- How many words a call's payload has.
abbrev pub call_words : Form → ℕ
call_words f = elim f.precedences [ true ↦ 3 | false ↦ 2 ]
