-- The words of what is read, and their form.
use Rattle.std.specs.Prelude.{ℕ, List}
use Rattle.grammar.specs.Words.{words}
use Rattle.grammar.specs.Form.{Form}
use Rattle.words.specs.Form.{form_of}
use Rattle.records.specs.declared.lent.Records.{Records}

abbrev pub text : Records → List ℕ
text s = words s.bytes.now

-- The form in which it is read.
abbrev pub form : Records → Form
form s = form_of s.form
