-- The form of a sheet that a value of the code stands for.
use Rattle.grammar.specs.Form as grammar
use Rattle.words.specs.declared.form.Form.{Form}

abbrev pub form_of : Form → grammar.Form
form_of f = record { precedences = f.precedences }
