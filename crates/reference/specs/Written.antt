-- Trees as tables write them: what is not written in them is 0 or empty, and every unit is a parser's.
use Rattle.std.specs.Prelude.{ℕ, List, []}
use Rattle.grammar.specs.Numbers.{parser, once}
use Rattle.grammar.specs.Tree.{Label, unlabelled, Leaf, call, Element, leaf, Block, inner_depth, Alternative, Rule, Counters, Sheet}

abbrev pub element : (id quantifier : ℕ) → Leaf → Element (Block inner_depth)
element i q l = leaf (record { id = i; carried = 0; quantifier = q; label = unlabelled; options = [] }) l

abbrev pub labelled_element : (id : ℕ) → Label → Leaf → Element (Block inner_depth)
labelled_element i x l = leaf (record { id = i; carried = 0; quantifier = once; label = x; options = [] }) l

abbrev pub call_to : (name : ℕ) → Leaf
call_to n = call (record { name = n; arguments = 0; precedence = 0 })

abbrev pub alternative : (id : ℕ) → List (Element (Block inner_depth)) → Alternative
alternative i es = record { id = i; carried = 0; flag = 0; options = []; elements = es }

abbrev pub rule : (id name : ℕ) → List Alternative → Rule
rule i n as' = record { id = i; name = n; flags = 0; body = as' }

-- Counters of alternatives and elements alone.
abbrev pub counted : (alternative element : ℕ) → Counters
counted a e = record { alternative = a; element = e; label = 0; action = 0; predicate = 0 }

abbrev pub unit : Counters → (preserved : List ℕ) → List Rule → Sheet
unit c ps rs = record { kind = parser; rules = rs; preserved = ps; counters = c }
