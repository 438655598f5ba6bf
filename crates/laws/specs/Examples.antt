-- Sheets that Demands names, what the run makes of them, and what it must not make of them.
use Rattle.std.specs.Prelude.{ℕ, zero, suc, List, [], ◌∷◌}
use Rattle.grammar.specs.Numbers.{once, optional_greedy, attribute, non_local}
use Rattle.grammar.specs.Tree.{unlabelled, labelled, ElementHead, action, predicate, call, token, terminal, end_of_input, Leaf, Element}
use Rattle.grammar.specs.Tree.{leaf}
use Rattle.grammar.specs.Tree.{block, Block, inner_depth, Alternative, Rule, Sheet}
use Rattle.reference.specs.Written.{element, call_to, alternative, rule, counted, unit}

-- e: a | INT; a: e PLUS | NAME? e MINUS; where e is 1, a 2, INT 3, PLUS 4, NAME 5, MINUS 6.
abbrev pub parting : Sheet
parting =
    unit (counted 14 27) []
    (rule 1 1 (alternative 10 (element 20 once (call_to 2) ∷ []) ∷ alternative 11 (element 21 once (token 3) ∷ []) ∷ [])
    ∷ rule 2 2
    (alternative 12 (element 22 once (call_to 1) ∷ element 23 once (token 4) ∷ [])
    ∷ alternative 13 (element 24 optional_greedy (token 5) ∷ element 25 once (call_to 1) ∷ element 26 once (token 6) ∷ [])
    ∷ [])
    ∷ [])

-- NAME? e MINUS
abbrev pub behind_name : List (Element (Block inner_depth))
behind_name = element 29 optional_greedy (token 5) ∷ element 30 once (call_to 1) ∷ element 31 once (token 6) ∷ []

-- e: e PLUS | NAME? e MINUS | INT;
abbrev pub parted : List Rule
parted =
    rule 1 1
    (alternative 14 (element 27 once (call_to 1) ∷ element 28 once (token 4) ∷ []) ∷ alternative 15 behind_name ∷ alternative 11
    (element 21 once (token 3) ∷ []) ∷ [])
    ∷ []

-- e: a | .?; a: e a; with 61 words the smallest on which a nullable hub stands in a later cycle. A hub has an alternative
-- that is settled outside the cycle and one that is not, and its satellite one; hub and satellite call each other. The
-- first has something significant, so it has no less than `.?`. The hub comes into a later cycle only by a call behind its
-- own in front, which is a third call.
abbrev pub returning : Sheet
returning =
    unit (counted 13 24) []
    (rule 1 1 (alternative 10 (element 20 once (call_to 2) ∷ []) ∷ alternative 11 (element 21 optional_greedy terminal ∷ []) ∷ [])
    ∷ rule 2 2 (alternative 12 (element 22 once (call_to 1) ∷ element 23 once (call_to 2) ∷ []) ∷ [])
    ∷ [])

-- e: e a | .?; a: e a;
abbrev pub returned : List Rule
returned =
    rule 1 1
    (alternative 13 (element 24 once (call_to 1) ∷ element 25 once (call_to 2) ∷ []) ∷ alternative 11
    (element 21 optional_greedy terminal ∷ []) ∷ [])
    ∷ rule 2 2 (alternative 12 (element 22 once (call_to 1) ∷ element 23 once (call_to 2) ∷ []) ∷ [])
    ∷ []

-- An element without label and options.
abbrev bare : (id carried quantifier : ℕ) → ElementHead
bare i c q = record { id = i; carried = c; quantifier = q; label = unlabelled; options = [] }

abbrev labelled_head : ElementHead
labelled_head =
    record { id = 3; carried = 24; quantifier = optional_greedy; label = labelled 4 15; options = record { name = 16; value = 32 } ∷ [] }

-- e: ~21 # <o=31> {$i}~22 &{$j::k}~23 x=a[33]?^3<p=32>~24 INT~25 .~26 EOF~30 (~28 <q=34> NAME~29)~27; n: -; where n is 10, e 11,
-- and o, i, j, x, p, a, INT, q, NAME are 12 to 20: a name at each place where one can stand, and a precedence. No other word is from
-- 10 to 30.
abbrev pub every_sort : Sheet
every_sort =
    unit (record { alternative = 7; element = 9; label = 5; action = 2; predicate = 2 }) (2 ∷ [])
    (record {
      id = 1;
      name = 11;
      flags = 2;
      body = record {
        id = 5;
        carried = 21;
        flag = 1;
        options = record { name = 12; value = 31 } ∷ [];
        elements = leaf (bare 1 22 once) (action (record { id = 1; references = record { kind = attribute; name = 13 } ∷ [] }))
            ∷ leaf (bare 2 23 once) (predicate (record { id = 1; references = record { kind = non_local; name = 14 } ∷ [] }))
            ∷ leaf labelled_head (call (record { name = 17; arguments = 33; precedence = 4 }))
            ∷ leaf (bare 4 25 once) (token 18)
            ∷ leaf (bare 5 26 once) terminal
            ∷ leaf (bare 8 30 once) end_of_input
            ∷ block (bare 6 27 once) (record {
              id = 6;
              carried = 28;
              flag = 0;
              options = record { name = 19; value = 34 } ∷ [];
              elements = leaf (bare 7 29 once) (token 20) ∷ [];
            } ∷ [])
            ∷ [];
      } ∷ [];
    }
    ∷ rule 2 10 []
    ∷ [])

-- e: a? DOTS | INT; where e is 1, a 2, INT 3, DOTS 5.
abbrev pub doubling_hub : Rule
doubling_hub =
    rule 1 1
    (alternative 10 (element 20 optional_greedy (call_to 2) ∷ element 21 once (token 5) ∷ [])
    ∷ alternative 11 (element 22 once (token 3) ∷ [])
    ∷ [])

-- The same with a: e PLUS | ; where PLUS is 4.
abbrev pub doubling : Sheet
doubling =
    unit (counted 14 25) []
    (doubling_hub
    ∷ rule 2 2 (alternative 12 (element 23 once (call_to 1) ∷ element 24 once (token 4) ∷ []) ∷ alternative 13 [] ∷ [])
    ∷ [])

-- e: e PLUS DOTS | DOTS | DOTS | INT;
abbrev pub doubled : List Rule
doubled =
    rule 1 1
    (alternative 14 (element 25 once (call_to 1) ∷ element 26 once (token 4) ∷ element 27 once (token 5) ∷ [])
    ∷ alternative 15 (element 28 once (token 5) ∷ [])
    ∷ alternative 16 (element 29 once (token 5) ∷ [])
    ∷ alternative 11 (element 22 once (token 3) ∷ [])
    ∷ [])
    ∷ []

-- The same without the second of the two equal alternatives: e: e PLUS DOTS | DOTS | INT;
abbrev pub merged : List Rule
merged =
    rule 1 1
    (alternative 14 (element 25 once (call_to 1) ∷ element 26 once (token 4) ∷ element 27 once (token 5) ∷ [])
    ∷ alternative 15 (element 28 once (token 5) ∷ [])
    ∷ alternative 11 (element 22 once (token 3) ∷ [])
    ∷ [])
    ∷ []

-- e: T; where T is any token.
abbrev pub single : (name : ℕ) → List Rule
single t = rule 1 1 (alternative 10 (element 20 once (token t) ∷ []) ∷ []) ∷ []

-- So many tokens INT.
abbrev pub ints : ℕ → List (Element (Block inner_depth))
ints zero = []
ints (suc n) = element n once (token 3) ∷ ints n

-- e: INT … INT | INT … INT; and e: INT … INT; with so many in each.
abbrev pub row_twice : ℕ → List Rule
row_twice n = rule 1 1 (alternative 10 (ints n) ∷ alternative 11 (ints n) ∷ []) ∷ []

abbrev pub row_once : ℕ → List Rule
row_once n = rule 1 1 (alternative 10 (ints n) ∷ []) ∷ []

-- Two rules, e and a, where e is 1, a 2, INT 3, PLUS 4.
abbrev two : (e a : List Alternative) → Sheet
two e a = unit (counted 14 26) [] (rule 1 1 e ∷ rule 2 2 a ∷ [])

-- e: a; a: e . | EOF e;
abbrev pub end_in_front : Sheet
end_in_front =
    two (alternative 10 (element 20 once (call_to 2) ∷ []) ∷ [])
    (alternative 12 (element 22 once (call_to 1) ∷ element 23 once terminal ∷ [])
    ∷ alternative 13 (element 24 once end_of_input ∷ element 25 once (call_to 1) ∷ [])
    ∷ [])

-- e: EOF a | INT; a: e PLUS;
abbrev pub end_settled : Sheet
end_settled =
    two
    (alternative 10 (element 20 once end_of_input ∷ element 21 once (call_to 2) ∷ [])
    ∷ alternative 11 (element 22 once (token 3) ∷ [])
    ∷ [])
    (alternative 12 (element 23 once (call_to 1) ∷ element 24 once (token 4) ∷ []) ∷ [])

-- e: a | INT; a: e and one more leaf, with a quantifier.
abbrev pub tail_of : (quantifier : ℕ) → Leaf → Sheet
tail_of q l =
    two (alternative 10 (element 20 once (call_to 2) ∷ []) ∷ alternative 11 (element 21 once (token 3) ∷ []) ∷ [])
    (alternative 12 (element 22 once (call_to 1) ∷ element 23 q l ∷ []) ∷ [])

-- e: e and the leaf | INT;
abbrev pub tail_joined : Leaf → List Rule
tail_joined l =
    rule 1 1 (alternative 14 (element 26 once (call_to 1) ∷ element 27 once l ∷ []) ∷ alternative 11 (element 21 once (token 3) ∷ []) ∷ [])
    ∷ []

-- e: a | EOF; a: e PLUS;
abbrev pub end_alone : Sheet
end_alone =
    two (alternative 10 (element 20 once (call_to 2) ∷ []) ∷ alternative 11 (element 21 once end_of_input ∷ []) ∷ [])
    (alternative 12 (element 22 once (call_to 1) ∷ element 23 once (token 4) ∷ []) ∷ [])

-- e: e PLUS | EOF;
abbrev pub alone_joined : List Rule
alone_joined =
    rule 1 1
    (alternative 14 (element 26 once (call_to 1) ∷ element 27 once (token 4) ∷ [])
    ∷ alternative 11 (element 21 once end_of_input ∷ []) ∷ [])
    ∷ []

-- e: a | INT; a: e PLUS EOF;
abbrev pub end_behind : Sheet
end_behind =
    two (alternative 10 (element 20 once (call_to 2) ∷ []) ∷ alternative 11 (element 21 once (token 3) ∷ []) ∷ [])
    (alternative 12 (element 22 once (call_to 1) ∷ element 23 once (token 4) ∷ element 24 once end_of_input ∷ []) ∷ [])

-- e: e PLUS EOF | INT;
abbrev pub behind_joined : List Rule
behind_joined =
    rule 1 1
    (alternative 14 (element 26 once (call_to 1) ∷ element 27 once (token 4) ∷ element 28 once end_of_input ∷ [])
    ∷ alternative 11 (element 21 once (token 3) ∷ [])
    ∷ [])
    ∷ []

-- n: EOF; where n is 1, with a quantifier.
abbrev pub only_end : (quantifier : ℕ) → List Rule
only_end q = rule 1 1 (alternative 10 (element 20 q end_of_input ∷ []) ∷ []) ∷ []

-- `e: a | INT; a: e PLUS e;` in words: its sheet in the first form, and the one of today.
abbrev pub sum_of_before : List ℕ
sum_of_before =
    1 ∷ 1 ∷ 0 ∷ 2
    ∷ 10 ∷ 0 ∷ 0 ∷ 0 ∷ 1
    ∷ 20 ∷ 0 ∷ 3 ∷ 0 ∷ 0 ∷ 0 ∷ 2 ∷ 0
    ∷ 11 ∷ 0 ∷ 0 ∷ 0 ∷ 1
    ∷ 21 ∷ 0 ∷ 4 ∷ 0 ∷ 0 ∷ 0 ∷ 3
    ∷ 2 ∷ 2 ∷ 0 ∷ 1
    ∷ 12 ∷ 0 ∷ 0 ∷ 0 ∷ 3
    ∷ 22 ∷ 0 ∷ 3 ∷ 0 ∷ 0 ∷ 0 ∷ 1 ∷ 0
    ∷ 23 ∷ 0 ∷ 4 ∷ 0 ∷ 0 ∷ 0 ∷ 4
    ∷ 24 ∷ 0 ∷ 3 ∷ 0 ∷ 0 ∷ 0 ∷ 1 ∷ 0
    ∷ 2 ∷ 61 ∷ 0 ∷ 13 ∷ 25 ∷ 0 ∷ 0 ∷ 0 ∷ []

abbrev pub sum_of_today : List ℕ
sum_of_today =
    1 ∷ 1 ∷ 0 ∷ 2
    ∷ 10 ∷ 0 ∷ 0 ∷ 0 ∷ 1
    ∷ 20 ∷ 0 ∷ 3 ∷ 0 ∷ 0 ∷ 0 ∷ 2 ∷ 0 ∷ 0
    ∷ 11 ∷ 0 ∷ 0 ∷ 0 ∷ 1
    ∷ 21 ∷ 0 ∷ 4 ∷ 0 ∷ 0 ∷ 0 ∷ 3
    ∷ 2 ∷ 2 ∷ 0 ∷ 1
    ∷ 12 ∷ 0 ∷ 0 ∷ 0 ∷ 3
    ∷ 22 ∷ 0 ∷ 3 ∷ 0 ∷ 0 ∷ 0 ∷ 1 ∷ 0 ∷ 0
    ∷ 23 ∷ 0 ∷ 4 ∷ 0 ∷ 0 ∷ 0 ∷ 4
    ∷ 24 ∷ 0 ∷ 3 ∷ 0 ∷ 0 ∷ 0 ∷ 1 ∷ 0 ∷ 0
    ∷ 2 ∷ 64 ∷ 0 ∷ 13 ∷ 25 ∷ 0 ∷ 0 ∷ 0 ∷ []

-- A rule without alternatives and the preserved id 0 in a parser unit; and the same words with two zeros more, which are a lexer unit
-- with the preserved ids 0, 2 and 5.
abbrev pub ends_early : List ℕ
ends_early = 7 ∷ 1 ∷ 0 ∷ 0 ∷ 0 ∷ 2 ∷ 5 ∷ 1 ∷ 7 ∷ 3 ∷ 0 ∷ 0 ∷ 0 ∷ []

abbrev pub ends_late : List ℕ
ends_late = 7 ∷ 1 ∷ 0 ∷ 0 ∷ 0 ∷ 2 ∷ 5 ∷ 1 ∷ 7 ∷ 3 ∷ 0 ∷ 0 ∷ 0 ∷ 0 ∷ 0 ∷ []
