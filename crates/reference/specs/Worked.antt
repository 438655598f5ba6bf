-- The starred grammars of SPECIFICATION 15: sheets, and what the original makes of them. Ids are given in reading order,
-- those of alternatives from 10 on and those of elements from 20 on.
use Rattle.std.specs.Prelude.{ℕ, List, [], ◌∷◌}
use Rattle.grammar.specs.Numbers.{once, optional_greedy, optional_nongreedy, attribute, rule_sort, alternative_sort, element_sort}
use Rattle.grammar.specs.Read.{action_of}
use Rattle.grammar.specs.Tree.{labelled, token, Sheet}
use Rattle.reference.specs.Apply.{Entry, boundary, clone}
use Rattle.reference.specs.Written.{element, labelled_element, call_to, alternative, rule, counted, unit}

-- A sheet, and what is answered.
pub record Case : Type 0 where
  pub sheet : Sheet
  pub plans : ℕ
  pub steps : ℕ
  pub result : Sheet
  pub trail : List Entry

-- A sheet that comes back.
abbrev pub as_it_was : Sheet → Case
as_it_was s = record { sheet = s; plans = 0; steps = 0; result = s; trail = [] }

-- SPECIFICATION 15.1: e: a | INT; a: e PLUS e; the names are e 1, a 2, INT 3, PLUS 4.
abbrev pub case1 : Case
case1 =
    record {
      sheet =
          unit (counted 13 25) []
          (rule 1 1 (alternative 10 (element 20 once (call_to 2) ∷ []) ∷ alternative 11 (element 21 once (token 3) ∷ []) ∷ [])
          ∷ rule 2 2 (alternative 12 (element 22 once (call_to 1) ∷ element 23 once (token 4) ∷ element 24 once (call_to 1) ∷ []) ∷ [])
          ∷ []);
      plans = 1;
      steps = 1;
      result =
          unit (counted 14 28) []
          (rule 1 1
          (alternative 13 (element 25 once (call_to 1) ∷ element 26 once (token 4) ∷ element 27 once (call_to 1) ∷ [])
          ∷ alternative 11 (element 21 once (token 3) ∷ [])
          ∷ [])
          ∷ []);
      trail =
          boundary alternative_sort 13 12
          ∷ clone element_sort 25 22
          ∷ clone element_sort 26 23
          ∷ clone element_sort 27 24
          ∷ boundary rule_sort 1 1
          ∷ [];
    }

-- SPECIFICATION 15.2: e: a | INT; a: e PLUS e; a preserved; the names are e 1, a 2, INT 3, PLUS 4.
abbrev pub case2 : Case
case2 =
    record {
      sheet =
          unit (counted 13 25) (2 ∷ [])
          (rule 1 1 (alternative 10 (element 20 once (call_to 2) ∷ []) ∷ alternative 11 (element 21 once (token 3) ∷ []) ∷ [])
          ∷ rule 2 2 (alternative 12 (element 22 once (call_to 1) ∷ element 23 once (token 4) ∷ element 24 once (call_to 1) ∷ []) ∷ [])
          ∷ []);
      plans = 1;
      steps = 1;
      result =
          unit (counted 14 28) (2 ∷ [])
          (rule 1 1
          (alternative 13 (element 25 once (call_to 1) ∷ element 26 once (token 4) ∷ element 27 once (call_to 1) ∷ [])
          ∷ alternative 11 (element 21 once (token 3) ∷ [])
          ∷ [])
          ∷ rule 2 2 (alternative 12 (element 22 once (call_to 1) ∷ element 23 once (token 4) ∷ element 24 once (call_to 1) ∷ []) ∷ [])
          ∷ []);
      trail =
          boundary alternative_sort 13 12
          ∷ clone element_sort 25 22
          ∷ clone element_sort 26 23
          ∷ clone element_sort 27 24
          ∷ boundary rule_sort 1 1
          ∷ [];
    }

-- SPECIFICATION 15.3: e: e PLUS e | INT; the names are e 1, PLUS 2, INT 3.
abbrev pub case3 : Case
case3 =
    as_it_was
    (unit (counted 12 24) []
    (rule 1 1
    (alternative 10 (element 20 once (call_to 1) ∷ element 21 once (token 2) ∷ element 22 once (call_to 1) ∷ [])
    ∷ alternative 11 (element 23 once (token 3) ∷ [])
    ∷ [])
    ∷ []))

-- SPECIFICATION 15.4: e: a? DOTS | INT; a: e PLUS; the names are e 1, a 2, DOTS 3, INT 4, PLUS 5.
abbrev pub case4 : Case
case4 =
    record {
      sheet =
          unit (counted 13 25) []
          (rule 1 1
          (alternative 10 (element 20 optional_greedy (call_to 2) ∷ element 21 once (token 3) ∷ [])
          ∷ alternative 11 (element 22 once (token 4) ∷ [])
          ∷ [])
          ∷ rule 2 2 (alternative 12 (element 23 once (call_to 1) ∷ element 24 once (token 5) ∷ []) ∷ [])
          ∷ []);
      plans = 1;
      steps = 2;
      result =
          unit (counted 15 29) []
          (rule 1 1
          (alternative 13 (element 25 once (call_to 1) ∷ element 26 once (token 5) ∷ element 27 once (token 3) ∷ [])
          ∷ alternative 14 (element 28 once (token 3) ∷ [])
          ∷ alternative 11 (element 22 once (token 4) ∷ [])
          ∷ [])
          ∷ []);
      trail =
          boundary alternative_sort 13 12
          ∷ clone element_sort 25 23
          ∷ clone element_sort 26 24
          ∷ clone element_sort 27 21
          ∷ boundary alternative_sort 14 10
          ∷ clone element_sort 28 21
          ∷ boundary rule_sort 1 1
          ∷ [];
    }

-- SPECIFICATION 15.5: e: a?? DOTS | INT; a: e PLUS; the names are e 1, a 2, DOTS 3, INT 4, PLUS 5.
abbrev pub case5 : Case
case5 =
    as_it_was
    (unit (counted 13 25) []
    (rule 1 1
    (alternative 10 (element 20 optional_nongreedy (call_to 2) ∷ element 21 once (token 3) ∷ [])
    ∷ alternative 11 (element 22 once (token 4) ∷ [])
    ∷ [])
    ∷ rule 2 2 (alternative 12 (element 23 once (call_to 1) ∷ element 24 once (token 5) ∷ []) ∷ [])
    ∷ []))

-- SPECIFICATION 15.6: e: a | INT; a: e n; n: ; the names are e 1, a 2, INT 3, n 4.
abbrev pub case6 : Case
case6 =
    as_it_was
    (unit (counted 14 24) []
    (rule 1 1 (alternative 10 (element 20 once (call_to 2) ∷ []) ∷ alternative 11 (element 21 once (token 3) ∷ []) ∷ [])
    ∷ rule 2 2 (alternative 12 (element 22 once (call_to 1) ∷ element 23 once (call_to 4) ∷ []) ∷ [])
    ∷ rule 3 4 (alternative 13 [] ∷ [])
    ∷ []))

-- SPECIFICATION 15.7: e: a | ; a: e PLUS; the names are e 1, a 2, PLUS 3.
abbrev pub case7 : Case
case7 =
    as_it_was
    (unit (counted 13 23) []
    (rule 1 1 (alternative 10 (element 20 once (call_to 2) ∷ []) ∷ alternative 11 [] ∷ [])
    ∷ rule 2 2 (alternative 12 (element 21 once (call_to 1) ∷ element 22 once (token 3) ∷ []) ∷ [])
    ∷ []))

-- SPECIFICATION 15.8: e: a | INT?; a: e PLUS; the names are e 1, a 2, INT 3, PLUS 4.
abbrev pub case8 : Case
case8 =
    record {
      sheet =
          unit (counted 13 24) []
          (rule 1 1 (alternative 10 (element 20 once (call_to 2) ∷ []) ∷ alternative 11 (element 21 optional_greedy (token 3) ∷ []) ∷ [])
          ∷ rule 2 2 (alternative 12 (element 22 once (call_to 1) ∷ element 23 once (token 4) ∷ []) ∷ [])
          ∷ []);
      plans = 1;
      steps = 1;
      result =
          unit (counted 14 26) []
          (rule 1 1
          (alternative 13 (element 24 once (call_to 1) ∷ element 25 once (token 4) ∷ [])
          ∷ alternative 11 (element 21 optional_greedy (token 3) ∷ [])
          ∷ [])
          ∷ []);
      trail =
          boundary alternative_sort 13 12
          ∷ clone element_sort 24 22
          ∷ clone element_sort 25 23
          ∷ boundary rule_sort 1 1
          ∷ [];
    }

-- SPECIFICATION 15.9: e: a x=INT | INT; a: x=e PLUS; the names are e 1, a 2, x 3, INT 4, PLUS 5.
abbrev pub case9 : Case
case9 =
    as_it_was
    (unit (record { alternative = 13; element = 25; label = 2; action = 0; predicate = 0 }) []
    (rule 1 1
    (alternative 10 (element 20 once (call_to 2) ∷ labelled_element 21 (labelled 0 3) (token 4) ∷ [])
    ∷ alternative 11 (element 22 once (token 4) ∷ [])
    ∷ [])
    ∷ rule 2 2 (alternative 12 (labelled_element 23 (labelled 1 3) (call_to 1) ∷ element 24 once (token 5) ∷ []) ∷ [])
    ∷ []))

-- SPECIFICATION 15.10: e: a {$INT} | INT; a: e PLUS INT; the names are e 1, a 2, INT 3, PLUS 4.
abbrev pub case10 : Case
case10 =
    as_it_was
    (unit (record { alternative = 13; element = 26; label = 0; action = 1; predicate = 0 }) []
    (rule 1 1
    (alternative 10 (element 20 once (call_to 2) ∷ element 21 once (action_of 0 (record { kind = attribute; name = 3 } ∷ [])) ∷ [])
    ∷ alternative 11 (element 22 once (token 3) ∷ [])
    ∷ [])
    ∷ rule 2 2 (alternative 12 (element 23 once (call_to 1) ∷ element 24 once (token 4) ∷ element 25 once (token 3) ∷ []) ∷ [])
    ∷ []))

-- SPECIFICATION 15.11: e: a | INT; a: e PLUS | NAME; a preserved; the names are e 1, a 2, INT 3, PLUS 4, NAME 5.
abbrev pub case11 : Case
case11 =
    record {
      sheet =
          unit (counted 14 25) (2 ∷ [])
          (rule 1 1 (alternative 10 (element 20 once (call_to 2) ∷ []) ∷ alternative 11 (element 21 once (token 3) ∷ []) ∷ [])
          ∷ rule 2 2
          (alternative 12 (element 22 once (call_to 1) ∷ element 23 once (token 4) ∷ [])
          ∷ alternative 13 (element 24 once (token 5) ∷ [])
          ∷ [])
          ∷ []);
      plans = 1;
      steps = 1;
      result =
          unit (counted 16 29) (2 ∷ [])
          (rule 2 2
          (alternative 14 (element 25 once (call_to 2) ∷ element 26 once (token 4) ∷ [])
          ∷ alternative 15 (element 27 once (token 3) ∷ element 28 once (token 4) ∷ [])
          ∷ alternative 13 (element 24 once (token 5) ∷ [])
          ∷ [])
          ∷ []);
      trail =
          boundary alternative_sort 14 10
          ∷ clone element_sort 25 20
          ∷ clone element_sort 26 23
          ∷ boundary alternative_sort 15 11
          ∷ clone element_sort 27 21
          ∷ clone element_sort 28 23
          ∷ boundary rule_sort 2 2
          ∷ [];
    }

abbrev pub starred : List Case
starred = case1 ∷ case2 ∷ case3 ∷ case4 ∷ case5 ∷ case6 ∷ case7 ∷ case8 ∷ case9 ∷ case10 ∷ case11 ∷ []
