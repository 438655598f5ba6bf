-- Strings that small grammars derive, and strings that they do not (SPECIFICATION 13.2 to 13.8). In comments A, B and C are the
-- tokens 7, 8 and 9, x is a call of 5, which no rule has, [1] and [2] are elements of kind 5 by their carried numbers, and EOF is an
-- element of kind 7.
use Rattle.std.specs.Prelude.{ℕ, List, [], ◌∷◌, map}
use Rattle.grammar.specs.Tree.{unlabelled, epsilon, action, predicate, token, terminal, end_of_input, Element, leaf, block, Block}
use Rattle.grammar.specs.Tree.{inner_depth}
use Rattle.grammar.specs.Tree.{body_depth, Rule}
use Rattle.language.specs.Shape.{Symbol, token_symbol, unknown_symbol, other_symbol, end_symbol, Word}
use Rattle.language.specs.Derive.{RuleDerives, RuleCanBeEmpty}
use Rattle.reference.specs.Written.{element, call_to, alternative, rule}

abbrev pub Items : Type 0
Items = List (Element (Block inner_depth))

-- A token, an element of kind 5, one of kind 7, a block, a call.
abbrev pub tok : (quantifier name : ℕ) → Element (Block inner_depth)
tok q n = element 0 q (token n)

abbrev pub kind5 : (carried : ℕ) → Element (Block inner_depth)
kind5 c = leaf (record { id = 0; carried = c; quantifier = 0; label = unlabelled; options = [] }) terminal

abbrev pub eof : (carried quantifier : ℕ) → Element (Block inner_depth)
eof c q = leaf (record { id = 0; carried = c; quantifier = q; label = unlabelled; options = [] }) end_of_input

abbrev pub inner : (quantifier : ℕ) → List (List (Element (Block 7))) → Element (Block inner_depth)
inner q ess =
    block (record { id = 0; carried = 0; quantifier = q; label = unlabelled; options = [] })
    (map (λ es. record { id = 0; carried = 0; flag = 0; options = []; elements = es }) ess)

abbrev pub deep : (name : ℕ) → Element (Block 7)
deep n = leaf (record { id = 0; carried = 0; quantifier = 0; label = unlabelled; options = [] }) (token n)

abbrev pub cal : (name : ℕ) → Element (Block inner_depth)
cal n = element 0 0 (call_to n)

-- The grammar of one rule s, of id 1 and name 3, by its alternatives; and with a second rule t, of id 2 and name 4.
abbrev pub one : List Items → List Rule
one ess = rule 1 3 (map (alternative 0) ess) ∷ []

abbrev pub two : List Items → List Items → List Rule
two ess fss = rule 1 3 (map (alternative 0) ess) ∷ rule 2 4 (map (alternative 0) fss) ∷ []

abbrev pub A : Symbol
A = token_symbol 7

abbrev pub B : Symbol
B = token_symbol 8

abbrev pub C : Symbol
C = token_symbol 9

abbrev pub END : Symbol
END = end_symbol

-- The first rule derives a string; it does not.
abbrev pub Yes : List Rule → Word → Type 0
Yes rs w = RuleDerives body_depth rs 1 w

abbrev pub No : List Rule → Word → Type 0
No rs w = RuleDerives body_depth rs 1 w → ⊥

-- It can be empty.
abbrev pub Empty : List Rule → Type 0
Empty rs = RuleCanBeEmpty body_depth rs 1

-- s: A QUANTIFIER;
abbrev pub often : (quantifier : ℕ) → List Rule
often q = one ((tok q 7 ∷ []) ∷ [])

-- s: A B;    s: [1] [2];    s: A | x;    s: s A | B;    s: s;    s: t t; t: A | B;    s: (A | B)+ C;
abbrev pub in_order : List Rule
in_order = one ((tok 0 7 ∷ tok 0 8 ∷ []) ∷ [])

abbrev pub two_sets : List Rule
two_sets = one ((kind5 1 ∷ kind5 2 ∷ []) ∷ [])

abbrev pub token_or_call : List Rule
token_or_call = one ((tok 0 7 ∷ []) ∷ (cal 5 ∷ []) ∷ [])

abbrev pub recursive : List Rule
recursive = one ((cal 3 ∷ tok 0 7 ∷ []) ∷ (tok 0 8 ∷ []) ∷ [])

abbrev pub endless : List Rule
endless = one ((cal 3 ∷ []) ∷ [])

abbrev pub twice : List Rule
twice = two ((cal 4 ∷ cal 4 ∷ []) ∷ []) ((tok 0 7 ∷ []) ∷ (tok 0 8 ∷ []) ∷ [])

abbrev pub in_block : List Rule
in_block = one ((inner 5 ((deep 7 ∷ []) ∷ (deep 8 ∷ []) ∷ []) ∷ tok 0 9 ∷ []) ∷ [])

-- s: EOF QUANTIFIER;    s: EOF EOF; with the carried numbers 4 and 5.
abbrev pub often_end : (quantifier : ℕ) → List Rule
often_end q = one ((eof 0 q ∷ []) ∷ [])

abbrev pub two_ends : List Rule
two_ends = one ((eof 4 0 ∷ eof 5 0 ∷ []) ∷ [])

-- s: {action} {predicate}? () ;  and s without an alternative.
abbrev pub silent : List Rule
silent =
    one
    ((element 0 0 (action (record { id = 0; references = [] }))
    ∷ element 0 0 (predicate (record { id = 0; references = [] }))
    ∷ element 0 0 epsilon
    ∷ [])
    ∷ [])

-- For Counted: s: A | A;    s: A* A*;
abbrev pub same_twice : List Rule
same_twice = one ((tok 0 7 ∷ []) ∷ (tok 0 7 ∷ []) ∷ [])

abbrev pub any_any : List Rule
any_any = one ((tok 3 7 ∷ tok 3 7 ∷ []) ∷ [])

pub record StringsTold : Type 0 where
  -- Derived.
  pub once : Yes (often 0) (A ∷ [])
  pub optional_absent : Yes (often 1) []
  pub optional_there : Yes (often 2) (A ∷ [])
  pub any_absent : Yes (often 3) []
  pub any_twice : Yes (often 3) (A ∷ A ∷ [])
  pub any_thrice : Yes (often 4) (A ∷ A ∷ A ∷ [])
  pub some_once : Yes (often 5) (A ∷ [])
  pub some_twice : Yes (often 5) (A ∷ A ∷ [])
  pub some_thrice : Yes (often 6) (A ∷ A ∷ A ∷ [])
  pub order_kept : Yes in_order (A ∷ B ∷ [])
  pub sets_kept : Yes two_sets (other_symbol 1 ∷ other_symbol 2 ∷ [])
  pub token_there : Yes token_or_call (A ∷ [])
  pub unknown_there : Yes token_or_call (unknown_symbol 5 ∷ [])
  pub left_recursion : Yes recursive (B ∷ A ∷ A ∷ [])
  pub called_twice : Yes twice (A ∷ B ∷ [])
  pub block_repeated : Yes in_block (B ∷ A ∷ C ∷ [])
  pub nothing_there : Yes silent []
  pub end_once : Yes (often_end 0) (END ∷ [])
  pub end_absent : Yes (often_end 1) []
  pub end_any : Yes (often_end 3) (END ∷ END ∷ [])
  pub end_some : Yes (often_end 5) (END ∷ END ∷ [])
  pub ends_alike : Yes two_ends (END ∷ END ∷ [])
  pub end_empty : Empty (often_end 0)
  pub end_some_empty : Empty (often_end 5)
  -- Not derived.
  pub not_twice : No (often 0) (A ∷ A ∷ [])
  pub not_absent : No (often 0) []
  pub optional_not_twice : No (often 1) (A ∷ A ∷ [])
  pub nongreedy_not_twice : No (often 2) (A ∷ A ∷ [])
  pub any_not_other : No (often 3) (A ∷ B ∷ [])
  pub some_not_absent : No (often 5) []
  pub nongreedy_not_absent : No (often 6) []
  pub order_not_turned : No in_order (B ∷ A ∷ [])
  pub not_one_token : No in_order (A ∷ A ∷ [])
  pub sets_not_turned : No two_sets (other_symbol 2 ∷ other_symbol 1 ∷ [])
  pub not_one_set : No two_sets (other_symbol 1 ∷ other_symbol 1 ∷ [])
  pub token_is_no_call : No token_or_call (unknown_symbol 7 ∷ [])
  pub call_is_no_token : No token_or_call (token_symbol 5 ∷ [])
  pub set_is_no_token : No two_sets (token_symbol 1 ∷ token_symbol 2 ∷ [])
  pub recursion_not_alone : No recursive (A ∷ [])
  pub endless_nothing : (w : Word) → No endless w
  pub not_called_once : No twice (A ∷ [])
  pub block_not_absent : No in_block (C ∷ [])
  pub silent_nothing : No silent (A ∷ [])
  pub end_not_absent : No (often_end 0) []
  pub end_not_twice : No (often_end 0) (END ∷ END ∷ [])
  pub end_some_not_absent : No (often_end 5) []
  pub end_is_no_token : No (often_end 0) (token_symbol 0 ∷ [])
  pub end_is_no_other : No (often_end 0) (other_symbol 0 ∷ [])
  pub no_alternative : (w : Word) → No (one []) w
