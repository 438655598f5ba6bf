-- How many derivations strings of small grammars have (SPECIFICATION 13.4 to 13.8 and 13.17): two derivations are different where they
-- choose another alternative or another count, and nowhere else. The grammars are those of Strings.
use Rattle.std.specs.Prelude.{◌≡◌, ◌⊎◌, List, [], ◌∷◌}
use Rattle.grammar.specs.Tree.{Rule}
use Rattle.language.specs.Shape.{unknown_symbol, Word}
use Rattle.laws.specs.Demands.Strings.{A, B, Yes, often, in_order, token_or_call, recursive, silent, same_twice, any_any}

-- No string has two; a string has exactly one; exactly two.
abbrev pub AtMostOne : List Rule → Type 0
AtMostOne rs = (w : Word) (x y : Yes rs w) → x ≡ y

abbrev pub JustOne : List Rule → Word → Type 0
JustOne rs w = (x : Yes rs w) × ((y : Yes rs w) → y ≡ x)

abbrev pub JustTwo : List Rule → Word → Type 0
JustTwo rs w = (x : Yes rs w) × (y : Yes rs w) × (x ≡ y → ⊥) × ((z : Yes rs w) → (z ≡ x) ⊎ (z ≡ y))

pub record ReadingsCounted : Type 0 where
  -- s: A QUANTIFIER;
  pub once : AtMostOne (often 0)
  pub optional : AtMostOne (often 1)
  pub optional_nongreedy : AtMostOne (often 2)
  pub any : AtMostOne (often 3)
  pub any_nongreedy : AtMostOne (often 4)
  pub some : AtMostOne (often 5)
  pub some_nongreedy : AtMostOne (often 6)
  pub any_twice : JustOne (often 3) (A ∷ A ∷ [])
  pub some_twice : JustOne (often 5) (A ∷ A ∷ [])
  -- s: A B;    s: A | x;    s: s A | B;    s: {} {}? ();
  pub in_order : JustOne in_order (A ∷ B ∷ [])
  pub token : JustOne token_or_call (A ∷ [])
  pub unknown : JustOne token_or_call (unknown_symbol 5 ∷ [])
  pub recursion : JustOne recursive (B ∷ A ∷ A ∷ [])
  pub nothing : JustOne silent []
  -- s: A | A;    s: A* A*;
  pub either_slot : JustTwo same_twice (A ∷ [])
  pub either_count : JustTwo any_any (A ∷ [])
