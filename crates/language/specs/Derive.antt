-- What a grammar derives (SPECIFICATION 13), as a type of derivation trees: a string is derived
-- where it has a tree, and two trees are different where they choose differently.
use Rattle.std.specs.Prelude.{ℕ, ◌≡◌, List, [], ◌∷◌, ◌++◌, true}
use Rattle.std.proofs.Math.Option.{none, some}
use Rattle.grammar.specs.Tree.{Block, RuleOf}
use Rattle.grammar.specs.Lists.{all}
use Rattle.language.specs.Shape.{Symbol, unknown_symbol, Word, Shape, eps, symbol, call_of, seq, alt, opt, star, plus, Shapes, find}
use Rattle.language.specs.Shape.{erase_rules, bodies_by, is_mark}

-- The trees by which a shape, read in a grammar, derives a string. Nothing derives `fail`.
pub data Der (G : Shapes) : Shape → Word → Type 0 where
  d_eps : Der G eps []
  d_symbol : {a : Symbol} → Der G (symbol a) (a ∷ [])
  -- A call of a rule derives what that rule does; any other call is a symbol.
  d_call : {n : ℕ} {b : Shape} {w : Word} → find G n ≡ some b → Der G b w → Der G (call_of n) w
  d_unknown : {n : ℕ} → find G n ≡ none → Der G (call_of n) (unknown_symbol n ∷ [])
  d_seq : {s t : Shape} {u v w : Word} → u ++ v ≡ w → Der G s u → Der G t v → Der G (seq s t) w
  d_left : {s t : Shape} {w : Word} → Der G s w → Der G (alt s t) w
  d_right : {s t : Shape} {w : Word} → Der G t w → Der G (alt s t) w
  d_absent : {s : Shape} → Der G (opt s) []
  d_present : {s : Shape} {w : Word} → Der G s w → Der G (opt s) w
  d_none : {s : Shape} → Der G (star s) []
  d_more : {s : Shape} {u v w : Word} → u ++ v ≡ w → Der G s u → Der G (star s) v → Der G (star s) w
  d_some : {s : Shape} {u v w : Word} → u ++ v ≡ w → Der G s u → Der G (star s) v → Der G (plus s) w

-- What can be empty (SPECIFICATION 13.9): it derives a string of end marks alone.
pub record CanBeEmpty (G : Shapes) (s : Shape) : Type 0 where
  pub word : Word
  pub marks : all is_mark word ≡ true
  pub tree : Der G s word

-- The rule with an id derives a string.
pub record RuleDerives (d : ℕ) (rs : List (RuleOf (Block d))) (i : ℕ) (w : Word) : Type 0 where
  pub body : Shape
  pub found : find (bodies_by d (λ r. r.id) rs) i ≡ some body
  pub tree : Der (erase_rules d rs) body w

-- The rule with an id can be empty.
pub record RuleCanBeEmpty (d : ℕ) (rs : List (RuleOf (Block d))) (i : ℕ) : Type 0 where
  pub word : Word
  pub marks : all is_mark word ≡ true
  pub derives : RuleDerives d rs i word
