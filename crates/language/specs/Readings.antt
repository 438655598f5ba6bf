-- Readings (SPECIFICATION 13.17): the trees by which a shape is read in a grammar, without the string that each derives; that
-- string; and the choices by which two trees are told apart.
use Rattle.std.specs.Prelude.{ℕ, ◌≡◌}
use mathlib.Core.List.{List, [], ◌∷◌, ◌++◌, Memᴰ}
use Rattle.std.proofs.Math.Option.{none, some}
use Rattle.grammar.specs.Tree.{Block, RuleOf}
use Rattle.language.specs.Shape.{Symbol, unknown_symbol, Word, Shape, eps, symbol, call_of, seq, alt, opt, star, plus, Shapes, find}
use Rattle.language.specs.Shape.{erase_rules}
use Rattle.language.specs.Derive.{Der, d_eps, d_symbol, d_call, d_unknown, d_seq, d_left, d_right, d_absent, d_present, d_none}
use Rattle.language.specs.Derive.{d_more, d_some, RuleDerives}

-- The constructors of `Der`, without words. The slot of an alternative in a choice of several is how often `t_right` stands in
-- front of its `t_left`.
pub data Tree (G : Shapes) : Shape → Type 0 where
  t_eps : Tree G eps
  t_symbol : {a : Symbol} → Tree G (symbol a)
  t_call : {n : ℕ} {b : Shape} → find G n ≡ some b → Tree G b → Tree G (call_of n)
  t_unknown : {n : ℕ} → find G n ≡ none → Tree G (call_of n)
  t_seq : {s t : Shape} → Tree G s → Tree G t → Tree G (seq s t)
  t_left : {s t : Shape} → Tree G s → Tree G (alt s t)
  t_right : {s t : Shape} → Tree G t → Tree G (alt s t)
  t_absent : {s : Shape} → Tree G (opt s)
  t_present : {s : Shape} → Tree G s → Tree G (opt s)
  t_none : {s : Shape} → Tree G (star s)
  t_more : {s : Shape} → Tree G s → Tree G (star s) → Tree G (star s)
  t_some : {s : Shape} → Tree G s → Tree G (star s) → Tree G (plus s)

-- The string that a tree derives.
unfoldable pub yield : {G : Shapes} {s : Shape} → Tree G s → Word
yield t_eps = []
yield (t_symbol {a = a}) = a ∷ []
yield (t_call e x) = yield x
yield (t_unknown {n = n} e) = unknown_symbol n ∷ []
yield (t_seq x y) = yield x ++ yield y
yield (t_left x) = yield x
yield (t_right x) = yield x
yield t_absent = []
yield (t_present x) = yield x
yield t_none = []
yield (t_more x y) = yield x ++ yield y
yield (t_some x y) = yield x ++ yield y

-- A choice: the alternative at hand or a later one (so the slot k is `next` k times, then `first`), an optional that is absent or
-- there, what is repeated often enough or once more.
pub data Choice : Type 0 where
  first next absent present enough again : Choice

-- The choices of a tree, from the outside in and from left to right.
unfoldable pub choices : {G : Shapes} {s : Shape} → Tree G s → List Choice
choices t_eps = []
choices t_symbol = []
choices (t_call e x) = choices x
choices (t_unknown e) = []
choices (t_seq x y) = choices x ++ choices y
choices (t_left x) = first ∷ choices x
choices (t_right x) = next ∷ choices x
choices t_absent = absent ∷ []
choices (t_present x) = present ∷ choices x
choices t_none = enough ∷ []
choices (t_more x y) = again ∷ (choices x ++ choices y)
choices (t_some x y) = choices x ++ choices y

-- The trees of a string.
abbrev pub Reading : Shapes → Shape → Word → Type 0
Reading G s w = (x : Tree G s) × (yield x ≡ w)

-- The tree of a derivation: the same nodes.
unfoldable pub tree_of : {G : Shapes} {s : Shape} {w : Word} → Der G s w → Tree G s
tree_of d_eps = t_eps
tree_of d_symbol = t_symbol
tree_of (d_call e d) = t_call e (tree_of d)
tree_of (d_unknown e) = t_unknown e
tree_of (d_seq e d f) = t_seq (tree_of d) (tree_of f)
tree_of (d_left d) = t_left (tree_of d)
tree_of (d_right d) = t_right (tree_of d)
tree_of d_absent = t_absent
tree_of (d_present d) = t_present (tree_of d)
tree_of d_none = t_none
tree_of (d_more e d f) = t_more (tree_of d) (tree_of f)
tree_of (d_some e d f) = t_some (tree_of d) (tree_of f)

-- The tree of a rule's derivation, with the node of a call of a name over it; the name's body is the rule's.
pub record CallTree {d : ℕ} {rs : List (RuleOf (Block d))} {i : ℕ} {w : Word} (x : RuleDerives d rs i w) (name : ℕ)
    (z : Tree (erase_rules d rs) (call_of name)) : Type 0 where
  pub found : find (erase_rules d rs) name ≡ some x.body
  pub is_tree : z ≡ t_call found (tree_of x.tree)

-- A name stays: each rule that has it is kept (SPECIFICATION 13.12).
abbrev pub Stays : {B : Type 0} → (before after : List (RuleOf B)) → ℕ → Type 0
Stays {B} before after n = (r : RuleOf B) → Memᴰ r before → r.name ≡ n → (q : RuleOf B) × Memᴰ q after × (q.id ≡ r.id)
