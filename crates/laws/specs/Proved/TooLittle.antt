-- What would be too little to say of readings, on grammars of one rule.
use Rattle.std.specs.Prelude.{ℕ, zero, suc, ◌≤◌, ◌≡◌, refl, [], ◌∷◌, map, length}
use Rattle.std.proofs.Common.{sym, ap, ◌∙◌, subst, arith}
use Rattle.std.proofs.Math.Path.{path_j}
use mathlib.Core.List.Memᴰ
use mathlib.Core.Equiv.{Iso}
use Rattle.std.proofs.Math.Option.{some-injective}
use Rattle.grammar.specs.Tree.{body_depth, inner_depth}
use Rattle.language.specs.Shape.{token_symbol, Word, Shape, symbol, seqs, alts, Shapes, quantified, erase_leaf, erase_element}
use Rattle.language.specs.Shape.{erase_elements}
use Rattle.language.specs.Shape.{erase_block, find}
use Rattle.language.specs.Derive.{Der, d_eps, d_symbol, d_seq, d_left, d_right, RuleDerives}
use Rattle.language.specs.Readings.{Tree, t_eps, t_symbol, t_seq, t_left, t_right, first, next, choices, yield, tree_of}
use Rattle.language.specs.Laws.Trees.Algebra.{fails}
use Rattle.language.specs.Laws.Trees.Derivations.{string_of}
use Rattle.language.specs.Laws.Trees.Told.{rules_told}
use Rattle.laws.specs.Examples.{single, ints, row_twice, row_once}
use Rattle.laws.specs.Demands.Shape.{SameReadings, SameStrings}
use Rattle.laws.specs.Demands.Readings.{shapes_of}
use Rattle.laws.specs.Demands.Examples.{TooLittle}

-- The one reading of a token.
abbrev Any : ℕ → Type 0
Any t = (w : Word) × RuleDerives body_depth (single t) 1 w

abbrev lone : ℕ → Shape
lone t = alts (map seqs ((symbol (token_symbol t) ∷ []) ∷ []))

token_reading : (t : ℕ) → RuleDerives body_depth (single t) 1 (token_symbol t ∷ [])
unfolding find erase_block erase_element erase_leaf quantified
token_reading t = record { body = lone t; found = refl; tree = d_left (d_seq refl d_symbol d_eps) }

token_tree : (t : ℕ) (x : Tree (shapes_of (single t)) (lone t)) → (choices x ≡ first ∷ []) × (yield x ≡ token_symbol t ∷ [])
unfolding choices yield
token_tree t (t_left (t_seq t_symbol t_eps)) = (refl, refl)
token_tree t (t_right x) = absurd (fails x)

token_chosen : (t : ℕ) {w : Word} (x : RuleDerives body_depth (single t) 1 w)
    → (choices (tree_of x.tree) ≡ first ∷ []) × (yield (tree_of x.tree) ≡ token_symbol t ∷ [])
unfolding find erase_block erase_element erase_leaf quantified
token_chosen t x =
    subst (λ s. (z : Tree (shapes_of (single t)) s) → (choices z ≡ first ∷ []) × (yield z ≡ token_symbol t ∷ []))
    (some-injective (lone t) x.body x.found) (token_tree t) (tree_of x.tree)

token_only : (t : ℕ) (y : Any t) → ◌≡◌ {A = Any t} (token_symbol t ∷ [], token_reading t) y
token_only t (w, x) = go (sym (token_chosen t x).1 ∙ string_of x.tree) x
  where
    go : {w : Word} → token_symbol t ∷ [] ≡ w → (x : RuleDerives body_depth (single t) 1 w)
        → ◌≡◌ {A = Any t} (token_symbol t ∷ [], token_reading t) (w, x)
    go e =
        path_j (λ w e. (x : RuleDerives body_depth (single t) 1 w) → ◌≡◌ {A = Any t} (token_symbol t ∷ [], token_reading t) (w, x))
        (λ x. ap {B = Any t} (λ y. (token_symbol t ∷ [], y))
        (rules_told body_depth (single t) 1 (token_symbol t ∷ []) (token_reading t) x
        ((token_chosen t (token_reading t)).0 ∙ sym (token_chosen t x).0))) e

forgetful : Iso (Any 3) (Any 4)
forgetful =
    record {
      fun = λ x. (token_symbol 4 ∷ [], token_reading 4);
      inv = λ y. (token_symbol 3 ∷ [], token_reading 3);
      rinv = token_only 4;
      linv = token_only 3;
    }

other_string_lem : SameStrings (single 3) (single 4) → ⊥
other_string_lem s =
    let y = (s.derives _ _ (Memᴰ.head refl) (Memᴰ.head refl) refl (token_symbol 3 ∷ [])).0 (token_reading 3) in
    let e = sym (token_chosen 4 y).1 ∙ string_of y.tree in
    absurd (let z : ◌≡◌ {A = ℕ} 4 3 = cc in omega arith)

-- A row of tokens: its trees choose nothing, and its strings have so many symbols.
abbrev line : ℕ → Shape
line n = erase_elements (erase_block inner_depth) (ints n)

abbrev ints_of : ℕ → Word
ints_of zero = []
ints_of (suc n) = token_symbol 3 ∷ ints_of n

line_derives : {G : Shapes} (n : ℕ) → Der G (line n) (ints_of n)
unfolding erase_element erase_leaf quantified
line_derives zero = d_eps
line_derives (suc n) = d_seq refl d_symbol (line_derives n)

line_tree : {G : Shapes} (n : ℕ) (x : Tree G (line n)) → (choices x ≡ []) × (length (yield x) ≡ n)
unfolding erase_element erase_leaf quantified choices yield
line_tree zero t_eps = (refl, refl)
line_tree (suc n) (t_seq t_symbol x) = let (c, l) = line_tree n x in (c, ap suc l)

-- Twice, and once.
twice_tree : {G : Shapes} (n : ℕ) (x : Tree G (alts (line n ∷ line n ∷ []))) → length (yield x) ≡ n
unfolding yield
twice_tree n (t_left x) = (line_tree n x).1
twice_tree n (t_right (t_left x)) = (line_tree n x).1
twice_tree n (t_right (t_right x)) = absurd (fails x)

once_tree : {G : Shapes} (n : ℕ) (x : Tree G (alts (line n ∷ []))) → (choices x ≡ first ∷ []) × (length (yield x) ≡ n)
unfolding choices yield
once_tree n (t_left x) = let (c, l) = line_tree n x in (ap (λ l. first ∷ l) c, l)
once_tree n (t_right x) = absurd (fails x)

twice_length : (n : ℕ) {w : Word} → RuleDerives body_depth (row_twice n) 1 w → length w ≡ n
unfolding find erase_block
twice_length n x =
    sym (ap length (string_of x.tree))
    ∙ subst (λ s. (z : Tree (shapes_of (row_twice n)) s) → length (yield z) ≡ n)
    (some-injective (alts (line n ∷ line n ∷ [])) x.body x.found) (twice_tree n) (tree_of x.tree)

once_chosen : (n : ℕ) {w : Word} (x : RuleDerives body_depth (row_once n) 1 w)
    → (choices (tree_of x.tree) ≡ first ∷ []) × (length (yield (tree_of x.tree)) ≡ n)
unfolding find erase_block
once_chosen n x =
    subst (λ s. (z : Tree (shapes_of (row_once n)) s) → (choices z ≡ first ∷ []) × (length (yield z) ≡ n))
    (some-injective (alts (line n ∷ [])) x.body x.found) (once_tree n) (tree_of x.tree)

short_ones_lem : (n : ℕ) (w : Word) → length w ≤ n
    → Iso (RuleDerives body_depth (row_twice (suc n)) 1 w) (RuleDerives body_depth (row_once (suc n)) 1 w)
short_ones_lem n w l =
    let before : RuleDerives body_depth (row_twice (suc n)) 1 w → ⊥ = λ x. let e = twice_length (suc n) x in absurd (omega arith) in
    let after : RuleDerives body_depth (row_once (suc n)) 1 w → ⊥ = λ y.
    let e : length w ≡ suc n = sym (ap length (string_of y.tree)) ∙ (once_chosen (suc n) y).1 in
    absurd (omega arith) in
    record { fun = λ x. absurd (before x); inv = λ y. absurd (after y); rinv = λ y. absurd (after y); linv = λ x. absurd (before x) }

-- The two readings of the long one.
front : (n : ℕ) → RuleDerives body_depth (row_twice n) 1 (ints_of n)
unfolding find erase_block
front n = record { body = alts (line n ∷ line n ∷ []); found = refl; tree = d_left (line_derives n) }

back : (n : ℕ) → RuleDerives body_depth (row_twice n) 1 (ints_of n)
unfolding find erase_block
back n = record { body = alts (line n ∷ line n ∷ []); found = refl; tree = d_right (d_left (line_derives n)) }

apart : (n : ℕ) → front n ≡ back n → ⊥
unfolding front back choices tree_of
apart n e =
    let h : first ∷ choices (tree_of (line_derives {G = shapes_of (row_twice n)} n)) ≡ next ∷ first ∷ choices (tree_of (line_derives n)) =
    ap (λ x. choices (tree_of x.tree)) e in
    absurd (let z : ◌≡◌ {A = ℕ} 0 1 = cc in omega arith)

long_one_lem : (n : ℕ) → SameReadings (row_twice (suc n)) (row_once (suc n)) → ⊥
long_one_lem n r =
    let i = r.pairs _ _ (Memᴰ.head refl) (Memᴰ.head refl) refl (ints_of (suc n)) in
    let x = front (suc n) in
    let y = back (suc n) in
    let same = rules_told body_depth (row_once (suc n)) 1 (ints_of (suc n)) (i.fun x) (i.fun y)
    ((once_chosen (suc n) (i.fun x)).0 ∙ sym (once_chosen (suc n) (i.fun y)).0) in
    apart (suc n) (sym (i.linv x) ∙ ap i.inv same ∙ i.linv y)

-- All of it.
pub too_little_lem : TooLittle
too_little_lem = record { forgetful = forgetful; other_string = other_string_lem; short_ones = short_ones_lem; long_one = long_one_lem }
