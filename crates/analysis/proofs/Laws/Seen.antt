-- What is seen at one leaf.
use Prim.Native.Nat.{ℕ, zero, suc, ◌<◌, ◌≤◌}
use mathlib.Core.Path.{◌≡◌, refl, sym, ap, ap₂, ◌∙◌}
use mathlib.Core.List.{List}
use mathlib.Core.Bool.{Bool, true, false, ◌&&◌, ◌||◌, not, and-true, and-false, or-false, or-true, not-not}
use native.Mathlib.Omega.{arith}
use lib.ListN.{get_or, replicate}
use lib.Dec.{eqb, ltb}
use borrow.Author.Tests.{eqb-true, eqb-false, ltb-true, ltb-false, ne_eqb}
use Rattle.grammar.specs.Numbers.{rule_limit, call_kind, epsilon_kind, end_kind}
use Rattle.grammar.specs.Laws.Parse.{either}
use Rattle.grammar.specs.Stands.{Stands}
use Rattle.grammar.specs.Tree.{Call, Leaf, epsilon, action, predicate, call, token, terminal, end_of_input}
use Rattle.grammar.specs.Encode.{leaf_kind, encode_leaf, encode_leaf_in}
use Rattle.grammar.specs.Ids.{leaf_ids}
use Rattle.grammar.specs.Laws.Stands.{stands_head}
use Rattle.reference.specs.Walks.{sort_of, is_end}
use Rattle.reach.specs.Rows.{bit, With, AddIf}
use Rattle.analysis.specs.Names.{is_named, any_below, At, Nowhere, IsTarget}
use Rattle.std.specs.Prelude.{Option, Some, None, ◌⊎◌}
use Rattle.std.proofs.Common.{inl, inr}
use Rattle.words.specs.declared.numbers.Kind.{Kind}
use Rattle.words.specs.declared.numbers.Kind.TheVariants as kind
use Rattle.words.specs.Kinds.{kind_number}
use Rattle.analysis.specs.declared.leaf.Seen.{Seen as Held}
use Rattle.reach.proofs.Laws.Rows.{no_bits}
use Rattle.analysis.specs.Corners.{passes_symbols}
use Rattle.analysis.specs.Survey.{View, Seen, seen_of, into, unseen, is_semantic, calls_to, leaf_null, leaf_ends, past_leaf, past_call}
use Rattle.analysis.specs.Survey.{SymbolSeen, NameSeen, LeafSeen}

-- what was seen, part by part
pub same_seen : {a b : Seen} → ((j : ℕ) → a.calls j ≡ b.calls j) → ((j : ℕ) → a.corners j ≡ b.corners j) → a.stops ≡ b.stops
    → a.seeks ≡ b.seeks → a.null ≡ b.null → a ≡ b
same_seen p q x y z t = record { calls = λ j. p j t; corners = λ j. q j t; stops = x t; seeks = y t; null = z t }

-- nothing yet
pub begun : (null : Bool)
    → seen_of (record { calls = replicate 2 0; corners = replicate 2 0; stops = false; seeks = true; null = null }) ≡ into null unseen
unfolding seen_of
begun null = same_seen no_bits no_bits refl refl refl

-- a call of a rule
pub call_seen : (t : Held) {i : ℕ} (empty : Bool) {calls corners : List ℕ} → With t.calls i calls → AddIf t.corners i t.seeks corners
    → seen_of (record { calls = calls; corners = corners; stops = t.stops; seeks = t.seeks && empty; null = t.null && empty })
    ≡ past_call (seen_of t) i empty
unfolding seen_of past_call
call_seen t empty a b = same_seen a.at b.at refl refl refl

-- one number below n, or none
pub any_only : (f : ℕ → Bool) (i : ℕ) (b : Bool) → ((j : ℕ) → f j ≡ (eqb j i && b)) → (n : ℕ) → i < n → any_below f n ≡ b
unfolding any_below
any_only f i b h zero l = absurd (omega arith)
any_only f i b h (suc n) l =
    either (eqb n i)
    (λ e. ap₂ ◌||◌ (h n ∙ ap (λ x. x && b) e) (rest n (let x = eqb-true n i e in omega arith)) ∙ or-false b)
    (λ e. ap₂ ◌||◌ (h n ∙ ap (λ x. x && b) e) (any_only f i b h n (let x = eqb-false n i e in below n l x)))
  where
    below : (n : ℕ) → i < suc n → (n ≡ i → ⊥) → i < n
    below n l x = either (ltb i n) (ltb-true i n) (λ e. absurd (x (let y = ltb-false i n e in omega arith)))

    rest : (m : ℕ) → m ≤ i → any_below f m ≡ false
    rest zero l = refl
    rest (suc m) l = ap₂ ◌||◌ (h m ∙ ap (λ x. x && b) (ne_eqb m i (λ z. omega arith))) (rest m (omega arith))

pub any_none : (f : ℕ → Bool) → ((j : ℕ) → f j ≡ false) → (n : ℕ) → any_below f n ≡ false
unfolding any_below
any_none f h zero = refl
any_none f h (suc n) = ap₂ ◌||◌ (h n) (any_none f h n)

-- something that stops inlining is seen, and nothing else
abbrev pub stopped : Held → Held
stopped t = record { calls = t.calls; corners = t.corners; stops = true; seeks = t.seeks; null = t.null }

module _ (v : View) (s : Seen) (skips : Bool) where
  -- a leaf that calls rule i
  calls_rule : (c : Call) (i : ℕ) → At v.names v.n c.name i → past_call s i (skips || bit v.nullable i) ≡ past_leaf v s skips (call c)
  unfolding past_call past_leaf calls_to leaf_null leaf_ends sort_of is_end is_semantic leaf_ids
  calls_rule c i a =
      same_seen (λ j. ap (λ x. s.calls j || x) (sym (a.only j))) (λ j. ap (λ x. s.corners j || (s.seeks && x)) (sym (a.only j)))
      (sym (or-false s.stops)) (rw (empty, known, and-false (not (passes_symbols v.reading))) refl) (rw empty refl)
    where
      same_bit : (j : ℕ) → (eqb j i && bit v.nullable j) ≡ (eqb j i && bit v.nullable i)
      same_bit j = either (eqb j i) (λ e. ap (λ x. eqb j i && bit v.nullable x) (eqb-true j i e)) (λ e. rw e refl)

      empty : any_below (λ j. is_named v.names v.n c.name j && bit v.nullable j) v.n ≡ bit v.nullable i
      empty =
          any_only (λ j. is_named v.names v.n c.name j && bit v.nullable j) i (bit v.nullable i)
          (λ j. ap (λ x. x && bit v.nullable j) (a.only j) ∙ same_bit j) v.n a.below

      known : any_below (is_named v.names v.n c.name) v.n ≡ true
      known = any_only (is_named v.names v.n c.name) i true (λ j. a.only j ∙ sym (and-true (eqb j i))) v.n a.below

  symbol : Seen
  symbol =
      record {
        calls = s.calls;
        corners = s.corners;
        stops = s.stops;
        seeks = s.seeks && (passes_symbols v.reading && skips);
        null = s.null && skips;
      }

  past_symbol : (l : Leaf) → ((j : ℕ) → calls_to v l j ≡ false) → is_semantic l ≡ false
      → leaf_ends v l ≡ not (passes_symbols v.reading) → leaf_null v l ≡ false
      → symbol ≡ past_leaf v s skips l
  unfolding past_leaf symbol
  past_symbol l a b e n =
      same_seen (λ j. sym (ap (λ x. s.calls j || x) (a j) ∙ or-false (s.calls j)))
      (λ j. sym (ap (λ x. s.corners j || (s.seeks && x)) (a j) ∙ ap (λ x. s.corners j || x) (and-false s.seeks) ∙ or-false (s.corners j)))
      (sym (ap (λ x. s.stops || x) b ∙ or-false s.stops))
      (rw (e, n, not-not (passes_symbols v.reading), or-false skips) refl) (rw (n, or-false skips) refl)

  calls_nothing : (c : Call) → Nowhere v.names v.n c.name → symbol ≡ past_leaf v s skips (call c)
  unfolding calls_to leaf_null leaf_ends sort_of is_end is_semantic leaf_ids
  calls_nothing c a =
      past_symbol (call c) a.none refl
      (rw (any_none (is_named v.names v.n c.name) a.none v.n) (and-true (not (passes_symbols v.reading))))
      (any_none (λ j. is_named v.names v.n c.name j && bit v.nullable j) (λ j. rw (a.none j) refl) v.n)

  past_token : (n : ℕ) → symbol ≡ past_leaf v s skips (token n)
  unfolding calls_to leaf_null leaf_ends sort_of is_end is_semantic leaf_ids
  past_token n = past_symbol (token n) (λ j. refl) refl (and-true (not (passes_symbols v.reading))) refl

  past_terminal : symbol ≡ past_leaf v s skips terminal
  unfolding calls_to leaf_null leaf_ends sort_of is_end is_semantic leaf_ids
  past_terminal = past_symbol terminal (λ j. refl) refl (and-true (not (passes_symbols v.reading))) refl

  -- what takes no input
  past_silent : (l : Leaf) → ((j : ℕ) → calls_to v l j ≡ false) → leaf_ends v l ≡ false → leaf_null v l ≡ true
      → record { calls = s.calls; corners = s.corners; stops = s.stops || is_semantic l; seeks = s.seeks; null = s.null }
      ≡ past_leaf v s skips l
  unfolding past_leaf
  past_silent l a e n =
      same_seen (λ j. sym (ap (λ x. s.calls j || x) (a j) ∙ or-false (s.calls j)))
      (λ j. sym (ap (λ x. s.corners j || (s.seeks && x)) (a j) ∙ ap (λ x. s.corners j || x) (and-false s.seeks) ∙ or-false (s.corners j)))
      refl (sym (rw (e, n, or-true skips) (and-true s.seeks))) (sym (rw (n, or-true skips) (and-true s.null)))

-- a name
pub target_low : {names : List ℕ} {n m i : ℕ} {r : Option ℕ} → IsTarget names n m r → r ≡ Some i → n ≤ rule_limit → i < rule_limit
target_low {i = i} a e l = let b = (a.rule i e).below in omega arith

module _ (v : View) {m : ℕ} {skips : Bool} (t : Held) where
  pub name_unknown : {o : Option ℕ} {r : Held} → IsTarget v.names v.n m o → o ≡ None → SymbolSeen v.reading skips t r
      → NameSeen v m skips (seen_of t) (seen_of r)
  unfolding seen_of symbol
  name_unknown a e r =
      record { is = λ c f. ap seen_of r.is ∙ calls_nothing v (seen_of t) skips c (rw f (a.unknown e)) }

  pub name_known : {o : Option ℕ} {r : Seen} {i : ℕ} {h : Bool} → IsTarget v.names v.n m o → o ≡ Some i
      → h ≡ bit v.nullable i → r ≡ past_call (seen_of t) i (skips || h)
      → NameSeen v m skips (seen_of t) r
  name_known {i = i} a e b f =
      record {
        is = λ c g.
            f
            ∙ ap (λ x. past_call (seen_of t) i (skips || x)) b
            ∙ calls_rule v (seen_of t) skips c i (rw g (a.rule i e));
      }

-- What takes no input and does not stop inlining changes nothing.
leaf_nothing : (v : View) (t : Held) (skips : Bool) (l : Leaf) → is_semantic l ≡ false → ((j : ℕ) → calls_to v l j ≡ false)
    → leaf_ends v l ≡ false → leaf_null v l ≡ true → seen_of t ≡ past_leaf v (seen_of t) skips l
leaf_nothing v t skips l i x y z =
    same_seen (λ j. refl) (λ j. refl) (sym (ap (λ b. (seen_of t).stops || b) i ∙ or-false (seen_of t).stops)) refl refl
    ∙ past_silent v (seen_of t) skips l x y z

-- a leaf of a kind
module _ (v : View) {ws : List ℕ} {end k p : ℕ} {skips : Bool} where
  leaf_call : {w : ℕ} {s r : Seen} → k ≡ call_kind → w ≡ get_or ws p 0 → NameSeen v w skips s r → LeafSeen v ws end k p skips s r
  unfolding leaf_kind encode_leaf_in
  leaf_call {s = s} {r} e f n = record { is = go }
    where
      go : (l : Leaf) (q : ℕ) → k ≡ leaf_kind l → Stands ws end (encode_leaf l) p q → r ≡ past_leaf v s skips l
      go epsilon q h u = absurd (omega arith)
      go (action a) q h u = absurd (omega arith)
      go (predicate a) q h u = absurd (omega arith)
      go (call c) q h u = n.is c (sym (stands_head u) ∙ sym f)
      go (token a) q h u = absurd (omega arith)
      go terminal q h u = absurd (omega arith)
      go end_of_input q h u = absurd (omega arith)

  pub leaf_symbol : {t r : Held} → call_kind < k → (k ≡ end_kind → ⊥) → SymbolSeen v.reading skips t r
      → LeafSeen v ws end k p skips (seen_of t) (seen_of r)
  unfolding leaf_kind seen_of symbol
  leaf_symbol {t} {r} e z y = record { is = λ l q h u. ap seen_of y.is ∙ go l q h u }
    where
      go : (l : Leaf) (q : ℕ) → k ≡ leaf_kind l → Stands ws end (encode_leaf l) p q
          → symbol v (seen_of t) skips ≡ past_leaf v (seen_of t) skips l
      go epsilon q h u = absurd (omega arith)
      go (action a) q h u = absurd (omega arith)
      go (predicate a) q h u = absurd (omega arith)
      go (call c) q h u = absurd (omega arith)
      go (token a) q h u = past_token v (seen_of t) skips a
      go terminal q h u = past_terminal v (seen_of t) skips
      go end_of_input q h u = absurd (z h)

  leaf_epsilon : (t : Held) → k ≡ epsilon_kind → LeafSeen v ws end k p skips (seen_of t) (seen_of t)
  unfolding leaf_kind calls_to leaf_null leaf_ends sort_of is_end is_semantic leaf_ids
  leaf_epsilon t e = record { is = go }
    where
      go : (l : Leaf) (q : ℕ) → k ≡ leaf_kind l → Stands ws end (encode_leaf l) p q → seen_of t ≡ past_leaf v (seen_of t) skips l
      go epsilon q h u = leaf_nothing v t skips epsilon refl (λ j. refl) (and-false (not (passes_symbols v.reading))) refl
      go (action a) q h u = absurd (omega arith)
      go (predicate a) q h u = absurd (omega arith)
      go (call c) q h u = absurd (omega arith)
      go (token a) q h u = absurd (omega arith)
      go terminal q h u = absurd (omega arith)
      go end_of_input q h u = absurd (omega arith)

  leaf_end_lem : (t : Held) → k ≡ end_kind → LeafSeen v ws end k p skips (seen_of t) (seen_of t)
  unfolding leaf_kind calls_to leaf_null leaf_ends sort_of is_end is_semantic leaf_ids
  leaf_end_lem t e = record { is = go }
    where
      go : (l : Leaf) (q : ℕ) → k ≡ leaf_kind l → Stands ws end (encode_leaf l) p q → seen_of t ≡ past_leaf v (seen_of t) skips l
      go epsilon q h u = absurd (omega arith)
      go (action a) q h u = absurd (omega arith)
      go (predicate a) q h u = absurd (omega arith)
      go (call c) q h u = absurd (omega arith)
      go (token a) q h u = absurd (omega arith)
      go terminal q h u = absurd (omega arith)
      go end_of_input q h u = leaf_nothing v t skips end_of_input refl (λ j. refl) (and-false (not (passes_symbols v.reading))) refl

  leaf_semantic : (t : Held) → (k ≡ call_kind → ⊥) → k ≤ call_kind → (k ≡ epsilon_kind → ⊥)
      → LeafSeen v ws end k p skips (seen_of t) (seen_of (stopped t))
  unfolding leaf_kind seen_of calls_to leaf_null leaf_ends sort_of is_end is_semantic leaf_ids
  leaf_semantic t a b c = record { is = go }
    where
      there : (l : Leaf) → is_semantic l ≡ true → ((j : ℕ) → calls_to v l j ≡ false) → leaf_ends v l ≡ false → leaf_null v l ≡ true
          → seen_of (stopped t) ≡ past_leaf v (seen_of t) skips l
      there l i x y z =
          same_seen (λ j. refl) (λ j. refl) (sym (ap (λ x. t.stops || x) i ∙ or-true t.stops)) refl refl
          ∙ past_silent v (seen_of t) skips l x y z

      go : (l : Leaf) (q : ℕ) → k ≡ leaf_kind l → Stands ws end (encode_leaf l) p q
          → seen_of (stopped t) ≡ past_leaf v (seen_of t) skips l
      go epsilon q h u = absurd (c (omega arith))
      go (action x) q h u = there (action x) refl (λ j. refl) (and-false (not (passes_symbols v.reading))) refl
      go (predicate x) q h u = there (predicate x) refl (λ j. refl) (and-false (not (passes_symbols v.reading))) refl
      go (call x) q h u = absurd (a (omega arith))
      go (token x) q h u = absurd (omega arith)
      go terminal q h u = absurd (omega arith)
      go end_of_input q h u = absurd (omega arith)

module _ (v : View) {ws : List ℕ} {end p : ℕ} {skips : Bool} {k : Kind} where
  pub at_call : {w : ℕ} {s r : Seen} → k ≡ kind.Call → w ≡ get_or ws p 0 → NameSeen v w skips s r → LeafSeen v ws end (kind_number k) p skips s r
  at_call e = leaf_call v (ap kind_number e)

  pub at_symbol : {t r : Held} → k ≡ kind.Token ⊎ (k ≡ kind.Terminal ⊎ k ≡ kind.Block) → SymbolSeen v.reading skips t r
      → LeafSeen v ws end (kind_number k) p skips (seen_of t) (seen_of r)
  at_symbol (inl e) = let i = ap kind_number e in leaf_symbol v (omega arith) (λ z. omega arith)
  at_symbol (inr (inl e)) = let i = ap kind_number e in leaf_symbol v (omega arith) (λ z. omega arith)
  at_symbol (inr (inr e)) = let i = ap kind_number e in leaf_symbol v (omega arith) (λ z. omega arith)

  pub at_nothing : (t : Held) → k ≡ kind.Epsilon ⊎ k ≡ kind.EndOfInput → LeafSeen v ws end (kind_number k) p skips (seen_of t) (seen_of t)
  at_nothing t (inl e) = leaf_epsilon v t (ap kind_number e)
  at_nothing t (inr e) = leaf_end_lem v t (ap kind_number e)

  pub at_semantic : (t : Held) → k ≡ kind.Action ⊎ k ≡ kind.Predicate
      → LeafSeen v ws end (kind_number k) p skips (seen_of t) (seen_of (stopped t))
  at_semantic t (inl e) = let i = ap kind_number e in leaf_semantic v t (λ z. omega arith) (omega arith) (λ z. omega arith)
  at_semantic t (inr e) = let i = ap kind_number e in leaf_semantic v t (λ z. omega arith) (omega arith) (λ z. omega arith)

pub ruleset sees = (call_seen, target_low, name_unknown, name_known)

pub ruleset leaves = (at_call, at_symbol, at_nothing, at_semantic)
