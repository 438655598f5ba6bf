-- Copies of leaves.
use Prim.Native.Nat.{ℕ, ◌+◌, ◌-◌, ◌≤◌}
use mathlib.Core.Path.{◌≡◌, sym}
use mathlib.Core.List.{List, ◌∷◌}
use native.Mathlib.Omega.{arith}
use lib.ListN.{length, take, drop}
use Rattle.grammar.specs.Numbers.{action_kind, predicate_kind, action_sort, predicate_sort}
use Rattle.grammar.specs.Tree.{Leaf, epsilon, action, predicate, call, token, terminal, end_of_input}
use Rattle.grammar.specs.Words.{words}
use Rattle.grammar.specs.Stands.{Stands, Spans}
use Rattle.grammar.specs.Encode.{leaf_kind, encode_leaf, encode_leaf_in}
use Rattle.grammar.specs.Valid.{ok_leaf}
use Rattle.grammar.specs.Laws.Words.{length_words}
use Rattle.grammar.specs.Laws.Stands.{stands_head, stands_length, stands_slice, run_stands}
use Rattle.reference.specs.Apply.{renumber_leaf}
use Rattle.words.specs.Room.{Room}
use Rattle.writing.specs.Wrote.{Wrote}
use Rattle.writing.specs.Taken.{counters_of}
use Rattle.copies.specs.declared.pen.Pen.{Pen}
use Rattle.copies.specs.Pen.{Drew}
use Rattle.copies.specs.Heads.{MarkedRoom, MarkedCopied, LeafRoom, LeafCopied}
use Rattle.copies.specs.Laws.Drawn.{drawn_words}

-- What stands behind the first word of a list.
pub tail_slice : {ws : List ℕ} {end x : ℕ} (xs : List ℕ) {at q : ℕ} → q ≤ length ws → Stands ws end (x ∷ xs) at q
    → take (q - (at + 1)) (drop (at + 1) ws) ≡ xs
tail_slice {ws} {end} xs {at} {q} h s =
    let z : Stands ws end xs (at + 1) q = run_stands at 1 s.run.1 in
    let l = stands_length z in
    let e : q - (at + 1) ≡ length xs = omega arith in
    rw e (stands_slice h z)

-- A whole list.
whole_slice : {ws : List ℕ} {end : ℕ} {xs : List ℕ} {at q : ℕ} → q ≤ length ws → Stands ws end xs at q → take (q - at) (drop at ws) ≡ xs
whole_slice {xs = xs} {at} {q} h s =
    let l = stands_length s in
    let e : q - at ≡ length xs = omega arith in
    rw e (stands_slice h s)

pub within : {bs : List ℕ} {end there : ℕ} → Room bs end → there ≤ end → there ≤ length (words bs)
within {bs} r h = omega (arith, length_words bs, r.trailer)

module _ {kind at there : ℕ} {out t : List ℕ} {p : Pen} (r : LeafRoom kind at there out t p) where
  pub action_room : kind ≡ action_kind → MarkedRoom p.counters.action at there out t p
  action_room e = r.action e

  pub predicate_room : kind ≡ predicate_kind → MarkedRoom p.counters.predicate at there out t p
  predicate_room e = r.predicate e

module _ {bs : List ℕ} {end kind at there : ℕ} {out out' t t' : List ℕ} {p p' : Pen} (r : Room bs end) (h : there ≤ end) where
  pub leaf_action : kind ≡ action_kind → MarkedCopied action_sort p.counters.action (words bs) at there out out' t t' p p'
      → LeafCopied (words bs) end kind at there out out' t t' p p'
  unfolding renumber_leaf encode_leaf_in leaf_kind
  leaf_action e m = record { is = go }
    where
      go : (l : Leaf) → leaf_kind l ≡ kind → Spans (words bs) end encode_leaf ok_leaf at l there
          → Drew encode_leaf (renumber_leaf l (counters_of p.counters)) out out' t t' p p'
      go epsilon k s = absurd (omega arith)
      go (action a) k s = rw (tail_slice _ (within r h) s.stands, stands_head s.stands) at m
      go (predicate q) k s = absurd (omega arith)
      go (call c) k s = absurd (omega arith)
      go (token n) k s = absurd (omega arith)
      go terminal k s = absurd (omega arith)
      go end_of_input k s = absurd (omega arith)

  pub leaf_predicate : kind ≡ predicate_kind → MarkedCopied predicate_sort p.counters.predicate (words bs) at there out out' t t' p p'
      → LeafCopied (words bs) end kind at there out out' t t' p p'
  unfolding renumber_leaf encode_leaf_in leaf_kind
  leaf_predicate e m = record { is = go }
    where
      go : (l : Leaf) → leaf_kind l ≡ kind → Spans (words bs) end encode_leaf ok_leaf at l there
          → Drew encode_leaf (renumber_leaf l (counters_of p.counters)) out out' t t' p p'
      go epsilon k s = absurd (omega arith)
      go (action a) k s = absurd (omega arith)
      go (predicate q) k s = rw (tail_slice _ (within r h) s.stands, stands_head s.stands) at m
      go (call c) k s = absurd (omega arith)
      go (token n) k s = absurd (omega arith)
      go terminal k s = absurd (omega arith)
      go end_of_input k s = absurd (omega arith)

pub leaf_other : {bs : List ℕ} {end kind at there : ℕ} {out out' t : List ℕ} {p p' : Pen} → Room bs end → there ≤ end
    → (kind ≡ action_kind → ⊥) → (kind ≡ predicate_kind → ⊥)
    → Wrote out out' p.to (take (there - at) (drop at (words bs)))
    → p'.to ≡ p.to + (there - at) → p'.trail ≡ p.trail → counters_of p'.counters ≡ counters_of p.counters
    → LeafCopied (words bs) end kind at there out out' t t p p'
unfolding renumber_leaf leaf_kind
leaf_other {bs} {end} {kind} {at} {there} {out} {out'} {t} {p} {p'} r h na np w x y z = record { is = go }
  where
    same : {xs : List ℕ} → Stands (words bs) end xs at there → Wrote out out' p.to xs
    same s = rw (whole_slice (within r h) s) at w

    long : {xs : List ℕ} → Stands (words bs) end xs at there → p'.to ≡ p.to + length xs
    long {xs} s = let l = stands_length s in omega arith

    go : (l : Leaf) → leaf_kind l ≡ kind → Spans (words bs) end encode_leaf ok_leaf at l there
        → Drew encode_leaf (renumber_leaf l (counters_of p.counters)) out out' t t p p'
    go epsilon k s = drawn_words t (same s.stands) (long s.stands) y z
    go (action a) k s = absurd (na (sym k))
    go (predicate q) k s = absurd (np (sym k))
    go (call c) k s = drawn_words t (same s.stands) (long s.stands) y z
    go (token n) k s = drawn_words t (same s.stands) (long s.stands) y z
    go terminal k s = drawn_words t (same s.stands) (long s.stands) y z
    go end_of_input k s = drawn_words t (same s.stands) (long s.stands) y z

pub ruleset leaves = (action_room, predicate_room, leaf_action, leaf_predicate, leaf_other)
