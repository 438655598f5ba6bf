-- The rule that a chain over rules takes: of those in a row, the one with the least id.
use Prim.Native.Nat.{ℕ, zero, suc, ◌+◌, ◌<◌, ◌≤◌}
use mathlib.Core.Path.{◌≡◌, refl, sym, ap, subst, ◌∙◌}
use mathlib.Core.List.{List, ◌∷◌, map-id}
use mathlib.Core.Bool.{Bool, true, false}
use native.Mathlib.Omega.{arith}
use lib.Dec.{leb}
use lib.ListN.{length, get_or}
use borrow.Author.Tests.{leb-true, leb-false}
use denote.Bor.{Bor}
use denote.Param.Members.{Mut}
use Rattle.std.specs.Prelude.{Option, Some, None, filter}
use Rattle.std.specs.List.{range_with_len, slice_get}
use Rattle.std.specs.Ordering.{nat_cmp, is_lt}
use Rattle.std.specs.Option.{IsSomeAnd, IfSome, MatchOption}
use Rattle.std.specs.Fn.{CalledAt}
use Rattle.std.specs.Iterator.Adapters.{filter_steps, filter_source, filter_callee}
use Rattle.std.specs.Iterator.Runs.{Run, WholeRun, YieldsRun, AnyItem, NoKeyBeyond, CallKeepsClosure}
use Rattle.std.specs.declared.iter.Filter.{Filter}
use Rattle.std.proofs.lemmas.Iterator.{YieldsList, items_from_drains}
use Rattle.std.proofs.lemmas.Iterator.Consumers.{YieldsList-from_filter}
use Rattle.std.proofs.lemmas.Map.Keys.{ge_from_not_lt}
use Rattle.std.proofs.lemmas.Option.{slice_get_within}
use Rattle.grammar.specs.Laws.Parse.{either, never}
use Rattle.reach.specs.Rows.{bit}
use Rattle.reach.specs.Cycles.{Least, NoneLeft, IsNext}

-- Of the numbers from a on, those that pass a test: each passes, and each that passes has a place among them.
module _ (test : ℕ → Bool) where
  abbrev taken : ℕ → ℕ → List ℕ
  taken a n = filter test (range_with_len a n)

  abbrev Passes : (a n x : ℕ) → Type 0
  Passes a n x = (a ≤ x) × (x < a + n) × (test x ≡ true)

  passing_one : (a n x : ℕ) → ((k : ℕ) → slice_get (taken (a + 1) n) k ≡ Some x → Passes (a + 1) n x) → (k : ℕ)
      → slice_get (taken a (suc n)) k ≡ Some x → Passes a (suc n) x
  passing_one a n x later k e = either (test a) (λ t. here t k (rw t at e)) (λ t. behind k (rw t at e))
    where
      behind : (k : ℕ) → slice_get (taken (a + 1) n) k ≡ Some x → Passes a (suc n) x
      behind k e = let p = later k e in (omega (arith, p.0), omega (arith, p.1), p.2)

      here : test a ≡ true → (k : ℕ) → slice_get (a ∷ taken (a + 1) n) k ≡ Some x → Passes a (suc n) x
      here t zero e = let z : a ≡ x = cc in (omega arith, omega arith, rw z at t)
      here t (suc k) e = behind k e

  passing : (a n k x : ℕ) → slice_get (taken a n) k ≡ Some x → Passes a n x
  passing a zero k x e = never cc
  passing a (suc n) k x e = passing_one a n x (λ k e. passing (a + 1) n k x e) k e

  place : (a n x : ℕ) → a ≤ x → x < a + n → test x ≡ true → (k : ℕ) × (slice_get (taken a n) k ≡ Some x)
  place a zero x l h t = absurd (omega arith)
  place a (suc n) x l h t =
      either (leb x a) (λ e. let z : a ≡ x = (let u = leb-true x a e in omega arith) in (0, rw (z, t) refl))
      (λ e.
      let r = place (a + 1) n x (let u = leb-false x a e in omega arith) (omega arith) t in
      either (test a) (λ s. (suc r.0, rw s r.1)) (λ s. (r.0, rw s r.1)))

some_is : (o : Option ℕ) (m : ℕ) → IsSomeAnd o (λ x. x ≡ m) → o ≡ Some m
some_is (Some x) m e = ap Some e
some_is None m e = absurd e

-- A run over the rules of a row, and the least of them by id.
module _ {S : Type 0} (steps : S → Option ℕ → S → Type 0) (p : Run steps) (ids left : List ℕ) (n : ℕ) (is : p.items ≡ taken (bit left) 0 n) where
  found : (k : ℕ) → p.at k ≡ slice_get (taken (bit left) 0 n) k
  unfolding YieldsRun
  found k = p.gave.1 k ∙ ap (λ xs. slice_get xs k) is

  none_next : p.len ≡ 0 → NoneLeft left n
  none_next z =
      record {
        none = λ j h. either (bit left j)
            (λ t.
            let r = place (bit left) 0 n j (omega arith) (omega arith) t in
            absurd (omega (arith, z, p.long ∙ ap length is, slice_get_within (taken (bit left) 0 n) r.0 j r.1)))
            (λ t. t);
      }

  least_next : {G : Type 0} (key : Mut G (Bor ℕ × Unit {0}) ℕ) {g : G} → CallKeepsClosure key g
      → ((x j : ℕ) (q : G) → CalledAt key g x j q → j ≡ get_or ids x 0)
      → (m : ℕ) → AnyItem p (λ x. x ≡ m) → NoKeyBeyond p key g is_lt nat_cmp m → Least ids left n m
  least_next key {g} still keys m a b =
      let h = passing (bit left) 0 n a.0 m (sym (found a.0) ∙ some_is (p.at a.0) m a.2) in
      let w = b still in
      record {
        below = omega (arith, h.1);
        there = h.2;
        least = λ j l t.
            let r = place (bit left) 0 n j (omega arith) (omega arith) t in
            let u = subst (λ o. IfSome o (λ x. (i : ℕ) × CalledAt key g x i g × (is_lt (nat_cmp i w.0) ≡ false))) (found r.0 ∙ r.1) (w.2 r.0) in
            let v = ge_from_not_lt u.0 w.0 u.2 in
            omega (arith, v, keys j u.0 g u.1, keys m w.0 g w.1);
      }

-- The rules of a row that a chain passes, in the order of their places.
items : {S F : Type 0} (steps : S → Option ℕ → S → Type 0) (pass : Mut F (Bor ℕ × Unit {0}) Bool) {f : F} (left : List ℕ) (n : ℕ)
    → ((x : ℕ) (b : Bool) (q : F) → CalledAt pass f x b q → (q ≡ f) × (b ≡ bit left x))
    → (p : Run (filter_steps steps pass)) {s : Filter S F} → YieldsList steps (λ x. x) (filter_source s) (range_with_len 0 n) → filter_callee s ≡ f
    → p.from ≡ s → p.whole ≡ true → p.items ≡ taken (bit left) 0 n
unfolding YieldsRun
items steps pass left n passes p {s} a b from whole =
    let d = rw from at p.gave.0 in
    sym (map-id p.items) ∙ items_from_drains p.items (d.0, d.1, λ _. d.2 whole) (YieldsList-from_filter pass (bit left) a b passes)

pub is_next : {S F G : Type 0} (steps : S → Option ℕ → S → Type 0) (pass : Mut F (Bor ℕ × Unit {0}) Bool) (key : Mut G (Bor ℕ × Unit {0}) ℕ)
    {f : F} {g : G} (ids left : List ℕ) (n : ℕ) {s : Filter S F} → YieldsList steps (λ x. x) (filter_source s) (range_with_len 0 n)
    → filter_callee s ≡ f → (r : Option ℕ)
    → WholeRun (filter_steps steps pass) s
    (λ p. MatchOption r (p.len ≡ 0) (λ m. AnyItem p (λ x. x ≡ m) × NoKeyBeyond p key g is_lt nat_cmp m))
    → ((x : ℕ) (b : Bool) (q : F) → CalledAt pass f x b q → (q ≡ f) × (b ≡ bit left x)) → CallKeepsClosure key g
    → ((x j : ℕ) (q : G) → CalledAt key g x j q → j ≡ get_or ids x 0) → IsNext ids left n r
is_next steps pass key ids left n a b None (p, from, whole, h) passes still keys =
    none_next (filter_steps steps pass) p ids left n (items steps pass left n passes p a b from whole) h
is_next steps pass key ids left n a b (Some m) (p, from, whole, h) passes still keys =
    least_next (filter_steps steps pass) p ids left n (items steps pass left n passes p a b from whole) key still keys m h.0 h.1
