-- Measures added up: no_size, one more, and a list item by item.
use Prim.Native.Nat.{ℕ, ◌+◌, ◌≤◌}
use mathlib.Core.Path.{◌≡◌, refl, sym, ap, ◌∙◌, subst}
use mathlib.Core.List.{List, [], ◌∷◌, ◌++◌}
use native.Mathlib.Omega.{arith}
use lib.ListN.{length-append}
use Rattle.grammar.specs.Tree.{Counters}
use Rattle.grammar.specs.Lists.{each}
use Rattle.reference.specs.Apply.{Fresh, fresh_each}
use Rattle.sizes.specs.Tally.{behind}
use Rattle.sizes.specs.Sized.{Sized, Under, no_size, plus}
use Rattle.sizes.specs.declared.sums.Measure.{Measure}
use Rattle.sizes.proofs.Laws.Renumber.{same_counters}

same_measure : (a b : Measure) → a.tally.alternatives ≡ b.tally.alternatives → a.tally.elements ≡ b.tally.elements
    → a.tally.labels ≡ b.tally.labels → a.tally.actions ≡ b.tally.actions → a.tally.predicates ≡ b.tally.predicates → a.words ≡ b.words
    → a ≡ b
same_measure a b p q r s t u i =
    record {
      tally = record { alternatives = p i; elements = q i; labels = r i; actions = s i; predicates = t i };
      words = u i;
    }

pub none_is : {m : Measure} → m.tally.alternatives ≡ 0 → m.tally.elements ≡ 0 → m.tally.labels ≡ 0 → m.tally.actions ≡ 0
    → m.tally.predicates ≡ 0 → m.words ≡ 0 → m ≡ no_size
none_is {m} p q r s t u = same_measure m no_size p q r s t u

plus_none : (m : Measure) → plus m no_size ≡ m
unfolding plus
plus_none m = same_measure _ _ (omega arith) (omega arith) (omega arith) (omega arith) (omega arith) (omega arith)

none_plus : (m : Measure) → plus no_size m ≡ m
unfolding plus
none_plus m = same_measure _ _ (omega arith) (omega arith) (omega arith) (omega arith) (omega arith) (omega arith)

plus_assoc : (a b c : Measure) → plus (plus a b) c ≡ plus a (plus b c)
unfolding plus
plus_assoc a b c =
    same_measure _ _ (omega arith) (omega arith) (omega arith) (omega arith) (omega arith) (omega arith)

module _ {A B : Type 0} (enc : B → List ℕ) (f : A → Counters → Fresh B) where
  sized_none : Sized (each enc) (fresh_each f []) no_size
  unfolding fresh_each behind
  sized_none =
      record {
        counters = λ c. sym (same_counters _ _ (omega arith) (omega arith) (omega arith) (omega arith) (omega arith));
        entries = λ c. refl;
        words = λ c. refl;
      }

  sized_more : (a : A) (as' : List A) {m n : Measure} → Sized enc (f a) m → Sized (each enc) (fresh_each f as') n
      → Sized (each enc) (fresh_each f (a ∷ as')) (plus m n)
  unfolding fresh_each behind plus
  sized_more a as' {m} {n} x y =
      record {
        counters = λ c.
            y.counters (f a c).counters ∙ ap (λ z. behind z n.tally) (x.counters c)
            ∙ same_counters _ _ (omega arith) (omega arith) (omega arith) (omega arith) (omega arith);
        entries = λ c.
            let r = fresh_each f as' (f a c).counters in
            let h = length-append r.entries [] in
            let i = length-append (f a c).entries (r.entries ++ []) in
            let j = x.entries c in
            let k = y.entries (f a c).counters in
            omega arith;
        words = λ c.
            let r = fresh_each f as' (f a c).counters in
            let i = length-append (enc (f a c).node) (each enc r.node) in
            let j = x.words c in
            let k = y.words (f a c).counters in
            omega arith;
      }

  -- A loop over a list: with the measure of what is left this is the measure of all.
  pub record Summing (all left : List A) (m : Measure) : Type 0 where
    pub rest : (n : Measure) → Sized (each enc) (fresh_each f left) n → Sized (each enc) (fresh_each f all) (plus m n)

  pub summing_all : (as' : List A) → Summing as' as' no_size
  summing_all as' = record { rest = λ n s. subst (Sized (each enc) (fresh_each f as')) (sym (none_plus n)) s }

  module _ {all left : List A} {m : Measure} (g : Summing all left m) where
    pub summing_done : left ≡ [] → Sized (each enc) (fresh_each f all) m
    summing_done e =
        subst (Sized (each enc) (fresh_each f all)) (plus_none m)
        (g.rest no_size (subst (λ l. Sized (each enc) (fresh_each f l) no_size) (sym e) sized_none))

    pub summing_more : {a : A} {as' : List A} → left ≡ a ∷ as' → {n r : Measure} → Sized enc (f a) n → r ≡ plus m n
        → Summing all as' r
    summing_more {a} {as'} e {n} {r} x p =
        record {
          rest = λ k y.
              subst (Sized (each enc) (fresh_each f all)) (sym (ap (λ z. plus z k) p ∙ plus_assoc m n k))
              (g.rest (plus n k) (subst (λ l. Sized (each enc) (fresh_each f l) (plus n k)) (sym e) (sized_more a as' x y)));
        }

-- Bounds.
module _ {m n : Measure} where
  pub under_sum : {r : Measure} {j k l : ℕ} → Under m j → Under n k → r ≡ plus m n → j + k ≤ l → Under r l
  unfolding plus
  under_sum {r} {j} {k} {l} x y p h = subst (λ z. Under z l) (sym p) (search arith)

pub under_more : {m : Measure} {j k : ℕ} → Under m j → j ≤ k → Under m k
under_more x h = search arith

pub under_none : (k : ℕ) → Under no_size k
under_none k = search arith
