-- Lists of rules looked through: by membership, by id, by name.
use Prim.Native.Nat.{ℕ, suc, ◌≤◌}
use Rattle.std.specs.Prelude.{◌≡◌, Bool, true, false}
use Rattle.std.proofs.Math.Path.{refl, ap, subst}
use Rattle.std.proofs.Common.{sym, ◌∙◌, true≢false, eqb-true, eq-eqb}
use Rattle.std.proofs.Math.Logic.{⊎_elim}
use mathlib.Core.List.Memᴰ
use mathlib.Core.List.{List, [], ◌∷◌, map}
use mathlib.Core.List.{Memᴰ}
use Rattle.std.proofs.Math.Option.{Option, none, some, some-injective, none-ne-some}
use Rattle.std.proofs.lemmas.Bool.{false≢true}
use native.Mathlib.Omega.{arith}
use Rattle.std.proofs.Math.ListN.{length}
use Rattle.std.proofs.Math.Dec.{eqb}
use Rattle.std.specs.Cmp.{first_so, second_so}
use Rattle.grammar.specs.Laws.Lists.{in_member}
use Rattle.grammar.specs.Tree.{RuleOf}
use Rattle.grammar.specs.Lists.{member, distinct, all, any, keep, first}
use Rattle.grammar.specs.Laws.Parse.{either}
use Rattle.reference.specs.Analysis.{Name, Grammar, name_of, names_of, target, rule_with_id}
use Rattle.graph.specs.Members.{one_with}

pub not_in : (x : ℕ) (xs : List ℕ) → member x xs ≡ false → Memᴰ x xs → ⊥
not_in x xs f m = true≢false (sym (in_member m) ∙ f)

-- Those that pass a test.
module _ {A : Type 0} (test : A → Bool) where
  pub first_some : (as' : List A) {a : A} → first test as' ≡ some a → Memᴰ a as' × (test a ≡ true)
  unfolding first
  first_some [] {a} e = absurd (none-ne-some a e)
  first_some (x ∷ as') {a} e =
      either (test x)
      (λ t. let p : x ≡ a = some-injective x a (rw (t, first) at e) in (Memᴰ.head (sym p), subst (λ y. test y ≡ true) p t))
      (λ f. let r = first_some as' (rw (f, first) at e) in (Memᴰ.tail r.0, r.1))

  pub first_none : {a : A} {as' : List A} → first test as' ≡ none → Memᴰ a as' → test a ≡ false
  unfolding first
  first_none {a} e (Memᴰ.head {x = x} p) =
      either (test x) (λ t. absurd (none-ne-some x (sym e ∙ rw (t, first)))) (λ f. ap test p ∙ f)
  first_none {a} e (Memᴰ.tail {x = x} {xs = xs} m) =
      either (test x) (λ t. absurd (none-ne-some x (sym e ∙ rw (t, first)))) (λ f. first_none (rw (f, first) at e) m)

  pub all_in : {a : A} {as' : List A} → all test as' ≡ true → Memᴰ a as' → test a ≡ true
  unfolding all
  all_in t (Memᴰ.head {x = x} {xs = xs} e) = ap test e ∙ first_so (test x) (all test xs) t
  all_in t (Memᴰ.tail {x = x} {xs = xs} m) = all_in (second_so (test x) (all test xs) t) m

  pub any_in : (as' : List A) → any test as' ≡ true → (a : A) × Memᴰ a as' × (test a ≡ true)
  unfolding any
  any_in [] t = absurd (false≢true t)
  any_in (x ∷ as') t =
      either (test x)
      (λ u. (x, Memᴰ.head refl, u))
      (λ f. let r = any_in as' (rw f at t) in (r.0, Memᴰ.tail r.1, r.2))

  pub any_false : {a : A} {as' : List A} → any test as' ≡ false → Memᴰ a as' → test a ≡ false
  unfolding any
  any_false {a} e (Memᴰ.head {x = x} p) = either (test x) (λ t. absurd (true≢false (sym (rw t) ∙ e))) (λ f. ap test p ∙ f)
  any_false {a} e (Memᴰ.tail {x = x} m) =
      either (test x) (λ t. absurd (true≢false (sym (rw t) ∙ e))) (λ f. any_false (rw f at e) m)

  pub keep_short : (as' : List A) → length (keep test as') ≤ length as'
  unfolding keep
  keep_short [] = omega arith
  keep_short (x ∷ as') =
      let h = keep_short as' in
      either (test x) (λ t. rw t (omega arith)) (λ f. rw f (omega arith))

  -- As many as before: all pass.
  pub keep_all : (as' : List A) → length (keep test as') ≡ length as' → {a : A} → Memᴰ a as' → test a ≡ true
  unfolding keep
  keep_all [] e m = absurd (Memᴰ.not-nil m)
  keep_all (x ∷ as') e {a} m =
      either (test x)
      (λ t. ⊎_elim (λ p. ap test p ∙ t)
      (keep_all as' (let h : suc (length (keep test as')) ≡ suc (length as') = rw t at e in omega arith)) (Memᴰ.cases_cons m))
      (λ f. absurd (let h : length (keep test as') ≡ suc (length as') = rw f at e in omega (arith, keep_short as')))

-- A call's target is a rule of that name.
module _ {B : Type 0} (rs : List (RuleOf B)) (g : Grammar) (named : g.names ≡ names_of rs) where
  target_found : (n : ℕ) (o : Option Name) {t : ℕ} → first (λ p. eqb p.name n) g.names ≡ o
      → (elim o as (λ x. Option ℕ) [ none ↦ none | some p ↦ some p.id ]) ≡ some t
      → (p : Name) × Memᴰ p (names_of rs) × (p.name ≡ n) × (p.id ≡ t)
  target_found n none {t} e u = absurd (none-ne-some t u)
  target_found n (some p) {t} e u =
      let r = first_some (λ p. eqb p.name n) g.names e in
      (p, subst (λ l. Memᴰ p l) named r.0, eqb-true p.name n r.1, some-injective p.id t u)

  pub target_rule : (n : ℕ) {t : ℕ} → target g n ≡ some t → (r : RuleOf B) × Memᴰ r rs × (r.name ≡ n) × (r.id ≡ t)
  unfolding target names_of
  target_rule n {t} e =
      let p = target_found n (first (λ p. eqb p.name n) g.names) refl e in
      let r = Memᴰ.of_map name_of rs p.1 in
      (r.0, r.1, ap (λ q. q.name) r.2 ∙ p.2, ap (λ q. q.id) r.2 ∙ p.3)

  -- Where ids are not shared, a name that has a rule for its target is that rule's.
  pub target_name : distinct (map (λ r. r.id) rs) ≡ true → {r : RuleOf B} → Memᴰ r rs → (n : ℕ) → target g n ≡ some r.id
      → r.name ≡ n
  target_name t m n e =
      let (q, k, name, id) = target_rule n e in
      ap (λ r. r.name) (one_with (λ r. r.id) rs t m k (sym id)) ∙ name

  -- Where names are not shared, a call of a rule's name has that rule for its target.
  pub rule_target : distinct (map (λ r. r.name) rs) ≡ true → {r : RuleOf B} → Memᴰ r rs → target g r.name ≡ some r.id
  unfolding target names_of
  rule_target t {r} m = go (first (λ p. eqb p.name r.name) g.names) refl
    where
      here : Memᴰ (name_of r) g.names
      here = subst (λ l. Memᴰ (name_of r) l) (sym named) (Memᴰ.map name_of m)

      go : (o : Option Name) → first (λ p. eqb p.name r.name) g.names ≡ o
          → (elim o as (λ x. Option ℕ) [ none ↦ none | some p ↦ some p.id ]) ≡ some r.id
      go none e = absurd (true≢false (sym (eq-eqb r.name r.name refl) ∙ first_none (λ p. eqb p.name r.name) e here))
      go (some p) e =
          let x = target_found r.name (some p) e refl in
          let q = Memᴰ.of_map name_of rs x.1 in
          let same = one_with (λ r. r.name) rs t q.1 m (ap (λ y. y.name) q.2 ∙ x.2) in
          ap some (sym x.3 ∙ sym (ap (λ y. y.id) q.2) ∙ ap (λ y. y.id) same)

pub rule_with_id_lem : {B : Type 0} (rs : List (RuleOf B)) (i : ℕ) {r : RuleOf B} → rule_with_id rs i ≡ some r → Memᴰ r rs × (r.id ≡ i)
unfolding rule_with_id
rule_with_id_lem rs i {r} e =
    let x = first_some (λ r. eqb r.id i) rs e in
    (x.0, eqb-true r.id i x.1)
