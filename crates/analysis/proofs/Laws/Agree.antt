-- What is known of rules by their places is what the definition's grammar says of them by their ids.
use Prim.Native.Nat.{ℕ, suc, ◌<◌}
use mathlib.Core.Path.{◌≡◌, refl, sym, ap, ◌∙◌}
use mathlib.Core.List.{List, [], ◌∷◌, ◌++◌}
use mathlib.Core.Option.{none, some}
use mathlib.Core.Bool.{true, false, ◌&&◌, and-true, and-false, or-false}
use native.Mathlib.Omega.{arith}
use lib.ListN.{length, get_or}
use lib.Dec.{eqb, ltb}
use borrow.Author.Tests.{eqb-true, eqb-false, ltb-true, lt-ltb, eq-eqb, ne_eqb}
use Rattle.grammar.specs.Tree.{Rule}
use Rattle.grammar.specs.Lists.{member, first}
use Rattle.grammar.specs.Laws.Parse.{either}
use Rattle.grammar.specs.Corners.{Corners}
use Rattle.reference.specs.Analysis.{Grammar, name_of, names_of, target}
use Rattle.records.specs.declared.rules.Rules.{Rules}
use Rattle.reach.specs.Rows.{bit, holds, RowOf}
use Rattle.analysis.specs.Names.{is_named, any_below}
use Rattle.analysis.specs.Survey.{View}
use Rattle.analysis.specs.Facts.{Agrees, Among, Standing}
use Rattle.analysis.proofs.Laws.Seen.{any_only, any_none}
use Rattle.analysis.proofs.Laws.Standing.{among, few, all_rules, id_at, name_at, one_rule}

-- The first rule of a name, or none.
data Named (rs : List Rule) (m : ℕ) : Type 0 where
  named_at : {i : ℕ} (a : Among rs i) → a.rule.name ≡ m → first (λ p. eqb p.name m) (names_of rs) ≡ some (name_of a.rule) → Named rs m
  named_none : ((i : ℕ) (a : Among rs i) → a.rule.name ≡ m → ⊥) → first (λ p. eqb p.name m) (names_of rs) ≡ none → Named rs m

none_among : {i : ℕ} → Among [] i → ⊥
none_among a = let l = few a in omega arith

abbrev pub behind : (r : Rule) {rs : List Rule} {i : ℕ} → Among rs i → Among (r ∷ rs) (suc i)
behind r a = record { front = r ∷ a.front; rule = a.rule; rest = a.rest; parts = ap (λ xs. r ∷ xs) a.parts; count = ap suc a.count }

-- The first of several, or one of the others.
split : {R : Type 0} {r : Rule} {rs : List Rule} {i : ℕ} (a : Among (r ∷ rs) i) → (a.rule ≡ r → R)
    → ((j : ℕ) (b : Among rs j) → b.rule ≡ a.rule → R) → R
split {R} {r} {rs} a x y = go a.front a.parts
  where
    go : (front : List Rule) → front ++ (a.rule ∷ a.rest) ≡ r ∷ rs → R
    go [] p = x (cc)
    go (f ∷ front) p =
        let e : front ++ (a.rule ∷ a.rest) ≡ rs = cc in
        y (length front) (record { front = front; rule = a.rule; rest = a.rest; parts = e; count = refl }) refl

named_more : (r : Rule) (rs : List Rule) (m : ℕ) → Named rs m → Named (r ∷ rs) m
unfolding names_of first
named_more r rs m n = either (eqb r.name m) here (λ e. there e n)
  where
    here : eqb r.name m ≡ true → Named (r ∷ rs) m
    here e =
        named_at (record { front = []; rule = r; rest = rs; parts = refl; count = refl }) (eqb-true r.name m e) (rw (e, first) refl)

    there : eqb r.name m ≡ false → Named rs m → Named (r ∷ rs) m
    there e (named_at a h f) = named_at (behind r a) h (rw (e, first) f)
    there e (named_none h f) =
        named_none
        (λ i a k. split a (λ x. eqb-false r.name m e (ap (λ t. t.name) (sym x) ∙ k)) (λ j b x. h j b (ap (λ t. t.name) x ∙ k))) (rw (e, first) f)

named : (rs : List Rule) (m : ℕ) → Named rs m
unfolding names_of first
named [] m = named_none (λ i a. absurd (none_among a)) refl
named (r ∷ rs) m = named_more r rs m (named rs m)

-- A number that no two rules share is one rule's.
module _ {rs : List Rule} {n : ℕ} (all : n ≡ length rs) (key : Rule → ℕ) (numbers : List ℕ)
    (at : (i : ℕ) (a : Among rs i) → get_or numbers i 0 ≡ key a.rule)
    (one : (i j : ℕ) (a : Among rs i) (b : Among rs j) → key a.rule ≡ key b.rule → i ≡ j) where
  is_only : {i m : ℕ} (a : Among rs i) → key a.rule ≡ m → (j : ℕ) → (ltb j n && eqb (get_or numbers j 0) m) ≡ eqb j i
  is_only {i} {m} a e j = either (eqb j i) same other
    where
      low : i < n
      low = let l = few a in omega arith

      same : eqb j i ≡ true → (ltb j n && eqb (get_or numbers j 0) m) ≡ eqb j i
      same x =
          let y = eqb-true j i x in
          rw (y, lt-ltb i n low, at i a, e, eq-eqb m m refl) (sym (eq-eqb i i refl))

      other : eqb j i ≡ false → (ltb j n && eqb (get_or numbers j 0) m) ≡ eqb j i
      other x = either (ltb j n) inside (λ f. rw f (sym x))
        where
          inside : ltb j n ≡ true → (ltb j n && eqb (get_or numbers j 0) m) ≡ eqb j i
          inside f =
              let b = among rs j (let l = ltb-true j n f in omega arith) in
              rw (f, at j b, ne_eqb (key b.rule) m (λ z. eqb-false j i x (one j i b a (z ∙ sym e)))) (sym x)

  is_none : {m : ℕ} → ((i : ℕ) (a : Among rs i) → key a.rule ≡ m → ⊥) → (j : ℕ) → (ltb j n && eqb (get_or numbers j 0) m) ≡ false
  is_none {m} h j = either (ltb j n) inside (λ f. rw f refl)
    where
      inside : ltb j n ≡ true → (ltb j n && eqb (get_or numbers j 0) m) ≡ false
      inside f =
          let b = among rs j (let l = ltb-true j n f in omega arith) in
          rw (f, at j b, ne_eqb (key b.rule) m (h j b)) refl

module _ {ws : List ℕ} {end : ℕ} {rules : Rules} (s : Standing ws end rules) {xs row : List ℕ} (r : RowOf rules.ids rules.n xs row)
    (reading : Corners) where
  abbrev rs : List Rule
  rs = s.rows.found.trees

  abbrev view : View
  view = record { names = rules.names; n = rules.n; nullable = row; reading = reading }

  abbrev grammar : Grammar
  grammar = record { names = names_of rs; nullable = xs }

  named_only : {i m : ℕ} (a : Among rs i) → a.rule.name ≡ m → (j : ℕ) → is_named rules.names rules.n m j ≡ eqb j i
  unfolding is_named
  named_only a e =
      is_only (all_rules s.rows) (λ t. t.name) rules.names (λ i b. name_at s.rows b)
      (λ i j b c x. one_rule s.rows (λ t. t.name) s.names b c x) a e

  named_never : {m : ℕ} → ((i : ℕ) (a : Among rs i) → a.rule.name ≡ m → ⊥) → (j : ℕ) → is_named rules.names rules.n m j ≡ false
  unfolding is_named
  named_never =
      is_none (all_rules s.rows) (λ t. t.name) rules.names (λ i b. name_at s.rows b)
      (λ i j b c x. one_rule s.rows (λ t. t.name) s.names b c x)

  holds_only : {i : ℕ} (a : Among rs i) (j : ℕ) → holds rules.ids rules.n (a.rule.id ∷ []) j ≡ eqb j i
  unfolding holds member
  holds_only a j =
      rw (or-false (eqb (get_or rules.ids j 0) a.rule.id))
      (is_only (all_rules s.rows) (λ t. t.id) rules.ids (λ i b. id_at s.rows b)
      (λ i k b c x. one_rule s.rows (λ t. t.id) s.ids b c x) a refl j)

  same_bit : (i j : ℕ) → (eqb j i && bit row j) ≡ (eqb j i && bit row i)
  same_bit i j = either (eqb j i) (λ e. ap (λ k. eqb j i && bit row k) (eqb-true j i e)) (λ e. rw e refl)

  low : {i : ℕ} → Among rs i → i < rules.n
  low a = let l = few a in let c = all_rules s.rows in omega arith

  holds_none : (j : ℕ) → holds rules.ids rules.n [] j ≡ false
  unfolding holds member
  holds_none j = and-false (ltb j rules.n)

  -- A rule's bit is its id's membership.
  bit_is : {i : ℕ} (a : Among rs i) → bit row i ≡ member a.rule.id xs
  unfolding holds
  bit_is {i} a = r.at i ∙ rw (lt-ltb i rules.n (low a), id_at s.rows a) refl

  pub agrees : Agrees grammar rules.ids view
  unfolding target
  agrees = record { calls = λ m. calls (named rs m); known = λ m. known (named rs m); empty = λ m. empty (named rs m) }
    where
      calls : {m : ℕ} → Named rs m → (j : ℕ)
          → is_named rules.names rules.n m j ≡ holds rules.ids rules.n (elim (target grammar m) [ none ↦ [] | some t ↦ t ∷ [] ]) j
      calls (named_at a e f) j = named_only a e j ∙ sym (rw f (holds_only a j))
      calls (named_none h f) j = named_never h j ∙ sym (rw f (holds_none j))

      known : {m : ℕ} → Named rs m
          → any_below (is_named rules.names rules.n m) rules.n ≡ elim (target grammar m) [ none ↦ false | some t ↦ true ]
      known (named_at {i = i} a e f) =
          any_only (is_named rules.names rules.n _) i true (λ j. named_only a e j ∙ sym (and-true (eqb j i))) rules.n (low a)
          ∙ sym (rw f refl)
      known (named_none h f) = any_none (is_named rules.names rules.n _) (named_never h) rules.n ∙ sym (rw f refl)

      empty : {m : ℕ} → Named rs m
          → any_below (λ j. is_named rules.names rules.n m j && bit row j) rules.n
          ≡ elim (target grammar m) [ none ↦ false | some t ↦ member t xs ]
      empty {m} (named_at {i = i} a e f) =
          any_only (λ j. is_named rules.names rules.n m j && bit row j) i (bit row i)
          (λ j. ap (λ b. b && bit row j) (named_only a e j) ∙ same_bit i j) rules.n (low a)
          ∙ bit_is a ∙ sym (rw f refl)
      empty {m} (named_none h f) =
          any_none (λ j. is_named rules.names rules.n m j && bit row j) (λ j. ap (λ b. b && bit row j) (named_never h j)) rules.n
          ∙ sym (rw f refl)
