-- Derivations are counted by trees: those of the first rule pair off with the trees of its body.
use Rattle.std.specs.Prelude.{ℕ, ◌≡◌, refl, ◌⊎◌, true}
use Rattle.std.proofs.Math.Path.{sym, ap}
use Rattle.std.proofs.Common.{◌∙◌, subst, subst₂}
use Rattle.std.proofs.Math.Logic.{⊎_map}
use mathlib.Core.List.{List, ◌∷◌, map, Memᴰ}
use mathlib.Core.Equiv.{Iso, comp_iso}
use mathlib.Core.HLevel.{Σ_prop_path}
use Rattle.std.proofs.Math.Option.{some}
use Rattle.grammar.specs.Tree.{body_depth, Rule}
use Rattle.grammar.specs.Lists.{distinct}
use Rattle.language.specs.Shape.{Word, Shape, call_of, Shapes, erase_rules, find}
use Rattle.language.specs.Derive.{Der, RuleDerives}
use Rattle.language.specs.Readings.{Tree, t_call, yield, Reading}
use Rattle.language.specs.Laws.Rules.{rule_found}
use Rattle.language.specs.Laws.Trees.Steps.{opened, open_call, call_open, open_yield}
use Rattle.language.specs.Laws.Trees.Rules.{rule_readings}
use Rattle.language.specs.Laws.Trees.Derivations.{Word-set, derivations}
use Rattle.laws.specs.Demands.Strings.{Yes}
use Rattle.laws.specs.Demands.Counted.{AtMostOne, JustOne, JustTwo}

-- Of the trees of a shape: no two have one string; exactly one has it; exactly two.
module _ (G : Shapes) (s : Shape) where
  abbrev pub Apart : Type 0
  Apart = (x y : Tree G s) → yield x ≡ yield y → x ≡ y

  abbrev pub One : Word → Type 0
  One w = (x : Tree G s) × (yield x ≡ w) × ((y : Tree G s) → yield y ≡ w → y ≡ x)

  abbrev pub Two : Word → Type 0
  Two w =
      (x : Tree G s) × (y : Tree G s) × (yield x ≡ w) × (yield y ≡ w) × (x ≡ y → ⊥)
      × ((z : Tree G s) → yield z ≡ w → (z ≡ x) ⊎ (z ≡ y))

-- A call's trees are those of the body.
module _ {G : Shapes} (n : ℕ) {b : Shape} (e : find G n ≡ some b) where
  pub call_apart : Apart G b → Apart G (call_of n)
  call_apart h x y p =
      sym (call_open n e x) ∙ (ap (t_call e) (h (opened n e x) (opened n e y) (open_yield n e x ∙ (p ∙ sym (open_yield n e y))))
      ∙ call_open n e y)

  pub call_one : {w : Word} → One G b w → One G (call_of n) w
  unfolding yield
  call_one (x, p, h) = (t_call e x, p, λ y q. sym (call_open n e y) ∙ ap (t_call e) (h (opened n e y) (open_yield n e y ∙ q)))

  pub call_two : {w : Word} → Two G b w → Two G (call_of n) w
  unfolding yield
  call_two (x, y, p, q, d, h) = (
    t_call e x,
    t_call e y,
    p,
    q,
    λ i. d (sym (open_call n e x) ∙ (ap (opened n e) i ∙ open_call n e y)),
    λ z r.
        let j = sym (call_open n e z) in
        ⊎_map (λ i. j ∙ ap (t_call e) i) (λ i. j ∙ ap (t_call e) i) (h (opened n e z) (open_yield n e z ∙ r)),
  )

-- The same of one type as of another with which it pairs off.
module _ {X Y : Type 0} (i : Iso X Y) where
  back : {a b : X} → i.fun a ≡ i.fun b → a ≡ b
  back {a} {b} p = sym (i.linv a) ∙ (ap i.inv p ∙ i.linv b)

-- What the trees of the first rule, of id 1 and name 3, say of its derivations.
module _ (rs : List Rule) (r : Rule) (rest : List Rule) (whole : r ∷ rest ≡ rs) (id : r.id ≡ 1) (name : r.name ≡ 3)
    (ids : distinct (map (λ r. r.id) rs) ≡ true) (names : distinct (map (λ r. r.name) rs) ≡ true) where
  abbrev pub G : Shapes
  G = erase_rules body_depth rs

  pairs : (w : Word) → Iso (Yes rs w) (Reading G (call_of 3) w)
  pairs w =
      let m = subst (Memᴰ r) whole (Memᴰ.head refl) in
      comp_iso
      (subst₂ (λ i n. Iso (RuleDerives body_depth rs i w) (Der G (call_of n) w)) id name
      (rule_readings body_depth rs r.id r.name (rule_found body_depth (λ r. r.id) rs ids m)
      (rule_found body_depth (λ r. r.name) rs names m) w))
      (derivations (call_of 3) w)

  reading_path : {w : Word} {x y : Reading G (call_of 3) w} → x.0 ≡ y.0 → x ≡ y
  reading_path {w} {x} {y} p = Σ_prop_path {B = λ x. yield x ≡ w} (λ x. Word-set (yield x) w) {u = x} {v = y} p

  pub at_most_one : Apart G (call_of 3) → AtMostOne rs
  at_most_one h w x y =
      let u = (pairs w).fun x in
      let v = (pairs w).fun y in
      back (pairs w) (reading_path (h u.0 v.0 (u.1 ∙ sym v.1)))

  pub just_one : {w : Word} → One G (call_of 3) w → JustOne rs w
  just_one {w} (x, p, h) = (
    (pairs w).inv (x, p),
    λ y. let u = (pairs w).fun y in
        back (pairs w) (reading_path (h u.0 u.1) ∙ sym ((pairs w).rinv (x, p))),
  )

  pub just_two : {w : Word} → Two G (call_of 3) w → JustTwo rs w
  just_two {w} (x, y, p, q, d, h) = (
    (pairs w).inv (x, p),
    (pairs w).inv (y, q),
    λ i. d (ap (λ z. z.0) (sym ((pairs w).rinv (x, p)) ∙ (ap (pairs w).fun i ∙ (pairs w).rinv (y, q)))),
    λ z.
        let u = (pairs w).fun z in
        ⊎_map (λ i. back (pairs w) (reading_path i ∙ sym ((pairs w).rinv (x, p))))
        (λ i. back (pairs w) (reading_path i ∙ sym ((pairs w).rinv (y, q)))) (h u.0 u.1),
  )
