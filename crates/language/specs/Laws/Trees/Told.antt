-- Trees are told apart by their choices, and by nothing else.
use Rattle.std.specs.Prelude.{ℕ, refl}
use Rattle.std.proofs.Math.Path.{◌≡◌, sym, ap, subst_refl, path_j}
use Rattle.std.proofs.Common.{ap₂, ◌∙◌, subst, arith}
use mathlib.Core.List.{List, [], ◌++◌, append_assoc, append-nil}
use Rattle.std.proofs.Math.Option.{some-injective, none-ne-some}
use mathlib.Core.HLevel.{Σ_prop_path}
use Rattle.grammar.specs.Tree.{Block, RuleOf}
use Rattle.grammar.specs.Laws.Lists.{rest_of}
use Rattle.language.specs.Shape.{Word, Shape, Shapes, erase_rules}
use Rattle.language.specs.Derive.{Der, RuleDerives}
use Rattle.language.specs.Readings.{Tree, t_eps, t_symbol, t_call, t_unknown, t_seq, t_left, t_right, t_absent, t_present, t_none}
use Rattle.language.specs.Readings.{t_more, t_some, Choice, choices, yield}
use Rattle.language.specs.Readings.{tree_of}
use Rattle.language.specs.Laws.Trees.Carry.{call_path, call_moved, unknown_path}
use Rattle.language.specs.Laws.Trees.Derivations.{Word-set, derivations}
use Rattle.language.specs.Laws.Trees.Rules.{rule_path}

two : (u v r : List Choice) {w : List Choice} → (u ++ v) ++ r ≡ w → u ++ (v ++ r) ≡ w
two u v r e = sym (append_assoc u v r) ∙ e

module _ {G : Shapes} where
  choices_moved : {b c : Shape} (q : b ≡ c) (x : Tree G b) → choices (subst (Tree G) q x) ≡ choices x
  choices_moved q x = path_j (λ c q. choices (subst (Tree G) q x) ≡ choices x) (ap choices (subst_refl (Tree G) x)) q

  -- Also with more choices behind them.
  told : {s : Shape} (x y : Tree G s) (r q : List Choice) → choices x ++ r ≡ choices y ++ q → (x ≡ y) × (r ≡ q)
  unfolding choices
  told t_eps t_eps r q h = (refl, h)
  told t_symbol t_symbol r q h = (refl, h)
  told (t_call {n = n} {b = b} e x) (t_call {b = c} f y) r q h =
      let p = some-injective c b (sym f ∙ e) in
      let z = told x (subst (Tree G) p y) r q (h ∙ ap (λ l. l ++ q) (sym (choices_moved p y))) in
      (call_path e e z.0 ∙ sym (call_moved y p f e), z.1)
  told (t_call {n = n} {b = b} e x) (t_unknown f) r q h = absurd (none-ne-some b (sym f ∙ e))
  told (t_unknown e) (t_call {b = c} f y) r q h = absurd (none-ne-some c (sym e ∙ f))
  told (t_unknown e) (t_unknown f) r q h = (unknown_path e f, h)
  told (t_seq x y) (t_seq x' y') r q h =
      let a = told x x' (choices y ++ r) (choices y' ++ q) (two (choices x) (choices y) r h ∙ append_assoc (choices x') (choices y') q) in
      let b = told y y' r q a.1 in
      (ap₂ t_seq a.0 b.0, b.1)
  told (t_left x) (t_left y) r q h = let z = told x y r q (rest_of h) in (ap t_left z.0, z.1)
  told (t_left x) (t_right y) r q h = absurd (let z : ◌≡◌ {A = ℕ} 0 1 = cc in omega arith)
  told (t_right x) (t_left y) r q h = absurd (let z : ◌≡◌ {A = ℕ} 0 1 = cc in omega arith)
  told (t_right x) (t_right y) r q h = let z = told x y r q (rest_of h) in (ap t_right z.0, z.1)
  told t_absent t_absent r q h = (refl, rest_of h)
  told t_absent (t_present y) r q h = absurd (let z : ◌≡◌ {A = ℕ} 0 1 = cc in omega arith)
  told (t_present x) t_absent r q h = absurd (let z : ◌≡◌ {A = ℕ} 0 1 = cc in omega arith)
  told (t_present x) (t_present y) r q h = let z = told x y r q (rest_of h) in (ap t_present z.0, z.1)
  told t_none t_none r q h = (refl, rest_of h)
  told t_none (t_more x y) r q h = absurd (let z : ◌≡◌ {A = ℕ} 0 1 = cc in omega arith)
  told (t_more x y) t_none r q h = absurd (let z : ◌≡◌ {A = ℕ} 0 1 = cc in omega arith)
  told (t_more x y) (t_more x' y') r q h =
      let a = told x x' (choices y ++ r) (choices y' ++ q)
      (two (choices x) (choices y) r (rest_of h) ∙ append_assoc (choices x') (choices y') q) in
      let b = told y y' r q a.1 in
      (ap₂ t_more a.0 b.0, b.1)
  told (t_some x y) (t_some x' y') r q h =
      let a = told x x' (choices y ++ r) (choices y' ++ q) (two (choices x) (choices y) r h ∙ append_assoc (choices x') (choices y') q) in
      let b = told y y' r q a.1 in
      (ap₂ t_some a.0 b.0, b.1)

  -- Trees that choose alike are one.
  pub told_apart_lem : {s : Shape} (x y : Tree G s) → choices x ≡ choices y → x ≡ y
  told_apart_lem x y h = (told x y [] [] (append-nil (choices x) ∙ h ∙ sym (append-nil (choices y)))).0

  -- And so are derivations of one string.
  pub derivations_told : {s : Shape} {w : Word} (d e : Der G s w) → choices (tree_of d) ≡ choices (tree_of e) → d ≡ e
  unfolding derivations
  derivations_told {s} {w} d e h =
      let i = derivations {G = G} s w in
      sym (i.linv d)
      ∙ ap i.inv (Σ_prop_path {B = λ x. yield x ≡ w} (λ x. Word-set (yield x) w) {u = i.fun d} {v = i.fun e}
      (told_apart_lem (tree_of d) (tree_of e) h))
      ∙ i.linv e

  derived_moved : {b c : Shape} {w : Word} (q : b ≡ c) (x : Der G b w)
      → choices (tree_of (subst (λ s. Der G s w) q x)) ≡ choices (tree_of x)
  derived_moved {w = w} q x =
      path_j (λ c q. choices (tree_of (subst (λ s. Der G s w) q x)) ≡ choices (tree_of x))
      (ap (λ d. choices (tree_of d)) (subst_refl (λ s. Der G s w) x)) q

-- Of a rule, by its id.
pub rules_told : (d : ℕ) (rs : List (RuleOf (Block d))) (i : ℕ) (w : Word) (x y : RuleDerives d rs i w)
    → choices (tree_of x.tree) ≡ choices (tree_of y.tree) → x ≡ y
rules_told d rs i w x y h =
    let q = some-injective x.body y.body (sym x.found ∙ y.found) in
    sym (rule_path d rs i w x q y.found)
    ∙ ap (λ t. record { body = y.body; found = y.found; tree = t })
    (derivations_told (subst (λ s. Der (erase_rules d rs) s w) q x.tree) y.tree (derived_moved q x.tree ∙ h))
