-- The derivations of a rule, known by its id, are those of a call of its name.
use Rattle.std.specs.Prelude.{ℕ, ◌≡◌, refl, List}
use Rattle.std.proofs.Math.Path.{sym, ap, subst_refl, path_j}
use Rattle.std.proofs.Common.{ap₂, ◌∙◌, subst}
use mathlib.Core.Equiv.{Iso}
use Rattle.std.proofs.Math.Option.{some, some-injective, none-ne-some}
use Rattle.grammar.specs.Tree.{Block, RuleOf}
use Rattle.language.specs.Shape.{Word, Shape, call_of, Shapes, find, bodies_by, erase_rules}
use Rattle.language.specs.Derive.{Der, d_call, d_unknown, RuleDerives}
use Rattle.language.specs.Readings.{tree_of, CallTree}
use Rattle.language.specs.Laws.Trees.Carry.{found_set, Shape-set}

module _ {G : Shapes} where
  loop : {w : Word} {b : Shape} (q : b ≡ b) (x : Der G b w) → subst (λ s. Der G s w) q x ≡ x
  loop {w} {b} q x = ap (λ r. subst (λ s. Der G s w) r x) (Shape-set b b q refl) ∙ subst_refl (λ s. Der G s w) x

  call_moved : {w : Word} {n : ℕ} {b : Shape} (x : Der G b w) {c : Shape} (q : b ≡ c) (e : find G n ≡ some b) (f : find G n ≡ some c)
      → d_call e x ≡ d_call f (subst (λ s. Der G s w) q x)
  call_moved {w} {n} {b} x =
      let node : find G n ≡ some b → Der G b w → Der G (call_of n) w = λ g z. d_call g z in
      path_j (λ c q. (e : find G n ≡ some b) (f : find G n ≡ some c) → d_call e x ≡ d_call f (subst (λ s. Der G s w) q x))
      (λ e f. ap₂ node (found_set (find G n) (some b) e f) (sym (subst_refl (λ s. Der G s w) x)))

  module _ (n : ℕ) {b : Shape} (e : find G n ≡ some b) where
    unfoldable opened : {w : Word} → Der G (call_of n) w → Der G b w
    opened (d_call {b = c} {w = w} f d) = subst (λ s. Der G s w) (some-injective c b (sym f ∙ e)) d
    opened (d_unknown f) = absurd (none-ne-some b (sym f ∙ e))

    open_call : {w : Word} (d : Der G b w) → opened (d_call e d) ≡ d
    unfolding opened
    open_call d = loop (some-injective b b (sym e ∙ e)) d

    call_open : {w : Word} (d : Der G (call_of n) w) → d_call e (opened d) ≡ d
    unfolding opened
    call_open (d_call {b = c} f d) = sym (call_moved d (some-injective c b (sym f ∙ e)) f e)
    call_open (d_unknown f) = absurd (none-ne-some b (sym f ∙ e))

module _ (d : ℕ) (rs : List (RuleOf (Block d))) (i : ℕ) (w : Word) where
  -- Nothing else tells its derivations apart.
  pub rule_path : (x : RuleDerives d rs i w) {b : Shape} (q : x.body ≡ b) (f : find (bodies_by d (λ r. r.id) rs) i ≡ some b)
      → ◌≡◌ {A = RuleDerives d rs i w} (record { body = b; found = f; tree = subst (λ s. Der (erase_rules d rs) s w) q x.tree }) x
  rule_path x q =
      path_j (λ b q. (f : find (bodies_by d (λ r. r.id) rs) i ≡ some b)
      → ◌≡◌ {A = RuleDerives d rs i w} (record { body = b; found = f; tree = subst (λ s. Der (erase_rules d rs) s w) q x.tree }) x)
      (λ f. λ j. record {
        body = x.body;
        found = found_set (find (bodies_by d (λ r. r.id) rs) i) (some x.body) f x.found j;
        tree = subst_refl (λ s. Der (erase_rules d rs) s w) x.tree j;
      }) q

-- A rule by its id and a call by its name, where both lead to the same body.
module _ (d : ℕ) (rs : List (RuleOf (Block d))) (i n : ℕ) {b : Shape} (by_id : find (bodies_by d (λ r. r.id) rs) i ≡ some b)
    (by_name : find (erase_rules d rs) n ≡ some b) (w : Word) where
  same : (x : RuleDerives d rs i w) → x.body ≡ b
  same x = some-injective x.body b (sym x.found ∙ by_id)

  at : RuleDerives d rs i w → Der (erase_rules d rs) b w
  at x = subst (λ s. Der (erase_rules d rs) s w) (same x) x.tree

  made : Der (erase_rules d rs) b w → RuleDerives d rs i w
  made t = record { body = b; found = by_id; tree = t }

  -- The derivations of the one are those of the other.
  pub rule_readings : Iso (RuleDerives d rs i w) (Der (erase_rules d rs) (call_of n) w)
  unfolding at made
  rule_readings =
      record {
        fun = λ x. d_call by_name (at x);
        inv = λ t. made (opened n by_name t);
        rinv = λ t. ap (d_call by_name) (loop (same (made (opened n by_name t))) (opened n by_name t)) ∙ call_open n by_name t;
        linv = λ x. ap made (open_call n by_name (at x)) ∙ rule_path d rs i w x (same x) by_id;
      }

  -- The tree of the one is that of the other, with the call's node.
  pub readings_tree : (x : RuleDerives d rs i w) → CallTree x n (tree_of (rule_readings.fun x))
  unfolding rule_readings at tree_of
  readings_tree x =
      let f : find (erase_rules d rs) n ≡ some x.body = by_name ∙ ap some (sym (same x)) in
      record { found = f; is_tree = sym (ap tree_of (call_moved x.tree (same x) f by_name)) }

  pub readings_tree_back : (t : Der (erase_rules d rs) (call_of n) w) → CallTree (rule_readings.inv t) n (tree_of t)
  readings_tree_back t =
      let c = readings_tree (rule_readings.inv t) in
      record { found = c.found; is_tree = sym (ap tree_of (rule_readings.rinv t)) ∙ c.is_tree }
