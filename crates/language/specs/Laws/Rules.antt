-- Rules of a tree and the bodies that derivation looks up.
use Rattle.std.specs.Prelude.{ℕ, ◌≡◌, ◌↔◌, true, not}
use Rattle.std.proofs.Math.Path.{refl, ap}
use Rattle.std.proofs.Common.{sym, ◌∙◌, subst}
use mathlib.Core.List.{List, [], ◌∷◌, map, Memᴰ}
use Rattle.std.proofs.Math.Option.{some, none-ne-some, some-injective}
use Rattle.std.proofs.Math.Bool.{false, true≢false}
use Rattle.std.proofs.Math.Dec.{eqb}
use Rattle.std.specs.Cmp.{first_so, second_so}
use borrow.Author.Tests.{eqb-true, eq-eqb, ne_eqb, not-true}
use Rattle.grammar.specs.Tree.{Block, RuleOf}
use Rattle.grammar.specs.Lists.{member, distinct}
use Rattle.language.specs.Shape.{Word, Shape, call_of, NamedShape, find, erase_block, bodies_by, erase_rules}
use Rattle.language.specs.Derive.{Der, d_call, CanBeEmpty, RuleDerives, RuleCanBeEmpty}
use Rattle.grammar.specs.Laws.Lists.{in_member, in_map}
use Rattle.grammar.specs.Laws.Parse.{either}
use Rattle.language.specs.Laws.Cover.{find_here, find_next}
use Rattle.language.specs.Laws.Steps.{call_same}

module _ (d : ℕ) (key : RuleOf (Block d) → ℕ) where
  body_of : RuleOf (Block d) → NamedShape
  body_of r = record { name = key r; body = erase_block d r.body }

  -- Where numbers are not shared, each rule's body is found by its own.
  pub rule_found : (rs : List (RuleOf (Block d))) → distinct (map key rs) ≡ true → {r : RuleOf (Block d)} → Memᴰ r rs
      → find (bodies_by d key rs) (key r) ≡ some (erase_block d r.body)
  unfolding distinct body_of
  rule_found (q ∷ rs) t {r} (Memᴰ.head e) =
      find_here (body_of q) (bodies_by d key rs) (key r) (eq-eqb (key q) (key r) (ap key (sym e)))
      ∙ ap (λ x. some (erase_block d x.body)) (sym e)
  rule_found (q ∷ rs) t {r} (Memᴰ.tail m) =
      let f = not-true (member (key q) (map key rs)) (first_so (not (member (key q) (map key rs))) _ t) in
      let other : eqb (key q) (key r) ≡ false =
      ne_eqb (key q) (key r) λ e. true≢false (sym (in_member (subst (λ x. Memᴰ x (map key rs)) (sym e) (in_map key m))) ∙ f) in
      find_next (body_of q) (bodies_by d key rs) (key r) other ∙ rule_found rs (second_so (not (member (key q) (map key rs))) _ t) m
  rule_found [] t {r = r} x'' = elim x'' [ ]

  -- What is found is the body of a rule with that number.
  pub found_rule : (rs : List (RuleOf (Block d))) (n : ℕ) {b : Shape} → find (bodies_by d key rs) n ≡ some b
      → (r : RuleOf (Block d)) × Memᴰ r rs × (key r ≡ n) × (erase_block d r.body ≡ b)
  unfolding find body_of
  found_rule [] n {b} e = absurd (none-ne-some b e)
  found_rule (q ∷ rs) n {b} e =
      either (eqb (key q) n)
      (λ t. (
        q,
        Memᴰ.head refl,
        eqb-true (key q) n t,
        some-injective (erase_block d q.body) b (sym (find_here (body_of q) (bodies_by d key rs) n t) ∙ e),
      ))
      (λ f.
      let x = found_rule rs n (sym (find_next (body_of q) (bodies_by d key rs) n f) ∙ e) in
      (x.0, Memᴰ.tail x.1, x.2, x.3))

-- A rule that derives the same strings in two grammars can be empty in both.
pub same_can_be_empty : {d : ℕ} {rs ks : List (RuleOf (Block d))} {i : ℕ} → ((w : Word) → RuleDerives d rs i w → RuleDerives d ks i w)
    → RuleCanBeEmpty d rs i → RuleCanBeEmpty d ks i
same_can_be_empty f x = record { word = x.word; marks = x.marks; derives = f x.word x.derives }

module _ (d : ℕ) (rs : List (RuleOf (Block d))) (ids : distinct (map (λ r. r.id) rs) ≡ true)
    (names : distinct (map (λ r. r.name) rs) ≡ true) where
  -- A rule, known by its id, derives what a call of its name does.
  pub rule_derives : {r : RuleOf (Block d)} → Memᴰ r rs → (w : Word)
      → RuleDerives d rs r.id w ↔ Der (erase_rules d rs) (call_of r.name) w
  rule_derives {r} m w =
      let i = rule_found d (λ r. r.id) rs ids m in
      let n = rule_found d (λ r. r.name) rs names m in (
        λ x.
            let same = some-injective x.body (erase_block d r.body) (sym x.found ∙ i) in
            d_call n (subst (λ s. Der (erase_rules d rs) s w) same x.tree),
        λ t. record { body = erase_block d r.body; found = i; tree = (call_same n).to w t },
      )

  -- It can be empty where such a call can.
  pub rule_can_be_empty : {r : RuleOf (Block d)} → Memᴰ r rs
      → RuleCanBeEmpty d rs r.id ↔ CanBeEmpty (erase_rules d rs) (call_of r.name)
  rule_can_be_empty m = (
    λ x. record { word = x.word; marks = x.marks; tree = (rule_derives m x.word).0 x.derives },
    λ x. record { word = x.word; marks = x.marks; derives = (rule_derives m x.word).1 x.tree },
  )
