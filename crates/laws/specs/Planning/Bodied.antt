-- The rules with the hub's new body: everything else of a rule stays.
use Rattle.std.specs.Prelude.{ℕ, suc, ◌≡◌, refl, [], eqb}
use Rattle.std.proofs.Common.{ap, eqb-true, eq-eqb, ne_eqb}
use Rattle.grammar.specs.Tree.{Block, RuleOf, with_rule_body}
use Rattle.grammar.specs.Laws.Parse.{either}
use Rattle.reference.specs.Apply.{with_body}

module _ (d : ℕ) (hub : ℕ) (b : Block (suc d)) where
  -- The hub with the new body, or another rule.
  pub data Bodied (r : RuleOf (Block (suc d))) : RuleOf (Block (suc d)) → Type 0 where
    is_hub : r.id ≡ hub → Bodied r (with_rule_body b r)
    is_other : Bodied r r

  pub bodied : (r : RuleOf (Block (suc d))) → Bodied r (with_body d hub b r)
  unfolding with_body
  bodied r = either (eqb r.id hub) (λ t. rw (t, with_body) (is_hub (eqb-true r.id hub t))) (λ f. rw (f, with_body) is_other)

  pub body_aside : (r : RuleOf (Block (suc d))) → with_rule_body [] (with_body d hub b r) ≡ with_rule_body [] r
  body_aside r = go (bodied r)
    where
      go : {q : RuleOf (Block (suc d))} → Bodied r q → with_rule_body [] q ≡ with_rule_body [] r
      go (is_hub e) = refl
      go is_other = refl

  pub with_id : (r : RuleOf (Block (suc d))) → (with_body d hub b r).id ≡ r.id
  with_id r = ap (λ q. q.id) (body_aside r)

  pub with_name : (r : RuleOf (Block (suc d))) → (with_body d hub b r).name ≡ r.name
  with_name r = ap (λ q. q.name) (body_aside r)

  pub with_hub : (r : RuleOf (Block (suc d))) → r.id ≡ hub → (with_body d hub b r).body ≡ b
  unfolding with_body
  with_hub r e = rw (eq-eqb r.id hub e, with_body)

  pub with_other : (r : RuleOf (Block (suc d))) → (r.id ≡ hub → ⊥) → with_body d hub b r ≡ r
  unfolding with_body
  with_other r ne = rw (ne_eqb r.id hub ne, with_body)
