-- The hub's own call of quantifier 0 is settled, and so is never spliced.
use Rattle.std.specs.Prelude.{ℕ, ◌≡◌, Bool, ◌&&◌}
use Rattle.std.proofs.Math.Path.{refl}
use Rattle.std.proofs.Common.{sym, ap}
use mathlib.Core.List.{List, [], ◌∷◌, ◌++◌}
use Rattle.std.proofs.Math.Option.{some}
use Rattle.std.proofs.Math.Bool.{true, false}
use Rattle.std.proofs.lemmas.Bool.{false≢true}
use Rattle.std.proofs.Math.Dec.{eqb}
use borrow.Author.Tests.{eq-eqb}
use Rattle.grammar.specs.Tree.{ElementHead, Call, call, Element, leaf, block, Block}
use Rattle.grammar.specs.Lists.{member, AllOf}
use Rattle.grammar.specs.Numbers.{once, optional_greedy}
use Rattle.reference.specs.Walks.{Sort, silent, consuming, calling, sort_of, is_epsilon_only, is_one, bare_reference}
use Rattle.reference.specs.Analysis.{Grammar, target}
use Rattle.reference.specs.Substitute.{PlannedCorner, optional, satellite, blocked, settled, further, member_corner, planned_corner}

module _ (d : ℕ) (g : Grammar) (cycle : List ℕ) (hub : ℕ) where
  -- Quantifier 0 is not the optional's, and the hub is asked for next.
  member_settled : (h : ElementHead) (c : Call) → h.quantifier ≡ once → member_corner hub h c hub ≡ settled
  unfolding member_corner
  member_settled h c q =
      go (eqb h.quantifier optional_greedy && bare_reference h c) (ap (λ n. eqb n optional_greedy && bare_reference h c) q)
    where
      go : (b : Bool) → b ≡ false
          → (elim b as (λ x. PlannedCorner) [
            | true ↦ optional 0 hub
            | false ↦ elim (eqb hub hub && is_one h) as (λ x. PlannedCorner) [
              | true ↦ settled
              | false ↦ elim (is_one h && bare_reference h c) as (λ x. PlannedCorner)
                  [ true ↦ satellite 0 hub | false ↦ blocked ]
            ]
          ])
          ≡ settled
      go true e = absurd (false≢true (sym e))
      go false e = rw (eq-eqb hub hub refl, eq-eqb h.quantifier once q) refl

  call_settled : (h : ElementHead) (c : Call) (rest : List (Element (Block d))) → target g c.name ≡ some hub → h.quantifier ≡ once
      → planned_corner g cycle hub (leaf h (call c) ∷ rest) ≡ settled
  unfolding planned_corner sort_of
  call_settled h c rest t q = rw (t, planned_corner) (go (member hub cycle))
    where
      go : (b : Bool) → (elim b as (λ x. PlannedCorner) [ true ↦ member_corner hub h c hub | false ↦ settled ]) ≡ settled
      go true = member_settled h c q
      go false = refl

  pub hub_settled_lem : (front rest : List (Element (Block d))) (h : ElementHead) (c : Call) → AllOf (λ e. is_epsilon_only e ≡ true) front
      → target g c.name ≡ some hub → h.quantifier ≡ once
      → planned_corner g cycle hub (front ++ (leaf h (call c) ∷ rest)) ≡ settled
  unfolding planned_corner is_epsilon_only further
  hub_settled_lem [] rest h c s t q = call_settled h c rest t q
  hub_settled_lem (leaf x l ∷ front) rest h c s t q = go (sort_of l) refl s.0 (hub_settled_lem front rest h c s.1 t q)
    where
      go : (o : Sort) → sort_of l ≡ o → (elim o as (λ x. Bool) [ silent ↦ true | consuming ↦ false | calling k ↦ false ]) ≡ true
          → planned_corner g cycle hub (front ++ (leaf h (call c) ∷ rest)) ≡ settled
          → planned_corner g cycle hub (leaf x l ∷ (front ++ (leaf h (call c) ∷ rest))) ≡ settled
      go silent k e ih = rw (k, planned_corner) (ap further ih)
      go consuming k e ih = absurd (false≢true e)
      go (calling m) k e ih = absurd (false≢true e)
  hub_settled_lem (block x b ∷ front) rest h c s t q = absurd (false≢true s.0)
