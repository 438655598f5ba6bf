-- The search through the cycles of a grammar: the first that is not declined ends it.
use Rattle.std.specs.Prelude.{◌≡◌, ℕ}
use Rattle.std.proofs.Math.Path.{refl, subst}
use Rattle.std.proofs.Common.{ap, ◌∙◌}
use mathlib.Core.List.Memᴰ
use mathlib.Core.List.{List, [], ◌∷◌, ◌++◌, Memᴰ}
use Rattle.grammar.specs.Tree.{Rule, body_depth}
use Rattle.grammar.specs.Corners.{Corners}
use Rattle.reference.specs.Analysis.{Grammar, grammar_of, left_corner_cycles}
use Rattle.reference.specs.Substitute.{Limits, Clause, Decided, decided, declined, overfull}
use Rattle.reference.specs.Plan.{CyclePlan, plan_cycle}
use Rattle.reference.specs.Run.{inner_depth, Search, no_plan, planned, too_large, search_cycles, find_plan}

module _ (limits : Limits) (corners : Corners) (preserved : List ℕ) where
  module _ (g : Grammar) (rs : List Rule) where
    abbrev pub deciding : List ℕ → Decided (CyclePlan inner_depth)
    deciding = plan_cycle limits corners g inner_depth rs preserved

    abbrev pub IsDeclined : List ℕ → Type 0
    IsDeclined cycle = (c : Clause) × (deciding cycle ≡ declined c)

    -- The first cycle that is not declined, and what was decided on it.
    pub record First (cycles : List (List ℕ)) (cycle : List ℕ) (o : Decided (CyclePlan inner_depth)) : Type 0 where
      pub in_front : List (List ℕ)
      pub behind : List (List ℕ)
      pub whole : in_front ++ (cycle ∷ behind) ≡ cycles
      pub others : (x : List ℕ) → Memᴰ x in_front → IsDeclined x
      pub is_decided : deciding cycle ≡ o

    -- What a search through cycles says of them.
    abbrev pub Found : List (List ℕ) → Search → Type 0
    Found cycles no_plan = (x : List ℕ) → Memᴰ x cycles → IsDeclined x
    Found cycles (planned cycle plan) = First cycles cycle (decided plan)
    Found cycles too_large = (cycle : List ℕ) × First cycles cycle overfull

    declined_too : (x : List ℕ) → IsDeclined x → (xs : List (List ℕ)) → ((y : List ℕ) → Memᴰ y xs → IsDeclined y) → (y : List ℕ)
        → Memᴰ y (x ∷ xs) → IsDeclined y
    declined_too x (c, k) xs h y (Memᴰ.head e) = (c, ap deciding e ∙ k)
    declined_too x k xs h y (Memᴰ.tail m) = h y m

    first_later : (x : List ℕ) → IsDeclined x → (xs : List (List ℕ)) {cycle : List ℕ} {o : Decided (CyclePlan inner_depth)}
        → First xs cycle o → First (x ∷ xs) cycle o
    first_later x k xs r =
        record {
          in_front = x ∷ r.in_front;
          behind = r.behind;
          whole = ap (λ l. x ∷ l) r.whole;
          others = declined_too x k r.in_front r.others;
          is_decided = r.is_decided;
        }

    first_here : (x : List ℕ) (xs : List (List ℕ)) {o : Decided (CyclePlan inner_depth)} → deciding x ≡ o → First (x ∷ xs) x o
    first_here x xs k = record { in_front = []; behind = xs; whole = refl; others = λ y m. absurd (Memᴰ.not-nil m); is_decided = k }

    found_later : (x : List ℕ) → IsDeclined x → (xs : List (List ℕ)) (r : Search) → Found xs r → Found (x ∷ xs) r
    found_later x k xs no_plan f = declined_too x k xs f
    found_later x k xs (planned cycle plan) f = first_later x k xs f
    found_later x k xs too_large (cycle, f) = (cycle, first_later x k xs f)

    searched : (cycles : List (List ℕ)) → Found cycles (search_cycles limits corners preserved g rs cycles)
    unfolding search_cycles
    searched [] = λ x m. absurd (Memᴰ.not-nil m)
    searched (x ∷ cycles) = go (deciding x) refl (searched cycles)
      where
        go : (o : Decided (CyclePlan inner_depth)) → deciding x ≡ o → Found cycles (search_cycles limits corners preserved g rs cycles)
            → Found (x ∷ cycles) (elim o as (λ y. Search)
            [ decided plan ↦ planned x plan | declined y ↦ search_cycles limits corners preserved g rs cycles | overfull ↦ too_large ])
        go (decided p) k ih = first_here x cycles k
        go (declined c) k ih = found_later x (c, k) cycles (search_cycles limits corners preserved g rs cycles) ih
        go overfull k ih = (x, first_here x cycles k)

  -- What the search through the cycles of some rules found.
  module _ (rs : List Rule) where
    abbrev pub FoundIn : Search → Type 0
    FoundIn = let g = grammar_of body_depth rs in Found g rs (left_corner_cycles corners g body_depth rs)

    pub search_found : (o : Search) → find_plan limits corners preserved rs ≡ o → FoundIn o
    unfolding find_plan
    search_found o e = let g = grammar_of body_depth rs in subst FoundIn e (searched g rs (left_corner_cycles corners g body_depth rs))

  pub plan_first : (rs : List Rule) {cycle : List ℕ} {plan : CyclePlan inner_depth}
      → find_plan limits corners preserved rs ≡ planned cycle plan
      → FoundIn rs (planned cycle plan)
  plan_first rs {cycle} {plan} e = search_found rs (planned cycle plan) e
