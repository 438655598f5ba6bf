-- Candidates: one alternative more, one rule, and the rules looked at so far.
use Prim.Native.Nat.{ℕ, ◌+◌, ◌-◌, ◌<◌, ◌≤◌}
use mathlib.Core.Path.{◌≡◌, refl, sym, ap, ◌∙◌}
use mathlib.Core.List.{List, [], ◌∷◌}
use mathlib.Core.Bool.{Bool, true, false, ◌||◌}
use native.Mathlib.Omega.{arith}
use lib.ListN.{length, get_or}
use Rattle.grammar.specs.Form.{newest}
use Rattle.grammar.specs.Tree.{AlternativeOf, Block, inner_depth}
use Rattle.grammar.specs.Stands.{Spans}
use Rattle.grammar.specs.Encode.{encode_alternative, encode_block}
use Rattle.grammar.specs.Valid.{ok_alternative, ok_block}
use Rattle.grammar.specs.Lists.{each, all, any}
use Rattle.grammar.specs.Found.{FoundAlternative, FoundAlternatives, FoundElements, AlternativeAt}
use Rattle.grammar.specs.Fold.{AlternativeWalked}
use Rattle.grammar.specs.Laws.Opened.{first_spans, first_found, rest_found, alternative_words_lem, rule_words_lem}
use Rattle.grammar.specs.Laws.Found.{alternative_room, inner_found}
use Rattle.reference.specs.Analysis.{Grammar}
use Rattle.reach.specs.Rows.{bit, Collected}
use Rattle.ends.specs.Ends.{skipping}
use Rattle.hub.specs.Corner.{Tells, is_settled, Settles, AnySettles, IsCandidate, Candidates}
use Rattle.hub.specs.declared.cycle.Cycle.{Cycle}

module _ (c : Cycle) (ws : List ℕ) (end d : ℕ) where
  -- A loop over n alternatives, with i left: those decide.
  pub record Trying (n at i p : ℕ) : Type 0 where
    pub rest : (r : Bool) → AnySettles c ws end d i p r → AnySettles c ws end d n at r
    pub found : FoundAlternatives ws end d i p
    pub within : p ≤ end

module _ {c : Cycle} {ws : List ℕ} {end d : ℕ} where
  none_any : {n at : ℕ} → n ≡ 0 → AnySettles c ws end d n at false
  unfolding any
  none_any {n} {at} z = record { by = λ g cycle t as' q s l. go g cycle as' (l ∙ z) }
    where
      go : (g : Grammar) (cycle : List ℕ) (as' : List (AlternativeOf (Block d))) → length as' ≡ 0 → false ≡ any (is_settled g cycle) as'
      go g cycle [] l = refl
      go g cycle (a ∷ as') l = absurd (omega arith)

  module _ {n at count first : ℕ} (z : n ≡ 0 → ⊥) (head : AlternativeAt ws end at count first) {b : Bool}
      (v : Settles c ws end d count first b) where
    first_any : {r : Bool}
        → ((g : Grammar) (cycle : List ℕ) → Tells g cycle c → (a : AlternativeOf (Block d)) (as' : List (AlternativeOf (Block d)))
        (p q : ℕ)
        → Spans ws end (encode_alternative (encode_block d)) (ok_alternative (ok_block d)) at a p
        → Spans ws end (each (encode_alternative (encode_block d))) (all (ok_alternative (ok_block d))) p as' q → length as' ≡ n - 1
        → r ≡ (b || any (is_settled g cycle) as'))
        → AnySettles c ws end d n at r
    unfolding any
    first_any {r} f = record { by = go }
      where
        go : (g : Grammar) (cycle : List ℕ) → Tells g cycle c → (as' : List (AlternativeOf (Block d))) (q : ℕ)
            → Spans ws end (each (encode_alternative (encode_block d))) (all (ok_alternative (ok_block d))) at as' q → length as' ≡ n
            → r ≡ any (is_settled g cycle) as'
        go g cycle t [] q s l = absurd (z (sym l))
        go g cycle t (a ∷ as') q s l =
            let u = first_spans s in
            let w = alternative_words_lem d u.1 in
            f g cycle t a as' u.0 q u.1 u.2 (omega arith)
            ∙ ap (λ x. x || any (is_settled g cycle) as')
            (v.by g cycle t a.elements u.0 (rw head.first_is w.elements_span) (sym w.count ∙ sym head.count_is))

    yes_any : b ≡ true → AnySettles c ws end d n at true
    yes_any e = first_any λ g cycle t a as' p q s u l. rw e refl

    no_any : {there : ℕ} {r : Bool} → b ≡ false → AlternativeWalked skipping ws end d at tt there tt
        → AnySettles c ws end d (n - 1) there r → AnySettles c ws end d n at r
    no_any e w x = first_any λ g cycle t a as' p q s u l. rw e (x.by g cycle t as' q (rw (w.passed a p s) u) l)

  pub try_all : {n at : ℕ} → FoundAlternatives ws end d n at → at ≤ end → Trying c ws end d n at n at
  try_all f l = record { rest = λ r s. s; found = f; within = l }

  -- k alternatives are done.
  module _ {n at k p : ℕ} (g : Trying c ws end d n at (n - k) p) where
    pub try_done : n ≤ k → AnySettles c ws end d n at false
    try_done l = g.rest false (none_any (omega arith))

    module _ (l : k < n) where
      left : n - k ≡ 0 → ⊥
      left z = absurd (omega arith)

      pub try_found : FoundAlternative ws end d p
      try_found = first_found g.found left

      pub try_room : p + 5 ≤ end
      try_room = alternative_room newest d try_found

      module _ {count first : ℕ} (head : AlternativeAt ws end p count first) where
        pub try_inner : FoundElements ws end d count first
        try_inner = inner_found newest d head try_found

        pub try_yes : {b : Bool} → Settles c ws end d count first b → b ≡ true → AnySettles c ws end d n at true
        try_yes v e = g.rest true (yes_any left head v e)

        pub try_more : {b : Bool} {there : ℕ} → Settles c ws end d count first b → b ≡ false
            → AlternativeWalked skipping ws end d p tt there tt → Trying c ws end d n at (n - (k + 1)) there
        try_more {there = there} v e w =
            let less : n - k - 1 ≡ n - (k + 1) = omega arith in
            rw (← less)
            (record {
              rest = λ r s. g.rest r (no_any left head v e w s);
              found = rest_found g.found left w.passed;
              within = w.within;
            })

pub ruleset trying = (try_all, try_done, try_found, try_room, try_inner, try_yes, try_more)

-- One rule.
module _ (c : Cycle) {ws : List ℕ} {end i at : ℕ} {b : Bool} (e : b ≡ bit c.members i) where
  pub candidate_out : b ≡ false → IsCandidate c ws end i at false
  candidate_out f = record { by = λ g cycle t x q s. rw (sym e ∙ f) refl }

  pub candidate_in : {m : ℕ} {r : Bool} → b ≡ true → m ≡ get_or ws (at + 3) 0 → AnySettles c ws end inner_depth m (at + 4) r
      → IsCandidate c ws end i at r
  candidate_in f n v =
      record {
        by = λ g cycle t x q s.
            let w = rule_words_lem inner_depth s in
            rw (sym e ∙ f) (v.by g cycle t x.body q w.alternatives (sym w.count ∙ sym n));
      }

pub ruleset judging = (candidate_out, candidate_in)

-- All rules, each looked at.
pub candidates_of : {c : Cycle} {ws : List ℕ} {end : ℕ} {places row : List ℕ} {Gives : ℕ → Bool → Type 0} {n m : ℕ}
    → Collected Gives n row → n ≡ m → ((k : ℕ) (b : Bool) → k < n → Gives k b → IsCandidate c ws end k (get_or places k 0) b)
    → Candidates c ws end places m row
candidates_of {row = row} x e h =
    record { each = λ k l. let low = rw (← e) at l in h k (bit row k) low (x.below k low); none = λ k l. x.beyond k (rw (← e) at l) }
