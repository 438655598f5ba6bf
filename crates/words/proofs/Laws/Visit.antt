-- A visitor's walk is a fold: from what its methods do at a leaf, a block's head and an alternative's head.
use Prim.Native.Nat.{ℕ, ◌+◌, ◌-◌, ◌<◌, ◌≤◌}
use Rattle.std.specs.Prelude.{◌≡◌, List, Bool, get_or}
use Rattle.std.proofs.Common.{sym, arith}
use Rattle.grammar.specs.Form.{newest}
use Rattle.grammar.specs.Numbers.{block_kind}
use Rattle.grammar.specs.Found.{HeadAt, AlternativeAt, LeafEnd}
use Rattle.grammar.specs.Fold.{head_of, Steps, WalkedOne, WalkedMany, ElementWalked, ElementsWalked, AlternativeWalked, AlternativesWalked}
use Rattle.grammar.specs.Laws.Fold.{Folding, folding_done, folding_more, fold_leaf, fold_block, fold_alternative}
use Rattle.words.specs.Visit.{LeafPassed, BlockEntered, AlternativeEntered, VisitorLaws}

module _ {V State : Type 0} {steps : List ℕ → V → Steps State} {state : List ℕ → ℕ → V → State}
    {Fits : List ℕ → ℕ → ℕ → ℕ → V → Type 0} {Kept : List ℕ → ℕ → V → V → Type 0} (laws : VisitorLaws steps state Fits Kept)
    {ws : List ℕ} {end : ℕ} (d : ℕ) where
  module _ {at k p : ℕ} (head : HeadAt ws end at k p) {a b : V} where
    pub visited_leaf : (k ≡ block_kind → ⊥) → {there : ℕ} → LeafEnd ws end d at p there
        → Kept ws end a b × Fits ws end d (at + 6) b × LeafPassed (steps ws a) ws end at p (state ws d a) (state ws d b)
        → Kept ws end a b × Fits ws end d there b × ElementWalked (steps ws a) ws end d at (state ws d a) there (state ws d b)
    visited_leaf other {there} e v =
        let past = head.past in
        let on = e.past in
        (v.0, laws.on ws end d (at + 6) there b (omega arith) v.1, fold_leaf newest (steps ws a) head d other e v.2.is)

    pub visited_block : k ≡ block_kind → 1 ≤ d → Fits ws end d at a → {m : ℕ} → m ≡ get_or ws p 0
        → Kept ws end a b × Fits ws end (d - 1) (at + 6) b
        × BlockEntered (steps ws a) ws end at p (state ws d a) (state ws (d - 1) b)
        → {c : V} {q : ℕ}
        → Kept ws end b c × Fits ws end (d - 1) q c
        × AlternativesWalked (steps ws b) ws end (d - 1) m (p + 1) (state ws (d - 1) b) q (state ws (d - 1) c)
        → Kept ws end a c × Fits ws end d q c × ElementWalked (steps ws a) ws end d at (state ws d a) q (state ws d c)
    visited_block six deep fits e v {c} {q} w =
        let kept = laws.more ws end a b c v.0 w.0 in
        let inner = rw (laws.same ws end a b v.0) at w.2 in (
          kept,
          laws.out ws end d at q a c kept fits w.1,
          fold_block newest (steps ws a) head six d e v.2.is inner λ h y. sym (laws.past_block ws end d at a c h deep kept fits),
        )

  pub visited_alternative : {at count first : ℕ} → AlternativeAt ws end at count first → {a b c : V} {q : ℕ}
      → Kept ws end a b × Fits ws end d (at + 5) b × AlternativeEntered (steps ws a) ws end at d (state ws d a) (state ws d b)
      → Kept ws end b c × Fits ws end d q c
      × ElementsWalked (steps ws b) ws end d count first (state ws d b) q (state ws d c)
      → Kept ws end a c × Fits ws end d q c × AlternativeWalked (steps ws a) ws end d at (state ws d a) q (state ws d c)
  visited_alternative head {a} {b} {c} {q} v w =
      let kept = laws.more ws end a b c v.0 w.0 in
      let inner = rw (laws.same ws end a b v.0) at w.2 in (
        kept,
        w.1,
        fold_alternative newest (steps ws a) d head v.2.is inner λ x z y. sym (laws.past_alternative ws end d a c (head_of x) kept),
      )

  -- A loop over trees, with k of n passed, whatever the trees.
  module _ {A : Type 0} {enc : A → List ℕ} {ok : A → Bool} {n at k p : ℕ} {a b : V} where
    pub visited_more : (step : Steps State → State → A → State) → k < n
        → Kept ws end a b × Fits ws end d p b
        × Folding ws end enc ok (step (steps ws a)) n at (state ws d a) (n - k) p (state ws d b)
        → {c : V} {q : ℕ}
        → Kept ws end b c × Fits ws end d q c × WalkedOne ws end enc ok (step (steps ws b)) p (state ws d b) q (state ws d c)
        → Kept ws end a c × Fits ws end d q c
        × Folding ws end enc ok (step (steps ws a)) n at (state ws d a) (n - (k + 1)) q (state ws d c)
    visited_more step some v {c} w =
        let one = rw (laws.same ws end a b v.0) at w.2 in
        let less : n - k - 1 ≡ n - (k + 1) = omega arith in
        (laws.more ws end a b c v.0 w.0, w.1, rw (← less) (folding_more v.2 (λ z. absurd (omega arith)) one))

    pub visited_all : {step : State → A → State} → n ≤ k
        → Kept ws end a b × Fits ws end d p b
        × Folding ws end enc ok step n at (state ws d a) (n - k) p (state ws d b)
        → Kept ws end a b × Fits ws end d p b × WalkedMany ws end enc ok step n at (state ws d a) p (state ws d b)
    visited_all done v = (v.0, v.1, folding_done v.2 (omega arith))
