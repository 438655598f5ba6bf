-- Replacement: two grammars alike but for the body of H, whose bodies pair off, have the same trees, one for one.
use Rattle.std.specs.Prelude.{ℕ, ◌≡◌}
use Rattle.std.proofs.Math.Path.{refl, sym, ap, ap₂, subst}
use Rattle.std.proofs.Common.{◌∙◌}
use mathlib.Core.List.{◌++◌}
use Rattle.std.proofs.Math.Option.{none, some, some-injective, none-ne-some}
use Rattle.std.proofs.Math.Decide.{ℕ_discrete}
use Rattle.language.specs.Shape.{Shape, call_of, Shapes, find}
use Rattle.language.specs.Readings.{Tree, t_eps, t_symbol, t_call, t_unknown, t_seq, t_left, t_right, t_absent, t_present, t_none}
use Rattle.language.specs.Readings.{t_more, t_some, yield}
use Rattle.language.specs.Laws.Cover.{ButFor}
use Rattle.language.specs.Laws.Trees.Carry.{Covers, carry, Plain, Pairs, pairs_sym, call_path, call_moved, unknown_path, loop}
use Rattle.language.specs.Laws.Trees.Carry.{carry_subst, yield_subst}

-- The trees of s in G and of t in K pair off, and the string is kept.
pub record Paired (G : Shapes) (s : Shape) (K : Shapes) (t : Shape) : Type 0 where
  pub to : Tree G s → Tree K t
  pub from : Tree K t → Tree G s
  pub there : (x : Tree K t) → to (from x) ≡ x
  pub back : (x : Tree G s) → from (to x) ≡ x
  pub strings : (x : Tree G s) → yield (to x) ≡ yield x

-- Each with itself, and by way of a third.
unfoldable pub paired_refl : (G : Shapes) (s : Shape) → Paired G s G s
paired_refl G s = record { to = λ x. x; from = λ x. x; there = λ x. refl; back = λ x. refl; strings = λ x. refl }

unfoldable pub paired_trans : {G K L : Shapes} {s t u : Shape} → Paired G s K t → Paired K t L u → Paired G s L u
paired_trans p q =
    record {
      to = λ x. q.to (p.to x);
      from = λ x. p.from (q.from x);
      there = λ x. ap q.to (p.there (q.from x)) ∙ q.there x;
      back = λ x. ap p.from (q.back (p.to x)) ∙ p.back x;
      strings = λ x. q.strings (p.to x) ∙ p.strings x;
    }

module _ {H : ℕ} {B X Y : Shapes} (o : ButFor H B X) (r : ButFor H B Y) where
  -- Of every other name the two have the same body.
  pub other : (n : ℕ) → (n ≡ H → ⊥) → find Y n ≡ find X n
  other n ne = r.others n ne ∙ sym (o.others n ne)

  module _ {b c : Shape} (g : find X H ≡ some b) (k : find Y H ≡ some c) (p : Pairs H B b c) where
    -- The body found under H is H's.
    pub body : (n : ℕ) (x : Shape) → n ≡ H → find X n ≡ some x → x ≡ b
    body n x q e = some-injective x b (sym e ∙ ap (find X) q ∙ g)

    -- How a call's node is carried over: under H the bodies' pairing is made below it; any other stays.
    abbrev pub forth : (n : ℕ) (x : Shape) → Dec (n ≡ H) → find X n ≡ some x → Tree Y x → Tree Y (call_of n)
    forth n x (yes q) e d = t_call (ap (find Y) q ∙ k) (p.to Y r (subst (Tree Y) (body n x q e) d))
    forth n x (no ne) e d = t_call (other n ne ∙ e) d

    -- What no rule of the one has for a name, none of the other has.
    pub unknown : (n : ℕ) → Dec (n ≡ H) → find X n ≡ none → find Y n ≡ none
    unknown n (yes q) e = absurd (none-ne-some b (sym e ∙ ap (find X) q ∙ g))
    unknown n (no ne) e = other n ne ∙ e

    -- Both together.
    abbrev pub swap : Covers X Y
    swap = record { bodies = λ n x. forth n x (ℕ_discrete n H); unknowns = λ n. unknown n (ℕ_discrete n H) }

    -- Only calls of H are made otherwise.
    pub forth_plain : (n : ℕ) (x : Shape) (z : Dec (n ≡ H)) → (n ≡ H → ⊥) → (e : find X n ≡ some x) (f : find Y n ≡ some x) (d : Tree Y x)
        → forth n x z e d ≡ t_call f d
    forth_plain n x (yes q) ne e f d = absurd (ne q)
    forth_plain n x (no m) ne e f d = call_path (other n m ∙ e) f refl

    pub swap_plain : Plain H swap
    swap_plain = record { calls = λ n x ne e f d. forth_plain n x (ℕ_discrete n H) ne e f d }

    -- Under H, and under another name.
    pub swap_hub : (d : Tree Y b) → swap.bodies H b g d ≡ t_call k (p.to Y r d)
    swap_hub d = go (ℕ_discrete H H)
      where
        go : (z : Dec (H ≡ H)) → forth H b z g d ≡ t_call k (p.to Y r d)
        go (yes q) = call_path (ap (find Y) q ∙ k) k (ap (p.to Y r) (loop (body H b q g) d))
        go (no ne) = absurd (ne refl)

    pub swap_other : (n : ℕ) {x : Shape} → (n ≡ H → ⊥) → (e : find X n ≡ some x) (f : find Y n ≡ some x) (d : Tree Y x)
        → swap.bodies n x e d ≡ t_call f d
    swap_other n {x} ne e f d = forth_plain n x (ℕ_discrete n H) ne e f d

    pub called_yield : (n : ℕ) (x : Shape) (z : Dec (n ≡ H)) (e : find X n ≡ some x) (d : Tree Y x) → yield (forth n x z e d) ≡ yield d
    unfolding yield
    called_yield n x (yes q) e d = p.strings Y r (subst (Tree Y) (body n x q e) d) ∙ yield_subst (body n x q e) d
    called_yield n x (no ne) e d = refl

    -- The string is kept.
    pub swap_yield : {s : Shape} (t : Tree X s) → yield (carry swap t) ≡ yield t
    unfolding yield carry
    swap_yield t_eps = refl
    swap_yield t_symbol = refl
    swap_yield (t_call {n = n} {b = x} e d) = called_yield n x (ℕ_discrete n H) e (carry swap d) ∙ swap_yield d
    swap_yield (t_unknown e) = refl
    swap_yield (t_seq x y) = ap₂ ◌++◌ (swap_yield x) (swap_yield y)
    swap_yield (t_left x) = swap_yield x
    swap_yield (t_right x) = swap_yield x
    swap_yield t_absent = refl
    swap_yield (t_present x) = swap_yield x
    swap_yield t_none = refl
    swap_yield (t_more x y) = ap₂ ◌++◌ (swap_yield x) (swap_yield y)
    swap_yield (t_some x y) = ap₂ ◌++◌ (swap_yield x) (swap_yield y)

-- There and back again.
module _ {H : ℕ} {B X Y : Shapes} (o : ButFor H B X) (r : ButFor H B Y) {b c : Shape} (g : find X H ≡ some b) (k : find Y H ≡ some c)
    (p : Pairs H B b c) where
  -- The two ways.
  abbrev pub T : Covers X Y
  T = swap o r g k p

  abbrev pub U : Covers Y X
  U = swap r o k g (pairs_sym p)

  -- At a call: what is below it goes there and back by assumption.
  pub called : (n : ℕ) (x : Shape) (z : Dec (n ≡ H)) → ℕ_discrete n H ≡ z → (e : find X n ≡ some x) (d : Tree X x)
      → carry U (carry T d) ≡ d → carry U (forth o r g k p n x z e (carry T d)) ≡ t_call e d
  unfolding carry pairs_sym
  called n x (yes q) w e d ih =
      let s = body o r g k p n x q e in
      let f = ap (find Y) q ∙ k in
      let y = subst (Tree Y) s (carry T d) in
      let l = body r o k g (pairs_sym p) n c q f in
      ap (λ z. forth r o k g (pairs_sym p) n c z f (carry U (p.to Y r y))) w
      ∙ ap (t_call (ap (find X) q ∙ g))
      (ap (p.from X o) (loop l (carry U (p.to Y r y)) ∙ p.commutes Y X r o U (swap_plain r o k g (pairs_sym p)) y)
      ∙ p.back X o (carry U y)
      ∙ carry_subst U s (carry T d)
      ∙ ap (subst (Tree X) s) ih)
      ∙ sym (call_moved d s e (ap (find X) q ∙ g))
  called n x (no ne) w e d ih =
      ap (λ z. forth r o k g (pairs_sym p) n x z (other o r n ne ∙ e) (carry U (carry T d))) w
      ∙ call_path (other r o n ne ∙ (other o r n ne ∙ e)) e ih

  -- At every node.
  pub round : {s : Shape} (t : Tree X s) → carry U (carry T t) ≡ t
  unfolding carry
  round t_eps = refl
  round t_symbol = refl
  round (t_call {n = n} {b = x} e d) = called n x (ℕ_discrete n H) refl e d (round d)
  round (t_unknown {n = n} e) = unknown_path _ e
  round (t_seq x y) = ap₂ t_seq (round x) (round y)
  round (t_left x) = ap t_left (round x)
  round (t_right x) = ap t_right (round x)
  round t_absent = refl
  round (t_present x) = ap t_present (round x)
  round t_none = refl
  round (t_more x y) = ap₂ t_more (round x) (round y)
  round (t_some x y) = ap₂ t_some (round x) (round y)

-- The two grammars' trees of any shape.
unfoldable pub replaced_pairs : {H : ℕ} {B X Y : Shapes} (o : ButFor H B X) (r : ButFor H B Y) {b c : Shape} → find X H ≡ some b
    → find Y H ≡ some c → Pairs H B b c → (s : Shape) → Paired X s Y s
unfolding pairs_sym body unknown
replaced_pairs o r g k p s =
    record {
      to = carry (swap o r g k p);
      from = carry (swap r o k g (pairs_sym p));
      there = round r o k g (pairs_sym p);
      back = round o r g k p;
      strings = swap_yield o r g k p;
    }
