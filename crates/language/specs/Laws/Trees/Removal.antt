-- Removal: what calls no removed rule, and leads to none, has the same trees before and after.
use Rattle.std.specs.Prelude.{ℕ, ◌≡◌}
use Rattle.std.proofs.Math.Path.{refl, ap, ap₂}
use Rattle.std.proofs.Common.{◌∙◌}
use mathlib.Core.List.{◌∷◌, ◌++◌}
use Rattle.language.specs.Shape.{Shape, Shapes, EachCall}
use Rattle.language.specs.Readings.{Tree, t_eps, t_symbol, t_call, t_unknown, t_seq, t_left, t_right, t_absent, t_present, t_none}
use Rattle.language.specs.Readings.{t_more, t_some, yield, first, next, present, again, choices}
use Rattle.language.specs.Laws.Removal.{AlikeOn, alike_on_sym}
use Rattle.language.specs.Laws.Trees.Carry.{call_path, unknown_path}
use Rattle.language.specs.Laws.Trees.Replace.{Paired}

-- Every node stays; a call's name is found in the other grammar.
unfoldable pub stay : {P : ℕ → Type 0} {G K : Shapes} → AlikeOn P G K → {s : Shape} → Tree G s → EachCall P s → Tree K s
stay a t_eps p = t_eps
stay a t_symbol p = t_symbol
stay a (t_call {n = n} {b = b} e x) p = t_call (a.found n p ∙ e) (stay a x (a.calls n b p e))
stay a (t_unknown {n = n} e) p = t_unknown (a.found n p ∙ e)
stay a (t_seq x y) p = t_seq (stay a x p.0) (stay a y p.1)
stay a (t_left x) p = t_left (stay a x p.0)
stay a (t_right x) p = t_right (stay a x p.1)
stay a t_absent p = t_absent
stay a (t_present x) p = t_present (stay a x p)
stay a t_none p = t_none
stay a (t_more x y) p = t_more (stay a x p) (stay a y p)
stay a (t_some x y) p = t_some (stay a x p) (stay a y p)

module _ {P : ℕ → Type 0} {G K : Shapes} (a : AlikeOn P G K) where
  -- The string is kept.
  pub stay_yield : {s : Shape} (x : Tree G s) (p : EachCall P s) → yield (stay a x p) ≡ yield x
  unfolding yield stay
  stay_yield t_eps p = refl
  stay_yield t_symbol p = refl
  stay_yield (t_call {n = n} {b = b} e x) p = stay_yield x (a.calls n b p e)
  stay_yield (t_unknown e) p = refl
  stay_yield (t_seq x y) p = ap₂ ◌++◌ (stay_yield x p.0) (stay_yield y p.1)
  stay_yield (t_left x) p = stay_yield x p.0
  stay_yield (t_right x) p = stay_yield x p.1
  stay_yield t_absent p = refl
  stay_yield (t_present x) p = stay_yield x p
  stay_yield t_none p = refl
  stay_yield (t_more x y) p = ap₂ ◌++◌ (stay_yield x p) (stay_yield y p)
  stay_yield (t_some x y) p = ap₂ ◌++◌ (stay_yield x p) (stay_yield y p)

  -- And so are the choices.
  pub stay_choices : {s : Shape} (x : Tree G s) (p : EachCall P s) → choices (stay a x p) ≡ choices x
  unfolding choices stay
  stay_choices t_eps p = refl
  stay_choices t_symbol p = refl
  stay_choices (t_call {n = n} {b = b} e x) p = stay_choices x (a.calls n b p e)
  stay_choices (t_unknown e) p = refl
  stay_choices (t_seq x y) p = ap₂ ◌++◌ (stay_choices x p.0) (stay_choices y p.1)
  stay_choices (t_left x) p = ap (λ l. first ∷ l) (stay_choices x p.0)
  stay_choices (t_right x) p = ap (λ l. next ∷ l) (stay_choices x p.1)
  stay_choices t_absent p = refl
  stay_choices (t_present x) p = ap (λ l. present ∷ l) (stay_choices x p)
  stay_choices t_none p = refl
  stay_choices (t_more x y) p = ap₂ (λ l m. again ∷ (l ++ m)) (stay_choices x p) (stay_choices y p)
  stay_choices (t_some x y) p = ap₂ ◌++◌ (stay_choices x p) (stay_choices y p)

  -- There and back again.
  pub round : (b : AlikeOn P K G) {s : Shape} (x : Tree G s) (p q : EachCall P s) → stay b (stay a x p) q ≡ x
  unfolding stay
  round b t_eps p q = refl
  round b t_symbol p q = refl
  round b (t_call {n = n} {b = c} e x) p q =
      call_path (b.found n q ∙ (a.found n p ∙ e)) e (round b x (a.calls n c p e) (b.calls n c q (a.found n p ∙ e)))
  round b (t_unknown {n = n} e) p q = unknown_path (b.found n q ∙ (a.found n p ∙ e)) e
  round b (t_seq x y) p q = ap₂ t_seq (round b x p.0 q.0) (round b y p.1 q.1)
  round b (t_left x) p q = ap t_left (round b x p.0 q.0)
  round b (t_right x) p q = ap t_right (round b x p.1 q.1)
  round b t_absent p q = refl
  round b (t_present x) p q = ap t_present (round b x p q)
  round b t_none p q = refl
  round b (t_more x y) p q = ap₂ t_more (round b x p q) (round b y p q)
  round b (t_some x y) p q = ap₂ t_some (round b x p q) (round b y p q)

-- What calls such names alone has the same trees in both.
unfoldable pub removal_pairs : {P : ℕ → Type 0} {G K : Shapes} → AlikeOn P G K → (s : Shape) → EachCall P s → Paired G s K s
removal_pairs a s p =
    record {
      to = λ x. stay a x p;
      from = λ x. stay (alike_on_sym a) x p;
      there = λ x. round (alike_on_sym a) a x p p;
      back = λ x. round a (alike_on_sym a) x p p;
      strings = λ x. stay_yield a x p;
    }
