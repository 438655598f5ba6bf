-- A plan as a chain of steps on whole planned alternatives: each replaces one by its split or by a satellite's alternatives.
use Rattle.std.specs.Prelude.{ℕ, suc, ◌≡◌, refl, ◌⊎◌}
use Rattle.std.proofs.Common.{sym, ap, subst₂, inl, inr, ⊎_elim}
use mathlib.Core.List.Memᴰ
use mathlib.Core.List.{List, [], ◌∷◌, ◌++◌, Memᴰ}
use Rattle.std.proofs.Math.Option.{some}
use Rattle.grammar.specs.Tree.{OptionDecl, Element, AlternativeOf, Block, RuleOf}
use Rattle.grammar.specs.Corners.{Corners}
use Rattle.reference.specs.Analysis.{Grammar}
use Rattle.reference.specs.Substitute.{decided, Limits, in_slot_of, without, with_plain, split_optional, Planned, Elements, step}
use Rattle.reference.specs.Plan.{CyclePlan, as_they_are}
use Rattle.reference.specs.Run.{inner_depth}
use Rattle.laws.specs.Demands.Step.{JoinedOptions, no_more, new_name, same_value, new_in, Spliced, spliced_none, spliced_one, MadeFrom}
use Rattle.laws.specs.Demands.Substitution.{Steps, no_steps_left, one_more, InSlot, SlotsKept}
use Rattle.laws.specs.Planning.Steps.{spliced, stepped}
use Rattle.laws.specs.Planning.Plans.{Made}

-- What a step makes fills the slot of what it replaces.
in_slot : {p q : Planned inner_depth} {os : List OptionDecl} {i : ℕ} {es : List (Element (Block inner_depth))} → in_slot_of p os i es ≡ q
    → InSlot p q × (q.origin ≡ i)
in_slot e = (
  record {
    carried = ap (λ x. x.carried) (sym e);
    flag = ap (λ x. x.flag) (sym e);
    is_new = ap (λ x. x.verbatim) (sym e);
  },
  ap (λ x. x.origin) (sym e),
)

pub slots_kept_lem : (p : Planned inner_depth) (i : ℕ) → SlotsKept p i
unfolding split_optional
slots_kept_lem p i =
    record {
      split =
          λ q m. in_slot (Memᴰ.of_map (in_slot_of p p.options p.origin) (with_plain i p.elements ∷ without i p.elements ∷ [])
          m).2;
      spliced = λ a q e. in_slot (spliced inner_depth p i a e).whole;
    }

-- Options joined have no others.
pub joined_in : {os more ws : List OptionDecl} → JoinedOptions os more ws → {o : OptionDecl} → Memᴰ o ws
    → Memᴰ o os ⊎ Memᴰ o more
joined_in no_more m = inl m
joined_in (new_name {os = os} u j) m =
    ⊎_elim (λ n. ⊎_elim inl (λ k. inr (Memᴰ.head (Memᴰ.eq_of_singleton k))) (Memᴰ.append_cases os n))
    (λ n. inr (Memᴰ.tail n)) (joined_in j m)
joined_in (same_value front rest x w u n v j) m = ⊎_elim inl (λ n. inr (Memᴰ.tail n)) (joined_in j m)

-- A spliced alternative stems from one of the satellite's.
pub record Stem (d : ℕ) (p : Planned d) (front rest : Elements d) (as' : List (AlternativeOf (Block d))) (q : Planned d) : Type 0 where
  pub alternative : AlternativeOf (Block d)
  pub there : Memᴰ alternative as'
  pub options : List OptionDecl
  pub joined : JoinedOptions p.options alternative.options options
  pub whole : new_in d p options alternative.id (front ++ (alternative.elements ++ rest)) ≡ q

pub spliced_in : {d : ℕ} {p : Planned d} {front rest : Elements d} {as' : List (AlternativeOf (Block d))} {qs : List (Planned d)}
    → Spliced d p front rest as' qs
    → {q : Planned d} → Memᴰ q qs → Stem d p front rest as' q
spliced_in spliced_none m = absurd (Memᴰ.not-nil m)
spliced_in (spliced_one {a = a} {os = os} o s) (Memᴰ.head e) = record {
  alternative = a;
  there = Memᴰ.head refl;
  options = os;
  joined = o;
  whole = sym e;
}
spliced_in (spliced_one o s) (Memᴰ.tail m) =
    let x = spliced_in s m in
    record { alternative = x.alternative; there = Memᴰ.tail x.there; options = x.options; joined = x.joined; whole = x.whole }

module _ (d : ℕ) (rs : List (RuleOf (Block (suc d)))) where
  -- One step, and any number of them.
  pub data StepTo : List (Planned d) → List (Planned d) → Type 0 where
    here : {g : Grammar} {cycle : List ℕ} {hub : ℕ} {p : Planned d} {qs ps : List (Planned d)} → MadeFrom d rs g cycle hub p qs
        → StepTo (p ∷ ps) (qs ++ ps)
    later : {p : Planned d} {ps qs : List (Planned d)} → StepTo ps qs → StepTo (p ∷ ps) (p ∷ qs)

  pub data Chain : List (Planned d) → List (Planned d) → Type 0 where
    still : {ps : List (Planned d)} → Chain ps ps
    onward : {ps qs ks : List (Planned d)} → StepTo ps qs → Chain qs ks → Chain ps ks

  -- What each step keeps the chain keeps.
  pub chain_keeps : (P : List (Planned d) → Type 0) → ((ps qs : List (Planned d)) → StepTo ps qs → P ps → P qs)
      → {ps qs : List (Planned d)} → Chain ps qs → P ps → P qs
  chain_keeps P h still p = p
  chain_keeps P h (onward {ps = ps} {qs = qs} s c) p = chain_keeps P h c (h ps qs s p)

  module _ (g : Grammar) (cycle : List ℕ) (hub : ℕ) where
    pub step_at : (front : List (Planned d)) {p : Planned d} {made : List (Planned d)} (rest : List (Planned d))
        → MadeFrom d rs g cycle hub p made
        → StepTo (front ++ (p ∷ rest)) (front ++ (made ++ rest))
    step_at [] rest m = here m
    step_at (q ∷ front) rest m = later (step_at front rest m)

    step_to : (ps qs : List (Planned d)) → step d rs g cycle hub ps ≡ some (decided qs) → StepTo ps qs
    step_to ps qs e =
        let s = stepped d rs g cycle hub ps qs e in
        subst₂ StepTo s.whole s.result (step_at s.front s.rest s.is_made)

    steps_chain : {limits : Limits} {n : ℕ} {ps qs : List (Planned d)} → Steps limits d rs g cycle hub n ps qs → Chain ps qs
    steps_chain no_steps_left = still
    steps_chain (one_more {ps = ps} {qs = qs} e w s) = onward (step_to ps qs e) (steps_chain s)

  -- A plan: its hub is a rule, and a chain leads from that rule's alternatives to the planned ones.
  pub record FromHub (plan : CyclePlan d) : Type 0 where
    pub rule : RuleOf (Block (suc d))
    pub there : Memᴰ rule rs
    pub id : rule.id ≡ plan.hub
    pub chain : Chain (as_they_are rule.body) plan.alternatives

  pub from_hub : {c : Corners} {g : Grammar} {preserved cycle : List ℕ} {plan : CyclePlan d} → Made c d rs g preserved cycle plan
      → FromHub plan
  from_hub {g = g} {cycle = cycle} x = record {
    rule = x.hub;
    there = x.is_rule;
    id = x.is_hub;
    chain = steps_chain g cycle x.hub.id x.path;
  }
