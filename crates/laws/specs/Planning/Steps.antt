-- A step of a substitution: the first alternative with work left, and what takes its place.
use Rattle.std.specs.Prelude.{ℕ, suc, not, take, drop}
use Rattle.std.proofs.Math.Path.{◌≡◌, refl, ap, ap₂, subst}
use Rattle.std.proofs.Common.{sym, ◌∙◌, arith}
use mathlib.Core.List.Memᴰ
use mathlib.Core.List.{List, [], ◌∷◌, ◌++◌, Memᴰ}
use Rattle.std.proofs.Math.Option.{Option, none, some, some-injective}
use Rattle.std.proofs.Math.Dec.{eqb}
use borrow.Author.Tests.{eqb-false}
use Rattle.grammar.specs.Tree.{OptionDecl, call, Element, leaf, AlternativeOf, Block, RuleOf}
use Rattle.grammar.specs.Numbers.{optional_greedy}
use Rattle.reference.specs.Analysis.{Grammar, grammar_of, names_of, rule_with_id}
use Rattle.reference.specs.Substitute.{dangling_reference, label_collision, binding_collision, option_collision, Decided, decided}
use Rattle.reference.specs.Substitute.{◌and_then◌}
use Rattle.reference.specs.Substitute.{require, found, decide_each, in_slot_of, PlannedCorner, optional, satellite, blocked, settled}
use Rattle.reference.specs.Substitute.{planned_corner, without, plain, split_optional, union_options, Planned, remaining_actions_reference}
use Rattle.reference.specs.Substitute.{labels_collide, implicit_bindings_collide, splice_alternative, splice_satellite, replacement, step}
use Rattle.laws.specs.Demands.Step.{CornerAt, Spliced, spliced_none, spliced_one, MadeFrom, split, splice, NoWork, StepTold}
use Rattle.laws.specs.Lists.Lookup.{first_none, target_rule, rule_with_id_lem}
use Rattle.laws.specs.Planning.Decisions.{decided_inj, then_decided, require_decided, found_decided}
use Rattle.laws.specs.Planning.Corner.{Means, corner_means, work_unsettled, take_front, drop_front, drop_behind}
use Rattle.laws.specs.Planning.Options.{never, options_joined_lem}

-- What a spliced alternative is made of.
pub record SplicedOne (d : ℕ) (p : Planned d) (i : ℕ) (s : AlternativeOf (Block d)) (q : Planned d) : Type 0 where
  pub options : List OptionDecl
  pub union : union_options p.options s.options ≡ some options
  pub whole : in_slot_of p options s.id (take i p.elements ++ (s.elements ++ drop (suc i) p.elements)) ≡ q

pub spliced : (d : ℕ) (p : Planned d) (i : ℕ) (s : AlternativeOf (Block d)) {q : Planned d} → splice_alternative d p i s ≡ decided q
    → SplicedOne d p i s q
unfolding splice_alternative
spliced d p i s {q} e =
    let around = without i p.elements in
    let a = require_decided label_collision (not (labels_collide d around s.elements)) _ e in
    let b = require_decided binding_collision (not (implicit_bindings_collide d around s.elements)) _ a.1 in
    let o =
    then_decided {f = λ os. decided (in_slot_of p os s.id (take i p.elements ++ (s.elements ++ drop (suc i) p.elements)))}
    (found option_collision (union_options p.options s.options)) b.1 in
    record {
      options = o.0;
      union = found_decided option_collision (union_options p.options s.options) o.1;
      whole = decided_inj o.2;
    }

module _ (d : ℕ) (rs : List (RuleOf (Block (suc d)))) (g : Grammar) (cycle : List ℕ) (hub : ℕ) where
  abbrev pub Reply : Type 0
  Reply = Option (Decided (List (Planned d)))

  module _ (p : Planned d) {i t : ℕ} (x : CornerAt g cycle p.elements i t) where
    at : Element (Block d)
    at = leaf x.head (call x.site)

    in_front : take i p.elements ≡ x.front
    unfolding at
    in_front = take_front x.front at x.rest x.whole x.place

    behind : drop (suc i) p.elements ≡ x.rest
    unfolding at
    behind = drop_behind x.front at x.rest x.whole x.place

    split_made : x.head.quantifier ≡ optional_greedy → MadeFrom d rs g cycle hub p (split_optional p i)
    unfolding split_optional plain at
    split_made q =
        let u = drop_front x.front at x.rest x.whole x.place in
        rw (in_front, behind, u) (split x q)

    splice_each : (as' : List (AlternativeOf (Block d))) {qs : List (Planned d)} → decide_each (splice_alternative d p i) as' ≡ decided qs
        → Spliced d p x.front x.rest as' qs
    unfolding decide_each
    splice_each [] {qs} e = subst (Spliced d p x.front x.rest []) (decided_inj e) spliced_none
    splice_each (s ∷ as') {qs} e =
        let y =
        then_decided {f = λ b. decide_each (splice_alternative d p i) as' and_then λ bs. decided (b ∷ bs)} (splice_alternative d p i s) e in
        let z = then_decided {f = λ bs. decided (y.0 ∷ bs)} (decide_each (splice_alternative d p i) as') y.2 in
        let o = spliced d p i s y.1 in
        let one = ap₂ (λ f r. in_slot_of p o.options s.id (f ++ (s.elements ++ r))) (sym in_front) (sym behind) ∙ o.whole in
        subst (Spliced d p x.front x.rest (s ∷ as')) (ap₂ ◌∷◌ one refl ∙ decided_inj z.2)
        (spliced_one ((options_joined_lem p.options s.options o.options).0 o.union) (splice_each as' z.1))

  -- Of what planned_corner found.
  made_from : (p : Planned d) (c : PlannedCorner) → Means g cycle hub p.elements c → {qs : List (Planned d)}
      → replacement d rs p c ≡ some (decided qs)
      → MadeFrom d rs g cycle hub p qs
  unfolding replacement splice_satellite
  made_from p (optional i t) m {qs} e = go (rule_with_id rs t) e
    where
      go : (o : Option (RuleOf (Block (suc d))))
          → (elim o as (λ y. Reply) [
            | none ↦ none
            | some r ↦ some
                (require dangling_reference (not (remaining_actions_reference d p.elements i r.name)) λ _. decided (split_optional p i))
          ]) ≡ some (decided qs)
          → MadeFrom d rs g cycle hub p qs
      go none f = never f
      go (some r) f =
          let y =
          require_decided dangling_reference (not (remaining_actions_reference d p.elements i r.name))
          (λ _. decided (split_optional p i)) (some-injective _ (decided qs) f) in
          subst (MadeFrom d rs g cycle hub p) (decided_inj y.1) (split_made p m.0 m.1)
  made_from p (satellite i t) m {qs} e = go (rule_with_id rs t) refl e
    where
      go : (o : Option (RuleOf (Block (suc d)))) → rule_with_id rs t ≡ o
          → (elim o as (λ y. Reply) [ none ↦ none | some r ↦ some (splice_satellite d p i r) ]) ≡ some (decided qs)
          → MadeFrom d rs g cycle hub p qs
      go none k f = never f
      go (some r) k f =
          let y =
          require_decided dangling_reference (not (remaining_actions_reference d p.elements i r.name))
          (λ _. decide_each (splice_alternative d p i) r.body) (some-injective _ (decided qs) f) in
          let (there, id) = rule_with_id_lem rs t k in
          splice m.0 m.1 m.2 r there id (splice_each p m.0 r.body y.1)
  made_from p blocked m {qs} e = absurd (let z : ◌≡◌ {A = ℕ} 0 1 = cc in omega arith)
  made_from p settled m {qs} e = never e

  -- What takes the place of an alternative, and none.
  abbrev pub reply : Planned d → Reply
  reply p = replacement d rs p (planned_corner g cycle hub p.elements)

  abbrev pub Passed : List (Planned d) → Type 0
  Passed ps = (p : Planned d) → Memᴰ p ps → reply p ≡ none

  pub passed_more : {p : Planned d} {ps : List (Planned d)} → reply p ≡ none → Passed ps → Passed (p ∷ ps)
  passed_more k h q (Memᴰ.head e) = ap reply e ∙ k
  passed_more k h q (Memᴰ.tail m) = h q m

  -- A step: those in front were passed.
  pub record Stepped (ps qs : List (Planned d)) : Type 0 where
    pub front : List (Planned d)
    pub slot : Planned d
    pub rest : List (Planned d)
    pub whole : front ++ (slot ∷ rest) ≡ ps
    pub passed : (p : Planned d) → Memᴰ p front → reply p ≡ none
    pub made : List (Planned d)
    pub is_made : MadeFrom d rs g cycle hub slot made
    pub result : front ++ (made ++ rest) ≡ qs

  abbrev pub step_by : Planned d → List (Planned d) → Reply → Reply → Reply
  step_by p ps o o' =
      elim o [
        | some r ↦ some (r and_then λ qs. decided (qs ++ ps))
        | none ↦ elim o'
            [ none ↦ none | some r ↦ some (r and_then λ qs. decided (p ∷ qs)) ]
      ]

  pub stepped : (ps qs : List (Planned d)) → step d rs g cycle hub ps ≡ some (decided qs) → Stepped ps qs
  unfolding step
  stepped [] qs e = never e
  stepped (p ∷ ps) qs e = go (reply p) refl (step d rs g cycle hub ps) (stepped ps) e
    where
      go : (o : Reply) → reply p ≡ o → (o' : Reply) → ((ks : List (Planned d)) → o' ≡ some (decided ks) → Stepped ps ks)
          → step_by p ps o o' ≡ some (decided qs)
          → Stepped (p ∷ ps) qs
      go none k none ih f = never f
      go none k (some r) ih f =
          let y = then_decided {f = λ ks. decided (p ∷ ks)} r (some-injective _ (decided qs) f) in
          let s = ih y.0 (ap some y.1) in
          record {
            front = p ∷ s.front;
            slot = s.slot;
            rest = s.rest;
            whole = ap (λ l. p ∷ l) s.whole;
            passed = passed_more k s.passed;
            made = s.made;
            is_made = s.is_made;
            result = ap (λ l. p ∷ l) s.result ∙ decided_inj y.2;
          }
      go (some r) k o' ih f =
          let y = then_decided {f = λ ks. decided (ks ++ ps)} r (some-injective _ (decided qs) f) in
          record {
            front = [];
            slot = p;
            rest = ps;
            whole = refl;
            passed = λ q m. absurd (Memᴰ.not-nil m);
            made = y.0;
            is_made = made_from p (planned_corner g cycle hub p.elements) (corner_means g cycle hub p.elements) (k ∙ ap some y.1);
            result = decided_inj y.2;
          }

  ends : (ps : List (Planned d)) → step d rs g cycle hub ps ≡ none → Passed ps
  unfolding step
  ends [] e = λ q m. absurd (Memᴰ.not-nil m)
  ends (p ∷ ps) e = go (reply p) refl (step d rs g cycle hub ps) (ends ps) e
    where
      go : (o : Reply) → reply p ≡ o → (o' : Reply) → (o' ≡ none → Passed ps)
          → ◌≡◌ {A = Reply} (step_by p ps o o') none → Passed (p ∷ ps)
      go none k none ih f = passed_more k (ih refl)
      go none k (some r) ih f = never (sym f)
      go (some r) k o' ih f = never (sym f)

  -- In a grammar of these rules, what is passed has no work left.
  module _ (named : g.names ≡ names_of rs) where
    pub found_rule : {B : Type 0} {es : List (Element B)} {i t : ℕ} → CornerAt g cycle es i t → rule_with_id rs t ≡ none → ⊥
    unfolding rule_with_id
    found_rule {t = t} x e =
        let (r, m, n, same) = target_rule rs g named x.site.name x.known in
        eqb-false r.id t (first_none (λ r. eqb r.id t) e m) same

    passed_settled : (p : Planned d) (c : PlannedCorner) → Means g cycle hub p.elements c → replacement d rs p c ≡ none → c ≡ settled
    unfolding replacement
    passed_settled p (optional i t) m e = go (rule_with_id rs t) refl e
      where
        go : (o : Option (RuleOf (Block (suc d)))) → rule_with_id rs t ≡ o
            → ◌≡◌ {A = Reply} (elim o as (λ y. Reply) [
              | none ↦ none
              | some r ↦ some (require dangling_reference (not (remaining_actions_reference d p.elements i r.name))
                  λ _. decided (split_optional p i))
            ]) none
            → optional i t ≡ settled
        go none k f = absurd (found_rule m.0 k)
        go (some r) k f = never (sym f)
    passed_settled p (satellite i t) m e = go (rule_with_id rs t) refl e
      where
        go : (o : Option (RuleOf (Block (suc d)))) → rule_with_id rs t ≡ o
            → ◌≡◌ {A = Reply} (elim o as (λ y. Reply) [ none ↦ none | some r ↦ some (splice_satellite d p i r) ]) none
            → satellite i t ≡ settled
        go none k f = absurd (found_rule m.0 k)
        go (some r) k f = never (sym f)
    passed_settled p blocked m e = never (sym e)
    passed_settled p settled m e = refl

    pub no_work : (ps : List (Planned d)) → Passed ps → NoWork d rs g cycle hub ps
    no_work ps h p m w =
        work_unsettled g cycle hub w (passed_settled p (planned_corner g cycle hub p.elements) (corner_means g cycle hub p.elements)
        (h p m))

    pub step_told : (ps : List (Planned d)) → StepTold d rs g cycle hub ps
    step_told ps =
        record {
          replaces = λ qs e.
              let s = stepped ps qs e in
              record {
                front = s.front;
                slot = s.slot;
                rest = s.rest;
                whole = s.whole;
                is_first = no_work s.front s.passed;
                made = s.made;
                is_made = s.is_made;
                result = s.result;
              };
          ends = λ e. no_work ps (ends ps e);
        }

-- In the grammar of some rules.
pub known_steps : (d : ℕ) (rs : List (RuleOf (Block (suc d)))) (cycle : List ℕ) (hub : ℕ) (ps : List (Planned d))
    → StepTold d rs (grammar_of (suc d) rs) cycle hub ps
unfolding grammar_of
known_steps d rs cycle hub ps = step_told d rs (grammar_of (suc d) rs) cycle hub refl ps
