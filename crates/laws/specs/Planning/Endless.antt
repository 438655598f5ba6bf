-- No plan splices a rule with an alternative that starts with its own plain call: such an alternative comes again with each splice,
-- so work would be left for ever.
use Rattle.std.specs.Prelude.{ℕ, suc, ◌≡◌, refl, true, not, length}
use Rattle.std.proofs.Common.{sym, ap, ◌∙◌, subst, subst₂, ⊎_elim, arith}
use mathlib.Core.List.Memᴰ
use mathlib.Core.List.{List, [], ◌∷◌, ◌++◌, Memᴰ}
use Rattle.std.proofs.Math.Option.{some-injective}
use Rattle.std.proofs.lemmas.Bool.{false≢true}
use Rattle.grammar.specs.Lists.{AllOf, member, keep}
use Rattle.grammar.specs.Tree.{ElementHead, Call, call, Element, leaf, AlternativeOf, Block, RuleOf}
use Rattle.grammar.specs.Laws.Parse.{either}
use Rattle.grammar.specs.Numbers.{once}
use Rattle.reference.specs.Walks.{sort_of, is_epsilon_only}
use Rattle.reference.specs.Analysis.{Grammar, target}
use Rattle.reference.specs.Substitute.{Limits, Planned, Elements}
use Rattle.laws.specs.Demands.Step.{CornerAt, Spliced, spliced_none, spliced_one, MadeFrom, split, splice, NoWork}
use Rattle.laws.specs.Demands.Substitution.{Steps, no_steps_left, one_more}
use Rattle.graph.specs.Members.{keep_in, one_with}
use Rattle.laws.specs.Lists.Lookup.{rule_target}
use Rattle.laws.specs.Planning.Substituted.{Known}
use Rattle.laws.specs.Planning.Steps.{Stepped, stepped}
use Rattle.laws.specs.Planning.Chain.{StepTo, Chain, still, onward, step_at}

-- A rule with such an alternative.
pub record StartsItself (d : ℕ) (r : RuleOf (Block (suc d))) : Type 0 where
  pub alternative : AlternativeOf (Block d)
  pub is_alternative : Memᴰ alternative r.body
  pub head : ElementHead
  pub site : Call
  pub rest : List (Element (Block d))
  pub starts : alternative.elements ≡ leaf head (call site) ∷ rest
  pub called : site.name ≡ r.name
  pub plain : head.quantifier ≡ once

-- The call in front is one and the same, wherever it is found.
same_call : {B : Type 0} (front front' rest rest' : List (Element B)) (h h' : ElementHead) (c c' : Call)
    → AllOf (λ e. is_epsilon_only e ≡ true) front
    → AllOf (λ e. is_epsilon_only e ≡ true) front' → front ++ (leaf h (call c) ∷ rest) ≡ front' ++ (leaf h' (call c') ∷ rest')
    → (h ≡ h') × (c ≡ c')
unfolding is_epsilon_only sort_of
same_call [] [] rest rest' h h' c c' s s' e = (cc, cc)
same_call [] (f ∷ front') rest rest' h h' c c' s s' e =
    let p : f ≡ leaf h (call c) = cc in absurd (false≢true (sym (ap is_epsilon_only p) ∙ s'.0))
same_call (f ∷ front) [] rest rest' h h' c c' s s' e =
    let p : f ≡ leaf h' (call c') = cc in absurd (false≢true (sym (ap is_epsilon_only p) ∙ s.0))
same_call (f ∷ front) (f' ∷ front') rest rest' h h' c c' s s' e =
    let p : front ++ (leaf h (call c) ∷ rest) ≡ front' ++ (leaf h' (call c') ∷ rest') = cc in
    same_call front front' rest rest' h h' c c' s.1 s'.1 p

-- Each of the satellite's alternatives comes.
spliced_of : {d : ℕ} {p : Planned d} {front rest : Elements d} {as' : List (AlternativeOf (Block d))} {qs : List (Planned d)}
    → Spliced d p front rest as' qs
    → {a : AlternativeOf (Block d)} → Memᴰ a as' → (q : Planned d) × Memᴰ q qs × (q.elements ≡ front ++ (a.elements ++ rest))
spliced_of spliced_none m = absurd (Memᴰ.not-nil m)
spliced_of {front = front} {rest = rest} (spliced_one o s) (Memᴰ.head e) =
    (_, Memᴰ.head refl, ap (λ a. front ++ (a.elements ++ rest)) (sym e))
spliced_of (spliced_one o s) (Memᴰ.tail m) = let (q, n, e) = spliced_of s m in (q, Memᴰ.tail n, e)

module _ {d : ℕ} {rs : List (RuleOf (Block (suc d)))} {g : Grammar} (k : Known (suc d) rs g) (cycle : List ℕ) (hub : ℕ) where
  -- An alternative of a planned list calls a rule plainly in front.
  record Stuck (r : RuleOf (Block (suc d))) (ps : List (Planned d)) : Type 0 where
    pub alternative : Planned d
    pub there : Memᴰ alternative ps
    pub index : ℕ
    pub corner : CornerAt g cycle alternative.elements index r.id
    pub plain : corner.head.quantifier ≡ once

  module _ {r : RuleOf (Block (suc d))} (i : Memᴰ r rs) (self : StartsItself d r) where
    -- What takes its place has such a one again.
    stuck_made : {p : Planned d} {made : List (Planned d)} → MadeFrom d rs g cycle hub p made
        → {j : ℕ} (x : CornerAt g cycle p.elements j r.id) → x.head.quantifier ≡ once
        → Stuck r made
    stuck_made (split y q) x z =
        let (e, _) =
        same_call x.front y.front x.rest y.rest x.head y.head x.site y.site x.silent y.silent
        (x.whole ∙ sym y.whole) in
        let n : ◌≡◌ {A = ℕ} 0 1 = sym z ∙ ap (λ h. h.quantifier) e ∙ q in
        absurd (omega arith)
    stuck_made {p} {made} (splice {t = t} y q ne r' m id s) x z =
        found (subst (λ u. Spliced d p y.front y.rest u.body made) same s)
      where
        same : r' ≡ r
        same =
            let (_, e) =
            same_call x.front y.front x.rest y.rest x.head y.head x.site y.site x.silent y.silent
            (x.whole ∙ sym y.whole) in
            one_with (λ r. r.id) rs k.ids m i
            (id ∙ some-injective t r.id (sym y.known ∙ ap (λ c. target g c.name) (sym e) ∙ x.known))

        found : Spliced d p y.front y.rest r.body made → Stuck r made
        found s =
            let (q, n, w) = spliced_of s self.is_alternative in
            record {
              alternative = q;
              there = n;
              index = length y.front;
              corner = record {
                front = y.front;
                head = self.head;
                site = self.site;
                rest = self.rest ++ y.rest;
                whole = sym (w ∙ ap (λ l. y.front ++ (l ++ y.rest)) self.starts);
                place = refl;
                silent = y.silent;
                known = ap (target g) self.called ∙ rule_target rs g k.named k.names i;
                in_cycle = x.in_cycle;
              };
              plain = self.plain;
            }

    stuck_in : {ps qs : List (Planned d)} → ((p : Planned d) → Memᴰ p ps → Memᴰ p qs) → Stuck r ps → Stuck r qs
    stuck_in h s = record {
      alternative = s.alternative;
      there = h s.alternative s.there;
      index = s.index;
      corner = s.corner;
      plain = s.plain;
    }

    stuck_step : {ps qs : List (Planned d)} → Stepped d rs g cycle hub ps qs → Stuck r ps → Stuck r qs
    stuck_step {ps} {qs} t s =
        subst (Stuck r) t.result
        (⊎_elim
        (λ m. at (Memᴰ.append_left (t.made ++ t.rest) m))
        (λ m.
        ⊎_elim
        (λ e.
        stuck_in (λ p n. Memᴰ.append_right t.front (Memᴰ.append_left t.rest n))
        (stuck_made (subst (λ p. MadeFrom d rs g cycle hub p t.made) (sym e) t.is_made) s.corner s.plain))
        (λ n. at (Memᴰ.append_right t.front (Memᴰ.append_right t.made n)))
        (Memᴰ.cases_cons m))
        (Memᴰ.append_cases t.front (subst (Memᴰ s.alternative) (sym t.whole) s.there)))
      where
        at : Memᴰ s.alternative (t.front ++ (t.made ++ t.rest)) → Stuck r (t.front ++ (t.made ++ t.rest))
        at m = record { alternative = s.alternative; there = m; index = s.index; corner = s.corner; plain = s.plain }

    stuck_end : {limits : Limits} {n : ℕ} {ps qs : List (Planned d)} → Steps limits d rs g cycle hub n ps qs → Stuck r ps → Stuck r qs
    stuck_end no_steps_left s = s
    stuck_end (one_more {ps = ps} {qs = qs} e w t) s = stuck_end t (stuck_step (stepped d rs g cycle hub ps qs e) s)

    stuck_never : {ps : List (Planned d)} → (r.id ≡ hub → ⊥) → NoWork d rs g cycle hub ps → Stuck r ps → ⊥
    stuck_never ne h s = h s.alternative s.there (record {
      index = s.index;
      rule = r.id;
      corner = s.corner;
      unsettled = λ e _. ne e;
    })

  -- So the steps of a plan splice none of the rules that start with themselves.
  module _ (done : List ℕ) (selves : (r : RuleOf (Block (suc d))) → Memᴰ r rs → member r.id done ≡ true
      → StartsItself d r × (r.id ≡ hub → ⊥)) where
    abbrev pub others : List (RuleOf (Block (suc d)))
    others = keep (λ r. not (member r.id done)) rs

    among : {limits : Limits} {n : ℕ} {ps qs : List (Planned d)} → Steps limits d rs g cycle hub n ps qs → NoWork d rs g cycle hub qs
        → {p : Planned d} {made : List (Planned d)} → Memᴰ p ps → MadeFrom d rs g cycle hub p made
        → MadeFrom d others g cycle hub p made
    among t h m (split x q) = split x q
    among t h {p} m (splice {i = j} x q ne r i e s) =
        either (member r.id done)
        (λ y.
        let (self, away) = selves r i y in
        absurd
        (stuck_never i self away h
        (stuck_end i self t (record {
          alternative = p;
          there = m;
          index = j;
          corner = subst (CornerAt g cycle p.elements j) (sym e) x;
          plain = q;
        }))))
        (λ n. splice x q ne r (keep_in (λ r. not (member r.id done)) i (ap not n)) e s)

    pub steps_among : {limits : Limits} {n : ℕ} {ps qs : List (Planned d)} → Steps limits d rs g cycle hub n ps qs
        → NoWork d rs g cycle hub qs → Chain d others ps qs
    steps_among no_steps_left h = still
    steps_among (one_more {ps = ps} {qs = qs} e w t) h =
        let s = stepped d rs g cycle hub ps qs e in
        let slot : Memᴰ s.slot ps =
        subst (Memᴰ s.slot) s.whole (Memᴰ.append_right s.front (Memᴰ.head refl)) in
        onward (subst₂ (StepTo d others) s.whole s.result
        (step_at d others g cycle hub s.front s.rest (among (one_more e w t) h slot s.is_made))) (steps_among t h)
