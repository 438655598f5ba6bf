-- What is left of "no later cycle" by the textbook's left corners in a run by the Rust's: a left corner of the textbook's is one
-- of the Rust's, or a symbol with quantifier 1 to 4 stands in front of it; so a circle of the textbook's alone has such a corner.
use Rattle.std.specs.Prelude.{ℕ, ◌≡◌, refl, ◌⊎◌, true}
use Rattle.std.proofs.Common.{sym, ap, ◌∙◌, subst, subst₂, inl, inr, ⊎_elim}
use mathlib.Core.List.{List, ◌∷◌, ◌++◌, Memᴰ}
use Rattle.grammar.specs.Lists.{member}
use Rattle.grammar.specs.Tree.{Alternative, Rule, body_depth, Sheet}
use Rattle.grammar.specs.Corners.{rust, textbook}
use Rattle.language.specs.Shape.{Shapes, erase_rules}
use Rattle.language.specs.Derive.{RuleCanBeEmpty}
use Rattle.language.specs.LeftCorners.{Corner, Leads, Reaches, r_last, r_more}
use Rattle.language.specs.Cycles.{LeftCorner, RuleReaches}
use Rattle.language.specs.Laws.Corner.{reaches_trans}
use Rattle.language.specs.Laws.Rules.{found_rule}
use Rattle.reference.specs.Analysis.{grammar_of, left_corner_cycles}
use Rattle.reference.specs.Substitute.{Limits}
use Rattle.reference.specs.Run.{inner_depth, Stage, ended, eliminate_mutual_left_recursion}
use Rattle.laws.specs.Demands.Shape.{PastSymbol, LedPastSymbol, LaterPastSymbols}
use Rattle.laws.specs.Demands.Run.{rules_of}
use Rattle.graph.specs.Members.{one_with}
use Rattle.laws.specs.Analysis.Textbook.{textbook_corner}
use Rattle.laws.specs.Analysis.Cycles.{reaches_found, cycles_exact}
use Rattle.laws.specs.BothReadings.Readings.{found_or_past, one_of}
use Rattle.laws.specs.Running.Leaves.{Told}
use Rattle.laws.specs.Running.Stages.{Happened, Chain, chain_front}
use Rattle.laws.specs.Running.Later.{body_corner, another, later, onward, hub_later, no_circle}
use Rattle.laws.specs.Proved.Demand3.{at, rules_behind}

module _ (rules : List Rule) where
  abbrev G : Shapes
  G = erase_rules body_depth rules

  -- A left corner of a rule's with such a symbol in front of it.
  record Past (n m : ℕ) : Type 0 where
    pub source : Rule
    pub there : Memᴰ source rules
    pub name : source.name ≡ n
    pub alternative : Alternative
    pub is_alternative : Memᴰ alternative source.body
    pub corner : LeftCorner G inner_depth alternative.elements m
    pub past : PastSymbol corner

  leads_either : {n m : ℕ} → Leads textbook G n m → Leads rust G n m ⊎ Past n m
  leads_either {n} {m} l =
      let (q, i, e, b) = found_rule body_depth (λ r. r.name) rules n l.found in
      let (a, j, k) = body_corner inner_depth q.body (subst (λ s. Corner textbook G s m) (sym b) l.corner) in
      let c = (textbook_corner G inner_depth a.elements m).0 k in
      ⊎_elim
      (λ r. inl (record { body = l.body; found = l.found; corner = subst (λ s. Corner rust G s m) b (one_of G inner_depth j r) }))
      (λ p. inr (record { source = q; there = i; name = e; alternative = a; is_alternative = j; corner = c; past = p }))
      (found_or_past G c)

  -- Such a corner on the way from one name to another.
  record PastOn (n m : ℕ) : Type 0 where
    pub x : ℕ
    pub y : ℕ
    pub past : Past x y
    pub step : Leads textbook G x y
    pub to : (n ≡ x) ⊎ Reaches textbook G n x
    pub onward : (y ≡ m) ⊎ Reaches textbook G y m

  reaches_either : {n m : ℕ} → Reaches textbook G n m → Reaches rust G n m ⊎ PastOn n m
  reaches_either {n} {m} (r_last l) =
      ⊎_elim (λ k. inl (r_last k)) (λ p. inr (record {
        x = n;
        y = m;
        past = p;
        step = l;
        to = inl refl;
        onward = inl refl;
      })) (leads_either l)
  reaches_either {n} {m} (r_more {m = k} l r) =
      ⊎_elim
      (λ a.
      ⊎_elim (λ b. inl (r_more a b))
      (λ p. inr (record { x = p.x; y = p.y; past = p.past; step = p.step; to = inr (behind p.to); onward = p.onward }))
      (reaches_either r))
      (λ p. inr (record { x = n; y = k; past = p; step = l; to = inl refl; onward = inr r }))
      (leads_either l)
    where
      behind : {x : ℕ} → (k ≡ x) ⊎ Reaches textbook G k x → Reaches textbook G n x
      behind (inl e) = subst (Reaches textbook G n) e (r_last l)
      behind (inr s) = r_more l s

  module _ (told : Told rules) (cycle : List ℕ)
      (m : Memᴰ cycle (left_corner_cycles textbook (grammar_of body_depth rules) body_depth rules)) where
    -- On a circle of rules of the cycle.
    led : (u : Rule) → Memᴰ u rules → member u.id cycle ≡ true → {n : ℕ} → PastOn u.name n → Reaches textbook G n u.name
        → LedPastSymbol rules cycle
    led u i k {n} p back =
        let e = p.past in
        let behind : Reaches textbook G p.y u.name =
        ⊎_elim (λ w. subst (λ z. Reaches textbook G z u.name) (sym w) back) (λ r. reaches_trans r back) p.onward in
        let from : Reaches textbook G p.x u.name = r_more p.step behind in
        let to : Reaches textbook G u.name p.x =
        ⊎_elim (λ w. subst (Reaches textbook G u.name) w (subst (λ z. Reaches textbook G z u.name) (sym w) from)) (λ r. r)
        p.to in
        let (b, f) = reaches_found behind in
        let (q, j, w, _) = found_rule body_depth (λ r. r.name) rules p.y f in
        let there : (k : LeftCorner G inner_depth e.alternative.elements q.name) × PastSymbol k =
        subst (λ n. (k : LeftCorner G inner_depth e.alternative.elements n) × PastSymbol k) (sym w) (e.corner, e.past) in
        record {
          source = e.source;
          source_there = e.there;
          source_in =
              within e.source e.there (subst (Reaches textbook G u.name) (sym e.name) to)
              (subst (λ z. Reaches textbook G z u.name) (sym e.name) from);
          goal = q;
          goal_there = j;
          goal_in =
              within q j (subst (Reaches textbook G u.name) (sym w) (reaches_trans to (r_last p.step)))
              (subst (λ z. Reaches textbook G z u.name) (sym w) behind);
          alternative = e.alternative;
          is_alternative = e.is_alternative;
          corner = there.0;
          past = there.1;
        }
      where
        within : (q : Rule) → Memᴰ q rules → Reaches textbook G u.name q.name → Reaches textbook G q.name u.name
            → member q.id cycle ≡ true
        within q j a b =
            let cyc = (cycles_exact textbook body_depth rules told.ids told.names cycle).0 m in
            cyc.largest u.id q.id k
            (record { source = u; source_stands = i; source_id = refl; goal = q; goal_stands = j; goal_id = refl; path = a })
            (record { source = q; source_stands = j; source_id = refl; goal = u; goal_stands = i; goal_id = refl; path = b })

-- Of the rule joined by a stage, in every later grammar.
module _ (limits : Limits) (preserved : List ℕ) {t : Stage} (told : Told t.before) (h : Happened limits rust preserved t)
    {ts : List Stage}
    (c : Chain limits rust preserved t.after.node ts) where
  abbrev rest : List Rule
  rest = later limits rust preserved told h c

  pub later_past : LaterPastSymbols t rest
  later_past = record { led = found }
    where
      found : (RuleCanBeEmpty body_depth t.after.node t.plan.hub → ⊥) → (cycle : List ℕ)
          → Memᴰ cycle (left_corner_cycles textbook (grammar_of body_depth rest) body_depth rest) → member t.plan.hub cycle ≡ true
          → LedPastSymbol rest cycle
      found full cycle m y =
          let known = (onward limits rust preserved told h c).told in
          let cyc = (cycles_exact textbook body_depth rest known.ids known.names cycle).0 m in
          let (j, i, ne) = another t.plan.hub cycle cyc.several cyc.rises in
          let a = cyc.joined t.plan.hub j y i in
          let b = cyc.joined j t.plan.hub i y in
          let same = one_with (λ r. r.id) rest known.ids b.source_stands a.goal_stands (b.source_id ∙ sym a.goal_id) in
          let home = one_with (λ r. r.id) rest known.ids b.goal_stands a.source_stands (b.goal_id ∙ sym a.source_id) in
          let back : Reaches textbook (erase_rules body_depth rest) a.goal.name a.source.name = subst₂
          (λ (u v : Rule). Reaches textbook (erase_rules body_depth rest) u.name v.name) same home b.path in
          let hub : member a.source.id cycle ≡ true = subst (λ i. member i cycle ≡ true) (sym a.source_id) y in
          let other : member a.goal.id cycle ≡ true = subst (λ i. member i cycle ≡ true) (sym a.goal_id) i in
          ⊎_elim
          (λ p.
          ⊎_elim
          (λ q. absurd (ne (alone full a p q)))
          (λ q. led rest known cycle m a.goal a.goal_stands other q a.path)
          (reaches_either rest back))
          (λ p. led rest known cycle m a.source a.source_stands hub p back)
          (reaches_either rest a.path)
        where
          alone : (RuleCanBeEmpty body_depth t.after.node t.plan.hub → ⊥)
              → {j : ℕ} (a : RuleReaches textbook body_depth rest t.plan.hub j)
              → Reaches rust (erase_rules body_depth rest) a.source.name a.goal.name
              → Reaches rust (erase_rules body_depth rest) a.goal.name a.source.name → j ≡ t.plan.hub
          alone full a p q =
              let known = (onward limits rust preserved told h c).told in
              let e = hub_later limits rust preserved told h c a.source a.source_stands a.source_id in
              let same =
              no_circle limits rust preserved told h c full
              (subst (λ n. Reaches rust (erase_rules body_depth rest) n a.goal.name) e p)
              (subst (Reaches rust (erase_rules body_depth rest) a.goal.name) e q) in
              let one = one_with (λ r. r.name) rest known.names a.source_stands a.goal_stands (e ∙ sym same) in
              sym a.goal_id ∙ ap (λ r. r.id) (sym one) ∙ a.source_id

-- Of a run.
pub later_rust_lem : (limits : Limits) (s : Sheet) → Told s.rules → (ts : List Stage)
    → eliminate_mutual_left_recursion limits rust s ≡ ended ts
    → (front : List Stage) (t : Stage) (middle rest : List Stage) → front ++ (t ∷ (middle ++ rest)) ≡ ts
    → LaterPastSymbols t (rules_of s (front ++ (t ∷ middle)))
later_rust_lem limits s told ts run front t middle rest w =
    let a = at limits rust s told ts run front t (middle ++ rest) w in
    subst (LaterPastSymbols t) (rules_behind limits rust s told ts run front t middle)
    (later_past limits s.preserved a.known a.happened (chain_front limits rust s.preserved middle rest a.onward))
