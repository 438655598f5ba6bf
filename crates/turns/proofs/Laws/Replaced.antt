-- What takes the place of an alternative, by its corner, on what a substitution rests on.
use Prim.Native.Nat.{ℕ, suc, ◌<◌}
use mathlib.Core.Path.{◌≡◌, refl, sym, ap, ◌∙◌, subst}
use mathlib.Core.List.{List, [], ◌∷◌}
use mathlib.Core.Option.{Option, none, some}
use mathlib.Core.Bool.{Bool, true, false, ◌&&◌}
use native.Mathlib.Omega.{arith}
use lib.ListN.{get_or}
use lib.Dec.{eqb}
use Rattle.grammar.specs.Form.{newest}
use Rattle.grammar.specs.Numbers.{optional_greedy}
use Rattle.grammar.specs.Tree.{ElementHead, Call, epsilon, action, predicate, call, token, terminal, end_of_input, Element, leaf, block}
use Rattle.grammar.specs.Tree.{Block, RuleOf, inner_depth, body_depth}
use Rattle.grammar.specs.Lists.{member}
use Rattle.grammar.specs.Parse.{got}
use Rattle.grammar.specs.Read.{block_at}
use Rattle.grammar.specs.Encode.{encode_block}
use Rattle.grammar.specs.Valid.{ok_block}
use Rattle.grammar.specs.Found.{RuleSpans}
use Rattle.grammar.specs.Laws.Complete.{rule_complete, block_complete}
use Rattle.reference.specs.Analysis.{Grammar, target, rule_with_id}
use Rattle.reference.specs.Walks.{sort_of, is_one, bare_reference}
use Rattle.reference.specs.Substitute.{PlannedCorner, optional, satellite, blocked, settled, further, member_corner, planned_corner}
use Rattle.reference.specs.Substitute.{declined, blocked_corner, replacement, Planned, Limits}
use Rattle.analysis.specs.Facts.{Among}
use Rattle.analysis.proofs.Laws.Standing.{rule_of, rule_spans}
use Rattle.hub.specs.Grounds.{rules_of}
use Rattle.hub.proofs.Laws.Grounds.{with_id}
use Rattle.planned.specs.Layout.{meaning}
use Rattle.planned.specs.declared.list.Listed.{Listed}
use Rattle.steps.specs.Corner.{CornerAt, corner_by}
use Rattle.steps.specs.Step.{CallIn, step_by}
use Rattle.steps.specs.Step.{step_by}
use Rattle.turns.specs.Ground.{Ground, task_of}
use Rattle.turns.specs.Turns.{Task, Replaced, IsSettled}
use Rattle.steps.specs.declared.cycle.Cycle.{Cycle}
use Rattle.steps.specs.declared.corner.Place.{Place}
use Rattle.steps.specs.declared.corner.Corner.{Corner}
use Rattle.steps.specs.declared.corner.Corner.TheVariants as C
use Rattle.turns.proofs.Laws.Ground.{cycle_by}
use Rattle.turns.proofs.Laws.Told.{grammar_told, cycle_told}

-- By the definition's corner.
module _ {d : ℕ} (t : Task d) (p : Planned d) where
  abbrev corner_of : PlannedCorner
  corner_of = planned_corner t.grammar t.cycle t.hub p.elements

  replaced_settled : corner_of ≡ settled → IsSettled t p
  unfolding replacement
  replaced_settled e = record { none = rw e refl }

  replaced_blocked : corner_of ≡ blocked → Replaced t p (declined blocked_corner)
  unfolding replacement
  replaced_blocked e = record { is = rw e refl }

  module _ {i n : ℕ} {r : RuleOf (Block (suc d))} (f : rule_with_id t.rules n ≡ some r) where
    replaced_optional : corner_of ≡ optional i n → Replaced t p (step_by d p i r true)
    unfolding replacement
    replaced_optional e = record { is = rw (e, replacement, f) refl }

    replaced_satellite : corner_of ≡ satellite i n → Replaced t p (step_by d p i r false)
    unfolding replacement
    replaced_satellite e = record { is = rw (e, replacement, f) refl }

behind : {B : Type 0} (x : Element B) (es : List (Element B)) (k : PlannedCorner) {i t : ℕ} → further k ≡ optional i t
    → ((j : ℕ) → k ≡ optional j t → CallIn es j)
    → CallIn (x ∷ es) i
unfolding further
behind x es (optional j n) {i} {t} e f =
    let same : n ≡ t = cc in
    let next : suc j ≡ i = cc in
    let c = f j (ap (optional j) same) in
    subst (CallIn (x ∷ es)) next (record { head = c.head; called = c.called; rest = c.rest; is = c.is })
behind x es (satellite j n) e f = absurd (let z : ◌≡◌ {A = ℕ} 0 1 = cc in omega arith)
behind x es blocked e f = absurd (let z : ◌≡◌ {A = ℕ} 0 1 = cc in omega arith)
behind x es settled e f = absurd (let z : ◌≡◌ {A = ℕ} 0 1 = cc in omega arith)

-- A call decides at once.
at_once : (hub : ℕ) (h : ElementHead) (c : Call) (n : ℕ) {i t : ℕ} → member_corner hub h c n ≡ optional i t → i ≡ 0
unfolding member_corner
at_once hub h c n {i} {t} = go (eqb h.quantifier optional_greedy && bare_reference h c) (eqb n hub && is_one h) (is_one h && bare_reference h c)
  where
    go : (x y z : Bool)
        → (elim x as (λ u. PlannedCorner) [
          | true ↦ optional 0 n
          | false ↦
              elim y as (λ u. PlannedCorner) [
                | true ↦ settled
                | false ↦ elim z as (λ u. PlannedCorner) [ true ↦ satellite 0 n | false ↦ blocked ]
              ]
        ])
        ≡ optional i t
        → i ≡ 0
    go true y z e = cc
    go false true z e = absurd (let w : ◌≡◌ {A = ℕ} 0 1 = cc in omega arith)
    go false false true e = absurd (let w : ◌≡◌ {A = ℕ} 0 1 = cc in omega arith)
    go false false false e = absurd (let w : ◌≡◌ {A = ℕ} 0 1 = cc in omega arith)

module _ (g : Grammar) (cycle : List ℕ) (hub : ℕ) where
  by_call : (h : ElementHead) (c : Call) {i t : ℕ} (o : Option ℕ)
      → (elim o as (λ z. PlannedCorner) [
        | none ↦ settled
        | some n ↦ elim (member n cycle) as (λ z. PlannedCorner) [ true ↦ member_corner hub h c n | false ↦ settled ]
      ])
      ≡ optional i t
      → i ≡ 0
  by_call h c none e = absurd (let z : ◌≡◌ {A = ℕ} 0 1 = cc in omega arith)
  by_call h c {i} {t} (some n) e = go (member n cycle) e
    where
      go : (b : Bool) → (elim b as (λ z. PlannedCorner) [ true ↦ member_corner hub h c n | false ↦ settled ]) ≡ optional i t → i ≡ 0
      go true e = at_once hub h c n e
      go false e = absurd (let z : ◌≡◌ {A = ℕ} 0 1 = cc in omega arith)

  corner_call : {B : Type 0} (es : List (Element B)) {i t : ℕ} → planned_corner g cycle hub es ≡ optional i t → CallIn es i
  unfolding planned_corner sort_of
  corner_call [] e = absurd (let z : ◌≡◌ {A = ℕ} 0 1 = cc in omega arith)
  corner_call (block h b ∷ es) e = absurd (let z : ◌≡◌ {A = ℕ} 0 1 = cc in omega arith)
  corner_call (leaf h epsilon ∷ es) e = behind (leaf h epsilon) es (planned_corner g cycle hub es) e (λ j f. corner_call es f)
  corner_call (leaf h (action a) ∷ es) e = behind (leaf h (action a)) es (planned_corner g cycle hub es) e (λ j f. corner_call es f)
  corner_call (leaf h (predicate a) ∷ es) e = behind (leaf h (predicate a)) es (planned_corner g cycle hub es) e (λ j f. corner_call es f)
  corner_call (leaf h (call c) ∷ es) e =
      subst (CallIn (leaf h (call c) ∷ es)) (sym (by_call h c (target g c.name) e))
      (record { head = h; called = c; rest = es; is = refl })
  corner_call (leaf h (token n) ∷ es) e = absurd (let z : ◌≡◌ {A = ℕ} 0 1 = cc in omega arith)
  corner_call (leaf h terminal ∷ es) e = absurd (let z : ◌≡◌ {A = ℕ} 0 1 = cc in omega arith)
  corner_call (leaf h end_of_input ∷ es) e = absurd (let z : ◌≡◌ {A = ℕ} 0 1 = cc in omega arith)

-- By places.
module _ {ws : List ℕ} {end : ℕ} {names places : List ℕ} {c : Cycle} (b : Ground ws end names places c) (limits : Limits)
    {bs : List ℕ} {x : Listed} where
  corner_is : {r : Corner} → CornerAt names c ws end inner_depth bs x r
      → planned_corner (task_of b limits).grammar b.cycle (get_or b.rules.ids c.hub 0) (meaning ws end inner_depth bs x).elements
      ≡ corner_by b.rules.ids r
  corner_is k = k.is (task_of b limits).grammar b.cycle b.rules.ids (cycle_by b limits)

  pub settled_corner : CornerAt names c ws end inner_depth bs x C.Settled → IsSettled (task_of b limits) (meaning ws end inner_depth bs x)
  settled_corner k = replaced_settled (task_of b limits) (meaning ws end inner_depth bs x) (corner_is k)

  pub blocked_corner_lem : CornerAt names c ws end inner_depth bs x C.Blocked
      → Replaced (task_of b limits) (meaning ws end inner_depth bs x) (declined blocked_corner)
  blocked_corner_lem k = replaced_blocked (task_of b limits) (meaning ws end inner_depth bs x) (corner_is k)

  module _ {p : Place} (a : Among (rules_of ws end b.rules b.standing) p.target) where
    pub optional_corner : CornerAt names c ws end inner_depth bs x (C.Optional p)
        → Replaced (task_of b limits) (meaning ws end inner_depth bs x) (step_by inner_depth (meaning ws end inner_depth bs x) p.index a.rule true)
    optional_corner k = replaced_optional (task_of b limits) (meaning ws end inner_depth bs x) (with_id b.standing a) (corner_is k)

    pub satellite_corner : CornerAt names c ws end inner_depth bs x (C.Satellite p)
        → Replaced (task_of b limits) (meaning ws end inner_depth bs x) (step_by inner_depth (meaning ws end inner_depth bs x) p.index a.rule false)
    satellite_corner k = replaced_satellite (task_of b limits) (meaning ws end inner_depth bs x) (with_id b.standing a) (corner_is k)

-- The element that is split is a call.
pub call_in : {ws : List ℕ} {end : ℕ} {c : Cycle} {bs : List ℕ} {x : Listed} {p : Place} → c.hub < c.names.n
    → CornerAt c.names.list.now c ws end inner_depth bs x (C.Optional p) → CallIn (meaning ws end inner_depth bs x).elements p.index
call_in {ws} {end} {c} {bs} {x} h k =
    corner_call (grammar_told c) _ _ (meaning ws end inner_depth bs x).elements (k.is (grammar_told c) _ _ (cycle_told c h))

-- One tree stands at a place.
one_tree : (ws : List ℕ) (end d : ℕ) {at p q : ℕ} {r t : RuleOf (Block d)} → RuleSpans ws end d at r p → RuleSpans ws end d at t q → r ≡ t
one_tree ws end d {at} {p} {q} {r} {t} s u =
    let e = rule_complete newest ws end (block_at ws end d) (encode_block d) (ok_block d) (block_complete newest ws end d) at r p s in
    let f = rule_complete newest ws end (block_at ws end d) (encode_block d) (ok_block d) (block_complete newest ws end d) at t q u in
    let g : got r p ≡ got t q = sym e ∙ f in
    cc

-- The rule at a member's place.
module _ {ws : List ℕ} {end : ℕ} {names places : List ℕ} {c : Cycle} (b : Ground ws end names places c) {i at : ℕ}
    (l : i < c.names.n) (e : at ≡ get_or places i 0) where
  place : at ≡ get_or b.rules.places i 0
  place = e ∙ ap (λ ps. get_or ps i 0) (sym b.placed)

  pub target_among : Among (rules_of ws end b.rules b.standing) i
  target_among = rule_of b.standing.rows i (let z = b.count in omega arith)

  -- Whatever stands there is the rule of that place.
  pub target_tree : (a : Among (rules_of ws end b.rules b.standing) i) {t : RuleOf (Block body_depth)} {q : ℕ}
      → RuleSpans ws end body_depth at t q → a.rule ≡ t
  target_tree a {t} {q} s =
      one_tree ws end body_depth (rule_spans b.standing.rows a).1 (subst (λ z. RuleSpans ws end body_depth z t q) place s)

  pub target_spans : (a : Among (rules_of ws end b.rules b.standing) i) → (q : ℕ) × RuleSpans ws end body_depth at a.rule q
  target_spans a = let s = rule_spans b.standing.rows a in (s.0, subst (λ z. RuleSpans ws end body_depth z a.rule s.0) (sym place) s.1)
