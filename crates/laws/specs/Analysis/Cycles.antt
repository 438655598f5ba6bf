-- Cycles: what the definition lists are those of SPECIFICATION 6.7, by paths of left corners.
use Rattle.std.specs.Prelude.{ℕ, ◌≤◌, ◌≡◌, refl, ◌↔◌, true, length}
use Rattle.std.proofs.Math.Path.{sym, subst}
use Rattle.std.proofs.Common.{ap, ◌∙◌, ⊎_elim, arith, eqb-true, eq-eqb}
use mathlib.Core.List.Memᴰ
use mathlib.Core.List.{List, [], ◌∷◌, map, Memᴰ, Sublistᴰ}
use Rattle.std.proofs.Math.Option.{some, some-injective}
use Rattle.std.proofs.lemmas.Bool.{false≢true}
use Rattle.grammar.specs.Laws.Lists.{in_member, member_in, in_map}
use Rattle.grammar.specs.Tree.{Block, RuleOf}
use Rattle.grammar.specs.Lists.{member, distinct, rising, sorted}
use Rattle.language.specs.Shape.{Shape, Shapes, find, erase_block, erase_rules}
use Rattle.grammar.specs.Corners.{Corners}
use Rattle.language.specs.LeftCorners.{Corner, Leads, Reaches, r_last, r_more}
use Rattle.grammar.specs.Laws.Parse.{either}
use Rattle.language.specs.Laws.Rules.{rule_found, found_rule}
use Rattle.language.specs.Cycles.{CornerRule, RuleReaches, IsLargest}
use Rattle.reference.specs.Analysis.{Row, row_ids, ids_of, grammar_of, block_corners, reach, component, is_cycle, cycles_from, row_of}
use Rattle.reference.specs.Analysis.{left_corner_cycles}
use Rattle.laws.specs.Demands.Analysis.{least}
use Rattle.graph.specs.Members.{one_with}
use Rattle.graph.specs.Order.{distinct_of, part_rising, rising_true, true_rising, sorted_in, sorted_rising, rising_same}
use Rattle.laws.specs.Analysis.LeftCorners.{block_corners_lem}
use Rattle.graph.specs.Reach.{Edge, Way, way_way}
use Rattle.graph.specs.Cycles.{in_cycles, cycles_in, several_of, component_ways, ways_component, component_rises, component_both}
use Rattle.graph.specs.Cycles.{row_ids_lem}

-- Every edge leads to a row.
abbrev Closed : List Row → Type 0
Closed rows = (i j : ℕ) → Edge rows i j → Memᴰ j (row_ids rows)

-- Every way leads to a row.
way_row : {rows : List Row} → Closed rows → {i j : ℕ} → Way rows i j → Memᴰ j (row_ids rows)
way_row h {i} {j} (Way.last e) = h i j e
way_row h (Way.more e w) = way_row h w

module _ (rows : List Row) where
  first_is : (i : ℕ) (c : List ℕ) → is_cycle i c ≡ true → least c ≡ i
  unfolding is_cycle
  first_is i [] t = absurd (false≢true t)
  first_is i (x ∷ []) t = absurd (false≢true t)
  first_is i (x ∷ y ∷ ys) t = sym (eqb-true i x t)

  least_part : (is : List ℕ) → Sublistᴰ (map least (cycles_from rows is)) is
  unfolding cycles_from
  least_part [] = Sublistᴰ.slnil
  least_part (i ∷ is) =
      either (is_cycle i (component rows i))
      (λ t. rw t (Sublistᴰ.cons-cons (first_is i (component rows i) t) (least_part is)))
      (λ f. rw f (Sublistᴰ.cons (least_part is)))

cycle_of : (i : ℕ) (c : List ℕ) → 2 ≤ length c → least c ≡ i → is_cycle i c ≡ true
unfolding is_cycle
cycle_of i [] l e = absurd (omega arith)
cycle_of i (x ∷ []) l e = absurd (omega arith)
cycle_of i (x ∷ y ∷ ys) l e = eq-eqb i x (sym e)

pub least_in : (c : List ℕ) → 2 ≤ length c → Memᴰ (least c) c
least_in [] l = absurd (omega arith)
least_in (x ∷ xs) l = Memᴰ.head refl

pub reaches_found : {c : Corners} {G : Shapes} {n m : ℕ} → Reaches c G n m → (b : Shape) × (find G n ≡ some b)
reaches_found (r_last l) = (l.body, l.found)
reaches_found (r_more l p) = (l.body, l.found)

module _ (c : Corners) (d : ℕ) (rs : List (RuleOf (Block d))) (ids : distinct (map (λ r. r.id) rs) ≡ true)
    (names : distinct (map (λ r. r.name) rs) ≡ true) where
  abbrev row : RuleOf (Block d) → Row
  row = row_of c (grammar_of d rs) d

  abbrev rows : List Row
  rows = map row rs

  -- An edge is a left corner.
  edge_corner : {i j : ℕ} → Edge rows i j → (r : RuleOf (Block d)) × Memᴰ r rs × (r.id ≡ i)
      × CornerRule c d rs (erase_block d r.body) j
  edge_corner {i} {j} e =
      let (r, m, q) = Memᴰ.of_map row rs e.there in
      let l : Memᴰ j (block_corners c (grammar_of d rs) d r.body) = subst (λ x. Memᴰ j x.to) (sym q) e.leads in
      (r, m, ap (λ x. x.id) q ∙ e.from, (block_corners_lem c d rs ids names d r.body j).0 (in_member l))

  corner_edge : {r q : RuleOf (Block d)} → Memᴰ r rs → Memᴰ q rs → Corner c (erase_rules d rs) (erase_block d r.body) q.name
      → Edge rows r.id q.id
  corner_edge {r} {q} m n k =
      record {
        row = row r;
        there = in_map row m;
        from = refl;
        leads = member_in _ ((block_corners_lem c d rs ids names d r.body q.id).1 (record { rule = q; there = n; id = refl; corner = k }));
      }

  closed : Closed rows
  closed i j e =
      let (r, m, q, k) = edge_corner e in
      subst (λ x. Memᴰ x (row_ids rows)) k.id
      (subst (Memᴰ k.rule.id) (sym (row_ids_lem c (grammar_of d rs) d rs)) (in_map (λ r. r.id) k.there))

  leads_of : {r : RuleOf (Block d)} → Memᴰ r rs → {n : ℕ} → Corner c (erase_rules d rs) (erase_block d r.body) n
      → Leads c (erase_rules d rs) r.name n
  leads_of {r} m k = record { body = erase_block d r.body; found = rule_found d (λ r. r.name) rs names m; corner = k }

  way_reaches : {i j : ℕ} → Way rows i j → RuleReaches c d rs i j
  way_reaches (Way.last e) =
      let (r, m, q, k) = edge_corner e in
      record {
        source = r;
        source_stands = m;
        source_id = q;
        goal = k.rule;
        goal_stands = k.there;
        goal_id = k.id;
        path = r_last (leads_of m k.corner);
      }
  way_reaches (Way.more e w) =
      let (r, m, q, k) = edge_corner e in
      let p = way_reaches w in
      let same = one_with (λ r. r.id) rs ids p.source_stands k.there (p.source_id ∙ sym k.id) in
      record {
        source = r;
        source_stands = m;
        source_id = q;
        goal = p.goal;
        goal_stands = p.goal_stands;
        goal_id = p.goal_id;
        path = r_more (leads_of m k.corner) (subst (λ x. Reaches c (erase_rules d rs) x.name p.goal.name) same p.path);
      }

  leads_edge : {n m : ℕ} → Leads c (erase_rules d rs) n m → {r q : RuleOf (Block d)} → Memᴰ r rs → r.name ≡ n → Memᴰ q rs
      → q.name ≡ m → Edge rows r.id q.id
  leads_edge {n} {m} l {r} {q} k e o f =
      let found = subst (λ x. find (erase_rules d rs) x ≡ some l.body) (sym e) l.found in
      let same = some-injective l.body (erase_block d r.body) (sym found ∙ rule_found d (λ r. r.name) rs names k) in
      corner_edge k o (subst (λ s. Corner c (erase_rules d rs) s q.name) same
      (subst (Corner c (erase_rules d rs) l.body) (sym f) l.corner))

  reaches_way : {n m : ℕ} → Reaches c (erase_rules d rs) n m → {r q : RuleOf (Block d)} → Memᴰ r rs → r.name ≡ n → Memᴰ q rs
      → q.name ≡ m → Way rows r.id q.id
  reaches_way (r_last l) k e o f = Way.last (leads_edge l k e o f)
  reaches_way (r_more {m = x} l p) k e o f =
      let (b, g) = reaches_found p in
      let (s, t, u, v) = found_rule d (λ r. r.name) rs x g in
      Way.more (leads_edge l k e t u) (reaches_way p t u o f)

  -- Ways in the graph of rows are paths of left corners.
  pub ways : (i j : ℕ) → Way rows i j ↔ RuleReaches c d rs i j
  ways i j = (way_reaches, back)
    where
      back : RuleReaches c d rs i j → Way rows i j
      back p =
          subst (λ x. Way rows x j) p.source_id
          (subst (Way rows p.source.id) p.goal_id (reaches_way p.path p.source_stands refl p.goal_stands refl))

  distinct_rows : distinct (row_ids rows) ≡ true
  distinct_rows = ap distinct (row_ids_lem c (grammar_of d rs) d rs) ∙ ids

  abbrev comp : ℕ → List ℕ
  comp i = component (reach rows) i

  ways_comp : {i j : ℕ} → Way rows i j → Way rows j i → Memᴰ j (comp i)
  ways_comp a b = ways_component rows (way_row closed a) (way_row closed b) a b

  comp_largest : (i : ℕ) → is_cycle i (comp i) ≡ true → IsLargest c d rs (comp i)
  comp_largest i t =
      let s = several_of i (comp i) t in
      record {
        several = subst (λ l. 2 ≤ length l) (sym s.whole) (omega arith);
        rises = rising_true (comp i) (component_rises rows distinct_rows i);
        joined =
            λ j k m n. (ways j k).0 (way_way (component_both rows distinct_rows s (member_in (comp i) m)).1
            (component_both rows distinct_rows s (member_in (comp i) n)).0);
        largest = λ j k m p q.
            let (out, home) = component_both rows distinct_rows s (member_in (comp i) m) in
            in_member (ways_comp (way_way out ((ways j k).1 p)) (way_way ((ways k j).1 q) home));
      }

  largest_comp : (cycle : List ℕ) → IsLargest c d rs cycle → cycle ≡ comp (least cycle)
  largest_comp cycle h =
      let i = least cycle in
      let first : member i cycle ≡ true = in_member (least_in cycle h.several) in
      rising_same cycle (comp i) (true_rising cycle h.rises) (component_rises rows distinct_rows i)
      (λ z m. ways_comp ((ways i z).1 (h.joined i z first (in_member m))) ((ways z i).1 (h.joined z i (in_member m) first)))
      (λ z m.
      ⊎_elim (λ e. member_in cycle (subst (λ x. member x cycle ≡ true) (sym e) first))
      (λ w. member_in cycle (h.largest i z first ((ways i z).0 w.0) ((ways z i).0 w.1))) (component_ways rows m))

  -- What is listed, and nothing else is.
  pub cycles_exact : (cycle : List ℕ) → Memᴰ cycle (left_corner_cycles c (grammar_of d rs) d rs) ↔ IsLargest c d rs cycle
  unfolding left_corner_cycles
  cycles_exact cycle = (listed, lists)
    where
      listed : Memᴰ cycle (left_corner_cycles c (grammar_of d rs) d rs) → IsLargest c d rs cycle
      listed m =
          let (i, k, e, t) = in_cycles (reach rows) (sorted (ids_of rs)) m in
          subst (IsLargest c d rs) (sym e) (comp_largest i t)

      lists : IsLargest c d rs cycle → Memᴰ cycle (left_corner_cycles c (grammar_of d rs) d rs)
      lists h =
          let e = largest_comp cycle h in
          let t : is_cycle (least cycle) (comp (least cycle)) ≡ true =
          subst (λ l. is_cycle (least cycle) l ≡ true) e (cycle_of (least cycle) cycle h.several refl) in
          let self =
          h.joined (least cycle) (least cycle) (in_member (least_in cycle h.several)) (in_member (least_in cycle h.several)) in
          let m = sorted_in (subst (λ x. Memᴰ x (ids_of rs)) self.source_id (in_map (λ r. r.id) self.source_stands)) in
          subst (λ l. Memᴰ l (left_corner_cycles c (grammar_of d rs) d rs)) (sym e) (cycles_in (reach rows) m t)

  -- They come by their least ids, which rise: so each is listed once.
  pub cycles_sorted : rising (map least (left_corner_cycles c (grammar_of d rs) d rs)) ≡ true
  unfolding left_corner_cycles
  cycles_sorted =
      rising_true _ (part_rising (least_part (reach rows) (sorted (ids_of rs))) (sorted_rising (ids_of rs) (distinct_of (ids_of rs) ids)))
