-- A cycle that the definition lists is one as the decision wants it: rising ids, each of a rule that has an alternative.
use Prim.Native.Nat.{ℕ}
use mathlib.Core.Path.{◌≡◌, sym, ap, ◌∙◌, subst}
use mathlib.Core.List.Memᴰ
use mathlib.Core.List.{List, [], map, Memᴰ}
use mathlib.Core.Bool.{true}
use Rattle.grammar.specs.Tree.{Rule, body_depth}
use Rattle.grammar.specs.Lists.{distinct, sorted}
use Rattle.grammar.specs.Laws.Lists.{in_member, member_in}
use Rattle.grammar.specs.Corners.{Corners}
use Rattle.graph.specs.Members.{one_with}
use Rattle.graph.specs.Order.{Rising}
use Rattle.graph.specs.Reach.{Edge, Way, last, more, in_component, reach_ids}
use Rattle.graph.specs.Cycles.{in_cycles, several_of, component_rises, component_both, row_ids_lem}
use Rattle.reference.specs.Analysis.{Grammar, Row, ids_of, row_ids, row_of, reach, component, block_corners, left_corner_cycles}
use Rattle.records.specs.declared.rules.Rules.{Rules}
use Rattle.reach.specs.Rows.{RowOf}
use Rattle.analysis.specs.Facts.{Among, Standing}
use Rattle.analysis.proofs.Laws.Rounded.{is_among}
use Rattle.hub.specs.Grounds.{rules_of, grammar_at, IsCycle}

-- A way begins with an edge.
first_edge : {rows : List Row} {i j : ℕ} → Way rows i j → (k : ℕ) × Edge rows i k
first_edge (last {j = j} e) = (j, e)
first_edge (more {j = j} e w) = (j, e)

module _ {ws : List ℕ} {end : ℕ} {rules : Rules} (s : Standing ws end rules) (c : Corners) where
  abbrev rs : List Rule
  rs = rules_of ws end rules s

  abbrev g : Grammar
  g = grammar_at ws end rules s

  abbrev rows : List Row
  rows = map (row_of c g body_depth) rs

  same_ids : row_ids rows ≡ ids_of rs
  same_ids = row_ids_lem c g body_depth rs

  apart : distinct (row_ids rows) ≡ true
  apart = ap distinct same_ids ∙ s.ids

  -- A rule that leads somewhere has an alternative.
  leads : {i : ℕ} (a : Among rs i) {j : ℕ} → Edge rows a.rule.id j → a.rule.body ≡ [] → ⊥
  unfolding block_corners
  leads a {j} e z =
      let (r, m, same) = Memᴰ.of_map (row_of c g body_depth) rs e.there in
      let own : r ≡ a.rule = one_with (λ t. t.id) rs s.ids m (is_among a) (ap (λ w. w.id) same ∙ e.from) in
      let to : Memᴰ j (block_corners c g body_depth r.body) = subst (λ w. Memᴰ j w.to) (sym same) e.leads in
      let none : Memᴰ j (block_corners c g body_depth []) =
      subst (λ b. Memᴰ j (block_corners c g body_depth b)) (ap (λ t. t.body) own ∙ z) to in
      Memᴰ.not-nil none

  pub listed_cycle : {cycle members : List ℕ} → RowOf rules.ids rules.n cycle members
      → Memᴰ cycle (left_corner_cycles c g body_depth rs) → IsCycle ws end rules s cycle members
  unfolding left_corner_cycles
  listed_cycle {cycle} r m =
      let (i, l, e, t) = in_cycles (reach rows) (sorted (ids_of rs)) m in
      record {
        row = r;
        rises = subst Rising (sym e) (component_rises rows apart i);
        rule = λ j k.
            let n = subst (Memᴰ j) e (member_in cycle k) in
            in_member (subst (Memᴰ j) (reach_ids rows ∙ same_ids) (in_component (reach rows) n).0);
        bodied = λ j a k.
            let n = subst (Memᴰ a.rule.id) e (member_in cycle k) in
            let (o, d) = first_edge (component_both rows apart (several_of i (component (reach rows) i) t) n).1 in
            leads a d;
      }
