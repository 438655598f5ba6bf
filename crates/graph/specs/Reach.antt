-- Reachability in a graph of rows: the closure that the definition makes holds the paths, and a component holds what is
-- joined to a rule by paths both ways.
use Prim.Native.Nat.{ℕ, ◌≤◌}
use Rattle.std.specs.Prelude.{◌≡◌, ◌⊎◌, Bool, ◌&&◌, ◌||◌, length, eqb}
use Rattle.std.proofs.Math.Path.{refl, ap, subst}
use Rattle.std.proofs.Common.{sym, ◌∙◌, ⊎_elim}
use Rattle.std.proofs.Math.Logic.{inl, inr}
use mathlib.Core.List.Memᴰ
use mathlib.Core.List.{List, [], ◌∷◌, ◌++◌, map, Memᴰ}
use mathlib.Core.List.{Sublistᴰ}
use Rattle.std.proofs.Math.Bool.{true, false, or-true}
use native.Mathlib.Omega.{arith}
use Rattle.std.proofs.Math.ListN.{length-map}
use Rattle.std.proofs.lemmas.Bool.{and_from}
use Rattle.std.specs.Cmp.{first_so, second_so}
use borrow.Author.Tests.{eqb-true, eq-eqb}
use Rattle.grammar.specs.Laws.Lists.{in_member, member_in, in_map}
use Rattle.grammar.specs.Lists.{member, distinct, keep}
use Rattle.grammar.specs.Laws.Parse.{either}
use Rattle.reference.specs.Analysis.{Row, row_ids, lead_from, reach_round, reach_from, reached, reach, component}
use Rattle.graph.specs.Members.{in_keep, keep_in, in_each, keep_part, keep_is_part, part_map, each_in}
use Rattle.graph.specs.Fixpoint.{part_length, rounds_keep, rounds_grow}
use Rattle.graph.specs.Order.{Rising, distinct_of, part_distinct, in_sorted, sorted_in, sorted_rising}

-- A row leads from its id.
pub record Edge (rows : List Row) (i j : ℕ) : Type 0 where
  pub row : Row
  pub there : Memᴰ row rows
  pub from : row.id ≡ i
  pub leads : Memᴰ j row.to

-- One edge or more.
pub data Way (rows : List Row) : ℕ → ℕ → Type 0 where
  last : {i j : ℕ} → Edge rows i j → Way rows i j
  more : {i j k : ℕ} → Edge rows i j → Way rows j k → Way rows i k

-- No edge, or some.
abbrev pub From : List Row → ℕ → ℕ → Type 0
From rows i j = (i ≡ j) ⊎ Way rows i j

pub way_on : {rows : List Row} {i j k : ℕ} → Way rows i j → Edge rows j k → Way rows i k
way_on (last e) f = more e (last f)
way_on (more e w) f = more e (way_on w f)

pub way_way : {rows : List Row} {i j k : ℕ} → Way rows i j → Way rows j k → Way rows i k
way_way (last e) v = more e v
way_way (more e w) v = more e (way_way w v)

from_on : {rows : List Row} {i j k : ℕ} → From rows i j → Edge rows j k → From rows i k
from_on {rows} {k = k} (inl e) f = inr (last (subst (λ x. Edge rows x k) (sym e) f))
from_on (inr w) f = inr (way_on w f)

edge_from : {rows : List Row} {i j k : ℕ} → Edge rows i j → From rows j k → Way rows i k
edge_from {rows} {i} e (inl d) = last (subst (Edge rows i) d e)
edge_from e (inr w) = more e w

-- An edge, and a way, leads from a row.
pub edge_start : {rows : List Row} {i j : ℕ} → Edge rows i j → Memᴰ i (row_ids rows)
edge_start {rows} e = subst (λ x. Memᴰ x (row_ids rows)) e.from (in_map (λ r. r.id) e.there)

pub way_start : {rows : List Row} {i j : ℕ} → Way rows i j → Memᴰ i (row_ids rows)
way_start (last e) = edge_start e
way_start (more e w) = edge_start e

module _ (rows : List Row) where
  leads_if : {j : ℕ} (b : Bool) (r : Row) → Memᴰ j (elim b as (λ x. List ℕ) [ true ↦ r.to | false ↦ [] ])
      → (b ≡ true) × Memᴰ j r.to
  leads_if true r m = (refl, m)
  leads_if false r m = absurd (Memᴰ.not-nil m)

  pub in_lead_from : (found : List ℕ) {j : ℕ} → Memᴰ j (lead_from rows found) → (i : ℕ) × Memᴰ i found × Edge rows i j
  unfolding lead_from
  in_lead_from found m =
      let (r, k, n) = each_in (λ r. elim (member r.id found) as (λ x. List ℕ) [ true ↦ r.to | false ↦ [] ]) rows m in
      let (t, l) = leads_if (member r.id found) r n in
      (r.id, member_in found t, record { row = r; there = k; from = refl; leads = l })

  pub lead_from_in : (found : List ℕ) {i j : ℕ} → Memᴰ i found → Edge rows i j → Memᴰ j (lead_from rows found)
  unfolding lead_from
  lead_from_in found {i} {j} m e =
      let t : member e.row.id found ≡ true = in_member (subst (λ x. Memᴰ x found) (sym e.from) m) in
      let l : Memᴰ j (elim (member e.row.id found) as (λ x. List ℕ) [ true ↦ e.row.to | false ↦ [] ]) = rw t e.leads in
      in_each (λ r. elim (member r.id found) as (λ x. List ℕ) [ true ↦ r.to | false ↦ [] ]) e.there l

  in_round : (found : List ℕ) {j : ℕ} → Memᴰ j (reach_round rows found)
      → Memᴰ j (row_ids rows) × (Memᴰ j found ⊎ Memᴰ j (lead_from rows found))
  unfolding reach_round
  in_round found m =
      let (k, t) = in_keep (λ i. member i (found ++ lead_from rows found)) (row_ids rows) m in
      (k, Memᴰ.append_cases found (member_in (found ++ lead_from rows found) t))

  round_in : (found : List ℕ) {j : ℕ} → Memᴰ j (row_ids rows) → Memᴰ j found ⊎ Memᴰ j (lead_from rows found)
      → Memᴰ j (reach_round rows found)
  unfolding reach_round
  round_in found k m =
      keep_in (λ i. member i (found ++ lead_from rows found)) k
      (in_member (⊎_elim (λ l. Memᴰ.append_left (lead_from rows found) l) (λ r. Memᴰ.append_right found r) m))

  grows : (xs : List ℕ) → Sublistᴰ xs (reach_round rows xs) → Sublistᴰ (reach_round rows xs) (reach_round rows (reach_round rows xs))
  unfolding reach_round
  grows xs s =
      keep_part _ _ (row_ids rows) λ i m t.
      in_member (Memᴰ.append_left (lead_from rows (reach_round rows xs)) (keep_in (λ i. member i (xs ++ lead_from rows xs)) m t))

  bounded : (xs : List ℕ) → length (reach_round rows xs) ≤ length rows
  unfolding reach_round
  bounded xs =
      let h = part_length (keep_is_part (λ i. member i (xs ++ lead_from rows xs)) (row_ids rows)) in
      let e = length-map rows (λ r. r.id) in
      omega arith

  -- The set that the rounds start from.
  abbrev start : List ℕ → List ℕ
  start found = keep (λ i. member i found) (row_ids rows)

  starts : (found : List ℕ) → Sublistᴰ (start found) (reach_round rows (start found))
  unfolding reach_round
  starts found =
      keep_part _ _ (row_ids rows) λ i m t.
      in_member (Memᴰ.append_left (lead_from rows (start found)) (keep_in (λ i. member i found) m t))

  reach_fixed : (found : List ℕ) → reach_round rows (reach_from rows found) ≡ reach_from rows found
  unfolding reach_from
  reach_fixed found = rounds_grow (reach_round rows) (length rows) bounded grows (length rows) (start found) (starts found) (omega arith)

  -- What is reached is a row, and a way leads there from the set.
  pub reach_from_sound : (found : List ℕ) {j : ℕ} → Memᴰ j (reach_from rows found) → (i : ℕ) × Memᴰ i found × From rows i j
  unfolding reach_from
  reach_from_sound found {j} m = rounds_keep (reach_round rows) P step (length rows) (start found) begin j m
    where
      P : List ℕ → Type 0
      P xs = (j : ℕ) → Memᴰ j xs → (i : ℕ) × Memᴰ i found × From rows i j

      step : (xs : List ℕ) → P xs → P (reach_round rows xs)
      step xs h j m =
          ⊎_elim (h j)
          (λ l.
          let (k, n, e) = in_lead_from xs l in
          let (i, o, w) = h k n in
          (i, o, from_on w e))
          (in_round xs m).1

      begin : P (start found)
      begin j m = (j, member_in found (in_keep (λ i. member i found) (row_ids rows) m).1, inl refl)

  -- And the other way.
  pub reach_from_start : (found : List ℕ) {i : ℕ} → Memᴰ i found → Memᴰ i (row_ids rows) → Memᴰ i (reach_from rows found)
  unfolding reach_from
  reach_from_start found {i} m k =
      rounds_keep (reach_round rows) (λ xs. Memᴰ i xs) (λ xs n. round_in xs k (inl n)) (length rows) (start found)
      (keep_in (λ i. member i found) k (in_member m))

  reach_from_step : (found : List ℕ) {i j : ℕ} → Memᴰ i (reach_from rows found) → Edge rows i j → Memᴰ j (row_ids rows)
      → Memᴰ j (reach_from rows found)
  reach_from_step found {i} {j} m e k =
      subst (Memᴰ j) (reach_fixed found) (round_in (reach_from rows found) k (inr (lead_from_in (reach_from rows found) m e)))

  reach_from_way : (found : List ℕ) {i j : ℕ} → Memᴰ i (reach_from rows found) → Way rows i j → Memᴰ j (row_ids rows)
      → Memᴰ j (reach_from rows found)
  reach_from_way found m (last e) k = reach_from_step found m e k
  reach_from_way found m (more e w) k = reach_from_way found (reach_from_step found m e (way_start w)) w k

  -- Each row of the closure leads where ways lead.
  pub edge_way : {i j : ℕ} → Edge (reach rows) i j → Way rows i j
  unfolding reach
  edge_way {i} {j} e =
      let (r, k, q) = Memᴰ.of_map (reached rows) rows e.there in
      let l : Memᴰ j (reach_from rows r.to) = subst (λ x. Memᴰ j x.to) (sym q) e.leads in
      let (s, n, w) = reach_from_sound r.to l in
      edge_from (record { row = r; there = k; from = ap (λ x. x.id) q ∙ e.from; leads = n }) w

  -- And the other way, to a row.
  pub way_edge : {i j : ℕ} → Way rows i j → Memᴰ j (row_ids rows) → Edge (reach rows) i j
  unfolding reach
  way_edge (last e) k =
      record {
        row = reached rows e.row;
        there = in_map (reached rows) e.there;
        from = e.from;
        leads = reach_from_start e.row.to e.leads k;
      }
  way_edge (more e w) k =
      record {
        row = reached rows e.row;
        there = in_map (reached rows) e.there;
        from = e.from;
        leads = reach_from_way e.row.to (reach_from_start e.row.to e.leads (way_start w)) w k;
      }

  -- The test of a component, on a graph that is closed already.
  joined : ℕ → Row → Bool
  joined i r = eqb r.id i || (member r.id (lead_from rows (i ∷ [])) && member i r.to)

  pub in_component : {i j : ℕ} → Memᴰ j (component rows i) → Memᴰ j (row_ids rows) × ((j ≡ i) ⊎ (Edge rows i j × Edge rows j i))
  unfolding component joined
  in_component {i} {j} m =
      let (r, k, e) = Memᴰ.of_map (λ r. r.id) (keep (joined i) rows) (in_sorted (row_ids (keep (joined i) rows)) m) in
      let (n, t) = in_keep (joined i) rows k in (
        subst (λ x. Memᴰ x (row_ids rows)) e (in_map (λ r. r.id) n),
        either (eqb r.id i)
            (λ u. inl (sym e ∙ eqb-true r.id i u))
            (λ f.
            let out = lead_from rows (i ∷ []) in
            let both : (member r.id out && member i r.to) ≡ true = rw f at t in
            let (s, o, g) = in_lead_from (i ∷ []) (member_in out (first_so (member r.id out) _ both)) in
            inr (
              subst (λ x. Edge rows x j) (Memᴰ.eq_of_singleton o) (subst (Edge rows s) e g),
              record { row = r; there = n; from = e; leads = member_in r.to (second_so (member r.id out) _ both) },
            )),
      )

  pub component_in : {i j : ℕ} → Memᴰ j (row_ids rows) → (j ≡ i) ⊎ (Edge rows i j × Edge rows j i) → Memᴰ j (component rows i)
  unfolding component joined
  component_in {i} {j} m (inl e) =
      let (r, k, q) = Memᴰ.of_map (λ r. r.id) rows m in
      let t : joined i r ≡ true = rw (eq-eqb r.id i (q ∙ e)) refl in
      sorted_in (subst (λ x. Memᴰ x (row_ids (keep (joined i) rows))) q (in_map (λ r. r.id) (keep_in (joined i) k t)))
  component_in {i} {j} m (inr w) =
      let e = w.1 in
      let r = e.row in
      let out = lead_from rows (i ∷ []) in
      let a : member r.id out ≡ true =
      in_member (subst (λ x. Memᴰ x out) (sym e.from) (lead_from_in (i ∷ []) (Memᴰ.head refl) w.0)) in
      let t : joined i r ≡ true = rw (and_from _ _ a (in_member e.leads)) (or-true (eqb r.id i)) in
      sorted_in (subst (λ x. Memᴰ x (row_ids (keep (joined i) rows))) e.from (in_map (λ r. r.id) (keep_in (joined i) e.there t)))

  pub component_rising : distinct (row_ids rows) ≡ true → (i : ℕ) → Rising (component rows i)
  unfolding component joined
  component_rising h i =
      sorted_rising _ (part_distinct (part_map (λ r. r.id) (keep_is_part (joined i) rows)) (distinct_of (row_ids rows) h))

  pub reach_ids : row_ids (reach rows) ≡ row_ids rows
  unfolding reach
  reach_ids = same rows
    where
      same : (xs : List Row) → row_ids (map (reached rows) xs) ≡ row_ids xs
      same [] = refl
      same (x ∷ xs) = ap (λ l. x.id ∷ l) (same xs)
