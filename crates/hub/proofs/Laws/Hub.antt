-- The hub: candidates and those called from outside as rows, and the first in the rising cycle as the least id.
use Prim.Native.Nat.{ℕ, ◌<◌}
use mathlib.Core.Path.{◌≡◌, refl, sym, ap, ap₂, ◌∙◌, subst}
use mathlib.Core.List.{List, ◌++◌, Memᴰ}
use mathlib.Core.Option.{none, some}
use mathlib.Core.Bool.{Bool, true, ◌&&◌, ◌||◌, not, and-true, true≢false}
use lib.ListN.{get_or}
use Rattle.grammar.specs.Tree.{RuleOf, Block, body_depth, inner_depth}
use Rattle.grammar.specs.Lists.{member, keep, first, any}
use Rattle.grammar.specs.Laws.Lists.{in_member, member_in, member_append}
use Rattle.grammar.specs.Laws.Parse.{either}
use Rattle.grammar.specs.Corners.{Corners}
use Rattle.graph.specs.Members.{in_keep, keep_in, keep_is_part}
use Rattle.graph.specs.Order.{Rising, part_rising}
use Rattle.reference.specs.Analysis.{Grammar, collect_calls_into, grammar_of, nullable_rules}
use Rattle.reference.specs.Plan.{externally_referenced, is_candidate, choose_hub}
use Rattle.records.specs.declared.rules.Rules.{Rules}
use Rattle.reach.specs.Rows.{bit, edge, RowOf, Meet}
use Rattle.reach.specs.Cycles.{Least, NoneLeft, IsNext}
use Rattle.std.specs.Prelude.{Option, Some, None, MatchOption}
use Rattle.std.proofs.lemmas.Bool.{and_from}
use Rattle.std.specs.Cmp.{first_so, second_so}
use Rattle.analysis.specs.Names.{any_below}
use Rattle.analysis.specs.declared.rounds.Marks.{Marks}
use Rattle.analysis.proofs.Laws.Standing.{all_rules, id_at, rule_spans}
use Rattle.hub.specs.Grounds.{Known, rules_of, grammar_at, IsCycle}
use Rattle.hub.specs.Corner.{Candidates, is_settled}
use Rattle.hub.specs.declared.cycle.Cycle.{Cycle}
use Rattle.hub.specs.Calls.{CallsFrom}
use Rattle.hub.specs.Hub.{HubIs, Chosen}
use Rattle.hub.proofs.Laws.Lists.{first_none, first_least, kept_any}
use Rattle.hub.proofs.Laws.Grounds.{row_bit, at_place, place_low, with_id, id_place, tells, call_bit}

-- The candidates among the members, by a cycle of the rules' names, these members and a row of nullable rules.
pub record CandidatesBy (ws : List ℕ) (end : ℕ) (rules : Rules) (members can nullable : List ℕ) : Type 0 where
  pub cycle : Cycle
  pub named : cycle.names.list.now ≡ rules.names
  pub count : cycle.names.n ≡ rules.n
  pub inside : cycle.members ≡ members
  pub empty : cycle.nullable ≡ nullable
  pub candidates : Candidates cycle ws end rules.places rules.n can

pub candidates_by : {ws : List ℕ} {end : ℕ} {rules : Rules} {can : List ℕ} (y : Cycle) → y.names.list.now ≡ rules.names → y.names.n ≡ rules.n
    → Candidates y ws end rules.places rules.n can → CandidatesBy ws end rules y.members can y.nullable
candidates_by y a b f = record { cycle = y; named = a; count = b; inside = refl; empty = refl; candidates = f }

module _ {ws : List ℕ} {end : ℕ} {rules : Rules} {reading : Corners} {calls corners : List (List ℕ)} {m : Marks}
    (k : Known ws end rules reading calls corners m) {cycle members : List ℕ} (cy : IsCycle ws end rules k.standing cycle members) where
  abbrev rs : List (RuleOf (Block body_depth))
  rs = rules_of ws end rules k.standing

  abbrev g : Grammar
  g = grammar_at ws end rules k.standing

  abbrev id : ℕ → ℕ
  id j = get_or rules.ids j 0

  -- A rule is called from outside, or preserved.
  wanted_bit : {preserved kept w : List ℕ} → RowOf rules.ids rules.n preserved kept → CallsFrom calls members kept rules.n w
      → {j : ℕ} → j < rules.n → bit w j ≡ member (id j) (externally_referenced g cycle inner_depth rs ++ preserved)
  unfolding externally_referenced
  wanted_bit {preserved} {kept} {w} pr f {j} l =
      f.at j
      ∙ ap₂ ◌||◌
      (ap (any_below (λ i. not (bit members i) && edge calls i j)) (all_rules k.standing.rows)
      ∙ kept_any (λ r. not (member r.id cycle)) (λ r. collect_calls_into g body_depth r.body) (id j) rs
      (λ i. not (bit members i) && edge calls i j)
      (λ i a.
      ap₂ (λ x y. not x && y) (row_bit cy.row (place_low k.standing a) ∙ ap (λ x. member x cycle) (id_at k.standing.rows a))
      (call_bit k a l)))
      (row_bit pr l)
      ∙ sym (member_append (id j) (externally_referenced g cycle inner_depth rs) preserved)

  -- A rule is a candidate.
  can_bit : {can : List ℕ}
      → CandidatesBy ws end rules members can m.nullable
      → {j : ℕ} → j < rules.n → bit can j ≡ (member (id j) cycle && is_candidate g cycle inner_depth rs (id j))
  unfolding is_candidate grammar_of
  can_bit {can} f {j} l =
      let a = at_place k.standing j l in
      let s = rule_spans k.standing.rows a in
      let o = subst (λ n. RowOf rules.ids n (nullable_rules body_depth rs) m.nullable) (sym (all_rules k.standing.rows))
      k.facts.nullable in
      (f.candidates.each j l).by g cycle (tells k.standing cy.row o f.cycle f.named f.count f.inside f.empty) a.rule s.0 s.1
      ∙ ap (λ r. bit r j && any (is_settled g cycle) a.rule.body) f.inside
      ∙ ap₂ ◌&&◌ (row_bit cy.row l) (sym (rw (with_id k.standing a, is_candidate) refl))

  abbrev candidates : List ℕ
  candidates = keep (is_candidate g cycle inner_depth rs) cycle

  rises : Rising candidates
  rises = part_rising (keep_is_part (is_candidate g cycle inner_depth rs) cycle) cy.rises

  module _ {can : List ℕ} (f : CandidatesBy ws end rules members can m.nullable) where
    in_candidates : {j : ℕ} → j < rules.n → bit can j ≡ true → Memᴰ (id j) candidates
    in_candidates {j} l t =
        let b = sym (can_bit f l) ∙ t in
        keep_in (is_candidate g cycle inner_depth rs) (member_in cycle (first_so (member (id j) cycle) _ b))
        (second_so (member (id j) cycle) _ b)

    -- A candidate by its place.
    record Placed (x : ℕ) : Type 0 where
      place : ℕ
      low : place < rules.n
      same : id place ≡ x
      there : bit can place ≡ true

    placed : (x : ℕ) → Memᴰ x candidates → Placed x
    placed x t =
        let (i, c) = in_keep (is_candidate g cycle inner_depth rs) cycle t in
        let (j, l, e) = id_place k.standing x (cy.rule x (in_member i)) in
        record {
          place = j;
          low = l;
          same = e;
          there = can_bit f l ∙ rw e (and_from (member x cycle) _ (in_member i) c);
        }

    module _ (test : ℕ → Bool) (row : List ℕ) (is : (j : ℕ) → j < rules.n → bit row j ≡ (bit can j && test (id j))) where
      passes : {x : ℕ} (p : Placed x) → test x ≡ true → bit row p.place ≡ true
      passes p t = is p.place p.low ∙ and_from (bit can p.place) _ p.there (rw p.same t)

      first_is : {i : ℕ} → Least rules.ids row rules.n i → first test candidates ≡ some (id i)
      first_is {i} h =
          let b = sym (is i h.below) ∙ h.there in
          first_least test candidates rises (in_candidates h.below (first_so (bit can i) _ b)) (second_so (bit can i) _ b)
          λ x n t. let p = placed x n in rw p.same at (h.least p.place p.low (passes p t))

      first_not : NoneLeft row rules.n → first test candidates ≡ none
      first_not h =
          first_none test candidates λ x n.
          either (test x) (λ t. let p = placed x n in absurd (true≢false (sym (passes p t) ∙ h.none p.place p.low))) (λ e. e)

    module _ {preserved kept w both : List ℕ} (pr : RowOf rules.ids rules.n preserved kept)
        (c : CallsFrom calls members kept rules.n w) (b : Meet can w both) where
      abbrev is_wanted : ℕ → Bool
      is_wanted i = member i (externally_referenced g cycle inner_depth rs ++ preserved)

      is_wanted_lem : (j : ℕ) → j < rules.n → bit both j ≡ (bit can j && is_wanted (id j))
      is_wanted_lem j l = b.at j ∙ ap (λ x. bit can j && x) (wanted_bit pr c l)

      member_bit : {j : ℕ} → j < rules.n → bit can j ≡ true → bit members j ≡ true
      member_bit {j} l t = row_bit cy.row l ∙ first_so (member (id j) cycle) _ (sym (can_bit f l) ∙ t)

      hub_wanted : {i : ℕ} → Least rules.ids both rules.n i
          → HubIs rules.ids rules.n members (Some i) (choose_hub g cycle inner_depth rs preserved)
      unfolding choose_hub
      hub_wanted {i} h = (
        h.below,
        member_bit h.below (first_so (bit can i) _ (sym (is_wanted_lem i h.below) ∙ h.there)),
        rw (first_is is_wanted both is_wanted_lem h, choose_hub) refl,
      )

      all_can : (j : ℕ) → j < rules.n → bit can j ≡ (bit can j && true)
      all_can j l = sym (and-true (bit can j))

      hub_other : (r : Option ℕ) → NoneLeft both rules.n → IsNext rules.ids can rules.n r
          → HubIs rules.ids rules.n members r (choose_hub g cycle inner_depth rs preserved)
      unfolding choose_hub
      hub_other None z h = rw (first_not is_wanted both is_wanted_lem z, choose_hub) (first_not (λ i. true) can all_can h)
      hub_other (Some i) z h = (
        h.below,
        member_bit h.below h.there,
        rw (first_not is_wanted both is_wanted_lem z, choose_hub) (first_is (λ i. true) can all_can h),
      )

module _ {ws : List ℕ} {end : ℕ} {rules : Rules} {n : ℕ} {members nullable can : List ℕ} (e : n ≡ rules.n)
    (f : CandidatesBy ws end rules members can nullable)
    {calls : List (List ℕ)} {kept w both : List ℕ} (c : CallsFrom calls members kept n w) (b : Meet can w both) where
  -- The answer that was found is the definition's.
  chosen : {r : Option ℕ}
      → ((reading : Corners) (corners : List (List ℕ)) (m : Marks) (k : Known ws end rules reading calls corners m)
      (cycle preserved : List ℕ)
      (cy : IsCycle ws end rules k.standing cycle members) (pr : RowOf rules.ids rules.n preserved kept)
      → CandidatesBy ws end rules members can m.nullable
      → CallsFrom calls members kept rules.n w
      → HubIs rules.ids rules.n members r
      (choose_hub (grammar_at ws end rules k.standing) cycle inner_depth (rules_of ws end rules k.standing) preserved))
      → Chosen ws end rules nullable calls members kept r
  chosen h =
      record {
        is = λ reading corners m k z cycle preserved cy pr.
            h reading corners m k cycle preserved cy pr
            (subst (CandidatesBy ws end rules members can) (sym z) f)
            (subst (λ x. CallsFrom calls members kept x w) e c);
      }

  pub chosen_first : (t r : Option ℕ) → IsNext rules.ids both n t → MatchOption t (IsNext rules.ids can n r) (λ i. r ≡ Some i)
      → Chosen ws end rules nullable calls members kept r
  chosen_first None r h x =
      chosen λ reading corners m k cycle preserved cy pr f' c'.
      hub_other k cy f' pr c' b r (rw e at h) (subst (λ j. IsNext rules.ids can j r) e x)
  chosen_first (Some i) r h x =
      rw x (chosen λ reading corners m k cycle preserved cy pr f' c'. hub_wanted k cy f' pr c' b (rw e at h))
