-- Satellites that can be inlined: no member but the hub is among those that cannot.
use Prim.Native.Nat.{ℕ, ◌<◌}
use mathlib.Core.Path.{◌≡◌, refl, sym, ap, ap₂, ◌∙◌, subst}
use mathlib.Core.List.{List}
use mathlib.Core.Bool.{Bool, true, false, ◌&&◌, not, true≢false, and_assoc}
use native.Mathlib.Omega.{arith}
use lib.ListN.{get_or}
use lib.Dec.{eqb}
use borrow.Author.Tests.{eqb-true, eqb-false, eq-eqb, ne_eqb, not-true}
use Rattle.std.specs.Cmp.{first_so, second_so}
use Rattle.grammar.specs.Tree.{Rule, inner_depth}
use Rattle.grammar.specs.Lists.{all, member, keep}
use Rattle.grammar.specs.Laws.Parse.{either}
use Rattle.grammar.specs.Corners.{Corners}
use Rattle.graph.specs.Members.{in_keep, keep_in}
use Rattle.reference.specs.Plan.{satellite_is_inlinable, satellites}
use Rattle.records.specs.declared.rules.Rules.{Rules}
use Rattle.reach.specs.Rows.{bit, Meet, Without, Empty}
use Rattle.analysis.specs.Facts.{Among, stopping}
use Rattle.analysis.specs.declared.rounds.Marks.{Marks}
use Rattle.analysis.proofs.Laws.Standing.{all_rules, id_at, one_rule}
use Rattle.analysis.proofs.Laws.Rounded.{is_among, kept_id}
use Rattle.hub.specs.Grounds.{Known, rules_of, IsCycle}
use Rattle.hub.specs.Inlinable.{AllInlinable}
use Rattle.hub.proofs.Laws.Lists.{all_true, all_false}
use Rattle.hub.proofs.Laws.Grounds.{row_bit, row_low, in_among, at_place, place_low}

module _ {ws : List ℕ} {end : ℕ} {rules : Rules} {reading : Corners} {calls corners : List (List ℕ)} {m : Marks}
    (k : Known ws end rules reading calls corners m) {cycle members : List ℕ} (cy : IsCycle ws end rules k.standing cycle members)
    {hub : ℕ} (h : hub < rules.n) where
  abbrev rs : List Rule
  rs = rules_of ws end rules k.standing

  abbrev is_satellite : Rule → Bool
  is_satellite s = member s.id cycle && not (eqb s.id (get_or rules.ids hub 0))

  -- A rule's bits.
  stops_bit : {j : ℕ} (a : Among rs j) → bit m.stops j ≡ not (satellite_is_inlinable inner_depth a.rule)
  unfolding stopping
  stops_bit {j} a =
      row_bit k.facts.stops (let l = place_low k.standing a in let c = all_rules k.standing.rows in omega arith)
      ∙ rw (id_at k.standing.rows a) (kept_id (λ t. not (satellite_is_inlinable inner_depth t)) rs k.standing.ids a)

  own_bit : {j : ℕ} (a : Among rs j) → (bit members j && not (eqb j hub)) ≡ is_satellite a.rule
  own_bit {j} a =
      let b = at_place k.standing hub h in
      let e = id_at k.standing.rows a in
      let same : bit members j ≡ member a.rule.id cycle = row_bit cy.row (place_low k.standing a) ∙ rw e refl in
      either (eqb j hub)
      (λ t. let z = eqb-true j hub t in rw (t, same, ← z, e, eq-eqb a.rule.id a.rule.id refl) refl)
      (λ f.
      let d = ne_eqb a.rule.id (get_or rules.ids hub 0)
      (λ z. eqb-false j hub f (one_rule k.standing.rows (λ r. r.id) k.standing.ids a b (z ∙ id_at k.standing.rows b))) in
      rw (f, same, d) refl)

  module _ {both row : List ℕ} (x : Meet m.stops members both) (y : Without both hub row) where
    row_is : {j : ℕ} (a : Among rs j) → bit row j ≡ (not (satellite_is_inlinable inner_depth a.rule) && is_satellite a.rule)
    row_is {j} a =
        y.at j
        ∙ ap (λ b. b && not (eqb j hub)) (x.at j)
        ∙ and_assoc (bit m.stops j) (bit members j) (not (eqb j hub))
        ∙ ap₂ ◌&&◌ (stops_bit a) (own_bit a)

    pub all_are : {r : Bool} → Empty row r
        → r ≡ all (satellite_is_inlinable inner_depth) (satellites inner_depth rs cycle (get_or rules.ids hub 0))
    all_are {r} e = either r yes nope
      where
        yes : r ≡ true → r ≡ all (satellite_is_inlinable inner_depth) (keep is_satellite rs)
        yes t =
            t
            ∙ sym
            (all_true (satellite_is_inlinable inner_depth) (keep is_satellite rs) λ s n.
            let (in-rs, own) = in_keep is_satellite rs n in
            let (j, a, same) = in_among in-rs in
            either (satellite_is_inlinable inner_depth s) (λ u. u)
            (λ u. absurd (true≢false (sym (row_is a ∙ rw (same, u, own) refl) ∙ e.none t j))))

        nope : r ≡ false → r ≡ all (satellite_is_inlinable inner_depth) (keep is_satellite rs)
        nope f =
            let (j, l, b) = e.some f in
            let both-in = first_so (bit both j) (not (eqb j hub)) (sym (y.at j) ∙ b) in
            let inside = second_so (bit m.stops j) (bit members j) (sym (x.at j) ∙ both-in) in
            let a = at_place k.standing j (row_low cy.row inside) in
            let c = sym (row_is a) ∙ b in
            f
            ∙ sym
            (all_false (satellite_is_inlinable inner_depth)
            (keep_in is_satellite (is_among a) (second_so (not (satellite_is_inlinable inner_depth a.rule)) _ c))
            (not-true (satellite_is_inlinable inner_depth a.rule) (first_so (not (satellite_is_inlinable inner_depth a.rule)) _ c)))

pub inlined : {stops members : List ℕ} {hub : ℕ} {both row : List ℕ} {r : Bool} → Meet stops members both → Without both hub row
    → Empty row r → AllInlinable stops members hub r
inlined {members = members} {both = both} x y e =
    record { is = λ ws end rules reading calls corners m k z cycle cy h. all_are k cy h (subst (λ s. Meet s members both) (sym z) x) y e }
