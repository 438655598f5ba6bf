-- Removal: a round on rows is a round on lists, and rounds end alike.
use Prim.Native.Nat.{ℕ, ◌<◌}
use mathlib.Core.Path.{◌≡◌, refl, sym, ap, ap₂, ◌∙◌, subst}
use mathlib.Core.List.{List, Memᴰ}
use mathlib.Core.Bool.{Bool, true, false, ◌&&◌, ◌||◌, not, true≢false, and-false, or_comm}
use native.Mathlib.Omega.{arith}
use lib.ListN.{length, get_or}
use lib.Dec.{eqb}
use borrow.Author.Tests.{eqb-true, eq-eqb}
use Rattle.std.proofs.lemmas.Bool.{and_from}
use Rattle.std.specs.Cmp.{first_so, second_so, both_ways}
use Rattle.grammar.specs.Numbers.{rule_limit}
use Rattle.grammar.specs.Tree.{body_depth, inner_depth}
use Rattle.grammar.specs.Lists.{member, keep}
use Rattle.grammar.specs.Laws.Lists.{in_member, member_in, member_append}
use Rattle.grammar.specs.Laws.Parse.{either}
use Rattle.graph.specs.Members.{in_keep, keep_is_part}
use Rattle.graph.specs.Fixpoint.{part_length}
use Rattle.reference.specs.Analysis.{ids_of, collect_calls_into}
use Rattle.reference.specs.Plan.{calls_kept, removable_round, removable_satellites}
use Rattle.reach.specs.Rows.{bit, edge, With, Without, Meet, Minus, Empty}
use Rattle.analysis.specs.Names.{any_below}
use Rattle.analysis.specs.Rounds.{count_below}
use Rattle.analysis.specs.Facts.{Among}
use Rattle.analysis.proofs.Laws.Standing.{all_rules, id_at}
use Rattle.hub.specs.Calls.{CallsFrom}
use Rattle.hub.specs.Removal.{planned_calls, Planning, plan_rules, plan_grammar, hub_id, IsRow, Thinned, Removable}
use Rattle.hub.proofs.Laws.Lists.{kept_any}
use Rattle.hub.proofs.Laws.Rounds.{member_keep, keep_same, keep_less, rounds_enough, rounds_fixed, rounds_moves, count_falls}
use Rattle.hub.proofs.Laws.Grounds.{row_bit, row_low, row_of, row_none, id_place, place_low, call_bit, same_place}

module _ {calls : List (List ℕ)} {n : ℕ} {planned : List ℕ} {hub : ℕ} (x : Planning calls n planned hub) where
  abbrev id : ℕ → ℕ
  id j = get_or x.rules.ids j 0

  abbrev still_called : List ℕ → List ℕ
  still_called = calls_kept (plan_grammar x) inner_depth (plan_rules x) (hub_id x) x.plan

  abbrev round : List ℕ → List ℕ
  round = removable_round (plan_grammar x) inner_depth (plan_rules x) (hub_id x) x.plan

  hub_bit : {j : ℕ} → j < x.rules.n → eqb j hub ≡ eqb (id j) (hub_id x)
  hub_bit {j} l =
      both_ways (eqb j hub) (eqb (id j) (hub_id x)) (λ t. eq-eqb (id j) (hub_id x) (ap id (eqb-true j hub t)))
      (λ t. eq-eqb j hub (same_place x.known.standing l x.low (eqb-true (id j) (hub_id x) t)))

  module _ {xs row : List ℕ} (r : IsRow x xs row) {out w : List ℕ} (o : With row hub out) (c : CallsFrom calls out planned n w) where
    -- What is still called.
    called_bit : {j : ℕ} → j < x.rules.n → bit w j ≡ member (id j) (still_called xs)
    unfolding calls_kept
    called_bit {j} l =
        c.at j
        ∙ or_comm (any_below (λ i. not (bit out i) && edge calls i j) n) (bit planned j)
        ∙ ap₂ ◌||◌ (row_bit x.plans l)
        (ap (any_below (λ i. not (bit out i) && edge calls i j)) (x.count ∙ all_rules x.known.standing.rows)
        ∙ kept_any (λ r. not (member r.id xs || eqb r.id (hub_id x))) (λ r. collect_calls_into (plan_grammar x) body_depth r.body)
        (id j) (plan_rules x) (λ i. not (bit out i) && edge calls i j)
        (λ i a. ap₂ (λ b e. not b && e) (stays i a) (call_bit x.known a l)))
        ∙ sym (member_append (id j) (planned_calls (plan_grammar x) x.plan) _)
      where
        stays : (i : ℕ) (a : Among (plan_rules x) i) → bit out i ≡ (member a.rule.id xs || eqb a.rule.id (hub_id x))
        stays i a =
            let low = place_low x.known.standing a in
            o.at i
            ∙ ap₂ ◌||◌ (row_bit r low) (hub_bit low)
            ∙ ap (λ z. member z xs || eqb z (hub_id x)) (id_at x.known.standing.rows a)

    -- One round.
    round_row : {t : List ℕ} → Minus row w t → IsRow x (round xs) t
    unfolding removable_round
    round_row {t} m =
        row_of
        (λ j l.
        m.at j
        ∙ ap₂ (λ a b. a && not b) (row_bit r l) (called_bit l)
        ∙ sym (member_keep (λ i. not (member i (still_called xs))) (id j) xs))
        (λ j l. m.at j ∙ rw (row_none r j l) refl)

    module _ {both : List ℕ} (b : Meet row w both) {e : Bool} (z : Empty both e)
        (there : (i : ℕ) → Memᴰ i xs → member i (ids_of (plan_rules x)) ≡ true) where
      -- A round that takes nothing away.
      round_same : e ≡ true → round xs ≡ xs
      unfolding removable_round
      round_same t = keep_same _ xs λ i m.
          let (j, l, s) = id_place x.known.standing i (there i m) in
          let own : bit row j ≡ true = row_bit r l ∙ rw s (in_member m) in
          let free : bit w j ≡ false = either (bit w j)
          (λ u. absurd (true≢false (sym (b.at j ∙ and_from (bit row j) (bit w j) own u) ∙ z.none t j))) (λ f. f) in
          ap not (ap (λ y. member y (still_called xs)) (sym s) ∙ sym (called_bit l) ∙ free)

      -- A round that takes one away.
      round_less : e ≡ false → length (round xs) < length xs
      unfolding removable_round
      round_less f =
          let (j, k, u) = z.some f in
          let t = sym (b.at j) ∙ u in
          let own = first_so (bit row j) (bit w j) t in
          let l = row_low r own in
          keep_less _ xs (member_in xs (sym (row_bit r l) ∙ own)) (ap not (sym (called_bit l) ∙ second_so (bit row j) (bit w j) t))

      round_there : (i : ℕ) → Memᴰ i (round xs) → member i (ids_of (plan_rules x)) ≡ true
      unfolding removable_round
      round_there i m = there i (in_keep _ xs m).0

module _ {calls : List (List ℕ)} {n : ℕ} {planned : List ℕ} {hub : ℕ} where
  module _ {row out w both : List ℕ} {e : Bool} (o : With row hub out) (c : CallsFrom calls out planned n w) (b : Meet row w both)
      (z : Empty both e) where
    stop_thins : e ≡ true → Thinned calls n planned hub row row
    stop_thins t =
        record {
          is = λ x xs r there. subst (λ l. IsRow x l row) (sym (rounds_fixed (round x) xs (round_same x r o c b z there t) (length xs))) r;
        }

    go_thins : {t s : List ℕ} → e ≡ false → Minus row w t → Thinned calls n planned hub t s → Thinned calls n planned hub row s
    unfolding removable_round
    go_thins {t} {s} f m v =
        record {
          is = λ x xs r there.
              subst (λ l. IsRow x l s) (sym (rounds_moves (round x) (λ ys. keep_is_part _ ys) xs (round_less x r o c b z there f)))
              (v.is x (round x xs) (round_row x r o c m) (round_there x r o c b z there));
        }

    -- Fewer are left.
    less_thins : {t : List ℕ} → e ≡ false → Minus row w t → count_below (bit t) rule_limit < count_below (bit row) rule_limit
    less_thins {t} f m =
        let (j, k, u) = z.some f in
        let both-in = sym (b.at j) ∙ u in
        let called = second_so (bit row j) (bit w j) both-in in
        count_falls (bit t) (bit row) (λ i q. first_so (bit row i) (not (bit w i)) (sym (m.at i) ∙ q)) rule_limit j k
        (first_so (bit row j) (bit w j) both-in) (m.at j ∙ rw called (and-false (bit row j)))

module _ (calls : List (List ℕ)) (n : ℕ) (planned : List ℕ) (hub : ℕ) where
  -- Rounds from a row, with another that is left: what they leave of that is what they leave of the first.
  pub record Thinning (row m : List ℕ) : Type 0 where
    pub rest : (r : List ℕ) → Thinned calls n planned hub m r → Thinned calls n planned hub row r

module _ {calls : List (List ℕ)} {n : ℕ} {planned : List ℕ} {hub : ℕ} where
  pub thin_all : {row : List ℕ} → Thinning calls n planned hub row row
  thin_all = record { rest = λ r v. v }

  module _ {row m out w both : List ℕ} {e : Bool} (g : Thinning calls n planned hub row m) (o : With m hub out)
      (c : CallsFrom calls out planned n w) (b : Meet m w both) (z : Empty both e) where
    pub thin_done : e ≡ true → Thinned calls n planned hub row m
    thin_done t = g.rest m (stop_thins o c b z t)

    pub thin_more : {t : List ℕ} → e ≡ false → Minus m w t → Thinning calls n planned hub row t
    thin_more f y = record { rest = λ r v. g.rest r (go_thins o c b z f y v) }

    pub thin_less : {t : List ℕ} → e ≡ false → Minus m w t → count_below (bit t) rule_limit < count_below (bit m) rule_limit
    thin_less = less_thins o c b z

  -- The members that are neither the hub nor preserved.
  module _ {members kept less row : List ℕ} (a : Minus members kept less) (b : Without less hub row) where
    first_row : (x : Planning calls n planned hub) {cycle preserved : List ℕ} → IsRow x cycle members → IsRow x preserved kept
        → IsRow x (keep (λ i. not (eqb i (hub_id x) || member i preserved)) cycle) row
    first_row x {cycle} {preserved} c p =
        row_of
        (λ j l.
        bits j
        ∙ rw (row_bit c l, row_bit p l, hub_bit x l)
        (apart (member (id x j) cycle) (member (id x j) preserved) (eqb (id x j) (hub_id x)))
        ∙ sym (member_keep (λ i. not (eqb i (hub_id x) || member i preserved)) (id x j) cycle))
        (λ j l. bits j ∙ rw (row_none c j l) refl)
      where
        bits : (j : ℕ) → bit row j ≡ ((bit members j && not (bit kept j)) && not (eqb j hub))
        bits j = b.at j ∙ ap (λ y. y && not (eqb j hub)) (a.at j)

        apart : (u v w : Bool) → ((u && not v) && not w) ≡ (u && not (w || v))
        apart true true true = refl
        apart true true false = refl
        apart true false true = refl
        apart true false false = refl
        apart false v w = refl

    pub removed : {r : List ℕ} → Thinned calls n planned hub row r → Removable calls n planned hub members kept r
    unfolding removable_satellites removable_round
    removed {r} v =
        record {
          is = λ x cycle preserved cy p.
              let test : ℕ → Bool = λ i. not (eqb i (hub_id x) || member i preserved) in
              subst (λ l. IsRow x l r)
              (rounds_enough (round x) (λ ys. keep_is_part _ ys) (length (keep test cycle)) (length cycle) (keep test cycle) (omega arith)
              (part_length (keep_is_part test cycle)))
              (v.is x (keep test cycle) (first_row x cy.row p) (λ i m. cy.rule i (in_member (in_keep test cycle m).0)));
        }

pub ruleset thinning = (thin_all, thin_done, thin_more, thin_less)
