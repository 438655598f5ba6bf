-- What removable_satellites returns is closed: no rule in it is called by the planned hub or by another rule kept.
use Prim.Native.Nat.{ℕ, zero, suc, ◌≤◌}
use Rattle.std.specs.Prelude.{◌≡◌, true, false, ◌||◌}
use Rattle.std.proofs.Common.{sym, ap, ◌∙◌, arith}
use Rattle.std.proofs.Math.Path.{subst}
use Rattle.std.proofs.Math.Logic.{⊎_elim}
use mathlib.Core.List.Memᴰ
use mathlib.Core.List.{List, [], Memᴰ}
use Rattle.std.proofs.Math.Bool.{Bool, not}
use Rattle.std.proofs.Math.ListN.{length}
use Rattle.std.proofs.Math.Dec.{eqb}
use borrow.Author.Tests.{eqb-true, eqb-false, not-true}
use Rattle.std.proofs.lemmas.Bool.{or_parts}
use Rattle.std.proofs.lemmas.List.{nil_from_length}
use Rattle.grammar.specs.Tree.{Block, RuleOf}
use Rattle.grammar.specs.Lists.{each, member, keep, rounds}
use Rattle.grammar.specs.Laws.Parse.{either}
use Rattle.reference.specs.Analysis.{Grammar, collect_calls_in_elements, collect_calls_into}
use Rattle.reference.specs.Substitute.{Planned}
use Rattle.reference.specs.Plan.{calls_kept, removable_round, removable_satellites}
use Rattle.grammar.specs.Laws.Lists.{member_in}
use Rattle.graph.specs.Members.{in_keep, keep_in, each_in, in_each}
use Rattle.laws.specs.Lists.Lookup.{not_in, keep_short, keep_all}

-- Rounds that take away, as many as there are items: the last takes nothing away, and all that is left was there.
module _ (round : List ℕ → List ℕ) (shrinks : (xs : List ℕ) → length (round xs) ≤ length xs) where
  pub rounds_end : (n : ℕ) (xs : List ℕ) → length xs ≤ n → length (round (rounds round n xs)) ≡ length (rounds round n xs)
  unfolding rounds
  rounds_end zero xs h =
      let e = nil_from_length xs (omega arith) in
      subst (λ l. length (round l) ≡ length l) (sym e) (let s = shrinks [] in omega arith)
  rounds_end (suc n) xs h =
      let s = shrinks xs in
      either (eqb (length (round xs)) (length xs))
      (λ t. rw (t, rounds) (eqb-true (length (round xs)) (length xs) t))
      (λ f. rw (f, rounds) (rounds_end n (round xs) (omega (arith, eqb-false (length (round xs)) (length xs) f))))

  pub rounds_within : ((xs : List ℕ) (x : ℕ) → Memᴰ x (round xs) → Memᴰ x xs) → (n : ℕ) (xs : List ℕ) {x : ℕ}
      → Memᴰ x (rounds round n xs) → Memᴰ x xs
  unfolding rounds
  rounds_within w zero xs m = m
  rounds_within w (suc n) xs {x} m =
      either (eqb (length (round xs)) (length xs))
      (λ t. rw (t, rounds) at m)
      (λ f. w xs x (rounds_within w n (round xs) (rw (f, rounds) at m)))

-- What each round keeps stays.
rounds_above : (round : List ℕ → List ℕ) (ys : List ℕ)
    → ((xs : List ℕ) → ((i : ℕ) → Memᴰ i ys → Memᴰ i xs) → (i : ℕ) → Memᴰ i ys → Memᴰ i (round xs))
    → (n : ℕ) (xs : List ℕ) → ((i : ℕ) → Memᴰ i ys → Memᴰ i xs)
    → (i : ℕ) → Memᴰ i ys → Memᴰ i (rounds round n xs)
unfolding rounds
rounds_above round ys h zero xs w i m = w i m
rounds_above round ys h (suc n) xs w i m =
    either (eqb (length (round xs)) (length xs)) (λ t. rw (t, rounds) (w i m))
    (λ f. rw (f, rounds) (rounds_above round ys h n (round xs) (h xs w) i m))

module _ (g : Grammar) (d : ℕ) (rs : List (RuleOf (Block (suc d)))) (hub : ℕ) (ps : List (Planned d)) (cycle preserved : List ℕ) where
  abbrev gone : List ℕ
  gone = removable_satellites g d rs hub ps cycle preserved

  round_shrinks : (xs : List ℕ) → length (removable_round g d rs hub ps xs) ≤ length xs
  unfolding removable_round
  round_shrinks xs = keep_short (λ i. not (member i (calls_kept g d rs hub ps xs))) xs

  round_within : (xs : List ℕ) (x : ℕ) → Memᴰ x (removable_round g d rs hub ps xs) → Memᴰ x xs
  unfolding removable_round
  round_within xs x m = (in_keep (λ i. not (member i (calls_kept g d rs hub ps xs))) xs m).0

  -- A removable rule is called by none that stays.
  pub removable_uncalled : {i : ℕ} → Memᴰ i gone → member i (calls_kept g d rs hub ps gone) ≡ false
  unfolding removable_satellites removable_round
  removable_uncalled {i} m =
      let start = keep (λ i. not (eqb i hub || member i preserved)) cycle in
      let e =
      rounds_end (removable_round g d rs hub ps) round_shrinks (length cycle) start
      (keep_short (λ i. not (eqb i hub || member i preserved)) cycle) in
      not-true _ (keep_all (λ i. not (member i (calls_kept g d rs hub ps gone))) gone e m)

  -- It is a member of the cycle, not the hub and not preserved.
  pub removable_satellite : {i : ℕ} → Memᴰ i gone → Memᴰ i cycle × ((eqb i hub || member i preserved) ≡ false)
  unfolding removable_satellites
  removable_satellite {i} m =
      let r =
      rounds_within (removable_round g d rs hub ps) round_shrinks round_within (length cycle)
      (keep (λ i. not (eqb i hub || member i preserved)) cycle) m in
      let k = in_keep (λ i. not (eqb i hub || member i preserved)) cycle r in
      (k.0, not-true (eqb i hub || member i preserved) k.1)

  -- It is the most: a set of such members that no rule outside the set calls is removable.
  pub calls_fewer : {xs ys : List ℕ} → ((i : ℕ) → Memᴰ i xs → Memᴰ i ys) → {i : ℕ} → Memᴰ i (calls_kept g d rs hub ps ys)
      → Memᴰ i (calls_kept g d rs hub ps xs)
  unfolding calls_kept
  calls_fewer {xs} {ys} h {i} m =
      ⊎_elim (λ n. Memᴰ.append_left (each (λ r. collect_calls_into g (suc d) r.body) (keep (stays xs) rs)) n)
      (λ n.
      let (r, k, c) = each_in (λ r. collect_calls_into g (suc d) r.body) (keep (stays ys) rs) n in
      let (there, t) = in_keep (stays ys) rs k in
      Memᴰ.append_right (each (λ p. collect_calls_in_elements g d p.elements) ps)
      (in_each (λ r. collect_calls_into g (suc d) r.body) (keep_in (stays xs) there (fewer r (not-true _ t))) c))
      (Memᴰ.append_cases (each (λ p. collect_calls_in_elements g d p.elements) ps) m)
    where
      stays : List ℕ → RuleOf (Block (suc d)) → Bool
      stays zs r = not (member r.id zs || eqb r.id hub)

      fewer : (r : RuleOf (Block (suc d))) → (member r.id ys || eqb r.id hub) ≡ false → stays xs r ≡ true
      fewer r f =
          let (a, b) = or_parts (member r.id ys) (eqb r.id hub) f in
          let c = either (member r.id xs) (λ t. absurd (not_in r.id ys a (h r.id (member_in xs t)))) (λ n. n) in
          ap not (ap (λ z. z || eqb r.id hub) c ∙ b)

  pub removable_most : (xs : List ℕ) → ((i : ℕ) → Memᴰ i xs → Memᴰ i cycle × ((eqb i hub || member i preserved) ≡ false))
      → ((i : ℕ) → Memᴰ i xs → Memᴰ i (calls_kept g d rs hub ps xs) → ⊥) → (i : ℕ) → Memᴰ i xs → Memᴰ i gone
  unfolding removable_satellites removable_round
  removable_most xs h u =
      rounds_above (removable_round g d rs hub ps) xs
      (λ ys w i m.
      keep_in (λ i. not (member i (calls_kept g d rs hub ps ys))) (w i m)
      (ap not (either (member i (calls_kept g d rs hub ps ys))
      (λ t. absurd (u i m (calls_fewer w (member_in (calls_kept g d rs hub ps ys) t)))) (λ n. n))))
      (length cycle) (keep (λ i. not (eqb i hub || member i preserved)) cycle)
      (λ i m. let (c, f) = h i m in keep_in (λ i. not (eqb i hub || member i preserved)) c (ap not f))
