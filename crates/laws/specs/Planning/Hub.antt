-- The hub: what the walk over calls finds, which corners are settled outside the cycle, and which candidate comes first.
use Rattle.std.specs.Prelude.{ℕ, suc, ◌≡◌, eqb}
use Rattle.std.proofs.Math.Path.{refl, ap}
use Rattle.std.proofs.Common.{sym, ◌∙◌, subst}
use Rattle.std.proofs.Math.Logic.{inl, inr, ⊎_elim}
use mathlib.Core.List.Memᴰ
use mathlib.Core.List.{List, [], ◌∷◌, ◌++◌, map, Memᴰ}
use Rattle.std.proofs.Math.Option.{Option, none, some, none-ne-some}
use Rattle.std.proofs.Math.Bool.{Bool, true, false, not, true≢false}
use borrow.Author.Tests.{eq-eqb, not-true}
use Rattle.grammar.specs.Laws.Lists.{in_member, member_in}
use Rattle.grammar.specs.Lists.{member, any, keep, push, first, distinct}
use Rattle.grammar.specs.Tree.{AlternativeOf, Block, RuleOf}
use Rattle.grammar.specs.Laws.Parse.{either}
use Rattle.reference.specs.Analysis.{Grammar, rule_with_id, calls, collect_calls_into}
use Rattle.reference.specs.Plan.{corner_enters_cycle}
use Rattle.reference.specs.Plan.{externally_referenced, is_candidate, choose_hub}
use Rattle.laws.specs.Demands.Hub.{Candidate, Wanted, HubTold, wanted, unwanted, nobody}
use Rattle.graph.specs.Members.{in_keep, keep_in, each_in, in_each, one_with}
use Rattle.laws.specs.Lists.Lookup.{first_none, any_in, any_false, rule_with_id_lem}
use Rattle.laws.specs.Planning.HubCorners.{walk_calls, calls_walk, enters, entered}

-- The first of a list that passes two tests, and where it stands.
record FirstOf (p q : ℕ → Bool) (xs : List ℕ) (i : ℕ) : Type 0 where
  front : List ℕ
  rest : List ℕ
  whole : front ++ (i ∷ rest) ≡ xs
  passes : p i ≡ true
  passes_too : q i ≡ true
  others : (j : ℕ) → Memᴰ j front → p j ≡ true → q j ≡ true → ⊥

first_kept : (p q : ℕ → Bool) (xs : List ℕ) {i : ℕ} → first q (keep p xs) ≡ some i → FirstOf p q xs i
unfolding first keep
first_kept p q [] {i} e = absurd (none-ne-some i e)
first_kept p q (x ∷ xs) {i} e = go (p x) refl e (first_kept p q xs)
  where
    here : p x ≡ true → q x ≡ true → x ≡ i → FirstOf p q (x ∷ xs) i
    here k l same =
        subst (FirstOf p q (x ∷ xs)) same
        (record { front = []; rest = xs; whole = refl; passes = k; passes_too = l; others = λ j m. absurd (Memᴰ.not-nil m) })

    later : (p x ≡ true → q x ≡ true → ⊥) → FirstOf p q xs i → FirstOf p q (x ∷ xs) i
    later n f =
        record {
          front = x ∷ f.front;
          rest = f.rest;
          whole = ap (λ l. x ∷ l) f.whole;
          passes = f.passes;
          passes_too = f.passes_too;
          others = others;
        }
      where
        others : (j : ℕ) → Memᴰ j (x ∷ f.front) → p j ≡ true → q j ≡ true → ⊥
        others j (Memᴰ.head same) k l = n (ap p (sym same) ∙ k) (ap q (sym same) ∙ l)
        others j (Memᴰ.tail m) k l = f.others j m k l

    taken : p x ≡ true → (b : Bool) → q x ≡ b → (elim b as (λ y. Option ℕ) [ true ↦ some x | false ↦ first q (keep p xs) ]) ≡ some i
        → (first q (keep p xs) ≡ some i → FirstOf p q xs i) → FirstOf p q (x ∷ xs) i
    taken k true l e ih = here k l (cc)
    taken k false l e ih = later (λ u v. true≢false (sym v ∙ l)) (ih e)

    go : (b : Bool) → p x ≡ b → first q (push b x (keep p xs)) ≡ some i → (first q (keep p xs) ≡ some i → FirstOf p q xs i)
        → FirstOf p q (x ∷ xs) i
    go true k e ih = taken k (q x) refl e ih
    go false k e ih = later (λ u v. true≢false (sym u ∙ k)) (ih e)

module _ (g : Grammar) (cycle : List ℕ) (d : ℕ) (rs : List (RuleOf (Block (suc d)))) (preserved : List ℕ)
    (ids : distinct (map (λ r. r.id) rs) ≡ true) where
  candidate : (i : ℕ) → is_candidate g cycle d rs i ≡ true → Candidate g cycle d rs preserved i
  unfolding is_candidate
  candidate i e = go (rule_with_id rs i) refl e
    where
      go : (o : Option (RuleOf (Block (suc d)))) → rule_with_id rs i ≡ o
          → (elim o as (λ x. Bool) [ none ↦ false | some r ↦ any (λ a. not (corner_enters_cycle g cycle a.elements)) r.body ]) ≡ true
          → Candidate g cycle d rs preserved i
      go none k e = absurd (true≢false (sym e))
      go (some r) k e =
          let (m, same) = rule_with_id_lem rs i k in
          let (a, n, t) = any_in (λ a. not (corner_enters_cycle g cycle a.elements)) r.body e in
          record {
            rule = r;
            is_rule = m;
            has_id = same;
            way = a;
            is_way = n;
            settles = λ x. true≢false (sym t ∙ ap not (entered g cycle a.elements x));
          }

  is_candidate_lem : (i : ℕ) → Candidate g cycle d rs preserved i → is_candidate g cycle d rs i ≡ true
  unfolding is_candidate rule_with_id
  is_candidate_lem i x = go (rule_with_id rs i) refl
    where
      test : AlternativeOf (Block d) → Bool
      test a = not (corner_enters_cycle g cycle a.elements)

      settled : test x.way ≡ true
      settled =
          either (corner_enters_cycle g cycle x.way.elements) (λ t. absurd (x.settles (enters g cycle x.way.elements t)))
          (λ f. ap not f)

      go : (o : Option (RuleOf (Block (suc d)))) → rule_with_id rs i ≡ o
          → (elim o as (λ x. Bool) [ none ↦ false | some r ↦ any (λ a. not (corner_enters_cycle g cycle a.elements)) r.body ]) ≡ true
      go none k = absurd (true≢false (sym (eq-eqb x.rule.id i x.has_id) ∙ first_none (λ r. eqb r.id i) k x.is_rule))
      go (some r) k =
          let (m, same) = rule_with_id_lem rs i k in
          let one : x.rule ≡ r = one_with (λ r. r.id) rs ids x.is_rule m (x.has_id ∙ sym same) in
          either (any test r.body) (λ t. t)
          (λ f. absurd (true≢false (sym settled ∙ any_false test f (subst (λ r. Memᴰ x.way r.body) one x.is_way))))

  abbrev is_wanted : ℕ → Bool
  is_wanted i = member i (externally_referenced g cycle d rs ++ preserved)

  is_wanted_lem : (i : ℕ) → is_wanted i ≡ true → Wanted g cycle d rs preserved i
  unfolding externally_referenced
  is_wanted_lem i e =
      ⊎_elim
      (λ m.
      let (r, k, c) = each_in (λ r. collect_calls_into g (suc d) r.body) (keep (λ r. not (member r.id cycle)) rs) m in
      let (in-rs, out) = in_keep (λ r. not (member r.id cycle)) rs k in
      let (n, calls, known) = walk_calls g i (suc d) r.body c in
      inl (record { caller = r; is_rule = in-rs; is_outside = not-true (member r.id cycle) out; name = n; calls = calls; known = known }))
      (λ m. inr (in_member m))
      (Memᴰ.append_cases (externally_referenced g cycle d rs) (member_in (externally_referenced g cycle d rs ++ preserved) e))

  wanted_is : (i : ℕ) → Wanted g cycle d rs preserved i → is_wanted i ≡ true
  unfolding externally_referenced
  wanted_is i x =
      in_member
      (⊎_elim
      (λ c.
      Memᴰ.append_left preserved
      (in_each (λ r. collect_calls_into g (suc d) r.body) (keep_in (λ r. not (member r.id cycle)) c.is_rule (ap not c.is_outside))
      (calls_walk g i c.name c.known c.calls)))
      (λ m. Memᴰ.append_right (externally_referenced g cycle d rs) (member_in preserved m))
      x)

  abbrev candidates : List ℕ
  candidates = keep (is_candidate g cycle d rs) cycle

  none_wanted : first is_wanted candidates ≡ none → (j : ℕ) → Memᴰ j cycle → Candidate g cycle d rs preserved j
      → Wanted g cycle d rs preserved j → ⊥
  none_wanted e j m c w =
      true≢false (sym (wanted_is j w) ∙ first_none is_wanted e (keep_in (is_candidate g cycle d rs) m (is_candidate_lem j c)))

  pub hub_told_lem : HubTold g cycle d rs preserved (choose_hub g cycle d rs preserved)
  unfolding choose_hub
  hub_told_lem = choosing (first is_wanted candidates) refl
    where
      others : first is_wanted candidates ≡ none → (o : Option ℕ) → first (λ i. true) candidates ≡ o → HubTold g cycle d rs preserved o
      others e none k =
          nobody (λ j m c. true≢false (first_none (λ i. true) k (keep_in (is_candidate g cycle d rs) m (is_candidate_lem j c))))
      others e (some i) k =
          let f = first_kept (is_candidate g cycle d rs) (λ i. true) cycle k in
          unwanted f.front f.rest f.whole (candidate i f.passes) (λ j m c. f.others j m (is_candidate_lem j c) refl)
          (none_wanted e)

      choosing : (o : Option ℕ) → first is_wanted candidates ≡ o
          → HubTold g cycle d rs preserved (elim o as (λ x. Option ℕ) [ some i ↦ some i | none ↦ first (λ i. true) candidates ])
      choosing none e = others e (first (λ i. true) candidates) refl
      choosing (some i) e =
          let f = first_kept (is_candidate g cycle d rs) is_wanted cycle e in
          wanted f.front f.rest f.whole (candidate i f.passes) (is_wanted_lem i f.passes_too)
          (λ j m c w. f.others j m (is_candidate_lem j c) (wanted_is j w))
