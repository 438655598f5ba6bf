-- The readings of DOTS in `e: a? DOTS | INT; a: e PLUS | ;`, one by one, and what the plan makes of them.
use Rattle.std.specs.Prelude.{ℕ, ◌≡◌, refl, ◌⊎◌, true}
use Rattle.std.proofs.Math.Path.{sym, ap, subst₃}
use Rattle.std.proofs.Common.{◌∙◌, subst, inl, inr, ⊎_elim, arith}
use Rattle.std.proofs.Math.Logic.{⊎_map}
use mathlib.Core.List.Memᴰ
use mathlib.Core.List.{List, [], ◌∷◌, ◌++◌, map, Memᴰ}
use Rattle.std.proofs.Math.Option.{some, some-injective}
use Rattle.grammar.specs.Valid.{valid}
use Rattle.grammar.specs.Tree.{Rule, body_depth}
use Rattle.grammar.specs.Corners.{Corners, rust, textbook}
use Rattle.grammar.specs.Laws.Parse.{never}
use Rattle.language.specs.Shape.{Symbol, token_symbol, Word, Shape, call_of, seqs, alts, Shapes, quantified, erase_leaf, erase_element}
use Rattle.language.specs.Shape.{erase_block, find}
use Rattle.language.specs.Derive.{d_eps, d_symbol, d_call, d_seq, d_left, d_right, d_absent, d_present, RuleDerives}
use Rattle.language.specs.Readings.{Tree, t_eps, t_symbol, t_call, t_seq, t_left, t_right, t_absent, t_present, Choice, first, next, absent}
use Rattle.language.specs.Readings.{present, choices, yield, tree_of}
use Rattle.language.specs.Laws.Cover.{but_for_refl}
use Rattle.language.specs.Laws.Trees.Carry.{Covers, carry, Plain}
use Rattle.language.specs.Laws.Trees.Algebra.{fails}
use Rattle.language.specs.Laws.Trees.Replace.{swap_plain}
use Rattle.language.specs.Laws.Trees.Steps.{opened, call_open, open_yield}
use Rattle.language.specs.Laws.Trees.Removal.{stay_choices}
use Rattle.language.specs.Laws.Trees.Derivations.{string_of}
use Rattle.language.specs.Laws.Trees.Joined.{JoinedTrees, at_calls, joined_to, carried_hub}
use Rattle.language.specs.Laws.Trees.Told.{told_apart_lem, rules_told}
use Rattle.reference.specs.Substitute.{standard}
use Rattle.reference.specs.Run.{Stage, ended, eliminate_mutual_left_recursion}
use Rattle.reference.specs.Computed.{computed}
use Rattle.laws.specs.Examples.{doubling_hub, doubling, doubled}
use Rattle.laws.specs.Demands.Shape.{SameReadings}
use Rattle.laws.specs.Demands.Readings.{shapes_of, ReadingsTold, PlanReadings}
use Rattle.laws.specs.Demands.Run.{rules_of}
use Rattle.laws.specs.Demands.Examples.{dots, TwoReadings}
use Rattle.laws.specs.Running.Readings.{plan_readings_lem}
use Rattle.laws.specs.Proved.TwoTurns.{satellite, start, two_turns}

abbrev G : Shapes
G = shapes_of doubling.rules

-- The bodies of the two rules.
found_hub : find G 1 ≡ some (alts (map seqs start))
unfolding find erase_block erase_element erase_leaf quantified
found_hub = refl

pub found_satellite : find G 2 ≡ some (alts (map seqs satellite))
unfolding find erase_block erase_element erase_leaf quantified
found_satellite = refl

-- The choices of the two.
abbrev pub gone : List Choice
gone = first ∷ absent ∷ []

abbrev pub blank : List Choice
blank = first ∷ present ∷ next ∷ first ∷ []

-- A word that ends is not empty, and with one symbol more it is longer than one.
no_end : {A : Type 0} (u : Word) (a : Symbol) → u ++ (a ∷ []) ≡ [] → A
no_end [] a e = never cc
no_end (x ∷ u) a e = never cc

none_in_front : (u : Word) (a : Symbol) {b : Symbol} → u ++ (a ∷ []) ≡ b ∷ [] → u ≡ []
none_in_front [] a e = refl
none_in_front (x ∷ u) a e = no_end u a (let w : u ++ (a ∷ []) ≡ [] = cc in w)

-- The trees of the satellite that derive nothing.
blank_satellite : (x : Tree G (alts (map seqs satellite))) → yield x ≡ [] → choices x ≡ next ∷ first ∷ []
unfolding yield choices
blank_satellite (t_left (t_seq x (t_seq t_symbol t_eps))) e = no_end (yield x) (token_symbol 4) e
blank_satellite (t_right (t_left t_eps)) e = refl
blank_satellite (t_right (t_right x)) e = absurd (fails x)

blank_call : (c : Tree G (call_of 2)) → yield c ≡ [] → choices c ≡ next ∷ first ∷ []
unfolding choices
blank_call c e =
    sym (ap choices (call_open 2 found_satellite c))
    ∙ blank_satellite (opened 2 found_satellite c) (open_yield 2 found_satellite c ∙ e)

-- Every tree of DOTS is one of the two.
two_trees : (x : Tree G (alts (map seqs start))) → yield x ≡ dots → (choices x ≡ gone) ⊎ (choices x ≡ blank)
unfolding yield choices
two_trees (t_left (t_seq t_absent (t_seq t_symbol t_eps))) e = inl refl
two_trees (t_left (t_seq (t_present c) (t_seq t_symbol t_eps))) e =
    inr (ap (λ l. first ∷ present ∷ (l ++ [])) (blank_call c (none_in_front (yield c) (token_symbol 5) e)))
two_trees (t_right (t_left (t_seq t_symbol t_eps))) e = absurd (let z : ◌≡◌ {A = ℕ} 3 5 = cc in omega arith)
two_trees (t_right (t_right x)) e = absurd (fails x)

-- Whatever the body is called.
pub two_derivations : (x : RuleDerives body_depth doubling.rules 1 dots)
    → (choices (tree_of x.tree) ≡ gone) ⊎ (choices (tree_of x.tree) ≡ blank)
unfolding find erase_block erase_element erase_leaf quantified
two_derivations x =
    subst (λ s. (z : Tree G s) → yield z ≡ dots → (choices z ≡ gone) ⊎ (choices z ≡ blank))
    (some-injective (alts (map seqs start)) x.body x.found) two_trees (tree_of x.tree) (string_of x.tree)

-- The two: a absent, and a there and empty.
unfoldable pub without : RuleDerives body_depth doubling.rules 1 dots
unfolding find erase_block erase_element erase_leaf quantified
without =
    record {
      body = alts (map seqs start);
      found = refl;
      tree = d_left (d_seq refl d_absent (d_seq refl d_symbol d_eps));
    }

unfoldable pub empty : RuleDerives body_depth doubling.rules 1 dots
unfolding find erase_block erase_element erase_leaf quantified
empty =
    record {
      body = alts (map seqs start);
      found = refl;
      tree = d_left (d_seq refl (d_present (d_call found_satellite (d_right (d_left d_eps)))) (d_seq refl d_symbol d_eps));
    }

-- They choose so.
pub chosen : (choices (tree_of without.tree) ≡ gone) × (choices (tree_of empty.tree) ≡ blank)
unfolding without empty choices tree_of
chosen = (refl, refl)

-- What the plan makes of a tree with such choices.
abbrev Made : {H m : ℕ} {L : Shapes} {P : ℕ → Type 0} → JoinedTrees H m G L P → (n : ℕ) → Type 0
Made j n =
    (z : Tree G (call_of n)) → ((choices z ≡ gone) → choices (carry (at_calls j) z) ≡ next ∷ next ∷ first ∷ [])
    × ((choices z ≡ blank) → choices (carry (at_calls j) z) ≡ next ∷ first ∷ [])

-- They call no hub, so that what is carried chooses alike.
carried : {K : Shapes} (c : Covers G K) → Plain 1 c → find K 2 ≡ some (alts (map seqs satellite)) → (s : Shape)
    → alts (map seqs start) ≡ s → (x : Tree G s)
    → ((choices x ≡ gone) → choices (carry c x) ≡ gone) × ((choices x ≡ blank) → choices (carry c x) ≡ blank)
unfolding choices carry
carried {K} c plain f s q =
    subst (λ s. (x : Tree G s) → ((choices x ≡ gone) → choices (carry c x) ≡ gone) × ((choices x ≡ blank) → choices (carry c x) ≡ blank)) q
    (λ x. (
      λ h.
          let y : Tree G (alts (map seqs start)) = t_left (t_seq t_absent (t_seq t_symbol t_eps)) in
          ap (λ z. choices (carry c z)) (told_apart_lem x y h),
      λ h.
          let d : Tree G (alts (map seqs satellite)) = t_right (t_left t_eps) in
          let y : Tree G (alts (map seqs start)) = t_left (t_seq (t_present (t_call found_satellite d)) (t_seq t_symbol t_eps)) in
          ap (λ z. choices (carry c z)) (told_apart_lem x y h)
          ∙ ap (λ z. first ∷ present ∷ (choices z ++ []))
          (plain.calls 2 (alts (map seqs satellite)) (λ e. absurd (omega arith)) found_satellite f (carry c d)),
    ))

made : {L : Shapes} {P : ℕ → Type 0} (j : JoinedTrees 1 2 G L P) → Made j 1
unfolding choices
made j z =
    let e = j.old_body in
    let x = opened 1 e z in
    let ne : ◌≡◌ {A = ℕ} 2 1 → ⊥ = λ n. absurd (omega arith) in
    let is : choices z ≡ choices x = sym (ap choices (call_open 1 e z)) in
    let moved : choices (carry (at_calls j) z) ≡ choices (j.bodies.to j.replaced j.only_hub (carry (at_calls j) x)) =
    ap (λ y. choices (carry (at_calls j) y)) (sym (call_open 1 e z)) ∙ ap choices (carried_hub j x) in
    let old = some-injective (alts (map seqs start)) j.old (sym found_hub ∙ e) in
    let below = carried (at_calls j) (swap_plain (but_for_refl 1 G) j.only_hub e j.new_body j.bodies)
    (j.only_hub.others 2 ne ∙ found_satellite) j.old old x in
    let turned = two_turns G found_satellite j.turns (sym old) in (
      λ h. moved ∙ turned.0 j.replaced j.only_hub (carry (at_calls j) x) (below.0 (sym is ∙ h)),
      λ h. moved ∙ turned.1 j.replaced j.only_hub (carry (at_calls j) x) (below.1 (sym is ∙ h)),
    )

-- Whatever the hub's name and the number of steps are called.
made_named : {H m n : ℕ} {L : Shapes} {P : ℕ → Type 0} → 1 ≡ H → 2 ≡ m → 1 ≡ n → (j : JoinedTrees H m G L P) → Made j n
made_named {L = L} {P = P} h m n = subst₃ (λ H m n. (j : JoinedTrees H m G L P) → Made j n) h m n made

-- What is paired with a derivation that has such choices.
module _ {t : Stage} (hub : t.plan.hub ≡ 1) (steps : t.plan.steps ≡ 2) {r : SameReadings doubling.rules doubled}
    (told : PlanReadings doubling.rules t doubled r) (m : Memᴰ doubling_hub doubling.rules) (q : Rule) (n : Memᴰ q doubled)
    (e : q.id ≡ 1) (w : Word) (x : RuleDerives body_depth doubling.rules 1 w) where
  hub_name : 1 ≡ told.plan.hub.name
  hub_name =
      ⊎_elim (λ e. sym (ap (λ r. r.name) e))
      (λ m.
      ⊎_elim (λ e. absurd (let i = sym (ap (λ r. r.id) e) ∙ told.plan.is_hub ∙ hub in omega arith))
      (λ m. absurd (Memᴰ.not-nil m)) (Memᴰ.cases_cons m))
      (Memᴰ.cases_cons told.plan.is_rule)

  abbrev made_of : RuleDerives body_depth doubled q.id w
  made_of = (r.pairs doubling_hub q m n e w).fun x

  paired : ((choices (tree_of x.tree) ≡ gone) → choices (tree_of made_of.tree) ≡ next ∷ next ∷ first ∷ [])
      × ((choices (tree_of x.tree) ≡ blank) → choices (tree_of made_of.tree) ≡ next ∷ first ∷ [])
  unfolding choices
  paired =
      let y = told.rules doubling_hub q m n e in
      let j = told.plan.trees in
      let (z, before, after) = y.becomes w x in
      let c = made_named hub_name (sym steps) (sym y.same_name) j z in
      let is : choices (tree_of made_of.tree) ≡ choices (carry (at_calls j) z) =
      sym (ap choices after.is_tree) ∙ ap choices (joined_to j (call_of q.name) y.stays z)
      ∙ stay_choices j.left (carry (at_calls j) z) y.stays in
      (λ h. is ∙ c.0 (ap choices before.is_tree ∙ h), λ h. is ∙ c.1 (ap choices before.is_tree ∙ h))

-- What a run pairs with the two, if the rules that it leaves are these.
abbrev Pairs : Stage → List Rule → Type 0
Pairs t ks =
    (r : SameReadings doubling.rules ks) → ReadingsTold doubling.rules (t ∷ []) ks r
    → (m : Memᴰ doubling_hub doubling.rules) (q : Rule) (n : Memᴰ q ks) (e : q.id ≡ 1)
    → (choices (tree_of ((r.pairs doubling_hub q m n e dots).fun without).tree) ≡ next ∷ next ∷ first ∷ [])
    × (choices (tree_of ((r.pairs doubling_hub q m n e dots).fun empty).tree) ≡ next ∷ first ∷ [])

module _ (corners : Corners) (t : Stage) (hub : t.plan.hub ≡ 1) (steps : t.plan.steps ≡ 2) where
  run_pairs : Pairs t doubled
  run_pairs r told m q n e =
      let p = plan_readings_lem told in
      ((paired hub steps p m q n e dots without).0 chosen.0, (paired hub steps p m q n e dots empty).1 chosen.1)

  readings_of : eliminate_mutual_left_recursion standard corners doubling ≡ ended (t ∷ []) → rules_of doubling (t ∷ []) ≡ doubled
      → valid doubling ≡ true → TwoReadings corners
  readings_of run answer v =
      let pairs : Pairs t (rules_of doubling (t ∷ [])) = subst (Pairs t) (sym answer) run_pairs in
      record {
        is_valid = v;
        stages = t ∷ [];
        run = run;
        answer = answer;
        without = without;
        without_chooses = chosen.0;
        empty = empty;
        empty_chooses = chosen.1;
        no_more = λ x.
            ⊎_map (λ h. rules_told body_depth doubling.rules 1 dots x without (h ∙ sym chosen.0))
            (λ h. rules_told body_depth doubling.rules 1 dots x empty (h ∙ sym chosen.1)) (two_derivations x);
        without_paired = λ d m q n e. (pairs d.same_readings d.readings_told m q n e).0;
        empty_paired = λ d m q n e. (pairs d.same_readings d.readings_told m q n e).1;
      }

-- By computation of the run, in both readings of left corners.
pub two_readings_lem : (corners : Corners) → TwoReadings corners
unfolding computed
two_readings_lem rust = readings_of rust _ refl refl refl refl refl
two_readings_lem textbook = readings_of textbook _ refl refl refl refl refl
