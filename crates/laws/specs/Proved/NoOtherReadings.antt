-- What cannot be said of readings, on the sheet `e: a? DOTS | INT; a: e PLUS | ;`.
use Rattle.std.specs.Prelude.{ℕ, ◌≡◌, refl, ◌↔◌, List, [], ◌∷◌, ◌++◌, map}
use Rattle.std.proofs.Common.{sym, ap, ◌∙◌, subst, subst₂, ⊎_elim, arith, ne_eqb}
use Rattle.std.proofs.Math.Path.{path_j}
use mathlib.Core.Logic.Iff
use mathlib.Core.List.Memᴰ
use mathlib.Core.Equiv.{Iso}
use Rattle.std.proofs.Math.Option.{some, some-injective, none-ne-some}
use Rattle.grammar.specs.Lists
use Rattle.grammar.specs.Corners.{rust}
use Rattle.grammar.specs.Tree.{body_depth}
use Rattle.grammar.specs.Laws.Parse.{never}
use Rattle.language.specs.Shape.{Symbol, token_symbol, Word, Shape, symbol, call_of, seqs, alts, Shapes, quantified, erase_leaf}
use Rattle.language.specs.Shape.{erase_element}
use Rattle.language.specs.Shape.{erase_block, find}
use Rattle.language.specs.Derive.{d_eps, d_symbol, d_call, d_seq, d_left, d_right, RuleDerives}
use Rattle.language.specs.Readings.{Tree, t_eps, t_symbol, t_call, t_unknown, t_seq, t_left, t_right, Choice, first, next, choices, yield}
use Rattle.language.specs.Readings.{tree_of}
use Rattle.language.specs.Laws.Cover.{Within, SameStrings, replacement, find_next}
use Rattle.language.specs.Laws.Rules.{rule_derives}
use Rattle.language.specs.Laws.Trees.Algebra.{fails}
use Rattle.language.specs.Laws.Trees.Derivations.{string_of}
use Rattle.language.specs.Laws.Trees.Told.{rules_told}
use Rattle.reference.specs.Substitute.{standard}
use Rattle.laws.specs.Examples.{doubling_hub, doubling, doubled, merged}
use Rattle.laws.specs.Demands.Shape as Shape
use Rattle.laws.specs.Demands.Readings.{shapes_of}
use Rattle.laws.specs.Demands.Examples.{Filled, slotless, OneWithoutSlots, dots, NoOtherReadings}
use Rattle.laws.specs.Running.Stages.{valid_told}
use Rattle.laws.specs.Proved.Demand3.{demand3}
use Rattle.laws.specs.Proved.TwoReadings.{found_satellite, gone, blank, without, empty, chosen, two_derivations, two_readings_lem}

-- The alternatives of e after the run, and without one of the two equal ones.
abbrev dot : List Shape
dot = symbol (token_symbol 5) ∷ []

abbrev int : List Shape
int = symbol (token_symbol 3) ∷ []

abbrev both : List (List Shape)
both = (call_of 1 ∷ symbol (token_symbol 4) ∷ dot) ∷ dot ∷ dot ∷ int ∷ []

abbrev one : List (List Shape)
one = (call_of 1 ∷ symbol (token_symbol 4) ∷ dot) ∷ dot ∷ int ∷ []

found_both : find (shapes_of doubled) 1 ≡ some (alts (map seqs both))
unfolding find erase_block erase_element erase_leaf quantified
found_both = refl

found_one : find (shapes_of merged) 1 ≡ some (alts (map seqs one))
unfolding find erase_block erase_element erase_leaf quantified
found_one = refl

-- Each derives what the other does.
dropped : (X : Shapes) → Within X (alts (map seqs both)) X (alts (map seqs one))
dropped X w (d_left x) = d_left x
dropped X w (d_right (d_left x)) = d_right (d_left x)
dropped X w (d_right (d_right (d_left x))) = d_right (d_left x)
dropped X w (d_right (d_right (d_right x))) = d_right (d_right x)

doubles : (X : Shapes) → Within X (alts (map seqs one)) X (alts (map seqs both))
doubles X w (d_left x) = d_left x
doubles X w (d_right (d_left x)) = d_right (d_left x)
doubles X w (d_right (d_right x)) = d_right (d_right (d_right x))

same_shapes : SameStrings (shapes_of doubled) (shapes_of merged)
unfolding find erase_block erase_element erase_leaf quantified
same_shapes =
    replacement {H = 1} (record {
      others = λ n ne.
          let f = ne_eqb 1 n (λ e. ne (sym e)) in
          find_next _ [] n f ∙ sym (find_next _ [] n f);
    }) found_both found_one (dropped (shapes_of merged)) (doubles (shapes_of doubled))

-- So the rule derives the same strings in both, and those that it derived before the run.
both_one : (w : Word) → RuleDerives body_depth doubled 1 w ↔ RuleDerives body_depth merged 1 w
unfolding Lists.distinct Lists.member
both_one w =
    let a = rule_derives body_depth doubled refl refl (Memᴰ.head refl) w in
    let b = rule_derives body_depth merged refl refl (Memᴰ.head refl) w in
    let s = same_shapes (call_of 1) in
    (λ x. b.1 (s.to w (a.0 x)), λ y. a.1 (s.back w (b.0 y)))

run_strings : Shape.SameStrings doubling.rules doubled
run_strings =
    let t = two_readings_lem rust in
    subst (Shape.SameStrings doubling.rules) t.answer
    (demand3 standard rust doubling (valid_told doubling t.is_valid) t.stages t.run).same_strings

same_strings_lem : Shape.SameStrings doubling.rules merged
same_strings_lem =
    record {
      derives = λ r q m n e w.
          let i : q.id ≡ 1 = ap (λ q. q.id) (Memᴰ.eq_of_singleton n) in
          subst₂ (λ i j. RuleDerives body_depth doubling.rules i w ↔ RuleDerives body_depth merged j w) (sym (sym e ∙ i)) (sym i)
          (Iff.trans (run_strings.derives doubling_hub _ (Memᴰ.head refl) (Memᴰ.head refl) refl w) (both_one w));
    }

-- But without one of the two equal alternatives DOTS has one reading.
no_two : {A : Type 0} (u : Word) (a b : Symbol) {c : Symbol} → u ++ (a ∷ b ∷ []) ≡ c ∷ [] → A
no_two [] a b e = never cc
no_two (x ∷ []) a b e = never cc
no_two (x ∷ y ∷ u) a b e = never cc

one_tree : (x : Tree (shapes_of merged) (alts (map seqs one))) → yield x ≡ dots → choices x ≡ next ∷ first ∷ []
unfolding yield choices
one_tree (t_left (t_seq x (t_seq t_symbol (t_seq t_symbol t_eps)))) e = no_two (yield x) (token_symbol 4) (token_symbol 5) e
one_tree (t_right (t_left (t_seq t_symbol t_eps))) e = refl
one_tree (t_right (t_right (t_left (t_seq t_symbol t_eps)))) e = absurd (let z : ◌≡◌ {A = ℕ} 3 5 = cc in omega arith)
one_tree (t_right (t_right (t_right x))) e = absurd (fails x)

one_derivation : (y : RuleDerives body_depth merged 1 dots) → choices (tree_of y.tree) ≡ next ∷ first ∷ []
unfolding find erase_block erase_element erase_leaf quantified
one_derivation y =
    subst (λ s. (z : Tree (shapes_of merged) s) → yield z ≡ dots → choices z ≡ next ∷ first ∷ [])
    (some-injective (alts (map seqs one)) y.body y.found) one_tree (tree_of y.tree) (string_of y.tree)

two_apart : without ≡ empty → ⊥
two_apart e =
    let h : gone ≡ blank = sym chosen.0 ∙ ap (λ x. choices (tree_of x.tree)) e ∙ chosen.1 in
    never cc

reading_lost_lem : Shape.SameReadings doubling.rules merged → ⊥
reading_lost_lem r =
    let i = r.pairs doubling_hub _ (Memᴰ.head refl) (Memᴰ.head refl) refl dots in
    let same = rules_told body_depth merged 1 dots (i.fun without) (i.fun empty)
    (one_derivation (i.fun without) ∙ sym (one_derivation (i.fun empty))) in
    two_apart (sym (i.linv without) ∙ ap i.inv same ∙ i.linv empty)

-- Where no optional is there and empty, one reading is left before.
Before : Type 0
Before = (x : RuleDerives body_depth doubling.rules 1 dots) × Filled (tree_of x.tree)

left_one : Before
unfolding Before without tree_of Filled
left_one = (without, (tt, (tt, tt)))

no_empty : Filled (tree_of empty.tree) → ⊥
unfolding empty tree_of Filled yield
no_empty f = f.0.0 refl

only_left : (x : Before) → left_one ≡ x
unfolding Before left_one
only_left (x, f) =
    ⊎_elim (λ h. go (rules_told body_depth doubling.rules 1 dots without x (chosen.0 ∙ sym h)) f)
    (λ h.
    let e = rules_told body_depth doubling.rules 1 dots x empty (h ∙ sym chosen.1) in
    absurd (no_empty (subst (λ x. Filled (tree_of x.tree)) e f)))
    (two_derivations x)
  where
    go : {x : RuleDerives body_depth doubling.rules 1 dots} → without ≡ x → (f : Filled (tree_of x.tree)) → left_one ≡ (x, f)
    go e = path_j (λ x e. (f : Filled (tree_of x.tree)) → left_one ≡ (x, f)) (λ f. refl) e

-- After, both are.
After : Type 0
After = (y : RuleDerives body_depth doubled 1 dots) × Filled (tree_of y.tree)

second : After
unfolding After tree_of Filled
second = (record { body = alts (map seqs both); found = found_both; tree = d_right (d_left (d_seq refl d_symbol d_eps)) }, (tt, tt))

third : After
unfolding After tree_of Filled
third =
    (record { body = alts (map seqs both); found = found_both; tree = d_right (d_right (d_left (d_seq refl d_symbol d_eps))) }, (tt, tt))

after_apart : second ≡ third → ⊥
unfolding After second third tree_of choices
after_apart e =
    let h : ◌≡◌ {A = List Choice} (next ∷ first ∷ []) (next ∷ next ∷ first ∷ []) = ap (λ (y : After). choices (tree_of y.0.tree)) e in
    never cc

not_filled_lem : Iso Before After → ⊥
not_filled_lem i =
    after_apart (sym (i.rinv second) ∙ ap i.fun (sym (only_left (i.inv second)) ∙ only_left (i.inv third)) ∙ i.rinv third)

-- Without slots the readings after are one.
slotless_tree : (x : Tree (shapes_of doubled) (alts (map seqs both))) → yield x ≡ dots → slotless (choices x) ≡ []
unfolding yield choices slotless
slotless_tree (t_left (t_seq x (t_seq t_symbol (t_seq t_symbol t_eps)))) e = no_two (yield x) (token_symbol 4) (token_symbol 5) e
slotless_tree (t_right (t_left (t_seq t_symbol t_eps))) e = refl
slotless_tree (t_right (t_right (t_left (t_seq t_symbol t_eps)))) e = refl
slotless_tree (t_right (t_right (t_right (t_left (t_seq t_symbol t_eps))))) e = absurd (let z : ◌≡◌ {A = ℕ} 3 5 = cc in omega arith)
slotless_tree (t_right (t_right (t_right (t_right x)))) e = absurd (fails x)

slotless_after : (y : RuleDerives body_depth doubled 1 dots) → slotless (choices (tree_of y.tree)) ≡ []
unfolding find erase_block erase_element erase_leaf quantified
slotless_after y =
    subst (λ s. (z : Tree (shapes_of doubled) s) → yield z ≡ dots → slotless (choices z) ≡ [])
    (some-injective (alts (map seqs both)) y.body y.found) slotless_tree (tree_of y.tree) (string_of y.tree)

not_before_lem : OneWithoutSlots doubling.rules → ⊥
unfolding slotless
not_before_lem h =
    let e : slotless gone ≡ slotless blank =
    sym (ap slotless chosen.0) ∙ h without empty ∙ ap slotless chosen.1 in
    never cc

-- A call of the rule that is removed derives nothing before, and never nothing after.
symbol_after : (z : Tree (shapes_of doubled) (call_of 2)) → yield z ≡ [] → ⊥
unfolding find erase_block erase_element erase_leaf quantified yield
symbol_after (t_call {b = b} e x) w = none-ne-some b e
symbol_after (t_unknown e) w = never cc

-- All of it.
pub no_other_readings_lem : NoOtherReadings
unfolding Before After
no_other_readings_lem =
    record {
      same_strings = same_strings_lem;
      reading_lost = reading_lost_lem;
      not_filled = not_filled_lem;
      one_after = λ x y. slotless_after x ∙ sym (slotless_after y);
      not_before = not_before_lem;
      not_all_shapes = λ h.
          let d = (h (call_of 2) []).fun (d_call found_satellite (d_right (d_left d_eps))) in
          symbol_after (tree_of d) (string_of d);
    }
