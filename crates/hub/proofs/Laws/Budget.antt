-- The budget: how many alternatives a rule has, and the sum over the members.
use Prim.Native.Nat.{ℕ, zero, suc, ◌+◌, ◌*◌, ◌≤◌, max}
use mathlib.Core.Path.{◌≡◌, refl, sym, ap, ap₂, ◌∙◌, subst}
use mathlib.Core.List.{List, [], ◌∷◌, map}
use mathlib.Core.Bool.{Bool, true, false}
use native.Mathlib.Omega.{arith}
use native.Mathlib.Nat.{mul-le-mul}
use native.Mathlib.Numerals.{add-one}
use lib.ListN.{length, get_or, length-append}
use Rattle.grammar.specs.Numbers.{most_words, rule_limit}
use Rattle.grammar.specs.Tree.{AlternativeOf, Block, Rule, body_depth, inner_depth}
use Rattle.grammar.specs.Encode.{encode_alternative, encode_block, encode_alternative_in}
use Rattle.grammar.specs.Lists.{each, member, keep, push, total}
use Rattle.grammar.specs.Found.{FoundRule, RuleSpans}
use Rattle.grammar.specs.Laws.Stands.{stands_length}
use Rattle.grammar.specs.Laws.Opened.{rule_words_lem}
use Rattle.reference.specs.Substitute.{substitution_budget}
use Rattle.records.specs.declared.rules.Rules.{Rules}
use Rattle.reach.specs.Rows.{bit}
use Rattle.analysis.specs.Facts.{Among, Standing}
use Rattle.analysis.proofs.Laws.Agree.{behind}
use Rattle.analysis.proofs.Laws.Standing.{all_rules, id_at, key_at, rule_spans}
use Rattle.hub.specs.Grounds.{rules_of, IsCycle}
use Rattle.hub.specs.Budget.{amount, sum_below, counts, Summed, IsBudget}
use Rattle.hub.proofs.Laws.Grounds.{row_bit, at_place, place_low}

-- How many alternatives the rule at a place has, if it is to be counted.
pub record Counted (ws : List ℕ) (end at : ℕ) (on : Bool) (r : ℕ) : Type 0 where
  pub is : (t : Rule) (q : ℕ) → RuleSpans ws end body_depth at t q → r ≡ amount on (length t.body)
  pub low : r ≤ end

-- An alternative takes a word at least.
words_of : (d : ℕ) (as' : List (AlternativeOf (Block d))) → length as' ≤ length (each (encode_alternative (encode_block d)) as')
unfolding encode_alternative_in
words_of d [] = omega arith
words_of d (a ∷ as') =
    let h = words_of d as' in
    let l = length-append (encode_alternative (encode_block d) a) (each (encode_alternative (encode_block d)) as') in
    omega arith

module _ {ws : List ℕ} {end at : ℕ} {on : Bool} where
  pub count_none : on ≡ false → Counted ws end at on 0
  count_none f = record { is = λ t q s. rw f refl; low = omega arith }

  pub count_word : {w : ℕ} → FoundRule ws end at → on ≡ true → w ≡ get_or ws (at + 3) 0 → Counted ws end at on w
  count_word {w} f t e =
      record {
        is = λ x q s. rw t (e ∙ (rule_words_lem inner_depth s).count);
        low =
            let o = rule_words_lem inner_depth f.spans in
            let l = stands_length o.alternatives.stands in
            let m = words_of inner_depth f.tree.body in
            let c = o.count in
            omega arith;
      }

module _ {ws : List ℕ} {end : ℕ} {places members : List ℕ} where
  pub sum_none : Summed ws end places members 0 0
  unfolding sum_below
  sum_none = record { is = λ rules s e l. refl; low = omega arith }

  module _ {i r : ℕ} (g : Summed ws end places members i r) where
    pub sum_more : {at c more : ℕ} {on : Bool} → end ≤ most_words → at ≡ get_or places i 0 → on ≡ bit members i → Counted ws end at on c
        → more ≡ r + c → Summed ws end places members (i + 1) more
    unfolding sum_below
    sum_more {at} {c} {more} {on} m p o d w = record { is = so; low = let a = g.low in let b = d.low in omega arith }
      where
        so : (rules : Rules) (s : Standing ws end rules) → rules.places ≡ places → i + 1 ≤ rules.n
            → more ≡ sum_below (λ k. amount (bit members k) (get_or (counts (rules_of ws end rules s)) k 0)) (i + 1)
        so rules s e l =
            let a = at_place s i (omega arith) in
            let z = rule_spans s.rows a in
            let there : at ≡ get_or rules.places i 0 = p ∙ ap (λ xs. get_or xs i 0) (sym e) in
            let own : c ≡ amount (bit members i) (get_or (counts (rules_of ws end rules s)) i 0) =
            d.is a.rule z.0 (rw there z.1) ∙ ap₂ amount o (sym (key_at (λ r. length r.body) 0 a)) in
            w ∙ rw (add-one i) (ap₂ ◌+◌ (g.is rules s e (omega arith)) own)

    pub sum_all : {n m : ℕ} → i ≤ n → n ≤ i → n ≡ m → Summed ws end places members m r
    sum_all {n} {m} l k e = let z : i ≡ m = omega arith in subst (λ x. Summed ws end places members x r) z g

    -- The square of the sum does not wrap.
    pub square_room : i ≤ rule_limit → r * r ≤ rule_limit * most_words * (rule_limit * most_words)
    square_room l =
        let h : r ≤ rule_limit * most_words = let a = g.low in omega arith in
        omega (arith, mul-le-mul h h)

pub ruleset summing = (sum_none, sum_all)

-- The sum over the rules that are kept.
sum_front : (f : ℕ → ℕ) (m : ℕ) → sum_below f (suc m) ≡ f 0 + sum_below (λ k. f (suc k)) m
unfolding sum_below
sum_front f zero = omega arith
sum_front f (suc m) = ap (λ x. x + f (suc m)) (sum_front f m) ∙ omega arith

sum_kept : (test : Rule → Bool) (rs : List Rule) (f : ℕ → ℕ)
    → ((i : ℕ) (a : Among rs i) → f i ≡ amount (test a.rule) (length a.rule.body))
    → sum_below f (length rs) ≡ total (map (λ r. length r.body) (keep test rs))
unfolding sum_below keep total
sum_kept test [] f h = refl
sum_kept test (r ∷ rs) f h =
    sum_front f (length rs)
    ∙ ap₂ ◌+◌ (h 0 (record { front = []; rule = r; rest = rs; parts = refl; count = refl }))
    (sum_kept test rs (λ k. f (suc k)) (λ i a. h (suc i) (behind r a)))
    ∙ pushed (test r) (keep test rs)
  where
    pushed : (b : Bool) (xs : List Rule)
        → amount b (length r.body) + total (map (λ r. length r.body) xs) ≡ total (map (λ r. length r.body) (push b r xs))
    pushed true xs = refl
    pushed false xs = omega arith

module _ {ws : List ℕ} {end : ℕ} {rules : Rules} {members : List ℕ} {n : ℕ}
    (g : Summed ws end rules.places members rules.n n) where
  module _ (s : Standing ws end rules) {cycle : List ℕ} (cy : IsCycle ws end rules s cycle members) where
    alternatives_are : n ≡ total (map (λ r. length r.body) (keep (λ r. member r.id cycle) (rules_of ws end rules s)))
    alternatives_are =
        g.is rules s refl (omega arith)
        ∙ ap (sum_below (λ k. amount (bit members k) (get_or (counts (rules_of ws end rules s)) k 0))) (all_rules s.rows)
        ∙ sum_kept (λ r. member r.id cycle) (rules_of ws end rules s)
        (λ k. amount (bit members k) (get_or (counts (rules_of ws end rules s)) k 0))
        (λ i a.
        ap₂ amount (row_bit cy.row (place_low s a) ∙ ap (λ x. member x cycle) (id_at s.rows a)) (key_at (λ r. length r.body) 0 a))

  pub budget_is : {floor r : ℕ} → r ≡ max floor (n * n) → IsBudget ws end rules members floor r
  unfolding substitution_budget
  budget_is m = record { is = λ s limits e cycle cy. rw (← (alternatives_are s cy)) (omega arith) }
