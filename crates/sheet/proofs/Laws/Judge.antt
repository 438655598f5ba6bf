-- Tests of all the ids of one sort, and of one sort after the other.
use Prim.Native.Nat.{ℕ}
use mathlib.Core.Path.{◌≡◌, refl, sym, ap, ◌∙◌}
use mathlib.Core.List.{List}
use mathlib.Core.Bool.{Bool, true, false, ◌&&◌, and_assoc}
use lib.ListN.{length, take, length-map}
use lib.Seq.{take-append_seam}
use Rattle.grammar.specs.Tree as tree
use Rattle.grammar.specs.Tree.{Rule}
use Rattle.grammar.specs.Ids.{rule_ids, rule_names, body_ids, is_distinct, is_below}
use Rattle.grammar.specs.Lists.{distinct}
use Rattle.grammar.specs.Numbers.{alternative_sort, element_sort, label_sort, action_sort, predicate_sort}
use Rattle.records.specs.declared.rules.Rules.{Rules}
use Rattle.ids.specs.declared.survey.Survey.{Survey}
use Rattle.std.specs.Prelude.{Ok, Err}
use Rattle.words.specs.declared.numbers.Refusal.TheVariants.{SharedNumber, IdPastCounter}
use Rattle.sheet.specs.Verdict.{verdict}
use Rattle.ids.specs.Survey.{Surveyed, BodiesDistinct, all_under}
use Rattle.grammar.specs.Found.{FoundRules}
use Rattle.records.specs.Rules.{row, FoundRows}

all_below : {ws : List ℕ} {end n : ℕ} (c : tree.Counters) {v : Survey} {r : Bool} → Surveyed ws end n v → r ≡ all_under v c
    → (f : FoundRules ws end n 0) → r ≡ is_below c f.trees
unfolding is_below
all_below c s e f =
    e
    ∙ sym
    (rw (
      s.alternative_under.under f c.alternative,
      s.element_under.under f c.element,
      s.label_under.under f c.label,
      s.action_under.under f c.action,
      s.predicate_under.under f c.predicate,
    )
    refl)

-- the rows of the rules read
row_front : (xs : List ℕ) (n : ℕ) → n ≡ length xs → take n (row xs) ≡ xs
unfolding row
row_front xs n e = rw e (take-append_seam xs _)

pub ids_front : (rs : List Rule) {ids : List ℕ} {n : ℕ} → ids ≡ row (rule_ids rs) → n ≡ length rs → take n ids ≡ rule_ids rs
ids_front rs {n = n} e f = rw e (row_front (rule_ids rs) n (f ∙ sym (length-map rs _)))

pub names_front : (rs : List Rule) {names : List ℕ} {n : ℕ} → names ≡ row (rule_names rs) → n ≡ length rs → take n names ≡ rule_names rs
names_front rs {n = n} e f = rw e (row_front (rule_names rs) n (f ∙ sym (length-map rs _)))

-- the tests of the bodies
abbrev bodies : {ws : List ℕ} {end : ℕ} {rules : Rules} → FoundRows ws end rules → Bool
bodies f =
    distinct (body_ids alternative_sort f.found.trees)
    && (distinct (body_ids element_sort f.found.trees)
    && (distinct (body_ids label_sort f.found.trees)
    && (distinct (body_ids action_sort f.found.trees) && distinct (body_ids predicate_sort f.found.trees))))

module _ {ws : List ℕ} {end : ℕ} {rules : Rules} (f : FoundRows ws end rules) where
  module _ {a : Bool} (x : a ≡ (distinct (take rules.n rules.ids) && distinct (take rules.n rules.names))) where
    rows_are : a ≡ (distinct (rule_ids f.found.trees) && distinct (rule_names f.found.trees))
    rows_are =
        x ∙ rw (ids_front f.found.trees f.rows.ids f.rows.count, names_front f.found.trees f.rows.names f.rows.count) refl

    rows_shared : a ≡ false → false ≡ is_distinct f.found.trees
    unfolding is_distinct
    rows_shared h =
        ap (λ b. b && bodies f) (sym h ∙ rows_are)
        ∙ and_assoc (distinct (rule_ids f.found.trees)) (distinct (rule_names f.found.trees)) (bodies f)

    all_distinct : {c : Bool} → a ≡ true → BodiesDistinct ws end rules.n c → c ≡ is_distinct f.found.trees
    unfolding is_distinct
    all_distinct h z =
        z.is f.found
        ∙ ap (λ b. b && bodies f) (sym h ∙ rows_are)
        ∙ and_assoc (distinct (rule_ids f.found.trees)) (distinct (rule_names f.found.trees)) (bodies f)

-- the verdict
module _ {ws : List ℕ} {end : ℕ} {rules : Rules} (c : tree.Counters) {a : Bool}
    (x : a ≡ (distinct (take rules.n rules.ids) && distinct (take rules.n rules.names))) where
  pub rows_refused : a ≡ false → (f : FoundRows ws end rules) → Err SharedNumber ≡ verdict (is_distinct f.found.trees) (is_below c f.found.trees)
  rows_refused h f = rw (sym (rows_shared f x h)) refl

  module _ (h : a ≡ true) {b : Bool} (y : BodiesDistinct ws end rules.n b) where
    pub bodies_refused : b ≡ false → (f : FoundRows ws end rules)
        → Err SharedNumber ≡ verdict (is_distinct f.found.trees) (is_below c f.found.trees)
    bodies_refused k f = rw (sym (all_distinct f x h y) ∙ k) refl

    module _ (k : b ≡ true) {v : Survey} (s : Surveyed ws end rules.n v) {d : Bool} (z : d ≡ all_under v c) where
      pub below_refused : d ≡ false → (f : FoundRows ws end rules)
          → Err IdPastCounter ≡ verdict (is_distinct f.found.trees) (is_below c f.found.trees)
      below_refused l f = rw (sym (all_distinct f x h y) ∙ k, sym (all_below c s z f.found) ∙ l) refl

      pub all_good : d ≡ true → (f : FoundRows ws end rules)
          → Ok tt ≡ verdict (is_distinct f.found.trees) (is_below c f.found.trees)
      all_good l f = rw (sym (all_distinct f x h y) ∙ k, sym (all_below c s z f.found) ∙ l) refl

pub ruleset verdicts = (rows_refused, bodies_refused, below_refused, all_good)
