-- How many alternatives, elements and options a list means: as many as its sizes say.
use Rattle.std.specs.Prelude.{ℕ, ◌+◌, ◌-◌, ◌≡◌, List, [], ◌∷◌, ◌++◌, map, length}
use Rattle.std.proofs.Common.{ap, ◌∙◌}
use Rattle.std.proofs.lemmas.List.{map-append}
use native.Mathlib.Omega.{arith}
use Rattle.grammar.specs.Lists.{total}
use Rattle.reference.specs.Numbers.{most_alternatives}
use Rattle.reference.specs.Substitute.{PlannedAlternative}
use Rattle.planned.specs.Layout.{meaning, settled, stack}
use Rattle.planned.specs.List.{alternatives_in, elements_in, options_in, Laid}
use Rattle.planned.specs.Laws.Parts.{elements_count, options_count}
use Rattle.planned.specs.Laws.Runs.{run_count, run_elements, run_options}
use Rattle.planned.specs.declared.list.Sizes.{Sizes}
use Rattle.planned.specs.declared.list.Listed.{Listed}

-- The elements, or the options, of several alternatives.
abbrev pub elements_all : {B : Type 0} → List (PlannedAlternative B) → ℕ
elements_all ps = total (map (λ p. length p.elements) ps)

abbrev pub options_all : {B : Type 0} → List (PlannedAlternative B) → ℕ
options_all ps = total (map (λ p. length p.options) ps)

total_append : (xs ys : List ℕ) → total (xs ++ ys) ≡ total xs + total ys
unfolding total
total_append [] ys = omega arith
total_append (x ∷ xs) ys = let h = total_append xs ys in omega arith

pub elements_all_lem : {B : Type 0} (ps qs : List (PlannedAlternative B)) → elements_all (ps ++ qs) ≡ elements_all ps + elements_all qs
elements_all_lem ps qs = ap total (map-append (λ p. length p.elements) ps qs) ∙ total_append (map (λ p. length p.elements) ps) _

pub options_all_lem : {B : Type 0} (ps qs : List (PlannedAlternative B)) → options_all (ps ++ qs) ≡ options_all ps + options_all qs
options_all_lem ps qs = ap total (map-append (λ p. length p.options) ps qs) ∙ total_append (map (λ p. length p.options) ps) _

module _ (ws : List ℕ) (end d : ℕ) (bs : List ℕ) where
  -- One record.
  pub count_elements : (x : Listed) → length (meaning ws end d bs x).elements ≡ x.ne
  unfolding meaning
  count_elements x = elements_count ws end d bs x.e x.ne

  pub count_options : (x : Listed) → length (meaning ws end d bs x).options ≡ x.no
  unfolding meaning
  count_options x = options_count ws end d bs x.o x.no

  -- All of a list.
  module _ (l : Sizes) (laid : Laid bs l) where
    pub alternatives_in_lem : alternatives_in l ≡ length (settled ws end d bs l) + length (stack ws end d bs l)
    unfolding settled stack
    alternatives_in_lem =
        let f = run_count bs ws end d l.out.a 0 0 0 in
        let b = run_count bs ws end d (most_alternatives - l.top.a) l.top.a l.top.e l.top.o in
        omega arith

    pub elements_in_lem : elements_in l ≡ elements_all (settled ws end d bs l) + elements_all (stack ws end d bs l)
    unfolding settled stack
    elements_in_lem =
        let f = run_elements bs ws end d l.out.a 0 0 0 in
        let b = run_elements bs ws end d (most_alternatives - l.top.a) l.top.a l.top.e l.top.o in
        omega arith

    pub options_in_lem : options_in l ≡ options_all (settled ws end d bs l) + options_all (stack ws end d bs l)
    unfolding settled stack
    options_in_lem =
        let f = run_options bs ws end d l.out.a 0 0 0 in
        let b = run_options bs ws end d (most_alternatives - l.top.a) l.top.a l.top.e l.top.o in
        omega arith
