-- The pass makes no names: those of a result are those of its sheet. It follows from the run's commuting with renamings alone.
use Prim.Native.Nat.{ℕ, zero, suc, ◌+◌}
use Rattle.std.specs.Prelude.{◌≡◌, true, ◌||◌, eqb}
use Rattle.std.proofs.Math.Path.{refl, sym, ap, ap₂}
use Rattle.std.proofs.Common.{◌∙◌, true≢false, arith, eqb-true}
use mathlib.Core.List.{List, [], ◌∷◌, ◌++◌, map, map-append, map-map}
use Rattle.grammar.specs.Laws.Parse.{either}
use Rattle.grammar.specs.Lists.{each, member}
use Rattle.grammar.specs.Corners.{Corners}
use Rattle.grammar.specs.Tree.{OptionDecl, ElementHead, Leaf, epsilon, action, predicate, call, token, terminal, end_of_input, Element}
use Rattle.grammar.specs.Tree.{leaf}
use Rattle.grammar.specs.Tree.{block, AlternativeOf, Block, Rule, Sheet, body_depth}
use Rattle.reference.specs.Walks.{label_names}
use Rattle.reference.specs.Substitute.{Limits}
use Rattle.reference.specs.Run.{Stage, ended, eliminate_mutual_left_recursion, sheet_after}
use Rattle.laws.specs.Lists.Mapped.{each_on}
use Rattle.laws.specs.Demands.Marks.{on_option, on_head, on_leaf, on_element, on_alternative, on_rule, on_block, on_sheet}
use Rattle.laws.specs.Sameness.Walks.{label_names_lem, reference_names}
use Rattle.laws.specs.Demands.Marks.{option_names, head_names, names_of_leaf, element_names, alternative_names, block_names, names_in}
use Rattle.laws.specs.Sameness.Names.{sheet_agrees}
use Rattle.laws.specs.Sameness.Runs.{on_stage, on_run, sheet_on}
use Rattle.laws.specs.Sameness.Answers.{after_on}
use Rattle.laws.specs.Demands.Sameness.{same}
use Rattle.laws.specs.Sameness.Laws.{above, past, past_there, past_elsewhere, past_one}

-- The names in a renamed tree are the renamed ones.
module _ (f r pr : ℕ → ℕ) where
  option_names_lem : (os : List OptionDecl) → option_names (map (on_option f r pr) os) ≡ map f (option_names os)
  option_names_lem os = map-map (λ o. o.name) (on_option f r pr) os ∙ sym (map-map f (λ o. o.name) os)

  head_names_lem : (h : ElementHead) → head_names (on_head f r pr h) ≡ map f (head_names h)
  head_names_lem h =
      ap₂ ◌++◌ (label_names_lem f r pr h.label) (option_names_lem h.options)
      ∙ sym (map-append f (label_names h.label) (option_names h.options))

  leaf_names_lem : (l : Leaf) → names_of_leaf (on_leaf f r pr l) ≡ map f (names_of_leaf l)
  unfolding names_of_leaf on_leaf
  leaf_names_lem epsilon = refl
  leaf_names_lem (action a) = reference_names f r pr a.references
  leaf_names_lem (predicate p) = reference_names f r pr p.references
  leaf_names_lem (call c) = refl
  leaf_names_lem (token n) = refl
  leaf_names_lem terminal = refl
  leaf_names_lem end_of_input = refl

  module _ {B : Type 0} (of_b : B → List ℕ) (on_b : B → B) (e : (b : B) → of_b (on_b b) ≡ map f (of_b b)) where
    element_names_lem : (x : Element B) → element_names of_b (on_element f r pr on_b x) ≡ map f (element_names of_b x)
    unfolding element_names on_element
    element_names_lem (leaf h l) = ap₂ ◌++◌ (head_names_lem h) (leaf_names_lem l) ∙ sym (map-append f (head_names h) (names_of_leaf l))
    element_names_lem (block h b) = ap₂ ◌++◌ (head_names_lem h) (e b) ∙ sym (map-append f (head_names h) (of_b b))

    alternative_names_lem : (a : AlternativeOf B) → alternative_names of_b (on_alternative f r pr on_b a) ≡ map f (alternative_names of_b a)
    alternative_names_lem a =
        ap₂ ◌++◌ (option_names_lem a.options)
        (each_on (on_element f r pr on_b) (element_names of_b) (element_names of_b) f element_names_lem a.elements)
        ∙ sym (map-append f (option_names a.options) (each (element_names of_b) a.elements))

  block_names_lem : (d : ℕ) (b : Block d) → block_names d (on_block f r pr d b) ≡ map f (block_names d b)
  unfolding block_names on_block
  block_names_lem zero b = absurd b
  block_names_lem (suc d) as' =
      each_on (on_alternative f r pr (on_block f r pr d)) (alternative_names (block_names d)) (alternative_names (block_names d)) f
      (alternative_names_lem (block_names d) (on_block f r pr d) (block_names_lem d)) as'

  -- Of the whole sheet.
  pub names_in_lem : (s : Sheet) → names_in (on_sheet f r pr s) ≡ map f (names_in s)
  unfolding names_in on_sheet
  names_in_lem s =
      let give : Rule → List ℕ = λ q. q.name ∷ block_names body_depth q.body in
      each_on (on_rule f r pr (on_block f r pr body_depth)) give give f
      (λ q. ap (λ l. f q.name ∷ l) (block_names_lem body_depth q.body)) s.rules

-- Two functions that make the same list of one agree on its members.
maps_agree : (f g : ℕ → ℕ) (xs : List ℕ) → map f xs ≡ map g xs → (n : ℕ) → member n xs ≡ true → f n ≡ g n
unfolding member
maps_agree f g [] e n t = absurd (true≢false (sym t))
maps_agree f g (x ∷ xs) e n t =
    let here : f x ≡ g x = cc in
    let there : map f xs ≡ map g xs = cc in
    either (eqb n x)
    (λ y. ap f (eqb-true n x y) ∙ here ∙ ap g (sym (eqb-true n x y)))
    (λ m. maps_agree f g xs there n (sym (ap (λ b. b || member n xs) m) ∙ t))

ended_sheet : (s : Sheet) (ts us : List Stage) → ended ts ≡ ended us → sheet_after s ts ≡ sheet_after s us
ended_sheet s ts us e = ap (sheet_after s) (let z : ts ≡ us = cc in z)

-- Two renamings of all numbers that agree on a sheet's names and nowhere else.
module _ (s : Sheet) where
  abbrev moved : ℕ → ℕ → ℕ
  moved k = past same (names_in s) k

  moved_one : (k a b : ℕ) → moved k a ≡ moved k b → a ≡ b
  moved_one = past_one same (names_in s) (λ a b t u e. e)

  moved_same : on_sheet (moved 0) same same s ≡ on_sheet (moved 1) same same s
  moved_same =
      sheet_agrees (moved 0) (moved 1) same same s
      (λ k t. past_there same (names_in s) 0 k t ∙ sym (past_there same (names_in s) 1 k t))

  -- They do the same to what a run leaves.
  module _ (limits : Limits) (c : Corners) (ts : List Stage) (run : eliminate_mutual_left_recursion limits c s ≡ ended ts) where
    abbrev after : ℕ → List Stage
    after k = map (on_stage (moved k) same same (moved_one k)) ts

    ends : (k : ℕ) → eliminate_mutual_left_recursion limits c (on_sheet (moved k) same same s) ≡ ended (after k)
    ends k = sheet_on (moved k) same same (moved_one k) limits c s ∙ ap (on_run (moved k) same same (moved_one k)) run

    left_same : on_sheet (moved 0) same same (sheet_after s ts) ≡ on_sheet (moved 1) same same (sheet_after s ts)
    left_same =
        sym (after_on (moved 0) same same (moved_one 0) s ts) ∙ ap (λ t. sheet_after t (after 0)) moved_same
        ∙ ended_sheet (on_sheet (moved 1) same same s) (after 0) (after 1)
        (sym (ends 0) ∙ ap (eliminate_mutual_left_recursion limits c) moved_same ∙ ends 1)
        ∙ after_on (moved 1) same same (moved_one 1) s ts

-- The names of what a run leaves are the sheet's.
pub no_new_names : (limits : Limits) (c : Corners) (s : Sheet) (ts : List Stage) → eliminate_mutual_left_recursion limits c s ≡ ended ts
    → (n : ℕ) → member n (names_in (sheet_after s ts)) ≡ true → member n (names_in s) ≡ true
no_new_names limits c s ts run n there =
    either (member n (names_in s)) (λ t. t)
    (λ m.
    let names =
    sym (names_in_lem (moved s 0) same same (sheet_after s ts)) ∙ ap names_in (left_same s limits c ts run)
    ∙ names_in_lem (moved s 1) same same (sheet_after s ts) in
    let at = maps_agree (moved s 0) (moved s 1) (names_in (sheet_after s ts)) names n there in
    let z : n + above same (names_in s) + 0 ≡ n + above same (names_in s) + 1 =
    sym (past_elsewhere same (names_in s) 0 n m) ∙ at ∙ past_elsewhere same (names_in s) 1 n m in
    absurd (omega arith))
