-- Counters only grow.
use Rattle.std.specs.Prelude.{ℕ, zero, suc, ◌<◌, ◌≤◌, ◌^◌, ◌≡◌, refl, true, ltb}
use mathlib.Core.List.{List, [], ◌∷◌}
use native.Mathlib.Omega.{arith}
use Rattle.std.proofs.Common.{ltb-true, lt-ltb}
use Rattle.std.proofs.lemmas.Bool.{and_from}
use Rattle.std.specs.Cmp.{first_so, second_so}
use Rattle.grammar.specs.Tree.{Label, unlabelled, labelled, Leaf, epsilon, action, predicate, call, token, terminal, end_of_input, Element}
use Rattle.grammar.specs.Tree.{leaf, block, Block, Counters}
use Rattle.grammar.specs.Lists.{all}
use Rattle.reference.specs.Numbers.{counter_end}
use Rattle.reference.specs.Apply.{Fresh, fresh_each, past, renumber_label, renumber_head, renumber_leaf, renumber_element}
use Rattle.reference.specs.Apply.{renumber_elements}
use Rattle.reference.specs.Apply.{renumber_alternative, renumber_block}
use Rattle.reference.specs.Run.{are_words}

-- None of the five has fallen.
pub record Grown (c c' : Counters) : Type 0 where
  pub alternative : c.alternative ≤ c'.alternative
  pub element : c.element ≤ c'.element
  pub label : c.label ≤ c'.label
  pub action : c.action ≤ c'.action
  pub predicate : c.predicate ≤ c'.predicate

-- Fresh ids of whatever is renumbered let none fall.
pub record Grows {A B : Type 0} (f : A → Counters → Fresh B) : Type 0 where
  pub grows : (a : A) (c : Counters) → Grown c (f a c).counters

pub grown_same : (c : Counters) → Grown c c
grown_same c =
    record { alternative = omega arith; element = omega arith; label = omega arith; action = omega arith; predicate = omega arith }

pub grown_then : {c m e : Counters} → Grown c m → Grown m e → Grown c e
grown_then g h =
    record { alternative = omega arith; element = omega arith; label = omega arith; action = omega arith; predicate = omega arith }

-- Each counter is below the end.
pub record AreLow (c : Counters) : Type 0 where
  pub alternative : c.alternative < 2 ^ 32
  pub element : c.element < 2 ^ 32
  pub label : c.label < 2 ^ 32
  pub action : c.action < 2 ^ 32
  pub predicate : c.predicate < 2 ^ 32

pub are_low : (c : Counters) → are_words c ≡ true → AreLow c
unfolding are_words all
are_low c t =
    let u = second_so (ltb c.alternative counter_end) _ t in
    let v = second_so (ltb c.element counter_end) _ u in
    let w = second_so (ltb c.label counter_end) _ v in
    let x = second_so (ltb c.action counter_end) _ w in
    record {
      alternative = ltb-true _ _ (first_so (ltb c.alternative counter_end) _ t);
      element = ltb-true _ _ (first_so (ltb c.element counter_end) _ u);
      label = ltb-true _ _ (first_so (ltb c.label counter_end) _ v);
      action = ltb-true _ _ (first_so (ltb c.action counter_end) _ w);
      predicate = ltb-true _ _ (first_so (ltb c.predicate counter_end) _ x);
    }

pub low_words : (c : Counters) → AreLow c → are_words c ≡ true
unfolding are_words all
low_words c l =
    and_from _ _ (lt-ltb _ _ l.alternative)
    (and_from _ _ (lt-ltb _ _ l.element)
    (and_from _ _ (lt-ltb _ _ l.label)
    (and_from _ _ (lt-ltb _ _ l.action) (and_from _ _ (lt-ltb _ _ l.predicate) refl))))

-- Where the counters at the end are words, so are those on the way.
pub words_before : {c e : Counters} → Grown c e → are_words e ≡ true → are_words c ≡ true
words_before {c} {e} g t =
    let l = are_low e t in
    low_words c
    (record { alternative = omega arith; element = omega arith; label = omega arith; action = omega arith; predicate = omega arith })

module _ {A B : Type 0} (f : A → Counters → Fresh B) (g : Grows f) where
  each_grown : (as' : List A) (c : Counters) → Grown c (fresh_each f as' c).counters
  unfolding fresh_each
  each_grown [] c = grown_same c
  each_grown (a ∷ as') c = grown_then (g.grows a c) (each_grown as' (f a c).counters)

  pub grows_each : Grows (fresh_each f)
  grows_each = record { grows = each_grown }

label_grown : (l : Label) (c : Counters) → Grown c (renumber_label l c).counters
unfolding renumber_label
label_grown unlabelled c = grown_same c
label_grown (labelled i n) c =
    record { alternative = omega arith; element = omega arith; label = omega arith; action = omega arith; predicate = omega arith }

pub grows_label : Grows renumber_label
grows_label = record { grows = label_grown }

pub grows_head : Grows renumber_head
unfolding renumber_head
grows_head =
    record {
      grows = λ h c.
          let g = label_grown h.label (past 3 c) in
          record { alternative = omega arith; element = omega arith; label = omega arith; action = omega arith; predicate = omega arith };
    }

leaf_grown : (l : Leaf) (c : Counters) → Grown c (renumber_leaf l c).counters
unfolding renumber_leaf
leaf_grown epsilon c = grown_same c
leaf_grown (action a) c =
    record { alternative = omega arith; element = omega arith; label = omega arith; action = omega arith; predicate = omega arith }
leaf_grown (predicate p) c =
    record { alternative = omega arith; element = omega arith; label = omega arith; action = omega arith; predicate = omega arith }
leaf_grown (call k) c = grown_same c
leaf_grown (token n) c = grown_same c
leaf_grown terminal c = grown_same c
leaf_grown end_of_input c = grown_same c

pub grows_leaf : Grows renumber_leaf
grows_leaf = record { grows = leaf_grown }

module _ {B : Type 0} (fresh : B → Counters → Fresh B) (g : Grows fresh) where
  element_grown : (e : Element B) (c : Counters) → Grown c (renumber_element fresh e c).counters
  unfolding renumber_element
  element_grown (leaf h l) c = grown_then (grows_head.grows h c) (leaf_grown l (renumber_head h c).counters)
  element_grown (block h b) c = grown_then (grows_head.grows h c) (g.grows b (renumber_head h c).counters)

  pub grows_element : Grows (renumber_element fresh)
  grows_element = record { grows = element_grown }

  pub grows_alternative : Grows (renumber_alternative fresh)
  unfolding renumber_alternative renumber_elements
  grows_alternative =
      record {
        grows = λ a c.
            let h = each_grown (renumber_element fresh) grows_element a.elements (past 2 c) in
            record { alternative = omega arith; element = omega arith; label = omega arith; action = omega arith; predicate = omega arith };
      }

block_grown : (d : ℕ) (b : Block d) (c : Counters) → Grown c (renumber_block d b c).counters
unfolding renumber_block
block_grown zero b c = absurd b
block_grown (suc d) b c =
    each_grown (renumber_alternative (renumber_block d)) (grows_alternative (renumber_block d) (record { grows = block_grown d })) b c

pub grows_block : (d : ℕ) → Grows (renumber_block d)
grows_block d = record { grows = block_grown d }

pub ruleset growth = (grows_element, grows_alternative, grows_block)
