-- A planned alternative is its head and its elements; counters only grow over it.
use Rattle.std.specs.Prelude.{ℕ, ◌≡◌, List, [], ◌∷◌, ◌++◌, true, false}
use Rattle.std.proofs.Math.Path.{refl, ap}
use Rattle.std.proofs.Common.{sym, subst, append-nil, arith}
use Rattle.grammar.specs.Numbers.{alternative_sort}
use Rattle.grammar.specs.Tree.{Element, Block, Counters}
use Rattle.grammar.specs.Encode.{encode_element, encode_alternative, encode_block, encode_alternative_in}
use Rattle.grammar.specs.Lists.{each}
use Rattle.grammar.specs.Laws.Parse.{either}
use Rattle.reference.specs.Substitute.{Planned}
use Rattle.reference.specs.Apply.{Fresh, unchanged, fresh_each, past, placed, apply_new, apply_alternative, renumber_element}
use Rattle.reference.specs.Apply.{renumber_elements, renumber_block}
use Rattle.reference.specs.Run.{encode_entry}
use Rattle.copies.specs.Laws.Grown.{Grown, Grows, grown_same, grows_each, grows_element, grows_block}
use Rattle.copies.specs.Laws.Drawn.{each_count}
use Rattle.heads.specs.Head.{head_words}

-- What is drawn as it stands is as it was.
pub each_unchanged : {A : Type 0} (as' : List A) (c : Counters) → fresh_each unchanged as' c ≡ unchanged as' c
unfolding fresh_each
each_unchanged [] c = refl
each_unchanged (a ∷ as') c = rw (each_unchanged as' c)

module _ (d : ℕ) where
  grows_elements : Grows (fresh_each (renumber_element (renumber_block d)))
  grows_elements = grows_each (renumber_element (renumber_block d)) (grows_element (renumber_block d) (grows_block d))

  module _ (p : Planned d) (c : Counters) where
    -- One that always filled its slot.
    pub apply_same : p.verbatim ≡ true → apply_alternative d p c ≡ unchanged (placed d p.origin p.elements p) c
    unfolding apply_alternative
    apply_same t = rw t

    pub apply_new_lem : p.verbatim ≡ false → apply_alternative d p c ≡ apply_new d p c
    unfolding apply_alternative
    apply_new_lem f = rw f

    -- The elements with fresh ids, behind the alternative's own.
    abbrev pub copies : Fresh (List (Element (Block d)))
    copies = fresh_each (renumber_element (renumber_block d)) p.elements (past alternative_sort c)

    pub new_entries : each encode_entry (apply_new d p c).entries
        ≡ (alternative_sort ∷ c.alternative ∷ 1 ∷ p.origin ∷ []) ++ each encode_entry copies.entries
    unfolding renumber_elements encode_entry
    new_entries =
        ap (λ es. alternative_sort ∷ c.alternative ∷ 1 ∷ p.origin ∷ each encode_entry es) (append-nil copies.entries)

    pub new_counters : (apply_new d p c).counters ≡ copies.counters
    unfolding renumber_elements
    new_counters = refl

    pub new_node : encode_alternative (encode_block d) (apply_new d p c).node
        ≡ head_words d p c.alternative ++ each (encode_element (encode_block d)) copies.node
    unfolding renumber_elements encode_alternative_in
    new_node = rw (each_count (renumber_element (renumber_block d)) p.elements (past alternative_sort c))

    pub same_node_lem : encode_alternative (encode_block d) (placed d p.origin p.elements p)
        ≡ head_words d p p.origin ++ each (encode_element (encode_block d)) p.elements
    unfolding encode_alternative_in
    same_node_lem = refl

    new_grown : Grown (past alternative_sort c) (apply_new d p c).counters
    new_grown = rw new_counters (grows_elements.grows p.elements (past alternative_sort c))

    pub apply_grown : Grown c (apply_alternative d p c).counters
    apply_grown =
        either p.verbatim
        (λ t. subst (λ f. Grown c f.counters) (sym (apply_same t)) (grown_same c))
        (λ f.
        subst (λ f. Grown c f.counters) (sym (apply_new_lem f))
        (let g = new_grown in
        record {
          alternative = omega arith;
          element = omega arith;
          label = omega arith;
          action = omega arith;
          predicate = omega arith;
        }))

  pub grows_apply : Grows (apply_alternative d)
  grows_apply = record { grows = apply_grown }
