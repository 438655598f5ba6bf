-- Copies of alternatives: the head, then the elements.
use Prim.Native.Nat.{ℕ, ◌+◌, ◌*◌}
use mathlib.Core.Path.{◌≡◌, sym, ap, ◌∙◌}
use mathlib.Core.List.{List, [], ◌∷◌}
use native.Mathlib.Omega.{arith}
use native.Mathlib.Nat.{add-zero}
use lib.ListN.{length, get_or}
use Rattle.grammar.specs.Numbers.{alternative_sort}
use Rattle.grammar.specs.Tree.{AlternativeOf, Block}
use Rattle.grammar.specs.Words.{words}
use Rattle.grammar.specs.Stands.{Stands}
use Rattle.grammar.specs.Encode.{encode_option, encode_element, encode_alternative, encode_block}
use Rattle.grammar.specs.Lists.{each}
use Rattle.grammar.specs.Found.{AlternativeSpans, AlternativeAt}
use Rattle.grammar.specs.Laws.Stands.{stands_run}
use Rattle.grammar.specs.Laws.Opened.{options_length, AlternativeWords, alternative_words_lem}
use Rattle.reference.specs.Apply.{clone, past, fresh_each, renumber_element, renumber_alternative, renumber_block}
use Rattle.reference.specs.Run.{encode_entry}
use Rattle.words.specs.Room.{Room}
use Rattle.writing.specs.Taken.{counters_of}
use Rattle.copies.specs.declared.pen.Pen.{Pen}
use Rattle.copies.specs.Pen.{Space, Drawn, Drew}
use Rattle.copies.specs.Copy.{AlternativeFits, AlternativeCopied, ElementsFit, ElementsCopied}
use Rattle.copies.specs.Heads.{behind_id, MarkedRoom, MarkedCopied}
use Rattle.copies.specs.Laws.Grown.{are_low, grows_each, grows_element, grows_block}
use Rattle.copies.specs.Laws.Drawn.{space_front, space_behind, drawn_then}
use Rattle.copies.specs.Laws.Renumbered.{alternative_words_of, alternative_entries_of, alternative_counters_of}
use Rattle.copies.proofs.Laws.Leaves.{tail_slice, within}

-- The words of an alternative's head with another id.
abbrev head_words : {B : Type 0} → ℕ → AlternativeOf B → List ℕ
head_words n a = n ∷ a.carried ∷ a.flag ∷ length a.options ∷ length a.elements ∷ each encode_option a.options

module _ (d : ℕ) {bs : List ℕ} {end at count first : ℕ} (r : Room bs end) (h : AlternativeAt (words bs) end at count first) where
  head_behind : (n : ℕ) (a : AlternativeOf (Block d)) {q : ℕ} → AlternativeWords (words bs) end d at a q
      → behind_id (words bs) n at first ≡ head_words n a
  head_behind n a w =
      let e : at + 5 + 2 * get_or (words bs) (at + 3) 0 ≡ first = sym h.first_is in
      let o : Stands (words bs) end (each encode_option a.options) (at + 5) first = rw e at w.options_stand in
      let s : Stands (words bs) end (get_or (words bs) at 0 ∷ a.carried ∷ a.flag ∷ length a.options ∷ length a.elements
      ∷ each encode_option a.options) at first =
      record {
        run = (ap (λ i. get_or (words bs) i 0) (add-zero at), (w.carried_is, (w.flag_is, (w.counted, (w.count, stands_run at 5 o)))));
      } in
      ap (λ l. n ∷ l) (tail_slice _ (within r h.within) s)

  module _ {out t : List ℕ} {p : Pen} where
    pub marked_room : AlternativeFits (words bs) end d at out t p → MarkedRoom p.counters.alternative at first out t p
    unfolding encode_entry
    marked_room f =
        let a = f.found.tree in
        let c = counters_of p.counters in
        let w = alternative_words_lem d f.found.spans in
        let s : Space (head_words c.alternative a) (each encode_entry (clone alternative_sort c.alternative a.id ∷ []))
        (past alternative_sort c) out t p =
        space_front
        (each (encode_element (encode_block d)) (fresh_each (renumber_element (renumber_block d)) a.elements (past alternative_sort c)).node)
        (each encode_entry (fresh_each (renumber_element (renumber_block d)) a.elements (past alternative_sort c)).entries)
        (alternative_words_of (encode_block d) (renumber_block d) a c)
        (alternative_entries_of (encode_block d) (renumber_block d) a c)
        (rw (alternative_counters_of (encode_block d) (renumber_block d) a c)
        ((grows_each (renumber_element (renumber_block d)) (grows_element (renumber_block d) (grows_block d))).grows a.elements
        (past alternative_sort c)))
        f.fits in
        let low = are_low (past alternative_sort c) s.counters in
        let os = options_length a.options in
        let k = w.counted in
        let i = h.first_is in
        let x = s.words in
        let y = s.entries in
        record { past = omega arith; words = omega arith; entry = omega arith; counter = omega arith }

    module _ {out₁ t₁ : List ℕ} {p₁ : Pen} (m : MarkedCopied alternative_sort p.counters.alternative (words bs) at first out out₁ t t₁ p p₁)
      where
        head_drawn : (a : AlternativeOf (Block d)) {q : ℕ} → AlternativeWords (words bs) end d at a q
            → Drawn (head_words p.counters.alternative a)
            (each encode_entry (clone alternative_sort p.counters.alternative a.id ∷ []))
            (past alternative_sort (counters_of p.counters)) out out₁ t t₁ p p₁
        head_drawn a w = rw (head_behind p.counters.alternative a w, w.id) at m

        pub elements_fit : AlternativeFits (words bs) end d at out t p → ElementsFit (words bs) end d count first out₁ t₁ p₁
        elements_fit f =
            let a = f.found.tree in
            let c = counters_of p.counters in
            let w = alternative_words_lem d f.found.spans in
            let x = head_drawn a w in
            record {
              found =
                  record {
                    trees = a.elements;
                    next = f.found.next;
                    spans = rw h.first_is w.elements_span;
                    count = sym w.count ∙ sym h.count_is;
                  };
              fits = rw x.counters (space_behind (alternative_words_of (encode_block d) (renumber_block d) a c)
                  (alternative_entries_of (encode_block d) (renumber_block d) a c) x
                  (rw (alternative_counters_of (encode_block d) (renumber_block d) a c) at f.fits));
            }

        pub alternative_copied : {out' t' : List ℕ} {q : ℕ} {p' : Pen} → ElementsCopied (words bs) end d count first out₁ out' t₁ t' p₁ q p'
            → AlternativeCopied (words bs) end d at out out' t t' p q p'
        alternative_copied {out'} {t'} {q} {p'} e =
            record {
              passed = λ a z u. let w = alternative_words_lem d u in e.passed a.elements z (rw h.first_is w.elements_span)
                  (sym w.count ∙ sym h.count_is);
              drew = drawn;
              within = e.within;
            }
          where
            drawn : (a : AlternativeOf (Block d)) (z : ℕ) → AlternativeSpans (words bs) end d at a z
                → Drew (encode_alternative (encode_block d)) (renumber_alternative (renumber_block d) a (counters_of p.counters)) out out' t t' p p'
            drawn a z u =
                let c = counters_of p.counters in
                let w = alternative_words_lem d u in
                let x = head_drawn a w in
                let y = e.drew a.elements z (rw h.first_is w.elements_span) (sym w.count ∙ sym h.count_is) in
                rw (alternative_counters_of (encode_block d) (renumber_block d) a c)
                (drawn_then (alternative_words_of (encode_block d) (renumber_block d) a c)
                (alternative_entries_of (encode_block d) (renumber_block d) a c) x (rw x.counters at y))

pub ruleset alternating = (marked_room, elements_fit, alternative_copied)
