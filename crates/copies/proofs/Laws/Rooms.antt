-- Where there is room for the copy of an element, or of an alternative, there is for its parts.
use Prim.Native.Nat.{ℕ, ◌+◌, ◌≤◌}
use mathlib.Core.Path.{◌≡◌, refl, sym, ap, ◌∙◌}
use mathlib.Core.List.{List}
use mathlib.Core.Bool.{Bool, true, false}
use native.Mathlib.Omega.{arith}
use lib.ListN.{length, get_or}
use Rattle.grammar.specs.Numbers.{element_sort, action_kind, predicate_kind}
use Rattle.grammar.specs.Tree.{Label, unlabelled, labelled, ElementHead, Leaf, epsilon, action, predicate, call, token, terminal}
use Rattle.grammar.specs.Tree.{end_of_input, Element, leaf, block, Counters}
use Rattle.grammar.specs.Stands.{Spans}
use Rattle.grammar.specs.Encode.{label_name, encode_head, leaf_kind, encode_leaf, encode_leaf_in}
use Rattle.grammar.specs.Lists.{each}
use Rattle.grammar.specs.Valid.{ok_leaf}
use Rattle.grammar.specs.Laws.Stands.{stands_length}
use Rattle.grammar.specs.Laws.Opened.{HeadWords}
use Rattle.reference.specs.Substitute.{plain}
use Rattle.reference.specs.Apply.{past, renumber_label, renumber_head, renumber_leaf}
use Rattle.reference.specs.Run.{encode_entry}
use Rattle.planned.specs.Layout.{made_if}
use Rattle.planned.specs.Laws.Leaves.{leaf_length}
use Rattle.writing.specs.Taken.{counters_of}
use Rattle.copies.specs.declared.pen.Pen.{Pen}
use Rattle.copies.specs.Pen.{Fits}
use Rattle.copies.specs.Heads.{head_if, HeadRoom, MarkedRoom, LeafRoom}
use Rattle.copies.specs.Laws.Grown.{are_low, grows_label}
use Rattle.copies.specs.Laws.Renumbered.{head_entries_of, head_counters_of}
use Rattle.copies.proofs.Laws.Heads.{head_long}

pub made_leaf : {B : Type 0} (b : Bool) (h : ElementHead) (l : Leaf) → ◌≡◌ {A = Element B} (made_if b (leaf h l)) (leaf (head_if b h) l)
unfolding plain
made_leaf true h l = refl
made_leaf false h l = refl

pub made_block : {B : Type 0} (b : Bool) (h : ElementHead) (x : B) → made_if b (block h x) ≡ block (head_if b h) x
unfolding plain
made_block true h x = refl
made_block false h x = refl

-- A label's entry and counter.
pub record LabelNeeds (l : Label) (c : Counters) : Type 0 where
  pub entry : (label_name l ≡ 0 → ⊥) → 4 ≤ length (each encode_entry (renumber_label l c).entries)
  pub counter : (label_name l ≡ 0 → ⊥) → c.label + 1 ≤ (renumber_label l c).counters.label

label_needs : (l : Label) (c : Counters) → LabelNeeds l c
unfolding renumber_label encode_entry
label_needs unlabelled c = record { entry = λ z. absurd (z refl); counter = λ z. absurd (z refl) }
label_needs (labelled i n) c = record { entry = λ z. omega arith; counter = λ z. omega arith }

-- A head.
entries_long : (h : ElementHead) (c : Counters) → length (each encode_entry (renumber_head h c).entries)
    ≡ 4 + length (each encode_entry (renumber_label h.label (past element_sort c)).entries)
unfolding encode_entry
entries_long h c =
    ap (λ l. length (each encode_entry l)) (head_entries_of h c)
    ∙ omega arith

pub head_fits : {ws : List ℕ} {end at kind payload : ℕ} {out t : List ℕ} {p : Pen} (h h' : ElementHead)
    → h'.label ≡ h.label → h'.options ≡ h.options → HeadWords ws end at h kind payload
    → Fits (λ g. encode_head g kind) (renumber_head h' (counters_of p.counters)) out t p
    → HeadRoom ws at payload out t p
head_fits {ws} {end} {at} {kind} {payload} {out} {t} {p} h h' e f v s =
    let c = counters_of p.counters in
    let w = s.words in
    let long = head_long h h' c v f in
    let g = s.entries in
    let m = entries_long h' c in
    let low = are_low _ (rw (head_counters_of h' c) at s.counters) in
    let grown = grows_label.grows h'.label (past element_sort c) in
    let needs = label_needs h'.label (past element_sort c) in
    let named : (get_or ws (at + 4) 0 ≡ 0 → ⊥) → label_name h'.label ≡ 0 → ⊥ = λ z y. z (v.named ∙ ap label_name (sym e) ∙ y) in
    record {
      past = let q = v.place in omega arith;
      words = omega arith;
      entry = omega arith;
      counter = omega arith;
      label_entry = λ z. let n = needs.entry (named z) in omega arith;
      label_counter = λ z. let n = needs.counter (named z) in omega arith;
    }

-- A leaf.
pub leaf_fits : {ws : List ℕ} {end at there : ℕ} {out t : List ℕ} {p : Pen} (l : Leaf) → Spans ws end encode_leaf ok_leaf at l there
    → Fits encode_leaf (renumber_leaf l (counters_of p.counters)) out t p
    → LeafRoom (leaf_kind l) at there out t p
unfolding renumber_leaf encode_leaf_in leaf_kind encode_entry
leaf_fits {ws} {end} {at} {there} {out} {t} {p} l s f =
    let long = leaf_length l (counters_of p.counters) in
    let q = stands_length s.stands in
    let w = f.words in
    let e = f.entries in
    record { past = omega arith; words = omega arith; action = λ k. does l k s f; predicate = λ k. tests l k s f }
  where
    does : (l : Leaf) → leaf_kind l ≡ action_kind → Spans ws end encode_leaf ok_leaf at l there
        → Fits encode_leaf (renumber_leaf l (counters_of p.counters)) out t p
        → MarkedRoom p.counters.action at there out t p
    does epsilon k s f = absurd (omega arith)
    does (action a) k s f =
        let q = stands_length s.stands in
        let low = are_low _ f.counters in
        let w = f.words in
        let e = f.entries in
        record { past = omega arith; words = omega arith; entry = omega arith; counter = omega arith }
    does (predicate x) k s f = absurd (omega arith)
    does (call x) k s f = absurd (omega arith)
    does (token n) k s f = absurd (omega arith)
    does terminal k s f = absurd (omega arith)
    does end_of_input k s f = absurd (omega arith)

    tests : (l : Leaf) → leaf_kind l ≡ predicate_kind → Spans ws end encode_leaf ok_leaf at l there
        → Fits encode_leaf (renumber_leaf l (counters_of p.counters)) out t p
        → MarkedRoom p.counters.predicate at there out t p
    tests epsilon k s f = absurd (omega arith)
    tests (action a) k s f = absurd (omega arith)
    tests (predicate x) k s f =
        let q = stands_length s.stands in
        let low = are_low _ f.counters in
        let w = f.words in
        let e = f.entries in
        record { past = omega arith; words = omega arith; entry = omega arith; counter = omega arith }
    tests (call x) k s f = absurd (omega arith)
    tests (token n) k s f = absurd (omega arith)
    tests terminal k s f = absurd (omega arith)
    tests end_of_input k s f = absurd (omega arith)
