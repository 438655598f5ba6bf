-- The elements of one spliced alternative.
use Prim.Native.Nat.{ℕ, suc, ◌+◌, ◌-◌, ◌<◌, ◌≤◌}
use mathlib.Core.Path.{◌≡◌, sym, ap, ap₂, ◌∙◌}
use mathlib.Core.Logic.{⊎_elim}
use mathlib.Core.List.{List, ◌++◌}
use native.Mathlib.Omega.{arith}
use native.Mathlib.Numerals.{add-one}
use lib.ListN.{length, take, drop}
use Rattle.std.proofs.lemmas.Bool.{cases_lt}
use Rattle.grammar.specs.Tree.{Element, Block}
use Rattle.planned.specs.Layout.{half, elements_from}
use Rattle.planned.specs.Halves.{HalvesMoved}
use Rattle.planned.specs.List.{ElementIn}
use Rattle.splices.specs.Places.{ElementsSpan, PlacesPut}
use Rattle.splices.specs.Splice.{spliced, ElementsPut}
use Rattle.planned.specs.Laws.Parts.{Copied, elements_copied, elements_append, elements_take, elements_drop}
use Rattle.planned.specs.declared.list.Listed.{Listed}

module _ {ws : List ℕ} {end d : ℕ} (h : Listed) {index n at to r : ℕ} {b₀ b₁ b₂ b₃ : List ℕ} (below : index < h.ne)
    (apart : to + (h.ne - 1 + n) ≤ h.e) (p : HalvesMoved b₀ b₁ h.e to index) (g : PlacesPut ws end d n at b₁ b₂ (to + index) r)
    (q : HalvesMoved b₂ b₃ (h.e + (index + 1)) (to + index + n) (h.ne - (index + 1))) where
  front_copied : Copied b₀ b₃ h.e to index
  front_copied =
      record { each = λ i l. q.front (to + i) (omega arith) ∙ g.front (to + i) (omega arith) ∙ p.here i l }

  mid_copied : Copied b₂ b₃ (to + index) (to + index) n
  mid_copied = record { each = λ i l. q.front (to + index + i) (omega arith) }

  back_copied : Copied b₀ b₃ (h.e + (index + 1)) (to + index + n) (h.ne - (index + 1))
  back_copied =
      record {
        each = λ i l.
            q.here i l ∙ g.behind (h.e + (index + 1) + i) (omega arith) ∙ p.behind (h.e + (index + 1) + i) (omega arith);
      }

  elements_mean : (es : List (Element (Block d))) (z : ℕ) → ElementsSpan ws end d at es z → length es ≡ n
      → elements_from ws end d b₃ to (h.ne - 1 + n) ≡ spliced index es (elements_from ws end d b₀ h.e h.ne)
  elements_mean es z s c =
      let rest = h.ne - (index + 1) in
      let k : h.ne - 1 + n ≡ index + (n + rest) = omega arith in
      let front : elements_from ws end d b₃ to index ≡ take index (elements_from ws end d b₀ h.e h.ne) =
      elements_copied ws end d index front_copied ∙ sym (elements_take ws end d b₀ index h.e h.ne (omega arith)) in
      let mid : elements_from ws end d b₃ (to + index) n ≡ es = elements_copied ws end d n mid_copied ∙ g.meant es z s c in
      let back : elements_from ws end d b₃ (to + index + n) rest ≡ drop (suc index) (elements_from ws end d b₀ h.e h.ne) =
      elements_copied ws end d rest back_copied
      ∙ sym (rw (← (add-one index)) (elements_drop ws end d b₀ (index + 1) h.e h.ne (omega arith))) in
      ap (elements_from ws end d b₃ to) k
      ∙ elements_append ws end d b₃ index to (n + rest)
      ∙ ap₂ ◌++◌ front (elements_append ws end d b₃ n (to + index) rest ∙ ap₂ ◌++◌ mid back)

  elements_in_lem : ((i : ℕ) → i < h.ne → ElementIn ws end d (half b₀ (h.e + i))) → (i : ℕ) → i < h.ne - 1 + n
      → ElementIn ws end d (half b₃ (to + i))
  elements_in_lem f i l =
      ⊎_elim (λ a. rw (front_copied.each i a) (f i (omega arith)))
      (λ a.
      ⊎_elim
      (λ b.
      let x : to + i ≡ to + index + (i - index) = omega arith in
      rw (x, mid_copied.each (i - index) (omega arith)) (g.elements (i - index) (omega arith)))
      (λ b.
      let x : to + i ≡ to + index + n + (i - index - n) = omega arith in
      let y : h.e + (index + 1) + (i - index - n) ≡ h.e + (i + 1 - n) = omega arith in
      rw (x, back_copied.each (i - index - n) (omega arith), y) (f (i + 1 - n) (omega arith)))
      (cases_lt i (index + n)))
      (cases_lt i index)

  pub elements_put : ElementsPut ws end d h index n at b₀ b₃ to r
  elements_put =
      record {
        meant = elements_mean;
        elements = elements_in_lem;
        passed = g.passed;
        within = g.within;
        front = λ j l. q.front j (omega arith) ∙ g.front j (omega arith) ∙ p.front j l;
        behind = λ j l. q.behind j (omega arith) ∙ g.behind j (omega arith) ∙ p.behind j (omega arith);
        long = q.long ∙ g.long ∙ p.long;
      }
