-- While the area of the list is as it was, so is every list and every record in it.
use Rattle.std.specs.Prelude.{ℕ, ◌-◌, ◌+◌, ◌<◌, ◌≤◌, ◌≡◌, refl, List}
use Rattle.std.proofs.Common.{sym, ◌∙◌}
use native.Mathlib.Omega.{arith}
use Rattle.planned.specs.Layout.{half, hand_end, meaning, settled, stack}
use Rattle.planned.specs.List.{Laid, Located, ListedIn, AllIn, SameList}
use Rattle.planned.specs.Moves.{SameEnds}
use Rattle.planned.specs.Laws.Parts.{Copied, meaning_copied, listed_copied}
use Rattle.planned.specs.Reading.{settled_from, OnTrack}
use Rattle.planned.specs.Laws.Runs.{SameHeads, elements_of_same, options_of_same, run_same, elements_of_append, options_of_append}
use Rattle.planned.specs.Laws.Kept.{kept}
use Rattle.planned.specs.declared.list.Sizes.{Sizes}
use Rattle.planned.specs.declared.list.Listed.{Listed}
use Rattle.planned.specs.declared.list.Cursor.{Cursor}

pub same_refl : (bs : List ℕ) → SameList bs bs
same_refl bs = record { long = refl; halves = λ j h. refl }

pub same_trans : {before now after : List ℕ} → SameList before now → SameList now after → SameList before after
same_trans s t = record { long = t.long ∙ s.long; halves = λ j h. t.halves j h ∙ s.halves j h }

module _ {before after : List ℕ} (s : SameList before after) where
  pub same_half : (j : ℕ) → j < hand_end → half after j ≡ half before j
  same_half = s.halves

  same_part : (at n : ℕ) → at + n ≤ hand_end → Copied before after at at n
  same_part at n h = record { each = λ i l. same_half (at + i) (omega arith) }

  module _ {x : Listed} (located : Located before x) where
    pub same_located : Located after x
    same_located = record { long = let l = s.long in omega arith; elements = located.elements; options = located.options }

    pub same_meaning : (ws : List ℕ) (end d : ℕ) → meaning ws end d after x ≡ meaning ws end d before x
    same_meaning ws end d =
        meaning_copied ws end d x x refl refl refl refl (same_part x.e x.ne located.elements)
        (same_part x.o x.no located.options)

    pub same_listed : (ws : List ℕ) (end d : ℕ) → ListedIn ws end d before x → ListedIn ws end d after x
    same_listed ws end d =
        listed_copied ws end d x x refl refl refl refl (same_part x.e x.ne located.elements)
        (same_part x.o x.no located.options)

  module _ {l : Sizes} (laid : Laid before l) where
    pub same_ends : SameEnds before after l l
    same_ends =
        kept {a = l.out.a} {b = l.out.a} {x = l.out.e} {z = l.out.e} {y = l.out.o} {w = l.out.o} laid
        (record {
          out_a = omega arith;
          out_e = omega arith;
          out_o = omega arith;
          top_a = laid.out_a;
          top_e = laid.out_e;
          top_o = laid.out_o;
        })
        (record {
          heads = λ j h g m. same_half j (omega arith);
          elements = λ j h m. same_half j (omega arith);
          options = λ j h g m. same_half j (omega arith);
          long = s.long;
        })

    pub same_laid : Laid after l
    same_laid = same_ends.laid

    pub same_settled : (ws : List ℕ) (end d : ℕ) → settled ws end d after l ≡ settled ws end d before l
    same_settled = same_ends.settled_same

    pub same_stack : (ws : List ℕ) (end d : ℕ) → stack ws end d after l ≡ stack ws end d before l
    same_stack = same_ends.stack_same

    pub same_all_in : {ws : List ℕ} {end d : ℕ} → AllIn ws end d before l → AllIn ws end d after l
    same_all_in {ws} {end} {d} = same_ends.all_in ws end d

    -- A position among the settled ones, and those behind it.
    module _ {c : Cursor} (on : OnTrack before l c) where
      same_heads : (n a : ℕ) → a + n ≤ l.out.a → SameHeads before after n a
      same_heads n a h = record { same = λ j g m. same_half j (omega arith) }

      pub same_track : OnTrack after l c
      same_track =
          let h = same_heads c.a 0 (omega arith) in
          record {
            within = on.within;
            elements = on.elements ∙ sym (elements_of_same c.a 0 h);
            options = on.options ∙ sym (options_of_same c.a 0 h);
          }

      pub same_from : (ws : List ℕ) (end d : ℕ) → settled_from ws end d after l c ≡ settled_from ws end d before l c
      unfolding settled_from
      same_from ws end d =
          let n = l.out.a - c.a in
          let k : c.a + n ≡ l.out.a = omega arith in
          let z : 0 + c.a ≡ c.a = omega arith in
          let e = rw (k, z) at (elements_of_append before c.a n 0) in
          let o = rw (k, z) at (options_of_append before c.a n 0) in
          let u = laid.settled_e in
          let v = laid.settled_o in
          run_same ws end d n c.a c.e c.o (same_heads n c.a (omega arith))
          (record { same = λ j g m. same_half j (omega arith) }) (record { same = λ j g m. same_half j (omega arith) })

pub ruleset sames = (same_located, same_meaning, same_listed, same_laid, same_settled, same_stack, same_all_in, same_track)
