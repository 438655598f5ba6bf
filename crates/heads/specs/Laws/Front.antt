-- While the list is as it was, so is every settled alternative in it, whatever is written behind it.
use Rattle.std.specs.Prelude.{ℕ, ◌-◌, ◌+◌, ◌*◌, ◌<◌, ◌≤◌, ◌≡◌, refl, List}
use Rattle.std.proofs.Common.{sym, ◌∙◌, inl}
use native.Mathlib.Omega.{arith}
use Rattle.planned.specs.Layout.{half, hand_at, meaning, settled}
use Rattle.planned.specs.List.{Laid, Located, ListedIn, AllIn, InList}
use Rattle.planned.specs.Moves.{SameEnds}
use Rattle.planned.specs.Laws.Parts.{Copied, meaning_copied, listed_copied}
use Rattle.planned.specs.Reading.{settled_from, OnTrack}
use Rattle.planned.specs.Laws.Runs.{SameHeads, elements_of_same, options_of_same, run_same, elements_of_append, options_of_append}
use Rattle.planned.specs.Laws.Kept.{kept}
use Rattle.planned.specs.declared.list.Sizes.{Sizes}
use Rattle.planned.specs.declared.list.Listed.{Listed}
use Rattle.planned.specs.declared.list.Cursor.{Cursor}
use Rattle.writing.specs.Wrote.{Wrote}
use Rattle.heads.specs.Front.{compose_at, SameFront}

-- What is written where the new sheet is composed.
pub front_wrote : {before after : List ℕ} {at : ℕ} {xs : List ℕ} → compose_at ≤ at → Wrote before after at xs → SameFront before after
front_wrote h w = record { long = w.long; bytes = λ i l. w.other i (inl (omega arith)) }

module _ {before after : List ℕ} (s : SameFront before after) where
  pub front_half : (j : ℕ) → j < hand_at → half after j ≡ half before j
  unfolding half
  front_half j h = rw (s.bytes (2 * j) (omega arith), s.bytes (2 * j + 1) (omega arith))

  front_part : (at n : ℕ) → at + n ≤ hand_at → Copied before after at at n
  front_part at n h = record { each = λ i l. front_half (at + i) (omega arith) }

  module _ {x : Listed} (inside : InList x) where
    pub front_meaning : (ws : List ℕ) (end d : ℕ) → meaning ws end d after x ≡ meaning ws end d before x
    front_meaning ws end d =
        meaning_copied ws end d x x refl refl refl refl (front_part x.e x.ne (omega arith))
        (front_part x.o x.no inside.options)

    pub front_listed : (ws : List ℕ) (end d : ℕ) → ListedIn ws end d before x → ListedIn ws end d after x
    front_listed ws end d =
        listed_copied ws end d x x refl refl refl refl (front_part x.e x.ne (omega arith))
        (front_part x.o x.no inside.options)

  pub front_located : {x : Listed} → Located before x → Located after x
  front_located located = record { long = let l = s.long in omega arith; elements = located.elements; options = located.options }

  module _ {l : Sizes} (laid : Laid before l) where
    front_ends : SameEnds before after l l
    front_ends =
        kept {a = l.out.a} {b = l.out.a} {x = l.out.e} {z = l.out.e} {y = l.out.o} {w = l.out.o} laid
        (record {
          out_a = omega arith;
          out_e = omega arith;
          out_o = omega arith;
          top_a = laid.out_a;
          top_e = laid.out_e;
          top_o = laid.out_o;
        })
        (record {
          heads = λ j h g m. front_half j (omega arith);
          elements = λ j h m. front_half j (omega arith);
          options = λ j h g m. front_half j (omega arith);
          long = s.long;
        })

    pub front_laid : Laid after l
    front_laid = front_ends.laid

    pub front_settled : (ws : List ℕ) (end d : ℕ) → settled ws end d after l ≡ settled ws end d before l
    front_settled = front_ends.settled_same

    pub front_all_in : {ws : List ℕ} {end d : ℕ} → AllIn ws end d before l → AllIn ws end d after l
    front_all_in {ws} {end} {d} = front_ends.all_in ws end d

    -- A position among the settled ones, and those behind it.
    module _ {c : Cursor} (on : OnTrack before l c) where
      front_heads : (n a : ℕ) → a + n ≤ l.out.a → SameHeads before after n a
      front_heads n a h = record { same = λ j g m. front_half j (omega arith) }

      pub front_track : OnTrack after l c
      front_track =
          let h = front_heads c.a 0 (omega arith) in
          record {
            within = on.within;
            elements = on.elements ∙ sym (elements_of_same c.a 0 h);
            options = on.options ∙ sym (options_of_same c.a 0 h);
          }

      pub front_from : (ws : List ℕ) (end d : ℕ) → settled_from ws end d after l c ≡ settled_from ws end d before l c
      unfolding settled_from
      front_from ws end d =
          let n = l.out.a - c.a in
          let k : c.a + n ≡ l.out.a = omega arith in
          let z : 0 + c.a ≡ c.a = omega arith in
          let e = rw (k, z) at (elements_of_append before c.a n 0) in
          let o = rw (k, z) at (options_of_append before c.a n 0) in
          let u = laid.settled_e in
          let v = laid.settled_o in
          run_same ws end d n c.a c.e c.o (front_heads n c.a (omega arith))
          (record { same = λ j g m. front_half j (omega arith) }) (record { same = λ j g m. front_half j (omega arith) })
