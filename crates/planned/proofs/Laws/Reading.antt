-- The first record of a run, taken off: the settled alternatives one by one, and the top of the stack.
use Prim.Native.Nat.{ℕ, suc, ◌+◌, ◌-◌, ◌<◌, ◌≤◌}
use mathlib.Core.Path.{◌≡◌, refl, sym, ap₂, ◌∙◌}
use mathlib.Core.Logic.{◌⊎◌, inl, inr, ⊎_map, ⊎_elim}
use mathlib.Core.List.{List, ◌∷◌}
use mathlib.Core.Bool.{Bool}
use native.Mathlib.Omega.{arith}
use native.Mathlib.Numerals.{add-one}
use lib.Dec.{leb}
use borrow.Author.Tests.{leb-true, leb-false}
use Rattle.reference.specs.Numbers.{most_alternatives, most_elements, most_options}
use Rattle.planned.specs.Layout.{half, head_at, options_at, record_at, past, meaning, records_from, settled, stack}
use Rattle.planned.specs.List.{elements_of, options_of, Laid, HasTop, Located, ListedIn, AllIn}
use Rattle.planned.specs.Moves.{IsEmpty, IsDrained, Took}
use Rattle.planned.specs.Reading.{RecordRoom, RecordIs, settled_from, OnTrack, ReadNext}
use Rattle.planned.specs.Laws.Runs.{elements_of_append, options_of_append, elements_of_one, options_of_one}
use Rattle.planned.specs.declared.list.Sizes.{Sizes}
use Rattle.planned.specs.declared.list.Listed.{Listed}
use Rattle.planned.specs.declared.list.Cursor.{Cursor}

module _ {bs : List ℕ} {a x y : ℕ} {r : Listed} (is : RecordIs bs a x y r) where
  pub record_means : (ws : List ℕ) (end d : ℕ) → meaning ws end d bs (record_at bs a x y) ≡ meaning ws end d bs r
  unfolding meaning
  record_means ws end d = rw (is.slot_is, is.origin_is, is.ne_is, is.no_is, is.e_is, is.o_is)

  pub first_record : (ws : List ℕ) (end d n : ℕ)
      → records_from ws end d bs (suc n) a x y ≡ meaning ws end d bs r ∷ records_from ws end d bs n (a + 1) (x + r.ne) (y + r.no)
  unfolding records_from
  first_record ws end d n = ap₂ ◌∷◌ (record_means ws end d) (rw (add-one a, is.ne_is, is.no_is))

  pub record_located : {l : Sizes} → Laid bs l → Located bs r
  record_located g = record { long = g.long; elements = omega arith; options = omega arith }

  -- It stands among those of a list.
  pub record_listed : {l : Sizes} → a < most_alternatives → (a < l.out.a) ⊎ (l.top.a ≤ a) → (x + r.ne ≤ l.out.e) ⊎ (l.top.e ≤ x)
      → (y + r.no ≤ l.out.o) ⊎ (l.top.o ≤ y) → (ws : List ℕ) (end d : ℕ) → AllIn ws end d bs l → ListedIn ws end d bs r
  record_listed h m e o ws end d all =
      record {
        head = rw (is.slot_is, is.origin_is) (all.heads a h m);
        elements = λ i s.
            rw is.e_is (all.elements (x + i) (omega arith) (⊎_map (λ t. omega arith) (λ t. omega arith) e));
        options = λ i s.
            let n : options_at + y + i ≡ options_at + (y + i) = omega arith in
            rw (is.o_is, n) (all.options (y + i) (omega arith) (⊎_map (λ t. omega arith) (λ t. omega arith) o));
      }

module _ {bs : List ℕ} {l : Sizes} {c : Cursor} (laid : Laid bs l) (on : OnTrack bs l c) (more : c.a < l.out.a) where
  -- The elements and options of the settled alternatives up to the next one are among all.
  next_elements : elements_of bs (c.a + 1) 0 ≡ c.e + half bs (head_at c.a + 2)
  next_elements =
      let e : 0 + c.a ≡ c.a = omega arith in
      let h = rw e at (elements_of_append bs c.a 1 0) in
      let o = elements_of_one bs c.a in
      let t = on.elements in
      omega arith

  next_options : options_of bs (c.a + 1) 0 ≡ c.o + half bs (head_at c.a + 3)
  next_options =
      let e : 0 + c.a ≡ c.a = omega arith in
      let h = rw e at (options_of_append bs c.a 1 0) in
      let o = options_of_one bs c.a in
      let t = on.options in
      omega arith

  within_elements : c.e + half bs (head_at c.a + 2) ≤ l.out.e
  within_elements =
      let e : l.out.a ≡ c.a + 1 + (l.out.a - (c.a + 1)) = omega arith in
      let h = elements_of_append bs (c.a + 1) (l.out.a - (c.a + 1)) 0 in
      let g = rw (← e) at h in
      let n = next_elements in
      let s = laid.settled_e in
      omega arith

  within_options : c.o + half bs (head_at c.a + 3) ≤ l.out.o
  within_options =
      let e : l.out.a ≡ c.a + 1 + (l.out.a - (c.a + 1)) = omega arith in
      let h = options_of_append bs (c.a + 1) (l.out.a - (c.a + 1)) 0 in
      let g = rw (← e) at h in
      let n = next_options in
      let s = laid.settled_o in
      omega arith

  pub settled_room : RecordRoom bs c.a c.e c.o
  settled_room =
      let e = within_elements in
      let o = within_options in
      record { long = laid.long; head = omega arith; elements = omega arith; options = omega arith }

  module _ {r : Listed} (is : RecordIs bs c.a c.e c.o r) where
    settled_past : ReadNext bs l c r (past c r)
    unfolding settled_from
    settled_past =
        let e = within_elements in
        let o = within_options in
        let m = next_elements in
        let n = next_options in
        let k : l.out.a - c.a ≡ suc (l.out.a - (c.a + 1)) = omega arith in
        record {
          on = record { within = omega arith; elements = omega arith; options = omega arith };
          first = λ ws end d. rw k (first_record is ws end d (l.out.a - (c.a + 1)));
          listed = record_listed is (omega arith) (inl more) (inl (omega arith)) (inl (omega arith));
          located = record_located is laid;
        }

    pub settled_next : {next : Cursor} → next ≡ past c r → ReadNext bs l c r next
    settled_next e = rw e settled_past

-- The stack.
module _ {bs : List ℕ} {l : Sizes} (laid : Laid bs l) (top : HasTop l) where
  top_elements : half bs (head_at l.top.a + 2) + elements_of bs (most_alternatives - (l.top.a + 1)) (l.top.a + 1)
      ≡ elements_of bs (most_alternatives - l.top.a) l.top.a
  unfolding elements_of
  top_elements =
      let t = top.some in
      let k : most_alternatives - l.top.a ≡ suc (most_alternatives - (l.top.a + 1)) = omega arith in rw (k, add-one l.top.a)

  top_options : half bs (head_at l.top.a + 3) + options_of bs (most_alternatives - (l.top.a + 1)) (l.top.a + 1)
      ≡ options_of bs (most_alternatives - l.top.a) l.top.a
  unfolding options_of
  top_options =
      let t = top.some in
      let k : most_alternatives - l.top.a ≡ suc (most_alternatives - (l.top.a + 1)) = omega arith in rw (k, add-one l.top.a)

  pub top_room : RecordRoom bs l.top.a l.top.e l.top.o
  top_room =
      let e = top_elements in
      let o = top_options in
      record { long = laid.long; head = omega arith; elements = omega arith; options = omega arith }

  module _ {r : Listed} (is : RecordIs bs l.top.a l.top.e l.top.o r) where
    took_past : Took bs l r (record { out = l.out; top = past l.top r })
    unfolding settled stack
    took_past =
        let e = top_elements in
        let o = top_options in
        let k : most_alternatives - l.top.a ≡ suc (most_alternatives - (l.top.a + 1)) = omega arith in
        record {
          laid = record {
            long = laid.long;
            out_a = omega arith;
            out_e = omega arith;
            out_o = omega arith;
            top_a = omega arith;
            top_e = omega arith;
            top_o = omega arith;
            settled_e = laid.settled_e;
            settled_o = laid.settled_o;
            stack_e = omega arith;
            stack_o = omega arith;
          };
          settled_same = λ ws end d. refl;
          stack_is = λ ws end d. rw k (first_record is ws end d (most_alternatives - (l.top.a + 1)));
          all_in = λ ws end d all.
              record {
                heads = λ a h m. all.heads a h (⊎_map (λ t. t) (λ t. omega arith) m);
                elements = λ i h m. all.elements i h (⊎_map (λ t. t) (λ t. omega arith) m);
                options = λ i h m. all.options i h (⊎_map (λ t. t) (λ t. omega arith) m);
              };
          listed = record_listed is (omega arith) (inr (omega arith)) (inr (omega arith)) (inr (omega arith));
          located = record_located is laid;
          movable = record { elements = omega arith; options = omega arith; few_elements = omega arith; few_options = omega arith };
          in_list = record { elements = omega arith; options = omega arith };
          fewer = record { alternatives = omega arith; elements = omega arith; options = omega arith };
        }

    pub took : {top : Cursor} → top ≡ past l.top r → Took bs l r (record { out = l.out; top = top })
    took e = rw e took_past

pub drained : {l : Sizes} {r : Bool} → r ≡ leb most_alternatives l.top.a → IsDrained l r
unfolding stack records_from
drained {l} {r} e =
    record {
      done = λ t ws end d bs g.
          let h = leb-true most_alternatives l.top.a (sym e ∙ t) in
          let k : most_alternatives - l.top.a ≡ 0 = omega arith in rw k;
      more = λ t. record { some = leb-false most_alternatives l.top.a (sym e ∙ t) };
    }

pub empty : IsEmpty (record {
  out = record { a = 0; e = 0; o = 0 };
  top = record {
    a = most_alternatives;
    e = most_elements;
    o = most_options;
  };
})
unfolding elements_of options_of settled stack records_from
empty =
    record {
      laid = λ bs h.
          record {
            long = h;
            out_a = omega arith;
            out_e = omega arith;
            out_o = omega arith;
            top_a = omega arith;
            top_e = omega arith;
            top_o = omega arith;
            settled_e = refl;
            settled_o = refl;
            stack_e = refl;
            stack_o = refl;
          };
      settled_none = λ ws end d bs. refl;
      stack_none = λ ws end d bs. refl;
      all_in = λ ws end d bs.
          record {
            heads = λ a h m. absurd (⊎_elim (λ t. omega arith) (λ t. omega arith) m);
            elements = λ i h m. absurd (⊎_elim (λ t. omega arith) (λ t. omega arith) m);
            options = λ i h m. absurd (⊎_elim (λ t. omega arith) (λ t. omega arith) m);
          };
      none = (refl, refl, refl);
    }

pub ruleset reading = (settled_room, settled_next)

pub ruleset tops = (top_room, took, drained, empty)
