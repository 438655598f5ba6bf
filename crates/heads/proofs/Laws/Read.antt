-- A settled alternative told by the positions around it is the one that is read there.
use Prim.Native.Nat.{ℕ, ◌+◌, ◌-◌, ◌<◌, ◌≤◌, ◌^◌}
use mathlib.Core.Path.{◌≡◌, refl, sym, ap, ◌∙◌}
use mathlib.Core.List.{List, ◌∷◌, []}
use native.Mathlib.Omega.{arith}
use lib.ListN.{length}
use Rattle.planned.specs.Layout.{options_at, record_at, past, meaning, options_from, elements_from}
use Rattle.planned.specs.List.{Laid, ListedIn, AllIn, elements_of, options_of}
use Rattle.planned.specs.Reading.{RecordIs, settled_from, OnTrack, ReadNext}
use Rattle.planned.specs.Laws.Runs.{run_count}
use Rattle.planned.proofs.Laws.Reading.{settled_room, settled_next}
use Rattle.planned.specs.declared.list.Sizes.{Sizes}
use Rattle.planned.specs.declared.list.Listed.{Listed}
use Rattle.planned.specs.declared.list.Cursor.{Cursor}
use Rattle.heads.specs.Front.{ReadHere}

module _ {bs : List ℕ} {l : Sizes} {c : Cursor} (laid : Laid bs l) (on : OnTrack bs l c) (more : c.a < l.out.a)
    {x : Listed} {next : Cursor} (n : ReadNext bs l c x next) where
  abbrev r : Listed
  r = record_at bs c.a c.e c.o

  whole : RecordIs bs c.a c.e c.o r
  whole =
      let m = settled_room laid on more in
      record {
        slot_is = refl;
        origin_is = refl;
        ne_is = refl;
        no_is = refl;
        e_is = refl;
        o_is = refl;
        elements = m.elements;
        options = m.options;
      }

  by : ReadNext bs l c r (past c r)
  by = settled_next laid on more whole refl

  one_on : next.a ≡ c.a + 1
  unfolding settled_from
  one_on =
      let e = ap length (n.first [] 0 0) in
      let a = run_count bs [] 0 0 (l.out.a - c.a) c.a c.e c.o in
      let b = run_count bs [] 0 0 (l.out.a - next.a) next.a next.e next.o in
      let w = n.on.within in
      omega arith

  elements_on : next.e ≡ c.e + r.ne
  elements_on = n.on.elements ∙ ap (λ k. elements_of bs k 0) one_on ∙ sym by.on.elements

  options_on : next.o ≡ c.o + r.no
  options_on = n.on.options ∙ ap (λ k. options_of bs k 0) one_on ∙ sym by.on.options

  abbrev here : Listed
  here =
      record {
        slot = x.slot;
        origin = x.origin;
        ne = next.e - c.e;
        no = next.o - c.o;
        e = c.e;
        o = options_at + c.o;
      }

  ne_is_lem : next.e - c.e ≡ r.ne
  ne_is_lem = let e = elements_on in omega arith

  no_is_lem : next.o - c.o ≡ r.no
  no_is_lem = let e = options_on in omega arith

  means : (ws : List ℕ) (end d : ℕ) → meaning ws end d bs x ≡ meaning ws end d bs here
  unfolding meaning
  means ws end d =
      let m : meaning ws end d bs x ∷ settled_from ws end d bs l next ≡ meaning ws end d bs r ∷ _ =
      sym (n.first ws end d) ∙ by.first ws end d in
      let same : meaning ws end d bs x ≡ meaning ws end d bs r = cc in
      let o : options_from ws end d bs x.o x.no ≡ options_from ws end d bs (options_at + c.o) (next.o - c.o) =
      rw no_is_lem (ap (λ p. p.options) same) in
      let e : elements_from ws end d bs x.e x.ne ≡ elements_from ws end d bs c.e (next.e - c.e) =
      rw ne_is_lem (ap (λ p. p.elements) same) in
      rw (o, e)

  listed_here : (ws : List ℕ) (end d : ℕ) → AllIn ws end d bs l → ListedIn ws end d bs here
  listed_here ws end d all =
      let u = by.listed ws end d all in
      record {
        head = (n.listed ws end d all).head;
        elements = λ i h. u.elements i (let z = ne_is_lem in omega arith);
        options = λ i h. u.options i (let z = no_is_lem in omega arith);
      }

  pub read_here : ReadHere bs l c here next
  read_here =
      let z = ne_is_lem in
      let y = no_is_lem in
      let w = whole in
      record {
        read = record {
          on = n.on;
          first = λ ws end d. n.first ws end d ∙ ap (λ p. p ∷ settled_from ws end d bs l next) (means ws end d);
          listed = listed_here;
          located = record { long = laid.long; elements = omega arith; options = omega arith };
        };
        in_list = record { elements = omega arith; options = omega arith };
      }

  -- The next position is not in front of this one.
  pub past_elements : c.e ≤ next.e
  past_elements = let e = elements_on in omega arith

  pub past_options : c.o ≤ next.o
  past_options = let e = options_on in omega arith

  pub low_options : options_at + c.o < 2 ^ 64
  low_options = let w = whole.options in omega arith

pub ruleset reading = (read_here, past_elements, past_options, low_options)
