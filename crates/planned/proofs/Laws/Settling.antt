-- One record more behind what is settled.
use Prim.Native.Nat.{ℕ, ◌+◌}
use mathlib.Core.Path.{◌≡◌}
use mathlib.Core.Logic.{inl, inr, ⊎_elim}
use mathlib.Core.List.{List, [], ◌∷◌, ◌++◌}
use native.Mathlib.Omega.{arith}
use Rattle.std.proofs.lemmas.Bool.{cases_lt}
use Rattle.planned.specs.Layout.{record_at, past, meaning, records_from, settled, stack}
use Rattle.planned.specs.List.{elements_of, options_of, Laid, HasRoom, Movable, ListedIn, AllIn}
use Rattle.planned.specs.Moves.{SameEnds, Settled}
use Rattle.planned.specs.Written.{Writable, Wrote}
use Rattle.planned.specs.Laws.Parts.{meaning_copied, listed_copied}
use Rattle.planned.specs.Laws.Runs.{elements_of_append, options_of_append, elements_of_one, options_of_one, runs_append}
use Rattle.planned.specs.Laws.Kept.{kept, record_stands}
use Rattle.planned.specs.declared.list.Cursor.{Cursor}
use Rattle.planned.specs.declared.list.Sizes.{Sizes}
use Rattle.planned.specs.declared.list.Listed.{Listed}

module _ {before : List ℕ} {l : Sizes} {x : Listed} (laid : Laid before l) (room : HasRoom l 1 x.ne x.no) where
  pub settle_writable : Movable l x → Writable x l.out.a l.out.e l.out.o
  settle_writable m =
      record {
        head = omega arith;
        elements = omega arith;
        options = omega arith;
        behind = omega arith;
      }

  module _ {after : List ℕ} (w : Wrote before after x l.out.a l.out.e l.out.o) where
    abbrev more : Sizes
    more = record { out = past l.out x; top = l.top }

    same : SameEnds before after l l
    same =
        kept laid
        (record { out_a = omega arith; out_e = omega arith; out_o = omega arith; top_a = omega arith; top_e = omega arith; top_o = omega arith })
        w.outside

    more_laid : Laid after more
    more_laid =
        let g = same.laid in
        let z : 0 + l.out.a ≡ l.out.a = omega arith in
        let e = rw z at (elements_of_append after l.out.a 1 0) in
        let o = rw z at (options_of_append after l.out.a 1 0) in
        let u = elements_of_one after l.out.a in
        let v = options_of_one after l.out.a in
        let k = w.ne_is in
        let m = w.no_is in
        record {
          long = g.long;
          out_a = omega arith;
          out_e = omega arith;
          out_o = omega arith;
          top_a = omega arith;
          top_e = omega arith;
          top_o = omega arith;
          settled_e = omega arith;
          settled_o = omega arith;
          stack_e = g.stack_e;
          stack_o = g.stack_o;
        }

    abbrev written : Listed
    written = record_at after l.out.a l.out.e l.out.o

    module _ (ws : List ℕ) (end d : ℕ) where
      more_settled : settled ws end d after more ≡ settled ws end d before l ++ (meaning ws end d before x ∷ [])
      unfolding settled records_from
      more_settled =
          let g = same.laid in
          let z : 0 + l.out.a ≡ l.out.a = omega arith in
          let e : 0 + elements_of after l.out.a 0 ≡ l.out.e = omega arith in
          let o : 0 + options_of after l.out.a 0 ≡ l.out.o = omega arith in
          let m = meaning_copied ws end d x written w.slot_is w.origin_is w.ne_is w.no_is w.elements w.options in
          rw (runs_append after ws end d l.out.a 1 0 0 0, z, e, o, same.settled_same ws end d, m)

      more_in : AllIn ws end d before l → ListedIn ws end d before x → AllIn ws end d after more
      more_in all t =
          let old = same.all_in ws end d all in
          let c = listed_copied ws end d x written w.slot_is w.origin_is w.ne_is w.no_is w.elements w.options t in
          let new = record_stands l.out.a l.out.e l.out.o c in
          let k = w.ne_is in
          let m = w.no_is in
          record {
            heads = λ i n m.
                ⊎_elim (λ t. ⊎_elim (λ c. old.heads i n (inl c)) (λ c. new.heads i c t) (cases_lt i l.out.a))
                (λ t. old.heads i n (inr t)) m;
            elements = λ i n m.
                ⊎_elim (λ t. ⊎_elim (λ c. old.elements i n (inl c)) (λ c. new.elements i c (omega arith)) (cases_lt i l.out.e))
                (λ t. old.elements i n (inr t)) m;
            options = λ i n m.
                ⊎_elim (λ t. ⊎_elim (λ c. old.options i n (inl c)) (λ c. new.options i c (omega arith)) (cases_lt i l.out.o))
                (λ t. old.options i n (inr t)) m;
          }

    settle_past : Settled before after l more x
    unfolding stack
    settle_past =
        record {
          laid = more_laid;
          settled_more = more_settled;
          stack_same = same.stack_same;
          all_in = more_in;
          grown = record { alternatives = omega arith; elements = omega arith; options = omega arith };
          long = w.outside.long;
        }

    pub settle_done : {out : Cursor} → out ≡ past l.out x → Settled before after l (record { out = out; top = l.top }) x
    settle_done e = rw e settle_past

pub ruleset settling = (settle_writable, settle_done)
