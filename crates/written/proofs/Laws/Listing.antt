-- The settled alternatives drawn one after the other: with those left all would be drawn.
use Prim.Native.Nat.{ℕ, ◌+◌, ◌-◌, ◌<◌, ◌≤◌}
use mathlib.Core.Path.{◌≡◌, refl, sym, ap, ◌∙◌, subst}
use mathlib.Core.List.{List, [], ◌∷◌}
use native.Mathlib.Omega.{arith}
use lib.ListN.{length}
use Rattle.grammar.specs.Tree.{AlternativeOf, Block, inner_depth}
use Rattle.grammar.specs.Encode.{encode_alternative, encode_block}
use Rattle.grammar.specs.Lists.{each}
use Rattle.reference.specs.Substitute.{Planned}
use Rattle.reference.specs.Apply.{fresh_each, apply_alternative}
use Rattle.planned.specs.Layout.{meaning, records_from}
use Rattle.planned.specs.List.{Laid, AllIn}
use Rattle.planned.specs.Reading.{settled_from, OnTrack, AtFront}
use Rattle.planned.specs.Laws.Ahead.{at_front, all_ahead, one_ahead}
use Rattle.planned.specs.declared.list.Sizes.{Sizes}
use Rattle.planned.specs.declared.list.Listed.{Listed}
use Rattle.planned.specs.declared.list.Cursor.{Cursor}
use Rattle.writing.specs.Taken.{counters_of}
use Rattle.copies.specs.Pen.{Fits, Drew}
use Rattle.copies.specs.declared.pen.Pen.{Pen}
use Rattle.copies.specs.Laws.Drawn.{drew_none, fits_first, fits_rest, drew_more}
use Rattle.heads.specs.Front.{compose_at, ReadHere}
use Rattle.heads.specs.Laws.Front.{front_wrote, front_laid, front_all_in, front_track, front_from}
use Rattle.written.specs.Items.{Readable}
use Rattle.written.specs.Planned.{AlternativeFits, AlternativeDrawn, ListFits, ListDrawn, drawn_list}
use Rattle.written.specs.Laws.Apply.{grows_apply}

module _ (ws : List ℕ) (end d : ℕ) (l : Sizes) (b₀ t₀ : List ℕ) (p₀ : Pen) where
  abbrev enc : AlternativeOf (Block d) → List ℕ
  enc = encode_alternative (encode_block d)

  abbrev left : List ℕ → Cursor → List (Planned d)
  left b c = settled_from ws end d b l c

  pub record Listing (b t : List ℕ) (i : ℕ) (c : Cursor) (p : Pen) : Type 0 where
    pub low : compose_at ≤ p.to
    pub laid : Laid b l
    pub all_in : AllIn ws end d b l
    pub on : OnTrack b l c
    pub place : l.out.a - c.a ≡ l.out.a - i
    pub fits : Fits (each enc) (fresh_each (apply_alternative d) (left b c) (counters_of p.counters)) b t p
    pub done : (b' t' : List ℕ) (p' : Pen)
        → Drew (each enc) (fresh_each (apply_alternative d) (left b c) (counters_of p.counters)) b b' t t' p p'
        → Drew (each enc) (drawn_list ws end d b₀ l (counters_of p₀.counters)) b₀ b' t₀ t' p₀ p'
    pub long : length b ≡ length b₀
    pub trail_long : length t ≡ length t₀

  pub list_none : compose_at ≤ p₀.to → Laid b₀ l → AllIn ws end d b₀ l → ListFits ws end d b₀ l t₀ p₀ → {c : Cursor} → AtFront c
      → Listing b₀ t₀ 0 c p₀
  list_none h g a f {c} k =
      let e = sym (k.all ws end d b₀ l) in
      record {
        low = h;
        laid = g;
        all_in = a;
        on = k.on b₀ l;
        place = all_ahead b₀ l k;
        fits = subst (λ ps. Fits (each enc) (fresh_each (apply_alternative d) ps (counters_of p₀.counters)) b₀ t₀ p₀) e f.fits;
        done = λ b' t' p' z.
            subst (λ ps. Drew (each enc) (fresh_each (apply_alternative d) ps (counters_of p₀.counters)) b₀ b' t₀ t' p₀ p') (sym e) z;
        long = refl;
        trail_long = refl;
      }

  module _ {b t : List ℕ} {i : ℕ} {c : Cursor} {p : Pen} (g : Listing b t i c p) where
    pub list_before : i < l.out.a → c.a < l.out.a
    list_before h = let z = g.place in omega arith

    pub list_low : compose_at ≤ p.to
    list_low = g.low

    pub list_laid : Laid b l
    list_laid = g.laid

    pub list_on : OnTrack b l c
    list_on = g.on

    pub list_long : length b ≡ length b₀
    list_long = g.long

    pub list_trail : length t ≡ length t₀
    list_trail = g.trail_long

    pub list_all : l.out.a ≤ i → ListDrawn ws end d b₀ l b t₀ t p₀ p
    unfolding settled_from records_from
    list_all h =
        let none : left b c ≡ [] =
        ap (λ k. records_from ws end d b k c.a c.e c.o) (let z = g.place in let y : l.out.a - c.a ≡ 0 = omega arith in y) in
        record {
          drew =
              g.done b t p
              (subst (λ ps. Drew (each enc) (fresh_each (apply_alternative d) ps (counters_of p.counters)) b b t t p p) (sym none)
              (drew_none enc (apply_alternative d) b t p));
        }

    module _ {x : Listed} {next : Cursor} (r : ReadHere b l c x next) where
      first : left b c ≡ meaning ws end d b x ∷ left b next
      first = r.read.first ws end d

      opened : Fits (each enc) (fresh_each (apply_alternative d) (meaning ws end d b x ∷ left b next) (counters_of p.counters)) b t p
      opened = subst (λ ps. Fits (each enc) (fresh_each (apply_alternative d) ps (counters_of p.counters)) b t p) first g.fits

      pub list_readable : Readable ws end d b x
      list_readable =
          record { located = r.read.located; inside = r.in_list; listed = r.read.listed ws end d g.all_in }

      pub list_fits : AlternativeFits ws end d b x t p
      list_fits =
          record {
            fits =
                fits_first enc (apply_alternative d) (meaning ws end d b x) (left b next) (counters_of p.counters) (grows_apply d) opened;
          }

      pub list_more : i < l.out.a → {b' t' : List ℕ} {p' : Pen} → AlternativeDrawn ws end d b x b' t t' p p'
          → Listing b' t' (i + 1) next p'
      list_more h {b'} {t'} {p'} a =
          let k = a.drew in
          let e = counters_of p.counters in
          let front = front_wrote g.low k.wrote in
          let same = front_from front g.laid r.read.on ws end d in
          record {
            low = let z = g.low in let y = k.to in omega arith;
            laid = front_laid front g.laid;
            all_in = front_all_in front g.laid g.all_in;
            on = front_track front g.laid r.read.on;
            place = let z = g.place in let y = one_ahead r.read in omega arith;
            fits =
                subst (λ ps. Fits (each enc) (fresh_each (apply_alternative d) ps (counters_of p'.counters)) b' t' p') (sym same)
                (fits_rest enc (apply_alternative d) (meaning ws end d b x) (left b next) e k opened);
            done = λ b'' t'' p'' z.
                g.done b'' t'' p''
                (subst (λ ps. Drew (each enc) (fresh_each (apply_alternative d) ps e) b b'' t t'' p p'') (sym first)
                (drew_more enc (apply_alternative d) (meaning ws end d b x) (left b next) e k
                (subst (λ ps. Drew (each enc) (fresh_each (apply_alternative d) ps (counters_of p'.counters)) b' b'' t' t'' p' p'') same z)));
            long = k.wrote.long ∙ g.long;
            trail_long = k.told.long ∙ g.trail_long;
          }

pub ruleset listed = (list_before, list_low, list_laid, list_on, list_long, list_trail, list_readable, list_fits)

pub ruleset listing = (at_front, list_none, list_all, list_more, listed)

-- For blocks that nest as deep as in a rule.
module _ {ws : List ℕ} {end : ℕ} {b : List ℕ} {l : Sizes} {t : List ℕ} {p : Pen} where
  pub planned_fits : Fits (each (encode_alternative (encode_block inner_depth))) (drawn_list ws end inner_depth b l (counters_of p.counters))
      b t p
      → ListFits ws end inner_depth b l t p
  planned_fits f = record { fits = f }

  pub planned_drawn : {b' t' : List ℕ} {p' : Pen} → ListDrawn ws end inner_depth b l b' t t' p p'
      → Drew (each (encode_alternative (encode_block inner_depth))) (drawn_list ws end inner_depth b l (counters_of p.counters)) b b' t t' p p'
  planned_drawn h = h.drew

pub ruleset planned = (planned_fits, planned_drawn)
