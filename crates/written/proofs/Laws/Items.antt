-- The elements of a listed alternative drawn one after the other, behind the list in which they stand.
use Prim.Native.Nat.{ℕ, ◌+◌, ◌≤◌}
use mathlib.Core.Path.{◌≡◌, refl, sym, ap, ◌∙◌, subst}
use mathlib.Core.List.{List, ◌∷◌}
use mathlib.Core.Bool.{Bool, true, false}
use native.Mathlib.Omega.{arith}
use lib.ListN.{length, drop}
use Rattle.grammar.specs.Tree.{Element, Block}
use Rattle.grammar.specs.Encode.{encode_element, encode_block}
use Rattle.grammar.specs.Lists.{each}
use Rattle.reference.specs.Apply.{fresh_each, renumber_block}
use Rattle.planned.specs.Layout.{made_if, meaning}
use Rattle.planned.specs.List.{Located, ItemAt}
use Rattle.planned.specs.Reading.{ItemIs}
use Rattle.planned.specs.Laws.Parts.{no_steps_left}
use Rattle.planned.specs.Laws.Items.{standing_is}
use Rattle.planned.specs.declared.list.Listed.{Listed}
use Rattle.writing.specs.Taken.{counters_of}
use Rattle.copies.specs.Pen.{Fits, Drew}
use Rattle.copies.specs.Copy.{ElementFits, ElementCopied}
use Rattle.copies.specs.declared.pen.Pen.{Pen}
use Rattle.copies.specs.Laws.Grown.{Grows, grown_same, grows_element, grows_block}
use Rattle.copies.specs.Laws.Drawn.{drawn_words, drew_none, fits_first, fits_rest, drew_more}
use Rattle.heads.specs.Front.{compose_at}
use Rattle.heads.specs.Same.{ItemThere, SameFits, SameCopied}
use Rattle.heads.specs.Laws.Front.{front_wrote, front_meaning, front_listed, front_located}
use Rattle.written.specs.Items.{drawn_element, ItemFits, ItemDrawn, Readable, ItemsFit, ItemsDrawn}

-- One element.
module _ {ws : List ℕ} {end at : ℕ} (d : ℕ) {made fresh : Bool} {out t : List ℕ} {p : Pen} where
  pub item_copies : ItemFits ws end d at made fresh out t p → fresh ≡ true → ElementFits ws end d made at out t p
  item_copies i e = record { found = i.there.found; fits = rw e at i.fits }

  pub item_copied : {out' t' : List ℕ} {q : ℕ} {p' : Pen} → fresh ≡ true → ElementCopied ws end d made at out out' t t' p q p'
      → ItemDrawn ws end d at made fresh out out' t t' p p'
  item_copied e c = record { drew = λ a z s. rw e (c.drew a z s) }

  pub item_stands : ItemFits ws end d at made fresh out t p → ItemThere ws end d at made
  item_stands i = i.there

  pub item_room : ItemFits ws end d at made fresh out t p → fresh ≡ false → SameFits ws end d at made p.to out
  item_room i e =
      record {
        fits = λ a q s.
            let f = i.there.found in
            let same : f.tree ≡ a = sym (standing_is ws end d f.spans) ∙ standing_is ws end d s in
            rw (← same) (rw e at i.fits).words;
      }

  pub item_same : {out' : List ℕ} {to : ℕ} → fresh ≡ false → SameCopied ws end d at made p.to out out' to
      → ItemDrawn ws end d at made fresh out out' t t p (record { to = to; trail = p.trail; counters = p.counters })
  item_same e c = record { drew = λ a q s. rw e (drawn_words t (c.wrote a q s) (c.ends a q s) refl refl) }

pub ruleset one = (item_copies, item_copied, item_stands, item_room, item_same)

grows_drawn : (d : ℕ) (fresh : Bool) → Grows (drawn_element d fresh)
grows_drawn d true = grows_element (renumber_block d) (grows_block d)
grows_drawn d false = record { grows = λ e c. grown_same c }

-- All elements: with those left all would be drawn.
module _ (ws : List ℕ) (end d : ℕ) (x : Listed) (fresh : Bool) (b₀ t₀ : List ℕ) (p₀ : Pen) where
  abbrev enc : Element (Block d) → List ℕ
  enc = encode_element (encode_block d)

  abbrev left : List ℕ → ℕ → List (Element (Block d))
  left b i = drop i (meaning ws end d b x).elements

  pub record Drawing (b t : List ℕ) (i : ℕ) (p : Pen) : Type 0 where
    pub low : compose_at ≤ p.to
    pub readable : Readable ws end d b x
    pub fits : Fits (each enc) (fresh_each (drawn_element d fresh) (left b i) (counters_of p.counters)) b t p
    pub done : (b' t' : List ℕ) (p' : Pen)
        → Drew (each enc) (fresh_each (drawn_element d fresh) (left b i) (counters_of p.counters)) b b' t t' p p'
        → Drew (each enc) (fresh_each (drawn_element d fresh) (left b₀ 0) (counters_of p₀.counters)) b₀ b' t₀ t' p₀ p'
    pub long : length b ≡ length b₀
    pub trail_long : length t ≡ length t₀

  pub items_none : compose_at ≤ p₀.to → Readable ws end d b₀ x → ItemsFit ws end d b₀ x fresh t₀ p₀ → Drawing b₀ t₀ 0 p₀
  items_none l r f = record { low = l; readable = r; fits = f.fits; done = λ b' t' p' h. h; long = refl; trail_long = refl }

  module _ {b t : List ℕ} {i : ℕ} {p : Pen} (g : Drawing b t i p) where
    pub items_located : Located b x
    items_located = g.readable.located

    pub items_long : length b ≡ length b₀
    items_long = g.long

    pub items_trail : length t ≡ length t₀
    items_trail = g.trail_long

    pub items_all : x.ne ≤ i → ItemsDrawn ws end d b₀ x fresh b t₀ t p₀ p
    items_all l =
        record {
          drew =
              g.done b t p
              (subst (λ es. Drew (each enc) (fresh_each (drawn_element d fresh) es (counters_of p.counters)) b b t t p p)
              (sym (no_steps_left ws end d b x i l)) (drew_none enc (drawn_element d fresh) b t p));
        }

    module _ {at : ℕ} {made : Bool} (item : ItemIs b x i at made) where
      abbrev there : ItemAt ws end d (meaning ws end d b x).elements i at made
      there = item.is ws end d g.readable.listed

      abbrev tree : Element (Block d)
      tree = there.found.tree

      next : left b i ≡ made_if made tree ∷ left b (i + 1)
      next = there.here tree there.found.next there.found.spans

      opened : Fits (each enc) (fresh_each (drawn_element d fresh) (made_if made tree ∷ left b (i + 1)) (counters_of p.counters)) b t p
      opened = subst (λ es. Fits (each enc) (fresh_each (drawn_element d fresh) es (counters_of p.counters)) b t p) next g.fits

      pub items_item : ItemFits ws end d at made fresh b t p
      items_item =
          record {
            there = record { found = there.found; call = there.call };
            fits =
                fits_first enc (drawn_element d fresh) (made_if made tree) (left b (i + 1)) (counters_of p.counters) (grows_drawn d fresh)
                opened;
          }

      pub items_more : {b' t' : List ℕ} {p' : Pen} → ItemDrawn ws end d at made fresh b b' t t' p p' → Drawing b' t' (i + 1) p'
      items_more {b'} {t'} {p'} h =
          let c = counters_of p.counters in
          let k = h.drew tree there.found.next there.found.spans in
          let front = front_wrote g.low k.wrote in
          let r = g.readable in
          let same : left b' (i + 1) ≡ left b (i + 1) =
          ap (λ m. drop (i + 1) m.elements) (front_meaning front r.inside ws end d) in
          record {
            low = let a = g.low in let z = k.to in omega arith;
            readable = record {
              located = front_located front r.located;
              inside = r.inside;
              listed = front_listed front r.inside ws end d r.listed;
            };
            fits =
                subst (λ es. Fits (each enc) (fresh_each (drawn_element d fresh) es (counters_of p'.counters)) b' t' p') (sym same)
                (fits_rest enc (drawn_element d fresh) (made_if made tree) (left b (i + 1)) c k opened);
            done = λ b'' t'' p'' z.
                g.done b'' t'' p''
                (subst (λ es. Drew (each enc) (fresh_each (drawn_element d fresh) es c) b b'' t t'' p p'') (sym next)
                (drew_more enc (drawn_element d fresh) (made_if made tree) (left b (i + 1)) c k
                (subst (λ es. Drew (each enc) (fresh_each (drawn_element d fresh) es (counters_of p'.counters)) b' b'' t' t'' p' p'') same
                z)));
            long = k.wrote.long ∙ g.long;
            trail_long = k.told.long ∙ g.trail_long;
          }

pub ruleset items = (items_none, items_located, items_long, items_trail, items_all, items_item, items_more)
