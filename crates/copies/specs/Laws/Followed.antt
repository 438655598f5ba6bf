-- Drawing what is recorded, and one fresh node after another; and an element that is listed elsewhere.
use Rattle.std.specs.Prelude.{ℕ, ◌≡◌, refl, List, ◌∷◌, ◌++◌, Bool}
use Rattle.grammar.specs.Tree.{Element, Block, Counters}
use Rattle.grammar.specs.Encode.{encode_element, encode_block}
use Rattle.grammar.specs.Lists.{each}
use Rattle.grammar.specs.Laws.Lists.{each_append}
use Rattle.grammar.specs.Found.{FoundElement, ElementSpans}
use Rattle.reference.specs.Apply.{Entry, Fresh, recording, ◌followed_by◌, fresh_each, renumber_element, renumber_block}
use Rattle.reference.specs.Run.{encode_entry}
use Rattle.planned.specs.Layout.{made_if}
use Rattle.writing.specs.Taken.{counters_of}
use Rattle.copies.specs.declared.pen.Pen.{Pen}
use Rattle.copies.specs.Pen.{Space, Drawn, Fits, Drew}
use Rattle.copies.specs.Copy.{copy_of, ElementFits}
use Rattle.copies.specs.Laws.Grown.{Grown, grows_element, grows_block}
use Rattle.copies.specs.Laws.Drawn.{space_front, space_behind, drawn_then, fits_first}

-- An entry, with the words that belong to it, in front of a fresh node's.
module _ {A : Type 0} (enc : A → List ℕ) (e : Entry) (f : Fresh A) (xs ys : List ℕ) (i : enc f.node ≡ xs ++ ys) {c : Counters}
    {out t : List ℕ} {p : Pen} where
  pub fits_recording : Grown c f.counters → Fits enc (recording e f) out t p → Space xs (encode_entry e) c out t p
  fits_recording g s = space_front ys (each encode_entry f.entries) i refl g s

  module _ {out₁ t₁ : List ℕ} {p₁ : Pen} (d : Drawn xs (encode_entry e) c out out₁ t t₁ p p₁) where
    pub fits_recorded : Fits enc (recording e f) out t p → Space ys (each encode_entry f.entries) f.counters out₁ t₁ p₁
    fits_recorded s = space_behind i refl d s

    pub drew_recorded : {out' t' : List ℕ} {p' : Pen} → Drawn ys (each encode_entry f.entries) f.counters out₁ out' t₁ t' p₁ p'
        → Drew enc (recording e f) out out' t t' p p'
    drew_recorded y = drawn_then i refl d y

followed_entries : {A B : Type 0} (f : Fresh A) (k : A → Counters → Fresh B) → each encode_entry (f followed_by k).entries
    ≡ each encode_entry f.entries ++ each encode_entry (k f.node f.counters).entries
followed_entries f k = each_append encode_entry f.entries (k f.node f.counters).entries

-- A fresh node, and what follows it.
module _ {A B : Type 0} (enc : B → List ℕ) (f : Fresh A) (k : A → Counters → Fresh B) (xs ys : List ℕ)
    (i : enc (f followed_by k).node ≡ xs ++ ys) {out t : List ℕ} {p : Pen} where
  pub fits_front : Grown f.counters (k f.node f.counters).counters → Fits enc (f followed_by k) out t p
      → Space xs (each encode_entry f.entries) f.counters out t p
  fits_front g s = space_front ys (each encode_entry (k f.node f.counters).entries) i (followed_entries f k) g s

  module _ {out₁ t₁ : List ℕ} {p₁ : Pen} (d : Drawn xs (each encode_entry f.entries) f.counters out out₁ t t₁ p p₁) where
    pub fits_behind : Fits enc (f followed_by k) out t p
        → Space ys (each encode_entry (k f.node f.counters).entries) (k f.node f.counters).counters out₁ t₁ p₁
    fits_behind s = space_behind i (followed_entries f k) d s

    pub drew_followed : {out' t' : List ℕ} {p' : Pen}
        → Drawn ys (each encode_entry (k f.node f.counters).entries) (k f.node f.counters).counters out₁ out' t₁ t' p₁ p'
        → Drew enc (f followed_by k) out out' t t' p p'
    drew_followed y = drawn_then i (followed_entries f k) d y

module _ (d : ℕ) (plain : Bool) {ws : List ℕ} {end at : ℕ} {out t : List ℕ} {p : Pen} (f : FoundElement ws end d at) where
  -- An element can be copied where whatever stands there fits.
  pub element_fits : ((e : Element (Block d)) (q : ℕ) → ElementSpans ws end d at e q
      → Fits (encode_element (encode_block d)) (copy_of d plain e (counters_of p.counters)) out t p)
      → ElementFits ws end d plain at out t p
  element_fits g = record { found = f; fits = g f.tree f.next f.spans }

  -- So can the first of several that are listed, where all fit.
  pub listed_fits : (es : List (Element (Block d)))
      → Fits (each (encode_element (encode_block d)))
      (fresh_each (renumber_element (renumber_block d)) (made_if plain f.tree ∷ es) (counters_of p.counters)) out t p
      → ElementFits ws end d plain at out t p
  listed_fits es s =
      record {
        found = f;
        fits =
            fits_first
            (encode_element (encode_block d))
            (renumber_element (renumber_block d))
            (made_if plain f.tree)
            es
            (counters_of p.counters)
            (grows_element (renumber_block d) (grows_block d))
            s;
      }
