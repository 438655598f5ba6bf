-- The elements of a planned alternative as they are drawn: with fresh ids, or as they stand.
use Rattle.std.specs.Prelude.{ℕ, List, Bool, true, false}
use Rattle.grammar.specs.Tree.{Element, Block, Counters}
use Rattle.grammar.specs.Encode.{encode_element, encode_block}
use Rattle.grammar.specs.Lists.{each}
use Rattle.grammar.specs.Found.{ElementSpans}
use Rattle.reference.specs.Apply.{Fresh, unchanged, fresh_each, renumber_element, renumber_block}
use Rattle.planned.specs.Layout.{made_if, meaning}
use Rattle.planned.specs.List.{Located, InList, ListedIn}
use Rattle.planned.specs.declared.list.Listed.{Listed}
use Rattle.writing.specs.Taken.{counters_of}
use Rattle.copies.specs.Pen.{Fits, Drew}
use Rattle.copies.specs.declared.pen.Pen.{Pen}
use Rattle.heads.specs.Same.{ItemThere}

abbrev pub drawn_element : (d : ℕ) → Bool → Element (Block d) → Counters → Fresh (Element (Block d))
drawn_element d true = renumber_element (renumber_block d)
drawn_element d false = unchanged

module _ (ws : List ℕ) (end d : ℕ) where
  -- One element, made plain or not: it stands there, and there is room for what is drawn.
  pub record ItemFits (at : ℕ) (made fresh : Bool) (out t : List ℕ) (p : Pen) : Type 0 where
    pub there : ItemThere ws end d at made
    pub fits : Fits (encode_element (encode_block d)) (drawn_element d fresh (made_if made there.found.tree) (counters_of p.counters))
        out t p

  pub record ItemDrawn (at : ℕ) (made fresh : Bool) (out out' t t' : List ℕ) (p p' : Pen) : Type 0 where
    pub drew : (e : Element (Block d)) (q : ℕ) → ElementSpans ws end d at e q
        → Drew (encode_element (encode_block d)) (drawn_element d fresh (made_if made e) (counters_of p.counters)) out out' t t' p p'

  module _ (bs : List ℕ) (x : Listed) where
    -- A listed alternative can be read while words are written behind the list.
    pub record Readable : Type 0 where
      pub located : Located bs x
      pub inside : InList x
      pub listed : ListedIn ws end d bs x

    -- All its elements.
    abbrev pub drawn_elements : Bool → Counters → Fresh (List (Element (Block d)))
    drawn_elements fresh = fresh_each (drawn_element d fresh) (meaning ws end d bs x).elements

    pub record ItemsFit (fresh : Bool) (t : List ℕ) (p : Pen) : Type 0 where
      pub fits : Fits (each (encode_element (encode_block d))) (drawn_elements fresh (counters_of p.counters)) bs t p

    pub record ItemsDrawn (fresh : Bool) (after t t' : List ℕ) (p p' : Pen) : Type 0 where
      pub drew : Drew (each (encode_element (encode_block d))) (drawn_elements fresh (counters_of p.counters)) bs after t t' p p'
