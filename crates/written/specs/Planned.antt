-- Planned alternatives as they are drawn: a new one with a fresh id, one that always filled its slot as it stands.
use Rattle.std.specs.Prelude.{ℕ, ◌+◌, ◌*◌, ◌≡◌, List}
use Rattle.grammar.specs.Tree.{AlternativeOf, Block, Counters}
use Rattle.grammar.specs.Encode.{encode_alternative, encode_block}
use Rattle.grammar.specs.Lists.{each}
use Rattle.reference.specs.Apply.{Fresh, fresh_each, apply_alternative}
use Rattle.planned.specs.Layout.{meaning, settled}
use Rattle.planned.specs.declared.list.Listed.{Listed}
use Rattle.planned.specs.declared.list.Sizes.{Sizes}
use Rattle.writing.specs.Wrote.{Wrote}
use Rattle.writing.specs.Taken.{counters_of}
use Rattle.copies.specs.Pen.{Fits, Drew}
use Rattle.copies.specs.declared.pen.Pen.{Pen}
use Rattle.heads.specs.Head.{head_words}

module _ (ws : List ℕ) (end d : ℕ) (bs : List ℕ) where
  -- The head of an alternative, with an id.
  pub record HeadDrawn (x : Listed) (id : ℕ) (after : List ℕ) (p p' : Pen) : Type 0 where
    pub wrote : Wrote bs after p.to (head_words d (meaning ws end d bs x) id)
    pub to : p'.to ≡ p.to + 5 + 2 * x.no
    pub trail : p'.trail ≡ p.trail
    pub counters : counters_of p'.counters ≡ counters_of p.counters

  -- One alternative of the list.
  abbrev pub drawn_alternative : Listed → Counters → Fresh (AlternativeOf (Block d))
  drawn_alternative x = apply_alternative d (meaning ws end d bs x)

  pub record AlternativeFits (x : Listed) (t : List ℕ) (p : Pen) : Type 0 where
    pub fits : Fits (encode_alternative (encode_block d)) (drawn_alternative x (counters_of p.counters)) bs t p

  pub record AlternativeDrawn (x : Listed) (after t t' : List ℕ) (p p' : Pen) : Type 0 where
    pub drew : Drew (encode_alternative (encode_block d)) (drawn_alternative x (counters_of p.counters)) bs after t t' p p'

  -- All that are settled.
  abbrev pub drawn_list : Sizes → Counters → Fresh (List (AlternativeOf (Block d)))
  drawn_list l = fresh_each (apply_alternative d) (settled ws end d bs l)

  pub record ListFits (l : Sizes) (t : List ℕ) (p : Pen) : Type 0 where
    pub fits : Fits (each (encode_alternative (encode_block d))) (drawn_list l (counters_of p.counters)) bs t p

  pub record ListDrawn (l : Sizes) (after t t' : List ℕ) (p p' : Pen) : Type 0 where
    pub drew : Drew (each (encode_alternative (encode_block d))) (drawn_list l (counters_of p.counters)) bs after t t' p p'
