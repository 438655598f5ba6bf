-- What it is to copy what stands in a sheet: whatever tree stands there, its copy is drawn.
use Rattle.std.specs.Prelude.{ℕ, ◌≤◌, ◌≡◌, List, Bool, length}
use Rattle.grammar.specs.Tree.{Element, Block, Counters}
use Rattle.grammar.specs.Stands.{Spans}
use Rattle.grammar.specs.Encode.{encode_element, encode_alternative, encode_block}
use Rattle.grammar.specs.Lists.{each, all}
use Rattle.grammar.specs.Valid.{ok_element, ok_alternative, ok_block}
use Rattle.grammar.specs.Found.{Found, FoundMany}
use Rattle.reference.specs.Apply.{Fresh, fresh_each, renumber_element, renumber_alternative, renumber_block}
use Rattle.planned.specs.Layout.{made_if}
use Rattle.writing.specs.Taken.{counters_of}
use Rattle.copies.specs.declared.pen.Pen.{Pen}
use Rattle.copies.specs.Pen.{Fits, Drew}

module _ (ws : List ℕ) (end : ℕ) {A : Type 0} (enc : A → List ℕ) (ok : A → Bool) (fresh : A → Counters → Fresh A) where
  -- A good tree stands at a place, and there is room for its copy.
  pub record FitsOne (at : ℕ) (out t : List ℕ) (p : Pen) : Type 0 where
    pub found : Found ws end enc ok at
    pub fits : Fits enc (fresh found.tree (counters_of p.counters)) out t p

  -- n good trees stand there, and there is room for their copies.
  pub record FitsMany (n at : ℕ) (out t : List ℕ) (p : Pen) : Type 0 where
    pub found : FoundMany ws end enc ok n at
    pub fits : Fits (each enc) (fresh_each fresh found.trees (counters_of p.counters)) out t p

  -- The tree that stands at a place was copied; it ends at q.
  pub record CopiedOne (at : ℕ) (out out' t t' : List ℕ) (p : Pen) (q : ℕ) (p' : Pen) : Type 0 where
    pub passed : (a : A) (z : ℕ) → Spans ws end enc ok at a z → q ≡ z
    pub drew : (a : A) (z : ℕ) → Spans ws end enc ok at a z → Drew enc (fresh a (counters_of p.counters)) out out' t t' p p'
    pub within : q ≤ end

  -- So were the n trees that stand there.
  pub record CopiedMany (n at : ℕ) (out out' t t' : List ℕ) (p : Pen) (q : ℕ) (p' : Pen) : Type 0 where
    pub passed : (as' : List A) (z : ℕ) → Spans ws end (each enc) (all ok) at as' z → length as' ≡ n → q ≡ z
    pub drew : (as' : List A) (z : ℕ) → Spans ws end (each enc) (all ok) at as' z → length as' ≡ n
        → Drew (each enc) (fresh_each fresh as' (counters_of p.counters)) out out' t t' p p'
    pub within : q ≤ end

-- An element as it is copied: made plain or not, with fresh ids.
abbrev pub copy_of : (d : ℕ) → Bool → Element (Block d) → Counters → Fresh (Element (Block d))
copy_of d plain e = renumber_element (renumber_block d) (made_if plain e)

module _ (ws : List ℕ) (end d : ℕ) where
  abbrev pub ElementFits : Bool → (at : ℕ) (out t : List ℕ) (p : Pen) → Type 0
  ElementFits plain = FitsOne ws end (encode_element (encode_block d)) (ok_element (ok_block d)) (copy_of d plain)

  abbrev pub ElementCopied : Bool → (at : ℕ) (out out' t t' : List ℕ) (p : Pen) (q : ℕ) (p' : Pen) → Type 0
  ElementCopied plain = CopiedOne ws end (encode_element (encode_block d)) (ok_element (ok_block d)) (copy_of d plain)

  abbrev pub ElementsFit : (n at : ℕ) (out t : List ℕ) (p : Pen) → Type 0
  ElementsFit = FitsMany ws end (encode_element (encode_block d)) (ok_element (ok_block d)) (renumber_element (renumber_block d))

  abbrev pub ElementsCopied : (n at : ℕ) (out out' t t' : List ℕ) (p : Pen) (q : ℕ) (p' : Pen) → Type 0
  ElementsCopied = CopiedMany ws end (encode_element (encode_block d)) (ok_element (ok_block d)) (renumber_element (renumber_block d))

  abbrev pub AlternativeFits : (at : ℕ) (out t : List ℕ) (p : Pen) → Type 0
  AlternativeFits = FitsOne ws end (encode_alternative (encode_block d)) (ok_alternative (ok_block d))
      (renumber_alternative (renumber_block d))

  abbrev pub AlternativeCopied : (at : ℕ) (out out' t t' : List ℕ) (p : Pen) (q : ℕ) (p' : Pen) → Type 0
  AlternativeCopied =
      CopiedOne ws end (encode_alternative (encode_block d)) (ok_alternative (ok_block d)) (renumber_alternative (renumber_block d))

  abbrev pub AlternativesFit : (n at : ℕ) (out t : List ℕ) (p : Pen) → Type 0
  AlternativesFit = FitsMany ws end (encode_alternative (encode_block d)) (ok_alternative (ok_block d))
      (renumber_alternative (renumber_block d))

  abbrev pub AlternativesCopied : (n at : ℕ) (out out' t t' : List ℕ) (p : Pen) (q : ℕ) (p' : Pen) → Type 0
  AlternativesCopied =
      CopiedMany ws end (encode_alternative (encode_block d)) (ok_alternative (ok_block d)) (renumber_alternative (renumber_block d))
