-- What is copied of one record: an element's head, a leaf's payload, an alternative's head.
use Rattle.std.specs.Prelude.{ℕ, ◌+◌, ◌-◌, ◌*◌, ◌%◌, ◌<◌, ◌≤◌, ◌^◌, ◌≡◌}
use Rattle.std.specs.Prelude.{List, [], ◌∷◌, Bool, true, false, length, get_or, take, drop}
use Rattle.grammar.specs.Numbers.{kind_end, action_kind, predicate_kind}
use Rattle.grammar.specs.Tree.{Label, ElementHead, Leaf}
use Rattle.grammar.specs.Stands.{Spans}
use Rattle.grammar.specs.Encode.{label_id, label_name, encode_head, leaf_kind, encode_leaf}
use Rattle.grammar.specs.Lists.{each}
use Rattle.grammar.specs.Valid.{ok_label, ok_leaf}
use Rattle.grammar.specs.Laws.Opened.{HeadWords}
use Rattle.reference.specs.Substitute.{plain_head}
use Rattle.reference.specs.Apply.{clone, past, renumber_label, renumber_head, renumber_leaf}
use Rattle.reference.specs.Run.{encode_entry}
use Rattle.writing.specs.Wrote.{Wrote}
use Rattle.writing.specs.Taken.{counters_of}
use Rattle.copies.specs.declared.pen.Pen.{Pen}
use Rattle.copies.specs.declared.pen.Given.{Given}
use Rattle.copies.specs.Pen.{Drawn, Drew, EntryRoom, Told}

-- Where there is a label there is room for its entry.
pub record LabelRoom (name : ℕ) (t : List ℕ) (p : Pen) : Type 0 where
  pub room : (name ≡ 0 → ⊥) → EntryRoom p.counters.label t p

-- A label's two words stand from a place on.
pub record LabelAt (ws : List ℕ) (at : ℕ) (l : Label) : Type 0 where
  pub id : get_or ws at 0 ≡ label_id l
  pub name : get_or ws (at + 1) 0 ≡ label_name l
  pub fine : ok_label l ≡ true

-- The label that stands there has a fresh id, if it is one.
pub record LabelGiven (ws : List ℕ) (at : ℕ) (t t' : List ℕ) (p : Pen) (id : ℕ) (p' : Pen) : Type 0 where
  pub is : (l : Label) → LabelAt ws at l → id ≡ label_id (renumber_label l (counters_of p.counters)).node
  pub told : (l : Label) → LabelAt ws at l
      → Told (renumber_label l (counters_of p.counters)).entries (renumber_label l (counters_of p.counters)).counters t t' p p'

-- An element's head made plain, and the word that packs its kind with its quantifier.
abbrev pub head_if : Bool → ElementHead → ElementHead
head_if true h = plain_head h
head_if false h = h

abbrev pub packed_if : Bool → ℕ → ℕ
packed_if true w = w % kind_end
packed_if false w = w

-- There is room for the copy of an element's head.
pub record HeadRoom (ws : List ℕ) (at payload : ℕ) (out t : List ℕ) (p : Pen) : Type 0 where
  pub past : at + 6 ≤ payload
  pub words : 4 * (p.to + (payload - at)) ≤ length out
  pub entry : 4 * (p.trail + 4) ≤ length t
  pub counter : p.counters.element + 1 < 2 ^ 32
  pub label_entry : (get_or ws (at + 4) 0 ≡ 0 → ⊥) → 4 * (p.trail + 8) ≤ length t
  pub label_counter : (get_or ws (at + 4) 0 ≡ 0 → ⊥) → p.counters.label + 1 < 2 ^ 32

-- The head that stands there was copied.
pub record HeadCopied (ws : List ℕ) (end at payload : ℕ) (plain : Bool) (out out' t t' : List ℕ) (p p' : Pen) : Type 0 where
  pub is : (h : ElementHead) (kind : ℕ) → kind < kind_end → HeadWords ws end at h kind payload
      → Drew (λ g. encode_head g kind) (renumber_head (head_if plain h) (counters_of p.counters)) out out' t t' p p'

-- Words behind a fresh id, up to a place, in a copy.
abbrev pub behind_id : (ws : List ℕ) (n at there : ℕ) → List ℕ
behind_id ws n at there = n ∷ take (there - (at + 1)) (drop (at + 1) ws)

-- There is room for such a copy and for the entry of its id.
pub record MarkedRoom (n at there : ℕ) (out t : List ℕ) (p : Pen) : Type 0 where
  pub past : at + 1 ≤ there
  pub words : 4 * (p.to + (there - at)) ≤ length out
  pub entry : 4 * (p.trail + 4) ≤ length t
  pub counter : n + 1 < 2 ^ 32

-- The same once the id is given, of the bytes of a sheet.
pub record BehindRoom (bs : List ℕ) (at there : ℕ) (out : List ℕ) (g : Given) : Type 0 where
  pub past : at + 1 ≤ there
  pub read : 4 * there ≤ length bs
  pub words : 4 * (g.pen.to + (there - at)) ≤ length out

-- It was drawn with an id just given.
pub record CopiedBehind (ws : List ℕ) (at there : ℕ) (g : Given) (out out' : List ℕ) (p' : Pen) : Type 0 where
  pub wrote : Wrote out out' g.pen.to (behind_id ws g.id at there)
  pub to : p'.to ≡ g.pen.to + (there - at)
  pub trail : p'.trail ≡ g.pen.trail
  pub counters : counters_of p'.counters ≡ counters_of g.pen.counters

-- It was drawn, with the entry of its id.
abbrev pub MarkedCopied : (sort n : ℕ) (ws : List ℕ) (at there : ℕ) (out out' t t' : List ℕ) (p p' : Pen) → Type 0
MarkedCopied sort n ws at there out out' t t' p p' =
    Drawn (behind_id ws n at there) (each encode_entry (clone sort n (get_or ws at 0) ∷ [])) (past sort (counters_of p.counters))
    out out' t t' p p'

-- There is room for the copy of a leaf's payload.
pub record LeafRoom (kind at there : ℕ) (out t : List ℕ) (p : Pen) : Type 0 where
  pub past : at ≤ there
  pub words : 4 * (p.to + (there - at)) ≤ length out
  pub action : kind ≡ action_kind → MarkedRoom p.counters.action at there out t p
  pub predicate : kind ≡ predicate_kind → MarkedRoom p.counters.predicate at there out t p

-- The payload of the leaf that stands there was copied.
pub record LeafCopied (ws : List ℕ) (end kind at there : ℕ) (out out' t t' : List ℕ) (p p' : Pen) : Type 0 where
  pub is : (l : Leaf) → leaf_kind l ≡ kind → Spans ws end encode_leaf ok_leaf at l there
      → Drew encode_leaf (renumber_leaf l (counters_of p.counters)) out out' t t' p p'

-- A count was copied.
pub record CountCopied (n : ℕ) (out out' : List ℕ) (p p' : Pen) : Type 0 where
  pub wrote : Wrote out out' p.to (n ∷ [])
  pub to : p'.to ≡ p.to + 1
  pub trail : p'.trail ≡ p.trail
  pub counters : counters_of p'.counters ≡ counters_of p.counters
