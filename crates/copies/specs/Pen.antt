-- What it is to draw: words behind the pen, entries in the trail, and counters that move on (SPECIFICATION 11.5, 12.1).
use Rattle.std.specs.Prelude.{ℕ, ◌+◌, ◌*◌, ◌<◌, ◌≤◌, ◌^◌, ◌≡◌, List, [], ◌∷◌, true, length}
use Rattle.grammar.specs.Tree as tree
use Rattle.grammar.specs.Lists.{each}
use Rattle.reference.specs.Apply.{Entry, Fresh, past}
use Rattle.reference.specs.Run.{are_words, encode_entry}
use Rattle.writing.specs.Wrote.{Wrote}
use Rattle.writing.specs.Taken.{counters_of}
use Rattle.copies.specs.declared.pen.Pen.{Pen}

-- Room for words and for words of entries, and counters that are no further than their ends.
pub record Space (xs ys : List ℕ) (c : tree.Counters) (out t : List ℕ) (p : Pen) : Type 0 where
  pub words : 4 * (p.to + length xs) ≤ length out
  pub entries : 4 * (p.trail + length ys) ≤ length t
  pub counters : are_words c ≡ true

-- They were drawn: they stand there, and the pen is behind them.
pub record Drawn (xs ys : List ℕ) (c : tree.Counters) (out out' t t' : List ℕ) (p p' : Pen) : Type 0 where
  pub wrote : Wrote out out' p.to xs
  pub told : Wrote t t' p.trail ys
  pub to : p'.to ≡ p.to + length xs
  pub trail : p'.trail ≡ p.trail + length ys
  pub counters : counters_of p'.counters ≡ c

module _ {A : Type 0} (enc : A → List ℕ) (f : Fresh A) where
  -- Room for a fresh node: words, entries, and no counter past its end.
  abbrev pub Fits : (out t : List ℕ) → Pen → Type 0
  Fits = Space (enc f.node) (each encode_entry f.entries) f.counters

  -- It was drawn: its words and its entries stand there, and the pen is behind them.
  abbrev pub Drew : (out out' t t' : List ℕ) (p p' : Pen) → Type 0
  Drew = Drawn (enc f.node) (each encode_entry f.entries) f.counters

-- Room for one entry, and a counter that can move on.
pub record EntryRoom (n : ℕ) (t : List ℕ) (p : Pen) : Type 0 where
  pub entry : 4 * (p.trail + 4) ≤ length t
  pub counter : n + 1 < 2 ^ 32

-- A fresh id of a sort, the counter n, was given, and its entry written.
pub record Gave (sort n reason owner : ℕ) (t t' : List ℕ) (p : Pen) (id : ℕ) (p' : Pen) : Type 0 where
  pub id_is : id ≡ n
  pub told : Wrote t t' p.trail (sort ∷ n ∷ reason ∷ owner ∷ [])
  pub to : p'.to ≡ p.to
  pub trail : p'.trail ≡ p.trail + 4
  pub counters : counters_of p'.counters ≡ past sort (counters_of p.counters)

-- Only entries were written.
pub record Told (es : List Entry) (c : tree.Counters) (t t' : List ℕ) (p p' : Pen) : Type 0 where
  pub told : Wrote t t' p.trail (each encode_entry es)
  pub to : p'.to ≡ p.to
  pub trail : p'.trail ≡ p.trail + length (each encode_entry es)
  pub counters : counters_of p'.counters ≡ c
