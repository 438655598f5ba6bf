-- What it is to write text into a lent buffer, as far as it fits: the place goes on past the end.
use Rattle.std.specs.Prelude.{ℕ, ◌+◌, ◌≤◌, ◌≡◌, List, ◌++◌, length, take, drop}
use Rattle.std.proofs.lemmas.List.Edits.{sets}
use Rattle.listed.specs.declared.text.Text.{Text}

-- Text stands from a place on, in as much of the buffer as there is; `next` is the place behind it.
pub record Put (before after : List ℕ) (at next : ℕ) (text : List ℕ) : Type 0 where
  pub is : after ≡ sets before at text
  pub long : length after ≡ length before
  pub moved : next ≡ at + length text

-- So does text of at most so many bytes.
pub record PutFew (before after : List ℕ) (at next : ℕ) (text : List ℕ) (most : ℕ) : Type 0 where
  pub put : Put before after at next text
  pub few : next ≤ at + most

-- The same of a text that goes on: in the buffer that it has, from where it ended.
abbrev pub Wrote : (before after : Text) (text : List ℕ) → Type 0
Wrote t u text = (u.bytes.ghost_name ≡ t.bytes.ghost_name) × Put t.bytes.now u.bytes.now t.n u.n text

abbrev pub WroteFew : (before after : Text) (text : List ℕ) (most : ℕ) → Type 0
WroteFew t u text most = (u.bytes.ghost_name ≡ t.bytes.ghost_name) × PutFew t.bytes.now u.bytes.now t.n u.n text most

-- The whole text stands at the front of the buffer, as far as it fits. Behind it the buffer is as it was; `next` is the text's length,
-- of at most so many bytes.
pub record Filled (before after : List ℕ) (next : ℕ) (text : List ℕ) (most : ℕ) : Type 0 where
  pub is : after ≡ take (length before) text ++ drop (length text) before
  pub long : next ≡ length text
  pub few : next ≤ most
