-- Left corners in two readings (SPECIFICATION 13.11 and 14).
use Rattle.std.specs.Prelude.{ℕ, ◌≡◌, Bool, true, false, not}
use Rattle.std.proofs.Math.Option.{Option, none, some}
use Rattle.grammar.specs.Tree.{Call, Leaf, call, token, terminal}
use Rattle.language.specs.Shape.{Shape, eps, fail, symbol, call_of, seq, alt, opt, star, plus, Shapes, find, is_mark}
use Rattle.language.specs.Derive.{CanBeEmpty}
use Rattle.grammar.specs.Corners.{Corners, rust, textbook}

-- Whether no rule has a name.
abbrev pub is_missing : Option Shape → Bool
is_missing none = true
is_missing (some b) = false

-- A token, a kind 5 element or a call of an unknown name, with any quantifier. End of input is none, and neither is a block: it
-- erases to `alt` or `fail`.
unfoldable pub is_symbol : Shapes → Shape → Bool
is_symbol G eps = false
is_symbol G fail = false
is_symbol G (symbol a) = not (is_mark a)
is_symbol G (call_of n) = is_missing (find G n)
is_symbol G (seq s t) = false
is_symbol G (alt s t) = false
is_symbol G (opt s) = is_symbol G s
is_symbol G (star s) = is_symbol G s
is_symbol G (plus s) = is_symbol G s

-- The same, of a leaf (SPECIFICATION 14.1).
pub data IsSymbol (G : Shapes) : Leaf → Type 0 where
  is_token : {n : ℕ} → IsSymbol G (token n)
  is_terminal : IsSymbol G terminal
  unknown_name : {k : Call} → find G k.name ≡ none → IsSymbol G (call k)

-- Where a reading stops, though what stands there can be empty.
unfoldable pub stops : Corners → Shapes → Shape → Bool
stops rust G s = is_symbol G s
stops textbook G s = false

-- What left corners are sought behind.
pub record Skippable (c : Corners) (G : Shapes) (s : Shape) : Type 0 where
  pub empty : CanBeEmpty G s
  pub goes_on : stops c G s ≡ false

-- The names of the rules that are left corners of a shape.
pub data Corner (c : Corners) (G : Shapes) : Shape → ℕ → Type 0 where
  -- The rule called there.
  c_call : {n : ℕ} {b : Shape} → find G n ≡ some b → Corner c G (call_of n) n
  -- Of an alternative: there is the first element, or a later one where every element in front can be empty.
  c_first : {s t : Shape} {n : ℕ} → Corner c G s n → Corner c G (seq s t) n
  c_later : {s t : Shape} {n : ℕ} → Skippable c G s → Corner c G t n → Corner c G (seq s t) n
  -- Of a block or a rule: a left corner of an alternative.
  c_left : {s t : Shape} {n : ℕ} → Corner c G s n → Corner c G (alt s t) n
  c_right : {s t : Shape} {n : ℕ} → Corner c G t n → Corner c G (alt s t) n
  -- Whatever the quantifier.
  c_opt : {s : Shape} {n : ℕ} → Corner c G s n → Corner c G (opt s) n
  c_star : {s : Shape} {n : ℕ} → Corner c G s n → Corner c G (star s) n
  c_plus : {s : Shape} {n : ℕ} → Corner c G s n → Corner c G (plus s) n

-- A rule has another as a left corner.
pub record Leads (c : Corners) (G : Shapes) (n m : ℕ) : Type 0 where
  pub body : Shape
  pub found : find G n ≡ some body
  pub corner : Corner c G body m

-- A path of one left corner or more.
pub data Reaches (c : Corners) (G : Shapes) : ℕ → ℕ → Type 0 where
  r_last : {n m : ℕ} → Leads c G n m → Reaches c G n m
  r_more : {n m k : ℕ} → Leads c G n m → Reaches c G m k → Reaches c G n k
