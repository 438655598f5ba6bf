-- How an option meets others: by the first of its name.
use Rattle.std.specs.Prelude.{ℕ, zero, suc, ◌+◌, ◌-◌, ◌*◌, ◌<◌, ◌≤◌, ◌≡◌}
use Rattle.std.specs.Prelude.{List, [], ◌∷◌, Bool, true, false, length, get_or, drop, eqb}
use Rattle.std.proofs.Math.Option.{Option, none, some}
use Rattle.grammar.specs.Tree.{OptionDecl, Block, AlternativeOf}
use Rattle.grammar.specs.Lists.{first}
use Rattle.grammar.specs.Found.{AlternativeSpans}
use Rattle.reference.specs.Substitute.{union_options}
use Rattle.planned.specs.Layout.{half, option_of, options_from}
use Rattle.planned.specs.Halves.{HalfPut}
use Rattle.planned.specs.declared.list.Listed.{Listed}
use Rattle.splices.specs.declared.options.Meets.{Meets}
use Rattle.splices.specs.declared.options.Meets.TheVariants.{New, Same, Other}

-- Two options of one name, by whether their values are the same.
abbrev pub met_by : Bool → Meets
met_by true = Same
met_by false = Other

unfoldable pub met_first : Option OptionDecl → ℕ → Meets
met_first none v = New
met_first (some p) v = met_by (eqb p.value v)

abbrev pub first_named : ℕ → List OptionDecl → Option OptionDecl
first_named n = first (λ p. eqb p.name n)

-- An option against those that are there: the first of its name counts, as in add_option.
unfoldable pub meets : List OptionDecl → OptionDecl → Meets
meets os o = met_first (first_named o.name os) o.value

-- The i-th of some options stands at each place that may be given for it.
pub record GivenAt (ws : List ℕ) (place : ℕ → ℕ → Type 0) (os : List OptionDecl) : Type 0 where
  pub each : (i p : ℕ) → i < length os → place i p
      → drop i os ≡ (record { name = get_or ws p 0; value = get_or ws (p + 1) 0 }) ∷ drop (suc i) os

-- What follows where there is none of the name.
abbrev pub or_else : Meets → Meets → Meets
or_else New m = m
or_else Same m = Same
or_else Other m = Other

module _ (ws : List ℕ) (end d : ℕ) where
  -- n options that stand from a place on.
  unfoldable pub standing_options : (at n : ℕ) → List OptionDecl
  standing_options at zero = []
  standing_options at (suc n) = option_of ws end d at ∷ standing_options (2 + at) n

  -- Options listed in halves stand in the sheet.
  pub record OptionsIn (bs : List ℕ) (from n : ℕ) : Type 0 where
    pub long : 2 * (from + n) ≤ length bs
    pub low : (i : ℕ) → i < n → half bs (from + i) + 2 ≤ end

-- An option is put at half t if it is new, and else nothing; r is where the next one would come.
pub record NewPut (before after : List ℕ) (place t r : ℕ) : Type 0 where
  pub next : r ≡ t + 1
  pub put : HalfPut before after t place

pub record NonePut (before after : List ℕ) (t r : ℕ) : Type 0 where
  pub next : r ≡ t
  pub same : after ≡ before

pub record PutIfNew (m : Meets) (before after : List ℕ) (place t r : ℕ) : Type 0 where
  pub new : m ≡ New → NewPut before after place t r
  pub old : (m ≡ New → ⊥) → NonePut before after t r

-- The union has room between two halves.
pub record UnionFits (os more : List OptionDecl) (to last : ℕ) : Type 0 where
  pub all : List OptionDecl
  pub is : union_options os more ≡ some all
  pub fits : to + length all ≤ last

module _ (ws : List ℕ) (end d : ℕ) where
  -- So it is for the options in hand with those of the alternative at a place; they come in front of the hand.
  pub record OptionsFit (at : ℕ) (bs : List ℕ) (h : Listed) (to : ℕ) : Type 0 where
    pub is : (a : AlternativeOf (Block d)) (q : ℕ) → AlternativeSpans ws end d at a q
        → UnionFits (options_from ws end d bs h.o h.no) a.options to h.o

  -- Their union is listed from one half up to another.
  pub record OptionsPut (at : ℕ) (h : Listed) (before after : List ℕ) (to r : ℕ) : Type 0 where
    pub past : to ≤ r
    pub meant : (a : AlternativeOf (Block d)) (q : ℕ) → AlternativeSpans ws end d at a q
        → union_options (options_from ws end d before h.o h.no) a.options ≡ some (options_from ws end d after to (r - to))
    pub low : (i : ℕ) → i < r - to → half after (to + i) + 2 ≤ end
    pub front : (j : ℕ) → j < to → half after j ≡ half before j
    pub behind : (j : ℕ) → r ≤ j → half after j ≡ half before j
    pub long : length after ≡ length before
