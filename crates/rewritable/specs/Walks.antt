-- A walk over the elements of a listed alternative, and what it says of them by any grammar that agrees with what is known.
use Rattle.std.specs.Prelude.{ℕ, ◌+◌, ◌%◌, ◌≡◌, List, Bool, true, get_or, drop}
use Rattle.grammar.specs.Numbers.{call_kind, kind_end}
use Rattle.grammar.specs.Tree.{Element, Block}
use Rattle.grammar.specs.Lists.{all}
use Rattle.grammar.specs.Found.{FoundElement, ElementSpans}
use Rattle.grammar.specs.Fold.{folded, element_fold, block_fold}
use Rattle.reference.specs.Analysis.{Grammar, collect_calls_in_elements, left_corners, element_nullable, block_is_nullable}
use Rattle.reach.specs.Rows.{RowOf}
use Rattle.analysis.specs.Survey.{View, Seen, surveying}
use Rattle.analysis.specs.Facts.{Agrees}
use Rattle.planned.specs.Layout.{made_if}
use Rattle.analysis.specs.declared.leaf.Seen.{Seen as Held}

-- An element stands at a place, and it is a call where it was made plain.
pub record ItemStands (ws : List ℕ) (end d at : ℕ) (made : Bool) : Type 0 where
  pub found : FoundElement ws end d at
  pub call : made ≡ true → get_or ws (at + 2) 0 % kind_end ≡ call_kind

module _ (v : View) where
  abbrev pub past_element : (d : ℕ) → Seen → Element (Block d) → Seen
  past_element d = element_fold (surveying v) (block_fold (surveying v) d)

  -- Past one element, made plain or not.
  pub record ItemWalked (ws : List ℕ) (end d at : ℕ) (made : Bool) (s r : Seen) : Type 0 where
    pub value : (e : Element (Block d)) (q : ℕ) → ElementSpans ws end d at e q → r ≡ past_element d s (made_if made e)

  -- Past several.
  pub record RestWalked (d : ℕ) (es : List (Element (Block d))) (s r : Seen) : Type 0 where
    pub value : r ≡ folded (past_element d) s es

-- A grammar that agrees with what is known.
pub record Agreeing (v : View) : Type 0 where
  pub grammar : Grammar
  pub ids : List ℕ
  pub agrees : Agrees grammar ids v

-- What a walk says of an alternative's elements.
module _ (v : View) (d : ℕ) (es : List (Element (Block d))) where
  pub record WalkOf (r : Held) : Type 0 where
    pub calls : (w : Agreeing v) → RowOf w.ids v.n (collect_calls_in_elements w.grammar d es) r.calls
    pub corners : (w : Agreeing v) → RowOf w.ids v.n (left_corners v.reading w.grammar d es) r.corners
    pub tail : (w : Agreeing v) → r.null ≡ all (element_nullable w.grammar (block_is_nullable w.grammar d)) (drop 1 es)
