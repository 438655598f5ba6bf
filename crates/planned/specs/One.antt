-- An alternative is listed in one way alone, since one tree at most stands at a place.
use Rattle.std.specs.Prelude.{ℕ, List}
use Rattle.std.specs.Coded.{le_prop, Coded-set, coded_ℕ}
use Rattle.grammar.specs.Laws.One.{element_prop, alternative_prop}
use Rattle.planned.specs.List.{ElementIn, HeadIn, ListedIn}
use Rattle.planned.specs.declared.list.Listed.{Listed}

module _ (ws : List ℕ) (end d : ℕ) where
  element_in_prop : (h : ℕ) → IsProp (ElementIn ws end d h)
  element_in_prop h f g =
      λ i. record {
        found = element_prop ws end d _ f.found g.found i;
        low = le_prop f.low g.low i;
        plain = λ m. Coded-set coded_ℕ _ _ (f.plain m) (g.plain m) i;
      }

  head_in_prop : (slot origin : ℕ) → IsProp (HeadIn ws end d slot origin)
  head_in_prop slot origin f g =
      λ i. record {
        slot_found = alternative_prop ws end d _ f.slot_found g.slot_found i;
        origin_found = alternative_prop ws end d _ f.origin_found g.origin_found i;
        low = le_prop f.low g.low i;
        origin_low = le_prop f.origin_low g.origin_low i;
      }

pub listed_prop : {ws : List ℕ} {end d : ℕ} {bs : List ℕ} {x : Listed} → IsProp (ListedIn ws end d bs x)
listed_prop f g =
    λ i. record {
      head = head_in_prop _ _ _ _ _ f.head g.head i;
      elements = λ k h. element_in_prop _ _ _ _ (f.elements k h) (g.elements k h) i;
      options = λ k h. le_prop (f.options k h) (g.options k h) i;
    }
