-- What one walk over all bodies tells of the ids: how many, how far they reach, and whether they rise.
use Rattle.std.specs.Prelude.{ℕ, ◌+◌, ◌≡◌, List, Bool, true, false, ◌&&◌, length, leb}
use Rattle.grammar.specs.Tree as tree
use Rattle.grammar.specs.Numbers.{alternative_sort, element_sort, label_sort, action_sort, predicate_sort}
use Rattle.grammar.specs.Lists.{distinct, below}
use Rattle.grammar.specs.Ids.{body_ids, is_below}
use Rattle.grammar.specs.Found.{FoundRules}
use Rattle.grammar.specs.Fold.{folded}
use Rattle.ids.specs.Ids.{own_ids, alternative_id}
use Rattle.ids.specs.declared.survey.Track.{Track}
use Rattle.ids.specs.declared.survey.Survey.{Survey}

-- One id more: past the largest, and 0 where each was larger than all in front of it.
unfoldable pub seen : Track → ℕ → Track
seen t id =
    elim (leb t.top id) [
      | true ↦ record { top = id + 1; falls = t.falls }
      | false ↦ record { top = t.top; falls = true }
    ]

abbrev pub tracked : Track → List ℕ → Track
tracked = folded seen

abbrev pub fresh : Track
fresh = record { top = 0; falls = false }

-- More ids of each sort.
unfoldable pub surveyed : Survey → (ℕ → List ℕ) → Survey
surveyed v ids =
    record {
      alternatives = v.alternatives + length (ids alternative_sort);
      elements = v.elements + length (ids element_sort);
      alternative = tracked v.alternative (ids alternative_sort);
      element = tracked v.element (ids element_sort);
      label = tracked v.label (ids label_sort);
      action = tracked v.action (ids action_sort);
      predicate = tracked v.predicate (ids predicate_sort);
    }

abbrev pub unseen : Survey
unseen =
    record { alternatives = 0; elements = 0; alternative = fresh; element = fresh; label = fresh; action = fresh; predicate = fresh }

-- An element's own ids are seen, or an alternative's.
pub record OwnSeen (ws : List ℕ) (at payload : ℕ) (v w : Survey) : Type 0 where
  pub surveys : w ≡ surveyed v (own_ids ws at payload)
  pub alternatives : w.alternatives ≡ v.alternatives
  pub elements : w.elements ≡ v.elements + 1

pub record AlternativeSeen (ws : List ℕ) (at : ℕ) (v w : Survey) : Type 0 where
  pub surveys : w ≡ surveyed v (alternative_id ws at)
  pub alternatives : w.alternatives ≡ v.alternatives + 1
  pub elements : w.elements ≡ v.elements

-- What a track tells of all ids of its sort.
pub record RisesApart (ws : List ℕ) (end n sort : ℕ) (falls : Bool) : Type 0 where
  pub apart : (f : FoundRules ws end n 0) → falls ≡ false → distinct (body_ids sort f.trees) ≡ true

pub record Under (ws : List ℕ) (end n sort top : ℕ) : Type 0 where
  pub under : (f : FoundRules ws end n 0) (c : ℕ) → below c (body_ids sort f.trees) ≡ leb top c

pub record Surveyed (ws : List ℕ) (end n : ℕ) (v : Survey) : Type 0 where
  pub alternative_count : (f : FoundRules ws end n 0) → v.alternatives ≡ length (body_ids alternative_sort f.trees)
  pub element_count : (f : FoundRules ws end n 0) → v.elements ≡ length (body_ids element_sort f.trees)
  pub alternative_rises : RisesApart ws end n alternative_sort v.alternative.falls
  pub element_rises : RisesApart ws end n element_sort v.element.falls
  pub label_rises : RisesApart ws end n label_sort v.label.falls
  pub action_rises : RisesApart ws end n action_sort v.action.falls
  pub predicate_rises : RisesApart ws end n predicate_sort v.predicate.falls
  pub alternative_under : Under ws end n alternative_sort v.alternative.top
  pub element_under : Under ws end n element_sort v.element.top
  pub label_under : Under ws end n label_sort v.label.top
  pub action_under : Under ws end n action_sort v.action.top
  pub predicate_under : Under ws end n predicate_sort v.predicate.top

-- A verdict on the ids of one sort.
pub record SortDistinct (ws : List ℕ) (end n sort : ℕ) (r : Bool) : Type 0 where
  pub is : (f : FoundRules ws end n 0) → r ≡ distinct (body_ids sort f.trees)

pub record PartsDistinct (ws : List ℕ) (end n : ℕ) (r : Bool) : Type 0 where
  pub is : (f : FoundRules ws end n 0)
      → r ≡ (distinct (body_ids label_sort f.trees)
      && (distinct (body_ids action_sort f.trees) && distinct (body_ids predicate_sort f.trees)))

pub record BodiesDistinct (ws : List ℕ) (end n : ℕ) (r : Bool) : Type 0 where
  pub is : (f : FoundRules ws end n 0)
      → r ≡ (distinct (body_ids alternative_sort f.trees)
      && (distinct (body_ids element_sort f.trees)
      && (distinct (body_ids label_sort f.trees)
      && (distinct (body_ids action_sort f.trees) && distinct (body_ids predicate_sort f.trees)))))

pub record BodiesBelow (ws : List ℕ) (end n : ℕ) (c : tree.Counters) (r : Bool) : Type 0 where
  pub is : (f : FoundRules ws end n 0) → r ≡ is_below c f.trees

abbrev pub all_under : Survey → tree.Counters → Bool
all_under v c =
    leb v.alternative.top c.alternative
    && (leb v.element.top c.element
    && (leb v.label.top c.label && (leb v.action.top c.action && leb v.predicate.top c.predicate)))
