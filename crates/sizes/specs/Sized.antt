-- How large what a plan writes is: the fresh ids of each sort, the entries of the trail, the words.
use Rattle.std.specs.Prelude.{ℕ, ◌+◌, ◌*◌, ◌≤◌, ◌^◌, ◌≡◌, List, Bool, length}
use Rattle.grammar.specs.Numbers.{most_words}
use Rattle.grammar.specs.Tree.{Element, Block, Counters}
use Rattle.grammar.specs.Encode.{encode_element, encode_alternative, encode_block}
use Rattle.grammar.specs.Lists.{each}
use Rattle.grammar.specs.Found.{ElementSpans}
use Rattle.reference.specs.Substitute.{Planned}
use Rattle.reference.specs.Apply.{Fresh, fresh_each, renumber_element, renumber_block, apply_alternative}
use Rattle.planned.specs.Layout.{made_if}
use Rattle.sizes.specs.Tally.{ids_in, no_ids, behind}
use Rattle.sizes.specs.declared.sums.Measure.{Measure}

-- What is made with fresh ids is so large, whatever the counters are. Each fresh id has an entry.
pub record Sized {A : Type 0} (enc : A → List ℕ) (make : Counters → Fresh A) (m : Measure) : Type 0 where
  pub counters : (c : Counters) → (make c).counters ≡ behind c m.tally
  pub entries : (c : Counters) → length (make c).entries ≡ ids_in m.tally
  pub words : (c : Counters) → length (enc (make c).node) ≡ m.words

-- None of the six is above a number.
pub record Under (m : Measure) (k : ℕ) : Type 0 where
  pub alternatives : m.tally.alternatives ≤ k
  pub elements : m.tally.elements ≤ k
  pub labels : m.tally.labels ≤ k
  pub actions : m.tally.actions ≤ k
  pub predicates : m.tally.predicates ≤ k
  pub words : m.words ≤ k

-- Of no items.
abbrev pub no_size : Measure
no_size = record { tally = no_ids; words = 0 }

-- Of items one after the other.
unfoldable pub plus : Measure → Measure → Measure
plus m n =
    record {
      tally = record {
        alternatives = m.tally.alternatives + n.tally.alternatives;
        elements = m.tally.elements + n.tally.elements;
        labels = m.tally.labels + n.tally.labels;
        actions = m.tally.actions + n.tally.actions;
        predicates = m.tally.predicates + n.tally.predicates;
      };
      words = m.words + n.words;
    }

module _ (d : ℕ) where
  -- Copies of elements, one after the other.
  pub record ElementsSized (es : List (Element (Block d))) (m : Measure) : Type 0 where
    pub is : Sized (each (encode_element (encode_block d))) (fresh_each (renumber_element (renumber_block d)) es) m
    pub few : Under m (most_words * length es)

  -- As much as an alternative may take: each element at most the words of a sheet.
  abbrev pub most_of : Planned d → ℕ
  most_of p = most_words * length p.elements + 2 * length p.options + 5

  -- A planned alternative in the new body.
  pub record AlternativeSized (p : Planned d) (m : Measure) : Type 0 where
    pub is : Sized (encode_alternative (encode_block d)) (apply_alternative d p) m
    pub few : Under m (most_of p)

  -- The new body. A list that is laid takes little more than most_elements times the words of a sheet.
  pub record Measured (ps : List (Planned d)) (m : Measure) : Type 0 where
    pub is : Sized (each (encode_alternative (encode_block d))) (fresh_each (apply_alternative d) ps) m
    pub few : Under m (2 ^ 27)

-- The copy of the element that stands at a place, made plain or not.
pub record ElementSized (ws : List ℕ) (end d at : ℕ) (m : Measure) : Type 0 where
  pub is : (e : Element (Block d)) (q : ℕ) → ElementSpans ws end d at e q → (made : Bool)
      → Sized (encode_element (encode_block d)) (renumber_element (renumber_block d) (made_if made e)) m
  pub few : Under m most_words
