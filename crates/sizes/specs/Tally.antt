-- How many fresh ids of each sort a copy takes: one walk over the tree, in the order in which they are taken.
use Rattle.std.specs.Prelude.{ℕ, ◌+◌, ◌≤◌, ◌≡◌, List, Bool, true, false, not, get_or, eqb}
use Rattle.grammar.specs.Tree.{Label, unlabelled, labelled, Counters}
use Rattle.grammar.specs.Numbers.{action_kind, predicate_kind, block_kind}
use Rattle.grammar.specs.Encode.{leaf_kind}
use Rattle.grammar.specs.Fold.{Steps}
use Rattle.sizes.specs.declared.tally.Tally.{Tally}

-- 1 where a test holds.
abbrev pub one_if : Bool → ℕ
one_if true = 1
one_if false = 0

abbrev pub is_labelled : Label → Bool
is_labelled unlabelled = false
is_labelled (labelled i n) = true

-- All sorts together.
abbrev pub ids_in : Tally → ℕ
ids_in t = t.alternatives + t.elements + t.labels + t.actions + t.predicates

abbrev pub no_ids : Tally
no_ids = record { alternatives = 0; elements = 0; labels = 0; actions = 0; predicates = 0 }

-- The counters behind as many fresh ids.
unfoldable pub behind : Counters → Tally → Counters
behind c t =
    record {
      alternative = c.alternative + t.alternatives;
      element = c.element + t.elements;
      label = c.label + t.labels;
      action = c.action + t.actions;
      predicate = c.predicate + t.predicates;
    }

-- The ids of an element itself: its own, its label's, and an action's or a predicate's.
unfoldable pub with_own : Tally → Bool → ℕ → Tally
with_own t label kind =
    record {
      alternatives = t.alternatives;
      elements = t.elements + 1;
      labels = t.labels + one_if label;
      actions = t.actions + one_if (eqb kind action_kind);
      predicates = t.predicates + one_if (eqb kind predicate_kind);
    }

unfoldable pub with_alternative : Tally → Tally
with_alternative t =
    record {
      alternatives = t.alternatives + 1;
      elements = t.elements;
      labels = t.labels;
      actions = t.actions;
      predicates = t.predicates;
    }

-- The walk.
abbrev pub counting : Steps Tally
counting =
    record {
      past_leaf = λ t h l. with_own t (is_labelled h.label) (leaf_kind l);
      into_block = λ t h. with_own t (is_labelled h.label) block_kind;
      past_block = λ s h t. t;
      into_alternative = λ t a. with_alternative t;
      past_alternative = λ s a t. t;
    }

-- The element whose words stand at a place was counted; it has six words at least.
pub record OwnCounted (ws : List ℕ) (at kind : ℕ) (t r : Tally) : Type 0 where
  pub is : r ≡ with_own t (not (eqb (get_or ws (at + 4) 0) 0)) kind
  pub few : ids_in r ≤ ids_in t + 4

-- So was an alternative.
pub record AlternativeCounted (t r : Tally) : Type 0 where
  pub is : r ≡ with_alternative t
  pub few : ids_in r ≤ ids_in t + 1
