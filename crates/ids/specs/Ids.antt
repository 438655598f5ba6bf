-- Walks that see the ids of a tree, in the order in which they stand; and the one that collects those of one sort.
use Rattle.std.specs.Prelude.{ℕ, refl, ◌+◌, ◌%◌, ◌≤◌, ◌≡◌}
use Rattle.std.specs.Prelude.{List, [], ◌∷◌, ◌++◌, ◌&&◌, not, length, get_or, take, eqb, Option, Some, None}
use Rattle.grammar.specs.Tree.{ElementHead, Rule}
use Rattle.grammar.specs.Lists.{only}
use Rattle.grammar.specs.Numbers.{alternative_sort, element_sort, label_sort, action_sort, predicate_sort, action_kind, predicate_kind}
use Rattle.grammar.specs.Numbers.{kind_end}
use Rattle.grammar.specs.Ids.{head_ids, leaf_ids, body_ids}
use Rattle.grammar.specs.Words.{words}
use Rattle.grammar.specs.Found.{RulesSpan}
use Rattle.grammar.specs.Fold.{AlternativeHead, Steps}
use Rattle.ids.specs.declared.ids.Collector.{Collector}

abbrev pub own_of : Option ℕ → List ℕ
own_of (Some i) = i ∷ []
own_of None = []

-- The id of each sort that an element's own words hold, or none.
unfoldable pub own_ids : List ℕ → ℕ → ℕ → ℕ → List ℕ
own_ids ws at payload sort =
    only (eqb sort element_sort) (get_or ws at 0)
    ++ (only (eqb sort label_sort && not (eqb (get_or ws (at + 4) 0) 0)) (get_or ws (at + 3) 0)
    ++ (only (eqb sort action_sort && eqb (get_or ws (at + 2) 0 % kind_end) action_kind) (get_or ws payload 0)
    ++ only (eqb sort predicate_sort && eqb (get_or ws (at + 2) 0 % kind_end) predicate_kind) (get_or ws payload 0)))

-- The id of an alternative's own words.
unfoldable pub alternative_id : List ℕ → ℕ → ℕ → List ℕ
alternative_id ws at sort = only (eqb sort alternative_sort) (get_or ws at 0)

-- A walk that does with the ids of each sort, piece by piece, what it may as well do with all of them at once.
unfoldable pub seeing : {S : Type 0} → (S → (ℕ → List ℕ) → S) → Steps S
seeing see =
    record {
      past_leaf = λ s h l. see s λ sort. head_ids sort h ++ leaf_ids sort l;
      into_block = λ s h. see s λ sort. head_ids sort h;
      past_block = λ s h t. t;
      into_alternative = λ s a. see s λ sort. only (eqb sort alternative_sort) a.id;
      past_alternative = λ s a t. t;
    }

-- Behind a block or an alternative it goes on from the state at its end.
pub seeing_past_block : {S : Type 0} (see : S → (ℕ → List ℕ) → S) (s t : S) (h : ElementHead) → (seeing see).past_block s h t ≡ t
unfolding seeing
seeing_past_block see s t h = refl

pub seeing_past_alternative : {S : Type 0} (see : S → (ℕ → List ℕ) → S) (s t : S) (h : AlternativeHead)
    → (seeing see).past_alternative s h t ≡ t
unfolding seeing
seeing_past_alternative see s t h = refl

-- The ids of one sort, behind those that are there.
abbrev pub behind : ℕ → List ℕ → (ℕ → List ℕ) → List ℕ
behind sort ids more = ids ++ more sort

-- A collector has these ids behind those that it had, in the same buffer, and one at most is more.
pub record Pushed (v w : Collector) (ids : List ℕ) : Type 0 where
  pub same_buffer : v.work.ghost_name ≡ w.work.ghost_name
  pub same_length : length v.work.now ≡ length w.work.now
  pub same_sort : v.sort ≡ w.sort
  pub wrote : take w.out (words w.work.now) ≡ take v.out (words v.work.now) ++ ids
  pub few : w.out ≤ v.out + 1

-- The first words are the ids of one sort of the rules that stand there.
pub record CollectedSort (ws : List ℕ) (end n sort : ℕ) (after : List ℕ) (r : ℕ) : Type 0 where
  pub wrote : (rs : List Rule) (q : ℕ) → RulesSpan ws end 0 rs q → length rs ≡ n → take r after ≡ body_ids sort rs
  pub few : r ≤ end
