-- One walk over a rule's body: the rules that it calls, its left corners, whether an action or a predicate stands in it, and
-- whether it is nullable, by what is known of the rules (SPECIFICATION 6, 7.5). The walk is a fold over the tree.
use Rattle.std.specs.Prelude.{ℕ, ◌/◌, ◌≡◌, List, ◌++◌, Bool, true, false, ◌&&◌, ◌||◌, not, eqb, leb}
use Rattle.grammar.specs.Numbers.{action_sort, predicate_sort, optional_greedy, zero_or_more_nongreedy, kind_end}
use Rattle.grammar.specs.Tree.{Call, Leaf, call, AlternativeOf, Block, Rule, body_depth, inner_depth}
use Rattle.grammar.specs.Stands.{Stands}
use Rattle.grammar.specs.Encode.{leaf_kind, encode_leaf, encode_alternative, encode_block}
use Rattle.grammar.specs.Valid.{ok_alternative, ok_block}
use Rattle.grammar.specs.Lists.{is_empty}
use Rattle.grammar.specs.Ids.{leaf_ids}
use Rattle.grammar.specs.Corners.{Corners}
use Rattle.grammar.specs.Fold.{Steps, folded, alternative_fold, block_fold, WalkedOne, WalkedMany}
use Rattle.grammar.specs.Found.{RuleSpans}
use Rattle.reference.specs.Walks.{silent, consuming, calling, sort_of, is_end, is_optional}
use Rattle.reach.specs.Rows.{bit}
use Rattle.analysis.specs.Corners.{corners_of, passes_symbols}
use Rattle.analysis.specs.Names.{is_named, any_below}
use Rattle.analysis.specs.declared.known.Known.{Known}
use Rattle.analysis.specs.declared.leaf.Seen.{Seen as Held}
use Rattle.analysis.specs.declared.survey.Survey.{Survey}

-- What is known of the rules: their names by place, how many places there are, which are nullable as far as is known, and
-- how left corners are read.
pub record View : Type 0 where
  pub names : List ℕ
  pub n : ℕ
  pub nullable : List ℕ
  pub reading : Corners

abbrev pub view_of : Known → View
view_of k = record { names = k.names.list.now; n = k.names.n; nullable = k.nullable; reading = corners_of k.reading }

-- What the walk has seen. `seeks`: left corners are still sought. `null`: in an alternative, that all in front is nullable;
-- in a block, that some alternative in front is.
pub record Seen : Type 0 where
  pub calls : ℕ → Bool
  pub corners : ℕ → Bool
  pub stops : Bool
  pub seeks : Bool
  pub null : Bool

-- What the code holds of it, with a row for each of the two sets.
unfoldable pub seen_of : Held → Seen
seen_of t = record { calls = bit t.calls; corners = bit t.corners; stops = t.stops; seeks = t.seeks; null = t.null }

-- The rows and what stops as they are, with another state of the walk.
abbrev pub turned : Bool → Bool → Held → Held
turned seeks null t = record { calls = t.calls; corners = t.corners; stops = t.stops; seeks = seeks; null = null }

-- An action or a predicate.
unfoldable pub is_semantic : Leaf → Bool
is_semantic l = not (is_empty (leaf_ids action_sort l ++ leaf_ids predicate_sort l))

module _ (v : View) where
  -- Whether a leaf calls rule j; whether it can be empty, its quantifier aside; whether the search for left corners ends
  -- at it in any case.
  unfoldable pub calls_to : Leaf → ℕ → Bool
  calls_to l j = elim (sort_of l) [ silent ↦ false | consuming ↦ false | calling c ↦ is_named v.names v.n c.name j ]

  unfoldable pub leaf_null : Leaf → Bool
  leaf_null l =
      is_end l
      || elim (sort_of l) [
        | silent ↦ true
        | consuming ↦ false
        | calling c ↦ any_below (λ j. is_named v.names v.n c.name j && bit v.nullable j) v.n
      ]

  unfoldable pub leaf_ends : Leaf → Bool
  leaf_ends l =
      not (passes_symbols v.reading)
      && (not (is_end l)
      && elim (sort_of l) [
        | silent ↦ false
        | consuming ↦ true
        | calling c ↦ not (any_below (is_named v.names v.n c.name) v.n)
      ])

  -- Past a leaf; `skips` where its quantifier lets it be left out.
  unfoldable pub past_leaf : Seen → Bool → Leaf → Seen
  past_leaf s skips l =
      record {
        calls = λ j. s.calls j || calls_to l j;
        corners = λ j. s.corners j || (s.seeks && calls_to l j);
        stops = s.stops || is_semantic l;
        seeks = s.seeks && (not (leaf_ends l) && (skips || leaf_null l));
        null = s.null && (skips || leaf_null l);
      }

-- Into an alternative, of which all in front is nullable as yet, or into a block, of which no alternative is as yet.
abbrev pub into : Bool → Seen → Seen
into b s = record { calls = s.calls; corners = s.corners; stops = s.stops; seeks = s.seeks; null = b }

unfoldable pub past_block : Seen → Bool → Seen → Seen
past_block s skips t =
    record {
      calls = t.calls;
      corners = t.corners;
      stops = t.stops;
      seeks = s.seeks && (skips || t.null);
      null = s.null && (skips || t.null);
    }

unfoldable pub past_alternative : Seen → Seen → Seen
past_alternative s t =
    record { calls = t.calls; corners = t.corners; stops = t.stops; seeks = s.seeks; null = s.null || t.null }

unfoldable pub surveying : View → Steps Seen
surveying v =
    record {
      past_leaf = λ s h l. past_leaf v s (is_optional h) l;
      into_block = λ s h. into false s;
      past_block = λ s h t. past_block s (is_optional h) t;
      into_alternative = λ s h. into true s;
      past_alternative = λ s h t. past_alternative s t;
    }

-- Past an outermost alternative, whose label stops inlining too.
unfoldable pub past_outermost : View → (d : ℕ) → Seen → AlternativeOf (Block d) → Seen
past_outermost v d s a =
    let t = alternative_fold (surveying v) (block_fold (surveying v) d) s a in
    record {
      calls = t.calls;
      corners = t.corners;
      stops = t.stops || not (eqb a.flag 0);
      seeks = t.seeks;
      null = t.null;
    }

-- Nothing seen yet, at the front of a body.
abbrev pub unseen : Seen
unseen = record { calls = λ j. false; corners = λ j. false; stops = false; seeks = true; null = false }

-- A whole rule, whose flags stop inlining too.
abbrev pub whole : Bool → Seen → Seen
whole plain s =
    record { calls = s.calls; corners = s.corners; stops = s.stops || not plain; seeks = true; null = s.null }

-- The word that packs kind and quantifier says that the element may be left out.
abbrev pub skipping : ℕ → Bool
skipping w = leb optional_greedy (w / kind_end) && leb (w / kind_end) zero_or_more_nongreedy

-- Past a call of rule i, which can be empty or not.
unfoldable pub past_call : Seen → ℕ → Bool → Seen
past_call s i empty =
    record {
      calls = λ j. s.calls j || eqb j i;
      corners = λ j. s.corners j || (s.seeks && eqb j i);
      stops = s.stops;
      seeks = s.seeks && empty;
      null = s.null && empty;
    }

-- Past a symbol.
pub record SymbolSeen (reading : Corners) (skips : Bool) (t r : Held) : Type 0 where
  pub is : r ≡ turned (t.seeks && (passes_symbols reading && skips)) (t.null && skips) t

-- Past a call of a name.
pub record NameSeen (v : View) (name : ℕ) (skips : Bool) (s r : Seen) : Type 0 where
  pub is : (c : Call) → c.name ≡ name → r ≡ past_leaf v s skips (call c)

-- Past a leaf of a kind whose payload stands at p.
pub record LeafSeen (v : View) (ws : List ℕ) (end kind p : ℕ) (skips : Bool) (s r : Seen) : Type 0 where
  pub is : (l : Leaf) (q : ℕ) → kind ≡ leaf_kind l → Stands ws end (encode_leaf l) p q → r ≡ past_leaf v s skips l

-- Past an outermost alternative, and past n of them.
module _ (v : View) (ws : List ℕ) (end : ℕ) where
  abbrev pub OutermostWalked : ℕ → Seen → ℕ → Seen → Type 0
  OutermostWalked =
      WalkedOne ws end (encode_alternative (encode_block inner_depth)) (ok_alternative (ok_block inner_depth))
      (past_outermost v inner_depth)

  abbrev pub BodyWalked : ℕ → ℕ → Seen → ℕ → Seen → Type 0
  BodyWalked =
      WalkedMany ws end (encode_alternative (encode_block inner_depth)) (ok_alternative (ok_block inner_depth))
      (past_outermost v inner_depth)

-- What a survey gives as what was seen of a whole rule.
abbrev pub seen_by : Survey → Seen
seen_by r = record { calls = bit r.calls; corners = bit r.corners; stops = r.stops; seeks = true; null = r.nullable }

-- What the walk has seen of the rule that stands at a place.
pub record BodySeen (v : View) (ws : List ℕ) (end at : ℕ) (r : Survey) : Type 0 where
  pub is : (t : Rule) (q : ℕ) → RuleSpans ws end body_depth at t q
      → seen_by r ≡ whole (eqb t.flags 0) (folded (past_outermost v inner_depth) unseen t.body)
