-- What a survey says of a rule is what the definition says of it.
use Prim.Native.Nat.{ℕ, zero, suc}
use mathlib.Core.Path.{◌≡◌, refl, sym, ap, ap₂, ◌∙◌}
use mathlib.Core.List.{List, [], ◌∷◌, ◌++◌}
use mathlib.Core.Option.{Option, none, some}
use mathlib.Core.Bool.{Bool, true, false, ◌&&◌, ◌||◌, not, and-true, and-false, or-false, or-true, and_assoc, or_assoc, and-or_distrib_left}
use lib.ListN.{get_or}
use lib.Dec.{eqb, ltb}
use Rattle.grammar.specs.Numbers.{action_sort, predicate_sort}
use Rattle.grammar.specs.Tree.{Label, unlabelled, labelled, ElementHead, Leaf, epsilon, action, predicate, call, token, terminal}
use Rattle.grammar.specs.Tree.{end_of_input, Element, leaf, block, AlternativeOf, Block, Rule, body_depth, inner_depth}
use Rattle.grammar.specs.Lists.{is_empty, nothing, each, all, any, member}
use Rattle.grammar.specs.Ids.{label_ids, head_ids, leaf_ids, element_ids, alternative_ids, block_ids}
use Rattle.grammar.specs.Corners.{Corners, rust, textbook}
use Rattle.grammar.specs.Fold.{folded, element_fold, alternative_fold, block_fold}
use Rattle.grammar.specs.Found.{RuleSpans}
use Rattle.grammar.specs.Laws.Lists.{member_append}
use Rattle.reference.specs.Walks.{sort_of, is_end, is_optional, element_gives, block_gives}
use Rattle.reference.specs.Analysis.{Grammar, target, calls, collect_calls_into, leaf_nullable, element_nullable, block_is_nullable, is_stop}
use Rattle.reference.specs.Analysis.{collect_left_corner_calls, block_corners}
use Rattle.reference.specs.Plan.{satellite_has_embedded_semantics, satellite_is_inlinable}
use Rattle.analysis.specs.Survey.{View, Seen, is_semantic, calls_to, leaf_null, leaf_ends, past_leaf, into, past_block}
use Rattle.analysis.specs.Survey.{past_alternative, surveying, past_outermost, unseen, BodySeen}
use Rattle.analysis.specs.Corners.{passes_symbols}
use Rattle.analysis.specs.Facts.{Agrees, SurveyOf, Surveyed}
use Rattle.reach.specs.Rows.{holds}
use Rattle.analysis.specs.declared.survey.Survey.{Survey}

-- Whether anything is in two lists, one behind the other.
abbrev pub some_in : List ℕ → List ℕ → Bool
some_in xs ys = not (is_empty (xs ++ ys))

some_append : (as' bs xs ys : List ℕ) → some_in (as' ++ bs) (xs ++ ys) ≡ (some_in as' xs || some_in bs ys)
some_append (a ∷ as') bs xs ys = refl
some_append [] (b ∷ bs) xs ys = sym (or-true (not (is_empty xs)))
some_append [] [] (x ∷ xs) ys = refl
some_append [] [] [] ys = refl

module _ (ids : List ℕ) (n : ℕ) where
  pub holds_none : (j : ℕ) → holds ids n [] j ≡ false
  unfolding holds member
  holds_none j = and-false (ltb j n)

  pub holds_append : (xs ys : List ℕ) (j : ℕ) → holds ids n (xs ++ ys) j ≡ (holds ids n xs j || holds ids n ys j)
  unfolding holds
  holds_append xs ys j =
      ap (λ b. ltb j n && b) (member_append (get_or ids j 0) xs ys)
      ∙ and-or_distrib_left (ltb j n) (member (get_or ids j 0) xs) (member (get_or ids j 0) ys)

  holds_if : (b : Bool) (xs : List ℕ) (j : ℕ) → holds ids n (elim b [ true ↦ xs | false ↦ [] ]) j ≡ (b && holds ids n xs j)
  holds_if true xs j = refl
  holds_if false xs j = holds_none j

  -- What is seen from s to r: calls, left corners where they are sought at s, and whether anything stops inlining.
  pub record Adds (s r : Seen) (cs ks : List ℕ) (st : Bool) : Type 0 where
    pub calls : (j : ℕ) → r.calls j ≡ (s.calls j || holds ids n cs j)
    pub corners : (j : ℕ) → r.corners j ≡ (s.corners j || (s.seeks && holds ids n ks j))
    pub stops : r.stops ≡ (s.stops || st)

  adds_none : (s : Seen) → Adds s s [] [] false
  adds_none s =
      record {
        calls = λ j. simp (holds_none, or-false);
        corners = λ j. simp (holds_none, and-false, or-false);
        stops = simp or-false;
      }

  -- One after the other; left corners are sought in the second if the test holds.
  adds_then : {s r t : Seen} {cs ks ds ls : List ℕ} {st su both : Bool} (b : Bool) → r.seeks ≡ (s.seeks && b) → both ≡ (st || su)
      → Adds s r cs ks st → Adds r t ds ls su → Adds s t (cs ++ ds) (ks ++ elim b [ true ↦ ls | false ↦ [] ]) both
  adds_then {ls = ls} b e f x y =
      record {
        calls = λ j. simp (y.calls, x.calls, holds_append, or_assoc);
        corners = λ j. simp (y.corners, x.corners, e, holds_append, holds_if b ls j, or_assoc, and_assoc, and-or_distrib_left);
        stops = simp (y.stops, x.stops, f, or_assoc);
      }

  -- What a step sees of any item: left corners are sought behind it as in front of it, and one that is nullable is enough.
  pub record Means {A : Type 0} (f : Seen → A → Seen) (cs ks : A → List ℕ) (st nu : A → Bool) : Type 0 where
    pub adds : (s : Seen) (a : A) → Adds s (f s a) (cs a) (ks a) (st a)
    pub seeks : (s : Seen) (a : A) → (f s a).seeks ≡ s.seeks
    pub null : (s : Seen) (a : A) → (f s a).null ≡ (s.null || nu a)

  -- The same of a list of items.
  module _ {A : Type 0} {f : Seen → A → Seen} {cs ks : A → List ℕ} {st nu : A → Bool} (m : Means f cs ks st nu) (su : List A → Bool)
      (none-stops : su [] ≡ false) (more-stops : (a : A) (as' : List A) → su (a ∷ as') ≡ (st a || su as')) where
    means_each : Means (folded f) (each cs) (each ks) su (any nu)
    unfolding any
    means_each = record { adds = adds; seeks = seeks; null = null }
      where
        adds : (s : Seen) (as' : List A) → Adds s (folded f s as') (each cs as') (each ks as') (su as')
        adds s [] = rw none-stops (adds_none s)
        adds s (a ∷ as') = adds_then true (m.seeks s a ∙ sym (and-true s.seeks)) (more-stops a as') (m.adds s a) (adds (f s a) as')

        seeks : (s : Seen) (as' : List A) → (folded f s as').seeks ≡ s.seeks
        seeks s [] = refl
        seeks s (a ∷ as') = seeks (f s a) as' ∙ m.seeks s a

        null : (s : Seen) (as' : List A) → (folded f s as').null ≡ (s.null || any nu as')
        null s [] = sym (or-false s.null)
        null s (a ∷ as') = null (f s a) as' ∙ ap (λ b. b || any nu as') (m.null s a) ∙ or_assoc s.null (nu a) (any nu as')

-- A leaf: what is known by places is what the grammar says by ids.
record LeafMeant (g : Grammar) (ids : List ℕ) (v : View) (l : Leaf) : Type 0 where
  called : (j : ℕ) → calls_to v l j ≡ holds ids v.n (calls g l) j
  null : leaf_null v l ≡ leaf_nullable g l
  ends : leaf_ends v l ≡ is_stop v.reading g l

none_called : (ids : List ℕ) (n j : ℕ) → false ≡ holds ids n [] j
none_called ids n j = sym (holds_none ids n j)

ends_by : (g : Grammar) (l : Leaf) (reading : Corners) {b : Bool} → b ≡ is_stop rust g l
    → (not (passes_symbols reading) && b) ≡ is_stop reading g l
unfolding is_stop
ends_by g l textbook e = refl
ends_by g l rust e = e

-- The ids in an element's head are of no action and of no predicate.
past_head : (h : ElementHead) (as' bs xs ys : List ℕ)
    → some_in ((head_ids action_sort h ++ as') ++ bs) ((head_ids predicate_sort h ++ xs) ++ ys) ≡ (some_in as' xs || some_in bs ys)
unfolding head_ids label_ids
past_head h as' bs xs ys =
    some_append (head_ids action_sort h ++ as') bs (head_ids predicate_sort h ++ xs) ys
    ∙ ap (λ b. b || some_in bs ys) (some_append (head_ids action_sort h) as' (head_ids predicate_sort h) xs)
    ∙ ap (λ b. b || some_in as' xs || some_in bs ys) (plain h.label)
  where
    plain : (l : Label) → some_in (label_ids action_sort l) (label_ids predicate_sort l) ≡ false
    plain unlabelled = refl
    plain (labelled i n) = refl

-- Whether an action or a predicate stands in an alternative, and in one and more.
abbrev semantic : (d : ℕ) → AlternativeOf (Block d) → Bool
semantic d a = some_in (alternative_ids action_sort (block_ids action_sort d) a) (alternative_ids predicate_sort (block_ids predicate_sort d) a)

semantic_more : (d : ℕ) (a : AlternativeOf (Block d)) (as' : Block (suc d))
    → satellite_has_embedded_semantics (suc d) (a ∷ as') ≡ (semantic d a || satellite_has_embedded_semantics (suc d) as')
unfolding satellite_has_embedded_semantics block_ids
semantic_more d a as' =
    some_append (alternative_ids action_sort (block_ids action_sort d) a) (block_ids action_sort (suc d) as')
    (alternative_ids predicate_sort (block_ids predicate_sort d) a) (block_ids predicate_sort (suc d) as')

-- Whether anything in a body stops inlining.
stops_body : (d : ℕ) → Block (suc d) → Bool
stops_body d b = not (all (λ a. eqb a.flag 0) b && not (satellite_has_embedded_semantics (suc d) b))

module _ {g : Grammar} {ids : List ℕ} {v : View} (w : Agrees g ids v) where
  leaf_meant : (l : Leaf) → LeafMeant g ids v l
  unfolding calls_to leaf_null leaf_ends sort_of is_end calls leaf_nullable is_stop
  leaf_meant epsilon = record { called = none_called ids v.n; null = refl; ends = ends_by g epsilon v.reading refl }
  leaf_meant (action a) = record { called = none_called ids v.n; null = refl; ends = ends_by g (action a) v.reading refl }
  leaf_meant (predicate p) = record { called = none_called ids v.n; null = refl; ends = ends_by g (predicate p) v.reading refl }
  leaf_meant (call c) =
      record {
        called = w.calls c.name;
        null = w.empty c.name;
        ends = ends_by g (call c) v.reading (ap not (w.known c.name) ∙ unknown (target g c.name));
      }
    where
      unknown : (t : Option ℕ) → not (elim t [ none ↦ false | some t ↦ true ]) ≡ elim t [ none ↦ true | some t ↦ false ]
      unknown none = refl
      unknown (some t) = refl
  leaf_meant (token n) = record { called = none_called ids v.n; null = refl; ends = ends_by g (token n) v.reading refl }
  leaf_meant terminal = record { called = none_called ids v.n; null = refl; ends = ends_by g terminal v.reading refl }
  leaf_meant end_of_input = record { called = none_called ids v.n; null = refl; ends = ends_by g end_of_input v.reading refl }

  -- Elements and an alternative, by what is seen of their blocks.
  module _ {B : Type 0} {f : Seen → B → Seen} {cs ks : B → List ℕ} {nu : B → Bool} (xs ys : B → List ℕ)
      (m : Means ids v.n f cs ks (λ b. some_in (xs b) (ys b)) nu) where
    pub elements_add : (s : Seen) (es : List (Element B))
        → Adds ids v.n s (folded (element_fold (surveying v) f) s es) (each (element_gives nothing (calls g) cs) es)
        (collect_left_corner_calls v.reading g ks nu es)
        (some_in (each (element_ids action_sort xs) es) (each (element_ids predicate_sort ys) es))
    unfolding element_fold surveying past_leaf past_block is_semantic element_gives collect_left_corner_calls element_nullable element_ids
    elements_add s [] = adds_none ids v.n s
    elements_add s (leaf h l ∷ es) =
        let x = leaf_meant l in
        adds_then ids v.n (not (is_stop v.reading g l) && element_nullable g nu (leaf h l))
        (ap₂ (λ a b. s.seeks && (not a && (is_optional h || b))) x.ends x.null)
        (past_head h (leaf_ids action_sort l) (each (element_ids action_sort xs) es) (leaf_ids predicate_sort l)
        (each (element_ids predicate_sort ys) es))
        (record {
          calls = λ j. ap (λ b. s.calls j || b) (x.called j);
          corners = λ j. ap (λ b. s.corners j || (s.seeks && b)) (x.called j);
          stops = refl;
        })
        (elements_add (past_leaf v s (is_optional h) l) es)
    elements_add s (block h b ∷ es) =
        let x = m.adds (into false s) b in
        adds_then ids v.n (element_nullable g nu (block h b))
        (ap (λ a. s.seeks && (is_optional h || a)) (m.null (into false s) b))
        (past_head h (xs b) (each (element_ids action_sort xs) es) (ys b) (each (element_ids predicate_sort ys) es))
        (record { calls = x.calls; corners = x.corners; stops = x.stops })
        (elements_add (past_block s (is_optional h) (f (into false s) b)) es)

    element_null : (s : Seen) (e : Element B) → (element_fold (surveying v) f s e).null ≡ (s.null && element_nullable g nu e)
    unfolding element_fold surveying past_leaf past_block element_nullable
    element_null s (leaf h l) = ap (λ b. s.null && (is_optional h || b)) (leaf_meant l).null
    element_null s (block h b) = ap (λ a. s.null && (is_optional h || a)) (m.null (into false s) b)

    pub elements_null : (s : Seen) (es : List (Element B))
        → (folded (element_fold (surveying v) f) s es).null ≡ (s.null && all (element_nullable g nu) es)
    unfolding all
    elements_null s [] = sym (and-true s.null)
    elements_null s (e ∷ es) =
        elements_null (element_fold (surveying v) f s e) es
        ∙ ap (λ b. b && all (element_nullable g nu) es) (element_null s e)
        ∙ and_assoc s.null (element_nullable g nu e) (all (element_nullable g nu) es)

    alternative_means : Means ids v.n (alternative_fold (surveying v) f)
        (λ a. each (element_gives nothing (calls g) cs) a.elements)
        (λ a. collect_left_corner_calls v.reading g ks nu a.elements)
        (λ a. some_in (alternative_ids action_sort xs a) (alternative_ids predicate_sort ys a))
        (λ a. all (element_nullable g nu) a.elements)
    unfolding alternative_fold surveying past_alternative alternative_ids
    alternative_means =
        record {
          adds = λ s a.
              let x = elements_add (into true s) a.elements in
              record { calls = x.calls; corners = x.corners; stops = x.stops };
          seeks = λ s a. refl;
          null = λ s a. ap (λ b. s.null || b) (elements_null (into true s) a.elements);
        }

  pub block_means : (d : ℕ)
      → Means ids v.n (block_fold (surveying v) d) (collect_calls_into g d) (block_corners v.reading g d)
      (satellite_has_embedded_semantics d) (block_is_nullable g d)
  unfolding block_fold collect_calls_into block_gives block_corners block_is_nullable satellite_has_embedded_semantics block_ids
  block_means zero = record { adds = λ s b. absurd b; seeks = λ s b. absurd b; null = λ s b. absurd b }
  block_means (suc d) =
      means_each ids v.n (alternative_means (block_ids action_sort d) (block_ids predicate_sort d) (block_means d))
      (satellite_has_embedded_semantics (suc d)) refl (semantic_more d)

  -- An outermost alternative, whose label stops inlining too.
  outermost_means : (d : ℕ) {cs ks : AlternativeOf (Block d) → List ℕ} {st nu : AlternativeOf (Block d) → Bool}
      → Means ids v.n (alternative_fold (surveying v) (block_fold (surveying v) d)) cs ks st nu
      → Means ids v.n (past_outermost v d) cs ks (λ a. st a || not (eqb a.flag 0)) nu
  unfolding past_outermost
  outermost_means d m =
      record {
        adds = λ s a.
            let x = m.adds s a in
            record {
              calls = x.calls;
              corners = x.corners;
              stops = ap (λ b. b || not (eqb a.flag 0)) x.stops ∙ or_assoc s.stops _ (not (eqb a.flag 0));
            };
        seeks = m.seeks;
        null = m.null;
      }

  -- A body.
  body_means : (d : ℕ)
      → Means ids v.n (folded (past_outermost v d)) (collect_calls_into g (suc d)) (block_corners v.reading g (suc d))
      (stops_body d) (block_is_nullable g (suc d))
  unfolding collect_calls_into block_gives block_corners block_is_nullable satellite_has_embedded_semantics block_ids stops_body all
  body_means d =
      means_each ids v.n (outermost_means d (alternative_means (block_ids action_sort d) (block_ids predicate_sort d) (block_means d)))
      (stops_body d) refl (λ a as'.
      let flags = all (λ a. eqb a.flag 0) as' in
      ap (λ b. not (eqb a.flag 0 && flags && not b)) (semantic_more d a as')
      ∙ stopped (eqb a.flag 0) flags (semantic d a) (satellite_has_embedded_semantics (suc d) as'))
    where
      stopped : (p q x y : Bool) → not (p && q && not (x || y)) ≡ (x || not p || not (q && not y))
      stopped true q true y = ap not (and-false q)
      stopped true q false y = refl
      stopped false q true y = refl
      stopped false q false y = refl

survey_meant : {g : Grammar} {ids : List ℕ} {v : View} → Agrees g ids v → {ws : List ℕ} {end at : ℕ} {r : Survey}
    → BodySeen v ws end at r → (t : Rule) (q : ℕ) → RuleSpans ws end body_depth at t q → SurveyOf v.reading g ids v.n t r
unfolding satellite_is_inlinable stops_body
survey_meant w y t q u =
    let e = y.is t q u in
    let m = body_means w inner_depth in
    let x = m.adds unseen t.body in
    record {
      calls = record { at = λ j. ap (λ s. s.calls j) e ∙ x.calls j };
      corners = record { at = λ j. ap (λ s. s.corners j) e ∙ x.corners j };
      stops = ap (λ s. s.stops) e ∙ ap (λ b. b || not (eqb t.flags 0)) x.stops ∙ either_stops (eqb t.flags 0) _;
      nullable = ap (λ s. s.null) e ∙ m.null unseen t.body;
    }
  where
    either_stops : (a b : Bool) → (not b || not a) ≡ not (a && b)
    either_stops true b = or-false (not b)
    either_stops false b = or-true (not b)

pub surveyed : {v : View} {ws : List ℕ} {end at : ℕ} {r : Survey} → BodySeen v ws end at r → Surveyed v ws end at r
surveyed s = record { by = λ g ids a t q u. survey_meant a s t q u }
