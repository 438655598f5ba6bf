-- What one walk over all bodies tells: its steps, and what they come to.
use Prim.Native.Nat.{ℕ, ◌+◌}
use mathlib.Core.Path.{◌≡◌, refl, sym, ap, ◌∙◌}
use mathlib.Core.List.{List, [], ◌∷◌, ◌++◌}
use native.Mathlib.Omega.{arith}
use native.Mathlib.Nat.{add-zero}
use lib.ListN.{length, get_or, length-append}
use lib.Dec.{leb}
use Rattle.grammar.specs.Numbers.{alternative_sort, element_sort, label_sort, action_sort, predicate_sort}
use Rattle.grammar.specs.Ids.{body_ids}
use Rattle.grammar.specs.Found.{FoundRules}
use Rattle.grammar.specs.Fold.{RulesWalked}
use Rattle.ids.specs.declared.survey.Track.{Track}
use Rattle.ids.specs.declared.survey.Survey.{Survey}
use Rattle.ids.specs.Ids.{own_ids, alternative_id, seeing}
use Rattle.ids.specs.Survey.{seen, tracked, fresh, surveyed, unseen, OwnSeen, AlternativeSeen, RisesApart, Under, Surveyed}
use Rattle.ids.proofs.Laws.Seeing.{rules_ids}
use Rattle.ids.proofs.Laws.Track.{fresh_under, risen}

-- an element's own ids, and an alternative's
pub own_seen : (ws : List ℕ) (at payload : ℕ) (v : Survey) {a b c d : List ℕ} {t u x y : Track}
    → a ≡ own_ids ws at payload element_sort → t ≡ tracked v.element a
    → b ≡ own_ids ws at payload label_sort → u ≡ tracked v.label b
    → c ≡ own_ids ws at payload action_sort → x ≡ tracked v.action c
    → d ≡ own_ids ws at payload predicate_sort → y ≡ tracked v.predicate d
    → OwnSeen ws at payload v
    (record {
      alternatives = v.alternatives;
      elements = v.elements + 1;
      alternative = v.alternative;
      element = t;
      label = u;
      action = x;
      predicate = y;
    })
unfolding surveyed own_ids
own_seen ws at payload v e t f u g x h y =
    record {
      surveys =
          λ i. record {
            alternatives = sym (add-zero v.alternatives) i;
            elements = v.elements + 1;
            alternative = v.alternative;
            element = (t ∙ ap (tracked v.element) e) i;
            label = (u ∙ ap (tracked v.label) f) i;
            action = (x ∙ ap (tracked v.action) g) i;
            predicate = (y ∙ ap (tracked v.predicate) h) i;
          };
      alternatives = refl;
      elements = refl;
    }

pub alternative_seen : (ws : List ℕ) (at : ℕ) (v : Survey) {w : ℕ} {t : Track} → w ≡ get_or ws at 0 → t ≡ seen v.alternative w
    → AlternativeSeen ws at v
    (record {
      alternatives = v.alternatives + 1;
      elements = v.elements;
      alternative = t;
      element = v.element;
      label = v.label;
      action = v.action;
      predicate = v.predicate;
    })
unfolding surveyed alternative_id
alternative_seen ws at v e t =
    record {
      surveys =
          λ i. record {
            alternatives = v.alternatives + 1;
            elements = sym (add-zero v.elements) i;
            alternative = (t ∙ ap (seen v.alternative) e) i;
            element = v.element;
            label = v.label;
            action = v.action;
            predicate = v.predicate;
          };
      alternatives = refl;
      elements = refl;
    }

pub ruleset parts = (own_seen, alternative_seen)

-- all ids at once
tracked_more : (t : Track) (xs ys : List ℕ) → tracked (tracked t xs) ys ≡ tracked t (xs ++ ys)
tracked_more t [] ys = refl
tracked_more t (x ∷ xs) ys = tracked_more (seen t x) xs ys

counted_more : (n : ℕ) (xs ys : List ℕ) → n + length xs + length ys ≡ n + length (xs ++ ys)
counted_more n xs ys = let l = length-append xs ys in omega arith

surveyed_none : (v : Survey) → surveyed v (λ sort. []) ≡ v
unfolding surveyed
surveyed_none v i =
    record {
      alternatives = add-zero v.alternatives i;
      elements = add-zero v.elements i;
      alternative = v.alternative;
      element = v.element;
      label = v.label;
      action = v.action;
      predicate = v.predicate;
    }

surveyed_more : (v : Survey) (f g : ℕ → List ℕ) → surveyed (surveyed v f) g ≡ surveyed v (λ sort. f sort ++ g sort)
unfolding surveyed
surveyed_more v f g i =
    record {
      alternatives = counted_more v.alternatives (f 2) (g 2) i;
      elements = counted_more v.elements (f 3) (g 3) i;
      alternative = tracked_more v.alternative (f 2) (g 2) i;
      element = tracked_more v.element (f 3) (g 3) i;
      label = tracked_more v.label (f 4) (g 4) i;
      action = tracked_more v.action (f 5) (g 5) i;
      predicate = tracked_more v.predicate (f 6) (g 6) i;
    }

-- the whole walk
module _ {ws : List ℕ} {end n : ℕ} (sort : ℕ) {t : Track}
    (e : (f : FoundRules ws end n 0) → t ≡ tracked fresh (body_ids sort f.trees)) where
  rises_apart : RisesApart ws end n sort t.falls
  rises_apart = record { apart = λ f r. (risen fresh (body_ids sort f.trees) (sym (ap (λ u. u.falls) (e f)) ∙ r)).apart }

  is_under : Under ws end n sort t.top
  is_under = record { under = λ f c. sym (fresh_under (body_ids sort f.trees) c) ∙ ap (λ u. leb u.top c) (sym (e f)) }

pub survey_done : {ws : List ℕ} {end n : ℕ} {none v : Survey} {p : ℕ} → none ≡ unseen
    → RulesWalked (seeing surveyed) ws end n 0 none p v → Surveyed ws end n v
unfolding surveyed
survey_done {ws} {end} {n} {none} {v} e c =
    record {
      alternative_count =
          λ f. let z : v.alternatives ≡ 0 + length (body_ids alternative_sort f.trees) = ap (λ u. u.alternatives) (all f) in omega arith;
      element_count = λ f. let z : v.elements ≡ 0 + length (body_ids element_sort f.trees) = ap (λ u. u.elements) (all f) in omega arith;
      alternative_rises = rises_apart alternative_sort λ f. ap (λ u. u.alternative) (all f);
      element_rises = rises_apart element_sort λ f. ap (λ u. u.element) (all f);
      label_rises = rises_apart label_sort λ f. ap (λ u. u.label) (all f);
      action_rises = rises_apart action_sort λ f. ap (λ u. u.action) (all f);
      predicate_rises = rises_apart predicate_sort λ f. ap (λ u. u.predicate) (all f);
      alternative_under = is_under alternative_sort λ f. ap (λ u. u.alternative) (all f);
      element_under = is_under element_sort λ f. ap (λ u. u.element) (all f);
      label_under = is_under label_sort λ f. ap (λ u. u.label) (all f);
      action_under = is_under action_sort λ f. ap (λ u. u.action) (all f);
      predicate_under = is_under predicate_sort λ f. ap (λ u. u.predicate) (all f);
    }
  where
    all : (f : FoundRules ws end n 0) → v ≡ surveyed unseen (λ sort. body_ids sort f.trees)
    all f =
        c.value f.trees f.next f.spans f.count
        ∙ rules_ids surveyed surveyed_none surveyed_more none f.trees
        ∙ ap (λ u. surveyed u (λ sort. body_ids sort f.trees)) e
