-- A walk that looks at labels and leaves: one element, one alternative, and what it comes to.
use Prim.Native.Nat.{ℕ, zero, suc, ◌+◌}
use mathlib.Core.Path.{◌≡◌, refl, sym, ap, ◌∙◌}
use mathlib.Core.Logic.{◌⊎◌, inl, inr}
use mathlib.Core.List.{List, [], ◌∷◌, ◌++◌}
use mathlib.Core.Bool.{Bool, true, false, ◌||◌, or-false, or_assoc}
use native.Mathlib.Omega.{arith}
use lib.ListN.{length, get_or}
use lib.Dec.{leb}
use Rattle.std.specs.Cmp.{first_so, second_so}
use Rattle.grammar.specs.Numbers.{action_kind, predicate_kind, block_kind, one_or_more_nongreedy}
use Rattle.grammar.specs.Tree.{Label, ElementHead, Leaf, epsilon, action, predicate, call, token, terminal, end_of_input, Element, leaf}
use Rattle.grammar.specs.Tree.{block, Block}
use Rattle.grammar.specs.Stands.{Spans}
use Rattle.grammar.specs.Encode.{encode_reference, leaf_kind, encode_leaf, encode_leaf_in}
use Rattle.grammar.specs.Valid.{ok_reference, ok_label, ok_head, ok_leaf, ok_leaf_in}
use Rattle.grammar.specs.Lists.{each, all}
use Rattle.grammar.specs.Found.{FoundElement, HeadAt}
use Rattle.grammar.specs.Fold.{Steps, folded, element_fold, alternative_fold, block_fold}
use Rattle.grammar.specs.Laws.Stands.{run_stands}
use Rattle.grammar.specs.Laws.Complete.{leaf_kind_lem}
use Rattle.grammar.specs.Laws.Opened.{HeadWords, Opened, opened_leaf, opened_block, opened}
use Rattle.words.specs.Visit.{LeafPassed, BlockEntered, AlternativeEntered}
use Rattle.reference.specs.Walks.{element_gives, block_gives, elements_give, references}
use Rattle.collisions.specs.Walks.{noting, LabelSeen, LeafSeen, FoundReferences, Refers}

-- the label of an element's own words
pub head_label : {ws : List ℕ} {end at : ℕ} {h : ElementHead} {kind p : ℕ} → HeadWords ws end at h kind p → ok_label h.label ≡ true
unfolding ok_head
head_label {h = h} w = first_so (ok_label h.label) _ (second_so (leb h.quantifier one_or_more_nongreedy) _ w.fine)

-- the steps
module _ {S : Type 0} (of_label : S → Label → S) (of_leaf : S → Leaf → S) {ws : List ℕ} {end at : ℕ} where
  pub note_leaf : {k p : ℕ} → HeadAt ws end at k p → {s t r : S} → LabelSeen ws at of_label s t → LeafSeen ws end k p of_leaf t r
      → LeafPassed (noting of_label of_leaf) ws end at p s r
  unfolding noting
  note_leaf head b f =
      record {
        is = λ h l q w u.
            let z = leaf_kind_lem l in
            f.is l q (let x = w.packed in let y = head.kind_is in omega arith) u
            ∙ ap (λ x. of_leaf x l) (b.is h.label w.named (head_label w));
      }

  pub note_block : {p : ℕ} {s r : S} → LabelSeen ws at of_label s r → BlockEntered (noting of_label of_leaf) ws end at p s r
  unfolding noting
  note_block b = record { is = λ h y. b.is h.label y.named (head_label y) }

  pub note_alternative : {d : ℕ} (s : S) → AlternativeEntered (noting of_label of_leaf) ws end at d s s
  unfolding noting
  note_alternative s = record { is = λ a z w. refl }

pub ruleset notes = (note_leaf, note_block, note_alternative)

-- the references of an action or a predicate stand behind two words
pub record Body (ws : List ℕ) (end p q : ℕ) (l : Leaf) : Type 0 where
  pub count : get_or ws (p + 1) 0 ≡ length (references l)
  pub spans : Spans ws end (each encode_reference) (all ok_reference) (p + 2) (references l) q

pub body_of : {ws : List ℕ} {end p q : ℕ} (l : Leaf) → (leaf_kind l ≡ action_kind) ⊎ (leaf_kind l ≡ predicate_kind)
    → Spans ws end encode_leaf ok_leaf p l q → Body ws end p q l
unfolding leaf_kind encode_leaf_in ok_leaf_in references
body_of epsilon (inl e) s = absurd (omega arith)
body_of epsilon (inr e) s = absurd (omega arith)
body_of {p = p} (action a) e s =
    record { count = s.stands.run.1.0; spans = record { stands = run_stands p 2 s.stands.run.1.1; fine = s.fine } }
body_of {p = p} (predicate a) e s =
    record { count = s.stands.run.1.0; spans = record { stands = run_stands p 2 s.stands.run.1.1; fine = s.fine } }
body_of (call c) (inl e) s = absurd (omega arith)
body_of (call c) (inr e) s = absurd (omega arith)
body_of (token n) (inl e) s = absurd (omega arith)
body_of (token n) (inr e) s = absurd (omega arith)
body_of terminal (inl e) s = absurd (omega arith)
body_of end_of_input (inl e) s = absurd (omega arith)
body_of terminal (inr e) s = absurd (omega arith)
body_of end_of_input (inr e) s = absurd (omega arith)

no_body : (l : Leaf) → (leaf_kind l ≡ action_kind → ⊥) → (leaf_kind l ≡ predicate_kind → ⊥) → references l ≡ []
unfolding leaf_kind references
no_body epsilon a b = refl
no_body (action x) a b = absurd (a refl)
no_body (predicate x) a b = absurd (b refl)
no_body (call c) a b = refl
no_body (token n) a b = refl
no_body terminal a b = refl
no_body end_of_input a b = refl

-- how many there are
module _ (d : ℕ) {ws : List ℕ} {end at k p : ℕ} (head : HeadAt ws end at k p) (f : FoundElement ws end d at) where
  module _ (e : (k ≡ action_kind) ⊎ (k ≡ predicate_kind)) {n : ℕ} (c : n ≡ get_or ws (p + 1) 0) where
    other : {x : ℕ} → x ≡ k → (x ≡ action_kind) ⊎ (x ≡ predicate_kind)
    other z = rw z e

    kind_low : {x : ℕ} → x ≡ k → x ≡ block_kind → ⊥
    kind_low {x} z six = go (other z)
      where
        go : (x ≡ action_kind) ⊎ (x ≡ predicate_kind) → ⊥
        go (inl a) = omega arith
        go (inr a) = omega arith

    refers_body : Refers ws end k p n
    refers_body =
        record {
          count = λ l q z u. c ∙ (body_of l (other (sym z)) u).count;
          found = λ some. go (opened f.tree f.spans);
        }
      where
        go : {t : Element (Block d)} → Opened ws end d at f.next t → FoundReferences ws end n (p + 2)
        go (opened_leaf {l = l} o w u) =
            let x : o ≡ p = let y = w.place in let z = head.payload_is in omega arith in
            let z : leaf_kind l ≡ k = let a = leaf_kind_lem l in let y = w.packed in let b = head.kind_is in omega arith in
            let b = body_of l (other z) (rw x at u) in
            record { trees = references l; next = f.next; spans = b.spans; count = sym b.count ∙ sym c }
        go (opened_block o w u) = absurd (kind_low {x = k} refl (let y = w.packed in let b = head.kind_is in omega arith))

  pub refers_action : k ≡ action_kind → {n : ℕ} → n ≡ get_or ws (p + 1) 0 → Refers ws end k p n
  refers_action e c = refers_body (inl e) c

  pub refers_predicate : k ≡ predicate_kind → {n : ℕ} → n ≡ get_or ws (p + 1) 0 → Refers ws end k p n
  refers_predicate e c = refers_body (inr e) c

pub refers_nothing : {ws : List ℕ} {end k p : ℕ} → (k ≡ action_kind → ⊥) → (k ≡ predicate_kind → ⊥) → Refers ws end k p 0
refers_nothing a b =
    record {
      count = λ l q z u. sym (ap length (no_body l (λ e. a (z ∙ e)) (λ e. b (z ∙ e))));
      found = λ some. absurd (some refl);
    }

pub ruleset counts = (refers_action, refers_predicate, refers_nothing)

-- What a walk comes to. The state tells whether a test holds of some of the numbers seen so far; it would as well be told of all of
-- them at once.
module _ {S : Type 0} (of_label : S → Label → S) (of_leaf : S → Leaf → S) (tells : S → Bool) (test : List ℕ → Bool)
    (label_gives : Label → List ℕ) (leaf_gives : Leaf → List ℕ) (none : test [] ≡ false)
    (more : (xs ys : List ℕ) → test (xs ++ ys) ≡ (test xs || test ys))
    (label : (s : S) (b : Label) → tells (of_label s b) ≡ (tells s || test (label_gives b)))
    (payload : (s : S) (l : Leaf) → tells (of_leaf s l) ≡ (tells s || test (leaf_gives l))) where
  abbrev walk : Steps S
  walk = noting of_label of_leaf

  -- one thing, then others
  joined : (a : Bool) {b c : Bool} (xs ys : List ℕ) → b ≡ (a || test xs) → c ≡ (b || test ys) → c ≡ (a || test (xs ++ ys))
  joined a xs ys e f =
      f ∙ ap (λ x. x || test ys) e ∙ or_assoc a (test xs) (test ys) ∙ ap (λ x. a || x) (sym (more xs ys))

  module _ {A : Type 0} (step : S → A → S) (gives : A → List ℕ) (one : (s : S) (a : A) → tells (step s a) ≡ (tells s || test (gives a))) where
    folded_tells : (s : S) (as' : List A) → tells (folded step s as') ≡ (tells s || test (each gives as'))
    folded_tells s [] = sym (ap (λ x. tells s || x) none ∙ or-false (tells s))
    folded_tells s (a ∷ as') = joined (tells s) (gives a) (each gives as') (one s a) (folded_tells (step s a) as')

  module _ {B : Type 0} (f : S → B → S) (g : B → List ℕ) (inner : (s : S) (b : B) → tells (f s b) ≡ (tells s || test (g b))) where
    element_tells : (s : S) (e : Element B) → tells (element_fold walk f s e) ≡ (tells s || test (element_gives label_gives leaf_gives g e))
    unfolding element_fold element_gives noting
    element_tells s (leaf h l) = joined (tells s) (label_gives h.label) (leaf_gives l) (label s h.label) (payload (of_label s h.label) l)
    element_tells s (block h b) = joined (tells s) (label_gives h.label) (g b) (label s h.label) (inner (of_label s h.label) b)

  block_tells : (d : ℕ) (s : S) (b : Block d) → tells (block_fold walk d s b) ≡ (tells s || test (block_gives label_gives leaf_gives d b))
  unfolding block_fold block_gives alternative_fold noting
  block_tells zero s b = absurd b
  block_tells (suc d) s b =
      folded_tells (alternative_fold walk (block_fold walk d)) (λ a. each (element_gives label_gives leaf_gives (block_gives label_gives leaf_gives d)) a.elements)
      (λ s a.
      folded_tells (element_fold walk (block_fold walk d)) (element_gives label_gives leaf_gives (block_gives label_gives leaf_gives d))
      (element_tells (block_fold walk d) (block_gives label_gives leaf_gives d) (block_tells d)) s a.elements) s b

  pub elements_tell : (d : ℕ) (s : S) (es : List (Element (Block d)))
      → tells (folded (element_fold walk (block_fold walk d)) s es) ≡ (tells s || test (elements_give label_gives leaf_gives d es))
  unfolding elements_give
  elements_tell d s es =
      folded_tells (element_fold walk (block_fold walk d)) (element_gives label_gives leaf_gives (block_gives label_gives leaf_gives d))
      (element_tells (block_fold walk d) (block_gives label_gives leaf_gives d) (block_tells d)) s es
