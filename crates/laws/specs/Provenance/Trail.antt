-- The trail of fresh ids: each entry has the next id of its kind and an owner that was there before.
use Rattle.std.specs.Prelude.{ℕ, zero, suc, ◌≤◌, ◌<◌, ◌≡◌, refl, Bool, false, eqb}
use Rattle.std.proofs.Common.{sym, ap, ◌∙◌, ⊎_elim, arith, eqb-true, eq-eqb, ne_eqb}
use mathlib.Core.List.Memᴰ
use mathlib.Core.List.{List, [], ◌∷◌, ◌++◌, append-nil, Memᴰ}
use Rattle.std.proofs.Math.Bool.{true}
use Rattle.std.proofs.lemmas.Bool.{eqb-false}
use Rattle.grammar.specs.Tree.{Label, unlabelled, labelled, ElementHead, Leaf, epsilon, action, predicate, call, token, terminal}
use Rattle.grammar.specs.Tree.{end_of_input, Element, leaf, block, AlternativeOf, Block, Counters}
use Rattle.grammar.specs.Lists.{each, only}
use Rattle.grammar.specs.Ids.{label_ids, head_ids, leaf_ids, element_ids, alternative_ids, block_ids}
use Rattle.grammar.specs.Laws.Parse.{either}
use Rattle.grammar.specs.Numbers.{word_end, rule_sort, alternative_sort, element_sort, label_sort, action_sort, predicate_sort}
use Rattle.reference.specs.Apply.{Entry, boundary, Fresh, fresh_each, moved, past, renumber_label, renumber_head, renumber_leaf}
use Rattle.reference.specs.Apply.{renumber_element, renumber_elements, renumber_alternative, renumber_block}
use Rattle.reference.specs.Run.{encode_entry}
use Rattle.reference.specs.Numbers.{rule_boundary, block_boundary}
use Rattle.laws.specs.Demands.Trail.{numbers_at}
use Rattle.laws.specs.Demands.Applied.{Sort, of_alternative, of_element, of_label, of_action, of_predicate, number, counter_at}
use Rattle.laws.specs.Lists.Count.{count, between, between_one, between_none, between_join}

-- The sort with a number.
sort_at : ℕ → Sort
sort_at k =
    elim (eqb k alternative_sort) [
      | true ↦ of_alternative
      | false ↦ elim (eqb k element_sort) [
        | true ↦ of_element
        | false ↦ elim (eqb k label_sort)
            [ true ↦ of_label | false ↦ elim (eqb k action_sort) [ true ↦ of_action | false ↦ of_predicate ] ]
      ]
    ]

sort_number : (s : Sort) → sort_at (number s) ≡ s
unfolding sort_at
sort_number of_alternative = refl
sort_number of_element = refl
sort_number of_label = refl
sort_number of_action = refl
sort_number of_predicate = refl

pub number_same : (s t : Sort) → number s ≡ number t → s ≡ t
number_same s t e = sym (sort_number s) ∙ ap sort_at e ∙ sort_number t

pub number_one : (s : Sort) → eqb (number s) rule_sort ≡ false
number_one of_alternative = refl
number_one of_element = refl
number_one of_label = refl
number_one of_action = refl
number_one of_predicate = refl

pub past_at : (s : Sort) (k : ℕ) (c : Counters) → counter_at s (past k c) ≡ moved (eqb k (number s)) (counter_at s c)
past_at of_alternative k c = refl
past_at of_element k c = refl
past_at of_label k c = refl
past_at of_action k c = refl
past_at of_predicate k c = refl

-- Counters go up.
abbrev pub Up : Counters → Counters → Type 0
Up c c' = (s : Sort) → counter_at s c ≤ counter_at s c'

pub past_up : (k : ℕ) (c : Counters) → Up c (past k c)
past_up k c s = rw (past_at s k c) (go (eqb k (number s)))
  where
    go : (b : Bool) → counter_at s c ≤ moved b (counter_at s c)
    go true = omega arith
    go false = omega arith

-- The entries of a run of fresh ids, from some counters to others. A rule's entry takes no id; its id is a word.
pub data Trail : Counters → List Entry → Counters → Type 0 where
  t_end : {c : Counters} → Trail c [] c
  t_rule : {c c' : Counters} {es : List Entry} (h : ℕ) → h < word_end → Trail c es c' → Trail c (boundary rule_sort h h ∷ es) c'
  t_fresh : {c c' : Counters} {es : List Entry} (s : Sort) (b : Bool) (owner : ℕ) → owner < counter_at s c → Trail (past (number s) c) es c'
      → Trail c (record { kind = number s; id = counter_at s c; reason = moved b rule_boundary; owner = owner } ∷ es) c'

pub trail_append : {c c₁ c₂ : Counters} {es fs : List Entry} → Trail c es c₁ → Trail c₁ fs c₂ → Trail c (es ++ fs) c₂
trail_append t_end u = u
trail_append (t_rule h l t) u = t_rule h l (trail_append t u)
trail_append (t_fresh s b o l t) u = t_fresh s b o l (trail_append t u)

pub trail_nil : {c c' : Counters} {es : List Entry} → Trail c es c' → Trail c (es ++ []) c'
trail_nil {c} {c'} {es} t = rw (append-nil es) t

pub trail_up : {c c' : Counters} {es : List Entry} → Trail c es c' → Up c c'
trail_up t_end s = omega arith
trail_up (t_rule h l t) s = trail_up t s
trail_up (t_fresh {c = c} k b o l t) s = let h = trail_up t s in let g = past_up (number k) c s in omega arith

-- The ids that entries of a kind record.
abbrev pub ids_at : ℕ → List Entry → List ℕ
ids_at = numbers_at (λ e. e.id)

-- They are the numbers from one counter up to the other, each once.
pub trail_count : {c c' : Counters} {es : List Entry} → Trail c es c' → (s : Sort) (x : ℕ)
    → count x (ids_at (number s) es) ≡ between (counter_at s c) (counter_at s c') x
unfolding count
trail_count {c} t_end s x = sym (between_none (counter_at s c) x)
trail_count (t_rule h l t) s x = rw (number_one s) (trail_count t s x)
trail_count {c} {c'} (t_fresh {es = es} k b o l t) s x =
    let more = trail_count t s x in
    let h = trail_up t s in
    either (eqb (number s) (number k))
    (λ u.
    let e = eqb-true (number s) (number k) u in
    let p : counter_at s (past (number k) c) ≡ suc (counter_at s c) =
    past_at s (number k) c ∙ ap (λ b. moved b (counter_at s c)) (eq-eqb (number k) (number s) (sym e)) in
    let q : counter_at k c ≡ counter_at s c = ap (λ r. counter_at r c) (sym (number_same s k e)) in
    rw (u, more, p, q) (let i = rw p at h in rw (← between_one (counter_at s c) x)
    (between_join (counter_at s c) (suc (counter_at s c)) (counter_at s c') x (omega arith) (omega arith))))
    (λ f.
    let ne = ne_eqb (number k) (number s) (λ e. eqb-false (number s) (number k) f (sym e)) in
    let p : counter_at s (past (number k) c) ≡ counter_at s c = past_at s (number k) c ∙ ap (λ b. moved b (counter_at s c)) ne in
    rw (f, more, p) refl)

-- Every number in it is a word, where the counters at its end are.
number_small : (s : Sort) → number s ≤ predicate_sort
number_small of_alternative = omega arith
number_small of_element = omega arith
number_small of_label = omega arith
number_small of_action = omega arith
number_small of_predicate = omega arith

reason_small : (b : Bool) → moved b rule_boundary ≤ block_boundary
reason_small true = omega arith
reason_small false = omega arith

entry_words : (e : Entry) → e.kind < word_end → e.id < word_end → e.reason < word_end → e.owner < word_end → {w : ℕ}
    → Memᴰ w (encode_entry e) → w < word_end
unfolding encode_entry
entry_words e k i r o (Memᴰ.head q) = omega arith
entry_words e k i r o (Memᴰ.tail (Memᴰ.head q)) = omega arith
entry_words e k i r o (Memᴰ.tail (Memᴰ.tail (Memᴰ.head q))) = omega arith
entry_words e k i r o (Memᴰ.tail (Memᴰ.tail (Memᴰ.tail m))) = let q = Memᴰ.eq_of_singleton m in omega arith

pub trail_words_lem : {c c' : Counters} {es : List Entry} → Trail c es c' → ((s : Sort) → counter_at s c' < word_end) → {w : ℕ}
    → Memᴰ w (each encode_entry es) → w < word_end
trail_words_lem t_end h m = absurd (Memᴰ.not-nil m)
trail_words_lem (t_rule g l t) h m =
    ⊎_elim (λ n. entry_words (boundary rule_sort g g) (omega arith) l (omega arith) l n) (λ n. trail_words_lem t h n)
    (Memᴰ.append_cases (encode_entry (boundary rule_sort g g)) m)
trail_words_lem (t_fresh {c = c} s b o l t) h m =
    let e : Entry = record { kind = number s; id = counter_at s c; reason = moved b rule_boundary; owner = o } in
    let top = h s in
    let up = trail_up t s in
    let past = past_up (number s) c s in
    let k = number_small s in
    let r = reason_small b in
    ⊎_elim (λ n. entry_words e (omega arith) (omega arith) (omega arith) (omega arith) n) (λ n. trail_words_lem t h n)
    (Memᴰ.append_cases (encode_entry e) m)

-- Each id of a tree is below its counter.
abbrev pub Below : {A : Type 0} → Counters → (ℕ → A → List ℕ) → A → Type 0
Below c ids x = (s : Sort) (i : ℕ) → Memᴰ i (ids (number s) x) → i < counter_at s c

pub below_up : {A : Type 0} {c c' : Counters} (ids : ℕ → A → List ℕ) (x : A) → Up c c' → Below c ids x → Below c' ids x
below_up ids x u h s i m = let a = h s i m in let b = u s in omega arith

-- The entries of a copy are a trail.
abbrev pub Copied : {A : Type 0} → (ℕ → A → List ℕ) → A → Counters → Fresh A → Type 0
Copied ids old c f = Below c ids old → Trail c f.entries f.counters

copied_label : (l : Label) (c : Counters) → Copied label_ids l c (renumber_label l c)
unfolding renumber_label label_ids
copied_label unlabelled c h = t_end
copied_label (labelled i n) c h = t_fresh of_label true i (h of_label i (Memᴰ.head refl)) t_end

copied_leaf : (l : Leaf) (c : Counters) → Copied leaf_ids l c (renumber_leaf l c)
unfolding renumber_leaf leaf_ids
copied_leaf epsilon c h = t_end
copied_leaf (action a) c h = t_fresh of_action true a.id (h of_action a.id (Memᴰ.head refl)) t_end
copied_leaf (predicate p) c h = t_fresh of_predicate true p.id (h of_predicate p.id (Memᴰ.head refl)) t_end
copied_leaf (call k) c h = t_end
copied_leaf (token n) c h = t_end
copied_leaf terminal c h = t_end
copied_leaf end_of_input c h = t_end

copied_head : (h : ElementHead) (c : Counters) → Copied head_ids h c (renumber_head h c)
unfolding renumber_head head_ids
copied_head h c b =
    t_fresh of_element true h.id (b of_element h.id (Memᴰ.head refl))
    (trail_nil (copied_label h.label (past element_sort c)
    (below_up label_ids h.label (past_up element_sort c)
    (λ s i m. b s i (Memᴰ.append_right (only (eqb (number s) element_sort) h.id) m)))))

-- One after the other.
both_trail : {A B : Type 0} (ids_a : ℕ → A → List ℕ) (ids_b : ℕ → B → List ℕ) {a : A} {b : B} (c : Counters) (f : Fresh A)
    (g : Counters → Fresh B)
    → Copied ids_a a c f → ((c₁ : Counters) → Copied ids_b b c₁ (g c₁)) → Below c ids_a a → Below c ids_b b
    → Trail c (f.entries ++ ((g f.counters).entries ++ [])) (g f.counters).counters
both_trail ids_a ids_b {b = b} c f g p q h k = let t = p h in trail_append t (trail_nil (q f.counters (below_up ids_b b (trail_up t) k)))

copied_each : {A : Type 0} (ids : ℕ → A → List ℕ) (g : A → Counters → Fresh A) → ((a : A) (c : Counters) → Copied ids a c (g a c))
    → (as' : List A) (c : Counters)
    → Copied (λ k. each (ids k)) as' c (fresh_each g as' c)
unfolding fresh_each
copied_each ids g h [] c b = t_end
copied_each ids g h (a ∷ as') c b =
    both_trail ids (λ k. each (ids k)) {a = a} {b = as'} c (g a c) (fresh_each g as') (h a c) (copied_each ids g h as')
    (λ s i m. b s i (Memᴰ.append_left (each (ids (number s)) as') m))
    (λ s i m. b s i (Memᴰ.append_right (ids (number s) a) m))

module _ {B : Type 0} (renumber : B → Counters → Fresh B) (ids : ℕ → B → List ℕ)
    (h : (b : B) (c : Counters) → Copied ids b c (renumber b c)) where
  copied_element : (e : Element B) (c : Counters) → Copied (λ k. element_ids k (ids k)) e c (renumber_element renumber e c)
  unfolding renumber_element element_ids
  copied_element (leaf x l) c b =
      both_trail head_ids leaf_ids {a = x} {b = l} c (renumber_head x c) (renumber_leaf l) (copied_head x c) (copied_leaf l)
      (λ s i m. b s i (Memᴰ.append_left (leaf_ids (number s) l) m))
      (λ s i m. b s i (Memᴰ.append_right (head_ids (number s) x) m))
  copied_element (block x y) c b =
      both_trail head_ids ids {a = x} {b = y} c (renumber_head x c) (renumber y) (copied_head x c) (h y)
      (λ s i m. b s i (Memᴰ.append_left (ids (number s) y) m))
      (λ s i m. b s i (Memᴰ.append_right (head_ids (number s) x) m))

  pub copied_elements : (es : List (Element B)) (c : Counters)
      → Copied (λ k. each (element_ids k (ids k))) es c (renumber_elements renumber es c)
  unfolding renumber_elements
  copied_elements = copied_each (λ k. element_ids k (ids k)) (renumber_element renumber) copied_element

  copied_alternative : (a : AlternativeOf B) (c : Counters)
      → Copied (λ k. alternative_ids k (ids k)) a c (renumber_alternative renumber a c)
  unfolding renumber_alternative alternative_ids
  copied_alternative a c b =
      t_fresh of_alternative true a.id (b of_alternative a.id (Memᴰ.head refl))
      (trail_nil (copied_elements a.elements (past alternative_sort c)
      (below_up (λ k. each (element_ids k (ids k))) a.elements (past_up alternative_sort c)
      (λ s i m. b s i (Memᴰ.append_right (only (eqb (number s) alternative_sort) a.id) m)))))

pub copied_block : (d : ℕ) (b : Block d) (c : Counters) → Copied (λ k. block_ids k d) b c (renumber_block d b c)
unfolding renumber_block block_ids
copied_block zero b c = absurd b
copied_block (suc d) as' c =
    copied_each (λ k. alternative_ids k (block_ids k d)) (renumber_alternative (renumber_block d))
    (copied_alternative (renumber_block d) (λ k. block_ids k d) (copied_block d)) as' c
