-- Labels and bound names against two sets.
use Prim.Native.Nat.{ℕ, ◌+◌}
use mathlib.Core.Path.{◌≡◌, refl, sym, ap, ap₂, ◌∙◌}
use mathlib.Core.List.{List, [], ◌∷◌, ◌++◌}
use mathlib.Core.Bool.{Bool, true, false, ◌||◌, or-false, or_assoc}
use native.Mathlib.Omega.{arith}
use lib.ListN.{get_or}
use lib.Dec.{leb, eqb}
use borrow.Author.Tests.{leb-true}
use Rattle.std.specs.Cmp.{first_so}
use Rattle.grammar.specs.Numbers.{most_name, call_kind, token_kind}
use Rattle.grammar.specs.Tree.{Label, unlabelled, labelled, Leaf, epsilon, action, predicate, call, token, terminal, end_of_input, Element}
use Rattle.grammar.specs.Tree.{Block}
use Rattle.grammar.specs.Encode.{label_name, leaf_kind, encode_leaf, encode_leaf_in}
use Rattle.grammar.specs.Stands.{Spans}
use Rattle.grammar.specs.Valid.{ok_label, ok_leaf}
use Rattle.grammar.specs.Lists.{nothing, any, member, meet}
use Rattle.grammar.specs.Fold.{folded, element_fold, alternative_fold, block_fold, AlternativeWalked}
use Rattle.grammar.specs.Laws.Stands.{stands_head}
use Rattle.grammar.specs.Laws.Lists.{eqb_swap}
use Rattle.reference.specs.Walks.{elements_give, label_names, leaf_names}
use Rattle.reference.specs.Substitute.{collect_labels, bindable_names}
use Rattle.collisions.specs.Names.{labels_bit, references_bit, has_name}
use Rattle.collisions.specs.Walks.{noting, LabelSeen, LeafSeen}
use Rattle.collisions.specs.Clash.{clash_label, clash_leaf, comparing, NameBound, ClashesAt}
use Rattle.collisions.specs.declared.clash.Clash.{Clash}
use Rattle.collisions.proofs.Laws.Walks.{elements_tell}

same_clash : {a b : Clash} → a.label ≡ b.label → a.binding ≡ b.binding → a ≡ b
same_clash p q i = record { label = p i; binding = q i }

-- A label.
module _ (bs : List ℕ) {ws : List ℕ} {at w : ℕ} (e : w ≡ get_or ws (at + 4) 0) (c : Clash) where
  pub clash_unlabelled : w ≡ 0 → LabelSeen ws at (clash_label (has_name ws bs labels_bit) (has_name ws bs references_bit)) c c
  unfolding clash_label ok_label any
  clash_unlabelled z = record { is = go }
    where
      go : (b : Label) → get_or ws (at + 4) 0 ≡ label_name b → ok_label b ≡ true → c ≡ clash_label (has_name ws bs labels_bit) (has_name ws bs references_bit) c b
      go unlabelled f k = same_clash (sym (or-false c.label)) (sym (or-false c.binding))
      go (labelled i n) f k = absurd (let h = leb-true 1 n (first_so (leb 1 n) (leb n most_name) k) in omega arith)

  pub clash_labelled : (w ≡ 0 → ⊥) → {h k : Bool} → h ≡ has_name ws bs labels_bit w → k ≡ has_name ws bs references_bit w
      → LabelSeen ws at (clash_label (has_name ws bs labels_bit) (has_name ws bs references_bit)) c (record { label = c.label || h; binding = c.binding || k })
  unfolding clash_label ok_label any
  clash_labelled some {h} {k} p q = record { is = go }
    where
      one : (from : ℕ) {n : ℕ} {x : Bool} → w ≡ n → x ≡ has_name ws bs from w → x ≡ (has_name ws bs from n || false)
      one from {n} f y = y ∙ ap (has_name ws bs from) f ∙ sym (or-false (has_name ws bs from n))

      go : (b : Label) → get_or ws (at + 4) 0 ≡ label_name b → ok_label b ≡ true
          → record { label = c.label || h; binding = c.binding || k } ≡ clash_label (has_name ws bs labels_bit) (has_name ws bs references_bit) c b
      go unlabelled f t = absurd (some (e ∙ f))
      go (labelled i n) f t = same_clash (ap (λ x. c.label || x) (one labels_bit (e ∙ f) p)) (ap (λ x. c.binding || x) (one references_bit (e ∙ f) q))

module _ (ws bs : List ℕ) where
  bound : {w n : ℕ} {c r : Clash} → NameBound ws bs w c r → w ≡ n → r ≡ record { label = c.label; binding = c.binding || (has_name ws bs references_bit n || false) }
  bound {n = n} {c} b e =
      same_clash b.label
      (b.binding ∙ ap (λ x. c.binding || x) (ap (has_name ws bs references_bit) e ∙ sym (or-false (has_name ws bs references_bit n))))

  pub clash_call : {end k p w : ℕ} {c r : Clash} → k ≡ call_kind → w ≡ get_or ws p 0 → NameBound ws bs w c r
      → LeafSeen ws end k p (clash_leaf (has_name ws bs references_bit)) c r
  unfolding clash_leaf leaf_names leaf_kind encode_leaf_in any
  clash_call {end} {k} {p} {c = c} {r} e f n = record { is = go }
    where
      go : (l : Leaf) (q : ℕ) → k ≡ leaf_kind l → Spans ws end encode_leaf ok_leaf p l q → r ≡ clash_leaf (has_name ws bs references_bit) c l
      go epsilon q h u = absurd (omega arith)
      go (action a) q h u = absurd (omega arith)
      go (predicate a) q h u = absurd (omega arith)
      go (call a) q h u = bound n (f ∙ stands_head u.stands)
      go (token a) q h u = absurd (omega arith)
      go terminal q h u = absurd (omega arith)
      go end_of_input q h u = absurd (omega arith)

  pub clash_token : {end k p w : ℕ} {c r : Clash} → k ≡ token_kind → w ≡ get_or ws p 0 → NameBound ws bs w c r
      → LeafSeen ws end k p (clash_leaf (has_name ws bs references_bit)) c r
  unfolding clash_leaf leaf_names leaf_kind encode_leaf_in any
  clash_token {end} {k} {p} {c = c} {r} e f n = record { is = go }
    where
      go : (l : Leaf) (q : ℕ) → k ≡ leaf_kind l → Spans ws end encode_leaf ok_leaf p l q → r ≡ clash_leaf (has_name ws bs references_bit) c l
      go epsilon q h u = absurd (omega arith)
      go (action a) q h u = absurd (omega arith)
      go (predicate a) q h u = absurd (omega arith)
      go (call a) q h u = absurd (omega arith)
      go (token a) q h u = bound n (f ∙ stands_head u.stands)
      go terminal q h u = absurd (omega arith)
      go end_of_input q h u = absurd (omega arith)

  pub clash_other : {end k p : ℕ} (c : Clash) → (k ≡ call_kind → ⊥) → (k ≡ token_kind → ⊥) → LeafSeen ws end k p (clash_leaf (has_name ws bs references_bit)) c c
  unfolding clash_leaf leaf_names leaf_kind any
  clash_other {k = k} c a b = record { is = λ l q h u. go l h }
    where
      same : c ≡ record { label = c.label; binding = c.binding || false }
      same = same_clash refl (sym (or-false c.binding))

      go : (l : Leaf) → k ≡ leaf_kind l → c ≡ clash_leaf (has_name ws bs references_bit) c l
      go epsilon h = same
      go (action x) h = same
      go (predicate x) h = same
      go (call x) h = absurd (a h)
      go (token x) h = absurd (b h)
      go terminal h = same
      go end_of_input h = same

pub ruleset clashes = (clash_unlabelled, clash_labelled, clash_call, clash_token, clash_other)

-- Whether two lists meet, asked of the one or of the other.
any_append : (f : ℕ → Bool) (xs ys : List ℕ) → any f (xs ++ ys) ≡ (any f xs || any f ys)
unfolding any
any_append f [] ys = refl
any_append f (x ∷ xs) ys = ap (λ b. f x || b) (any_append f xs ys) ∙ sym (or_assoc (f x) (any f xs) (any f ys))

same_any : (f g : ℕ → Bool) → ((n : ℕ) → f n ≡ g n) → (xs : List ℕ) → any f xs ≡ any g xs
unfolding any
same_any f g h [] = refl
same_any f g h (x ∷ xs) = ap₂ ◌||◌ (h x) (same_any f g h xs)

meet_none : (xs : List ℕ) → meet xs [] ≡ false
unfolding meet any member
meet_none [] = refl
meet_none (x ∷ xs) = meet_none xs

swap : (a b c d : Bool) → ((a || b) || (c || d)) ≡ ((a || c) || (b || d))
swap true b c d = refl
swap false true true d = refl
swap false true false d = refl
swap false false c d = refl

meet_cons : (xs : List ℕ) (y : ℕ) (ys : List ℕ) → meet xs (y ∷ ys) ≡ (member y xs || meet xs ys)
unfolding meet any member
meet_cons [] y ys = refl
meet_cons (x ∷ xs) y ys =
    ap₂ (λ a b. (a || member x ys) || b) (eqb_swap x y) (meet_cons xs y ys)
    ∙ swap (eqb y x) (member x ys) (member y xs) (meet xs ys)

any_meet : (xs ys : List ℕ) → any (λ y. member y xs) ys ≡ meet xs ys
unfolding any
any_meet xs [] = sym (meet_none xs)
any_meet xs (y ∷ ys) = ap (λ b. member y xs || b) (any_meet xs ys) ∙ sym (meet_cons xs y ys)

-- The whole walk.
module _ (labels references : ℕ → Bool) (d : ℕ) (s : Clash) (es : List (Element (Block d))) where
  abbrev walked : Clash
  walked =
      let walk = noting (clash_label labels references) (clash_leaf references) in folded (element_fold walk (block_fold walk d)) s es

  label_tells : walked.label ≡ (s.label || any labels (elements_give label_names nothing d es))
  unfolding clash_label clash_leaf any
  label_tells =
      elements_tell (clash_label labels references) (clash_leaf references) (λ c. c.label) (any labels) label_names nothing refl (any_append labels)
      (λ c b. refl) (λ c l. sym (or-false c.label)) d s es

  binding_tells : walked.binding ≡ (s.binding || any references (elements_give label_names leaf_names d es))
  unfolding clash_label clash_leaf any
  binding_tells =
      elements_tell (clash_label labels references) (clash_leaf references) (λ c. c.binding) (any references) label_names leaf_names refl
      (any_append references) (λ c b. refl) (λ c l. refl) d s es

pub clash_done : (d : ℕ) {ws : List ℕ} {end at : ℕ} (bs : List ℕ) {q : ℕ} {first r : Clash}
    → first.label ≡ false → first.binding ≡ false → AlternativeWalked (comparing ws bs) ws end d at first q r
    → ClashesAt ws end d at bs r
unfolding alternative_fold noting collect_labels bindable_names
clash_done d {ws} {end} {at} bs {first = first} {r} x y walked =
    let z : first ≡ none = λ i. record { label = x i; binding = y i } in
    let w = rw z at walked in
    record {
      label_is = λ labels references m a z s.
          ap (λ c. c.label) (w.value a z s)
          ∙ label_tells in_labels in_references d none a.elements
          ∙ same_any in_labels (λ n. member n labels) m.of_labels (elements_give label_names nothing d a.elements)
          ∙ any_meet labels (elements_give label_names nothing d a.elements);
      binding_is = λ labels references m a z s.
          ap (λ c. c.binding) (w.value a z s)
          ∙ binding_tells in_labels in_references d none a.elements
          ∙ same_any in_references (λ n. member n references) m.of_references (elements_give label_names leaf_names d a.elements)
          ∙ any_meet references (elements_give label_names leaf_names d a.elements);
    }
  where
    none : Clash
    none = record { label = false; binding = false }

    in_labels : ℕ → Bool
    in_labels = has_name ws bs labels_bit

    in_references : ℕ → Bool
    in_references = has_name ws bs references_bit
