-- Whether there is a label or a reference.
use Prim.Native.Nat.{ℕ, ◌+◌, ◌≤◌}
use mathlib.Core.Path.{◌≡◌, refl, sym, ap, ◌∙◌}
use mathlib.Core.List.{List, [], ◌∷◌, ◌++◌}
use mathlib.Core.Bool.{Bool, true, false, ◌||◌, not, not-not}
use native.Mathlib.Omega.{arith}
use lib.ListN.{length, get_or, length-map}
use lib.Dec.{leb, eqb}
use borrow.Author.Tests.{leb-true, eq-eqb, ne_eqb}
use Rattle.std.specs.Cmp.{first_so}
use Rattle.grammar.specs.Numbers.{most_name}
use Rattle.grammar.specs.Tree.{Label, unlabelled, labelled, Element, Block, inner_depth}
use Rattle.grammar.specs.Encode.{label_name}
use Rattle.grammar.specs.Valid.{ok_label}
use Rattle.grammar.specs.Lists.{is_empty}
use Rattle.grammar.specs.Fold.{folded, element_fold, block_fold}
use Rattle.reference.specs.Walks.{elements_give, label_names, references}
use Rattle.collisions.specs.Walks.{reference_names, LabelSeen, LeafSeen, Refers}
use Rattle.planned.specs.Shown.{meant}
use Rattle.planned.specs.Laws.Shown.{elements_many}
use Rattle.planned.specs.declared.shown.Shown.{Shown}
use Rattle.collisions.specs.Quiet.{is_quiet, noisy_label, noisy_leaf, listening}
use Rattle.collisions.proofs.Laws.Walks.{elements_tell}
use Rattle.collisions.proofs.Laws.Items.{Itemizing, itemizing_done, between_all}

-- a label's name is no 0
pub label_some : (b : Label) {w : ℕ} → w ≡ label_name b → ok_label b ≡ true → not (eqb w 0) ≡ not (is_empty (label_names b))
unfolding ok_label
label_some unlabelled {w} e k = ap not (eq-eqb w 0 e)
label_some (labelled i n) {w} e k =
    let h = leb-true 1 n (first_so (leb 1 n) (leb n most_name) k) in
    ap not (ne_eqb w 0 (λ z. omega arith))

pub label_noisy : {ws : List ℕ} {at w : ℕ} (noisy : Bool) → w ≡ get_or ws (at + 4) 0 → LabelSeen ws at noisy_label noisy (noisy || not (eqb w 0))
unfolding noisy_label
label_noisy noisy e = record { is = λ b f k. ap (λ x. noisy || x) (label_some b (e ∙ f) k) }

some_length : (xs : List ℕ) {n : ℕ} → n ≡ length xs → not (eqb n 0) ≡ not (is_empty xs)
some_length [] {n} e = ap not (eq-eqb n 0 e)
some_length (x ∷ xs) {n} e = ap not (ne_eqb n 0 (λ z. omega arith))

pub leaf_noisy : {ws : List ℕ} {end k p n : ℕ} (noisy : Bool) → Refers ws end k p n → LeafSeen ws end k p noisy_leaf noisy (noisy || not (eqb n 0))
unfolding noisy_leaf
leaf_noisy noisy c =
    record {
      is = λ l q e u.
          ap (λ x. noisy || x) (some_length (reference_names l) (c.count l q e u ∙ sym (length-map (references l) (λ r. r.name))));
    }

-- all of them
some_append : (xs ys : List ℕ) → not (is_empty (xs ++ ys)) ≡ (not (is_empty xs) || not (is_empty ys))
some_append [] ys = refl
some_append (x ∷ xs) ys = refl

pub elements_listen : (d : ℕ) (es : List (Element (Block d))) → not (folded (element_fold listening (block_fold listening d)) false es) ≡ is_quiet d es
unfolding is_quiet noisy_label noisy_leaf
elements_listen d es =
    ap not
    (elements_tell noisy_label noisy_leaf (λ b. b) (λ xs. not (is_empty xs)) label_names reference_names refl some_append (λ s b. refl) (λ s l. refl) d false es)
    ∙ not-not (is_empty (elements_give label_names reference_names d es))

pub quiet_done : (a : Shown) {i : ℕ} {noisy : Bool} → Itemizing listening inner_depth (meant a).elements 0 a.x.ne false i noisy
    → a.x.ne ≤ i → not noisy ≡ is_quiet inner_depth (meant a).elements
quiet_done a g l =
    ap not (itemizing_done g l).is
    ∙ ap (λ es. not (folded (element_fold listening (block_fold listening inner_depth)) false es))
    (between_all (meant a).elements (elements_many a))
    ∙ elements_listen inner_depth (meant a).elements
