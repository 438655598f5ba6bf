-- The ids that a walk collects: the returns of the functions that read and write them.
use Prim.Native.Nat.{ℕ, ◌+◌, ◌*◌, ◌%◌, ◌≤◌}
use mathlib.Core.Path.{◌≡◌, refl, sym}
use mathlib.Core.List.{List, [], ◌∷◌, ◌++◌, append-nil}
use native.Mathlib.Omega.{arith}
use lib.ListN.{length, get_or, set, take}
use lib.Seq.{take-suc-set}
use borrow.Author.Tests.{ne_eqb}
use Rattle.std.specs.Prelude.{Some, None}
use native.Mathlib.Numerals.{add-one}
use Rattle.grammar.specs.Numbers.{element_sort, label_sort, action_sort, predicate_sort, action_kind, predicate_kind, kind_end}
use Rattle.grammar.specs.Words.{words}
use Rattle.grammar.specs.Laws.Words.{length_words}
use Rattle.words.specs.declared.numbers.Kind.{Kind}
use Rattle.words.specs.declared.numbers.Kind.TheVariants as kind
use Rattle.words.specs.declared.numbers.Sort.{Sort}
use Rattle.words.specs.declared.numbers.Sort.TheVariants.{Alternative, Element, Label, Action, Predicate}
use Rattle.words.specs.Kinds.{kind_number, sort_number}
use Rattle.words.specs.Laws.Kinds.{is_action, is_predicate, no_action, no_predicate}
use Rattle.ids.specs.Ids.{own_of, own_ids, alternative_id}

module _ (ws : List ℕ) (sort at payload : ℕ) {w : ℕ} where
  pub own_element : sort ≡ element_sort → w ≡ get_or ws at 0 → own_of (Some w) ≡ own_ids ws at payload sort
  unfolding own_ids
  own_element e f = rw (e, f)

  pub own_unlabelled : sort ≡ label_sort → w ≡ get_or ws (at + 4) 0 → w ≡ 0 → own_of None ≡ own_ids ws at payload sort
  unfolding own_ids
  own_unlabelled e f g = rw (e, ← f, g)

  pub own_label : {i : ℕ} → sort ≡ label_sort → w ≡ get_or ws (at + 4) 0 → (w ≡ 0 → ⊥) → i ≡ get_or ws (at + 3) 0
      → own_of (Some i) ≡ own_ids ws at payload sort
  unfolding own_ids
  own_label e f g h = simp (e, ← f, ne_eqb w 0 g, h)

module _ (ws : List ℕ) (sort at payload : ℕ) where
  module _ {k : Kind} (f : kind_number k ≡ get_or ws (at + 2) 0 % kind_end) where
    pub own_action : {i : ℕ} → sort ≡ action_sort → k ≡ kind.Action → i ≡ get_or ws payload 0
        → own_of (Some i) ≡ own_ids ws at payload sort
    unfolding own_ids
    own_action e g h = let i = is_action g in simp (e, ← f, i, h)

    pub own_no_action : sort ≡ action_sort → (k ≡ kind.Action → ⊥) → own_of None ≡ own_ids ws at payload sort
    unfolding own_ids
    own_no_action e g = simp (e, ← f, ne_eqb (kind_number k) action_kind (no_action g))

    pub own_predicate : {i : ℕ} → sort ≡ predicate_sort → k ≡ kind.Predicate → i ≡ get_or ws payload 0
        → own_of (Some i) ≡ own_ids ws at payload sort
    unfolding own_ids
    own_predicate e g h = let i = is_predicate g in simp (e, ← f, i, h)

    pub own_no_predicate : sort ≡ predicate_sort → (k ≡ kind.Predicate → ⊥) → own_of None ≡ own_ids ws at payload sort
    unfolding own_ids
    own_no_predicate e g = simp (e, ← f, ne_eqb (kind_number k) predicate_kind (no_predicate g))

  pub own_nothing : (sort ≡ element_sort → ⊥) → (sort ≡ label_sort → ⊥) → (sort ≡ action_sort → ⊥) → (sort ≡ predicate_sort → ⊥)
      → own_of None ≡ own_ids ws at payload sort
  unfolding own_ids
  own_nothing a b c d =
      simp (ne_eqb sort element_sort a, ne_eqb sort label_sort b, ne_eqb sort action_sort c, ne_eqb sort predicate_sort d)

pub ruleset owns = (own_element, own_unlabelled, own_label, own_action, own_no_action, own_predicate, own_no_predicate, own_nothing)

-- one word more at the end of what was written
pub pushed : (bs after : List ℕ) (out w : ℕ) → 4 * out + 4 ≤ length bs → after ≡ set (words bs) out w
    → take (out + 1) after ≡ take out (words bs) ++ (w ∷ [])
pushed bs after out w h e =
    rw (add-one out, e) (take-suc-set (words bs) out w (rw length_words (omega arith)))

-- an alternative has its id where alternatives are the sort
pub alternative_has : {sort : Sort} (ws : List ℕ) (at : ℕ) → sort ≡ Alternative → get_or ws at 0 ∷ [] ≡ alternative_id ws at (sort_number sort)
unfolding alternative_id
alternative_has ws at e = rw e refl

pub alternative_lacks : (ws before : List ℕ) (at out : ℕ) (sort : Sort) → (sort ≡ Alternative → ⊥)
    → take out before ≡ take out before ++ alternative_id ws at (sort_number sort)
unfolding alternative_id
alternative_lacks ws before at out Alternative e = absurd (e refl)
alternative_lacks ws before at out Element e = sym (append-nil (take out before))
alternative_lacks ws before at out Label e = sym (append-nil (take out before))
alternative_lacks ws before at out Action e = sym (append-nil (take out before))
alternative_lacks ws before at out Predicate e = sym (append-nil (take out before))

pub ruleset alternatives = (alternative_has, alternative_lacks)
