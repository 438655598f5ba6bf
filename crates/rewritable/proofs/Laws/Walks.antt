-- The walk over the elements of a listed alternative, and what it says of them.
use Prim.Native.Nat.{ℕ, ◌+◌, ◌≤◌}
use mathlib.Core.Path.{◌≡◌, refl, sym, ap, ◌∙◌, subst}
use mathlib.Core.List.{List}
use mathlib.Core.Bool.{Bool, true, false}
use native.Mathlib.Omega.{arith}
use lib.ListN.{drop}
use Rattle.grammar.specs.Numbers.{block_kind}
use Rattle.grammar.specs.Tree.{Element, Block, inner_depth}
use Rattle.grammar.specs.Found.{FoundElement, HeadAt}
use Rattle.grammar.specs.Lists.{all}
use Rattle.grammar.specs.Fold.{folded, element_fold, ElementWalked}
use Rattle.grammar.specs.Laws.Complete.{leaf_kind_lem}
use Rattle.grammar.specs.Laws.Opened.{Opened, opened_leaf, opened_block, opened}
use Rattle.reference.specs.Substitute.{plain}
use Rattle.reference.specs.Analysis.{collect_calls_in_elements, left_corners, element_nullable, block_is_nullable}
use Rattle.reach.specs.Rows.{holds}
use Rattle.analysis.specs.Survey.{View, Seen, seen_of, turned, into, unseen, surveying, LeafSeen}
use Rattle.analysis.specs.declared.leaf.Seen.{Seen as Held}
use Rattle.planned.specs.Layout.{made_if}
use Rattle.planned.specs.Shown.{meant, ItemOf}
use Rattle.planned.specs.Laws.Shown.{none_left}
use Rattle.planned.specs.declared.shown.Shown.{Shown}
use Rattle.words.specs.Sheet.{text}
use Rattle.rewritable.specs.Walks.{ItemStands, past_element, ItemWalked, RestWalked, Agreeing, WalkOf}
use Rattle.rewritable.proofs.Laws.Meant.{past_adds, past_null}
use Rattle.rewritable.proofs.Laws.Listed.{next_left, item_stands}

-- One that was made plain is a call.
module _ {ws : List ℕ} {end at k p : ℕ} (head : HeadAt ws end at k p) (d : ℕ) {made : Bool} (i : ItemStands ws end d at made)
    (t : made ≡ true) where
  pub plain_leaf : k ≡ block_kind → ⊥
  plain_leaf e = let c = i.call t in let z = head.kind_is in omega arith

  pub item_plain : (v : View) {s r : Seen} → LeafSeen v ws end k p false s r → ItemWalked v ws end d at made s r
  unfolding element_fold surveying plain
  item_plain v {s} {r} f = record { value = λ e q u. subst (λ b. r ≡ past_element v d s (made_if b e)) (sym t) (go (opened e u)) }
    where
      go : {e : Element (Block d)} {q : ℕ} → Opened ws end d at q e → r ≡ past_element v d s (made_if true e)
      go (opened_leaf {l = l} o w u) =
          let x : o ≡ p = let y = w.place in let z = head.payload_is in omega arith in
          let u' = rw x at u in
          let low = leaf_kind_lem l in
          f.is l _ (let z = w.packed in let y = head.kind_is in omega arith) u'.stands
      go (opened_block o w u) = absurd (plain_leaf (let z = w.packed in let y = head.kind_is in omega arith))

pub item_other : (v : View) {ws : List ℕ} {end at : ℕ} (d : ℕ) {made : Bool} → made ≡ false → {s r : Seen} {q : ℕ}
    → ElementWalked (surveying v) ws end d at s q r → ItemWalked v ws end d at made s r
item_other v d n {s} {r} w = record { value = λ e q u. subst (λ b. r ≡ past_element v d s (made_if b e)) (sym n) (w.value e q u) }

pub stands_found : {ws : List ℕ} {end d at : ℕ} {made : Bool} → ItemStands ws end d at made → FoundElement ws end d at
stands_found i = i.found

pub ruleset item_walks = (stands_found, plain_leaf, item_plain, item_other)

abbrev d : ℕ
d = inner_depth

-- The elements from an index on: a walk of those left would be a walk of all.
module _ (v : View) (a : Shown) (from : ℕ) (s₀ : Seen) where
  abbrev es : List (Element (Block d))
  es = (meant a).elements

  pub record Resting (i : ℕ) (s : Seen) : Type 0 where
    pub same : folded (past_element v d) s₀ (drop from es) ≡ folded (past_element v d) s (drop i es)

  pub rest_none : Resting from s₀
  rest_none = record { same = refl }

  module _ {i : ℕ} {s : Seen} (g : Resting i s) where
    pub rest_all : a.x.ne ≤ i → RestWalked v d (drop from es) s₀ s
    rest_all l = record { value = sym (g.same ∙ ap (folded (past_element v d) s) (none_left a i l)) }

    module _ {at : ℕ} {made : Bool} (item : ItemOf a i at made) where
      pub rest_more : {t : Seen} → ItemWalked v (text a.s.now) a.s.now.end d at made s t → Resting (i + 1) t
      rest_more w =
          let f = item.found in
          record {
            same =
                g.same
                ∙ ap (folded (past_element v d) s) (next_left item)
                ∙ ap (λ t. folded (past_element v d) t (drop (i + 1) es)) (sym (w.value f.tree f.next f.spans));
          }

pub ruleset resting = (item_stands, rest_none, rest_all, rest_more)

-- A whole alternative.
module _ (v : View) (a : Shown) where
  abbrev all_of : List (Element (Block d))
  all_of = (meant a).elements

  abbrev rest : List (Element (Block d))
  rest = drop 1 all_of

  -- Nothing is seen in front.
  abbrev front : Seen
  front = into true unseen

  no_calls : (es : List (Element (Block d))) (w : Agreeing v) {r : Seen} → r ≡ folded (past_element v d) front es → (j : ℕ)
      → r.calls j ≡ holds w.ids v.n (collect_calls_in_elements w.grammar d es) j
  no_calls es w e j = ap (λ s. s.calls j) e ∙ (past_adds w.agrees d front es).calls j

  no_corners : (es : List (Element (Block d))) (w : Agreeing v) {r : Seen} → r ≡ folded (past_element v d) front es → (j : ℕ)
      → r.corners j ≡ holds w.ids v.n (left_corners v.reading w.grammar d es) j
  no_corners es w e j = ap (λ s. s.corners j) e ∙ (past_adds w.agrees d front es).corners j

  module _ (b : Held) (begin : seen_of b ≡ front) where
    pub whole_none : a.x.ne ≡ 0 → WalkOf v d all_of b
    unfolding seen_of all
    whole_none e =
        let none = none_left a 0 (omega arith) in
        let empty = begin ∙ ap (folded (past_element v d) front) (sym none) in
        record {
          calls = λ w. record { at = no_calls all_of w empty };
          corners = λ w. record { at = no_corners all_of w empty };
          tail = λ w.
              ap (λ s. s.null) begin
              ∙ sym (ap (λ es. all (element_nullable w.grammar (block_is_nullable w.grammar d)) (drop 1 es)) none);
        }

    -- Behind the first element, where the count of what is nullable starts anew.
    module _ {at : ℕ} {made : Bool} (item : ItemOf a 0 at made) (u r : Held)
        (one : ItemWalked v (text a.s.now) a.s.now.end d at made (seen_of b) (seen_of u))
        (others : RestWalked v d rest (seen_of (turned u.seeks true u)) (seen_of r)) where
      -- The walk from the first element on, where it does not.
      whole : folded (past_element v d) (seen_of u) rest ≡ folded (past_element v d) front all_of
      whole =
          let f = item.found in
          ap (λ s. folded (past_element v d) s rest) (one.value f.tree f.next f.spans)
          ∙ sym (ap (folded (past_element v d) (seen_of b)) (next_left item))
          ∙ ap (λ s. folded (past_element v d) s all_of) begin

      pub whole_some : WalkOf v d all_of r
      unfolding seen_of
      whole_some =
          record {
            calls = λ w.
                record {
                  at = λ j.
                      ap (λ s. s.calls j) others.value
                      ∙ (past_adds w.agrees d (seen_of (turned u.seeks true u)) rest).calls j
                      ∙ sym ((past_adds w.agrees d (seen_of u) rest).calls j)
                      ∙ no_calls all_of w whole j;
                };
            corners = λ w.
                record {
                  at = λ j.
                      ap (λ s. s.corners j) others.value
                      ∙ (past_adds w.agrees d (seen_of (turned u.seeks true u)) rest).corners j
                      ∙ sym ((past_adds w.agrees d (seen_of u) rest).corners j)
                      ∙ no_corners all_of w whole j;
                };
            tail = λ w. ap (λ s. s.null) others.value ∙ past_null w.agrees d (seen_of (turned u.seeks true u)) rest;
          }

pub ruleset wholes = (item_stands, whole_none, whole_some)
