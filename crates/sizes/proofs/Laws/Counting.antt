-- A walk that counts ids: its steps by the words of an element or alternative.
use Prim.Native.Nat.{ℕ, ◌+◌, ◌%◌, ◌<◌, ◌≤◌}
use mathlib.Core.Path.{◌≡◌, refl, ◌∙◌}
use mathlib.Core.List.{List}
use mathlib.Core.Bool.{true, not}
use native.Mathlib.Omega.{arith}
use lib.ListN.{get_or}
use lib.Dec.{eqb, leb}
use borrow.Author.Tests.{ne_eqb, leb-true}
use Rattle.std.specs.Cmp.{first_so, second_so}
use Rattle.grammar.specs.Numbers.{most_name, one_or_more_nongreedy, action_kind, predicate_kind, kind_end}
use Rattle.grammar.specs.Tree.{Label, unlabelled, labelled, ElementHead}
use Rattle.grammar.specs.Encode.{label_name}
use Rattle.grammar.specs.Valid.{ok_head, ok_label}
use Rattle.grammar.specs.Found.{HeadAt}
use Rattle.grammar.specs.Laws.Complete.{leaf_kind_lem}
use Rattle.grammar.specs.Laws.Opened.{HeadWords}
use Rattle.words.specs.Visit.{LeafPassed, BlockEntered, AlternativeEntered}
use Rattle.sizes.specs.Tally.{one_if, is_labelled, with_own, with_alternative, counting, OwnCounted, AlternativeCounted}
use Rattle.sizes.specs.declared.tally.Tally.{Tally}

-- One element's own ids, and an alternative's.
module _ (ws : List ℕ) (at kind : ℕ) (t : Tally) where
  pub own_counted : {w x y z : ℕ} → w ≡ get_or ws (at + 4) 0 → (x ≡ one_if (not (eqb w 0))) × (x ≤ 1)
      → (y ≡ one_if (eqb kind action_kind)) × (y ≤ 1) → (z ≡ one_if (eqb kind predicate_kind)) × (z ≤ 1)
      → OwnCounted ws at kind t
      (record {
        alternatives = t.alternatives;
        elements = t.elements + 1;
        labels = t.labels + x;
        actions = t.actions + y;
        predicates = t.predicates + z;
      })
  unfolding with_own
  own_counted e a b c = record { is = rw (a.0, b.0, c.0, e) refl; few = omega arith }

pub alternative_counted : (t : Tally) → AlternativeCounted t
    (record {
      alternatives = t.alternatives + 1;
      elements = t.elements;
      labels = t.labels;
      actions = t.actions;
      predicates = t.predicates;
    })
unfolding with_alternative
alternative_counted t = record { is = refl; few = omega arith }

pub ruleset owns = (own_counted, alternative_counted)

-- A label has a name other than 0.
label_is_lem : (n : ℕ) (l : Label) → n ≡ label_name l → ok_label l ≡ true → not (eqb n 0) ≡ is_labelled l
unfolding ok_label
label_is_lem n unlabelled e k = rw e refl
label_is_lem n (labelled j m) e k =
    let h = leb-true 1 m (first_so (leb 1 m) (leb m most_name) k) in
    rw (e, ne_eqb m 0 (λ z. omega arith)) refl

own_is : {ws : List ℕ} {end at k kind p : ℕ} {h : ElementHead} (t : Tally) → HeadWords ws end at h kind p → kind < kind_end
    → k ≡ get_or ws (at + 2) 0 % kind_end
    → with_own t (not (eqb (get_or ws (at + 4) 0) 0)) k ≡ with_own t (is_labelled h.label) kind
unfolding ok_head
own_is {ws} {at = at} {k} {kind} {h = h} t w low e =
    let same : k ≡ kind = let y = w.packed in omega arith in
    let label = label_is_lem (get_or ws (at + 4) 0) h.label w.named
    (first_so (ok_label h.label) _ (second_so (leb h.quantifier one_or_more_nongreedy) _ w.fine)) in
    rw (same, label) refl

-- So are they by the steps of the walk.
module _ {ws : List ℕ} {end at k p : ℕ} (head : HeadAt ws end at k p) {t r : Tally} (c : OwnCounted ws at k t r) where
  pub count_leaf : LeafPassed counting ws end at p t r
  count_leaf =
      record { is = λ h l q w u. c.is ∙ own_is t w (let y = leaf_kind_lem l in omega arith) head.kind_is }

  pub count_block : BlockEntered counting ws end at p t r
  count_block = record { is = λ h w. c.is ∙ own_is t w (omega arith) head.kind_is }

pub count_alternative : {ws : List ℕ} {end at d : ℕ} {t r : Tally} → AlternativeCounted t r → AlternativeEntered counting ws end at d t r
count_alternative c = record { is = λ a q w. c.is }

pub ruleset counts = (count_leaf, count_block, count_alternative)
