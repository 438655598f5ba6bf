-- Labels and references marked: one name, one element, one reference, and the list that stays as it was.
use Prim.Native.Nat.{ℕ, zero, suc, ◌+◌, ◌<◌, ◌≤◌}
use mathlib.Core.Path.{◌≡◌, refl, sym, ap, ap₂, ◌∙◌}
use mathlib.Core.Logic.{◌⊎◌, inl, inr}
use mathlib.Core.List.{List, [], ◌∷◌, map}
use mathlib.Core.Bool.{Bool, true, false, ◌&&◌, ◌||◌, or-false, or_assoc}
use native.Mathlib.Omega.{arith}
use lib.ListN.{get_or}
use lib.Dec.{leb, eqb}
use borrow.Author.Tests.{leb-true, le-leb, lt-leb}
use Rattle.std.specs.Cmp.{first_so}
use Rattle.std.proofs.lemmas.List.{nil_from_length}
use Rattle.grammar.specs.Numbers.{most_name, action_kind, predicate_kind, qualified}
use Rattle.grammar.specs.Tree.{Reference, Label, unlabelled, labelled, Leaf, epsilon, action, predicate, call, token, terminal, end_of_input}
use Rattle.grammar.specs.Stands.{Spans}
use Rattle.grammar.specs.Encode.{encode_reference, label_name, leaf_kind, encode_leaf}
use Rattle.grammar.specs.Valid.{ok_reference, ok_label, ok_leaf}
use Rattle.grammar.specs.Lists.{member, keep, push}
use Rattle.grammar.specs.Found.{HeadAt}
use Rattle.grammar.specs.Fold.{folded}
use Rattle.grammar.specs.Laws.Stands.{stands_head, stands_length}
use Rattle.grammar.specs.Laws.Fold.{Folding, folding_done, folding_found}
use Rattle.words.specs.Kinds.{reference_number}
use Rattle.words.specs.declared.numbers.ReferenceKind.{ReferenceKind}
use Rattle.words.specs.declared.numbers.ReferenceKind.TheVariants.{Attribute, Qualified, NonLocal}
use Rattle.words.specs.Visit.{LeafPassed, BlockEntered}
use Rattle.reference.specs.Walks.{references}
use Rattle.collisions.specs.Names.{labels_bit, references_bit, has_name, Ordered, Kept, kept_refl, kept_trans, NamePut}
use Rattle.collisions.specs.Walks.{LeafSeen, FoundReference, FoundReferences, Refers}
use Rattle.collisions.specs.Mark.{Marks, marks_of, mark_label, mark_reference, mark_leaf, marking, LabelMarked, ReferenceMarked, ReferencesMarked}
use Rattle.collisions.proofs.Laws.Bits.{labels_set, references_set}
use Rattle.collisions.proofs.Laws.Walks.{note_leaf, note_block, body_of}

-- The list is as it was, and names rise.
module _ {ws : List ℕ} {end : ℕ} where
  pub kept_ordered : {bs cs : List ℕ} → Kept ws end bs cs → Ordered ws end cs
  kept_ordered s = s.ordered

  pub label_kept : {at : ℕ} {bs cs : List ℕ} → LabelMarked ws end at bs cs → Kept ws end bs cs
  label_kept m = m.kept

pub ruleset same = (kept_refl, kept_trans, kept_ordered, label_kept)

same_marks : {a b : Marks} → ((n : ℕ) → a.labels n ≡ b.labels n) → ((n : ℕ) → a.references n ≡ b.references n) → a.dangling ≡ b.dangling
    → a ≡ b
same_marks p q x t = record { labels = λ n. p n t; references = λ n. q n t; dangling = x t }

-- A label.
module _ {ws : List ℕ} {end at w : ℕ} (e : w ≡ get_or ws (at + 4) 0) where
  pub label_unmarked : {bs : List ℕ} → Ordered ws end bs → w ≡ 0 → LabelMarked ws end at bs bs
  unfolding mark_label ok_label member
  label_unmarked {bs} o z = record { kept = kept_refl o; seen = λ dangling. record { is = go dangling } }
    where
      go : (dangling : Bool) (b : Label) → get_or ws (at + 4) 0 ≡ label_name b → ok_label b ≡ true → marks_of ws bs dangling ≡ mark_label (marks_of ws bs dangling) b
      go dangling unlabelled f k = same_marks (λ n. sym (or-false ((marks_of ws bs dangling).labels n))) (λ n. refl) refl
      go dangling (labelled i n) f k = absurd (let h = leb-true 1 n (first_so (leb 1 n) (leb n most_name) k) in omega arith)

  pub label_marked : {bs cs : List ℕ} → (w ≡ 0 → ⊥) → NamePut ws end bs cs labels_bit (get_or ws (at + 4) 0) → LabelMarked ws end at bs cs
  unfolding marks_of mark_label member
  label_marked {bs} {cs} some p = record { kept = p.kept; seen = λ dangling. record { is = go dangling } }
    where
      go : (dangling : Bool) (b : Label) → get_or ws (at + 4) 0 ≡ label_name b → ok_label b ≡ true → marks_of ws cs dangling ≡ mark_label (marks_of ws bs dangling) b
      go dangling unlabelled f k = absurd (some (e ∙ f))
      go dangling (labelled i m) f k =
          same_marks
          (λ n. p.here n ∙ ap (λ x. has_name ws bs labels_bit n || x) (ap (eqb n) f ∙ sym (or-false (eqb n m))))
          (p.other references_bit references_set (λ z. omega arith)) refl

-- A reference's kind, by the number that stands there.
pub kind_binds : {t : ReferenceKind} {k : ℕ} → (t ≡ Attribute) ⊎ (t ≡ Qualified) → reference_number t ≡ k → k ≤ qualified
kind_binds (inl e) f = let n = ap reference_number e in omega arith
kind_binds (inr e) f = let n = ap reference_number e in omega arith

pub kind_apart : {t : ReferenceKind} {k : ℕ} → t ≡ NonLocal → reference_number t ≡ k → qualified < k
kind_apart e f = let n = ap reference_number e in omega arith

pub kind_unnamed : {k : ℕ} → ((t : ReferenceKind) → reference_number t ≡ k → ⊥) → qualified < k
kind_unnamed {k = zero} h = absurd (h Attribute refl)
kind_unnamed {k = suc zero} h = absurd (h Qualified refl)
kind_unnamed {k = suc (suc k)} h = omega arith

-- A reference.
module _ {ws : List ℕ} {end at : ℕ} where
  pub reference_room : FoundReference ws end at → at + 2 ≤ end
  reference_room f = let l = stands_length f.spans.stands in omega arith

  module _ (name : ℕ) {k w : ℕ} (ek : k ≡ get_or ws at 0) (ew : w ≡ get_or ws (at + 1) 0) (room : at + 2 ≤ end) (dangling : Bool) where
    reference : {s r : Marks} → ((t : Reference) → k ≡ t.kind → w ≡ t.name → r ≡ mark_reference name s t)
        → ReferenceMarked name ws end at s (at + 2) r
    reference g =
        record {
          passed = λ t q u. let l = stands_length u.stands in omega arith;
          value = λ t q u. g t (ek ∙ stands_head u.stands) (ew ∙ u.stands.run.1.0);
          within = room;
        }

    pub reference_apart : (bs : List ℕ) → qualified < k
        → ReferenceMarked name ws end at (marks_of ws bs dangling) (at + 2) (marks_of ws bs (dangling || eqb name w))
    unfolding marks_of mark_reference
    reference_apart bs l =
        reference λ t a b.
        same_marks (λ n. refl)
        (λ n.
        sym
        (ap (λ x. has_name ws bs references_bit n || (x && eqb n t.name)) (lt-leb t.kind qualified (omega arith))
        ∙ or-false (has_name ws bs references_bit n)))
        (ap (λ x. dangling || eqb name x) b)

    pub reference_binds : {bs cs : List ℕ} → k ≤ qualified → NamePut ws end bs cs references_bit (get_or ws (at + 1) 0)
        → ReferenceMarked name ws end at (marks_of ws bs dangling) (at + 2) (marks_of ws cs (dangling || eqb name w))
    unfolding marks_of mark_reference
    reference_binds {bs} {cs} l p =
        reference λ t a b.
        same_marks (p.other labels_bit labels_set (λ z. omega arith))
        (λ n.
        p.here n
        ∙ ap₂ (λ x y. has_name ws bs references_bit n || (x && eqb n y)) (sym (le-leb t.kind qualified (omega arith))) (sym ew ∙ b))
        (ap (λ x. dangling || eqb name x) b)

pub put_kept : {ws : List ℕ} {end : ℕ} {bs cs : List ℕ} {w n : ℕ} → NamePut ws end bs cs w n → Kept ws end bs cs
put_kept p = p.kept

-- Several references: those left would be all.
abbrev pub ReferencesFolding : ℕ → List ℕ → ℕ → ℕ → ℕ → Marks → ℕ → ℕ → Marks → Type 0
ReferencesFolding name ws end = Folding ws end encode_reference ok_reference (mark_reference name)

pub references_done : {name : ℕ} {ws : List ℕ} {end n at : ℕ} {s : Marks} {i p : ℕ} {r : Marks} → ReferencesFolding name ws end n at s i p r → i ≡ 0
    → ReferencesMarked name ws end n at s r
references_done g e = record { is = (folding_done g e).value }

pub next_room : (name : ℕ) {ws : List ℕ} {end n at : ℕ} {s : Marks} {i p : ℕ} {r : Marks} → ReferencesFolding name ws end n at s i p r → (i ≡ 0 → ⊥)
    → p + 2 ≤ end
next_room name g some = reference_room (folding_found g some)

-- A leaf is its references.
module _ (name : ℕ) where
  marked_all : (s : Marks) (rs : List Reference)
      → folded (mark_reference name) s rs
      ≡ record {
        labels = s.labels;
        references = λ n. s.references n || member n (map (λ r. r.name) (keep (λ r. leb r.kind qualified) rs));
        dangling = s.dangling || member name (map (λ r. r.name) rs);
      }
  unfolding mark_reference member keep
  marked_all s [] = same_marks (λ n. refl) (λ n. sym (or-false (s.references n))) (sym (or-false s.dangling))
  marked_all s (r ∷ rs) =
      marked_all (mark_reference name s r) rs
      ∙ same_marks (λ n. refl)
      (λ n. or_assoc (s.references n) (leb r.kind qualified && eqb n r.name) _ ∙ ap (λ x. s.references n || x) (pushed n (leb r.kind qualified)))
      (or_assoc s.dangling (eqb name r.name) (member name (map (λ r. r.name) rs)))
    where
      pushed : (n : ℕ) (b : Bool) → ((b && eqb n r.name) || member n (map (λ r. r.name) (keep (λ r. leb r.kind qualified) rs)))
          ≡ member n (map (λ r. r.name) (push b r (keep (λ r. leb r.kind qualified) rs)))
      pushed n true = refl
      pushed n false = refl

  no_references : (s : Marks) (l : Leaf) → references l ≡ [] → s ≡ mark_leaf name s l
  unfolding mark_leaf member keep
  no_references s l e =
      rw e (same_marks (λ n. refl) (λ n. sym (or-false (s.references n))) (sym (or-false s.dangling)))

  module _ {ws : List ℕ} {end k p n : ℕ} (c : Refers ws end k p n) where
    pub leaf_unmarked : (s : Marks) → n ≡ 0 → LeafSeen ws end k p (mark_leaf name) s s
    leaf_unmarked s z = record { is = λ l q e u. no_references s l (nil_from_length (references l) (sym (c.count l q e u) ∙ z)) }

    pub refers_found : (n ≡ 0 → ⊥) → FoundReferences ws end n (p + 2)
    refers_found some = c.found some

    pub refers_room : (n ≡ 0 → ⊥) → p + 2 ≤ end
    refers_room some = let l = stands_length (c.found some).spans.stands in omega arith

    pub leaf_marked : {s r : Marks} → (n ≡ 0 → ⊥) → ReferencesMarked name ws end n (p + 2) s r → LeafSeen ws end k p (mark_leaf name) s r
    unfolding references leaf_kind mark_leaf
    leaf_marked {s} {r} some m = record { is = go }
      where
        body : (l : Leaf) (q : ℕ) → k ≡ leaf_kind l → (leaf_kind l ≡ action_kind) ⊎ (leaf_kind l ≡ predicate_kind) → Spans ws end encode_leaf ok_leaf p l q → r ≡ mark_leaf name s l
        body l q e a u = m.is (references l) q (body_of l a u).spans (sym (c.count l q e u)) ∙ marked_all s (references l)

        go : (l : Leaf) (q : ℕ) → k ≡ leaf_kind l → Spans ws end encode_leaf ok_leaf p l q → r ≡ mark_leaf name s l
        go epsilon q e u = absurd (some (c.count epsilon q e u))
        go (action a) q e u = body (action a) q e (inl refl) u
        go (predicate a) q e u = body (predicate a) q e (inr refl) u
        go (call a) q e u = absurd (some (c.count (call a) q e u))
        go (token a) q e u = absurd (some (c.count (token a) q e u))
        go terminal q e u = absurd (some (c.count terminal q e u))
        go end_of_input q e u = absurd (some (c.count end_of_input q e u))

-- An element.
module _ {ws : List ℕ} {end at p : ℕ} {bs cs : List ℕ} (name : ℕ) (b : LabelMarked ws end at bs cs) (dangling : Bool) where
  pub mark_leaf_lem : {k : ℕ} → HeadAt ws end at k p → {r : Marks} → LeafSeen ws end k p (mark_leaf name) (marks_of ws cs dangling) r
      → LeafPassed (marking name) ws end at p (marks_of ws bs dangling) r
  mark_leaf_lem head f = note_leaf mark_label (mark_leaf name) head (b.seen dangling) f

  pub mark_block : BlockEntered (marking name) ws end at p (marks_of ws bs dangling) (marks_of ws cs dangling)
  mark_block = note_block mark_label (mark_leaf name) (b.seen dangling)

pub ruleset marks = (mark_leaf_lem, mark_block)

pub ruleset labels = (label_unmarked, label_marked)

pub ruleset reference_laws = (reference_room, reference_apart, reference_binds, put_kept, kept_refl)

pub ruleset leaf_laws = (leaf_unmarked, refers_found, refers_room, leaf_marked, kept_refl)
