-- What one alternative of a satellite comes to, test by test.
use Prim.Native.Nat.{ℕ, ◌≤◌}
use mathlib.Core.Path.{◌≡◌, refl, sym, ◌∙◌}
use mathlib.Core.List.{List, []}
use mathlib.Core.Bool.{Bool, true, false}
use native.Mathlib.Omega.{arith}
use Rattle.grammar.specs.Tree.{Block, AlternativeOf}
use Rattle.grammar.specs.Lists.{meet, any}
use Rattle.grammar.specs.Numbers.{most_words}
use Rattle.grammar.specs.Found.{FoundAlternative, AlternativeSpans}
use Rattle.reference.specs.Substitute.{Planned, declined, found, without}
use Rattle.reference.specs.Substitute.{label_collision, binding_collision, labels_collide, implicit_bindings_collide}
use Rattle.reference.specs.Substitute.{splice_alternative, collect_labels}
use Rattle.planned.specs.Layout.{meaning}
use Rattle.splices.specs.Moves.{OptionsAdded}
use Rattle.planned.specs.declared.list.Listed.{Listed}
use Rattle.collisions.specs.Names.{Ordered}
use Rattle.collisions.specs.Clash.{ClashesAt}
use Rattle.collisions.specs.declared.clash.Clash.{Clash}
use Rattle.collisions.proofs.Laws.Inlinable.{inlinable_binding}
use Rattle.steps.proofs.Laws.Added.{few_added}
use Rattle.steps.specs.Decide.{Around, Searchable, join_options, Unreferring, CollisionAt, OneAt}
use Rattle.std.specs.Prelude.{Option, Some, None, Result, Ok, Err, ok_or}
use Rattle.steps.specs.declared.decide.Clause.{Clause}
use Rattle.steps.specs.declared.decide.Clause.TheVariants.{LabelCollision, BindingCollision, OptionCollision}

module _ (d : ℕ) (p : Planned d) (index : ℕ) (a : AlternativeOf (Block d)) where
  label_declines : labels_collide d (without index p.elements) a.elements ≡ true → splice_alternative d p index a ≡ declined label_collision
  unfolding splice_alternative
  label_declines e = rw (splice_alternative, e) refl

  binding_declines : labels_collide d (without index p.elements) a.elements ≡ false
      → implicit_bindings_collide d (without index p.elements) a.elements ≡ true
      → splice_alternative d p index a ≡ declined binding_collision
  unfolding splice_alternative
  binding_declines e f = rw (splice_alternative, e, f) refl

  names_pass : labels_collide d (without index p.elements) a.elements ≡ false
      → implicit_bindings_collide d (without index p.elements) a.elements ≡ false → splice_alternative d p index a ≡ join_options d p index a
  unfolding splice_alternative join_options
  names_pass e f = rw (splice_alternative, e, f) refl

-- The names of an alternative against those around an element.
meet_none : (xs ys : List ℕ) → xs ≡ [] → meet xs ys ≡ false
unfolding meet any
meet_none xs ys e = rw e refl

module _ {ws : List ℕ} {end d at : ℕ} {bs : List ℕ} where
  pub collide_quiet : {quiet : Bool} → quiet ≡ true → CollisionAt ws end d at bs quiet (Ok tt)
  unfolding labels_collide
  collide_quiet z =
      record {
        some = λ k n. absurd (let y : ◌≡◌ {A = ℕ} 0 1 = cc in omega arith);
        none = λ n p index r a q s u.
            let t = r.silent z in
            names_pass d p index a (meet_none (collect_labels d (without index p.elements)) _ t.no_labels)
            (inlinable_binding d (without index p.elements) a.elements u ∙ meet_none _ _ t.no_references);
      }

  module _ {quiet : Bool} (z : quiet ≡ false) {c : Clash} (f : ClashesAt ws end d at bs c) where
    label_is_lem : (p : Planned d) (index : ℕ) → Around ws d p.elements index bs quiet → (a : AlternativeOf (Block d)) (q : ℕ)
        → AlternativeSpans ws end d at a q → labels_collide d (without index p.elements) a.elements ≡ c.label
    unfolding labels_collide
    label_is_lem p index r a q s = sym (f.label_is _ _ (r.marked z) a q s)

    binding_is_lem : (p : Planned d) (index : ℕ) → Around ws d p.elements index bs quiet → (a : AlternativeOf (Block d)) (q : ℕ)
        → AlternativeSpans ws end d at a q → Unreferring d a
        → implicit_bindings_collide d (without index p.elements) a.elements ≡ c.binding
    binding_is_lem p index r a q s u =
        inlinable_binding d (without index p.elements) a.elements u ∙ sym (f.binding_is _ _ (r.marked z) a q s)

    pub collide_label : c.label ≡ true → CollisionAt ws end d at bs quiet (Err LabelCollision)
    collide_label e =
        record {
          some = λ k n p index r a q s u.
              let y : LabelCollision ≡ k = cc in
              rw (← y) (record { is = label_declines d p index a (label_is_lem p index r a q s ∙ e) });
          none = λ n. absurd (let y : ◌≡◌ {A = ℕ} 0 1 = cc in omega arith);
        }

    pub collide_binding : c.label ≡ false → c.binding ≡ true → CollisionAt ws end d at bs quiet (Err BindingCollision)
    collide_binding e g =
        record {
          some = λ k n p index r a q s u.
              let y : BindingCollision ≡ k = cc in
              rw (← y)
              (record { is = binding_declines d p index a (label_is_lem p index r a q s ∙ e) (binding_is_lem p index r a q s u ∙ g) });
          none = λ n. absurd (let y : ◌≡◌ {A = ℕ} 0 1 = cc in omega arith);
        }

    pub collide_not : c.label ≡ false → c.binding ≡ false → CollisionAt ws end d at bs quiet (Ok tt)
    collide_not e g =
        record {
          some = λ k n. absurd (let y : ◌≡◌ {A = ℕ} 0 1 = cc in omega arith);
          none = λ n p index r a q s u. names_pass d p index a (label_is_lem p index r a q s ∙ e) (binding_is_lem p index r a q s u ∙ g);
        }

pub searched : {ws : List ℕ} {end : ℕ} {bs : List ℕ} {quiet : Bool} → Searchable ws end bs quiet → quiet ≡ false → Ordered ws end bs
searched s z = s.ordered z

pub ruleset collides = (searched, collide_quiet, collide_label, collide_binding, collide_not)

-- One alternative: its names, then its options.
module _ {ws : List ℕ} {end d at : ℕ} {bs : List ℕ} {quiet : Bool} {n : Result (Unit {0}) Clause} (c : CollisionAt ws end d at bs quiet n) (h : Listed) where
  pub one_collides : {k : Clause} → n ≡ Err k → OneAt ws end d at bs h quiet (Err k)
  one_collides {k} e =
      record {
        is = λ index r a q s u. c.some k e (meaning ws end d bs h) index r a q s u;
        low = λ m z. absurd (let y : ◌≡◌ {A = ℕ} 0 1 = cc in omega arith);
      }

  module _ (e : n ≡ Ok tt) {k : Option ℕ} (o : OptionsAdded ws end d at (meaning ws end d bs h).options k) where
    one_clashes : k ≡ None → OneAt ws end d at bs h quiet (Err OptionCollision)
    unfolding join_options
    one_clashes f =
        record {
          is = λ index r a q s u.
              record { is = c.none e (meaning ws end d bs h) index r a q s u ∙ rw (join_options, o.clash f a q s) refl };
          low = λ m z. absurd (let y : ◌≡◌ {A = ℕ} 0 1 = cc in omega arith);
        }

    one_adds : {m : ℕ} → k ≡ Some m → FoundAlternative ws end d at → end ≤ most_words → OneAt ws end d at bs h quiet (Ok m)
    unfolding join_options
    one_adds {m} f found small =
        record {
          is = λ index r a q s u.
              let w = o.more m f a q s in
              record {
                options = w.all;
                is = c.none e (meaning ws end d bs h) index r a q s u ∙ rw (join_options, w.is) refl;
                count = w.count;
              };
          low = λ k z. let y : m ≡ k = cc in rw (← y) (few_added o f found small);
        }

  pub one_of : n ≡ Ok tt → {k : Option ℕ} → OptionsAdded ws end d at (meaning ws end d bs h).options k → FoundAlternative ws end d at
      → end ≤ most_words → {r : Result ℕ Clause} → r ≡ ok_or k OptionCollision → OneAt ws end d at bs h quiet r
  one_of e {k} o f small g = rw g (go k o)
    where
      go : (k : Option ℕ) → OptionsAdded ws end d at (meaning ws end d bs h).options k → OneAt ws end d at bs h quiet (ok_or k OptionCollision)
      go None o = one_clashes e o refl
      go (Some m) o = one_adds e o refl f small

pub ruleset ones = (one_collides, one_of)
