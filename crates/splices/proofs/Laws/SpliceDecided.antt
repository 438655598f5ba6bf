-- What a splice that is decided comes to: one alternative, and several.
use Prim.Native.Nat.{ℕ}
use mathlib.Core.Path.{◌≡◌, refl}
use mathlib.Core.List.{List, [], ◌∷◌}
use mathlib.Core.Option.{Option, none, some}
use mathlib.Core.Bool.{Bool, true, false, not}
use native.Mathlib.Omega.{arith}
use Rattle.grammar.specs.Tree.{OptionDecl, Block, AlternativeOf}
use Rattle.reference.specs.Substitute.{Clause, label_collision, binding_collision, option_collision, Decided, decided, declined, overfull, ◌and_then◌}
use Rattle.reference.specs.Substitute.{require, found, decide_each, Planned, in_slot_of, without, union_options, labels_collide}
use Rattle.reference.specs.Substitute.{implicit_bindings_collide, splice_alternative}
use Rattle.splices.specs.Splice.{spliced}

require_decided : {A : Type 0} (c : Clause) (b : Bool) (f : Unit {0} → Decided A) {r : A} → require c b f ≡ decided r → f tt ≡ decided r
require_decided c true f e = e
require_decided c false f e = absurd (let z : ◌≡◌ {A = ℕ} 0 1 = cc in omega arith)

-- One alternative: the union of the options is there.
pub record SplicedBy (d : ℕ) (p : Planned d) (i : ℕ) (t : AlternativeOf (Block d)) (r : Planned d) : Type 0 where
  pub os : List OptionDecl
  pub union : union_options p.options t.options ≡ some os
  pub is : in_slot_of p os t.id (spliced i t.elements p.elements) ≡ r

pub spliced_by : (d : ℕ) (p : Planned d) (i : ℕ) (t : AlternativeOf (Block d)) (r : Planned d) → splice_alternative d p i t ≡ decided r
    → SplicedBy d p i t r
unfolding splice_alternative
spliced_by d p i t r e =
    let around = without i p.elements in
    let last : Unit {0} → Decided (Planned d) =
    λ _. found option_collision (union_options p.options t.options) and_then λ os.
    decided (in_slot_of p os t.id (spliced i t.elements p.elements)) in
    let bound = not (implicit_bindings_collide d around t.elements) in
    go (union_options p.options t.options) refl
    (require_decided binding_collision bound last
    (require_decided label_collision (not (labels_collide d around t.elements)) (λ _. require binding_collision bound last) e))
  where
    go : (o : Option (List OptionDecl)) → union_options p.options t.options ≡ o
        → (found option_collision (union_options p.options t.options) and_then λ os.
        decided (in_slot_of p os t.id (spliced i t.elements p.elements))) ≡ decided r
        → SplicedBy d p i t r
    go none x y = absurd (let z = rw x at y in let w : ◌≡◌ {A = ℕ} 0 1 = cc in omega arith)
    go (some os) x y = let z = rw x at y in record { os = os; union = x; is = cc }

-- Several.
pub record EachBy {A B : Type 0} (f : A → Decided B) (a : A) (rest : List A) (bs : List B) : Type 0 where
  pub one : B
  pub others : List B
  pub first : f a ≡ decided one
  pub then' : decide_each f rest ≡ decided others
  pub are : bs ≡ one ∷ others

pub each_by : {A B : Type 0} (f : A → Decided B) (a : A) (rest : List A) (bs : List B) → decide_each f (a ∷ rest) ≡ decided bs
    → EachBy f a rest bs
unfolding decide_each
each_by {A} {B} f a rest bs e = go (f a) refl (decide_each f rest) refl e
  where
    go : (x : Decided B) → f a ≡ x → (y : Decided (List B)) → decide_each f rest ≡ y
        → (f a and_then λ b. decide_each f rest and_then λ cs. decided (b ∷ cs)) ≡ decided bs
        → EachBy f a rest bs
    go (decided b) x (decided cs) y z = let w = rw (x, y) at z in record { one = b; others = cs; first = x; then' = y; are = cc }
    go (decided b) x (declined c) y z = absurd (let w = rw (x, y) at z in let v : ◌≡◌ {A = ℕ} 0 1 = cc in omega arith)
    go (decided b) x overfull y z = absurd (let w = rw (x, y) at z in let v : ◌≡◌ {A = ℕ} 0 1 = cc in omega arith)
    go (declined c) x y' y z = absurd (let w = rw x at z in let v : ◌≡◌ {A = ℕ} 0 1 = cc in omega arith)
    go overfull x y' y z = absurd (let w = rw x at z in let v : ◌≡◌ {A = ℕ} 0 1 = cc in omega arith)

pub each_none : {A B : Type 0} (f : A → Decided B) (bs : List B) → decide_each f [] ≡ decided bs → bs ≡ []
unfolding decide_each
each_none f bs e = cc
