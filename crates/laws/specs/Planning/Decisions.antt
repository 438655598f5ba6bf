-- What a decision was made from.
use Rattle.std.specs.Prelude.{ℕ, ◌≡◌, refl, List, [], ◌∷◌, map, Bool, true, false}
use Rattle.std.proofs.Common.{sym, ap, ap₂, ◌∙◌, arith}
use Rattle.std.proofs.Math.Option.{Option, none, some}
use Rattle.reference.specs.Substitute.{Clause, Decided, decided, declined, overfull, ◌and_then◌, require, found, decide_each}

pub then_decided : {A B : Type 0} {f : A → Decided B} {b : B} (x : Decided A) → (x and_then f) ≡ decided b
    → (a : A) × (x ≡ decided a) × (f a ≡ decided b)
then_decided (decided a) e = (a, refl, e)
then_decided (declined c) e = absurd (let z : ◌≡◌ {A = ℕ} 0 1 = cc in omega arith)
then_decided overfull e = absurd (let z : ◌≡◌ {A = ℕ} 0 1 = cc in omega arith)

pub require_decided : {A : Type 0} {a : A} (c : Clause) (t : Bool) (f : Unit {0} → Decided A) → require c t f ≡ decided a
    → (t ≡ true) × (f tt ≡ decided a)
require_decided c true f e = (refl, e)
require_decided c false f e = absurd (let z : ◌≡◌ {A = ℕ} 0 1 = cc in omega arith)

-- A test: what follows where it holds and where it does not, and that it follows alike.
pub require_so : {A : Type 0} (P : Decided A → Type 0) (c : Clause) (t : Bool) (f : Unit {0} → Decided A)
    → (t ≡ false → P (declined c)) → (t ≡ true → P (f tt)) → P (require c t f)
require_so P c true f fails holds = holds refl
require_so P c false f fails holds = fails refl

pub require_same : {A : Type 0} (c : Clause) (t : Bool) (f k : Unit {0} → Decided A) → f tt ≡ k tt → require c t f ≡ require c t k
require_same c true f k e = e
require_same c false f k e = refl

pub found_decided : {A : Type 0} {a : A} (c : Clause) (o : Option A) → found c o ≡ decided a → o ≡ some a
found_decided c none e = absurd (let z : ◌≡◌ {A = ℕ} 0 1 = cc in omega arith)
found_decided c (some b) e = ap some (cc)

pub decided_inj : {A : Type 0} {a b : A} → decided a ≡ decided b → a ≡ b
decided_inj e = cc

-- What each decision shows of its item, all of them show of the list.
pub each_decided : {A B C : Type 0} {f : A → Decided B} (h : A → C) (k : B → C) → ((a : A) (b : B) → f a ≡ decided b → k b ≡ h a)
    → (as' : List A) {bs : List B} → decide_each f as' ≡ decided bs → map k bs ≡ map h as'
unfolding decide_each
each_decided h k p [] {bs} e = ap (map k) (sym (decided_inj e))
each_decided {f = f} h k p (a ∷ as') {bs} e =
    let x = then_decided (f a) e in
    let y = then_decided (decide_each f as') x.2 in
    ap (map k) (sym (decided_inj y.2)) ∙ ap₂ ◌∷◌ (p a x.0 x.1) (each_decided h k p as' y.1)
