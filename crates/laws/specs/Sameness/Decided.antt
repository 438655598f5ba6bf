-- A decision on a changed thing is the decision on the thing, changed: refused by the same clause, or passed on.
use Rattle.std.specs.Prelude.{◌≡◌, refl, List, [], ◌∷◌, map, Bool, true, false}
use Rattle.std.proofs.Common.{ap₂, ◌∙◌}
use Rattle.reference.specs.Substitute.{Clause, Decided, decided, declined, overfull, ◌and_then◌, require, decide_each}

-- The same decision, of another thing.
abbrev pub on_decided : {A B : Type 0} → (A → B) → Decided A → Decided B
on_decided h (decided a) = decided (h a)
on_decided h (declined c) = declined c
on_decided h overfull = overfull

-- What follows a test, what follows a decision, and a decision for each item.
pub require_on : {A B : Type 0} (h : A → B) (c : Clause) (b : Bool) (x : Decided A) (y : Decided B) → y ≡ on_decided h x
    → require c b (λ _. y) ≡ on_decided h (require c b (λ _. x))
require_on h c true x y e = e
require_on h c false x y e = refl

pub then_on : {A A' B B' : Type 0} (h : A → A') (k : B → B') (x : Decided A) (give : A → Decided B) (give' : A' → Decided B')
    → ((a : A) → give' (h a) ≡ on_decided k (give a)) → (on_decided h x and_then give') ≡ on_decided k (x and_then give)
then_on h k (decided a) give give' e = e a
then_on h k (declined c) give give' e = refl
then_on h k overfull give give' e = refl

pub decide_each_on : {A A' B B' : Type 0} (on : A → A') (h : B → B') (give : A → Decided B) (give' : A' → Decided B')
    → ((a : A) → give' (on a) ≡ on_decided h (give a)) → (as' : List A)
    → decide_each give' (map on as') ≡ on_decided (map h) (decide_each give as')
unfolding decide_each
decide_each_on on h give give' k [] = refl
decide_each_on on h give give' k (a ∷ as') =
    ap₂ (λ x y. x and_then λ b. y and_then λ bs. decided (b ∷ bs)) (k a) (decide_each_on on h give give' k as')
    ∙ then_on h (map h) (give a) _ _
    (λ b. then_on (map h) (map h) (decide_each give as') (λ bs. decided (b ∷ bs)) (λ bs. decided (h b ∷ bs)) (λ bs. refl))
