-- Options are joined as union_options does, and exactly where it does.
use Rattle.std.specs.Prelude.{◌≡◌, ◌↔◌, Bool, true, false, eqb}
use Rattle.std.proofs.Math.Path.{refl}
use Rattle.std.proofs.Common.{sym, ap, ◌∙◌, subst, eqb-true, eq-eqb, ne_eqb}
use mathlib.Core.List.Memᴰ
use mathlib.Core.List.{List, [], ◌∷◌, ◌++◌, Memᴰ}
use Rattle.std.proofs.Math.Option.{Option, none, some, none-ne-some, some-injective}
use Rattle.std.proofs.lemmas.Bool.{eqb-false}
use Rattle.grammar.specs.Tree.{OptionDecl}
use Rattle.grammar.specs.Lists.{first}
use Rattle.grammar.specs.Laws.Parse.{either}
use Rattle.reference.specs.Substitute.{add_option, union_options}
use Rattle.laws.specs.Demands.Step.{Unnamed, JoinedOptions, no_more, new_name, same_value}
use Rattle.laws.specs.Lists.Lookup.{first_none}

pub never : {A R : Type 0} {a : A} → none ≡ some a → R
never {a = a} e = absurd (none-ne-some a e)

-- The first that passes a test, and those in front of it.
pub first_cut : {A : Type 0} (test : A → Bool) (xs : List A) {x : A} → first test xs ≡ some x
    → (front : List A) × (rest : List A) × (front ++ (x ∷ rest) ≡ xs) × ((y : A) → Memᴰ y front → test y ≡ false) × (test x ≡ true)
unfolding first
first_cut test [] e = never e
first_cut {A} test (y ∷ xs) {x} e =
    either (test y)
    (λ t. let same : y ≡ x = some-injective y x (rw (t, first) at e) in
    ([], xs, ap (λ z. z ∷ xs) (sym same), (λ z m. absurd (Memᴰ.not-nil m)), ap test (sym same) ∙ t))
    (λ f.
    let (front, rest, w, h, t) = first_cut test xs (rw (f, first) at e) in
    (y ∷ front, rest, ap (λ l. y ∷ l) w, before f front h, t))
  where
    before : test y ≡ false → (front : List A) → ((z : A) → Memᴰ z front → test z ≡ false) → (z : A) → Memᴰ z (y ∷ front)
        → test z ≡ false
    before f front h z (Memᴰ.head e) = ap test e ∙ f
    before f front h z (Memᴰ.tail m) = h z m

-- Options are joined as union_options does, and where it does.
module _ (o : OptionDecl) where
  abbrev pub named : OptionDecl → Bool
  named x = eqb x.name o.name

  pub unnamed : (os : List OptionDecl) → ((x : OptionDecl) → Memᴰ x os → named x ≡ false) → Unnamed o.name os
  unnamed os h x m = eqb-false x.name o.name (h x m)

  first_unnamed : (os : List OptionDecl) → Unnamed o.name os → first named os ≡ none
  unfolding first
  first_unnamed [] u = refl
  first_unnamed (x ∷ os) u =
      rw (ne_eqb x.name o.name (u x (Memᴰ.head refl)), first) (first_unnamed os λ y m. u y (Memᴰ.tail m))

  pub first_named : (front rest : List OptionDecl) (x : OptionDecl) → Unnamed o.name front → x.name ≡ o.name
      → first named (front ++ (x ∷ rest)) ≡ some x
  unfolding first
  first_named [] rest x u e = rw (eq-eqb x.name o.name e, first)
  first_named (y ∷ front) rest x u e =
      rw (ne_eqb y.name o.name (u y (Memᴰ.head refl)), first) (first_named front rest x (λ z m. u z (Memᴰ.tail m)) e)

joins : (os more ws : List OptionDecl) → union_options os more ≡ some ws → JoinedOptions os more ws
unfolding union_options add_option
joins os [] ws e = subst (JoinedOptions os []) (some-injective os ws e) no_more
joins os (o ∷ more) ws e = go (first (named o) os) refl e (λ wider. joins wider more ws)
  where
    there : (x : OptionDecl) → first (named o) os ≡ some x → (b : Bool) → eqb x.value o.value ≡ b
        → (elim (elim b as (λ y. Option (List OptionDecl)) [ true ↦ some os | false ↦ none ]) as (λ y. Option (List OptionDecl))
        [ none ↦ none | some wider ↦ union_options wider more ]) ≡ some ws
        → ((wider : List OptionDecl) → union_options wider more ≡ some ws → JoinedOptions wider more ws) → JoinedOptions os (o ∷ more) ws
    there x k true v f ih =
        let (front, rest, w, h, t) = first_cut (named o) os k in
        same_value front rest x w (unnamed o front h) (eqb-true x.name o.name t) (eqb-true x.value o.value v) (ih os f)
    there x k false v f ih = never f

    go : (q : Option OptionDecl) → first (named o) os ≡ q
        → (elim (elim q as (λ y. Option (List OptionDecl))
        [ none ↦ some (os ++ (o ∷ [])) | some p ↦ elim (eqb p.value o.value) [ true ↦ some os | false ↦ none ] ]) as
        (λ y. Option (List OptionDecl)) [ none ↦ none | some wider ↦ union_options wider more ]) ≡ some ws
        → ((wider : List OptionDecl) → union_options wider more ≡ some ws → JoinedOptions wider more ws) → JoinedOptions os (o ∷ more) ws
    go none k f ih = new_name (unnamed o os (λ x m. first_none (named o) k m)) (ih (os ++ (o ∷ [])) f)
    go (some x) k f ih = there x k (eqb x.value o.value) refl f ih

add_new : (os : List OptionDecl) (o : OptionDecl) → Unnamed o.name os → add_option os o ≡ some (os ++ (o ∷ []))
unfolding add_option
add_new os o u = rw (first_unnamed o os u, add_option)

add_same : (front rest : List OptionDecl) (x o : OptionDecl) {os : List OptionDecl} → front ++ (x ∷ rest) ≡ os → Unnamed o.name front
    → x.name ≡ o.name → x.value ≡ o.value
    → add_option os o ≡ some os
unfolding add_option
add_same front rest x o {os} w u n v =
    let f : first (named o) os ≡ some x = subst (λ l. first (named o) l ≡ some x) w (first_named o front rest x u n) in
    rw (f, add_option) (rw (eq-eqb x.value o.value v))

joined : {os more ws : List OptionDecl} → JoinedOptions os more ws → union_options os more ≡ some ws
unfolding union_options
joined no_more = refl
joined (new_name {os = os} {o = o} u j) = rw (add_new os o u, union_options) (joined j)
joined (same_value {o = o} front rest x w u n v j) = rw (add_same front rest x o w u n v, union_options) (joined j)

-- Options are joined as union_options does, and exactly where it does.
pub options_joined_lem : (os more ws : List OptionDecl) → (union_options os more ≡ some ws) ↔ JoinedOptions os more ws
options_joined_lem os more ws = (joins os more ws, joined)
