-- Options cannot be joined exactly where one has another value than the first of its name.
use Rattle.std.specs.Prelude.{◌≡◌, refl, ◌↔◌, Bool, true, false, eqb}
use Rattle.std.proofs.Common.{sym, ap, ◌∙◌, subst, eqb-true, ne_eqb}
use mathlib.Core.List.{List, [], ◌∷◌, ◌++◌, append-nil, append_assoc, Memᴰ}
use Rattle.std.proofs.Math.Option.{Option, none, some}
use Rattle.std.proofs.lemmas.Bool.{eqb-false}
use Rattle.grammar.specs.Tree.{OptionDecl}
use Rattle.grammar.specs.Lists.{first}
use Rattle.grammar.specs.Laws.Parse.{either}
use Rattle.reference.specs.Substitute.{add_option, union_options}
use Rattle.laws.specs.Demands.Collisions.{OtherValue}
use Rattle.laws.specs.Lists.Lookup.{first_some}
use Rattle.laws.specs.Planning.Options.{never, named, first_cut, unnamed, first_named}

-- The same by the first that is found.
record Clash (os more : List OptionDecl) : Type 0 where
  pub front : List OptionDecl
  pub option : OptionDecl
  pub rest : List OptionDecl
  pub whole : front ++ (option ∷ rest) ≡ more
  pub same : OptionDecl
  pub is_first : first (named option) (os ++ front) ≡ some same
  pub differs : eqb same.value option.value ≡ false

-- One that does not pass is passed over.
passed_over : {A : Type 0} (test : A → Bool) (f : A) → test f ≡ false → (xs front : List A)
    → first test (xs ++ (f ∷ front)) ≡ first test (xs ++ front)
unfolding first
passed_over test f t [] front = rw (t, first)
passed_over test f t (y ∷ xs) front =
    either (test y) (λ u. rw (u, first)) (λ u. rw (u, first) (passed_over test f t xs front))

-- So is an option whose name is there already.
skipped : (f o : OptionDecl) (os front : List OptionDecl) {x : OptionDecl} → Memᴰ x os → x.name ≡ f.name
    → first (named o) (os ++ (f ∷ front)) ≡ first (named o) (os ++ front)
unfolding first
skipped f o (y ∷ os) front (Memᴰ.head e) n =
    either (named o y)
    (λ u. rw (u, first))
    (λ u. rw (u, first)
    (passed_over (named o) f (ap (λ m. eqb m o.name) (sym n ∙ ap (λ z. z.name) e) ∙ u) os front))
skipped f o (y ∷ os) front (Memᴰ.tail m) n =
    either (named o y) (λ u. rw (u, first)) (λ u. rw (u, first) (skipped f o os front m n))
skipped f o [] front x4 n = elim x4 [ ]

-- Of the first option of those that join others.
abbrev Replied : Type 0
Replied = Option (List OptionDecl)

abbrev joined_by : List OptionDecl → OptionDecl → List OptionDecl → Option OptionDecl → Replied
joined_by os o more q =
    elim (elim q as (λ y. Replied)
    [ none ↦ some (os ++ (o ∷ [])) | some p ↦ elim (eqb p.value o.value) [ true ↦ some os | false ↦ none ] ]) as
    (λ y. Replied) [ none ↦ none | some wider ↦ union_options wider more ]

clash_behind : {os wider more : List OptionDecl} {o : OptionDecl}
    → ((front : List OptionDecl) (p : OptionDecl) → first (named p) (os ++ (o ∷ front)) ≡ first (named p) (wider ++ front))
    → Clash wider more → Clash os (o ∷ more)
clash_behind {o = o} h c =
    record {
      front = o ∷ c.front;
      option = c.option;
      rest = c.rest;
      whole = ap (λ l. o ∷ l) c.whole;
      same = c.same;
      is_first = h c.front c.option ∙ c.is_first;
      differs = c.differs;
    }

module _ (os : List OptionDecl) (o : OptionDecl) where
  wider_by : (front : List OptionDecl) (p : OptionDecl)
      → first (named p) (os ++ (o ∷ front)) ≡ first (named p) ((os ++ (o ∷ [])) ++ front)
  wider_by front p = ap (first (named p)) (sym (append_assoc os (o ∷ []) front))

  same_by : {x : OptionDecl} → first (named o) os ≡ some x → (front : List OptionDecl) (p : OptionDecl)
      → first (named p) (os ++ (o ∷ front)) ≡ first (named p) (os ++ front)
  same_by {x} k front p = let (m, t) = first_some (named o) os k in skipped o p os front m (eqb-true x.name o.name t)

clashes : (os more : List OptionDecl) → union_options os more ≡ none → Clash os more
unfolding union_options add_option
clashes os [] e = never (sym e)
clashes os (o ∷ more) e = go (first (named o) os) refl e (λ wider. clashes wider more)
  where
    there : (x : OptionDecl) → first (named o) os ≡ some x → (b : Bool) → eqb x.value o.value ≡ b
        → ◌≡◌ {A = Replied} (elim (elim b as (λ y. Replied) [ true ↦ some os | false ↦ none ]) as (λ y. Replied)
        [ none ↦ none | some wider ↦ union_options wider more ]) none
        → ((wider : List OptionDecl) → union_options wider more ≡ none → Clash wider more) → Clash os (o ∷ more)
    there x k true v f ih = clash_behind (same_by os o k) (ih os f)
    there x k false v f ih =
        record {
          front = [];
          option = o;
          rest = more;
          whole = refl;
          same = x;
          is_first = ap (first (named o)) (append-nil os) ∙ k;
          differs = v;
        }

    go : (q : Option OptionDecl) → first (named o) os ≡ q → joined_by os o more q ≡ none
        → ((wider : List OptionDecl) → union_options wider more ≡ none → Clash wider more) → Clash os (o ∷ more)
    go none k f ih = clash_behind (wider_by os o) (ih (os ++ (o ∷ [])) f)
    go (some x) k f ih = there x k (eqb x.value o.value) refl f ih

-- The other way round, by what is in front of the option.
clashed : (front : List OptionDecl) (os rest : List OptionDecl) (option same : OptionDecl)
    → first (named option) (os ++ front) ≡ some same → eqb same.value option.value ≡ false
    → union_options os (front ++ (option ∷ rest)) ≡ none
unfolding union_options add_option
clashed [] os rest option same e v =
    let k : first (named option) os ≡ some same = ap (first (named option)) (sym (append-nil os)) ∙ e in
    ap (joined_by os option rest) k ∙ rw (v, joined_by)
clashed (o ∷ front) os rest option same e v = go (first (named o) os) refl (clashed front)
  where
    there : (x : OptionDecl) → first (named o) os ≡ some x → (b : Bool)
        → ((ws : List OptionDecl) (rest : List OptionDecl) (option same : OptionDecl)
        → first (named option) (ws ++ front) ≡ some same → eqb same.value option.value ≡ false
        → union_options ws (front ++ (option ∷ rest)) ≡ none)
        → ◌≡◌ {A = Replied} (elim (elim b as (λ y. Replied) [ true ↦ some os | false ↦ none ]) as (λ y. Replied)
        [ none ↦ none | some wider ↦ union_options wider (front ++ (option ∷ rest)) ]) none
    there x k true ih = ih os rest option same (sym (same_by os o k front option) ∙ e) v
    there x k false ih = refl

    go : (q : Option OptionDecl) → first (named o) os ≡ q
        → ((ws : List OptionDecl) (rest : List OptionDecl) (option same : OptionDecl)
        → first (named option) (ws ++ front) ≡ some same → eqb same.value option.value ≡ false
        → union_options ws (front ++ (option ∷ rest)) ≡ none)
        → joined_by os o (front ++ (option ∷ rest)) q ≡ none
    go none k ih = ih (os ++ (o ∷ [])) rest option same (sym (wider_by os o front option) ∙ e) v
    go (some x) k ih = there x k (eqb x.value o.value) ih

pub values_told : (os more : List OptionDecl) → (union_options os more ≡ none) ↔ OtherValue os more
values_told os more = (
  λ e.
      let c = clashes os more e in
      let (before, after, w, h, t) = first_cut (named c.option) (os ++ c.front) c.is_first in
      record {
        front = c.front;
        option = c.option;
        rest = c.rest;
        whole = c.whole;
        before = before;
        same = c.same;
        after = after;
        stands = w;
        is_first = unnamed c.option before h;
        is_named = eqb-true c.same.name c.option.name t;
        differs = eqb-false c.same.value c.option.value c.differs;
      },
  λ x.
      subst (λ l. union_options os l ≡ none) x.whole
      (clashed x.front os x.rest x.option x.same
      (ap (first (named x.option)) (sym x.stands)
      ∙ first_named x.option x.before x.after x.same x.is_first x.is_named)
      (ne_eqb x.same.value x.option.value x.differs)),
)
