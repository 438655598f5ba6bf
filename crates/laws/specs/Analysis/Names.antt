-- Names looked up: the definition's way to an id and derivation's way to a body find the same rule.
use Rattle.std.specs.Prelude.{ℕ, ◌≡◌, refl, Bool, true, false, eqb}
use Rattle.std.proofs.Common.{ap, arith, eqb-true}
use mathlib.Core.List.{List, [], ◌∷◌, map, Memᴰ}
use Rattle.std.proofs.Math.Option.{Option, none, some, none-ne-some, some-injective}
use Rattle.grammar.specs.Tree.{Block, RuleOf}
use Rattle.grammar.specs.Lists.{distinct, first}
use Rattle.language.specs.Shape.{Shape, find, erase_block, erase_rules}
use Rattle.language.specs.LeftCorners.{is_missing}
use Rattle.grammar.specs.Laws.Parse.{either}
use Rattle.reference.specs.Analysis.{names_of, target}
use Rattle.graph.specs.Members.{one_with}

-- Both find the body and the id of one rule, or both find nothing.
pub data Looked (d : ℕ) (rs : List (RuleOf (Block d))) (n : ℕ) : Option Shape → Option ℕ → Type 0 where
  known : {r : RuleOf (Block d)} → Memᴰ r rs → r.name ≡ n → Looked d rs n (some (erase_block d r.body)) (some r.id)
  missing : Looked d rs n none none

looked_later : {d : ℕ} {q : RuleOf (Block d)} {rs : List (RuleOf (Block d))} {n : ℕ} {b : Option Shape} {i : Option ℕ} → Looked d rs n b i
    → Looked d (q ∷ rs) n b i
looked_later (known m e) = known (Memᴰ.tail m) e
looked_later missing = missing

module _ (d : ℕ) where
  pub looked : (rs : List (RuleOf (Block d))) (nullable : List ℕ) (n : ℕ)
      → Looked d rs n (find (erase_rules d rs) n) (target (record { names = names_of rs; nullable = nullable }) n)
  unfolding find target names_of first
  looked [] nullable n = missing
  looked (r ∷ rs) nullable n =
      either (eqb r.name n)
      (λ t. rw (t, find, target, first) (known (Memᴰ.head refl) (eqb-true r.name n t)))
      (λ f. rw (f, find, target, first) (looked_later (looked rs nullable n)))

abbrev pub is_unknown : Option ℕ → Bool
is_unknown none = true
is_unknown (some t) = false

pub looked_alike : {d : ℕ} {rs : List (RuleOf (Block d))} {n : ℕ} {b : Option Shape} {i : Option ℕ} → Looked d rs n b i
    → is_missing b ≡ is_unknown i
looked_alike (known m e) = refl
looked_alike missing = refl

-- The rule that has what was found.
pub record Of (d : ℕ) (rs : List (RuleOf (Block d))) (n : ℕ) (b : Shape) (i : ℕ) : Type 0 where
  pub rule : RuleOf (Block d)
  pub there : Memᴰ rule rs
  pub name : rule.name ≡ n
  pub body : erase_block d rule.body ≡ b
  pub id : rule.id ≡ i

-- A body that is found has an id, and the other way.
pub by_body : {d : ℕ} {rs : List (RuleOf (Block d))} {n : ℕ} {o : Option Shape} {t : Option ℕ} → Looked d rs n o t → {b : Shape}
    → o ≡ some b
    → (i : ℕ) × (t ≡ some i) × Of d rs n b i
by_body {d} (known {r = r} m e) {b} f =
    (r.id, refl, record { rule = r; there = m; name = e; body = some-injective (erase_block d r.body) b f; id = refl })
by_body missing {b} f = absurd (none-ne-some b f)

pub by_id : {d : ℕ} {rs : List (RuleOf (Block d))} {n : ℕ} {o : Option Shape} {t : Option ℕ} → Looked d rs n o t → {i : ℕ} → t ≡ some i
    → (b : Shape) × (o ≡ some b) × Of d rs n b i
by_id {d} (known {r = r} m e) {i} f =
    (erase_block d r.body, refl, record { rule = r; there = m; name = e; body = refl; id = some-injective r.id i f })
by_id missing {i} f = absurd (none-ne-some i f)

-- Where names are not shared, a rule's own name leads to it.
pub by_name : {d : ℕ} {rs : List (RuleOf (Block d))} → distinct (map (λ r. r.name) rs) ≡ true → {r : RuleOf (Block d)} → Memᴰ r rs
    → {o : Option Shape} {t : Option ℕ} → Looked d rs r.name o t → is_missing o ≡ false
    → (o ≡ some (erase_block d r.body)) × (t ≡ some r.id)
by_name {d} {rs} names {r} m (known {r = q} k e) f =
    let same = one_with (λ r. r.name) rs names k m e in
    (ap (λ x. some (erase_block d x.body)) same, ap (λ x. some x.id) same)
by_name names m missing f = absurd (let z : ◌≡◌ {A = ℕ} 0 1 = cc in omega arith)
