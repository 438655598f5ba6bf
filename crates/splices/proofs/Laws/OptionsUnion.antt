-- The union of options, by how each option meets those that are there and those in front of it.
use Prim.Native.Nat.{ℕ, zero, suc, ◌+◌, ◌*◌, ◌≤◌}
use mathlib.Core.Path.{◌≡◌, refl, sym, ap, ◌∙◌}
use mathlib.Core.List.{List, [], ◌∷◌, ◌++◌, append_assoc, append-nil}
use mathlib.Core.Option.{Option, none, some}
use mathlib.Core.Bool.{Bool, true, false}
use native.Mathlib.Omega.{arith}
use lib.ListN.{length, get_or, length-append}
use lib.Dec.{eqb}
use borrow.Author.Tests.{eqb-true, eqb-false}
use Rattle.grammar.specs.Tree.{OptionDecl, Block, AlternativeOf}
use Rattle.grammar.specs.Lists.{each}
use Rattle.grammar.specs.Encode.{encode_option}
use Rattle.grammar.specs.Stands.{Stands}
use Rattle.grammar.specs.Found.{AlternativeSpans}
use Rattle.grammar.specs.Laws.Parse.{either}
use Rattle.grammar.specs.Laws.Stands.{stands_head, run_stands}
use Rattle.grammar.specs.Laws.Opened.{alternative_words_lem}
use Rattle.reference.specs.Substitute.{add_option, union_options}
use Rattle.planned.specs.Layout.{option_of}
use Rattle.splices.specs.Options.{met_by, met_first, first_named, meets, or_else, standing_options}
use Rattle.splices.specs.declared.options.Meets.{Meets}
use Rattle.splices.specs.declared.options.Meets.TheVariants.{New, Same, Other}
use Rattle.splices.proofs.Laws.Options.{meets_other, meets_append}

-- One option more.
abbrev pub added_by : Meets → List OptionDecl → OptionDecl → Option (List OptionDecl)
added_by New os o = some (os ++ (o ∷ []))
added_by Same os o = some os
added_by Other os o = none

pub add_by : (os : List OptionDecl) (o : OptionDecl) → add_option os o ≡ added_by (meets os o) os o
unfolding add_option meets met_first
add_by os o = go (first_named o.name os) refl
  where
    value : (p : OptionDecl) (b : Bool) → eqb p.value o.value ≡ b → first_named o.name os ≡ some p
        → add_option os o ≡ added_by (meets os o) os o
    value p true e x = rw (x, add_option, meets, e) refl
    value p false e x = rw (x, add_option, meets, e) refl

    go : (f : Option OptionDecl) → first_named o.name os ≡ f → add_option os o ≡ added_by (meets os o) os o
    go none x = rw (x, add_option, meets) refl
    go (some p) x = value p (eqb p.value o.value) refl x

-- Where an option of the name is there already, one behind it does not count.
hidden : (os : List OptionDecl) (x o : OptionDecl) → meets os x ≡ Same → x.name ≡ o.name → (a b : Meets)
    → or_else (meets os o) a ≡ or_else (meets os o) b
unfolding meets met_first
hidden os x o s e a b = go (first_named o.name os) refl
  where
    decides : (c : Bool) → or_else (met_by c) a ≡ or_else (met_by c) b
    decides true = refl
    decides false = refl

    go : (f : Option OptionDecl) → first_named o.name os ≡ f → or_else (meets os o) a ≡ or_else (meets os o) b
    go none y = absurd (let z : New ≡ Same = sym (ap (λ n. met_first (first_named n os) x.value) e ∙ ap (λ f. met_first f x.value) y) ∙ s in
        let w : ◌≡◌ {A = ℕ} 0 1 = cc in omega arith)
    go (some p) y = rw (y, meets) (decides (eqb p.value o.value))

-- One option of the union, by what it adds.
module _ {P : Type 0} (os : List OptionDecl) (x : OptionDecl) (front : List OptionDecl) {wider : List OptionDecl}
    (e : union_options os (x ∷ front) ≡ some wider) where
  union_some : ((w : List OptionDecl) → add_option os x ≡ some w → union_options w front ≡ some wider → P) → P
  unfolding union_options
  union_some f = go (add_option os x) refl
    where
      go : (g : Option (List OptionDecl)) → add_option os x ≡ g → P
      go none y =
          let u : union_options os (x ∷ front) ≡ none = rw (y, union_options) refl in
          absurd (let v : none ≡ some wider = sym u ∙ e in let z : ◌≡◌ {A = ℕ} 0 1 = cc in omega arith)
      go (some w) y = let u : union_options os (x ∷ front) ≡ union_options w front = rw (y, union_options) refl in f w y (sym u ∙ e)

pub union_append : (os front more : List OptionDecl) {wider : List OptionDecl} → union_options os front ≡ some wider
    → union_options os (front ++ more) ≡ union_options wider more
unfolding union_options
union_append os [] more {wider} e = let w : os ≡ wider = cc in rw w refl
union_append os (x ∷ front) more e =
    union_some os x front e λ w y u. rw (y, union_options) (union_append w front more u)

-- What one option made of those that are there: one more, or the same.
data Widened (os : List OptionDecl) (x : OptionDecl) (w : List OptionDecl) : Type 0 where
  by_one : meets os x ≡ New → os ++ (x ∷ []) ≡ w → Widened os x w
  by_none : meets os x ≡ Same → os ≡ w → Widened os x w

widened : (os : List OptionDecl) (x : OptionDecl) (w : List OptionDecl) → add_option os x ≡ some w → Widened os x w
widened os x w y = by (meets os x) refl (sym (add_by os x) ∙ y)
  where
    by : (m : Meets) → meets os x ≡ m → added_by m os x ≡ some w → Widened os x w
    by New f g = by_one f cc
    by Same f g = by_none f cc
    by Other f g = absurd (let v : ◌≡◌ {A = ℕ} 0 1 = cc in omega arith)

pub union_longer : (os more : List OptionDecl) {wider : List OptionDecl} → union_options os more ≡ some wider → length os ≤ length wider
unfolding union_options
union_longer os [] {wider} e = let w : os ≡ wider = cc in rw w (omega arith)
union_longer os (x ∷ more) {wider} e =
    union_some os x more e λ w y u. let i = union_longer w more u in let j = longer (widened os x w y) in omega arith
  where
    longer : {w : List OptionDecl} → Widened os x w → length os ≤ length w
    longer (by_one z v) = let l = length-append os (x ∷ []) in rw (← v) (omega arith)
    longer (by_none z v) = rw v (omega arith)

-- The first of a name in a union is the first of that name in both lists, one behind the other.
pub meets_union : (os front : List OptionDecl) {wider : List OptionDecl} → union_options os front ≡ some wider → (o : OptionDecl)
    → meets wider o ≡ meets (os ++ front) o
unfolding union_options
meets_union os [] {wider} e o = let w : os ≡ wider = cc in rw (← w, append-nil os) refl
meets_union os (x ∷ front) e o = union_some os x front e λ w y u. meets_union w front u o ∙ step (widened os x w y)
  where
    step : {w : List OptionDecl} → Widened os x w → meets (w ++ front) o ≡ meets (os ++ (x ∷ front)) o
    step (by_one z v) = rw (← v) (ap (λ l. meets l o) (append_assoc os (x ∷ []) front))
    step (by_none z v) =
        rw (← v) (meets_append os front o ∙ either (eqb x.name o.name)
        (λ n. hidden os x o z (eqb-true x.name o.name n) (meets front o) (meets (x ∷ front) o))
        (λ n. ap (or_else (meets os o)) (sym (meets_other x o front (eqb-false x.name o.name n))))
        ∙ sym (meets_append os (x ∷ front) o))

-- One more of the options in front.
module _ (os front : List OptionDecl) {wider : List OptionDecl} (e : union_options os front ≡ some wider) (o : OptionDecl) {m : Meets}
    (x : m ≡ meets (os ++ front) o) where
  wider_by : add_option wider o ≡ added_by m wider o
  wider_by = add_by wider o ∙ ap (λ k. added_by k wider o) (meets_union os front e o ∙ sym x)

  pub union_next : {next : List OptionDecl} → added_by m wider o ≡ some next → union_options os (front ++ (o ∷ [])) ≡ some next
  unfolding union_options
  union_next f = union_append os front (o ∷ []) e ∙ rw (wider_by, f, union_options) refl

  pub union_clash : (more : List OptionDecl) → added_by m wider o ≡ none → union_options os (front ++ (o ∷ more)) ≡ none
  unfolding union_options
  union_clash more f = union_append os front (o ∷ more) e ∙ rw (wider_by, f, union_options) refl

module _ (ws : List ℕ) (end d : ℕ) where
  -- Options that stand one behind the other.
  pub standing_split : (at j n : ℕ) → standing_options ws end d at (j + n)
      ≡ standing_options ws end d at j ++ standing_options ws end d (at + 2 * j) n
  unfolding standing_options
  standing_split at zero n = let e : at + 2 * 0 ≡ at = omega arith in let f : 0 + n ≡ n = omega arith in rw (e, f) refl
  standing_split at (suc j) n =
      let e : at + 2 * suc j ≡ 2 + at + 2 * j = omega arith in
      let f : suc j + n ≡ suc (j + n) = omega arith in
      rw (e, f) (ap (λ os. option_of ws end d at ∷ os) (standing_split (2 + at) j n))

  stands_options : (os : List OptionDecl) (at q : ℕ) → Stands ws end (each encode_option os) at q
      → standing_options ws end d at (length os) ≡ os
  unfolding standing_options
  stands_options [] at q s = refl
  stands_options (o ∷ os) at q s =
      let e : at + 2 ≡ 2 + at = omega arith in
      λ i.
      record { name = stands_head s i; value = s.run.1.0 i }
      ∷ stands_options os (2 + at) q (rw e at (run_stands {ws = ws} {end = end} {xs = each encode_option os} {q = q} at 2 s.run.1.1)) i

  -- The options of an alternative stand behind its head.
  pub own_options : {at : ℕ} {a : AlternativeOf (Block d)} {q : ℕ} → AlternativeSpans ws end d at a q
      → a.options ≡ standing_options ws end d (at + 5) (get_or ws (at + 3) 0)
  own_options {at} {a} s =
      let w = alternative_words_lem d s in
      sym (rw w.counted (stands_options a.options (at + 5) _ w.options_stand))
