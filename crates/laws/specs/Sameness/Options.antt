-- Two lists of options are joined, or are at odds, as before where names are told apart as before.
use Rattle.std.specs.Prelude.{ℕ, ◌≡◌, true, false}
use Rattle.std.proofs.Math.Path.{refl, ap}
use Rattle.std.proofs.Common.{sym, ◌∙◌}
use mathlib.Core.List.{List, [], ◌∷◌, ◌++◌, map, map-append}
use Rattle.std.proofs.Math.Option
use Rattle.std.proofs.Math.Option.{Option, none, some}
use Rattle.std.proofs.Math.Dec.{eqb}
use Rattle.grammar.specs.Laws.Parse.{either}
use Rattle.grammar.specs.Lists.{first}
use Rattle.grammar.specs.Tree.{OptionDecl}
use Rattle.reference.specs.Substitute.{add_option, union_options}
use Rattle.laws.specs.Lists.Mapped.{first_same}
use Rattle.laws.specs.Demands.Marks.{on_option}
use Rattle.laws.specs.Sameness.Marked.{same_names}

module _ (f r pr : ℕ → ℕ) (one : (a b : ℕ) → f a ≡ f b → a ≡ b) where
  abbrev on_options : List OptionDecl → List OptionDecl
  on_options = map (on_option f r pr)

  -- An option more, where the list has none of its name with another value.
  abbrev adding : List OptionDecl → OptionDecl → Option OptionDecl → Option (List OptionDecl)
  adding os o x = elim x [ none ↦ some (os ++ (o ∷ [])) | some p ↦ elim (eqb p.value o.value) [ true ↦ some os | false ↦ none ] ]

  add_on : (os : List OptionDecl) (o : OptionDecl)
      → add_option (on_options os) (on_option f r pr o) ≡ Option.map on_options (add_option os o)
  unfolding add_option
  add_on os o =
      ap (adding (on_options os) (on_option f r pr o))
      (first_same (on_option f r pr) (λ p. eqb p.name (f o.name)) (λ p. eqb p.name o.name)
      (λ p. same_names f r pr one p.name o.name) os)
      ∙ go (first (λ p. eqb p.name o.name) os)
    where
      go : (x : Option OptionDecl)
          → adding (on_options os) (on_option f r pr o) (Option.map (on_option f r pr) x) ≡ Option.map on_options (adding os o x)
      go none = ap some (sym (map-append (on_option f r pr) os (o ∷ [])))
      go (some p) = either (eqb p.value o.value) (λ t. rw (t, adding) refl) (λ m. rw (m, adding) refl)

  pub union_on : (os more : List OptionDecl)
      → union_options (on_options os) (on_options more) ≡ Option.map on_options (union_options os more)
  unfolding union_options
  union_on os [] = refl
  union_on os (o ∷ more) = rw (add_on os o, union_options) (go (λ w. union_on w more) (add_option os o))
    where
      go : ((w : List OptionDecl) → union_options (on_options w) (on_options more) ≡ Option.map on_options (union_options w more))
          → (x : Option (List OptionDecl))
          → (elim (Option.map on_options x) as (λ y. Option (List OptionDecl)) [
            | none ↦ none
            | some wider ↦ union_options wider (on_options more)
          ])
          ≡ Option.map on_options (elim x as (λ y. Option (List OptionDecl)) [ none ↦ none | some wider ↦ union_options wider more ])
      go ih none = refl
      go ih (some wider) = ih wider
