-- How many options a union has, and how many elements and options an alternative brings.
use Prim.Native.Nat.{ℕ, ◌+◌, ◌-◌, ◌≤◌}
use mathlib.Core.Path.{◌≡◌, refl, sym, ap, ◌∙◌}
use mathlib.Core.List.{List, [], ◌∷◌, ◌++◌}
use mathlib.Core.Option.{Option, none, some}
use mathlib.Core.Bool.{Bool, true, false}
use native.Mathlib.Omega.{arith}
use lib.ListN.{length, length-append}
use lib.Dec.{eqb}
use Rattle.grammar.specs.Form.{newest}
use Rattle.grammar.specs.Numbers.{most_words}
use Rattle.grammar.specs.Tree.{OptionDecl}
use Rattle.grammar.specs.Lists.{first}
use Rattle.grammar.specs.Found.{FoundAlternative, AlternativeAt}
use Rattle.grammar.specs.Laws.Stands.{stands_length}
use Rattle.grammar.specs.Laws.Opened.{options_length, alternative_words_lem}
use Rattle.grammar.specs.Laws.Found.{inner_found}
use Rattle.reference.specs.Substitute.{add_option, union_options}
use Rattle.splices.specs.Moves.{OptionsAdded}
use Rattle.planned.specs.declared.list.Listed.{Listed}
use Rattle.std.specs.Prelude as P
use Rattle.splices.proofs.Laws.Places.{elements_low}
use Rattle.steps.specs.Decide.{HandFits, IsCounted, AlternativeCounted}
use Rattle.splices.specs.declared.splice.Size.{Size}

abbrev many : Option (List OptionDecl) → ℕ
many none = 0
many (some os) = length os

abbrev there : Option (List OptionDecl) → ℕ
there none = 0
there (some os) = 1

-- A union has at most as many options as both together.
union_length : (os more : List OptionDecl) {all : List OptionDecl} → union_options os more ≡ some all → length all ≤ length os + length more
unfolding union_options add_option
union_length os [] e = let z = ap many e in omega arith
union_length os (o ∷ more) {all} e = go (λ w f. union_length w more (rw (union_options, f) at e)) (add_option os o) refl
  where
    longer : (w : Option (List OptionDecl)) → add_option os o ≡ w → (wider : List OptionDecl) → w ≡ some wider → length wider ≤ length os + 1
    longer w f wider g = other (first (λ p. eqb p.name o.name) os) refl
      where
        other : (x : Option OptionDecl) → first (λ p. eqb p.name o.name) os ≡ x → length wider ≤ length os + 1
        other none h =
            let q : add_option os o ≡ some (os ++ (o ∷ [])) = rw (add_option, h) refl in
            let z = ap many (sym g ∙ sym f ∙ q) in
            let y = length-append os (o ∷ []) in
            omega arith
        other (some p) h = last (eqb p.value o.value) refl
          where
            last : (b : Bool) → eqb p.value o.value ≡ b → length wider ≤ length os + 1
            last true i = let q : add_option os o ≡ some os = rw (add_option, h, i) refl in let z = ap many (sym g ∙ sym f ∙ q) in omega arith
            last false i =
                let q : add_option os o ≡ none = rw (add_option, h, i) refl in
                absurd (let z = ap there (sym g ∙ sym f ∙ q) in omega arith)

    go : ((w : List OptionDecl) → add_option os o ≡ some w → length all ≤ length w + length more) → (w : Option (List OptionDecl))
        → add_option os o ≡ w → length all ≤ length os + length (o ∷ more)
    go ih none f = absurd (let q : none ≡ some all = rw (union_options, f) at e in let z = ap there q in omega arith)
    go ih (some wider) f =
        let z = ih wider f in
        let y = longer (some wider) f wider refl in
        omega arith

-- How many options an alternative adds.
pub few_added : {ws : List ℕ} {end d at : ℕ} {os : List OptionDecl} {k : P.Option ℕ} {m : ℕ} → OptionsAdded ws end d at os k → k ≡ P.Some m
    → FoundAlternative ws end d at → end ≤ most_words → m ≤ most_words
few_added {d = d} {os = os} {m = m} o e f small =
    let w = o.more m e f.tree f.next f.spans in
    let l = union_length os f.tree.options w.is in
    let c = w.count in
    let a = alternative_words_lem d f.spans in
    let s = stands_length a.options_stand in
    let n = options_length f.tree.options in
    omega arith

-- One alternative is counted.
module _ (d : ℕ) {ws : List ℕ} {end at count first : ℕ} (h : Listed) (f : FoundAlternative ws end d at)
    (head : AlternativeAt ws end at count first) (fits : HandFits h) (small : end ≤ most_words) where
  pub few_elements_lem : count ≤ most_words
  few_elements_lem = let q = inner_found newest d head f in let v = elements_low d q.trees q.spans in let u = q.count in omega arith

  pub alternative_counted : {more : ℕ} {z t : Size} → more ≤ most_words → IsCounted z (h.ne - 1 + count) (h.no + more) t
      → AlternativeCounted ws end d at h more z t
  alternative_counted {more} l c =
      let x = few_elements_lem in
      let y = fits.few_elements in
      let w = fits.few_options in
      let s = fits.some in
      record {
        ne = h.ne - 1 + count;
        no' = h.no + more;
        count = count;
        first = first;
        head = head;
        is_elements = omega arith;
        is_options = refl;
        counted = c;
        few_elements = omega arith;
        few_options = omega arith;
      }

pub ruleset counts = (few_elements_lem, alternative_counted)
