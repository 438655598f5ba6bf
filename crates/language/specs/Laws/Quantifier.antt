-- The four ways in which a quantifier counts, as one case distinction.
use Rattle.std.specs.Prelude.{ℕ, zero, suc, ◌≡◌, Bool, true, false, ◌&&◌, leb}
use Rattle.std.proofs.Common.{sym, subst₂, arith, leb-false, le-leb}
use Rattle.std.proofs.Math.Dec.{eqb-suc-zero}
use Rattle.std.proofs.lemmas.Bool.{lt-leb, and_from}
use Rattle.grammar.specs.Numbers.{optional_greedy, optional_nongreedy, zero_or_more_nongreedy}
use Rattle.language.specs.Shape.{Shape, opt, star, plus, quantified}
use Rattle.grammar.specs.Laws.Parse.{either}

-- Optional or zero or more, greedy or not.
abbrev pub is_optional_quantifier : ℕ → Bool
is_optional_quantifier q = leb optional_greedy q && leb q zero_or_more_nongreedy

pub quantified_cases : (P : Bool → Shape → Type 0) (q : ℕ) (s : Shape) → P false s → P true (opt s) → P true (star s) → P false (plus s)
    → P (is_optional_quantifier q) (quantified q s)
unfolding quantified
quantified_cases P zero s once optional any more = once
quantified_cases P (suc q) s once optional any more =
    let z = eqb-suc-zero q in
    let one : leb optional_greedy (suc q) ≡ true = le-leb optional_greedy (suc q) (omega arith) in
    either (leb (suc q) zero_or_more_nongreedy)
    (λ t.
    let o : is_optional_quantifier (suc q) ≡ true = and_from (leb optional_greedy (suc q)) (leb (suc q) zero_or_more_nongreedy) one t in
    either (leb (suc q) optional_nongreedy)
    (λ u. subst₂ P (sym o) (sym (rw (z, quantified) (rw u))) optional)
    (λ u. subst₂ P (sym o) (sym (rw (z, quantified) (rw (u, t)))) any))
    (λ f.
    let o : is_optional_quantifier (suc q) ≡ false = rw (one, f) in
    let u : leb (suc q) optional_nongreedy ≡ false =
    lt-leb (suc q) optional_nongreedy (omega (arith, leb-false (suc q) zero_or_more_nongreedy f)) in
    subst₂ P (sym o) (sym (rw (z, quantified) (rw (u, f)))) more)
