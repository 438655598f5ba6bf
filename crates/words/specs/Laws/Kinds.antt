-- Which numbers name something.
use Rattle.std.specs.Prelude.{ℕ, zero, suc, ◌<◌, ◌≡◌, refl, true, false, ◌&&◌, leb, ◌⊎◌, is_ok, is_err, Result, Ok, Err}
use Rattle.std.proofs.Common.{sym, ap, ◌∙◌, arith, inl, inr}
use borrow.Author.Tests.{le-leb, lt-leb}
use Rattle.grammar.specs.Numbers.{lexer, combined, one_or_more_nongreedy, non_local}
use Rattle.grammar.specs.Numbers.{epsilon_kind, action_kind, predicate_kind, call_kind, token_kind, terminal_kind, block_kind, end_kind}
use Rattle.words.specs.declared.numbers.UnitKind.{UnitKind}
use Rattle.words.specs.declared.numbers.UnitKind.TheVariants.{Lexer, Parser, Combined}
use Rattle.words.specs.declared.numbers.Quantifier.{Quantifier}
use Rattle.words.specs.declared.numbers.Quantifier.TheVariants.{Once, OptionalGreedy, OptionalNongreedy, ZeroOrMoreGreedy}
use Rattle.words.specs.declared.numbers.Quantifier.TheVariants.{ZeroOrMoreNongreedy, OneOrMoreGreedy, OneOrMoreNongreedy}
use Rattle.words.specs.declared.numbers.Kind.{Kind}
use Rattle.words.specs.declared.numbers.Kind.TheVariants as kind
use Rattle.words.specs.declared.numbers.ReferenceKind.{ReferenceKind}
use Rattle.words.specs.declared.numbers.ReferenceKind.TheVariants.{Attribute, Qualified, NonLocal}
use Rattle.words.specs.declared.numbers.Unnamed.{Unnamed}
use Rattle.words.specs.Kinds.{Names, unit_number, quantifier_number, kind_number, reference_number}

-- A result is good or bad.
pub no_ok : {A B : Type 0} (r : Result A B) → is_err r ≡ true → is_ok r ≡ false
no_ok (Ok a) e = sym e
no_ok (Err b) e = refl

pub an_ok : {A B : Type 0} (r : Result A B) → is_err r ≡ false → is_ok r ≡ true
an_ok (Ok a) e = refl
an_ok (Err b) e = sym e

pub unit_named : (n : ℕ) (r : Result UnitKind Unnamed) → Names unit_number n r → is_ok r ≡ (leb lexer n && leb n combined)
unit_named n (Ok Lexer) e = rw (← e) refl
unit_named n (Ok Parser) e = rw (← e) refl
unit_named n (Ok Combined) e = rw (← e) refl
unit_named zero (Err x) e = refl
unit_named (suc zero) (Err x) e = absurd (e.1 Lexer refl)
unit_named (suc (suc zero)) (Err x) e = absurd (e.1 Parser refl)
unit_named (suc (suc (suc zero))) (Err x) e = absurd (e.1 Combined refl)
unit_named (suc (suc (suc (suc n)))) (Err x) e =
    simp (le-leb lexer (suc (suc (suc (suc n)))) (omega arith), lt-leb (suc (suc (suc (suc n)))) combined (omega arith))

pub reference_named : (n : ℕ) (r : Result ReferenceKind Unnamed) → Names reference_number n r → is_ok r ≡ leb n non_local
reference_named n (Ok Attribute) e = rw (← e) refl
reference_named n (Ok Qualified) e = rw (← e) refl
reference_named n (Ok NonLocal) e = rw (← e) refl
reference_named zero (Err x) e = absurd (e.1 Attribute refl)
reference_named (suc zero) (Err x) e = absurd (e.1 Qualified refl)
reference_named (suc (suc zero)) (Err x) e = absurd (e.1 NonLocal refl)
reference_named (suc (suc (suc n))) (Err x) e = sym (lt-leb _ non_local (omega arith))

pub quantifier_named : (n : ℕ) (r : Result Quantifier Unnamed) → Names quantifier_number n r → is_ok r ≡ leb n one_or_more_nongreedy
quantifier_named n (Ok Once) e = rw (← e) refl
quantifier_named n (Ok OptionalGreedy) e = rw (← e) refl
quantifier_named n (Ok OptionalNongreedy) e = rw (← e) refl
quantifier_named n (Ok ZeroOrMoreGreedy) e = rw (← e) refl
quantifier_named n (Ok ZeroOrMoreNongreedy) e = rw (← e) refl
quantifier_named n (Ok OneOrMoreGreedy) e = rw (← e) refl
quantifier_named n (Ok OneOrMoreNongreedy) e = rw (← e) refl
quantifier_named zero (Err x) e = absurd (e.1 Once refl)
quantifier_named (suc zero) (Err x) e = absurd (e.1 OptionalGreedy refl)
quantifier_named (suc (suc zero)) (Err x) e = absurd (e.1 OptionalNongreedy refl)
quantifier_named (suc (suc (suc zero))) (Err x) e = absurd (e.1 ZeroOrMoreGreedy refl)
quantifier_named (suc (suc (suc (suc zero)))) (Err x) e = absurd (e.1 ZeroOrMoreNongreedy refl)
quantifier_named (suc (suc (suc (suc (suc zero))))) (Err x) e = absurd (e.1 OneOrMoreGreedy refl)
quantifier_named (suc (suc (suc (suc (suc (suc zero)))))) (Err x) e = absurd (e.1 OneOrMoreNongreedy refl)
quantifier_named (suc (suc (suc (suc (suc (suc (suc n))))))) (Err x) e = sym (lt-leb _ one_or_more_nongreedy (omega arith))

-- Kinds are told apart by their numbers.
kind_at : ℕ → Kind
kind_at zero = kind.Epsilon
kind_at (suc zero) = kind.Action
kind_at (suc (suc zero)) = kind.Predicate
kind_at (suc (suc (suc zero))) = kind.Call
kind_at (suc (suc (suc (suc zero)))) = kind.Token
kind_at (suc (suc (suc (suc (suc zero))))) = kind.Terminal
kind_at (suc (suc (suc (suc (suc (suc zero)))))) = kind.Block
kind_at (suc (suc (suc (suc (suc (suc (suc n))))))) = kind.EndOfInput

at_number : (k : Kind) → kind_at (kind_number k) ≡ k
unfolding kind_at
at_number kind.Epsilon = refl
at_number kind.Action = refl
at_number kind.Predicate = refl
at_number kind.Call = refl
at_number kind.Token = refl
at_number kind.Terminal = refl
at_number kind.Block = refl
at_number kind.EndOfInput = refl

pub same_kind : (a b : Kind) → kind_number a ≡ kind_number b → a ≡ b
same_kind a b e = sym (at_number a) ∙ ap kind_at e ∙ at_number b

-- A number up to the last kind's is that of a kind.
pub kind_named : (n : ℕ) (r : Result Kind Unnamed) → Names kind_number n r → is_ok r ≡ leb n end_kind
kind_named n (Ok kind.Epsilon) e = rw (← e) refl
kind_named n (Ok kind.Action) e = rw (← e) refl
kind_named n (Ok kind.Predicate) e = rw (← e) refl
kind_named n (Ok kind.Call) e = rw (← e) refl
kind_named n (Ok kind.Token) e = rw (← e) refl
kind_named n (Ok kind.Terminal) e = rw (← e) refl
kind_named n (Ok kind.Block) e = rw (← e) refl
kind_named n (Ok kind.EndOfInput) e = rw (← e) refl
kind_named zero (Err x) e = absurd (e.1 kind.Epsilon refl)
kind_named (suc zero) (Err x) e = absurd (e.1 kind.Action refl)
kind_named (suc (suc zero)) (Err x) e = absurd (e.1 kind.Predicate refl)
kind_named (suc (suc (suc zero))) (Err x) e = absurd (e.1 kind.Call refl)
kind_named (suc (suc (suc (suc zero)))) (Err x) e = absurd (e.1 kind.Token refl)
kind_named (suc (suc (suc (suc (suc zero))))) (Err x) e = absurd (e.1 kind.Terminal refl)
kind_named (suc (suc (suc (suc (suc (suc zero)))))) (Err x) e = absurd (e.1 kind.Block refl)
kind_named (suc (suc (suc (suc (suc (suc (suc zero))))))) (Err x) e = absurd (e.1 kind.EndOfInput refl)
kind_named (suc (suc (suc (suc (suc (suc (suc (suc n)))))))) (Err x) e = sym (lt-leb _ end_kind (omega arith))

-- Of a kind that is one of the eight, and of one that is not it.
module _ {k : Kind} where
  pub is_epsilon : k ≡ kind.Epsilon → kind_number k ≡ epsilon_kind
  is_epsilon e = ap kind_number e

  pub is_action : k ≡ kind.Action → kind_number k ≡ action_kind
  is_action e = ap kind_number e

  pub is_predicate : k ≡ kind.Predicate → kind_number k ≡ predicate_kind
  is_predicate e = ap kind_number e

  pub is_call : k ≡ kind.Call → kind_number k ≡ call_kind
  is_call e = ap kind_number e

  pub is_token : k ≡ kind.Token → kind_number k ≡ token_kind
  is_token e = ap kind_number e

  pub is_terminal : k ≡ kind.Terminal → kind_number k ≡ terminal_kind
  is_terminal e = ap kind_number e

  pub is_block : k ≡ kind.Block → kind_number k ≡ block_kind
  is_block e = ap kind_number e

  pub is_end : k ≡ kind.EndOfInput → kind_number k ≡ end_kind
  is_end e = ap kind_number e

  pub no_epsilon : (k ≡ kind.Epsilon → ⊥) → kind_number k ≡ epsilon_kind → ⊥
  no_epsilon h e = h (same_kind k kind.Epsilon e)

  pub no_action : (k ≡ kind.Action → ⊥) → kind_number k ≡ action_kind → ⊥
  no_action h e = h (same_kind k kind.Action e)

  pub no_predicate : (k ≡ kind.Predicate → ⊥) → kind_number k ≡ predicate_kind → ⊥
  no_predicate h e = h (same_kind k kind.Predicate e)

  pub no_call : (k ≡ kind.Call → ⊥) → kind_number k ≡ call_kind → ⊥
  no_call h e = h (same_kind k kind.Call e)

  pub no_token : (k ≡ kind.Token → ⊥) → kind_number k ≡ token_kind → ⊥
  no_token h e = h (same_kind k kind.Token e)

  pub no_terminal : (k ≡ kind.Terminal → ⊥) → kind_number k ≡ terminal_kind → ⊥
  no_terminal h e = h (same_kind k kind.Terminal e)

  pub no_block : (k ≡ kind.Block → ⊥) → kind_number k ≡ block_kind → ⊥
  no_block h e = h (same_kind k kind.Block e)

  pub no_end : (k ≡ kind.EndOfInput → ⊥) → kind_number k ≡ end_kind → ⊥
  no_end h e = h (same_kind k kind.EndOfInput e)

pub ruleset named_kinds = (
  is_epsilon,
  is_action,
  is_predicate,
  is_call,
  is_token,
  is_terminal,
  is_block,
  is_end,
  no_epsilon,
  no_action,
  no_predicate,
  no_call,
  no_token,
  no_terminal,
  no_block,
  no_end,
)

-- Kinds in front of that of a call, and behind it.
module _ {k : Kind} where
  pub silent_kind : k ≡ kind.Epsilon ⊎ (k ≡ kind.Action ⊎ k ≡ kind.Predicate) → kind_number k < call_kind
  silent_kind (inl e) = let i = ap kind_number e in omega arith
  silent_kind (inr (inl e)) = let i = ap kind_number e in omega arith
  silent_kind (inr (inr e)) = let i = ap kind_number e in omega arith

  pub significant_kind : k ≡ kind.Token ⊎ (k ≡ kind.Terminal ⊎ (k ≡ kind.Block ⊎ k ≡ kind.EndOfInput)) → call_kind < kind_number k
  significant_kind (inl e) = let i = ap kind_number e in omega arith
  significant_kind (inr (inl e)) = let i = ap kind_number e in omega arith
  significant_kind (inr (inr (inl e))) = let i = ap kind_number e in omega arith
  significant_kind (inr (inr (inr e))) = let i = ap kind_number e in omega arith

pub ruleset sided_kinds = (silent_kind, significant_kind)
