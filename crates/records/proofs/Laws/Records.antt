-- The returns of the functions that test records.
use Prim.Native.Nat.{ℕ, ◌+◌, ◌-◌, ◌<◌, ◌≤◌}
use mathlib.Core.Path.{◌≡◌, refl, sym, ◌∙◌}
use mathlib.Core.Logic.{◌⊎◌, inl, inr}
use mathlib.Core.List.{List}
use mathlib.Core.Bool.{Bool, true, false}
use native.Mathlib.Omega.{arith}
use lib.ListN.{get_or}
use lib.Dec.{leb, eqb}
use borrow.Author.Tests.{le-leb, lt-leb, eq-eqb, ne_eqb}
use Rattle.grammar.specs.Numbers.{most_name, non_local}
use Rattle.grammar.specs.Form.{Form, call_words}
use Rattle.grammar.specs.Parse.{got, given, many}
use Rattle.grammar.specs.Read.{is_name, is_label, action_of, predicate_of, option_at, reference_at, body_at, token_at, call_at_in}
use Rattle.grammar.specs.Read.{leaf_at_in}
use Rattle.std.specs.Prelude.{Option, Some, None, Result, is_ok, is_err}
use Rattle.words.specs.declared.numbers.ReferenceKind.{ReferenceKind}
use Rattle.words.specs.declared.numbers.Unnamed.{Unnamed}
use Rattle.words.specs.declared.numbers.Kind.{Kind}
use Rattle.words.specs.declared.numbers.Kind.TheVariants.{Epsilon, Action, Predicate, Call, Token, Terminal, Block, EndOfInput}
use Rattle.words.specs.Kinds.{Names, reference_number, kind_number}
use Rattle.words.specs.Laws.Kinds.{reference_named, no_ok, an_ok}
use Rattle.records.specs.Step.{named, step_of}
use Rattle.records.proofs.Laws.Steps.{then_same}

-- names and labels; the last test that was made is what comes back
pub name_low : (w : ℕ) → w < 1 → leb 1 w ≡ is_name w
name_low w h = simp (lt-leb 1 w h)

pub name_decides : (w : ℕ) → 1 ≤ w → leb w most_name ≡ is_name w
name_decides w h = simp (le-leb 1 w h)

module _ (i n : ℕ) {b : Bool} (e : b ≡ is_name n) where
  pub label_named : b ≡ true → b ≡ is_label i n
  label_named t = simp (← e, t)

  module _ (t : b ≡ false) where
    pub label_none : n ≡ 0 → eqb i 0 ≡ is_label i n
    label_none z = simp (← e, t, eq-eqb n 0 z)

    pub label_unnamed : (n ≡ 0 → ⊥) → eqb n 0 ≡ is_label i n
    label_unnamed z = simp (← e, t, ne_eqb n 0 z)

pub ruleset labels = (name_low, name_decides, label_named, label_none, label_unnamed)

-- the fixed words have no room
module _ (ws : List ℕ) (end at : ℕ) where
  pub named_short : {n : ℕ} → end - at < n → None ≡ step_of (named ws end n at)
  named_short {n} h = simp (lt-leb n (end - at) h)

  pub reference_short : end - at < 2 → None ≡ step_of (reference_at ws end at)
  unfolding reference_at
  reference_short h = simp (lt-leb 2 (end - at) h)

  pub body_short : end - at < 2 → None ≡ step_of (body_at ws end action_of at)
  unfolding body_at
  body_short h = simp (lt-leb 2 (end - at) h)

pub ruleset shorts = (named_short, reference_short, body_short)

-- the fixed words have room, and the name decides
module _ (ws : List ℕ) (end at : ℕ) {w : ℕ} (f : w ≡ get_or ws at 0) {b : Bool} (g : b ≡ is_name w) {n : ℕ} (h : n ≤ end - at) where
  pub named_good : b ≡ true → Some (at + n) ≡ step_of (named ws end n at)
  named_good t = simp (le-leb n (end - at) h, ← f, ← g, t)

  pub named_bad : b ≡ false → None ≡ step_of (named ws end n at)
  named_bad t = simp (le-leb n (end - at) h, ← f, ← g, t)

-- what is made of the name moves nothing
given_step : {A B : Type 0} (b : Bool) (x : A) (y : B) (p : ℕ) → step_of (given b λ _. got x p) ≡ step_of (given b λ _. got y p)
given_step true x y p = refl
given_step false x y p = refl

module _ (ws : List ℕ) (end at : ℕ) {r : Option ℕ} where
  pub option_named : r ≡ step_of (named ws end 2 at) → r ≡ step_of (option_at ws end at)
  unfolding option_at
  option_named e = e ∙ given_step _ _ _ _

  pub call_named : (form : Form) {n : ℕ} → n ≡ call_words form → r ≡ step_of (named ws end n at) → r ≡ step_of (call_at_in form ws end at)
  unfolding call_at_in
  call_named form g e = e ∙ rw g (given_step _ _ _ _)

  pub token_named : r ≡ step_of (named ws end 1 at) → r ≡ step_of (token_at ws end at)
  unfolding token_at
  token_named e = e ∙ given_step _ _ _ _

pub ruleset names = (named_good, named_bad, option_named, call_named, token_named)

module _ (ws : List ℕ) (end at : ℕ) (h : 2 ≤ end - at) where
  module _ {k : ℕ} (p : k ≡ get_or ws at 0) (u : Result ReferenceKind Unnamed) (m : Names reference_number k u) where
    kind_is : leb (get_or ws at 0) non_local ≡ is_ok u
    kind_is = rw (← p) (sym (reference_named k u m))

    pub reference_kind : is_err u ≡ true → None ≡ step_of (reference_at ws end at)
    unfolding reference_at
    reference_kind k = simp (le-leb 2 (end - at) h, kind_is, no_ok u k)

  module _ {k : ℕ} (p : k ≡ get_or ws at 0) (u : Result ReferenceKind Unnamed) (m : Names reference_number k u) (q : is_err u ≡ false) {w : ℕ} (f : w ≡ get_or ws (at + 1) 0) {b : Bool} (g : b ≡ is_name w) where
    pub reference_good : b ≡ true → Some (at + 2) ≡ step_of (reference_at ws end at)
    unfolding reference_at
    reference_good t = simp (le-leb 2 (end - at) h, kind_is p u m, an_ok u q, ← f, ← g, t)

    pub reference_bad : b ≡ false → None ≡ step_of (reference_at ws end at)
    unfolding reference_at
    reference_bad t = simp (le-leb 2 (end - at) h, kind_is p u m, an_ok u q, ← f, ← g, t)

  pub body_more : {n : ℕ} {r : Option ℕ} → n ≡ get_or ws (at + 1) 0 → r ≡ step_of (many (reference_at ws end) n (at + 2))
      → r ≡ step_of (body_at ws end action_of at)
  unfolding body_at
  body_more {n} f g =
      simp (le-leb 2 (end - at) h, ← f)
      (g ∙ sym (then_same (many (reference_at ws end) n (at + 2)) (action_of (get_or ws at 0))))

pub ruleset references = (reference_kind, reference_good, reference_bad, body_more)

body_any : (ws : List ℕ) (end at : ℕ) → step_of (body_at ws end action_of at) ≡ step_of (body_at ws end predicate_of at)
unfolding body_at
body_any ws end at = go (leb 2 (end - at)) refl
  where
    go : (b : Bool) → leb 2 (end - at) ≡ b → step_of (body_at ws end action_of at) ≡ step_of (body_at ws end predicate_of at)
    go false e = simp e
    go true e =
        simp (
          e,
          then_same (many (reference_at ws end) (get_or ws (at + 1) 0) (at + 2)) (action_of (get_or ws at 0)),
          then_same (many (reference_at ws end) (get_or ws (at + 1) 0) (at + 2)) (predicate_of (get_or ws at 0)),
        )

module _ (form : Form) (ws : List ℕ) (end at : ℕ) where
  pub leaf_plain : {k : Kind} → k ≡ Epsilon ⊎ (k ≡ Terminal ⊎ k ≡ EndOfInput)
      → Some at ≡ step_of (leaf_at_in form ws end (kind_number k) at)
  unfolding leaf_at_in
  leaf_plain (inl e) = rw e
  leaf_plain (inr (inl e)) = rw e
  leaf_plain (inr (inr e)) = rw e

  module _ {k : Kind} {r : Option ℕ} where
    pub leaf_call : k ≡ Call → r ≡ step_of (call_at_in form ws end at) → r ≡ step_of (leaf_at_in form ws end (kind_number k) at)
    unfolding leaf_at_in
    leaf_call e f = rw e f

    pub leaf_token : k ≡ Token → r ≡ step_of (token_at ws end at) → r ≡ step_of (leaf_at_in form ws end (kind_number k) at)
    unfolding leaf_at_in
    leaf_token e f = rw e f

    pub leaf_body : k ≡ Action ⊎ k ≡ Predicate → r ≡ step_of (body_at ws end action_of at)
        → r ≡ step_of (leaf_at_in form ws end (kind_number k) at)
    unfolding leaf_at_in
    leaf_body (inl e) f = rw e f
    leaf_body (inr e) f = rw e (f ∙ body_any ws end at)

  pub leaf_other : (k : Kind) → (k ≡ Epsilon ⊎ (k ≡ Terminal ⊎ k ≡ EndOfInput) → ⊥) → (k ≡ Call → ⊥) → (k ≡ Token → ⊥)
      → (k ≡ Action ⊎ k ≡ Predicate → ⊥) → None ≡ step_of (leaf_at_in form ws end (kind_number k) at)
  unfolding leaf_at_in
  leaf_other Epsilon a b c d = absurd (a (inl refl))
  leaf_other Action a b c d = absurd (d (inl refl))
  leaf_other Predicate a b c d = absurd (d (inr refl))
  leaf_other Call a b c d = absurd (b refl)
  leaf_other Token a b c d = absurd (c refl)
  leaf_other Terminal a b c d = absurd (a (inr (inl refl)))
  leaf_other Block a b c d = refl
  leaf_other EndOfInput a b c d = absurd (a (inr (inr refl)))

pub ruleset leaves = (leaf_plain, leaf_call, leaf_token, leaf_body, leaf_other)
