-- The kind of an element that stands in a sheet, and where a leaf of a kind ends.
use Prim.Native.Nat.{ℕ, ◌+◌, ◌*◌, ◌%◌, ◌≤◌}
use Rattle.std.specs.Prelude.{◌≡◌, List, get_or, ◌⊎◌, true, is_ok, Result, Ok}
use Rattle.std.proofs.Common.{ap, ◌∙◌, arith, inl, inr}
use borrow.Author.Tests.{le-leb}
use Rattle.grammar.specs.Form.{Form, call_words}
use Rattle.grammar.specs.Numbers.{kind_end, end_kind, block_kind}
use Rattle.grammar.specs.Tree.{Leaf, epsilon, action, predicate, call, token, terminal, end_of_input, Element, Block}
use Rattle.grammar.specs.Encode.{leaf_kind}
use Rattle.grammar.specs.Found.{FoundElementIn, HeadAt, LeafEndIn}
use Rattle.grammar.specs.Laws.Opened.{OpenedIn, opened_leaf, opened_block, opened}
use Rattle.grammar.specs.Laws.Found.{head_at_lem, ends_call, ends_token, ends_action, ends_predicate, ends_nothing}
use Rattle.words.specs.declared.numbers.Kind.{Kind}
use Rattle.words.specs.declared.numbers.Kind.TheVariants as kind
use Rattle.words.specs.declared.numbers.Unnamed.{Unnamed}
use Rattle.words.specs.Kinds.{Names, kind_number}
use Rattle.words.specs.Laws.Kinds.{kind_named}

leaf_kind_most : (l : Leaf) → leaf_kind l ≤ end_kind
unfolding leaf_kind
leaf_kind_most epsilon = omega arith
leaf_kind_most (action a) = omega arith
leaf_kind_most (predicate p) = omega arith
leaf_kind_most (call c) = omega arith
leaf_kind_most (token n) = omega arith
leaf_kind_most terminal = omega arith
leaf_kind_most end_of_input = omega arith

module _ (form : Form) (d : ℕ) {ws : List ℕ} {end at : ℕ} (f : FoundElementIn form ws end d at) {w : ℕ} (g : w ≡ get_or ws (at + 2) 0)
    (r : Result Kind Unnamed) (m : Names kind_number (w % kind_end) r) where
  most : w % kind_end ≤ end_kind
  most = go (opened f.tree f.spans)
    where
      go : {e : Element (Block d)} → OpenedIn form ws end d at f.next e → w % kind_end ≤ end_kind
      go (opened_leaf {l = l} p o s) = let x = leaf_kind_most l in let y = o.packed in omega arith
      go (opened_block p o s) = let y = o.packed in omega arith

  -- It is one of the eight.
  pub kind_known : is_ok r ≡ true
  kind_known = kind_named (w % kind_end) r m ∙ le-leb (w % kind_end) end_kind most

  pub kind_head : {k : Kind} → r ≡ Ok k → {n p : ℕ} → n ≡ get_or ws (at + 5) 0 → p ≡ at + 6 + 2 * n
      → HeadAt ws end at (kind_number k) p
  kind_head {k} e i j = let is : kind_number k ≡ w % kind_end = rw e at m in rw is (head_at_lem form d f g i j)

module _ {form : Form} {d : ℕ} {ws : List ℕ} {end at p : ℕ} {k : Kind} (h : HeadAt ws end at (kind_number k) p)
    (no : kind_number k ≡ block_kind → ⊥) (f : FoundElementIn form ws end d at) where
  pub leaf_call : k ≡ kind.Call → {n : ℕ} → n ≡ call_words form → LeafEndIn form ws end d at p (p + n)
  leaf_call e g = rw g (ends_call form d h no f (ap kind_number e))

  pub leaf_token : k ≡ kind.Token → LeafEndIn form ws end d at p (p + 1)
  leaf_token e = ends_token form d h no f (ap kind_number e)

  pub leaf_body : k ≡ kind.Action ⊎ k ≡ kind.Predicate → {n r : ℕ} → n ≡ get_or ws (p + 1) 0 → r ≡ p + 2 + 2 * n
      → LeafEndIn form ws end d at p r
  leaf_body (inl e) g i = ends_action form d h no f (ap kind_number e) g i
  leaf_body (inr e) g i = ends_predicate form d h no f (ap kind_number e) g i

  pub leaf_plain : k ≡ kind.Epsilon ⊎ (k ≡ kind.Terminal ⊎ (k ≡ kind.Block ⊎ k ≡ kind.EndOfInput)) → LeafEndIn form ws end d at p p
  leaf_plain (inl e) = let i = ap kind_number e in ends_nothing form d h no f (λ z. omega arith) (λ z. omega arith) (λ z. omega arith)
      (λ z. omega arith)
  leaf_plain (inr (inl e)) = let i = ap kind_number e in ends_nothing form d h no f (λ z. omega arith) (λ z. omega arith) (λ z. omega arith)
      (λ z. omega arith)
  leaf_plain (inr (inr (inl e))) = absurd (no (ap kind_number e))
  leaf_plain (inr (inr (inr e))) = let i = ap kind_number e in ends_nothing form d h no f (λ z. omega arith) (λ z. omega arith)
      (λ z. omega arith) (λ z. omega arith)

pub ruleset kinds = (kind_known, kind_head, leaf_call, leaf_token, leaf_body, leaf_plain)
