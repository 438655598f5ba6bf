-- What holds of each call of a shape holds of each call that stands in the tree.
use Prim.Native.Nat.{ℕ, zero, suc}
use Rattle.std.specs.Prelude.{◌≡◌}
use Rattle.std.proofs.Math.Path.{refl}
use Rattle.std.proofs.Common.{sym, subst}
use mathlib.Core.List.{List, [], ◌∷◌, map, Memᴰ}
use Rattle.grammar.specs.Tree.{ElementHead, Call, Leaf, epsilon, action, predicate, call, token, terminal, end_of_input, Element, leaf}
use Rattle.grammar.specs.Tree.{block}
use Rattle.grammar.specs.Tree.{AlternativeOf, Block}
use Rattle.language.specs.Shape.{Shape, seqs, alts, quantified, erase_leaf, erase_element, erase_elements, erase_block, EachCall}
use Rattle.language.specs.Laws.Quantifier.{quantified_cases}
use Rattle.language.specs.Laws.Removal.{each_quantified}
use Rattle.laws.specs.Demands.Shape.{Calls, outermost, deeper}

module _ (P : ℕ → Type 0) where
  of_quantified : (q : ℕ) (s : Shape) → EachCall P (quantified q s) → EachCall P s
  of_quantified q s = quantified_cases (λ b t. EachCall P t → EachCall P s) q s (λ p. p) (λ p. p) (λ p. p) (λ p. p)

  in_seqs : {A : Type 0} (f : A → Shape) {a : A} {as' : List A} → Memᴰ a as' → EachCall P (seqs (map f as')) → EachCall P (f a)
  in_seqs f (Memᴰ.head e) p = subst (λ a. EachCall P (f a)) (sym e) p.0
  in_seqs f (Memᴰ.tail m) p = in_seqs f m p.1

  in_alts : {A : Type 0} (f : A → Shape) {a : A} {as' : List A} → Memᴰ a as' → EachCall P (alts (map f as')) → EachCall P (f a)
  in_alts f (Memᴰ.head e) p = subst (λ a. EachCall P (f a)) (sym e) p.0
  in_alts f (Memᴰ.tail m) p = in_alts f m p.1

  derives_call : (k : ℕ) (h : ElementHead) (c : Call) → EachCall P (erase_element (erase_block k) (leaf h (call c))) → P c.name
  unfolding erase_element erase_leaf
  derives_call k h c p = of_quantified h.quantifier _ p

  derives_block : (k : ℕ) (h : ElementHead) (b : Block k) → EachCall P (erase_element (erase_block k) (block h b))
      → EachCall P (erase_block k b)
  unfolding erase_element
  derives_block k h b p = of_quantified h.quantifier _ p

  of_element : (k : ℕ) (as' : List (AlternativeOf (Block k))) {a : AlternativeOf (Block k)} {e : Element (Block k)}
      → Memᴰ a as' → Memᴰ e a.elements → EachCall P (erase_block (suc k) as') → EachCall P (erase_element (erase_block k) e)
  unfolding erase_block
  of_element k as' m n p = in_seqs (erase_element (erase_block k)) n (in_alts (λ a. erase_elements (erase_block k) a.elements) m p)

  pub each_called : (k : ℕ) {as' : List (AlternativeOf (Block k))} {n : ℕ} → EachCall P (erase_block (suc k) as') → Calls k as' n → P n
  each_called k {as'} p (outermost {h = h} {c = c} m n) = derives_call k h c (of_element k as' m n p)
  each_called k {as'} p (deeper {k = j} {h = h} {b = b} m n c) =
      each_called j (derives_block (suc j) h b (of_element (suc j) as' m n p)) c

  -- And the other way round.
  all_alts : {A : Type 0} (f : A → Shape) (as' : List A) → ((a : A) → Memᴰ a as' → EachCall P (f a)) → EachCall P (alts (map f as'))
  all_alts f [] h = tt
  all_alts f (a ∷ as') h = (h a (Memᴰ.head refl), all_alts f as' (λ b m. h b (Memᴰ.tail m)))

  all_seqs : {A : Type 0} (f : A → Shape) (as' : List A) → ((a : A) → Memᴰ a as' → EachCall P (f a)) → EachCall P (seqs (map f as'))
  all_seqs f [] h = tt
  all_seqs f (a ∷ as') h = (h a (Memᴰ.head refl), all_seqs f as' (λ b m. h b (Memᴰ.tail m)))

  leaf_calls : (c : ℕ) (l : Leaf) → ((x : Call) → call x ≡ l → P x.name) → EachCall P (erase_leaf c l)
  unfolding erase_leaf
  leaf_calls c epsilon h = tt
  leaf_calls c (action a) h = tt
  leaf_calls c (predicate p) h = tt
  leaf_calls c (call x) h = h x refl
  leaf_calls c (token n) h = tt
  leaf_calls c terminal h = tt
  leaf_calls c end_of_input h = tt

  abbrev Inside : (k : ℕ) → Block k → ℕ → Type 0
  Inside zero b n = ⊥
  Inside (suc k) b n = Calls k b n

  inside_calls : (k : ℕ) {as' : List (AlternativeOf (Block k))} {a : AlternativeOf (Block k)} {h : ElementHead} {b : Block k} {n : ℕ}
      → Memᴰ a as' → Memᴰ (block h b) a.elements → Inside k b n → Calls k as' n
  inside_calls zero m l x = absurd x
  inside_calls (suc k) m l x = deeper m l x

  block_calls : (k : ℕ) (b : Block k) → ((n : ℕ) → Inside k b n → P n) → EachCall P (erase_block k b)
  unfolding erase_block erase_element
  block_calls zero b f = absurd b
  block_calls (suc k) as' f =
      all_alts (λ a. erase_elements (erase_block k) a.elements) as'
      (λ a m. all_seqs (erase_element (erase_block k)) a.elements (λ e l. element_calls (block_calls k) a m e l))
    where
      element_calls : ((b : Block k) → ((n : ℕ) → Inside k b n → P n) → EachCall P (erase_block k b))
          → (a : AlternativeOf (Block k)) → Memᴰ a as' → (e : Element (Block k)) → Memᴰ e a.elements
          → EachCall P (erase_element (erase_block k) e)
      element_calls ih a m (leaf h l) i =
          each_quantified P h.quantifier (erase_leaf h.carried l)
          (leaf_calls h.carried l
          (λ x e. f x.name (outermost {h = h} m (subst (λ l. Memᴰ (leaf h l) a.elements) (sym e) i))))
      element_calls ih a m (block h b) i =
          each_quantified P h.quantifier (erase_block k b) (ih b (λ n x. f n (inside_calls k m i x)))

  pub called_each : (k : ℕ) (as' : List (AlternativeOf (Block k))) → ((n : ℕ) → Calls k as' n → P n) → EachCall P (erase_block (suc k) as')
  called_each k as' f = block_calls (suc k) as' f
