-- The calls that a walk collects are those that a shape has; what no plan calls stays uncalled.
use Prim.Native.Nat.{ℕ, zero, suc}
use Rattle.std.specs.Prelude.{◌≡◌, refl}
use Rattle.std.proofs.Common.{sym, subst}
use mathlib.Core.List.Memᴰ
use mathlib.Core.List.{List, [], ◌∷◌, ◌++◌, map, Memᴰ}
use Rattle.std.proofs.Math.Option.{some}
use Rattle.grammar.specs.Tree.{ElementHead, Call, Leaf, epsilon, action, predicate, call, token, terminal, end_of_input, Element, leaf}
use Rattle.grammar.specs.Tree.{block}
use Rattle.grammar.specs.Tree.{AlternativeOf, Block, RuleOf}
use Rattle.grammar.specs.Lists.{each, nothing}
use Rattle.language.specs.Shape.{Shape, eps, fail, symbol, call_of, seq, alt, opt, star, plus, quantified, erase_leaf, erase_element}
use Rattle.language.specs.Shape.{erase_block, EachCall}
use Rattle.language.specs.Laws.Quantifier.{quantified_cases}
use Rattle.language.specs.Laws.Removal.{each_quantified}
use Rattle.reference.specs.Walks.{sort_of, element_gives, block_gives, elements_give}
use Rattle.reference.specs.Analysis.{Grammar, target, calls, collect_calls_in_elements, collect_calls_into}
use Rattle.reference.specs.Substitute.{plain_head}
use Rattle.laws.specs.Planning.Turns.{Items, Turn, split, splice, Moved, here, later, Moves, still, onward}
use Rattle.laws.specs.Planning.Substituted.{shape_of, body_of}

pub each_call_map : {P Q : ℕ → Type 0} → ((n : ℕ) → P n → Q n) → (s : Shape) → EachCall P s → EachCall Q s
each_call_map f eps p = tt
each_call_map f fail p = tt
each_call_map f (symbol a) p = tt
each_call_map f (call_of n) p = f n p
each_call_map f (seq s t) p = (each_call_map f s p.0, each_call_map f t p.1)
each_call_map f (alt s t) p = (each_call_map f s p.0, each_call_map f t p.1)
each_call_map f (opt s) p = each_call_map f s p
each_call_map f (star s) p = each_call_map f s p
each_call_map f (plus s) p = each_call_map f s p

module _ (g : Grammar) (xs : List ℕ) where
  -- The rule that is called, if it is known, is in the list.
  abbrev pub CallsIn : ℕ → Type 0
  CallsIn n = (t : ℕ) → target g n ≡ some t → Memᴰ t xs

  leaf_calls : (k : ℕ) (l : Leaf) → ((t : ℕ) → Memᴰ t (calls g l) → Memᴰ t xs) → EachCall CallsIn (erase_leaf k l)
  unfolding erase_leaf calls sort_of
  leaf_calls k epsilon h = tt
  leaf_calls k (action a) h = tt
  leaf_calls k (predicate p) h = tt
  leaf_calls k (call c) h = λ t e. h t (rw (e, calls) (Memᴰ.head refl))
  leaf_calls k (token n) h = tt
  leaf_calls k terminal h = tt
  leaf_calls k end_of_input h = tt

  module _ (d : ℕ) (block_calls : (b : Block d) → ((t : ℕ) → Memᴰ t (collect_calls_into g d b) → Memᴰ t xs)
      → EachCall CallsIn (erase_block d b)) where
    element_calls : (e : Element (Block d)) →
        ((t : ℕ) → Memᴰ t (element_gives nothing (calls g) (block_gives nothing (calls g) d) e) → Memᴰ t xs)
        → EachCall CallsIn (erase_element (erase_block d) e)
    unfolding erase_element element_gives collect_calls_into
    element_calls (leaf h l) f = each_quantified CallsIn h.quantifier (erase_leaf h.carried l) (leaf_calls h.carried l f)
    element_calls (block h b) f = each_quantified CallsIn h.quantifier (erase_block d b) (block_calls b f)

    elements_calls : (es : Items d) →
        ((t : ℕ) → Memᴰ t (each (element_gives nothing (calls g) (block_gives nothing (calls g) d)) es) → Memᴰ t xs)
        → EachCall CallsIn (shape_of d es)
    elements_calls [] f = tt
    elements_calls (e ∷ es) f = (
      element_calls e (λ t m. f t (Memᴰ.append_left (each (element_gives nothing (calls g) (block_gives nothing (calls g) d)) es) m)),
      elements_calls es (λ t m. f t (Memᴰ.append_right (element_gives nothing (calls g) (block_gives nothing (calls g) d) e) m)),
    )

  pub block_calls : (d : ℕ) (b : Block d) → ((t : ℕ) → Memᴰ t (collect_calls_into g d b) → Memᴰ t xs)
      → EachCall CallsIn (erase_block d b)
  unfolding collect_calls_into block_gives erase_block
  block_calls zero b f = absurd b
  block_calls (suc d) [] f = tt
  block_calls (suc d) (a ∷ as') f = (
    elements_calls d (block_calls d) a.elements (λ t m. f t (Memᴰ.append_left (block_gives nothing (calls g) (suc d) as') m)),
    block_calls (suc d) as' (λ t m. f t
        (Memᴰ.append_right (each (element_gives nothing (calls g) (block_gives nothing (calls g) d)) a.elements) m)),
  )

  -- Of the alternatives of a planned list.
  pub items_calls : (d : ℕ) (ps : List (Items d)) → ((t : ℕ) → Memᴰ t (each (collect_calls_in_elements g d) ps) → Memᴰ t xs)
      → EachCall CallsIn (body_of d ps)
  unfolding collect_calls_in_elements elements_give
  items_calls d [] f = tt
  items_calls d (es ∷ ps) f = (
    elements_calls d (block_calls d) es (λ t m. f t (Memᴰ.append_left (each (collect_calls_in_elements g d) ps) m)),
    items_calls d ps (λ t m. f t (Memᴰ.append_right (collect_calls_in_elements g d es) m)),
  )

-- What each rule's body calls has a property: then so has what a planned list calls.
module _ (P : ℕ → Type 0) where
  pub unquantified : (q : ℕ) (s : Shape) → EachCall P (quantified q s) → EachCall P s
  unquantified q s = quantified_cases (λ o t. EachCall P t → EachCall P s) q s (λ p. p) (λ p. p) (λ p. p) (λ p. p)

  module _ (d : ℕ) where
    each_cut : (α β : Items d) → EachCall P (shape_of d (α ++ β)) → EachCall P (shape_of d α) × EachCall P (shape_of d β)
    each_cut [] β p = (tt, p)
    each_cut (e ∷ α) β p = let r = each_cut α β p.1 in ((p.0, r.0), r.1)

    each_join : (α β : Items d) → EachCall P (shape_of d α) → EachCall P (shape_of d β) → EachCall P (shape_of d (α ++ β))
    each_join [] β p q = q
    each_join (e ∷ α) β p q = (p.0, each_join α β p.1 q)

    each_lists : (ps qs : List (Items d)) → EachCall P (body_of d ps) → EachCall P (body_of d qs) → EachCall P (body_of d (ps ++ qs))
    each_lists [] qs p q = q
    each_lists (e ∷ ps) qs p q = (p.0, each_lists ps qs p.1 q)

    each_plain : (h : ElementHead) (c : Call) → EachCall P (erase_element (erase_block d) (leaf h (call c)))
        → EachCall P (erase_element (erase_block d) (leaf (plain_head h) (call c)))
    unfolding erase_element
    each_plain h c p =
        each_quantified P 0 (erase_leaf h.carried (call c)) (unquantified h.quantifier (erase_leaf h.carried (call c)) p)

    each_spliced : (α β : Items d) (as' : List (AlternativeOf (Block d))) → EachCall P (shape_of d α) → EachCall P (shape_of d β)
        → EachCall P (erase_block (suc d) as')
        → EachCall P (body_of d (map (λ s. α ++ (s.elements ++ β)) as'))
    unfolding erase_block
    each_spliced α β [] p q r = tt
    each_spliced α β (a ∷ as') p q r =
        (each_join α (a.elements ++ β) p (each_join a.elements β r.0 q), each_spliced α β as' p q r.1)

  module _ {d : ℕ} {rs : List (RuleOf (Block (suc d)))}
      (h : (r : RuleOf (Block (suc d))) → Memᴰ r rs → EachCall P (erase_block (suc d) r.body))
      {g : Grammar} {cycle : List ℕ} {hub : ℕ} where
    turn_calls : {es : Items d} {news : List (Items d)} → Turn d rs g cycle hub es news → EachCall P (shape_of d es)
        → EachCall P (body_of d news)
    turn_calls (split x q) p =
        let c =
        each_cut d x.front (leaf x.head (call x.site) ∷ x.rest) (subst (λ l. EachCall P (shape_of d l)) (sym x.whole) p) in
        let y = leaf (plain_head x.head) (call x.site) in (
          each_join d x.front (y ∷ x.rest) c.0 (each_plain d x.head x.site c.1.0, c.1.1),
          (each_join d x.front x.rest c.0 c.1.1, tt),
        )
    turn_calls (splice x q ne r m e) p =
        let c =
        each_cut d x.front (leaf x.head (call x.site) ∷ x.rest) (subst (λ l. EachCall P (shape_of d l)) (sym x.whole) p) in
        each_spliced d x.front x.rest r.body c.0 c.1.1 (h r m)

    moved_calls : {ps qs : List (Items d)} → Moved d rs g cycle hub ps qs → EachCall P (body_of d ps) → EachCall P (body_of d qs)
    moved_calls (here {news = news} {rest = rest} t) p = each_lists d news rest (turn_calls t p.0) p.1
    moved_calls (later x) p = (p.0, moved_calls x p.1)

    pub moves_calls : {ps qs : List (Items d)} {n : ℕ} → Moves d rs g cycle hub ps n qs → EachCall P (body_of d ps)
        → EachCall P (body_of d qs)
    moves_calls still p = p
    moves_calls (onward x y) p = moves_calls y (moved_calls x p)
