-- Left corners behind what can be skipped.
use Rattle.std.specs.Prelude.{ℕ, ◌≡◌, ◌⊎◌, true, false}
use Rattle.std.proofs.Math.Path.{refl, ap}
use Rattle.std.proofs.Common.{sym, ◌∙◌, subst, inl, inr}
use Rattle.std.proofs.Math.Logic.{⊎_map}
use mathlib.Core.List.{List, [], ◌∷◌, ◌++◌, map, Memᴰ}
use Rattle.std.proofs.Math.Option.{some}
use Rattle.std.proofs.lemmas.Bool.{false≢true}
use Rattle.grammar.specs.Lists.{AllOf}
use Rattle.grammar.specs.Tree.{ElementHead, Call, epsilon, action, predicate, call, token, terminal, end_of_input, Element, leaf, block}
use Rattle.language.specs.Shape.{Shape, eps, call_of, alts, quantified, erase_leaf, erase_element, erase_block, Shapes, find}
use Rattle.language.specs.Derive.{CanBeEmpty, d_eps}
use Rattle.grammar.specs.Corners.{Corners, rust, textbook}
use Rattle.grammar.specs.Numbers.{optional_greedy}
use Rattle.language.specs.LeftCorners.{is_missing, is_symbol, stops, Skippable, Corner, c_call, c_first, c_later, c_left, c_right}
use Rattle.language.specs.LeftCorners.{Reaches}
use Rattle.language.specs.Laws.Empty.{nothing, call_empty, quantified_empty}
use Rattle.language.specs.Laws.Corner.{corner_quantified, symbol_quantified}
use Rattle.reference.specs.Walks.{sort_of, is_epsilon_only}
use Rattle.reference.specs.Analysis.{Grammar}
use Rattle.laws.specs.Demands.Step.{CornerAt}
use Rattle.laws.specs.Planning.Turns.{Items}
use Rattle.laws.specs.Planning.Substituted.{shape_of, body_of}

module _ (c : Corners) (G : Shapes) where
  -- A left corner, or what one reaches.
  abbrev pub Beyond : Shape → ℕ → Type 0
  Beyond s m = Corner c G s m ⊎ ((n : ℕ) × Corner c G s n × Reaches c G n m)

  stops_quantified : (o : Corners) (q : ℕ) (s : Shape) → stops o G s ≡ false → stops o G (quantified q s) ≡ false
  unfolding stops
  stops_quantified rust q s e = symbol_quantified G q s ∙ e
  stops_quantified textbook q s e = refl

  -- Actions, predicates and epsilons are looked past, and have no left corner.
  module _ {B : Type 0} (erase_b : B → Shape) where
    silent_erased : (e : Element B) → is_epsilon_only e ≡ true → (q : ℕ) × (erase_element erase_b e ≡ quantified q eps)
    unfolding erase_element erase_leaf is_epsilon_only sort_of
    silent_erased (leaf h epsilon) t = (h.quantifier, refl)
    silent_erased (leaf h (action a)) t = (h.quantifier, refl)
    silent_erased (leaf h (predicate p)) t = (h.quantifier, refl)
    silent_erased (leaf h (call c)) t = absurd (false≢true t)
    silent_erased (leaf h (token n)) t = absurd (false≢true t)
    silent_erased (leaf h terminal) t = absurd (false≢true t)
    silent_erased (leaf h end_of_input) t = absurd (false≢true t)
    silent_erased (block h b) t = absurd (false≢true t)

    eps_stops : (o : Corners) → stops o G eps ≡ false
    unfolding stops is_symbol
    eps_stops rust = refl
    eps_stops textbook = refl

    silent_skips : (e : Element B) → is_epsilon_only e ≡ true → Skippable c G (erase_element erase_b e)
    silent_skips e t =
        let (q, p) = silent_erased e t in
        subst (Skippable c G) (sym p) (record {
          empty = (quantified_empty q eps).1 (inr (nothing d_eps));
          goes_on = stops_quantified c q eps (eps_stops c);
        })

    no_eps : {m : ℕ} → Corner c G eps m → ⊥
    no_eps k = elim k [ ]

    silent_none : (e : Element B) → is_epsilon_only e ≡ true → {m : ℕ} → Corner c G (erase_element erase_b e) m → ⊥
    silent_none e t {m} k =
        let (q, p) = silent_erased e t in
        no_eps ((corner_quantified q eps).0 (subst (λ s. Corner c G s m) p k))

  module _ (d : ℕ) where
    pub past_front : (front β : Items d) → AllOf (λ e. is_epsilon_only e ≡ true) front → {m : ℕ} → Corner c G (shape_of d (front ++ β)) m
        → Corner c G (shape_of d β) m
    past_front [] β s k = k
    past_front (e ∷ front) β s (c_first k) = absurd (silent_none (erase_block d) e s.0 k)
    past_front (e ∷ front) β s (c_later o k) = past_front front β s.1 k

    pub behind_front : (front β : Items d) → AllOf (λ e. is_epsilon_only e ≡ true) front → {m : ℕ} → Corner c G (shape_of d β) m
        → Corner c G (shape_of d (front ++ β)) m
    behind_front [] β s k = k
    behind_front (e ∷ front) β s k = c_later (silent_skips (erase_block d) e s.0) (behind_front front β s.1 k)

    -- A left corner of a list of alternatives is one of an alternative.
    pub corner_one : {A : Type 0} (f : A → Items d) (as' : List A) {m : ℕ} → Corner c G (alts (map (λ a. shape_of d (f a)) as')) m
        → (a : A) × Memᴰ a as' × Corner c G (shape_of d (f a)) m
    corner_one f [] k = elim k [ ]
    corner_one f (a ∷ as') (c_left k) = (a, Memᴰ.head refl, k)
    corner_one f (a ∷ as') (c_right k) = let (b, n, j) = corner_one f as' k in (b, Memᴰ.tail n, j)

    pub one_corner : {A : Type 0} (f : A → Items d) {a : A} {as' : List A} → Memᴰ a as' → {m : ℕ} → Corner c G (shape_of d (f a)) m
        → Corner c G (alts (map (λ a. shape_of d (f a)) as')) m
    one_corner f (Memᴰ.head e) {m} k = c_left (subst (λ a. Corner c G (shape_of d (f a)) m) e k)
    one_corner f (Memᴰ.tail n) k = c_right (one_corner f n k)

    pub lists_cut : (ps qs : List (Items d)) {m : ℕ} → Corner c G (body_of d (ps ++ qs)) m
        → Corner c G (body_of d ps) m ⊎ Corner c G (body_of d qs) m
    lists_cut [] qs k = inr k
    lists_cut (p ∷ ps) qs (c_left k) = inl (c_left k)
    lists_cut (p ∷ ps) qs (c_right k) = ⊎_map c_right (λ j. j) (lists_cut ps qs k)

  found_stops : (o : Corners) (n : ℕ) {b : Shape} → find G n ≡ some b → stops o G (call_of n) ≡ false
  unfolding stops is_symbol
  found_stops rust n f = ap is_missing f
  found_stops textbook n f = refl

  module _ {B : Type 0} (erase_b : B → Shape) (k : Call) where
    abbrev erased : ElementHead → Shape
    erased h = erase_element erase_b (leaf h (call k))

    call_erased : (h : ElementHead) → erased h ≡ quantified h.quantifier (call_of k.name)
    unfolding erase_element erase_leaf
    call_erased h = refl

    -- The quantifier of a call does not change its left corner.
    pub call_same : (h h' : ElementHead) {m : ℕ} → Corner c G (erased h) m → Corner c G (erased h') m
    call_same h h' {m} j =
        subst (λ s. Corner c G s m) (sym (call_erased h'))
        ((corner_quantified h'.quantifier (call_of k.name)).1
        ((corner_quantified h.quantifier (call_of k.name)).0 (subst (λ s. Corner c G s m) (call_erased h) j)))

    pub call_corner : (h : ElementHead) {b : Shape} → find G k.name ≡ some b → Corner c G (erased h) k.name
    call_corner h f =
        subst (λ s. Corner c G s k.name) (sym (call_erased h)) ((corner_quantified h.quantifier (call_of k.name)).1 (c_call f))

    pub optional_skips : (h : ElementHead) {b : Shape} → find G k.name ≡ some b → h.quantifier ≡ optional_greedy
        → Skippable c G (erased h)
    optional_skips h f q =
        subst (Skippable c G) (sym (call_erased h ∙ ap (λ q. quantified q (call_of k.name)) q))
        (record {
          empty = (quantified_empty 1 (call_of k.name)).1 (inl refl);
          goes_on = stops_quantified c 1 (call_of k.name) (found_stops c k.name f);
        })

    pub call_skips : (h : ElementHead) {b : Shape} → find G k.name ≡ some b → CanBeEmpty G b → Skippable c G (erased h)
    call_skips h f o =
        subst (Skippable c G) (sym (call_erased h))
        (record {
          empty = (quantified_empty h.quantifier (call_of k.name)).1 (inr ((call_empty k.name).1 (_, f, o)));
          goes_on = stops_quantified c h.quantifier (call_of k.name) (found_stops c k.name f);
        })

  -- The call of a member is a left corner, in any grammar that has the rule called.
  pub at_corner : (d : ℕ) {g : Grammar} {cycle : List ℕ} {es : Items d} {i t : ℕ} (x : CornerAt g cycle es i t) {b : Shape}
      → find G x.site.name ≡ some b
      → Corner c G (shape_of d es) x.site.name
  at_corner d x f =
      subst (λ l. Corner c G (shape_of d l) x.site.name) x.whole
      (behind_front d x.front (leaf x.head (call x.site) ∷ x.rest) x.silent
      (c_first (call_corner (erase_block d) x.site x.head f)))

-- Where all are looked past, all can be empty.
pub all_empty : (c : Corners) (G : Shapes) (ss : List Shape) → AllOf (Skippable c G) ss → AllOf (CanBeEmpty G) ss
all_empty c G [] s = tt
all_empty c G (x ∷ ss) s = (s.0.empty, all_empty c G ss s.1)
