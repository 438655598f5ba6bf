-- What the walk over calls finds, and which corners are settled outside the cycle.
use Prim.Native.Nat.{ℕ, zero, suc}
use Rattle.std.specs.Prelude.{◌≡◌, ◌⊎◌, Bool, ◌&&◌}
use Rattle.std.proofs.Math.Path.{refl, ap, subst}
use Rattle.std.proofs.Common.{sym, ◌∙◌, ⊎_elim}
use Rattle.std.proofs.Math.Logic.{inl, inr}
use mathlib.Core.List.Memᴰ
use mathlib.Core.List.{List, [], ◌∷◌, ◌++◌, Memᴰ}
use Rattle.std.proofs.Math.Option.{Option, none, some}
use Rattle.std.proofs.Math.Bool.{true, false, true≢false}
use Rattle.grammar.specs.Lists.{each, nothing, member, AllOf}
use Rattle.grammar.specs.Tree.{ElementHead, Call, Leaf, epsilon, action, predicate, call, token, terminal, end_of_input, Element, leaf}
use Rattle.grammar.specs.Tree.{block}
use Rattle.grammar.specs.Tree.{AlternativeOf, Block}
use Rattle.reference.specs.Walks.{sort_of, is_epsilon_only, is_one, bare_reference, element_gives, block_gives}
use Rattle.reference.specs.Analysis.{Grammar, target, calls, collect_calls_into}
use Rattle.reference.specs.Plan.{Corner, bare, outside_cycle, unusable, called_corner, classify_corner, corner_enters_cycle}
use Rattle.laws.specs.Demands.Hub.{CallsName, outermost, in_block, Enters}
use Rattle.graph.specs.Members.{each_in, in_each}

module _ (g : Grammar) where
  -- The calls that the walk collects, and no others.
  module _ (i : ℕ) where
    abbrev Calls : (d : ℕ) → Block d → Type 0
    Calls d b = (n : ℕ) × CallsName n d b × (target g n ≡ some i)

    leaf_called : (l : Leaf) → Memᴰ i (calls g l) → (k : Call) × (l ≡ call k) × (target g k.name ≡ some i)
    unfolding calls sort_of
    leaf_called epsilon m = absurd (Memᴰ.not-nil m)
    leaf_called (action a) m = absurd (Memᴰ.not-nil m)
    leaf_called (predicate p) m = absurd (Memᴰ.not-nil m)
    leaf_called (token n) m = absurd (Memᴰ.not-nil m)
    leaf_called terminal m = absurd (Memᴰ.not-nil m)
    leaf_called end_of_input m = absurd (Memᴰ.not-nil m)
    leaf_called (call k) m = go (target g k.name) refl m
      where
        go : (o : Option ℕ) → target g k.name ≡ o → Memᴰ i (elim o as (λ x. List ℕ) [ none ↦ [] | some t ↦ t ∷ [] ])
            → (c : Call) × (call k ≡ call c) × (target g c.name ≡ some i)
        go none e m = absurd (Memᴰ.not-nil m)
        go (some t) e m = (k, refl, e ∙ ap some (sym (Memᴰ.eq_of_singleton m)))

    called_leaf : (k : Call) → target g k.name ≡ some i → Memᴰ i (calls g (call k))
    unfolding calls sort_of
    called_leaf k e = rw (e, calls) (Memᴰ.head refl)

    pub walk_calls : (d : ℕ) (b : Block d) → Memᴰ i (collect_calls_into g d b) → Calls d b
    unfolding collect_calls_into block_gives element_gives
    walk_calls zero b m = absurd b
    walk_calls (suc d) as' m =
        let (a, in-as, k) = each_in (λ a. each (element_gives nothing (calls g) (block_gives nothing (calls g) d)) a.elements) as' m in
        let (e, in-es, l) = each_in (element_gives nothing (calls g) (block_gives nothing (calls g) d)) a.elements k in
        go a in-as e in-es l (walk_calls d)
      where
        go : (a : AlternativeOf (Block d)) → Memᴰ a as' → (e : Element (Block d)) → Memᴰ e a.elements
            → Memᴰ i (element_gives nothing (calls g) (block_gives nothing (calls g) d) e)
            → ((b : Block d) → Memᴰ i (collect_calls_into g d b) → Calls d b)
            → Calls (suc d) as'
        go a x (leaf h l) y m ih =
            let (k, same, e) = leaf_called l m in
            (k.name, outermost x (subst (λ l. Memᴰ (leaf h l) a.elements) same y) refl, e)
        go a x (block h b) y m ih = let (n, c, e) = ih b m in (n, in_block x y c, e)

    pub calls_walk : (n : ℕ) → target g n ≡ some i → {d : ℕ} {b : Block d} → CallsName n d b → Memᴰ i (collect_calls_into g d b)
    unfolding collect_calls_into block_gives element_gives
    calls_walk n e (outermost {d = d} {k = k} x y same) =
        in_each (λ a. each (element_gives nothing (calls g) (block_gives nothing (calls g) d)) a.elements) x
        (in_each (element_gives nothing (calls g) (block_gives nothing (calls g) d)) y (called_leaf k (ap (target g) same ∙ e)))
    calls_walk n e (in_block {d = d} x y c) =
        in_each (λ a. each (element_gives nothing (calls g) (block_gives nothing (calls g) d)) a.elements) x
        (in_each (element_gives nothing (calls g) (block_gives nothing (calls g) d)) y (calls_walk n e c))

  module _ (cycle : List ℕ) where
    abbrev says : Corner → Bool
    says c = elim c [ bare ↦ true | outside_cycle ↦ false | unusable ↦ true ]

    called_says : (h : ElementHead) (k : Call) (t : ℕ) → says (called_corner g cycle h k t) ≡ true
        → (member t cycle ≡ true) ⊎ (member t g.nullable ≡ true)
    unfolding called_corner
    called_says h k t e = go (member t cycle) refl (member t g.nullable) refl e
      where
        go : (a : Bool) → member t cycle ≡ a → (b : Bool) → member t g.nullable ≡ b
            → says (elim a as (λ x. Corner) [
              | true ↦ elim (is_one h && bare_reference h k) [ true ↦ bare | false ↦ unusable ]
              | false ↦ elim b as (λ x. Corner) [ true ↦ unusable | false ↦ outside_cycle ]
            ]) ≡ true
            → (member t cycle ≡ true) ⊎ (member t g.nullable ≡ true)
        go true p b q e = inl p
        go false p true q e = inr q
        go false p false q e = absurd (true≢false (sym e))

    says_called : (h : ElementHead) (k : Call) (t : ℕ) → (member t cycle ≡ true) ⊎ (member t g.nullable ≡ true)
        → says (called_corner g cycle h k t) ≡ true
    unfolding called_corner
    says_called h k t e = go (member t cycle) refl (member t g.nullable) refl (is_one h && bare_reference h k)
      where
        go : (a : Bool) → member t cycle ≡ a → (b : Bool) → member t g.nullable ≡ b → (c : Bool)
            → says (elim a as (λ x. Corner) [
              | true ↦ elim c as (λ x. Corner) [ true ↦ bare | false ↦ unusable ]
              | false ↦ elim b as (λ x. Corner) [ true ↦ unusable | false ↦ outside_cycle ]
            ]) ≡ true
        go true p b q true = refl
        go true p b q false = refl
        go false p true q c = refl
        go false p false q c = absurd (⊎_elim (λ u. true≢false (sym u ∙ p)) (λ u. true≢false (sym u ∙ q)) e)

    module _ {B : Type 0} where
      -- One silent element more in front.
      enters_behind : (e : Element B) (es : List (Element B)) → is_epsilon_only e ≡ true → Enters g cycle es → Enters g cycle (e ∷ es)
      enters_behind e es s x =
          record {
            front = e ∷ x.front;
            head = x.head;
            site = x.site;
            rest = x.rest;
            whole = ap (λ l. e ∷ l) x.whole;
            silent = (s, x.silent);
            rule = x.rule;
            known = x.known;
            inside = x.inside;
          }

      pub enters : (es : List (Element B)) → corner_enters_cycle g cycle es ≡ true → Enters g cycle es
      unfolding corner_enters_cycle classify_corner is_epsilon_only sort_of
      enters [] e = absurd (true≢false (sym e))
      enters (block h b ∷ es) e = absurd (true≢false (sym e))
      enters (leaf h epsilon ∷ es) e = enters_behind (leaf h epsilon) es refl (enters es e)
      enters (leaf h (action a) ∷ es) e = enters_behind (leaf h (action a)) es refl (enters es e)
      enters (leaf h (predicate p) ∷ es) e = enters_behind (leaf h (predicate p)) es refl (enters es e)
      enters (leaf h (token n) ∷ es) e = absurd (true≢false (sym e))
      enters (leaf h terminal ∷ es) e = absurd (true≢false (sym e))
      enters (leaf h end_of_input ∷ es) e = absurd (true≢false (sym e))
      enters (leaf h (call k) ∷ es) e = go (target g k.name) refl e
        where
          go : (o : Option ℕ) → target g k.name ≡ o
              → says (elim o as (λ x. Corner) [ none ↦ outside_cycle | some t ↦ called_corner g cycle h k t ]) ≡ true
              → Enters g cycle (leaf h (call k) ∷ es)
          go none p e = absurd (true≢false (sym e))
          go (some t) p e =
              record {
                front = [];
                head = h;
                site = k;
                rest = es;
                whole = refl;
                silent = tt;
                rule = t;
                known = p;
                inside = called_says h k t e;
              }

      -- The other way round.
      entered_front : (h : ElementHead) (k : Call) (rest : List (Element B)) (t : ℕ) → target g k.name ≡ some t
          → (member t cycle ≡ true) ⊎ (member t g.nullable ≡ true) → (front : List (Element B))
          → AllOf (λ e. is_epsilon_only e ≡ true) front
          → corner_enters_cycle g cycle (front ++ (leaf h (call k) ∷ rest)) ≡ true
      unfolding corner_enters_cycle classify_corner is_epsilon_only sort_of
      entered_front h k rest t e w [] s =
          subst (λ o. says (elim o as (λ x. Corner) [ none ↦ outside_cycle | some t ↦ called_corner g cycle h k t ]) ≡ true) (sym e)
          (says_called h k t w)
      entered_front h k rest t e w (block x b ∷ front) s = absurd (true≢false (sym s.0))
      entered_front h k rest t e w (leaf x epsilon ∷ front) s = entered_front h k rest t e w front s.1
      entered_front h k rest t e w (leaf x (action a) ∷ front) s = entered_front h k rest t e w front s.1
      entered_front h k rest t e w (leaf x (predicate p) ∷ front) s = entered_front h k rest t e w front s.1
      entered_front h k rest t e w (leaf x (token n) ∷ front) s = absurd (true≢false (sym s.0))
      entered_front h k rest t e w (leaf x terminal ∷ front) s = absurd (true≢false (sym s.0))
      entered_front h k rest t e w (leaf x end_of_input ∷ front) s = absurd (true≢false (sym s.0))
      entered_front h k rest t e w (leaf x (call c) ∷ front) s = absurd (true≢false (sym s.0))

      pub entered : (es : List (Element B)) → Enters g cycle es → corner_enters_cycle g cycle es ≡ true
      entered es x =
          subst (λ l. corner_enters_cycle g cycle l ≡ true) x.whole
          (entered_front x.head x.site x.rest x.rule x.known x.inside x.front x.silent)
