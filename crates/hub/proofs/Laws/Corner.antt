-- The corner of an alternative: what one element more in front decides, and one alternative more.
use Prim.Native.Nat.{ℕ, ◌+◌, ◌-◌, ◌<◌, ◌≤◌}
use mathlib.Core.Path.{◌≡◌, refl, sym, ap₂, ◌∙◌}
use mathlib.Core.List.{List, [], ◌∷◌}
use mathlib.Core.Option.{Option, none, some}
use mathlib.Core.Bool.{Bool, true, false, ◌&&◌, not}
use native.Mathlib.Omega.{arith}
use lib.ListN.{length, get_or}
use Rattle.grammar.specs.Form.{newest}
use Rattle.grammar.specs.Numbers.{call_kind}
use Rattle.grammar.specs.Tree.{ElementHead, Call, Leaf, epsilon, action, predicate, call, token, terminal, end_of_input, Element, leaf, Block}
use Rattle.grammar.specs.Stands.{Spans}
use Rattle.grammar.specs.Encode.{encode_element, encode_block, encode_leaf, leaf_kind, encode_leaf_in}
use Rattle.grammar.specs.Valid.{ok_element, ok_block, ok_leaf}
use Rattle.grammar.specs.Lists.{each, all, member}
use Rattle.grammar.specs.Found.{FoundElement, FoundElements, HeadAt, LeafEnd, ElementSpans}
use Rattle.grammar.specs.Laws.Stands.{stands_head}
use Rattle.grammar.specs.Laws.Complete.{leaf_kind_lem}
use Rattle.grammar.specs.Laws.Opened.{Opened, opened_leaf, opened_block, opened, first_spans, first_found, rest_found}
use Rattle.grammar.specs.Laws.Found.{element_room}
use Rattle.reference.specs.Analysis.{Grammar, target}
use Rattle.reference.specs.Walks.{sort_of, is_one, bare_reference}
use Rattle.reference.specs.Plan.{Corner, bare, outside_cycle, unusable, classify_corner, called_corner, corner_enters_cycle}
use Rattle.reach.specs.Rows.{bit}
use Rattle.analysis.specs.Names.{IsTarget}
use Rattle.std.specs.Prelude as Rust
use Rattle.std.specs.Prelude.{Some, None, MatchOption}
use Rattle.hub.specs.Corner.{Tells, NameSettles, Settles}
use Rattle.hub.specs.declared.cycle.Cycle.{Cycle}

-- A call of a name, by the rule that has it.
pub name_settled : {m : ℕ} (c : Cycle) (t : Rust.Option ℕ) → IsTarget c.names.list.now c.names.n m t → {r : Bool}
    → MatchOption t (r ≡ true) (λ i. r ≡ (not (bit c.members i) && not (bit c.nullable i))) → NameSettles c m r
name_settled {m = m} c None a h = record { by = λ g cycle f. rw (f.unknown m (a.unknown refl)) h }
name_settled {m = m} c (Some i) a h =
    record {
      by = λ g cycle f.
          let b = f.rule m i (a.rule i refl) in
          rw b.is (h ∙ ap₂ (λ u v. not u && not v) b.inside b.empty);
    }

-- A call in front, by its target.
decide : (x y z : Bool)
    → (not x && not y)
    ≡ not
    (elim
    (elim x as (λ b. Corner) [
      | true ↦ elim z as (λ b. Corner) [ true ↦ bare | false ↦ unusable ]
      | false ↦ elim y as (λ b. Corner) [ true ↦ unusable | false ↦ outside_cycle ]
    ]) as (λ b. Bool) [ bare ↦ true | outside_cycle ↦ false | unusable ↦ true ])
decide true y true = refl
decide true y false = refl
decide false true z = refl
decide false false z = refl

call_corner : {B : Type 0} (g : Grammar) (cycle : List ℕ) (h : ElementHead) (a : Call) (es : List (Element B)) (o : Option ℕ)
    → target g a.name ≡ o
    → elim o as (λ x. Bool) [ none ↦ true | some t ↦ not (member t cycle) && not (member t g.nullable) ]
    ≡ not (corner_enters_cycle g cycle (leaf h (call a) ∷ es))
unfolding corner_enters_cycle classify_corner called_corner sort_of
call_corner g cycle h a es none e = rw (e, not, corner_enters_cycle, classify_corner) refl
call_corner g cycle h a es (some t) e =
    rw (e, not, corner_enters_cycle, classify_corner) (decide (member t cycle) (member t g.nullable) (is_one h && bare_reference h a))

module _ (c : Cycle) (ws : List ℕ) (end d : ℕ) where
  -- A loop over n elements, with i left: those decide.
  pub record Seeking (n at i p : ℕ) : Type 0 where
    pub rest : (r : Bool) → Settles c ws end d i p r → Settles c ws end d n at r
    pub found : FoundElements ws end d i p
    pub within : p ≤ end

module _ {c : Cycle} {ws : List ℕ} {end d : ℕ} where
  none_settles : {n at : ℕ} → n ≡ 0 → Settles c ws end d n at true
  unfolding corner_enters_cycle classify_corner
  none_settles {n} {at} z = record { by = λ g cycle t es q s l. go g cycle es (l ∙ z) }
    where
      go : (g : Grammar) (cycle : List ℕ) (es : List (Element (Block d))) → length es ≡ 0 → true ≡ not (corner_enters_cycle g cycle es)
      go g cycle [] l = refl
      go g cycle (e ∷ es) l = absurd (omega arith)

  -- The first element decides.
  first_settles : {n at : ℕ} {r : Bool} → (n ≡ 0 → ⊥)
      → ((g : Grammar) (cycle : List ℕ) → Tells g cycle c → (e : Element (Block d)) (es : List (Element (Block d))) (q : ℕ)
      → ElementSpans ws end d at e q → r ≡ not (corner_enters_cycle g cycle (e ∷ es)))
      → Settles c ws end d n at r
  first_settles {n} {at} {r} z f = record { by = go }
    where
      go : (g : Grammar) (cycle : List ℕ) → Tells g cycle c → (es : List (Element (Block d))) (q : ℕ)
          → Spans ws end (each (encode_element (encode_block d))) (all (ok_element (ok_block d))) at es q → length es ≡ n
          → r ≡ not (corner_enters_cycle g cycle es)
      go g cycle t [] q s l = absurd (z (sym l))
      go g cycle t (e ∷ es) q s l = let u = first_spans s in f g cycle t e es u.0 u.1

  module _ {at k p : ℕ} (head : HeadAt ws end at k p) where
    past_settles : {n : ℕ} → (n ≡ 0 → ⊥) → call_kind < k → Settles c ws end d n at true
    unfolding corner_enters_cycle classify_corner sort_of leaf_kind
    past_settles z l = first_settles z λ g cycle t e es q s. go g cycle es (opened e s)
      where
        symbol : (g : Grammar) (cycle : List ℕ) (es : List (Element (Block d))) (h : ElementHead) (x : Leaf) → call_kind < leaf_kind x
            → true ≡ not (corner_enters_cycle g cycle (leaf h x ∷ es))
        symbol g cycle es h epsilon m = absurd (omega arith)
        symbol g cycle es h (action a) m = absurd (omega arith)
        symbol g cycle es h (predicate a) m = absurd (omega arith)
        symbol g cycle es h (call a) m = absurd (omega arith)
        symbol g cycle es h (token a) m = refl
        symbol g cycle es h terminal m = refl
        symbol g cycle es h end_of_input m = refl

        go : (g : Grammar) (cycle : List ℕ) (es : List (Element (Block d))) {e : Element (Block d)} {q : ℕ} → Opened ws end d at q e
            → true ≡ not (corner_enters_cycle g cycle (e ∷ es))
        go g cycle es (opened_leaf {h = h} {l = x} o w u) =
            symbol g cycle es h x (let y = leaf_kind_lem x in let a = w.packed in let b = head.kind_is in omega arith)
        go g cycle es (opened_block o w u) = refl

    call_settles : {n w : ℕ} {r : Bool} → (n ≡ 0 → ⊥) → k ≡ call_kind → w ≡ get_or ws p 0 → NameSettles c w r
        → Settles c ws end d n at r
    unfolding leaf_kind encode_leaf_in
    call_settles {n} {w} {r} z l e v = first_settles z λ g cycle t x es q s. go g cycle t es (opened x s)
      where
        named : (g : Grammar) (cycle : List ℕ) → Tells g cycle c → (es : List (Element (Block d))) (h : ElementHead) (x : Leaf)
            {q : ℕ} → leaf_kind x ≡ call_kind → Spans ws end encode_leaf ok_leaf p x q → r ≡ not (corner_enters_cycle g cycle (leaf h x ∷ es))
        named g cycle t es h epsilon m u = absurd (omega arith)
        named g cycle t es h (action a) m u = absurd (omega arith)
        named g cycle t es h (predicate a) m u = absurd (omega arith)
        named g cycle t es h (call a) m u =
            let same : w ≡ a.name = e ∙ stands_head u.stands in
            rw same at (v.by g cycle t) ∙ call_corner g cycle h a es (target g a.name) refl
        named g cycle t es h (token a) m u = absurd (omega arith)
        named g cycle t es h terminal m u = absurd (omega arith)
        named g cycle t es h end_of_input m u = absurd (omega arith)

        go : (g : Grammar) (cycle : List ℕ) → Tells g cycle c → (es : List (Element (Block d))) {x : Element (Block d)} {q : ℕ}
            → Opened ws end d at q x → r ≡ not (corner_enters_cycle g cycle (x ∷ es))
        go g cycle t es (opened_leaf {h = h} {l = x} o y u) =
            let same : o ≡ p = let a = y.place in let b = head.payload_is in omega arith in
            let f = leaf_kind_lem x in
            named g cycle t es h x (let a = y.packed in let b = head.kind_is in omega arith) (rw same at u)
        go g cycle t es (opened_block o y u) = absurd (let a = y.packed in let b = head.kind_is in omega arith)

    -- What takes no input leaves it to those behind.
    silent_settles : {n there : ℕ} {r : Bool} → (n ≡ 0 → ⊥) → k < call_kind → LeafEnd ws end d at p there
        → Settles c ws end d (n - 1) there r → Settles c ws end d n at r
    unfolding corner_enters_cycle classify_corner sort_of leaf_kind
    silent_settles {n} {there} {r} z l e v = record { by = go }
      where
        silently : (g : Grammar) (cycle : List ℕ) (es : List (Element (Block d))) {x : Element (Block d)} {q : ℕ} → Opened ws end d at q x
            → not (corner_enters_cycle g cycle es) ≡ not (corner_enters_cycle g cycle (x ∷ es))
        silently g cycle es (opened_leaf {h = h} {l = epsilon} o w u) = refl
        silently g cycle es (opened_leaf {h = h} {l = action a} o w u) = refl
        silently g cycle es (opened_leaf {h = h} {l = predicate a} o w u) = refl
        silently g cycle es (opened_leaf {h = h} {l = call a} o w u) = absurd (let x = w.packed in let y = head.kind_is in omega arith)
        silently g cycle es (opened_leaf {h = h} {l = token a} o w u) = absurd (let x = w.packed in let y = head.kind_is in omega arith)
        silently g cycle es (opened_leaf {h = h} {l = terminal} o w u) = absurd (let x = w.packed in let y = head.kind_is in omega arith)
        silently g cycle es (opened_leaf {h = h} {l = end_of_input} o w u) = absurd (let x = w.packed in let y = head.kind_is in omega arith)
        silently g cycle es (opened_block o w u) = absurd (let x = w.packed in let y = head.kind_is in omega arith)

        go : (g : Grammar) (cycle : List ℕ) → Tells g cycle c → (es : List (Element (Block d))) (q : ℕ)
            → Spans ws end (each (encode_element (encode_block d))) (all (ok_element (ok_block d))) at es q → length es ≡ n
            → r ≡ not (corner_enters_cycle g cycle es)
        go g cycle t [] q s m = absurd (z (sym m))
        go g cycle t (x ∷ es) q s m =
            let u = first_spans s in
            v.by g cycle t es q (rw (e.is x u.0 u.1) u.2) (omega arith) ∙ silently g cycle es (opened x u.1)

  pub seek_all : {n at : ℕ} → FoundElements ws end d n at → at ≤ end → Seeking c ws end d n at n at
  seek_all f l = record { rest = λ r s. s; found = f; within = l }

  -- k elements are done.
  module _ {n at k p : ℕ} (g : Seeking c ws end d n at (n - k) p) where
    pub seek_done : n ≤ k → Settles c ws end d n at true
    seek_done l = g.rest true (none_settles (omega arith))

    module _ (l : k < n) where
      left : n - k ≡ 0 → ⊥
      left z = absurd (omega arith)

      pub seek_found : FoundElement ws end d p
      seek_found = first_found g.found left

      pub seek_room : p + 6 ≤ end
      seek_room = element_room newest d seek_found

      module _ {kind q : ℕ} (head : HeadAt ws end p kind q) where
        pub seek_past : call_kind < kind → Settles c ws end d n at true
        seek_past l = g.rest true (past_settles head left l)

        pub seek_call : {w : ℕ} {r : Bool} → kind ≡ call_kind → w ≡ get_or ws q 0 → NameSettles c w r → Settles c ws end d n at r
        seek_call {r = r} l e v = g.rest r (call_settles head left l e v)

        pub seek_more : {there : ℕ} → kind < call_kind → LeafEnd ws end d p q there
            → Seeking c ws end d n at (n - (k + 1)) there
        seek_more {there} m e =
            let less : n - k - 1 ≡ n - (k + 1) = omega arith in
            rw (← less)
            (record {
              rest = λ r s. g.rest r (silent_settles head left (omega arith) e s);
              found = rest_found g.found left e.is;
              within = e.within;
            })

pub ruleset seeking = (seek_all, seek_done, seek_found, seek_room, seek_past, seek_call, seek_more)
