-- The corner of a planned alternative: what one element decides, and one element more.
use Prim.Native.Nat.{ℕ, ◌+◌, ◌/◌, ◌<◌, ◌≤◌}
use mathlib.Core.Path.{◌≡◌, refl, sym, ap, ◌∙◌}
use mathlib.Core.List.{List, [], ◌∷◌}
use mathlib.Core.Option.{Option, none, some}
use mathlib.Core.Bool.{Bool, true, false, ◌&&◌}
use native.Mathlib.Omega.{arith}
use lib.ListN.{length, get_or}
use lib.Dec.{eqb, leb, eqb-suc-zero}
use borrow.Author.Tests.{eqb-true, eqb-false, ne_eqb, leb-true, le-leb}
use Rattle.grammar.specs.Numbers.{rule_limit, once, optional_greedy, one_or_more_nongreedy, call_kind, kind_end}
use Rattle.grammar.specs.Tree.{Label, unlabelled, labelled, OptionDecl, ElementHead, Call, Leaf, epsilon, action, predicate, call, token}
use Rattle.grammar.specs.Tree.{terminal, end_of_input, Element, leaf, Block}
use Rattle.grammar.specs.Stands.{Spans}
use Rattle.grammar.specs.Encode.{encode_leaf, leaf_kind, label_name, encode_leaf_in}
use Rattle.grammar.specs.Valid.{ok_leaf, ok_head, ok_label}
use Rattle.grammar.specs.Lists.{member, is_empty}
use Rattle.grammar.specs.Found.{FoundElement, HeadAt}
use Rattle.grammar.specs.Laws.Stands.{stands_head}
use Rattle.grammar.specs.Laws.Parse.{either}
use Rattle.grammar.specs.Laws.Complete.{leaf_kind_lem}
use Rattle.grammar.specs.Laws.Opened.{HeadWords, Opened, opened_leaf, opened_block, opened, call_stands}
use Rattle.reference.specs.Analysis.{Grammar, target}
use Rattle.reference.specs.Walks.{sort_of, is_one, bare_reference}
use Rattle.reference.specs.Substitute.{PlannedCorner, optional, satellite, blocked, settled, further, member_corner, planned_corner, plain}
use Rattle.reference.specs.Substitute.{plain_head}
use Rattle.reach.specs.Rows.{bit}
use Rattle.analysis.specs.Names.{IsTarget}
use Rattle.std.specs.Prelude as P
use Rattle.std.specs.Prelude.{is_ok, Result}
use Rattle.std.specs.Cmp.{first_so, second_so}
use Rattle.words.specs.Kinds.{Names, quantifier_number}
use Rattle.words.specs.Laws.Kinds.{quantifier_named}
use Rattle.words.specs.declared.numbers.Quantifier.{Quantifier}
use Rattle.words.specs.declared.numbers.Unnamed.{Unnamed}
use Rattle.planned.specs.Layout.{made_if}
use Rattle.steps.specs.Corner.{CycleBy, bare_at, quantifier_at, met_corner_by, met_corner, MetIn, met_by, met_member, CallMet, ItemMet}
use Rattle.steps.specs.declared.cycle.Cycle.{Cycle}
use Rattle.steps.specs.declared.corner.Place.{Place}
use Rattle.steps.specs.declared.corner.Corner.{Corner}
use Rattle.steps.specs.declared.corner.Corner.TheVariants.{Settled}

-- The definition by the same tests.
abbrev corner_to : (is_optional bare is_once of_hub : Bool) → ℕ → PlannedCorner
corner_to a x b y n =
    elim (a && x) as (λ z. PlannedCorner) [
      | true ↦ optional 0 n
      | false ↦
          elim (y && b) as (λ z. PlannedCorner) [
            | true ↦ settled
            | false ↦ elim (b && x) as (λ z. PlannedCorner) [ true ↦ satellite 0 n | false ↦ blocked ]
          ]
    ]

member_tests : (i : ℕ) (h : ElementHead) (c : Call) (n : ℕ)
    → member_corner i h c n ≡ corner_to (eqb h.quantifier optional_greedy) (bare_reference h c) (is_one h) (eqb n i) n
unfolding member_corner
member_tests i h c n = refl

same_tests : (ids : List ℕ) (p : Place) (a x b y : Bool) → (a ≡ true → b ≡ true → ⊥)
    → corner_to a x b y (get_or ids p.target 0) ≡ met_corner_by ids (met_by a x b y p)
same_tests ids p true x true y f = absurd (f refl refl)
same_tests ids p true true false y f = refl
same_tests ids p true false false true f = refl
same_tests ids p true false false false f = refl
same_tests ids p false x false true f = refl
same_tests ids p false x false false f = refl
same_tests ids p false x true true f = refl
same_tests ids p false true true false f = refl
same_tests ids p false false true false f = refl

module _ (c : Cycle) (p : Place) (l : p.target < c.names.n) (m : bit c.members p.target ≡ true) where
  met_by_lem : (a x b y : Bool) → eqb p.target c.hub ≡ y → MetIn c p.index (met_by a x b y p)
  met_by_lem true true b y h = (refl, l, m)
  met_by_lem true false b y h = tt
  met_by_lem false x false y h = tt
  met_by_lem false x true true h = tt
  met_by_lem false true true false h = (refl, l, m, eqb-false p.target c.hub h)
  met_by_lem false false true false h = tt

  met_in : (bare : Bool) (q : ℕ) → MetIn c p.index (met_member bare q p c.hub)
  met_in bare q = met_by_lem (eqb q optional_greedy) bare (eqb q once) (eqb p.target c.hub) refl

-- A call of a name.
module _ {names : List ℕ} {name : ℕ} {r : P.Option ℕ} (c : Cycle) (a : IsTarget names c.names.n name r) (i : ℕ) (bare : Bool) (q : ℕ) where
  corner_of : (g : Grammar) (cycle : List ℕ) (hub : ℕ) (d : ℕ) (h : ElementHead) (k : Call) (es : List (Element (Block d))) (o : Option ℕ)
      → target g k.name ≡ o
      → planned_corner g cycle hub (leaf h (call k) ∷ es)
      ≡ elim o as (λ z. PlannedCorner) [
        | none ↦ settled
        | some t ↦ elim (member t cycle) as (λ z. PlannedCorner) [ true ↦ member_corner hub h k t | false ↦ settled ]
      ]
  unfolding planned_corner sort_of
  corner_of g cycle hub d h k es o e = rw (planned_corner, e) refl

  pub call_unknown : r ≡ P.None → CallMet names c i name bare q Settled
  call_unknown e =
      record {
        is = λ g cycle ids b d h k n u v es.
            corner_of g cycle (get_or ids c.hub 0) d h k es none (ap (target g) n ∙ b.unknown name (a.unknown e));
        member = tt;
      }

  module _ {t : ℕ} (e : r ≡ P.Some t) where
    pub call_outside : {x : Bool} → x ≡ bit c.members t → x ≡ false → CallMet names c i name bare q Settled
    call_outside f x =
        let w = a.rule t e in
        record {
          is = λ g cycle ids b d h k n u v es.
              corner_of g cycle (get_or ids c.hub 0) d h k es (some (get_or ids t 0)) (ap (target g) n ∙ b.known name t w)
              ∙ rw (b.members t w.below ∙ sym f ∙ x) refl;
          member = tt;
        }

    pub call_member : {x : Bool} {m : Corner} → x ≡ bit c.members t → x ≡ true
        → m ≡ met_member bare q (record { index = i; target = t }) c.hub → CallMet names c i name bare q m
    call_member {m = m} f x y =
        let w = a.rule t e in
        record {
          is = λ g cycle ids b d h k n u v es.
              corner_of g cycle (get_or ids c.hub 0) d h k es (some (get_or ids t 0)) (ap (target g) n ∙ b.known name t w)
              ∙ rw (b.members t w.below ∙ sym f ∙ x) (meant g cycle ids b d h k u v es w.below);
          member = rw y (met_in c (record { index = i; target = t }) w.below (sym f ∙ x) bare q);
        }
      where
        meant : (g : Grammar) (cycle ids : List ℕ) → CycleBy g cycle ids names c → (d : ℕ) (h : ElementHead) (k : Call) → h.quantifier ≡ q
            → bare_reference h k ≡ bare → (es : List (Element (Block d))) → t < c.names.n
            → member_corner (get_or ids c.hub 0) h k (get_or ids t 0)
            ≡ met_corner_by ids m
        meant g cycle ids b d h k u v es l =
            let same : met_member (bare_reference h k) h.quantifier (record { index = i; target = t }) c.hub ≡ m = rw (v, u) (sym y) in
            member_tests (get_or ids c.hub 0) h k (get_or ids t 0)
            ∙ rw (b.hub t l)
            (same_tests ids (record { index = i; target = t }) (eqb h.quantifier optional_greedy) (bare_reference h k)
            (is_one h) (eqb t c.hub) (λ o j. let z = eqb-true h.quantifier 1 o in let w = eqb-true h.quantifier 0 j in absurd (omega arith)))
            ∙ ap (met_corner_by ids) same

pub target_low : {names : List ℕ} {n m : ℕ} {r : P.Option ℕ} → IsTarget names n m r → {i : ℕ} → r ≡ P.Some i → n ≤ rule_limit → i < rule_limit
target_low a {i} e l = let b = (a.rule i e).below in omega arith

pub ruleset calls = (call_unknown, call_outside, call_member, target_low)

-- The quantifier of an element that stands in a sheet is one of the seven.
module _ (d : ℕ) {ws : List ℕ} {end at : ℕ} (f : FoundElement ws end d at) {w : ℕ} (g : w ≡ get_or ws (at + 2) 0)
    (r : Result Quantifier Unnamed) (m : Names quantifier_number (w / kind_end) r) where
  most : w / kind_end ≤ one_or_more_nongreedy
  unfolding ok_head
  most = go (opened f.tree f.spans)
    where
      go : {e : Element (Block d)} → Opened ws end d at f.next e → w / kind_end ≤ one_or_more_nongreedy
      go (opened_leaf {h = h} {l = l} p o s) =
          let x = (leaf_kind_lem l).under in
          let y = o.packed in
          let z = leb-true h.quantifier one_or_more_nongreedy (first_so (leb h.quantifier one_or_more_nongreedy) _ o.fine) in
          omega arith
      go (opened_block {h = h} p o s) =
          let y = o.packed in
          let z = leb-true h.quantifier one_or_more_nongreedy (first_so (leb h.quantifier one_or_more_nongreedy) _ o.fine) in
          omega arith

  pub quantifier_known : is_ok r ≡ true
  quantifier_known = quantifier_named (w / kind_end) r m ∙ le-leb (w / kind_end) one_or_more_nongreedy most

-- The words of a call say whether it is bare.
module _ {ws : List ℕ} {end at p q kind : ℕ} {h : ElementHead} (w : HeadWords ws end at h kind p) (k : Call)
    (u : Spans ws end encode_leaf ok_leaf p (call k) q) where
  bare_is : bare_reference h k ≡ bare_at ws at p
  unfolding bare_reference ok_head ok_label
  bare_is = rw (w.named, (call_stands k u.stands).arguments_are, w.counted)
      (go h.label h.options (first_so (ok_label h.label) _ (second_so (leb h.quantifier 6) _ w.fine)))
    where
      go : (l : Label) (os : List OptionDecl) → ok_label l ≡ true
          → elim l as (λ z. Bool) [ unlabelled ↦ eqb k.arguments 0 && is_empty os | labelled i n ↦ false ]
          ≡ (eqb (label_name l) 0 && (eqb k.arguments 0 && eqb (length os) 0))
      go unlabelled [] o = refl
      go unlabelled (x ∷ os) o = rw (eqb-suc-zero (length os)) refl
      go (labelled i n) os o = rw (ne_eqb n 0 (λ z. let y = leb-true 1 n (first_so (leb 1 n) _ o) in omega arith)) refl

-- One element of the list.
module _ {names : List ℕ} {c : Cycle} {ws : List ℕ} {end index at k p : ℕ} (d : ℕ) (made : Bool) (head : HeadAt ws end at k p) where
  pub item_past : call_kind < k → ItemMet names c ws end d index at made (P.Some Settled)
  unfolding planned_corner sort_of leaf_kind plain
  item_past l = record { is = λ g cycle ids b e q s es. go g cycle ids es made (opened e s); member = tt }
    where
      symbol : (g : Grammar) (cycle ids : List ℕ) (es : List (Element (Block d))) (h : ElementHead) (x : Leaf) → call_kind < leaf_kind x
          → planned_corner g cycle (get_or ids c.hub 0) (leaf h x ∷ es) ≡ settled
      symbol g cycle ids es h epsilon m = absurd (omega arith)
      symbol g cycle ids es h (action a) m = absurd (omega arith)
      symbol g cycle ids es h (predicate a) m = absurd (omega arith)
      symbol g cycle ids es h (call a) m = absurd (omega arith)
      symbol g cycle ids es h (token a) m = refl
      symbol g cycle ids es h terminal m = refl
      symbol g cycle ids es h end_of_input m = refl

      go : (g : Grammar) (cycle ids : List ℕ) (es : List (Element (Block d))) (b : Bool) {e : Element (Block d)} {q : ℕ} → Opened ws end d at q e
          → planned_corner g cycle (get_or ids c.hub 0) (made_if b e ∷ es) ≡ settled
      go g cycle ids es b (opened_leaf {h = h} {l = x} o w u) =
          let m : call_kind < leaf_kind x = let y = leaf_kind_lem x in let a = w.packed in let z = head.kind_is in omega arith in
          either b (λ t. rw t (symbol g cycle ids es _ x m)) (λ t. rw t (symbol g cycle ids es h x m))
      go g cycle ids es true (opened_block o w u) = refl
      go g cycle ids es false (opened_block o w u) = refl

  pub item_silent : k < call_kind → ItemMet names c ws end d index at made P.None
  unfolding planned_corner sort_of leaf_kind plain
  item_silent l = record { is = λ g cycle ids b e q s es. go g cycle ids es made (opened e s); member = tt }
    where
      silent : (g : Grammar) (cycle ids : List ℕ) (es : List (Element (Block d))) (h : ElementHead) (x : Leaf) → leaf_kind x < call_kind
          → planned_corner g cycle (get_or ids c.hub 0) (leaf h x ∷ es) ≡ further (planned_corner g cycle (get_or ids c.hub 0) es)
      silent g cycle ids es h epsilon m = refl
      silent g cycle ids es h (action a) m = refl
      silent g cycle ids es h (predicate a) m = refl
      silent g cycle ids es h (call a) m = absurd (omega arith)
      silent g cycle ids es h (token a) m = absurd (omega arith)
      silent g cycle ids es h terminal m = absurd (omega arith)
      silent g cycle ids es h end_of_input m = absurd (omega arith)

      go : (g : Grammar) (cycle ids : List ℕ) (es : List (Element (Block d))) (b : Bool) {e : Element (Block d)} {q : ℕ} → Opened ws end d at q e
          → planned_corner g cycle (get_or ids c.hub 0) (made_if b e ∷ es) ≡ further (planned_corner g cycle (get_or ids c.hub 0) es)
      go g cycle ids es b (opened_leaf {h = h} {l = x} o w u) =
          let m : leaf_kind x < call_kind = let y = leaf_kind_lem x in let a = w.packed in let z = head.kind_is in omega arith in
          either b (λ t. rw t (silent g cycle ids es _ x m)) (λ t. rw t (silent g cycle ids es h x m))
      go g cycle ids es b (opened_block o w u) = absurd (let a = w.packed in let z = head.kind_is in omega arith)

  pub item_call : {n m : ℕ} {bare : Bool} {r : Corner} → k ≡ call_kind → n ≡ get_or ws p 0 → bare ≡ bare_at ws at p
      → m ≡ quantifier_at ws at made → CallMet names c index n bare m r → ItemMet names c ws end d index at made (P.Some r)
  unfolding leaf_kind encode_leaf_in plain bare_reference
  item_call {n} {r = r} x e eb em v = record { is = λ g cycle ids b t q s es. go g cycle ids b es (opened t s); member = v.member }
    where
      named : (g : Grammar) (cycle ids : List ℕ) → CycleBy g cycle ids names c → (es : List (Element (Block d))) (h : ElementHead) (a : Call)
          {q kind : ℕ} → HeadWords ws end at h kind p → kind ≡ call_kind → Spans ws end encode_leaf ok_leaf p (call a) q
          → (b : Bool) → made ≡ b
          → planned_corner g cycle (get_or ids c.hub 0) (made_if b (leaf h (call a)) ∷ es)
          ≡ met_corner ids (P.Some r) (planned_corner g cycle (get_or ids c.hub 0) es)
      named g cycle ids by es h a w z u true m =
          v.is g cycle ids by d (plain_head h) a (sym (stands_head u.stands) ∙ sym e) (sym (em ∙ rw m refl)) (bare_is w a u ∙ sym eb) es
      named g cycle ids by es h a w z u false m =
          v.is g cycle ids by d h a (sym (stands_head u.stands) ∙ sym e)
          (let f = w.packed in let i : h.quantifier ≡ get_or ws (at + 2) 0 / kind_end = omega arith in i ∙ sym (em ∙ rw m refl))
          (bare_is w a u ∙ sym eb) es

      leafy : (g : Grammar) (cycle ids : List ℕ) → CycleBy g cycle ids names c → (es : List (Element (Block d))) (h : ElementHead) (a : Leaf)
          {q kind : ℕ} → HeadWords ws end at h kind p → kind ≡ call_kind → leaf_kind a ≡ call_kind → Spans ws end encode_leaf ok_leaf p a q
          → planned_corner g cycle (get_or ids c.hub 0) (made_if made (leaf h a) ∷ es)
          ≡ met_corner ids (P.Some r) (planned_corner g cycle (get_or ids c.hub 0) es)
      leafy g cycle ids by es h epsilon w z m u = absurd (omega arith)
      leafy g cycle ids by es h (action a) w z m u = absurd (omega arith)
      leafy g cycle ids by es h (predicate a) w z m u = absurd (omega arith)
      leafy g cycle ids by es h (call a) w z m u = named g cycle ids by es h a w z u made refl
      leafy g cycle ids by es h (token a) w z m u = absurd (omega arith)
      leafy g cycle ids by es h terminal w z m u = absurd (omega arith)
      leafy g cycle ids by es h end_of_input w z m u = absurd (omega arith)

      go : (g : Grammar) (cycle ids : List ℕ) → CycleBy g cycle ids names c → (es : List (Element (Block d))) {t : Element (Block d)} {q : ℕ}
          → Opened ws end d at q t
          → planned_corner g cycle (get_or ids c.hub 0) (made_if made t ∷ es)
          ≡ met_corner ids (P.Some r) (planned_corner g cycle (get_or ids c.hub 0) es)
      go g cycle ids by es (opened_leaf {h = h} {l = a} o w u) =
          let same : o ≡ p = let f = w.place in let i = head.payload_is in omega arith in
          let f = leaf_kind_lem a in
          let m : leaf_kind a ≡ call_kind = let i = w.packed in let j = head.kind_is in omega arith in
          leafy g cycle ids by es h a (rw same at w) m m (rw same at u)
      go g cycle ids by es (opened_block o w u) = absurd (let i = w.packed in let j = head.kind_is in omega arith)

pub ruleset items = (item_past, item_silent, item_call)
