-- The rule with the least id that is left is the first of the next cycle.
use Prim.Native.Nat.{ℕ, ◌≤◌, ◌<◌}
use mathlib.Core.Path.{◌≡◌, refl, sym, ap, ◌∙◌, subst}
use mathlib.Core.Logic.{⊎_elim}
use mathlib.Core.List.Memᴰ
use mathlib.Core.List.{List, [], ◌∷◌, ◌++◌, append_assoc, Memᴰ}
use mathlib.Core.Bool.{true, ◌&&◌, not, true≢false}
use native.Mathlib.Omega.{arith}
use borrow.Author.Tests.{lt-ltb, not-true}
use Rattle.grammar.specs.Laws.Lists.{in_member, member_in}
use Rattle.grammar.specs.Lists.{each, member}
use Rattle.grammar.specs.Laws.Parse.{either, never}
use Rattle.reference.specs.Analysis.{Row, reach, component, is_cycle, cycles_from}
use Rattle.graph.specs.Members.{each_in}
use Rattle.graph.specs.Order.{Rising}
use Rattle.graph.specs.Reach.{way_way, way_start}
use Rattle.graph.specs.Cycles.{in_cycles, Several, several_of, ways_component, component_rises, component_both}
use Rattle.reach.specs.Rows.{bit, edge, Minus}
use Rattle.reach.specs.Reach.{Around}
use Rattle.reach.specs.Cycles.{Least, NoneLeft, IsNext}
use Rattle.reach.specs.Listed.{row_at, Numbered, Ids, Members, Left, Given, GivesNext}
use Rattle.std.specs.Prelude.{Option, Some, None}
use Rattle.std.proofs.lemmas.Bool.{and_from}
use Rattle.std.specs.Cmp.{first_so, second_so, both_ways}
use Rattle.reach.proofs.Laws.Graph.{in_id}

-- The first of the cycles listed from rising ids; the others are listed from greater ones.
record Front (closed : List Row) (c : List ℕ) (cs : List (List ℕ)) : Type 0 where
  name : ℕ
  whole : c ≡ component closed name
  passes : is_cycle name (component closed name) ≡ true
  later : List ℕ
  rises : Rising later
  above : (y : ℕ) → Memᴰ y later → name < y
  rest : cs ≡ cycles_from closed later

front : (closed : List Row) (is : List ℕ) → Rising is → (c : List ℕ) (cs : List (List ℕ)) → c ∷ cs ≡ cycles_from closed is
    → Front closed c cs
unfolding cycles_from
front closed [] r c cs e = never cc
front closed (i ∷ is) r c cs e =
    either (is_cycle i (component closed i))
    (λ t.
    let d : c ∷ cs ≡ component closed i ∷ cycles_from closed is = rw t at e in
    record { name = i; whole = cc; passes = t; later = is; rises = r.1; above = r.0; rest = cc })
    (λ f. front closed is r.1 c cs (rw f at e))

module _ {rows : List Row} {n : ℕ} (k : Numbered rows n) where
  abbrev id : ℕ → ℕ
  id i = (row_at rows i).id

  abbrev comp : ℕ → List ℕ
  comp x = component (reach rows) x

  -- The name of a listed cycle is its least member.
  least_name : {x z : ℕ} → Several x (comp x) → Memᴰ z (comp x) → x ≤ z
  least_name {x} {z} s m =
      let up : Rising (x ∷ s.other ∷ s.rest) = subst Rising s.whole (component_rises rows k.apart x) in
      ⊎_elim (λ e. omega arith) (λ t. let l = up.0 z t in omega arith) (Memᴰ.cases_cons (subst (Memᴰ z) s.whole m))

  own_name : {x : ℕ} → Several x (comp x) → Memᴰ x (comp x)
  own_name {x} s = subst (Memᴰ x) (sym s.whole) (Memᴰ.head refl)

  -- Two cycles with a member in common have one name.
  one_name : {x y z : ℕ} → Several x (comp x) → Several y (comp y) → Memᴰ z (comp x) → Memᴰ z (comp y) → y ≤ x
  one_name {x} {y} s t m l =
      let (a, b) = component_both rows k.apart s m in
      let (c, d) = component_both rows k.apart t l in
      least_name t (ways_component rows (way_start a) (way_start c) (way_way c b) (way_way a d))

  module _ {all closed : List (List ℕ)} {left : List ℕ} {c : List ℕ} {cs : List (List ℕ)} (h : Left rows n all closed left (c ∷ cs)) where
    abbrev head : Front (reach rows) c cs
    head = front (reach rows) h.from h.rises c cs h.listed

    several : Several head.name (comp head.name)
    several = several_of head.name (comp head.name) head.passes

    -- A member that comes later is in a cycle with a greater name.
    record Later (z : ℕ) : Type 0 where
      name : ℕ
      greater : head.name < name
      more : Several name (comp name)
      there : Memᴰ z (comp name)

    later : {z : ℕ} → Memᴰ z (each (λ c. c) cs) → Later z
    later {z} m =
        let (d, l, o) = each_in (λ c. c) cs m in
        let (y, q, e, t) = in_cycles (reach rows) head.later (subst (Memᴰ d) head.rest l) in
        record { name = y; greater = head.above y q; more = several_of y (comp y) t; there = subst (Memᴰ z) e o }

    first_below : {z : ℕ} → Memᴰ z (each (λ c. c) (c ∷ cs)) → head.name ≤ z
    first_below {z} m =
        ⊎_elim (λ o. least_name several (subst (Memᴰ z) head.whole o))
        (λ o. let l = later o in let below = least_name l.more l.there in let up = l.greater in omega arith)
        (Memᴰ.append_cases c m)

    -- The place of the first.
    place : (i : ℕ) × (i < n) × (id i ≡ head.name)
    place = in_id k (way_start (component_both rows k.apart several (own_name several)).0)

    first_left : bit left place.0 ≡ true
    first_left =
        h.members.at place.0 place.1
        ∙ in_member
        (subst (λ x. Memᴰ x (each (λ c. c) (c ∷ cs))) (sym place.2)
        (Memᴰ.append_left (each (λ c. c) cs) (subst (Memᴰ head.name) (sym head.whole) (own_name several))))

    disjoint : {z : ℕ} → Memᴰ z c → Memᴰ z (each (λ c. c) cs) → ⊥
    disjoint {z} m o =
        let l = later o in
        let up = l.greater in
        let below = one_name several l.more (subst (Memᴰ z) head.whole m) l.there in
        omega arith

    -- It is the rule with the least id.
    named : {ids : List ℕ} {i : ℕ} → Ids rows n ids → Least ids left n i → head.name ≡ id i
    named {ids} {i} d l =
        let low = first_below (member_in _ (sym (h.members.at i l.below) ∙ l.there)) in
        let high = l.least place.0 place.1 first_left in
        let own = d.at i l.below in
        let its = d.at place.0 place.1 in
        let e = place.2 in
        omega arith

    module _ {ids : List ℕ} {i : ℕ} (d : Ids rows n ids) (l : Least ids left n i) where
      is_first : c ≡ comp (id i)
      is_first = head.whole ∙ ap comp (named d l)

      around_is : (row : List ℕ) → Around closed i n row → Members rows n row (comp (id i))
      around_is row a =
          record {
            at = λ j m. a.at j ∙ ap (λ b. b && (edge closed i j && edge closed j i)) (lt-ltb j n m) ∙ h.cycle i l.below l.there j m;
          }

      -- Without its members, those of the later cycles are left.
      without_first : {row less : List ℕ} → Members rows n row (comp (id i)) → Minus left row less → Members rows n less (each (λ c. c) cs)
      without_first {row} {less} a m = record { at = λ j b. m.at j ∙ both_ways _ _ (there j b) (back j b) }
        where
          of_row : (j : ℕ) → j < n → bit row j ≡ member (id j) c
          of_row j b = a.at j b ∙ ap (member (id j)) (sym is_first)

          there : (j : ℕ) → j < n → (bit left j && not (bit row j)) ≡ true → member (id j) (each (λ c. c) cs) ≡ true
          there j b t =
              let out = not-true (bit row j) (second_so (bit left j) _ t) in
              let some = member_in (each (λ c. c) (c ∷ cs)) (sym (h.members.at j b) ∙ first_so (bit left j) _ t) in
              ⊎_elim (λ o. absurd (true≢false (sym (in_member o) ∙ sym (of_row j b) ∙ out))) in_member (Memᴰ.append_cases c some)

          back : (j : ℕ) → j < n → member (id j) (each (λ c. c) cs) ≡ true → (bit left j && not (bit row j)) ≡ true
          back j b t =
              let o = member_in (each (λ c. c) cs) t in
              and_from (bit left j) _ (h.members.at j b ∙ in_member (Memᴰ.append_right c o))
              (ap not (either (bit row j) (λ u. absurd (disjoint (member_in c (sym (of_row j b) ∙ u)) o)) (λ u. u)))

      pub is_given : Given rows n all closed left i (c ∷ cs)
      is_given =
          record {
            rest = cs;
            first = ap (λ x. x ∷ cs) is_first;
            around = around_is;
            behind = λ row less a m. record {
              given = h.given ++ (c ∷ []);
              order = append_assoc h.given (c ∷ []) cs ∙ h.order;
              from = head.later;
              rises = head.rises;
              listed = head.rest;
              members = without_first (around_is row a) m;
              cycle = λ j b t. h.cycle j b (first_so (bit left j) _ (sym (m.at j) ∙ t));
            };
          }

-- What the least rule says, and what it says that there is none.
pub given_least : {rows : List Row} {n : ℕ} {all closed : List (List ℕ)} {ids left : List ℕ} {i : ℕ} (cycles : List (List ℕ))
    → Ids rows n ids → Left rows n all closed left cycles → Least ids left n i → Given rows n all closed left i cycles
unfolding member
given_least {i = i} [] d h l = absurd (true≢false (sym l.there ∙ h.members.at i l.below))
given_least (c ∷ cs) d h l = is_given d.numbered h d l

pub given_none : {rows : List Row} {n : ℕ} {all closed : List (List ℕ)} {ids left : List ℕ} (cycles : List (List ℕ))
    → Ids rows n ids → Left rows n all closed left cycles → NoneLeft left n → cycles ≡ []
given_none [] d h l = refl
given_none (c ∷ cs) d h l =
    let p = place d.numbered h in
    absurd (true≢false (sym (first_left d.numbered h) ∙ l.none p.0 p.1))

pub gives_next : (r : Option ℕ) {ids left : List ℕ} {n : ℕ} → IsNext ids left n r → GivesNext ids left n r
gives_next None l = record { gives = λ rows all closed cycles d h. given_none cycles d h l }
gives_next (Some i) l = record { gives = λ rows all closed cycles d h. given_least cycles d h l }
