-- Rows that tell who is on a cycle tell the cycles that the definition lists.
use Prim.Native.Nat.{ℕ, ◌<◌}
use mathlib.Core.Path.{◌≡◌, refl, sym, ap, ◌∙◌, subst}
use mathlib.Core.Logic.{◌⊎◌, ⊎_elim}
use mathlib.Core.List.Memᴰ
use mathlib.Core.List.{List, [], ◌∷◌, Memᴰ}
use mathlib.Core.Bool.{true, ◌&&◌}
use native.Mathlib.Omega.{arith}
use lib.Dec.{eqb}
use borrow.Author.Tests.{eqb-true, eqb-false, eq-eqb, lt-ltb}
use Rattle.std.proofs.lemmas.Bool.{and_from}
use Rattle.std.specs.Cmp.{first_so, second_so, both_ways}
use Rattle.grammar.specs.Laws.Lists.{in_member, member_in}
use Rattle.grammar.specs.Lists.{each, member, sorted}
use Rattle.grammar.specs.Laws.Parse.{either}
use Rattle.reference.specs.Analysis.{Row, row_ids, reach, component, is_cycle, cycles_from, left_corner_cycles}
use Rattle.graph.specs.Members.{in_each, each_in}
use Rattle.graph.specs.Order.{Rising, distinct_of, sorted_in, sorted_rising, rising_same}
use Rattle.graph.specs.Reach.{Way, way_way, way_start}
use Rattle.graph.specs.Cycles.{in_cycles, cycles_in, several_of, component_ways, ways_component, component_rises, component_both, row_ids_lem}
use Rattle.reach.specs.Rows.{bit, edge}
use Rattle.reach.specs.Reach.{Path, last, more, other, Loops}
use Rattle.reach.specs.Cycles.{Joined}
use Rattle.reach.specs.Listed.{row_at, Edges, Left, corner_rows, AllLeft}
use Rattle.reach.proofs.Laws.Paths.{path_path}
use Rattle.reach.proofs.Laws.Graph.{other_path, other_differs, path_other, id_in, in_id, one_id, path_way, way_path}

-- A list of two members at least, of which the first is the least.
cycle_of : (x : ℕ) (xs : List ℕ) → (y z : ℕ) → Memᴰ y (x ∷ xs) → Memᴰ z (x ∷ xs) → (y ≡ z → ⊥) → is_cycle x (x ∷ xs) ≡ true
unfolding is_cycle
cycle_of x [] y z m k n = absurd (n (only m ∙ sym (only k)))
  where
    only : {y : ℕ} → Memᴰ y (x ∷ []) → y ≡ x
    only m = ⊎_elim (λ e. e) (λ t. absurd (Memᴰ.not-nil t)) (Memᴰ.cases_cons m)
cycle_of x (w ∷ ws) y z m k n = eq-eqb x x refl

module _ {rows : List Row} {n : ℕ} {corners closed : List (List ℕ)} (h : Edges rows n corners) (f : Joined corners n closed) where
  abbrev id : ℕ → ℕ
  id i = (row_at rows i).id

  abbrev comp : ℕ → List ℕ
  comp x = component (reach rows) x

  abbrev all : List (List ℕ)
  all = cycles_from (reach rows) (sorted (row_ids rows))

  -- Ways between different rules are paths, and the other way.
  other_way : {i j : ℕ} → i < n → j < n → Path (other corners) n i j → Way rows (id i) (id j)
  other_way l m p = path_way h l m (other_path corners p)

  way_other : {i j : ℕ} → i < n → j < n → Way rows (id i) (id j) → (i ≡ j) ⊎ Path (other corners) n i j
  way_other l m w = path_other corners (way_path h l m refl refl w)

  -- Who reaches a rule of a cycle and is reached by it is in its component.
  pub around_component : {i : ℕ} → i < n → edge closed i i ≡ true → (j : ℕ) → j < n
      → (edge closed i j && edge closed j i) ≡ member (id j) (comp (id i))
  around_component {i} l t j m = both_ways _ _ there back
    where
      there : (edge closed i j && edge closed j i) ≡ true → member (id j) (comp (id i)) ≡ true
      there b =
          let p = (f.reaches i l t i j l).0 (first_so (edge closed i j) _ b) in
          let q = (f.reaches i l t j i m).0 (second_so (edge closed i j) _ b) in
          in_member (ways_component rows (id_in h.numbered m) (id_in h.numbered l) (other_way l m p) (other_way m l q))

      own : i ≡ j → (edge closed i j && edge closed j i) ≡ true
      own e = subst (λ x. (edge closed i x && edge closed x i) ≡ true) e (and_from (edge closed i i) _ t t)

      apart : Way rows (id i) (id j) → Way rows (id j) (id i) → (edge closed i j && edge closed j i) ≡ true
      apart a b =
          ⊎_elim own
          (λ p. ⊎_elim (λ e. own (sym e))
          (λ q. and_from (edge closed i j) _ ((f.reaches i l t i j l).1 p) ((f.reaches i l t j i m).1 q)) (way_other m l b))
          (way_other l m a)

      back : member (id j) (comp (id i)) ≡ true → (edge closed i j && edge closed j i) ≡ true
      back b = ⊎_elim (λ e. own (sym (one_id h.numbered m l e))) (λ w. apart w.0 w.1) (component_ways rows (member_in _ b))

  -- Another rule on the way back to a rule.
  record Partner (j : ℕ) : Type 0 where
    rule : ℕ
    below : rule < n
    differs : id j ≡ id rule → ⊥
    out : Way rows (id j) (id rule)
    home : Way rows (id rule) (id j)

  partner : {j : ℕ} → j < n → Path (other corners) n j j → Partner j
  partner l (last e) = absurd (other_differs corners e refl)
  partner l (more {k = k} e m p) =
      record {
        rule = k;
        below = m;
        differs = λ d. other_differs corners e (one_id h.numbered l m d);
        out = other_way l m (last e);
        home = other_way m l p;
      }

  -- Members of the component of such a rule are joined to it both ways.
  home_and_back : {j x : ℕ} → Partner j → Memᴰ x (comp (id j)) → Way rows (id j) x × Way rows x (id j)
  home_and_back {j} p m =
      let own = way_way p.out p.home in
      ⊎_elim (λ e. (subst (Way rows (id j)) (sym e) own, subst (λ z. Way rows z (id j)) (sym e) own)) (λ w. w) (component_ways rows m)

  joined_in : {x y : ℕ} → Way rows x y → Way rows y x → Memᴰ y (comp x)
  joined_in a b = ways_component rows (way_start b) (way_start a) a b

  -- The component of a rule is that of each member.
  component_of : {j x : ℕ} → Partner j → Memᴰ x (comp (id j)) → comp x ≡ comp (id j)
  component_of {j} {x} p m =
      let (out, home) = home_and_back p m in
      rising_same (comp x) (comp (id j)) (component_rises rows h.numbered.apart x) (component_rises rows h.numbered.apart (id j))
      (λ z k. ⊎_elim (λ e. subst (λ y. Memᴰ y (comp (id j))) (sym e) m)
      (λ w. joined_in (way_way out w.0) (way_way w.1 home)) (component_ways rows k))
      (λ z k. let (a, b) = home_and_back p k in joined_in (way_way home a) (way_way b out))

  own_in : {j : ℕ} → Partner j → Memᴰ (id j) (comp (id j))
  own_in p = joined_in (way_way p.out p.home) (way_way p.out p.home)

  -- A component by its first member.
  record Named (c : List ℕ) : Type 0 where
    name : ℕ
    there : Memᴰ name c
    passes : is_cycle name c ≡ true

  named : (c : List ℕ) (y z : ℕ) → Memᴰ y c → Memᴰ z c → (y ≡ z → ⊥) → Named c
  named [] y z m k d = absurd (Memᴰ.not-nil m)
  named (x ∷ xs) y z m k d = record { name = x; there = Memᴰ.head refl; passes = cycle_of x xs y z m k d }

  -- A rule on a cycle is a member of a listed one.
  loop_listed : {j : ℕ} → j < n → edge closed j j ≡ true → Memᴰ (id j) (each (λ c. c) all)
  loop_listed {j} l t =
      let p = partner l ((f.cyclic j l).0 t) in
      let u = named (comp (id j)) (id j) (id p.rule) (own_in p) (joined_in p.out p.home) p.differs in
      let e = component_of p u.there in
      let there = sorted_in (way_start (home_and_back p u.there).1) in
      in_each (λ c. c) (cycles_in (reach rows) there (subst (λ c. is_cycle u.name c ≡ true) (sym e) u.passes))
      (subst (Memᴰ (id j)) (sym e) (own_in p))

  -- And a member of a listed one is on a cycle.
  listed_loop : {j : ℕ} → j < n → Memᴰ (id j) (each (λ c. c) all) → edge closed j j ≡ true
  listed_loop {j} l m =
      let (c, k, o) = each_in (λ c. c) all m in
      let (x, q, e, t) = in_cycles (reach rows) (sorted (row_ids rows)) k in
      let s = several_of x (comp x) t in
      let up : Rising (x ∷ s.other ∷ s.rest) = subst Rising s.whole (component_rises rows h.numbered.apart x) in
      let below = up.0 s.other (Memᴰ.head refl) in
      let (a, b) = component_both rows h.numbered.apart s (subst (Memᴰ (id j)) e o) in
      let second = subst (Memᴰ s.other) (sym s.whole) (Memᴰ.tail (Memᴰ.head refl)) in
      let (v, w) = component_both rows h.numbered.apart s second in
      either (eqb (id j) x)
      (λ y. loop s.other (λ d. let z = eqb-true (id j) x y in omega arith) (way_way b v) (way_way w a))
      (λ y. loop x (eqb-false (id j) x y) b a)
    where
      loop : (y : ℕ) → (id j ≡ y → ⊥) → Way rows (id j) y → Way rows y (id j) → edge closed j j ≡ true
      loop y d a b =
          let (k, m, e) = in_id h.numbered (way_start b) in
          let a' = subst (Way rows (id j)) (sym e) a in
          let b' = subst (λ z. Way rows z (id j)) (sym e) b in
          ⊎_elim (λ q. absurd (d (ap id q ∙ e)))
          (λ p. ⊎_elim (λ q. absurd (d (ap id (sym q) ∙ e)))
          (λ r. (f.cyclic j l).1 (path_path p m r)) (way_other m l b')) (way_other l m a')

  -- All cycles are left at the start.
  pub all_left : {left : List ℕ} → Loops closed n left → Left rows n all closed left all
  all_left {left} u =
      record {
        given = [];
        order = refl;
        from = sorted (row_ids rows);
        rises = sorted_rising (row_ids rows) (distinct_of (row_ids rows) h.numbered.apart);
        listed = refl;
        members =
            record {
              at = λ j l.
                  looping j l ∙ both_ways _ _ (λ t. in_member (loop_listed l t)) (λ t. listed_loop l (member_in _ t));
            };
        cycle = λ i l t j m. around_component l (sym (looping i l) ∙ t) j m;
      }
    where
      looping : (j : ℕ) → j < n → bit left j ≡ edge closed j j
      looping j l = u.at j ∙ ap (λ b. b && edge closed j j) (lt-ltb j n l)

pub joined_left : {corners closed : List (List ℕ)} {n : ℕ} → Joined corners n closed → AllLeft corners n closed
unfolding left_corner_cycles
joined_left {corners} {closed} {n} f =
    record {
      left = λ c g d rs h row u.
          let rows = corner_rows c g d rs in
          let listed : List ℕ → List (List ℕ) = λ is. cycles_from (reach rows) (sorted is) in
          subst (λ is. Left rows n (listed is) closed row (listed is)) (row_ids_lem c g d rs) (all_left h f u);
    }
