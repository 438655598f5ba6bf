-- Spliced alternatives one after the other: none, one record more in front of others, and the loop.
use Prim.Native.Nat.{ℕ, suc, ◌+◌, ◌-◌, ◌<◌, ◌≤◌}
use mathlib.Core.Path.{◌≡◌, refl, sym, ap₂, ◌∙◌}
use mathlib.Core.Logic.{⊎_elim, ⊎_map, inl}
use mathlib.Core.List.{List, [], ◌∷◌}
use native.Mathlib.Omega.{arith}
use lib.ListN.{length}
use Rattle.std.proofs.lemmas.Bool.{cases_lt}
use Rattle.grammar.specs.Tree.{Block, AlternativeOf}
use Rattle.grammar.specs.Lists.{total}
use Rattle.grammar.specs.Found.{FoundAlternative}
use Rattle.grammar.specs.Laws.Opened.{first_spans}
use Rattle.reference.specs.Substitute.{Planned, decided, decide_each, splice_alternative}
use Rattle.planned.specs.Layout.{half, head_at, options_at, record_at, meaning, records_from}
use Rattle.splices.specs.Splice.{AlternativesSpan, HandIn, OneFits, OnePut, AllFit, AllPut}
use Rattle.planned.specs.Laws.Parts.{Copied, meaning_copied, listed_copied}
use Rattle.planned.specs.Laws.Kept.{Outside, StandsIn, record_stands}
use Rattle.planned.specs.declared.list.Listed.{Listed}
use Rattle.splices.proofs.Laws.SpliceDecided.{each_by, each_none}
use Rattle.splices.proofs.Laws.SpliceFits.{hand_means, all_first, first_fits, wrote_elements, wrote_options, next_fits, next_hand, First}

-- Nothing is written.
all_none : {ws : List ℕ} {end d : ℕ} {h : Listed} {index at : ℕ} {bs : List ℕ} {a x y z w : ℕ} → AllFit ws end d h index 0 at bs a x y z w
    → AllPut ws end d h index 0 at bs bs a x y z w
unfolding records_from total
all_none {ws} {end} {d} {h} {index} {at} {bs} {a} {x} {y} {z} {w} fit =
    record {
      meant = none;
      stands = record { heads = λ i l m. absurd (omega arith); elements = λ i l m. absurd (ends i l m); options = λ i l m. absurd (ends' i l m) };
      outside = record { heads = λ j l m i. refl; elements = λ j l i. refl; options = λ j l m i. refl; long = refl };
    }
  where
    none : (body : List (AlternativeOf (Block d))) (q : ℕ) → AlternativesSpan ws end d at body q → length body ≡ 0 → (ps : List (Planned d))
        → decide_each (splice_alternative d (meaning ws end d bs h) index) body ≡ decided ps → [] ≡ ps
    none [] q s c ps e = sym (each_none (splice_alternative d (meaning ws end d bs h) index) ps e)
    none (b ∷ body) q s c ps e = absurd (omega arith)

    empty : fit.ps ≡ []
    empty = go fit.body fit.count fit.are
      where
        go : (body : List (AlternativeOf (Block d))) → length body ≡ 0
            → decide_each (splice_alternative d (meaning ws end d bs h) index) body ≡ decided fit.ps → fit.ps ≡ []
        go [] c e = each_none (splice_alternative d (meaning ws end d bs h) index) fit.ps e
        go (b ∷ body) c e = absurd (omega arith)

    ends : (i : ℕ) → x ≤ i → i < z → ⊥
    ends i l m = let e = rw empty at fit.elements in omega arith

    ends' : (i : ℕ) → y ≤ i → i < w → ⊥
    ends' i l m = let e = rw empty at fit.options in omega arith

-- One record more in front of others.
module _ {ws : List ℕ} {end d : ℕ} {h : Listed} {index : ℕ} {cur mid last : List ℕ} (hand : HandIn ws end d h index cur) {at n a x y z w : ℕ}
    (f : First ws end d h index at cur n a x y z w) {x' y' r : ℕ} (one : OnePut ws end d h index at cur mid a x y x' y' r)
    (g : AllPut ws end d h index n r mid last (suc a) x' y' z w) where
  past_elements : (x ≤ x') × (x' ≤ z)
  past_elements = let u = wrote_elements hand f one in let e = f.elements in (omega arith, omega arith)

  past_options : (y ≤ y') × (y' ≤ w)
  past_options = let u = wrote_options hand f one in let o = f.options in (omega arith, omega arith)

  head_same : (j : ℕ) → head_at a ≤ j → j < head_at (suc a) → half last j ≡ half mid j
  head_same j l m = let k = f.heads in g.outside.heads j (omega arith) (omega arith) (inl m)

  elements_same : (j : ℕ) → j < x' → half last j ≡ half mid j
  elements_same j l =
      let e = past_elements.1 in
      let m = f.few_elements in
      g.outside.elements j (omega arith) (inl l)

  options_same : (j : ℕ) → j < y' → half last (options_at + j) ≡ half mid (options_at + j)
  options_same j l =
      let e = past_options.1 in
      let m = f.few_options in
      g.outside.options (options_at + j) (omega arith) (omega arith) (inl (omega arith))

  ne_same : half last (head_at a + 2) ≡ half mid (head_at a + 2)
  ne_same = head_same (head_at a + 2) (omega arith) (omega arith)

  no_same : half last (head_at a + 3) ≡ half mid (head_at a + 3)
  no_same = head_same (head_at a + 3) (omega arith) (omega arith)

  slot_same : half last (head_at a) ≡ half mid (head_at a)
  slot_same = head_same (head_at a) (omega arith) (omega arith)

  origin_same : half last (head_at a + 1) ≡ half mid (head_at a + 1)
  origin_same = head_same (head_at a + 1) (omega arith) (omega arith)

  elements_there : Copied mid last x x (half mid (head_at a + 2))
  elements_there = let e = one.elements in record { each = λ i l. elements_same (x + i) (omega arith) }

  options_there : Copied mid last (options_at + y) (options_at + y) (half mid (head_at a + 3))
  options_there =
      let e = one.options in
      record {
        each = λ i l.
            let k : options_at + y + i ≡ options_at + (y + i) = omega arith in
            rw k (options_same (y + i) (omega arith));
      }

  first_means : meaning ws end d last (record_at last a x y) ≡ meaning ws end d mid (record_at mid a x y)
  first_means =
      meaning_copied ws end d (record_at mid a x y) (record_at last a x y) slot_same origin_same ne_same no_same elements_there options_there

  first_stands : StandsIn ws end d last a (a + 1) x x' y y'
  first_stands =
      let t = listed_copied ws end d (record_at mid a x y) (record_at last a x y) slot_same origin_same ne_same no_same elements_there
      options_there one.listed in
      let e = one.elements in
      let o = one.options in
      let s = record_stands a x y t in
      let u : x' ≡ x + half last (head_at a + 2) = rw ne_same e in
      let v : y' ≡ y + half last (head_at a + 3) = rw no_same o in
      rw (u, v) s

  means : (body : List (AlternativeOf (Block d))) (q : ℕ) → AlternativesSpan ws end d at body q → length body ≡ suc n → (ps : List (Planned d))
      → decide_each (splice_alternative d (meaning ws end d cur h) index) body ≡ decided ps
      → records_from ws end d last (suc n) a x y ≡ ps
  unfolding records_from
  means [] q s c ps e = absurd (omega arith)
  means (b ∷ body) q s c ps e =
      let t = first_spans s in
      let by = each_by (splice_alternative d (meaning ws end d cur h) index) b body ps e in
      let u : x + half last (head_at a + 2) ≡ x' = rw ne_same (sym one.elements) in
      let v : y + half last (head_at a + 3) ≡ y' = rw no_same (sym one.options) in
      let front = first_means ∙ one.meant b t.0 t.1 by.one by.first in
      let back =
      g.meant body q (rw (one.passed b t.0 t.1) t.2) (omega arith) by.others (rw (hand_means hand mid one.hand) by.then') in
      rw (by.are, u, v) (ap₂ (λ p qs. p ∷ qs) front back)

  outside_all : Outside cur last a (a + suc n) x z y w
  outside_all =
      let k : a + suc n ≡ suc a + n = omega arith in
      let e = past_elements in
      let o = past_options in
      record {
        heads = λ j l m i.
            g.outside.heads j l m (⊎_map (λ t. omega arith) (λ t. omega arith) i)
            ∙ one.outside.heads j l m (⊎_map (λ t. t) (λ t. omega arith) i);
        elements = λ j l i.
            g.outside.elements j l (⊎_map (λ t. omega arith) (λ t. t) i)
            ∙ one.outside.elements j l (⊎_map (λ t. t) (λ t. omega arith) i);
        options = λ j l m i.
            g.outside.options j l m (⊎_map (λ t. omega arith) (λ t. t) i)
            ∙ one.outside.options j l m (⊎_map (λ t. t) (λ t. omega arith) i);
        long = g.outside.long ∙ one.outside.long;
      }

  stands_all : StandsIn ws end d last a (a + suc n) x z y w
  stands_all =
      let s = first_stands in
      let t = g.stands in
      record {
        heads = λ i l m. ⊎_elim (λ c. s.heads i l (omega arith)) (λ c. t.heads i c (omega arith)) (cases_lt i (suc a));
        elements = λ i l m. ⊎_elim (λ c. s.elements i l c) (λ c. t.elements i c m) (cases_lt i x');
        options = λ i l m. ⊎_elim (λ c. s.options i l c) (λ c. t.options i c m) (cases_lt i y');
      }

  all_more : AllPut ws end d h index (suc n) at cur last a x y z w
  all_more = record { meant = means; stands = stands_all; outside = outside_all }

-- The loop, with k of n put: what would follow it is known.
pub record Splicing (ws : List ℕ) (end d : ℕ) (h : Listed) (index z w n at₀ : ℕ) (before : List ℕ) (a₀ x₀ y₀ : ℕ) (cur : List ℕ) (k at a x y : ℕ) : Type 0
  where
    pub few : k ≤ n
    pub rest : (last : List ℕ) → AllPut ws end d h index (n - k) at cur last a x y z w
        → AllPut ws end d h index n at₀ before last a₀ x₀ y₀ z w
    pub fits : AllFit ws end d h index (n - k) at cur a x y z w
    pub hand : HandIn ws end d h index cur
    pub long : length cur ≡ length before

pub splicing_none : {ws : List ℕ} {end d : ℕ} {h : Listed} {index n at : ℕ} {bs : List ℕ} {a x y z w : ℕ} → HandIn ws end d h index bs
    → AllFit ws end d h index n at bs a x y z w → Splicing ws end d h index z w n at bs a x y bs 0 at a x y
splicing_none {n = n} hand fit =
    let e : n - 0 ≡ n = omega arith in
    record { few = omega arith; rest = λ last g. rw e at g; fits = rw e fit; hand = hand; long = refl }

module _ {ws : List ℕ} {end d : ℕ} {h : Listed} {index z w n at₀ : ℕ} {before : List ℕ} {a₀ x₀ y₀ : ℕ} {cur : List ℕ} {k at a x y : ℕ}
    (s : Splicing ws end d h index z w n at₀ before a₀ x₀ y₀ cur k at a x y) where
  pub splicing_done : n ≤ k → AllPut ws end d h index n at₀ before cur a₀ x₀ y₀ z w
  splicing_done m = let e : n - k ≡ 0 = omega arith in s.rest cur (rw e (all_none (rw e at s.fits)))

  module _ (more : k < n) where
    first_left : First ws end d h index at cur (n - (k + 1)) a x y z w
    first_left = let e : n - k ≡ suc (n - (k + 1)) = omega arith in all_first (rw e at s.fits)

    pub splicing_found : FoundAlternative ws end d at
    splicing_found = let f = first_left in record { tree = f.one; next = f.next; spans = f.here }

    pub splicing_fits : OneFits ws end d h at cur a x y
    splicing_fits = first_fits s.hand first_left

    pub splicing_more : {after : List ℕ} {r a' x' y' : ℕ} → a' ≡ a + 1 → OnePut ws end d h index at cur after a x y x' y' r
        → Splicing ws end d h index z w n at₀ before a₀ x₀ y₀ after (k + 1) r a' x' y'
    splicing_more {after} {r} {a'} e one =
        let f = first_left in
        let u : a' ≡ suc a = omega arith in
        let v : n - k ≡ suc (n - (k + 1)) = omega arith in
        record {
          few = omega arith;
          rest = λ last g. s.rest last (rw v (all_more s.hand f one (rw u at g)));
          fits = rw u (next_fits s.hand f one);
          hand = next_hand s.hand f one;
          long = one.outside.long ∙ s.long;
        }

pub ruleset splicing = (splicing_none, splicing_done, splicing_found, splicing_fits, splicing_more)
