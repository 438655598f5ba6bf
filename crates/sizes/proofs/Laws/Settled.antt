-- A planned alternative measured by its elements, and the settled ones, one after the other.
use Prim.Native.Nat.{ℕ, ◌+◌, ◌-◌, ◌*◌, ◌<◌, ◌≤◌, ◌^◌}
use mathlib.Core.Path.{◌≡◌, refl, ap, ◌∙◌}
use mathlib.Core.List.{List, []}
use mathlib.Core.Bool.{true, false}
use native.Mathlib.Omega.{arith}
use lib.ListN.{length, length-append}
use Rattle.grammar.specs.Numbers.{most_words, alternative_sort}
use Rattle.grammar.specs.Tree.{Counters, inner_depth}
use Rattle.grammar.specs.Encode.{encode_alternative, encode_block}
use Rattle.grammar.specs.Lists.{total}
use Rattle.reference.specs.Substitute.{Planned}
use Rattle.reference.specs.Apply.{fresh_each, past, renumber_element, renumber_elements, renumber_block, placed, apply_alternative, apply_new}
use Rattle.planned.specs.Layout.{marked, meaning, settled, records_from}
use Rattle.planned.specs.List.{Laid, Located, ListedIn, AllIn}
use Rattle.planned.specs.Reading.{settled_from, OnTrack, AtFront, ReadNext}
use Rattle.planned.specs.Laws.Counts.{elements_all, options_all, alternatives_in_lem, elements_in_lem, options_in_lem}
use Rattle.planned.specs.Laws.Items.{unmarked, is_marked_lem}
use Rattle.planned.specs.Laws.Shown.{elements_many, options_many}
use Rattle.planned.specs.Laws.Ahead.{at_front, all_ahead, one_ahead}
use Rattle.planned.specs.Shown.{meant}
use Rattle.planned.specs.declared.list.Sizes.{Sizes}
use Rattle.planned.specs.declared.list.Listed.{Listed}
use Rattle.planned.specs.declared.list.Cursor.{Cursor}
use Rattle.planned.specs.declared.shown.Shown.{Shown}
use Rattle.sizes.specs.Tally.{no_ids, behind}
use Rattle.sizes.specs.Sized.{Under, no_size, plus, ElementsSized, most_of, AlternativeSized, Measured}
use Rattle.sizes.specs.declared.sums.Measure.{Measure}
use Rattle.sizes.specs.declared.tally.Tally.{Tally}
use Rattle.sizes.proofs.Laws.Renumber.{same_counters}
use Rattle.sizes.proofs.Laws.Lengths.{words_of, copies_length}
use Rattle.sizes.proofs.Laws.Sums.{none_is, Summing, summing_all, summing_done, summing_more, under_sum, under_more, under_none}

module _ (d : ℕ) (p : Planned d) {m : Measure} (s : ElementsSized d p.elements m) (w : ℕ)
    (e : w ≡ 5 + 2 * length p.options + m.words) where
  abbrev one_more : Tally
  one_more =
      record {
        alternatives = m.tally.alternatives + 1;
        elements = m.tally.elements;
        labels = m.tally.labels;
        actions = m.tally.actions;
        predicates = m.tally.predicates;
      }

  -- A new one: its own id, and its copies.
  new_sized : p.verbatim ≡ false
      → AlternativeSized d p
      (record { tally = one_more; words = w })
  unfolding apply_alternative renumber_elements behind
  new_sized f =
      let new : (c : Counters) → apply_alternative d p c ≡ apply_new d p c = λ c. rw f refl in
      record {
        is =
            record {
              counters = λ c.
                  ap (λ r. r.counters) (new c) ∙ s.is.counters (past alternative_sort c)
                  ∙ same_counters _ _ (omega arith) refl refl refl refl;
              entries = λ c.
                  let inside = fresh_each (renumber_element (renumber_block d)) p.elements (past alternative_sort c) in
                  let x = length-append inside.entries [] in
                  let y = s.is.entries (past alternative_sort c) in
                  let z = ap (λ r. length r.entries) (new c) in
                  omega arith;
              words = λ c.
                  let inside = fresh_each (renumber_element (renumber_block d)) p.elements (past alternative_sort c) in
                  let x = words_of (encode_block d) (placed d c.alternative inside.node p) in
                  let y = s.is.words (past alternative_sort c) in
                  let z = ap (λ r. length (encode_alternative (encode_block d) r.node)) (new c) in
                  omega arith;
            };
        few = let z = s.few in search arith;
      }

  -- One that is as it was: its words alone.
  kept_sized : p.verbatim ≡ true
      → AlternativeSized d p (record { tally = no_ids; words = w })
  unfolding apply_alternative behind
  kept_sized f =
      let kept : (c : Counters) → apply_alternative d p c ≡ record { node = placed d p.origin p.elements p; counters = c; entries = [] } =
      λ c. rw f refl in
      record {
        is =
            record {
              counters = λ c.
                  ap (λ r. r.counters) (kept c)
                  ∙ same_counters _ _ (omega arith) (omega arith) (omega arith) (omega arith) (omega arith);
              entries = λ c. ap (λ r. length r.entries) (kept c);
              words = λ c.
                  let x = words_of (encode_block d) (placed d p.origin p.elements p) in
                  let y = s.is.words c in
                  let z = copies_length d p.elements c in
                  let v = ap (λ r. length (encode_alternative (encode_block d) r.node)) (kept c) in
                  omega arith;
            };
        few = let z = s.few in search arith;
      }

-- By what is listed.
module _ (a : Shown) {m : Measure} (s : ElementsSized inner_depth (meant a).elements m) where
  pub listed_new : a.x.slot < marked
      → AlternativeSized inner_depth (meant a)
      (record {
        tally = record {
          alternatives = m.tally.alternatives + 1;
          elements = m.tally.elements;
          labels = m.tally.labels;
          actions = m.tally.actions;
          predicates = m.tally.predicates;
        };
        words = 5 + 2 * a.x.no + m.words;
      })
  unfolding meaning
  listed_new h =
      new_sized inner_depth (meant a) s (5 + 2 * a.x.no + m.words) (let z = options_many a in omega arith)
      (unmarked h)

  pub listed_kept : marked ≤ a.x.slot → {t : Tally} → t ≡ no_ids
      → AlternativeSized inner_depth (meant a) (record { tally = t; words = 5 + 2 * a.x.no + m.words })
  unfolding meaning
  listed_kept h none =
      rw none
      (kept_sized inner_depth (meant a) s (5 + 2 * a.x.no + m.words) (let z = options_many a in omega arith)
      (is_marked_lem h))

  pub listed_under : Under m (2 ^ 32)
  listed_under =
      let c = elements_many a in let z = a.located.elements in under_more s.few (omega arith)

-- As much as several may take.
abbrev most_of_all : (d : ℕ) → List (Planned d) → ℕ
most_of_all d ps = most_words * elements_all ps + 2 * options_all ps + 5 * length ps

-- The loop over the settled ones.
module _ (ws : List ℕ) (end d : ℕ) (bs : List ℕ) (l : Sizes) where
  pub record Measuring (i : ℕ) (c : Cursor) (m : Measure) : Type 0 where
    pub on : OnTrack bs l c
    pub place : l.out.a - c.a ≡ l.out.a - i
    pub listed : AllIn ws end d bs l
    pub sum : Summing (encode_alternative (encode_block d)) (apply_alternative d) (settled ws end d bs l) (settled_from ws end d bs l c) m
    pub most : ℕ
    pub few : Under m most
    pub room : most + most_of_all d (settled_from ws end d bs l c) ≤ 2 ^ 27

  pub measuring_none : Laid bs l → AllIn ws end d bs l → {c : Cursor} → AtFront c → {m : Measure} → m ≡ no_size → Measuring 0 c m
  measuring_none laid a {c} f e =
      let all = f.all ws end d bs l in
      record {
        on = f.on bs l;
        place = all_ahead bs l f;
        listed = a;
        sum = rw (all, e) (summing_all (encode_alternative (encode_block d)) (apply_alternative d) (settled ws end d bs l));
        most = 0;
        few = rw e (under_none 0);
        room = rw all
            (let x = alternatives_in_lem ws end d bs l laid in
            let y = elements_in_lem ws end d bs l laid in
            let z = options_in_lem ws end d bs l laid in
            omega arith);
      }

  module _ {i : ℕ} {c : Cursor} {m : Measure} (g : Measuring i c m) where
    pub measuring_before : i < l.out.a → c.a < l.out.a
    measuring_before h = let z = g.place in omega arith

    pub measuring_on : OnTrack bs l c
    measuring_on = g.on

    pub measuring_all : l.out.a ≤ i → Measured d (settled ws end d bs l) m
    unfolding settled_from records_from
    measuring_all p =
        let none : settled_from ws end d bs l c ≡ [] =
        ap (λ k. records_from ws end d bs k c.a c.e c.o) (let z = g.place in let y : l.out.a - c.a ≡ 0 = omega arith in y) in
        record {
          is = summing_done (encode_alternative (encode_block d)) (apply_alternative d) g.sum none;
          few = let r = g.room in under_more g.few (omega arith);
        }

    pub measuring_under : Under m (2 ^ 32)
    measuring_under = let r = g.room in under_more g.few (omega arith)

    module _ {x : Listed} {next : Cursor} (n : ReadNext bs l c x next) where
      pub measuring_listed : ListedIn ws end d bs x
      measuring_listed = n.listed ws end d g.listed

      pub measuring_located : Located bs x
      measuring_located = n.located

      module _ {k : Measure} (s : AlternativeSized d (meaning ws end d bs x) k) where
        room_here : g.most + (most_of d (meaning ws end d bs x) + most_of_all d (settled_from ws end d bs l next)) ≤ 2 ^ 27
        unfolding total
        room_here = let r = g.room in let z = rw (n.first ws end d) at r in omega arith

        pub measuring_one : Under k (2 ^ 32)
        measuring_one = let r = room_here in under_more s.few (omega arith)

        pub measuring_more : i < l.out.a → {r : Measure} → r ≡ plus m k → Measuring (i + 1) next r
        measuring_more h {r} e =
            record {
              on = n.on;
              place = let z = g.place in let y = one_ahead n in omega arith;
              listed = g.listed;
              sum = summing_more (encode_alternative (encode_block d)) (apply_alternative d) g.sum (n.first ws end d) s.is e;
              most = g.most + most_of d (meaning ws end d bs x);
              few = under_sum g.few s.few e (omega arith);
              room = let u = room_here in omega arith;
            }

pub ruleset measuring =
    (none_is, at_front, measuring_none, measuring_before, measuring_on, measuring_all, measuring_under, measuring_listed, measuring_located, measuring_one, measuring_more)
