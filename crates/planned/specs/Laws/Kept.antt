-- A change in the free part of the list leaves its two ends as they were; a run written at either end makes it longer.
use Rattle.std.specs.Prelude.{ℕ, ◌+◌, ◌-◌, ◌<◌, ◌≤◌, ◌≡◌, ◌⊎◌, List, [], ◌∷◌, ◌++◌, length}
use Rattle.std.proofs.Common.{sym, ap, ◌∙◌, inl, inr, append_assoc, arith}
use Rattle.std.proofs.Math.Logic.{⊎_elim}
use Rattle.std.proofs.lemmas.Bool.{cases_lt}
use Rattle.reference.specs.Numbers.{most_alternatives, most_elements}
use Rattle.reference.specs.Substitute.{Planned}
use Rattle.planned.specs.Layout.{half, heads_at, head_at, options_at, hand_at, record_at, meaning, records_from, settled, stack}
use Rattle.planned.specs.List.{elements_of, options_of, Laid, HeadIn, ElementIn, ListedIn, AllIn}
use Rattle.planned.specs.Moves.{SameEnds, Pushed}
use Rattle.planned.specs.Laws.Runs.{SameHeads, elements_of_same, options_of_same, run_same, runs_append}
use Rattle.planned.specs.Laws.Runs.{elements_of_append, options_of_append, elements_of_one, options_of_one}
use Rattle.planned.specs.declared.list.Sizes.{Sizes}

-- The list changes at most in the heads from a up to b, the elements from x up to z, the options from y up to w.
pub record Outside (before after : List ℕ) (a b x z y w : ℕ) : Type 0 where
  pub heads : (j : ℕ) → heads_at ≤ j → j < options_at → (j < head_at a) ⊎ (head_at b ≤ j) → half after j ≡ half before j
  pub elements : (j : ℕ) → j < most_elements → (j < x) ⊎ (z ≤ j) → half after j ≡ half before j
  pub options : (j : ℕ) → options_at ≤ j → j < hand_at → (j < options_at + y) ⊎ (options_at + w ≤ j) → half after j ≡ half before j
  pub long : length after ≡ length before

-- Neither end has a part there.
pub record Free (l : Sizes) (a b x z y w : ℕ) : Type 0 where
  pub out_a : l.out.a ≤ a
  pub out_e : l.out.e ≤ x
  pub out_o : l.out.o ≤ y
  pub top_a : b ≤ l.top.a
  pub top_e : z ≤ l.top.e
  pub top_o : w ≤ l.top.o

module _ {before after : List ℕ} {l : Sizes} {a b x z y w : ℕ} (laid : Laid before l) (free : Free l a b x z y w)
    (out : Outside before after a b x z y w) where
  front_heads : SameHeads before after l.out.a 0
  front_heads = record { same = λ j h g. out.heads j (omega arith) (omega arith) (inl (omega arith)) }

  back_heads : SameHeads before after (most_alternatives - l.top.a) l.top.a
  back_heads = record { same = λ j h g. out.heads j (omega arith) (omega arith) (inr (omega arith)) }

  kept_laid : Laid after l
  kept_laid =
      record {
        long = omega arith;
        out_a = laid.out_a;
        out_e = laid.out_e;
        out_o = laid.out_o;
        top_a = laid.top_a;
        top_e = laid.top_e;
        top_o = laid.top_o;
        settled_e = elements_of_same l.out.a 0 front_heads ∙ laid.settled_e;
        settled_o = options_of_same l.out.a 0 front_heads ∙ laid.settled_o;
        stack_e = rw (elements_of_same (most_alternatives - l.top.a) l.top.a back_heads) laid.stack_e;
        stack_o = rw (options_of_same (most_alternatives - l.top.a) l.top.a back_heads) laid.stack_o;
      }

  kept_settled : (ws : List ℕ) (end d : ℕ) → settled ws end d after l ≡ settled ws end d before l
  unfolding settled
  kept_settled ws end d =
      let e = laid.settled_e in
      let o = laid.settled_o in
      run_same ws end d l.out.a 0 0 0 front_heads
      (record { same = λ j h g. out.elements j (omega arith) (inl (omega arith)) })
      (record { same = λ j h g. out.options j (omega arith) (omega arith) (inl (omega arith)) })

  kept_stack : (ws : List ℕ) (end d : ℕ) → stack ws end d after l ≡ stack ws end d before l
  unfolding stack
  kept_stack ws end d =
      let e = laid.stack_e in
      let o = laid.stack_o in
      run_same ws end d (most_alternatives - l.top.a) l.top.a l.top.e l.top.o back_heads
      (record { same = λ j h g. out.elements j (omega arith) (inr (omega arith)) })
      (record { same = λ j h g. out.options j (omega arith) (omega arith) (inr (omega arith)) })

  kept_in : (ws : List ℕ) (end d : ℕ) → AllIn ws end d before l → AllIn ws end d after l
  kept_in ws end d all =
      record {
        heads = λ i h m.
            rw (
              out.heads (head_at i) (omega arith) (omega arith) (⊎_elim (λ t. inl (omega arith)) (λ t. inr (omega arith)) m),
              out.heads (head_at i + 1) (omega arith) (omega arith) (⊎_elim (λ t. inl (omega arith)) (λ t. inr (omega arith)) m),
            )
            (all.heads i h m);
        elements = λ i h m. rw (out.elements i h (⊎_elim (λ t. inl (omega arith)) (λ t. inr (omega arith)) m)) (all.elements i h m);
        options = λ i h m.
            rw (out.options (options_at + i) (omega arith) (omega arith) (⊎_elim (λ t. inl (omega arith)) (λ t. inr (omega arith)) m))
            (all.options i h m);
      }

  pub kept : SameEnds before after l l
  kept = record { laid = kept_laid; settled_same = kept_settled; stack_same = kept_stack; all_in = kept_in }

-- What stands in the heads from a up to b, the elements from x up to z, the options from y up to w, stands in the sheet.
pub record StandsIn (ws : List ℕ) (end d : ℕ) (bs : List ℕ) (a b x z y w : ℕ) : Type 0 where
  pub heads : (i : ℕ) → a ≤ i → i < b → HeadIn ws end d (half bs (head_at i)) (half bs (head_at i + 1))
  pub elements : (i : ℕ) → x ≤ i → i < z → ElementIn ws end d (half bs i)
  pub options : (i : ℕ) → y ≤ i → i < w → half bs (options_at + i) + 2 ≤ end

-- So it is for one record.
pub record_stands : {ws : List ℕ} {end d : ℕ} {bs : List ℕ} (a x y : ℕ) → ListedIn ws end d bs (record_at bs a x y)
    → StandsIn ws end d bs a (a + 1) x (x + half bs (head_at a + 2)) y (y + half bs (head_at a + 3))
record_stands a x y t =
    record {
      heads = λ i h g. let e : i ≡ a = omega arith in rw e t.head;
      elements = λ i h g. let e : x + (i - x) ≡ i = omega arith in rw e at (t.elements (i - x) (omega arith));
      options = λ i h g.
          let e : options_at + y + (i - y) ≡ options_at + i = omega arith in rw e at (t.options (i - y) (omega arith));
    }

-- k records more on the stack, with their elements and options from two places on.
abbrev pub with_top : Sizes → (a x y : ℕ) → Sizes
with_top l a x y = record { out = l.out; top = record { a = a; e = x; o = y } }

pub record RunOn (bs : List ℕ) (l : Sizes) (k a x y : ℕ) : Type 0 where
  pub out_a : l.out.a ≤ a
  pub out_e : l.out.e ≤ x
  pub out_o : l.out.o ≤ y
  pub heads : a + k ≡ l.top.a
  pub elements : x + elements_of bs k a ≡ l.top.e
  pub options : y + options_of bs k a ≡ l.top.o

module _ {before after : List ℕ} {l : Sizes} {k a x y : ℕ} (laid : Laid before l) (on : RunOn after l k a x y)
    (out : Outside before after a l.top.a x l.top.e y l.top.o) where
  room_on : Free l a l.top.a x l.top.e y l.top.o
  room_on = record { out_a = on.out_a; out_e = on.out_e; out_o = on.out_o; top_a = omega arith; top_e = omega arith; top_o = omega arith }

  all_on : most_alternatives - a ≡ k + (most_alternatives - l.top.a)
  all_on = let h = on.heads in let t = laid.top_a in omega arith

  pub pushed_laid : Laid after (with_top l a x y)
  pushed_laid =
      let g = (kept laid room_on out).laid in
      let e = elements_of_append after k (most_alternatives - l.top.a) a in
      let o = options_of_append after k (most_alternatives - l.top.a) a in
      let h = on.heads in
      let u = on.elements in
      let v = on.options in
      let se = rw h at e in
      let so = rw h at o in
      let s = g.stack_e in
      let t = g.stack_o in
      let oa = on.out_a in
      let oe = on.out_e in
      let oo = on.out_o in
      record {
        long = g.long;
        out_a = on.out_a;
        out_e = on.out_e;
        out_o = on.out_o;
        top_a = omega arith;
        top_e = omega arith;
        top_o = omega arith;
        settled_e = g.settled_e;
        settled_o = g.settled_o;
        stack_e = rw all_on (omega arith);
        stack_o = rw all_on (omega arith);
      }

  pub pushed_run : (ws : List ℕ) (end d : ℕ) → StandsIn ws end d after a l.top.a x l.top.e y l.top.o
      → Pushed ws end d before after l (with_top l a x y) (records_from ws end d after k a x y)
  unfolding settled stack
  pushed_run ws end d new =
      let s = kept laid room_on out in
      let h = on.heads in
      let u = on.elements in
      let v = on.options in
      record {
        laid = pushed_laid;
        settled_same = s.settled_same ws end d;
        stack_more =
            rw (all_on, runs_append after ws end d k (most_alternatives - l.top.a) a x y, h, u, v)
            (ap (λ ps. records_from ws end d after k a x y ++ ps) (s.stack_same ws end d));
        all_in = λ all.
            let old = s.all_in ws end d all in
            record {
              heads = λ i n m.
                  ⊎_elim (λ t. old.heads i n (inl t))
                  (λ t. ⊎_elim (λ c. new.heads i t c) (λ c. old.heads i n (inr c)) (cases_lt i l.top.a)) m;
              elements = λ i n m.
                  ⊎_elim (λ t. old.elements i n (inl t))
                  (λ t. ⊎_elim (λ c. new.elements i t c) (λ c. old.elements i n (inr c)) (cases_lt i l.top.e)) m;
              options = λ i n m.
                  ⊎_elim (λ t. old.options i n (inl t))
                  (λ t. ⊎_elim (λ c. new.options i t c) (λ c. old.options i n (inr c)) (cases_lt i l.top.o)) m;
            };
        long = out.long;
      }

-- One record more on the stack.
pub record OneOn (bs : List ℕ) (l : Sizes) (a x y n m : ℕ) : Type 0 where
  pub out_a : l.out.a ≤ a
  pub out_e : l.out.e ≤ x
  pub out_o : l.out.o ≤ y
  pub head : a + 1 ≡ l.top.a
  pub elements : x + n ≡ l.top.e
  pub options : y + m ≡ l.top.o
  pub ne_is : half bs (head_at a + 2) ≡ n
  pub no_is : half bs (head_at a + 3) ≡ m

module _ {before after : List ℕ} {l : Sizes} {a x y n m : ℕ} (laid : Laid before l) (on : OneOn after l a x y n m)
    (out : Outside before after a (a + 1) x (x + n) y (y + m)) where
  run_on : RunOn after l 1 a x y
  run_on =
      let e = elements_of_one after a in
      let o = options_of_one after a in
      record {
        out_a = on.out_a;
        out_e = on.out_e;
        out_o = on.out_o;
        heads = on.head;
        elements = omega arith;
        options = omega arith;
      }

  out_on : Outside before after a l.top.a x l.top.e y l.top.o
  out_on = rw (on.head, on.elements, on.options) at out

  pub one_laid : Laid after (with_top l a x y)
  one_laid = pushed_laid laid run_on out_on

  pub pushed_one : (ws : List ℕ) (end d : ℕ) → ListedIn ws end d after (record_at after a x y)
      → Pushed ws end d before after l (with_top l a x y) (meaning ws end d after (record_at after a x y) ∷ [])
  unfolding records_from
  pushed_one ws end d t =
      pushed_run laid run_on out_on ws end d
      (rw (on.ne_is, on.no_is, on.head, on.elements, on.options) at (record_stands a x y t))

-- What comes on the stack later comes on top.
pub pushed_then : {ws : List ℕ} {end d : ℕ} {before now after : List ℕ} {l m r : Sizes} {ps qs : List (Planned d)}
    → Pushed ws end d before now l m ps → Pushed ws end d now after m r qs → Pushed ws end d before after l r (qs ++ ps)
pushed_then {ws} {end} {d} {before} {l = l} {ps = ps} {qs} p q =
    record {
      laid = q.laid;
      settled_same = q.settled_same ∙ p.settled_same;
      stack_more = q.stack_more ∙ ap (λ s. qs ++ s) p.stack_more ∙ sym (append_assoc qs ps (stack ws end d before l));
      all_in = λ all. q.all_in (p.all_in all);
      long = q.long ∙ p.long;
    }
