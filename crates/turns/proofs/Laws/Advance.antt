-- A step done: the list is beyond the limits, or the substitution goes on.
use Prim.Native.Nat.{ℕ, ◌+◌, ◌-◌, ◌<◌}
use mathlib.Core.Path.{◌≡◌, refl, sym, ap, ap₂, ◌∙◌}
use mathlib.Core.List.{List, [], ◌∷◌, ◌++◌, append_assoc}
use mathlib.Core.Option.{some}
use mathlib.Core.Bool.{Bool, true, false}
use native.Mathlib.Omega.{arith}
use lib.ListN.{length, length-append, length-map}
use lib.Dec.{leb}
use borrow.Author.Tests.{leb-true}
use Rattle.grammar.specs.Form.{newest}
use Rattle.grammar.specs.Tree.{Rule, Alternative, inner_depth, body_depth}
use Rattle.grammar.specs.Stands.{Spans}
use Rattle.grammar.specs.Encode.{encode_alternative, encode_block}
use Rattle.grammar.specs.Valid.{ok_alternative, ok_block}
use Rattle.grammar.specs.Lists.{each, all}
use Rattle.grammar.specs.Found.{RuleSpans, FoundRule}
use Rattle.grammar.specs.Parse.{got}
use Rattle.grammar.specs.Read.{block_at}
use Rattle.grammar.specs.Laws.Opened.{first_spans}
use Rattle.grammar.specs.Laws.Complete.{alternative_complete, block_complete}
use Rattle.reference.specs.Substitute.{Planned, decided, is_within}
use Rattle.reference.specs.Plan.{as_it_is, as_they_are}
use Rattle.planned.specs.Layout.{meaning, settled, stack}
use Rattle.planned.specs.List.{HasRoom, InHand}
use Rattle.planned.specs.Moves.{Pushed}
use Rattle.splices.specs.Splice.{HandIn}
use Rattle.planned.specs.Laws.Counts.{elements_all, options_all, elements_all_lem, options_all_lem, alternatives_in_lem, elements_in_lem, options_in_lem}
use Rattle.planned.specs.declared.list.Listed.{Listed}
use Rattle.planned.specs.declared.list.Sizes.{Sizes}
use Rattle.splices.specs.declared.splice.Size.{Size}
use Rattle.turns.specs.Turns.{Task, Replaced}
use Rattle.steps.specs.Decide.{SmallSize}
use Rattle.steps.specs.Step.{step_by, GoesTo, Goable, PushedBy}
use Rattle.turns.specs.Midway.{Ready, pending, With, Midway, limits_of, within_limits, CanReplace, SizeAfter}
use Rattle.turns.specs.Midway.{Shut, opened}
use Rattle.turns.specs.Turn.{SteppedTo}
use Rattle.turns.specs.declared.limits.Limits.{Limits}
use Rattle.turns.specs.declared.state.State.{State}
use Rattle.std.specs.Prelude.{Ok, Err}
use Rattle.std.specs.Cmp.{first_so, second_so}
use Rattle.turns.specs.declared.turn.Unplanned.TheVariants.{Overfull}
use Rattle.turns.proofs.Laws.Turns.{substitute_over, substitute_more}
use Rattle.turns.proofs.Laws.Midway.{retold, with_laid}

-- The alternatives that stand at a place are the same, whoever found them.
same_trees : {ws : List ℕ} {end : ℕ} (as' bs' : List Alternative) {at : ℕ} (p q : ℕ)
    → Spans ws end (each (encode_alternative (encode_block inner_depth))) (all (ok_alternative (ok_block inner_depth))) at as' p
    → Spans ws end (each (encode_alternative (encode_block inner_depth))) (all (ok_alternative (ok_block inner_depth))) at bs' q
    → length as' ≡ length bs' → as' ≡ bs'
same_trees [] [] p q s t e = refl
same_trees [] (b ∷ bs') p q s t e = absurd (omega arith)
same_trees (a ∷ as') [] p q s t e = absurd (omega arith)
same_trees {ws} {end} (a ∷ as') (b ∷ bs') {at} p q s t e =
    let f = first_spans s in
    let g = first_spans t in
    let complete =
    alternative_complete newest ws end (block_at ws end inner_depth) (encode_block inner_depth) (ok_block inner_depth)
    (block_complete newest ws end inner_depth) in
    let x : got a f.0 ≡ got b g.0 = sym (complete at a f.0 f.1) ∙ complete at b g.0 g.1 in
    let y : a ≡ b = cc in
    let z : f.0 ≡ g.0 = cc in
    let u : Spans ws end (each (encode_alternative (encode_block inner_depth))) (all (ok_alternative (ok_block inner_depth))) f.0 bs' q =
    rw z g.2 in
    ap₂ ◌∷◌ y (same_trees as' bs' p q f.2 u (omega arith))

same_remaining : {ws : List ℕ} {end : ℕ} {bs : List ℕ} {st : State} (y z : Ready ws end bs st 0 0 0)
    → y.remaining.trees ≡ z.remaining.trees
same_remaining y z =
    same_trees y.remaining.trees z.remaining.trees y.remaining.next z.remaining.next
    y.remaining.spans z.remaining.spans (y.remaining.count ∙ sym z.remaining.count)

-- So it does not matter who found them.
pub midway_same : {ws : List ℕ} {end : ℕ} {bs : List ℕ} {st : State} {t : Task inner_depth} {most : ℕ} {start : List (Planned inner_depth)}
    {y : Ready ws end bs st 0 0 0} → Midway ws end bs st t most start y → (z : Ready ws end bs st 0 0 0)
    → Midway ws end bs st t most start z
midway_same {ws} {end} {bs} {st} {y = y} m z =
    record { run = retold refl (ap (λ ts. stack ws end inner_depth bs st.l ++ as_they_are ts) (same_remaining y z)) m.run }

-- How large the list is with ps in the place of x.
module _ {ws : List ℕ} {end : ℕ} {bs : List ℕ} (limits : Limits) (st : State) {h : Listed} (w : With ws end bs st h)
    {z r : Size} (a : SizeAfter st.all h z r) where
  module _ {m : _} (g : GoesTo inner_depth m z) where
    abbrev whole : List (Planned inner_depth)
    whole = settled ws end inner_depth bs st.l ++ (g.ps ++ pending ws end bs st w.ready)

    count_whole : length whole ≡ r.a
    unfolding as_they_are
    count_whole =
        let s = settled ws end inner_depth bs st.l in
        let t = stack ws end inner_depth bs st.l in
        let rest = as_they_are w.ready.remaining.trees in
        let i = length-append s (g.ps ++ (t ++ rest)) in
        let j = length-append g.ps (t ++ rest) in
        let k = length-append t rest in
        let n = alternatives_in_lem ws end inner_depth bs st.l w.ready.laid in
        let c = length-map w.ready.remaining.trees as_it_is in
        let o = w.ready.remaining.count in
        let e = w.ready.alternatives in
        let f = a.alternatives in
        let x = g.alternatives in
        omega arith

    elements_whole : elements_all whole ≡ r.e
    elements_whole =
        let s = settled ws end inner_depth bs st.l in
        let t = stack ws end inner_depth bs st.l in
        let rest = as_they_are w.ready.remaining.trees in
        let i = elements_all_lem s (g.ps ++ (t ++ rest)) in
        let j = elements_all_lem g.ps (t ++ rest) in
        let k = elements_all_lem t rest in
        let n = elements_in_lem ws end inner_depth bs st.l w.ready.laid in
        let e = w.ready.elements in
        let f = a.elements in
        let x = g.elements in
        omega arith

    options_whole : options_all whole ≡ r.o
    options_whole =
        let s = settled ws end inner_depth bs st.l in
        let t = stack ws end inner_depth bs st.l in
        let rest = as_they_are w.ready.remaining.trees in
        let i = options_all_lem s (g.ps ++ (t ++ rest)) in
        let j = options_all_lem g.ps (t ++ rest) in
        let k = options_all_lem t rest in
        let n = options_in_lem ws end inner_depth bs st.l w.ready.laid in
        let e = w.ready.options in
        let f = a.options in
        let x = g.options in
        omega arith

    within_is : is_within inner_depth (limits_of limits) whole ≡ within_limits limits r
    unfolding is_within
    within_is = rw (count_whole, elements_whole, options_whole) refl

  room_for : {b : Bool} → b ≡ within_limits limits r → b ≡ true → HasRoom st.l z.a z.e z.o
  room_for e f =
      let t = sym e ∙ f in
      let x = leb-true r.a limits.alternatives (first_so (leb r.a limits.alternatives) _ t) in
      let u = second_so (leb r.a limits.alternatives) _ t in
      let y = leb-true r.e limits.elements (first_so (leb r.e limits.elements) _ u) in
      let v = leb-true r.o limits.options (second_so (leb r.e limits.elements) _ u) in
      let aa = a.alternatives in
      let ae = a.elements in
      let ao = a.options in
      let ra = w.ready.alternatives in
      let re = w.ready.elements in
      let ro = w.ready.options in
      let fa = limits.fit.few_alternatives in
      let fe = limits.fit.few_elements in
      let fo = limits.fit.few_options in
      record { alternatives = omega arith; elements = omega arith; options = omega arith }

-- The definition's step is what was decided.
goes_now : {ws : List ℕ} {end at : ℕ} {bs : List ℕ} {h : Listed} {index : ℕ} {optional : Bool} {z : Size}
    (t : Task inner_depth) {rule : Rule} {q : ℕ} → (k : Goable ws end inner_depth at bs h index optional z)
    → (s : RuleSpans ws end body_depth at rule q)
    → Replaced t (meaning ws end inner_depth bs h) (step_by inner_depth (meaning ws end inner_depth bs h) index rule optional)
    → Replaced t (meaning ws end inner_depth bs h) (decided (k.goes rule q s).ps)
goes_now t {rule} {q} k s r = record { is = r.is ∙ ap some (k.goes rule q s).is }

module _ {ws : List ℕ} {end : ℕ} {before : List ℕ} (limits : Limits) (st : State) {h : Listed} {index at : ℕ} {optional : Bool}
    {z more : Size} (left : st.budget ≡ 0 → ⊥) (k : Goable ws end inner_depth at before h index optional z)
    (a : SizeAfter st.all h z more) where
  pub advance_over : {b : Bool} → b ≡ within_limits limits more → b ≡ false
      → SteppedTo ws end before before st h index at optional limits (Err Overfull)
  advance_over e f =
      record {
        ready = λ next x. absurd (let y : ◌≡◌ {A = ℕ} 0 1 = cc in omega arith);
        spent = λ next x. absurd (let y : ◌≡◌ {A = ℕ} 0 1 = cc in omega arith);
        is = λ t budget start l w o rule q s r.
            (substitute_over o.run (goes_now t k s r) left
            (ap (λ m. is_within inner_depth m (whole limits st w a (k.goes rule q s))) l
            ∙ within_is limits st w a (k.goes rule q s) ∙ sym e ∙ f)).is;
        long = refl;
      }

  module _ {after : List ℕ} {l : Sizes} (shut_with : Shut (With ws end before st h)) (found : FoundRule ws end at)
      (p : PushedBy ws end inner_depth at before after st.l l h index optional z) {b : Bool}
      (e : b ≡ within_limits limits more) (f : b ≡ true) where
    w : With ws end before st h
    w = opened shut_with

    abbrev next : State
    next = record { l = l; left = st.left; at = st.at; all = more; budget = st.budget - 1; steps = st.steps + 1 }

    pushed : (rule : Rule) (q : ℕ) (s : RuleSpans ws end body_depth at rule q)
        → Pushed ws end inner_depth before after st.l l (k.goes rule q s).ps
    pushed rule q s = p.is rule q s (k.goes rule q s)

    ready_next : Ready ws end after next 0 0 0
    ready_next =
        let r = w.ready in
        let t = sym e ∙ f in
        let x = leb-true more.a limits.alternatives (first_so (leb more.a limits.alternatives) _ t) in
        let u = second_so (leb more.a limits.alternatives) _ t in
        let y = leb-true more.e limits.elements (first_so (leb more.e limits.elements) _ u) in
        let v = leb-true more.o limits.options (second_so (leb more.e limits.elements) _ u) in
        let ga = p.grown.alternatives in
        let ge = p.grown.elements in
        let go = p.grown.options in
        let aa = a.alternatives in
        let ae = a.elements in
        let ao = a.options in
        let ra = r.alternatives in
        let re = r.elements in
        let ro = r.options in
        let fa = limits.fit.few_alternatives in
        let fe = limits.fit.few_elements in
        let fo = limits.fit.few_options in
        let c = r.counted in
        record {
          laid = p.laid;
          listed = (pushed found.tree found.next found.spans).all_in r.listed;
          remaining = r.remaining;
          within = r.within;
          alternatives = omega arith;
          elements = omega arith;
          options = omega arith;
          few_alternatives = omega arith;
          few_elements = omega arith;
          few_options = omega arith;
          counted = omega arith;
        }

    pub advance_on : SteppedTo ws end before after st h index at optional limits (Ok next)
    advance_on =
        record {
          ready = λ n x. let y : next ≡ n = cc in rw (← y) ready_next;
          spent = λ n x. let y : next ≡ n = cc in rw (← y) (omega arith);
          is = λ t budget start m v o rule q s r y.
              let within : is_within inner_depth t.limits (whole limits st v a (k.goes rule q s)) ≡ true =
              ap (λ j. is_within inner_depth j (whole limits st v a (k.goes rule q s))) m
              ∙ within_is limits st v a (k.goes rule q s) ∙ sym e ∙ f in
              let g = pushed rule q s in
              let trees : v.ready.remaining.trees ≡ y.remaining.trees =
              same_trees v.ready.remaining.trees y.remaining.trees v.ready.remaining.next y.remaining.next
              v.ready.remaining.spans y.remaining.spans (v.ready.remaining.count ∙ sym y.remaining.count) in
              record {
                run =
                    retold (sym g.settled_same)
                    (sym (append_assoc (k.goes rule q s).ps (stack ws end inner_depth before st.l)
                    (as_they_are v.ready.remaining.trees))
                    ∙ ap₂ (λ i j. i ++ as_they_are j) (sym g.stack_more) trees)
                    (substitute_more o.run (goes_now t k s r) left within);
              };
          long = p.long;
        }

module _ {ws : List ℕ} {end : ℕ} {bs : List ℕ} {st : State} {h : Listed} (w : Shut (With ws end bs st h)) where
  pub hand_in : {index : ℕ} → InHand h → index < h.ne → HandIn ws end inner_depth h index bs
  hand_in i l = record { below = l; in_hand = i; located = (opened w).located; listed = (opened w).listed }

  pub can_replace : {z : Size} → SmallSize z → CanReplace st.all h z
  can_replace y =
      let r = (opened w).ready in
      let ra = r.alternatives in
      let re = r.elements in
      let ro = r.options in
      let fa = r.few_alternatives in
      let fe = r.few_elements in
      let fo = r.few_options in
      record {
        all = record { alternatives = omega arith; elements = omega arith; options = omega arith };
        size = y;
        alternatives = omega arith;
        elements = omega arith;
        options = omega arith;
      }

  pub advance_room : (limits : Limits) {z r : Size} → SizeAfter st.all h z r → {b : Bool} → b ≡ within_limits limits r → b ≡ true
      → HasRoom st.l z.a z.e z.o
  advance_room limits a e f = room_for limits st (opened w) a e f

pub ruleset advancing = (hand_in, with_laid, can_replace, advance_room, advance_over, advance_on)
