-- One alternative more is taken, or settled.
use Prim.Native.Nat.{ℕ, ◌+◌, ◌-◌, ◌≤◌}
use mathlib.Core.Path.{◌≡◌, refl, sym, ap, ap₂, ◌∙◌}
use mathlib.Core.List.{List, [], ◌∷◌, ◌++◌}
use mathlib.Core.Bool.{Bool, true, false}
use native.Mathlib.Omega.{arith}
use lib.ListN.{length}
use Rattle.grammar.specs.Numbers.{work_bytes}
use Rattle.grammar.specs.Tree.{Alternative, inner_depth}
use Rattle.grammar.specs.Lists.{total, each, all}
use Rattle.grammar.specs.Stands.{Spans}
use Rattle.grammar.specs.Encode.{encode_alternative, encode_block}
use Rattle.grammar.specs.Valid.{ok_alternative, ok_block}
use Rattle.grammar.specs.Found.{FoundAlternative, FoundAlternatives, AlternativeSpans}
use Rattle.grammar.specs.Fold.{AlternativeWalked}
use Rattle.grammar.specs.Laws.Opened.{first_spans, first_found}
use Rattle.reference.specs.Substitute.{Planned}
use Rattle.reference.specs.Plan.{as_it_is, as_they_are}
use Rattle.ends.specs.Ends.{skipping}
use Rattle.planned.specs.Layout.{meaning}
use Rattle.planned.specs.List.{Laid, HasTop, Located, Movable, InHand, InList, ListedIn}
use Rattle.planned.specs.Moves.{Took, Settled, IsDrained}
use Rattle.splices.specs.Moves.{Brought}
use Rattle.planned.specs.Laws.Room.{hand_movable}
use Rattle.planned.specs.Laws.Counts.{elements_all, options_all, count_elements, count_options}
use Rattle.planned.specs.declared.list.Listed.{Listed}
use Rattle.planned.specs.declared.list.Sizes.{Sizes}
use Rattle.turns.specs.Turns.{Task, Substituting}
use Rattle.turns.specs.Midway.{Ready, With, HasNext, TakenFrom}
use Rattle.turns.specs.Midway.{StackTaken, PutSettled, Shut, opened}
use Rattle.turns.specs.declared.state.State.{State}
use Rattle.turns.specs.declared.taken.Taken.{Taken}
use Rattle.turns.specs.declared.taken.Alternative.TheVariants.{Hand, Stack}
use Rattle.turns.proofs.Laws.Turns.{settle_one}

-- The same list in other words.
pub retold : {t : Task inner_depth} {budget : ℕ} {start : List (Planned inner_depth)} {left made : ℕ}
    {out out' ps ps' : List (Planned inner_depth)} → out ≡ out' → ps ≡ ps'
    → Substituting t budget start left made out ps → Substituting t budget start left made out' ps'
retold e f s = rw (← e, ← f) s

-- What is known of an alternative that was taken, part by part.
module _ {ws : List ℕ} {end : ℕ} {bs : List ℕ} {st : State} {x : Listed} (w : Shut (With ws end bs st x)) where
  pub with_laid : Laid bs st.l
  with_laid = (opened w).ready.laid

  pub with_located : Located bs x
  with_located = (opened w).located

  pub with_listed : ListedIn ws end inner_depth bs x
  with_listed = (opened w).listed

  pub with_movable : Movable st.l x
  with_movable = (opened w).movable

abbrev with_list : State → Sizes → State
with_list st l = record { l = l; left = st.left; at = st.at; all = st.all; budget = st.budget; steps = st.steps }

module _ {bs : List ℕ} (st : State) {x : Listed} {rest : Sizes} (k : Took bs st.l x rest) where
  module _ (ws : List ℕ) (end : ℕ) where
    unfoldable stack_with : Ready ws end bs st 0 0 0 → With ws end bs (with_list st rest) x
    stack_with r =
        let f = k.fewer in
        let a = f.alternatives in
        let e = f.elements in
        let o = f.options in
        let ra = r.alternatives in
        let re = r.elements in
        let ro = r.options in
        record {
          ready = record {
            laid = k.laid;
            listed = k.all_in ws end inner_depth r.listed;
            remaining = r.remaining;
            within = r.within;
            alternatives = omega arith;
            elements = omega arith;
            options = omega arith;
            few_alternatives = r.few_alternatives;
            few_elements = r.few_elements;
            few_options = r.few_options;
            counted = r.counted;
          };
          located = k.located;
          listed = k.listed ws end inner_depth r.listed;
          movable = k.movable;
        }

  pub stack_taken : {i : InList x} → StackTaken bs st (record { x = Stack (record { x = x; in_list = i }); st = with_list st rest })
  unfolding stack_with
  stack_taken =
      record {
        is = λ ws end.
            record {
              with = stack_with ws end;
              holds = λ t budget start y m.
                  record {
                    run = retold (sym (k.settled_same ws end inner_depth))
                        (ap (λ z. z ++ as_they_are y.remaining.trees) (k.stack_is ws end inner_depth)) m.run;
                  };
              fewer = λ y. let z = ap length (k.stack_is ws end inner_depth) in omega arith;
              same_budget = refl;
              same_steps = refl;
              long = refl;
            };
      }

-- The alternatives that remain: the first, and the others.
record Remaining (ws : List ℕ) (end : ℕ) {n at : ℕ} (there : ℕ) (f : FoundAlternatives ws end inner_depth n at) : Type 0 where
  first : Alternative
  next : ℕ
  spans : AlternativeSpans ws end inner_depth at first next
  others : FoundAlternatives ws end inner_depth (n - 1) there
  are : f.trees ≡ first ∷ others.trees

remaining : {ws : List ℕ} {end n at there : ℕ} (f : FoundAlternatives ws end inner_depth n at) → (n ≡ 0 → ⊥)
    → AlternativeWalked skipping ws end inner_depth at tt there tt → Remaining ws end there f
remaining {ws} {end} {n} {at} {there} f h w = go f.trees refl f.spans f.count
  where
    go : (as' : List Alternative) → f.trees ≡ as'
        → Spans ws end (each (encode_alternative (encode_block inner_depth))) (all (ok_alternative (ok_block inner_depth))) at as' f.next
        → length as' ≡ n → Remaining ws end there f
    go [] e s c = absurd (h (sym c))
    go (a ∷ as') e s c =
        let t = first_spans s in
        record {
          first = a;
          next = t.0;
          spans = t.1;
          others = record { trees = as'; next = f.next; spans = rw (w.passed a t.0 t.1) t.2; count = omega arith };
          are = e;
        }

-- The hub's next alternative.
module _ {ws : List ℕ} {end : ℕ} {before after : List ℕ} (st : State) {x : Listed} {there : ℕ}
    (b : Brought ws end inner_depth st.at before after x) (w : AlternativeWalked skipping ws end inner_depth st.at tt there tt)
    (h : st.left ≡ 0 → ⊥) where
  module _ (r : Ready ws end before st 0 0 0) where
    m : Remaining ws end there r.remaining
    m = remaining r.remaining h w

    meant : meaning ws end inner_depth after x ≡ as_it_is m.first
    meant = b.meant m.first m.next m.spans

    many_elements : elements_all (as_they_are r.remaining.trees) ≡ x.ne + elements_all (as_they_are m.others.trees)
    unfolding as_they_are total
    many_elements =
        let e = count_elements ws end inner_depth after x in
        let f = ap (λ p. length p.elements) meant in
        ap (λ ts. elements_all (as_they_are ts)) m.are ∙ omega arith

    many_options : options_all (as_they_are r.remaining.trees) ≡ x.no + options_all (as_they_are m.others.trees)
    unfolding as_they_are total
    many_options =
        let e = count_options ws end inner_depth after x in
        let f = ap (λ p. length p.options) meant in
        ap (λ ts. options_all (as_they_are ts)) m.are ∙ omega arith

  abbrev past : State
  past = record { l = st.l; left = st.left - 1; at = there; all = st.all; budget = st.budget; steps = st.steps }

  unfoldable hub_with : Ready ws end before st 0 0 0 → With ws end after past x
  hub_with r =
      let e = b.same st.l r.laid in
      let me = many_elements r in
      let mo = many_options r in
      let ra = r.alternatives in
      let re = r.elements in
      let ro = r.options in
      let fa = r.few_alternatives in
      let fe = r.few_elements in
      let fo = r.few_options in
      record {
        ready = record {
          laid = e.laid;
          listed = e.all_in ws end inner_depth r.listed;
          remaining = (m r).others;
          within = w.within;
          alternatives = omega arith;
          elements = omega arith;
          options = omega arith;
          few_alternatives = fa;
          few_elements = fe;
          few_options = fo;
          counted = r.counted;
        };
        located = b.located;
        listed = b.listed;
        movable =
            hand_movable e.laid b.in_hand
            (record { alternatives = omega arith; elements = omega arith; options = omega arith });
      }

  pub hub_taken : IsDrained st.l true → {i : InHand x}
      → TakenFrom ws end before after st (record { x = Hand (record { x = x; in_hand = i }); st = past })
  unfolding hub_with as_they_are
  hub_taken k =
      record {
        with = hub_with;
        holds = λ t budget start y n.
            let e = b.same st.l y.laid in
            let none = k.done refl ws end inner_depth before y.laid in
            record {
              run =
                  retold (sym (e.settled_same ws end inner_depth))
                  (ap₂ (λ z ts. z ++ as_they_are ts) none (m y).are
                  ∙ ap₂ (λ p z. p ∷ (z ++ as_they_are (m y).others.trees)) (sym (meant y)) (sym (e.stack_same ws end inner_depth ∙ none)))
                  n.run;
            };
        fewer = λ y. let z = ap length ((b.same st.l y.laid).stack_same ws end inner_depth) in omega arith;
        same_budget = refl;
        same_steps = refl;
        long = b.long;
      }

-- What was taken is settled.
module _ {before after : List ℕ} (st : State) {x : Listed} {l : Sizes} (k : Settled before after st.l l x) where
  unfoldable put_ready : (ws : List ℕ) (end : ℕ) → With ws end before st x → Ready ws end after (with_list st l) 0 0 0
  put_ready ws end w =
      let r = w.ready in
      let ga = k.grown.alternatives in
      let ge = k.grown.elements in
      let go = k.grown.options in
      let ra = r.alternatives in
      let re = r.elements in
      let ro = r.options in
      record {
        laid = k.laid;
        listed = k.all_in ws end inner_depth r.listed w.listed;
        remaining = r.remaining;
        within = r.within;
        alternatives = omega arith;
        elements = omega arith;
        options = omega arith;
        few_alternatives = r.few_alternatives;
        few_elements = r.few_elements;
        few_options = r.few_options;
        counted = r.counted;
      }

  pub put_settled_lem : PutSettled before after st x (with_list st l)
  unfolding put_ready
  put_settled_lem =
      record {
        is = λ ws end.
            record {
              ready = put_ready ws end;
              goes = λ t budget start w h i.
                  record {
                    run = retold (sym (k.settled_more ws end inner_depth))
                        (ap (λ z. z ++ as_they_are w.ready.remaining.trees) (sym (k.stack_same ws end inner_depth)))
                        (settle_one h.run i);
                  };
              same = let z = ap length (k.stack_same ws end inner_depth) in omega arith;
              same_budget = refl;
              long = k.long;
            };
      }

-- Which is next.
pub next_top : {st : State} → HasNext st → st.left ≡ 0 → HasTop st.l
next_top n e = n.top e

pub drained_more : {l : Sizes} {r : Bool} → IsDrained l r → r ≡ false → HasTop l
drained_more d e = d.more e

pub drained_done : {l : Sizes} {r : Bool} → IsDrained l r → r ≡ true → IsDrained l true
drained_done d e = rw e at d

module _ {ws : List ℕ} {end : ℕ} {bs : List ℕ} {st : State} (r : Shut (Ready ws end bs st 0 0 0)) where
  pub hub_found : (st.left ≡ 0 → ⊥) → FoundAlternative ws end inner_depth st.at
  hub_found h = first_found (opened r).remaining h

  pub work_long : work_bytes ≤ length bs
  work_long = (opened r).laid.long

  pub list_laid : Laid bs st.l
  list_laid = (opened r).laid

pub stack_is_lem : {ws : List ℕ} {end : ℕ} {bs : List ℕ} {st : State} {r : Taken} → StackTaken bs st r → TakenFrom ws end bs bs st r
stack_is_lem {ws} {end} k = k.is ws end

pub ruleset taking = (stack_taken, hub_taken, next_top, drained_more, drained_done, hub_found, work_long, list_laid, stack_is_lem)
