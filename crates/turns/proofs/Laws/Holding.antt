-- What was taken comes into the hand.
use Prim.Native.Nat.{ℕ}
use mathlib.Core.Path.{refl, sym, ap, ap₂}
use mathlib.Core.List.{List, ◌∷◌, ◌++◌}
use native.Mathlib.Omega.{arith}
use lib.ListN.{length}
use Rattle.grammar.specs.Tree.{inner_depth}
use Rattle.reference.specs.Plan.{as_they_are}
use Rattle.planned.specs.List.{Laid, InHand}
use Rattle.planned.specs.Moves.{Handed}
use Rattle.planned.specs.Laws.Room.{hand_movable}
use Rattle.planned.specs.declared.list.Listed.{Listed}
use Rattle.turns.specs.Midway.{With, Held}
use Rattle.turns.specs.declared.state.State.{State}
use Rattle.turns.proofs.Laws.Midway.{retold}

pub held_already : {bs : List ℕ} (st : State) {x : Listed} → InHand x → Held bs bs st x x
held_already st i =
    record {
      is = λ ws end. record { with = λ w. w; holds = λ t budget start w h. h; meant = refl; same = refl };
      in_hand = i;
      elements = refl;
      options = refl;
      long = refl;
    }

module _ {before after : List ℕ} (st : State) {x h : Listed} (laid : Laid before st.l) (k : Handed before after st.l x h) where
  unfoldable held_with : (ws : List ℕ) (end : ℕ) → With ws end before st x → With ws end after st h
  held_with ws end w =
      let r = w.ready in
      let e = k.same laid in
      let ne = k.elements in
      let no' = k.options in
      let ra = r.alternatives in
      let re = r.elements in
      let ro = r.options in
      let fa = r.few_alternatives in
      let fe = r.few_elements in
      let fo = r.few_options in
      record {
        ready = record {
          laid = e.laid;
          listed = e.all_in ws end inner_depth r.listed;
          remaining = r.remaining;
          within = r.within;
          alternatives = ra;
          elements = omega arith;
          options = omega arith;
          few_alternatives = fa;
          few_elements = fe;
          few_options = fo;
          counted = r.counted;
        };
        located = k.located;
        listed = k.listed ws end inner_depth w.listed;
        movable =
            hand_movable e.laid k.in_hand
            (record { alternatives = omega arith; elements = omega arith; options = omega arith });
      }

  pub held_now : Held before after st x h
  unfolding held_with
  held_now =
      let e = k.same laid in
      record {
        is = λ ws end.
            record {
              with = held_with ws end;
              holds = λ t budget start w y.
                  record {
                    run =
                        retold (sym (e.settled_same ws end inner_depth))
                        (ap₂ (λ p z. p ∷ (z ++ as_they_are w.ready.remaining.trees)) (sym (k.meant ws end inner_depth))
                        (sym (e.stack_same ws end inner_depth)))
                        y.run;
                  };
              meant = k.meant ws end inner_depth;
              same = let z = ap length (e.stack_same ws end inner_depth) in omega arith;
            };
        in_hand = k.in_hand;
        elements = k.elements;
        options = k.options;
        long = k.long;
      }
