-- A step on what was taken: in hand, decided, done.
use Prim.Native.Nat.{ℕ, ◌+◌, ◌≤◌, ◌<◌}
use mathlib.Core.Path.{◌≡◌, refl, sym, ap, ap₂, ◌∙◌, subst}
use mathlib.Core.List.{List, ◌∷◌, ◌++◌}
use mathlib.Core.Option.{some}
use mathlib.Core.Bool.{Bool, true, false}
use native.Mathlib.Omega.{arith}
use lib.ListN.{drop}
use Rattle.grammar.specs.Tree.{inner_depth}
use Rattle.grammar.specs.Found.{FoundRule}
use Rattle.reference.specs.Plan.{as_they_are}
use Rattle.planned.specs.Layout.{meaning}
use Rattle.planned.specs.List.{Located, SameList}
use Rattle.planned.specs.Laws.Same.{same_located, same_meaning, same_listed, same_ends}
use Rattle.planned.specs.Laws.Items.{call_at}
use Rattle.planned.specs.declared.list.Listed.{Listed}
use Rattle.splices.specs.declared.splice.Size.{Size}
use Rattle.turns.specs.Turns.{Task, Replaced}
use Rattle.steps.specs.Decide.{SmallSize}
use Rattle.steps.specs.Step.{step_by, DecidedAt, Goable, RuleNamed, RuleUnreferring, CallIn}
use Rattle.turns.specs.Midway.{Shut, shut, opened, With, Holding, Held}
use Rattle.turns.specs.Turn.{Called, called, SteppedTo}
use Rattle.std.specs.Prelude.{Result, Ok, Err}
use Rattle.steps.specs.declared.decide.Clause.{Clause}
use Rattle.steps.specs.declared.decide.Clause.TheVariants.{Budget}
use Rattle.turns.specs.declared.turn.Unplanned.{Unplanned}
use Rattle.turns.specs.declared.turn.Unplanned.TheVariants.{Declined}
use Rattle.turns.specs.declared.limits.Limits.{Limits}
use Rattle.turns.specs.declared.state.State.{State}
use Rattle.turns.proofs.Laws.Turns.{substitute_spent, substitute_declined}
use Rattle.turns.proofs.Laws.Midway.{retold, with_laid, with_located, with_listed, with_movable}

-- What stands in the list is the same while names are marked.
module _ {ws : List ℕ} {end : ℕ} {before after : List ℕ} {st : State} {h : Listed} (s : SameList before after) where
  unfoldable same_with : With ws end before st h → With ws end after st h
  same_with w =
      let r = w.ready in
      let e = same_ends s r.laid in
      record {
        ready = record {
          laid = e.laid;
          listed = e.all_in ws end inner_depth r.listed;
          remaining = r.remaining;
          within = r.within;
          alternatives = r.alternatives;
          elements = r.elements;
          options = r.options;
          few_alternatives = r.few_alternatives;
          few_elements = r.few_elements;
          few_options = r.few_options;
          counted = r.counted;
        };
        located = same_located s w.located;
        listed = same_listed s w.located ws end inner_depth w.listed;
        movable = w.movable;
      }

  same_holding : (t : Task inner_depth) (most : ℕ) (start : _) (w : With ws end before st h) → Holding ws end before st t most start h w
      → Holding ws end after st t most start h (same_with w)
  unfolding same_with
  same_holding t most start w o =
      let e = same_ends s w.ready.laid in
      record {
        run =
            retold (sym (e.settled_same ws end inner_depth))
            (ap₂ (λ p z. p ∷ (z ++ as_they_are w.ready.remaining.trees)) (sym (same_meaning s w.located ws end inner_depth))
            (sym (e.stack_same ws end inner_depth)))
            o.run;
      }

-- The call of a rule.
module _ {ws : List ℕ} {end : ℕ} {bs : List ℕ} {x : Listed} {index name at : ℕ} {optional : Bool}
    (c : Called ws end bs x index name at optional) where
  pub called_room : at + 4 ≤ end
  called_room = go c
    where
      go : Called ws end bs x index name at optional → at + 4 ≤ end
      go (called a f n u i) = a

  pub called_found : FoundRule ws end at
  called_found = go c
    where
      go : Called ws end bs x index name at optional → FoundRule ws end at
      go (called a f n u i) = f

  pub called_named : RuleNamed ws end inner_depth at name
  called_named = go c
    where
      go : Called ws end bs x index name at optional → RuleNamed ws end inner_depth at name
      go (called a f n u i) = n

  pub called_unreferring : optional ≡ false → RuleUnreferring ws end inner_depth at
  called_unreferring = go c
    where
      go : Called ws end bs x index name at optional → optional ≡ false → RuleUnreferring ws end inner_depth at
      go (called a f n u i) = u

  called_in : optional ≡ true → CallIn (meaning ws end inner_depth bs x).elements index
  called_in = go c
    where
      go : Called ws end bs x index name at optional → optional ≡ true → CallIn (meaning ws end inner_depth bs x).elements index
      go (called a f n u i) = i

module _ {ws : List ℕ} {end : ℕ} {before mid : List ℕ} {st : State} {h : Listed} {index at : ℕ} {optional : Bool} {k : Result Size Clause}
    (d : DecidedAt ws end inner_depth at before mid h index optional k) where
  -- It is declined.
  pub stepped_declined : (limits : Limits) {n : Clause} → k ≡ Err n → (st.budget ≡ 0 → ⊥)
      → SteppedTo ws end before mid st h index at optional limits (Err (Declined n))
  stepped_declined limits {n} e left =
      let f = rw e at d in
      record {
        ready = λ next x. absurd (let y : ◌≡◌ {A = ℕ} 0 1 = cc in omega arith);
        spent = λ next x. absurd (let y : ◌≡◌ {A = ℕ} 0 1 = cc in omega arith);
        is = λ t most start l w o rule q s r.
            let x = f.is rule q s in
            record { is = (substitute_declined o.run (record { is = r.is ∙ ap some x.is }) left).is };
        long = f.list.long;
      }

  module _ (w : Shut (With ws end before st h)) where
    pub decided_with : Shut (With ws end mid st h)
    decided_with = shut (same_with d.list (opened w))

    module _ {z : Size} (e : k ≡ Ok z) where
      pub decided_small : SmallSize z
      decided_small = d.small z e

      pub decided_goable : {name : ℕ} → Called ws end before h index name at optional → index < h.ne
          → Goable ws end inner_depth at mid h index optional z
      decided_goable c l =
          let same = same_meaning d.list (opened w).located ws end inner_depth in
          let f = rw e at d in
          record {
            goes = λ t q s. rw same (f.is t q s);
            split = λ o. d.split o z e;
            call = λ o.
                call_at (same_listed d.list (opened w).located ws end inner_depth (opened w).listed) l
                (ap (λ p. drop index p.elements) same ∙ (called_in c o).is);
          }

    -- It was decided, and is done.
    pub stepped_on : (limits : Limits) {after : List ℕ} {r : Result State Unplanned} → SteppedTo ws end mid after st h index at optional limits r
        → SteppedTo ws end before after st h index at optional limits r
    stepped_on limits v =
        let same = same_meaning d.list (opened w).located ws end inner_depth in
        record {
          ready = v.ready;
          spent = v.spent;
          is = λ t most start l y o rule q s r.
              v.is t most start l (same_with d.list y) (same_holding d.list t most start y o) rule q s (rw same r);
          long = v.long ∙ d.list.long;
        }

pub ruleset stepping =
    (called_room, called_found, called_named, called_unreferring, stepped_declined, decided_with, decided_small, stepped_on, with_listed)

-- The step beyond the budget.
pub stepped_spent : (ws : List ℕ) (end : ℕ) (bs : List ℕ) (st : State) (x : Listed) (index at : ℕ) (optional : Bool) (limits : Limits)
    → st.budget ≡ 0 → SteppedTo ws end bs bs st x index at optional limits (Err (Declined Budget))
stepped_spent ws end bs st x index at optional limits z =
    record {
      ready = λ next e. absurd (let y : ◌≡◌ {A = ℕ} 0 1 = cc in omega arith);
      spent = λ next e. absurd (let y : ◌≡◌ {A = ℕ} 0 1 = cc in omega arith);
      is = λ t most start l w o rule q s r. record { is = (substitute_spent o.run r z).is };
      long = refl;
    }

pub held_index : {before mid : List ℕ} {st : State} {x h : Listed} → Held before mid st x h → {index : ℕ} → index < x.ne → index < h.ne
held_index k l = let e = k.elements in omega arith

-- What was taken is in hand.
module _ {ws : List ℕ} {end : ℕ} {before mid : List ℕ} {st : State} {x h : Listed} (k : Held before mid st x h) where
  pub held_shut : Shut (With ws end before st x) → Shut (With ws end mid st h)
  held_shut w = shut ((k.is ws end).with (opened w))

  pub held_located : Shut (With ws end before st x) → Located mid h
  held_located w = ((k.is ws end).with (opened w)).located

  pub held_called : {index name at : ℕ} (optional : Bool) → Called ws end before x index name at optional
      → Called ws end mid h index name at optional
  held_called {index} {name} {at} optional c =
      called (called_room c) (called_found c) (called_named c) (called_unreferring c) λ o.
      subst (λ p. CallIn p.elements index) (sym (k.is ws end).meant) (called_in c o)

  pub stepped_held : {after : List ℕ} {index at : ℕ} (optional : Bool) (limits : Limits) {r : Result State Unplanned}
      → SteppedTo ws end mid after st h index at optional limits r → SteppedTo ws end before after st x index at optional limits r
  stepped_held {index = index} optional limits v =
      let j = k.is ws end in
      record {
        ready = v.ready;
        spent = v.spent;
        is = λ t most start l y o rule q s r.
            v.is t most start l (j.with y) (j.holds t most start y o) rule q s
            (subst (λ p. Replaced t p (step_by inner_depth p index rule optional)) (sym j.meant) r);
        long = v.long ∙ k.long;
      }

pub ruleset held =
    (stepped_spent, held_index, held_shut, held_located, held_called, stepped_held, with_laid, with_located, with_movable)
