-- One step: what stands around the element, then the step whole.
use Prim.Native.Nat.{ℕ, zero, suc, ◌+◌, ◌-◌, ◌*◌, ◌<◌}
use mathlib.Core.Path.{◌≡◌, refl, sym, ap, ◌∙◌, subst}
use mathlib.Core.List.{List, [], ◌∷◌}
use mathlib.Core.Bool.{Bool, true, false, true≢false, false≢true}
use native.Mathlib.Omega.{arith}
use lib.ListN.{length}
use Rattle.grammar.specs.Tree.{Element, Block, RuleOf}
use Rattle.grammar.specs.Lists.{total}
use Rattle.grammar.specs.Found.{RuleSpans}
use Rattle.reference.specs.Substitute.{remaining_actions_reference}
use Rattle.reference.specs.Substitute.{split_optional, splice_satellite, without, with_plain}
use Rattle.planned.specs.Layout.{meaning}
use Rattle.planned.specs.List.{Located, InHand}
use Rattle.planned.specs.declared.list.Listed.{Listed}
use Rattle.splices.specs.declared.splice.Size.{Size}
use Rattle.planned.specs.Laws.Same.{same_refl, same_meaning}
use Rattle.planned.specs.Laws.Counts.{count_elements, count_options}
use Rattle.collisions.specs.Quiet.{is_quiet}
use Rattle.collisions.specs.Mark.{MarkedAround}
use Rattle.collisions.proofs.Laws.Silent.{quiet_silent}
use Rattle.steps.specs.Decide.{DeclinedBy, Searchable, SmallSize, HandFits, RuleSized}
use Rattle.steps.specs.Step.{splits, RuleNamed, RuleUnreferring, step_by, GoesTo, DecisionOf, SafeAround, PreparedTo, PreparedFor, DecidedAt}
use Rattle.std.specs.Prelude.{Result, Ok, Err}
use Rattle.std.proofs.lemmas.Bool.{both_ways}
use Rattle.steps.specs.declared.decide.Clause.{Clause}
use Rattle.steps.specs.declared.decide.Clause.TheVariants.{DanglingReference}
use Rattle.steps.specs.declared.step.Step.{Step}
use Rattle.steps.specs.declared.step.Step.TheVariants.{Split, Splice}

module _ {ws : List ℕ} {end : ℕ} (d : ℕ) {es : List (Element (Block d))} {index name : ℕ} where
  pub prepared_quiet : {b : Bool} (bs : List ℕ) → b ≡ is_quiet d es → b ≡ true → PreparedFor ws end d es index name bs bs (Ok true)
  prepared_quiet bs e f =
      let s = quiet_silent d es index (sym e ∙ f) in
      record {
        list = same_refl bs;
        to = record {
          searchable = record { ordered = λ z. absurd (true≢false z) };
          safe = s.no_dangling name;
          around = record { silent = λ z. s; marked = λ z. absurd (true≢false z) };
        };
      }

  module _ {before after : List ℕ} {r : Bool} (m : MarkedAround ws end d es index name before after r) where
    pub prepared_dangling : r ≡ true → PreparedFor ws end d es index name before after (Err DanglingReference)
    prepared_dangling e = record { list = m.list; to = (refl, sym m.refers ∙ e) }

    pub prepared_marked : r ≡ false → PreparedFor ws end d es index name before after (Ok false)
    prepared_marked e =
        record {
          list = m.list;
          to = record {
            searchable = record { ordered = λ z. m.ordered };
            safe = sym m.refers ∙ e;
            around = record { silent = λ z. absurd (false≢true z); marked = λ z. m.marked };
          };
        }

pub ruleset preparing = (prepared_quiet, prepared_dangling, prepared_marked)

module _ {k : Step} where
  pub is_split : k ≡ Split → splits k ≡ true
  is_split e = ap splits e

  pub is_splice : k ≡ Splice → splits k ≡ false
  is_splice e = ap splits e

pub hand_fits : {h : Listed} {index : ℕ} → InHand h → index < h.ne → HandFits h
hand_fits i l = let f = i.fit in record { some = omega arith; few_elements = omega arith; few_options = omega arith }

-- The whole step.
module _ {ws : List ℕ} {end d at : ℕ} {before after : List ℕ} {h : Listed} {index name : ℕ} (optional : Bool)
    (loc : Located before h) (l : index < h.ne) (n : RuleNamed ws end d at name) {r : Result Bool Clause}
    (p : PreparedFor ws end d (meaning ws end d before h).elements index name before after r) where
  abbrev es : List (Element (Block d))
  es = (meaning ws end d before h).elements

  -- The rule's own name is the one that was asked for.
  own_name : {b : Bool} → remaining_actions_reference d es index name ≡ b → (t : RuleOf (Block (suc d))) (q : ℕ)
      → RuleSpans ws end (suc d) at t q → remaining_actions_reference d es index t.name ≡ b
  own_name f t q s = ap (remaining_actions_reference d es index) (sym (n.is t q s)) ∙ f

  pub step_dangling : {k : Clause} → r ≡ Err k → DecidedAt ws end d at before after h index optional (Err k)
  unfolding splice_satellite
  step_dangling {k} e =
      let w : PreparedTo ws end d es index name after (Err k) = subst (PreparedTo ws end d es index name after) e p.to in
      record {
        list = p.list;
        is = λ t q s. rw w.0 (go optional t (own_name w.1 t q s));
        small = λ z k. absurd (let x : ◌≡◌ {A = ℕ} 0 1 = cc in omega arith);
        split = λ o z k. absurd (let x : ◌≡◌ {A = ℕ} 0 1 = cc in omega arith);
      }
    where
      go : (b : Bool) (t : RuleOf (Block (suc d))) → remaining_actions_reference d es index t.name ≡ true
          → DeclinedBy (step_by d (meaning ws end d before h) index t b) DanglingReference
      go true t f = record { is = rw f refl }
      go false t f = record { is = rw (splice_satellite, f) refl }

  module _ {quiet : Bool} (e : r ≡ Ok quiet) where
    safe : SafeAround ws end d es index name after quiet
    safe = subst (PreparedTo ws end d es index name after) e p.to

    pub step_searchable : Searchable ws end after quiet
    step_searchable = safe.searchable

    pub step_split : InHand h → optional ≡ true
        → DecidedAt ws end d at before after h index optional (Ok (record { a = 2; e = 2 * h.ne - 1; o = 2 * h.no }))
    unfolding split_optional total
    step_split fits o =
        record {
          list = p.list;
          is = λ t q s. rw o (go t (own_name safe.safe t q s));
          small = λ z k. small z (same z k);
          split = λ x z k. rw (← same z k) (record { alternatives = refl; elements = refl; options = refl });
        }
      where
        same : (z : Size) → ◌≡◌ {A = Result Size Clause} (Ok (record { a = 2; e = 2 * h.ne - 1; o = 2 * h.no })) (Ok z)
            → record { a = 2; e = 2 * h.ne - 1; o = 2 * h.no } ≡ z
        same z k = cc

        small : (z : Size) → record { a = 2; e = 2 * h.ne - 1; o = 2 * h.no } ≡ z → SmallSize z
        small z k = let f = fits.fit in rw (← k) (record { alternatives = omega arith; elements = omega arith; options = omega arith })

        cut : (xs : List (Element (Block d))) (i : ℕ) → i < length xs
            → (length (with_plain i xs) ≡ length xs) × (length (without i xs) + 1 ≡ length xs)
        cut [] i k = absurd (omega arith)
        cut (x ∷ xs) zero k = (refl, omega arith)
        cut (x ∷ xs) (suc i) k = let c = cut xs i (omega arith) in (let z = c.0 in omega arith, let z = c.1 in omega arith)

        go : (t : RuleOf (Block (suc d))) → remaining_actions_reference d (meaning ws end d before h).elements index t.name ≡ false
            → GoesTo d (step_by d (meaning ws end d before h) index t true) (record { a = 2; e = 2 * h.ne - 1; o = 2 * h.no })
        go t f =
            let m = count_elements ws end d before h in
            let k = count_options ws end d before h in
            let c = cut (meaning ws end d before h).elements index (omega arith) in
            let x = c.0 in
            let y = c.1 in
            record {
              ps = split_optional (meaning ws end d before h) index;
              is = rw f refl;
              alternatives = refl;
              elements = omega arith;
              options = omega arith;
            }

    pub step_splice : {k : Result Size Clause} → optional ≡ false → (optional ≡ false → RuleUnreferring ws end d at) → RuleSized ws end d at after h quiet k
        → DecidedAt ws end d at before after h index optional k
    unfolding splice_satellite
    step_splice {k} o f v =
        record {
          list = p.list;
          is = λ t q s. rw o (go k v t q s (own_name safe.safe t q s));
          small = v.small;
          split = λ x. absurd (both_ways _ o x);
        }
      where
        u : RuleUnreferring ws end d at
        u = f o

        same : meaning ws end d after h ≡ meaning ws end d before h
        same = same_meaning p.list loc ws end d

        go : (k : Result Size Clause) → RuleSized ws end d at after h quiet k → (t : RuleOf (Block (suc d))) (q : ℕ) → RuleSpans ws end (suc d) at t q
            → remaining_actions_reference d (meaning ws end d before h).elements index t.name ≡ false
            → DecisionOf d (step_by d (meaning ws end d before h) index t false) k
        go (Err c) v t q s f =
            let w = rw same at (v.is index l (rw same safe.around) t q s (u.is t q s)) in
            record { is = rw (splice_satellite, f) w.is }
        go (Ok z) v t q s f =
            let w = rw same at (v.is index l (rw same safe.around) t q s (u.is t q s)) in
            record {
              ps = w.ps;
              is = rw (splice_satellite, f) w.are;
              alternatives = let x = w.alternatives in omega arith;
              elements = let x = w.elements in omega arith;
              options = let x = w.options in omega arith;
            }

pub ruleset steps = (is_split, is_splice, hand_fits, step_dangling, step_searchable, step_split, step_splice)
