-- Demand 3, the bound on plans, the preserved rules and the trail, of every sheet that is not refused.
use Prim.Native.Nat.{ℕ, zero, suc, ◌+◌}
use Rattle.std.specs.Prelude.{◌≡◌, ◌↔◌, length}
use Rattle.std.proofs.Math.Path.{refl, sym}
use Rattle.std.proofs.Common.{ap, ap₂, ◌∙◌, subst, subst₂, ⊎_elim, zero-add, suc-add, arith, eq-eqb}
use mathlib.Core.List.{List, [], ◌∷◌, ◌++◌, map, append-nil, Memᴰ}
use Rattle.grammar.specs.Tree.{Rule, body_depth, Counters, Sheet}
use Rattle.grammar.specs.Corners.{Corners}
use Rattle.grammar.specs.Laws.Lists.{in_member, in_map}
use Rattle.grammar.specs.Numbers.{parser}
use Rattle.language.specs.Derive.{RuleDerives}
use Rattle.reference.specs.Substitute.{Limits}
use Rattle.reference.specs.Apply.{apply_plan}
use Rattle.reference.specs.Run.{inner_depth, Stage, ended, Search, no_plan, planned, too_large, preceded, find_plan, refusal_of}
use Rattle.reference.specs.Run.{eliminate_in_unit, eliminate_mutual_left_recursion, sheet_after}
use Rattle.laws.specs.Demands.Shape.{SameStrings, Closed, NoCorner, NoLaterCycle}
use Rattle.laws.specs.Demands.Run.{rules_of, Demand3, Bound, EnoughTurns, PreservedStay}
use Rattle.laws.specs.Demands.Trail.{TrailTold}
use Rattle.laws.specs.Demands.Facts.{FactsStay}
use Rattle.laws.specs.Provenance.PlanTrail.{stage_trail}
use Rattle.laws.specs.Running.Preserved.{preserved_stay}
use Rattle.laws.specs.Derivation.Called.{each_called}
use Rattle.laws.specs.Running.Leaves.{Told, no_id, Leaves, leaves_derives}
use Rattle.laws.specs.Running.Readings.{Read, chain_read}
use Rattle.laws.specs.Running.Stages.{rules_after, sheet_after_lem, sheet_preserved, rules_append, every_cycle_declined, Stages, Chain}
use Rattle.laws.specs.Running.Stages.{chain_leaves, chain_front, chain_behind, Rest, applying, turn, turns_once, stages_chain}
use Rattle.laws.specs.Running.Stages.{run_ends, sheet_ends}
use Rattle.laws.specs.Proved.Stages.{At, stage_at, stage_joins}
use Rattle.laws.specs.Running.OneStage.{stage_shape}
use Rattle.laws.specs.Running.Later.{no_later}
use Rattle.laws.specs.Running.Facts.{chain_facts}
use Rattle.laws.specs.Running.Once.{follows_all, follows_here, hubs_distinct, chain_few}

-- One turn more changes nothing, unless the turns ran out.
module _ (limits : Limits) (corners : Corners) (kind : ℕ) (preserved : List ℕ) where
  turn_more : (turns : ℕ) (rs : List Rule) (c : Counters) (recorded : ℕ)
      → ((ts : List Stage) → eliminate_in_unit limits corners kind preserved turns rs c recorded ≡ ended ts → length ts ≡ turns → ⊥)
      → eliminate_in_unit limits corners kind preserved (suc turns) rs c recorded
      ≡ eliminate_in_unit limits corners kind preserved turns rs c recorded
  unfolding eliminate_in_unit
  turn_more zero rs c recorded h = absurd (h [] refl refl)
  turn_more (suc turns) rs c recorded h =
      turns_once limits corners kind preserved (suc turns) rs c recorded
      ∙ go (find_plan limits corners preserved rs) (λ ts e. h ts (turns_once limits corners kind preserved turns rs c recorded ∙ e))
      (turn_more turns)
      ∙ sym (turns_once limits corners kind preserved turns rs c recorded)
    where
      rest : ℕ → Rest limits corners kind preserved
      rest n = eliminate_in_unit limits corners kind preserved n

      applied : (t : Stage) (n : ℕ) →
          ((ts : List Stage) → applying limits corners kind preserved (rest turns) t recorded n ≡ ended ts → length ts ≡ suc turns → ⊥)
          → ((rs : List Rule) (c : Counters) (recorded : ℕ)
          → ((ts : List Stage) → rest turns rs c recorded ≡ ended ts → length ts ≡ turns → ⊥)
          → rest (suc turns) rs c recorded ≡ rest turns rs c recorded)
          → applying limits corners kind preserved (rest (suc turns)) t recorded n
          ≡ applying limits corners kind preserved (rest turns) t recorded n
      applied t zero h ih =
          ap (preceded t) (ih t.after.node t.after.counters (recorded + length t.after.entries)
          (λ ts e l. h (t ∷ ts) (ap (preceded t) e) (ap suc l)))
      applied t (suc n) h ih = refl

      go : (o : Search) → ((ts : List Stage) → turn limits corners kind preserved (rest turns) rs c recorded o ≡ ended ts
          → length ts ≡ suc turns → ⊥)
          → ((rs : List Rule) (c : Counters) (recorded : ℕ)
          → ((ts : List Stage) → rest turns rs c recorded ≡ ended ts → length ts ≡ turns → ⊥)
          → rest (suc turns) rs c recorded ≡ rest turns rs c recorded)
          → turn limits corners kind preserved (rest (suc turns)) rs c recorded o
          ≡ turn limits corners kind preserved (rest turns) rs c recorded o
      go no_plan h ih = refl
      go (planned cycle plan) h ih =
          applied (record {
            before = rs;
            cycle = cycle;
            plan = plan;
            after = apply_plan inner_depth rs plan c;
          }) (refusal_of kind preserved (apply_plan inner_depth rs plan c) recorded) h ih
      go too_large h ih = refl

  turns_more : (more : ℕ) (rs : List Rule) → Told rs → (c : Counters) (recorded : ℕ)
      → eliminate_in_unit limits corners kind preserved (more + suc (length rs)) rs c recorded
      ≡ eliminate_in_unit limits corners kind preserved (suc (length rs)) rs c recorded
  turns_more zero rs k c recorded = ap (λ n. eliminate_in_unit limits corners kind preserved n rs c recorded) (zero-add (suc (length rs)))
  turns_more (suc more) rs k c recorded =
      ap (λ n. eliminate_in_unit limits corners kind preserved n rs c recorded) (suc-add more (suc (length rs)))
      ∙ turn_more (more + suc (length rs)) rs c recorded
      (λ ts e l. let few = chain_few limits corners preserved k
      (stages_chain limits corners kind preserved
      (run_ends limits corners kind preserved (more + suc (length rs)) rs c recorded ts e).stages) in omega arith)
      ∙ turns_more more rs k c recorded

pub enough_turns_lem : (limits : Limits) (corners : Corners) (s : Sheet) → Told s.rules → EnoughTurns s limits corners
unfolding eliminate_mutual_left_recursion
enough_turns_lem limits corners s k =
    record {
      more = λ e n. turns_more limits corners s.kind s.preserved n s.rules k s.counters 0
          ∙ sym (rw (eq-eqb s.kind parser e, eliminate_mutual_left_recursion));
    }

module _ (limits : Limits) (corners : Corners) (s : Sheet) (told : Told s.rules) (ts : List Stage)
    (run : eliminate_mutual_left_recursion limits corners s ≡ ended ts) where
  pub stages : Stages limits corners s.kind s.preserved s.rules s.counters 0 ts
  stages = (sheet_ends limits corners s ts run).0

  pub chain : Chain limits corners s.preserved s.rules ts
  chain = stages_chain limits corners s.kind s.preserved stages

  module _ (front middle rest : List Stage) (w : front ++ (middle ++ rest) ≡ ts) where
    abbrev first : List Rule
    first = rules_after s.rules front

    whole : Chain limits corners s.preserved s.rules (front ++ (middle ++ rest))
    whole = subst (Chain limits corners s.preserved s.rules) (sym w) chain

    between_told : Told first
    between_told =
        (chain_leaves limits corners s.preserved told (chain_front limits corners s.preserved front (middle ++ rest) whole)).told

    inner : Chain limits corners s.preserved first middle
    inner = chain_front limits corners s.preserved middle rest (chain_behind limits corners s.preserved front (middle ++ rest) whole)

    between : Leaves body_depth first (rules_after first middle)
    between = chain_leaves limits corners s.preserved between_told inner

    first_is : first ≡ rules_of s front
    first_is = sym (sheet_after_lem s front)

    second_is : rules_after first middle ≡ rules_of s (front ++ middle)
    second_is = sym (rules_append s.rules front middle) ∙ sym (sheet_after_lem s (front ++ middle))

    same_strings_lem : SameStrings (rules_of s front) (rules_of s (front ++ middle))
    same_strings_lem =
        subst₂ SameStrings first_is second_is
        (record {
          derives = λ r q m n e w.
              subst (λ i. RuleDerives body_depth first i w ↔ RuleDerives body_depth (rules_after first middle) q.id w) e
              (leaves_derives body_depth between_told between q.id (in_member (in_map (λ (r : Rule). r.id) n)) w);
        })

    same_readings_lem : Read (rules_of s front) middle (rules_of s (front ++ middle))
    same_readings_lem =
        subst₂ (λ before after. Read before middle after) first_is second_is (chain_read limits corners s.preserved between_told inner)

    closed : Closed (rules_of s front) (rules_of s (front ++ middle))
    closed =
        subst₂ Closed first_is second_is
        (record {
          uncalled = λ r m k q n c.
              each_called (λ n. n ≡ r.name → ⊥) inner_depth (between.closed r m (no_id r (rules_after first middle) k) q n) c refl;
        })

    pub facts_stay_lem : FactsStay body_depth (rules_of s front) (map (λ t. t.plan.hub) middle) (rules_of s (front ++ middle))
    facts_stay_lem =
        subst₂ (λ rs ks. FactsStay body_depth rs (map (λ t. t.plan.hub) middle) ks) first_is second_is
        (chain_facts limits corners s.preserved between_told inner)

  pub at : (front : List Stage) (t : Stage) (us : List Stage) → front ++ (t ∷ us) ≡ ts → At limits corners s told stages front t us
  at = stage_at limits corners s told stages

  pub cut_at : {t : Stage} {us : List Stage} → Memᴰ t us → (front : List Stage) × (rest : List Stage) × (front ++ (t ∷ rest) ≡ us)
  cut_at (Memᴰ.head {xs = xs} e) = ([], xs, ap (λ t. t ∷ xs) e)
  cut_at (Memᴰ.tail {x = x} m) = let (front, rest, w) = cut_at m in (x ∷ front, rest, ap (λ l. x ∷ l) w)

  pub rules_behind : (front : List Stage) (t : Stage) (us : List Stage) → rules_after t.after.node us ≡ rules_of s (front ++ (t ∷ us))
  rules_behind front t us = sym (rules_append s.rules front (t ∷ us)) ∙ sym (sheet_after_lem s (front ++ (t ∷ us)))

  whole_run : [] ++ (ts ++ []) ≡ ts
  whole_run = append-nil ts

  whole_readings : Read s.rules ts (rules_of s ts)
  whole_readings = subst (λ rs. Read rs ts (rules_of s ts)) (sheet_after_lem s []) (same_readings_lem [] ts [] whole_run)

  -- Demand 3, for either reading.
  pub demand3 : Demand3 s limits corners (NoCorner corners) ts
  demand3 =
      record {
        same_strings = subst (λ rs. SameStrings rs (rules_of s ts)) (sheet_after_lem s []) (same_strings_lem [] ts [] whole_run);
        same_between = same_strings_lem;
        same_readings = whole_readings.0;
        readings_told = whole_readings.1;
        readings_between = λ front middle rest w. (same_readings_lem front middle rest w).0;
        told_between = λ front middle rest w. (same_readings_lem front middle rest w).1;
        closed = subst (λ rs. Closed rs (rules_of s ts)) (sheet_after_lem s []) (closed [] ts [] whole_run);
        closed_between = closed;
        joins = stage_joins limits corners s told stages;
        shape = λ t m.
            let (front, rest, w) = cut_at m in
            let a = at front t rest w in
            stage_shape limits corners s.preserved a.known a.happened;
        no_later_cycle = λ front t middle rest w.
            let a = at front t (middle ++ rest) w in
            subst (NoLaterCycle corners t) (rules_behind front t middle)
            (no_later limits corners s.preserved a.known a.happened
            (chain_front limits corners s.preserved middle rest a.onward));
        stands = λ front t rest w q m e.
            let a = at front t rest w in
            let f =
            (follows_all limits corners s.preserved a.known a.happened
            (follows_here limits corners s.preserved a.known a.happened) a.onward).0 in
            f.stands q (subst (Memᴰ q) (ap (rules_of s) (sym w) ∙ sym (rules_behind front t rest)) m) e;
      }

  pub bound : Bound s limits corners ts
  bound =
      record {
        once = hubs_distinct limits corners s.preserved told chain;
        few = chain_few limits corners s.preserved told chain;
        ended = λ k.
            ⊎_elim (λ p. every_cycle_declined limits corners (sheet_after s ts)
            (ap₂ (find_plan limits corners) (sheet_preserved s ts) (sheet_after_lem s ts) ∙ p))
            (λ l. absurd (let h = chain_few limits corners s.preserved told chain in omega arith))
            ((sheet_ends limits corners s ts run).1 k);
      }

  pub preserved_rules_stay : PreservedStay s ts
  preserved_rules_stay = preserved_stay limits corners s told chain

  pub trail_told_lem : (t : Stage) → Memᴰ t ts → TrailTold t
  trail_told_lem t m =
      let (front, rest, w) = cut_at m in
      let a = at front t rest w in
      stage_trail limits corners s.preserved a.known a.happened
