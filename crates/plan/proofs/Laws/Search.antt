-- The cycles tried one after the other: those left decide, and those in front were declined.
use Prim.Native.Nat.{ℕ, zero, suc, ◌+◌, ◌<◌, ◌≤◌}
use mathlib.Core.Path.{◌≡◌, refl, sym, ap, ◌∙◌, subst}
use mathlib.Core.List.Memᴰ
use mathlib.Core.List.{List, [], ◌∷◌, Memᴰ}
use native.Mathlib.Omega.{arith}
use native.Mathlib.Numerals.{add-one}
use lib.ListN.{length, get_or, take, drop, replicate, set, length-set, length-drop, length-replicate}
use lib.Seq.{drop-length, drop-cons, split_at, get_or-set_same, get_or-set_other}
use lib.Dec.{eqb}
use borrow.Author.Tests.{eqb-true, eqb-false}
use Rattle.grammar.specs.Numbers.{rule_limit}
use Rattle.grammar.specs.Laws.Parse.{either}
use Rattle.grammar.specs.Corners.{Corners}
use Rattle.reference.specs.Run.{search_cycles, find_plan}
use Rattle.records.specs.declared.rules.Rules.{Rules}
use Rattle.reach.specs.Rows.{RowOf}
use Rattle.reach.specs.Reach.{Loops}
use Rattle.reach.specs.Listed.{Ids, Left, Taken, AheadOf}
use Rattle.reach.specs.declared.cycles.Ahead.{Ahead}
use Rattle.analysis.specs.declared.rounds.Marks.{Marks}
use Rattle.hub.specs.Grounds.{IsCycle}
use Rattle.hub.proofs.Laws.Cycle.{listed_cycle}
use Rattle.steps.specs.Decide.{clause_of, DeclinedByNumber}
use Rattle.turns.specs.declared.limits.Limits.{Limits}
use Rattle.plan.specs.declared.plan.Plan.{Plan}
use Rattle.reference.specs.Substitute.{clause_number}
use Rattle.std.specs.Prelude.{Option, Some, None, Result, Ok, Err}
use Rattle.steps.specs.declared.decide.Clause.{Clause}
use Rattle.turns.specs.declared.turn.Unplanned.{Unplanned}
use Rattle.turns.specs.declared.turn.Unplanned.TheVariants.{Declined, Overfull}
use Rattle.words.specs.declared.numbers.Refusal.{Refusal}
use Rattle.words.specs.declared.numbers.Refusal.TheVariants.{PlanTooLarge}
use Rattle.plan.specs.declared.search.FoundPlan.{FoundPlan}
use Rattle.plan.specs.declared.search.Found.{Found}
use Rattle.plan.specs.Known.{CycleKnown}
use Rattle.plan.specs.Decision.{DecidedAs, PlanOf}
use Rattle.plan.specs.Search.{Ended, cycles_of, decision_on, search_through, whole_search, AnswerIs, JoinedKnown, TriedOf}
use Rattle.plan.proofs.Laws.Cycles.{graph, graph_ids, all_ahead, cycles_few}

-- Zeros, and the default behind them.
zeros_at : (n j : ℕ) → ◌≡◌ {A = ℕ} (get_or (replicate n 0) j 0) 0
zeros_at zero j = refl
zeros_at (suc n) zero = refl
zeros_at (suc n) (suc j) = zeros_at n j

module _ (ws : List ℕ) (end : ℕ) (rules : Rules) (reading : Corners) (calls : List (List ℕ)) (marks : Marks) (kept : List ℕ)
    (closed : List (List ℕ)) (limits : Limits) where
  -- The first k cycles were declined; `left` has the members of the others.
  pub record Trying (n k : ℕ) (left clauses : List ℕ) : Type 0 where
    pub size : n ≡ rules.n
    pub few : n ≤ rule_limit
    pub low : k ≤ n
    pub long : length clauses ≡ rule_limit
    pub within : (x : JoinedKnown ws end rules reading calls marks kept closed) → k ≤ length (cycles_of x.known)
    pub ahead : (x : JoinedKnown ws end rules reading calls marks kept closed)
        → Left (graph x) n (cycles_of x.known) closed left (drop k (cycles_of x.known))
    pub same : (x : JoinedKnown ws end rules reading calls marks kept closed)
        → whole_search x.known limits ≡ search_through x.known limits (drop k (cycles_of x.known))
    pub declines : (x : JoinedKnown ws end rules reading calls marks kept closed) (j : ℕ) → j < k
        → DeclinedByNumber (decision_on x.known limits (get_or (cycles_of x.known) j [])) (get_or clauses j 0)
    pub behind : (j : ℕ) → k ≤ j → get_or clauses j 0 ≡ 0

module _ {ws : List ℕ} {end : ℕ} {rules : Rules} {reading : Corners} {calls : List (List ℕ)} {marks : Marks} {kept : List ℕ}
    {closed : List (List ℕ)} where
  abbrev all : JoinedKnown ws end rules reading calls marks kept closed → List (List ℕ)
  all x = cycles_of x.known

module _ {ws : List ℕ} {end : ℕ} {rules : Rules} {reading : Corners} {calls : List (List ℕ)} {marks : Marks} {kept : List ℕ}
    {closed : List (List ℕ)} {limits : Limits} where
  pub try_all : {n : ℕ} {left : List ℕ} → n ≡ rules.n → rules.n ≤ rule_limit → Loops closed n left
      → Trying ws end rules reading calls marks kept closed limits n 0 left (replicate rule_limit 0)
  unfolding find_plan
  try_all {n} {left} e few l =
      record {
        size = e;
        few = omega arith;
        low = omega arith;
        long = length-replicate {A = ℕ} rule_limit 0;
        within = λ x. omega arith;
        ahead = λ x. rw e (all_ahead x (rw e at l));
        same = λ x. refl;
        declines = λ x j l. absurd (omega arith);
        behind = λ j l. zeros_at rule_limit j;
      }

  module _ {n k : ℕ} {left clauses : List ℕ} (g : Trying ws end rules reading calls marks kept closed limits n k left clauses) where
    -- The answer at hand, behind those that were declined.
    tried : {f : Found} {answer : Result (Option FoundPlan) Refusal} {bs : List ℕ} → Ended answer k clauses f
        → ((x : JoinedKnown ws end rules reading calls marks kept closed) → AnswerIs x.known limits bs k answer)
        → TriedOf ws end rules reading calls marks kept closed limits bs f
    tried e y =
        record {
          is = λ x.
              record {
                answer = rw (e.count, e.is) (y x);
                declines = λ j l. let c = e.count in rw e.list (g.declines x j (omega arith));
                behind = λ j l. let c = e.count in rw e.list (g.behind j (omega arith));
                few = let c = e.count in let h = g.low in let m = g.size in omega arith;
              };
        }

    no_more : {f : Found} (bs : List ℕ) → ((x : JoinedKnown ws end rules reading calls marks kept closed) → length (all x) ≤ k)
        → Ended (Ok None) k clauses f → TriedOf ws end rules reading calls marks kept closed limits bs f
    unfolding search_cycles
    no_more bs l e =
        tried e λ x.
        let z : k ≡ length (all x) = let h = g.within x in let m = l x in omega arith in
        record {
          all = z;
          is = g.same x ∙ ap (search_through x.known limits) (ap (λ m. drop m (all x)) z ∙ drop-length (all x));
        }

    -- As many were declined as there are rules.
    pub try_full : {f : Found} (bs : List ℕ) → n ≤ k → Ended (Ok None) n clauses f
        → TriedOf ws end rules reading calls marks kept closed limits bs f
    try_full bs l e =
        let z : n ≡ k = let h = g.low in omega arith in
        no_more bs (λ x. let f = cycles_few x in let m = g.size in omega arith) (rw z at e)

    module _ {o : Option Ahead} (a : AheadOf closed rules.ids n left o) where
      ids : (x : JoinedKnown ws end rules reading calls marks kept closed) → Ids (graph x) n rules.ids
      ids x = rw g.size (graph_ids x)

      -- None is left.
      pub try_done : {f : Found} (bs : List ℕ) → o ≡ None → Ended (Ok None) k clauses f
          → TriedOf ws end rules reading calls marks kept closed limits bs f
      try_done bs d e =
          no_more bs
          (λ x.
          let none : drop k (all x) ≡ [] = rw d at (a.takes (graph x) (all x) (drop k (all x)) (ids x) (g.ahead x)) in
          let z = ap length none in
          let s = length-drop k (all x) in
          omega arith)
          e

      module _ {r : Ahead} (d : o ≡ Some r) where
        module _ (x : JoinedKnown ws end rules reading calls marks kept closed) where
          taken : Taken (graph x) rules.ids n (all x) closed (drop k (all x)) r.members r.left
          taken = rw d at (a.takes (graph x) (all x) (drop k (all x)) (ids x) (g.ahead x))

          inside : k < length (all x)
          inside = let e = ap length taken.first in let s = length-drop k (all x) in omega arith

          -- The k-th is next.
          nth : drop k (all x) ≡ get_or (all x) k [] ∷ drop (suc k) (all x)
          nth = drop-cons (all x) k [] inside

          next : whole_search x.known limits ≡ search_through x.known limits (get_or (all x) k [] ∷ drop (suc k) (all x))
          next = g.same x ∙ ap (search_through x.known limits) nth

          nth_row : RowOf rules.ids rules.n (get_or (all x) k []) r.members
          nth_row =
              let e : taken.cycle ≡ get_or (all x) k [] = cc (taken.first, nth) in
              subst (λ m. RowOf rules.ids m (get_or (all x) k []) r.members) g.size (rw e at taken.members)

          nth_behind : Left (graph x) n (all x) closed r.left (drop (k + 1) (all x))
          nth_behind =
              let e : taken.rest ≡ drop (suc k) (all x) = cc (taken.first, nth) in
              rw (add-one, ← e) taken.behind

          nth_there : Memᴰ (get_or (all x) k []) (all x)
          nth_there =
              subst (Memᴰ (get_or (all x) k [])) (sym (split_at (all x) k [] inside))
              (Memᴰ.append_right (take k (all x)) (Memᴰ.head refl))

          nth_cycle : {row : List ℕ} → RowOf rules.ids rules.n (get_or (all x) k []) row
              → IsCycle ws end rules x.known.known.standing (get_or (all x) k []) row
          nth_cycle r = listed_cycle x.known.known.standing reading r nth_there

          pub cycle_known : CycleKnown ws end rules reading calls marks kept r.members
          cycle_known =
              record {
                corners = x.corners;
                known = x.known.known;
                cycle = get_or (all x) k [];
                is_cycle = nth_cycle nth_row;
                preserved = x.known.preserved;
                keeps = x.known.keeps;
              }

        module _ {bs : List ℕ} {t : Result Plan Unplanned} (p : PlanOf ws end rules reading calls marks kept r.members limits bs t) where
          here : (x : JoinedKnown ws end rules reading calls marks kept closed) {u : Result Plan Unplanned} → t ≡ u
              → DecidedAs ws end rules.ids rules.n bs (decision_on x.known limits (get_or (all x) k [])) u
          unfolding cycle_known
          here x z =
              subst (DecidedAs ws end rules.ids rules.n bs (decision_on x.known limits (get_or (all x) k []))) z
              (p.is (cycle_known x))

          pub try_next : {b : Clause} {c : ℕ} → k < n → t ≡ Err (Declined b) → c ≡ clause_number (clause_of b)
              → Trying ws end rules reading calls marks kept closed limits n (k + 1) r.left (set clauses k c)
          unfolding search_cycles
          try_next {b} {c} l z w =
              record {
                size = g.size;
                few = g.few;
                low = omega arith;
                long = length-set clauses k c ∙ g.long;
                within = λ x. let m = inside x in omega arith;
                ahead = nth_behind;
                same = λ x.
                    next x
                    ∙ rw ((here x z).is, search_cycles) (ap (λ m. search_through x.known limits (drop m (all x))) (sym (add-one k)));
                declines = λ x j m.
                    either (eqb j k)
                    (λ y. rw (eqb-true j k y, get_or-set_same clauses k c 0 (let a = g.long in let b = g.few in omega arith))
                    (record { clause = clause_of b; number = sym w; is = (here x z).is }))
                    (λ f.
                    let o = eqb-false j k f in
                    rw (get_or-set_other clauses k j c 0 o) (g.declines x j (omega arith)));
                behind = λ j m. get_or-set_other clauses k j c 0 (λ e. omega arith) ∙ g.behind j (omega arith);
              }

          pub try_planned : {f : Found} {plan : Plan} → t ≡ Ok plan
              → Ended (Ok (Some (record { plan = plan; members = r.members }))) k clauses f
              → TriedOf ws end rules reading calls marks kept closed limits bs f
          unfolding search_cycles
          try_planned z e =
              tried e λ x.
              let h = here x z in
              record {
                plan = h.plan;
                low = inside x;
                is = next x ∙ rw (h.is, search_cycles) refl;
                is_cycle = nth_cycle x (nth_row x);
                same = h.same;
              }

          pub try_overfull : {f : Found} → t ≡ Err Overfull → Ended (Err PlanTooLarge) k clauses f
              → TriedOf ws end rules reading calls marks kept closed limits bs f
          unfolding search_cycles
          try_overfull z e =
              tried e λ x. record { low = inside x; over = here x z; is = next x ∙ rw (here x z, search_cycles) refl; refusal = refl }

pub ruleset trying = (try_all, try_next, try_planned, try_overfull)
