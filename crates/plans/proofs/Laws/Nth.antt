-- The decision for the nth of the rows that are listed is the definition's for the nth cycle.
use Prim.Native.Nat.{ℕ, suc, ◌<◌, ◌≤◌}
use mathlib.Core.Path.{◌≡◌, refl, sym, subst}
use mathlib.Core.List.Memᴰ
use mathlib.Core.List.{List, [], Memᴰ}
use native.Mathlib.Omega.{arith}
use lib.ListN.{length, get_or, take, drop}
use lib.Seq.{split_at, length-take-le}
use Rattle.grammar.specs.Numbers.{most_words}
use Rattle.grammar.specs.Tree.{Rule, body_depth, inner_depth}
use Rattle.grammar.specs.Corners.{Corners}
use Rattle.reference.specs.Analysis.{grammar_of}
use Rattle.reference.specs.Plan.{plan_cycle}
use Rattle.records.specs.declared.rules.Rules.{Rules}
use Rattle.reach.specs.Rows.{RowOf}
use Rattle.reach.specs.Listed.{CycleRows, CyclesIn}
use Rattle.analysis.specs.Facts.{Standing, FactsFound}
use Rattle.analysis.specs.declared.rounds.Marks.{Marks}
use Rattle.analysis.proofs.Laws.Edges.{are_ids, are_edges}
use Rattle.turns.specs.Midway.{IsStandard}
use Rattle.turns.specs.declared.limits.Limits.{Limits}
use Rattle.std.specs.Prelude.{Some, None, Result}
use Rattle.turns.specs.declared.turn.Unplanned.{Unplanned}
use Rattle.plan.specs.declared.plan.Plan.{Plan}
use Rattle.plan.specs.Known.{CycleKnown}
use Rattle.plan.specs.Decision.{DecidedAs, PlanOf}
use Rattle.hub.proofs.Laws.Cycle.{listed_cycle}
use Rattle.plan.specs.Ground.{KeptOf}
use Rattle.plans.specs.Nth.{cycles_of, NthOf}

module _ {ws preserved : List ℕ} {end : ℕ} {rules : Rules} {reading : Corners} {calls corners : List (List ℕ)} {marks : Marks} {kept : List ℕ}
    (f : FactsFound ws end rules reading calls corners marks) (k : KeptOf preserved rules kept) (small : end ≤ most_words) where
  module _ {m n : ℕ} {before rows : List (List ℕ)} (e : m ≡ rules.n) (c : CyclesIn corners rules.ids m before rows n) where
    module _ (s : Standing ws end rules) where
      abbrev rs : List Rule
      rs = s.rows.found.trees

      abbrev all : List (List ℕ)
      all = cycles_of reading rs

      listed : CycleRows rules.ids rules.n all rows n
      listed =
          let g = grammar_of body_depth rs in
          let z : CyclesIn corners rules.ids rules.n before rows n = rw (← e) c in
          z.is reading g body_depth rs (are_edges s (f.is s)) (are_ids s reading g)

      counted : n ≡ length all
      counted = listed.count

    pub nth_none : {nth : ℕ} (bs : List ℕ) → n ≤ nth → NthOf ws end preserved rules reading nth bs (record { cycles = n; choice = None })
    nth_none bs l =
        record { is = λ s. record { cycles = counted s; choice = let z = counted s in omega arith } }

    module _ {nth : ℕ} (l : nth < n) {row : List ℕ} (g : row ≡ get_or rows nth []) where
      inside : (s : Standing ws end rules) → nth < length (all s)
      inside s = let z = counted s in omega arith

      nth_row : (s : Standing ws end rules) → RowOf rules.ids rules.n (get_or (all s) nth []) row
      nth_row s =
          let xs = all s in
          rw g
          (subst (λ i. RowOf rules.ids rules.n (get_or xs nth []) (get_or rows i []))
          (length-take-le nth xs (let z = inside s in omega arith))
          ((listed s).at (take nth xs) (get_or xs nth []) (drop (suc nth) xs) (sym (split_at xs nth [] (inside s)))))

      nth_there : (s : Standing ws end rules) → Memᴰ (get_or (all s) nth []) (all s)
      nth_there s =
          let xs = all s in
          subst (Memᴰ (get_or xs nth [])) (sym (split_at xs nth [] (inside s)))
          (Memᴰ.append_right (take nth xs) (Memᴰ.head refl))

      pub nth_known : Standing ws end rules → CycleKnown ws end rules reading calls marks kept row
      nth_known s =
          record {
            corners = corners;
            known = record { standing = s; small = small; facts = f.is s };
            cycle = get_or (all s) nth [];
            is_cycle = listed_cycle s reading (nth_row s) (nth_there s);
            preserved = preserved;
            keeps = k.row;
          }

      pub nth_some : {limits : Limits} {bs : List ℕ} {d : Result Plan Unplanned} → IsStandard limits
          → PlanOf ws end rules reading calls marks kept row limits bs d
          → NthOf ws end preserved rules reading nth bs (record { cycles = n; choice = Some d })
      unfolding nth_known
      nth_some {limits} {bs} {d} z p =
          record {
            is = λ s.
                record {
                  cycles = counted s;
                  choice = record {
                    low = let y = counted s in omega arith;
                    is = subst (λ x.
                        DecidedAs ws end rules.ids rules.n bs
                        (plan_cycle x reading (grammar_of body_depth (rs s)) inner_depth (rs s) preserved
                        (get_or (all s) nth [])) d) z.is (p.is (nth_known s));
                  };
                };
          }

pub ruleset nths = (nth_none, nth_known, nth_some)
