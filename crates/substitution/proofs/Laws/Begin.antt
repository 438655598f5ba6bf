-- Before the first turn.
use Prim.Native.Nat.{ℕ, ◌+◌, ◌≤◌, ◌<◌, ◌^◌}
use mathlib.Core.Path.{◌≡◌, sym, ap, ap₂, ◌∙◌, subst}
use mathlib.Core.List.{List, [], ◌++◌}
use mathlib.Core.Bool.{Bool, true}
use native.Mathlib.Omega.{arith}
use lib.ListN.{length, get_or, length-map}
use lib.Dec.{leb}
use borrow.Author.Tests.{leb-true}
use Rattle.std.specs.Cmp.{first_so, second_so}
use Rattle.grammar.specs.Numbers.{work_bytes}
use Rattle.grammar.specs.Tree.{inner_depth}
use Rattle.grammar.specs.Stands.{Spans}
use Rattle.grammar.specs.Encode.{encode_alternative, encode_block}
use Rattle.grammar.specs.Valid.{ok_alternative, ok_block}
use Rattle.grammar.specs.Lists.{each, all}
use Rattle.grammar.specs.Found.{FoundRule}
use Rattle.grammar.specs.Laws.Opened.{rule_words_lem}
use Rattle.reference.specs.Plan.{as_it_is, as_they_are}
use Rattle.analysis.specs.Facts.{Among}
use Rattle.hub.specs.Grounds.{rules_of}
use Rattle.splices.specs.declared.splice.Size.{Size}
use Rattle.turns.specs.Turns.{Substituting, substitution}
use Rattle.substitution.specs.Size.{RuleCounted}
use Rattle.turns.specs.Ground.{Ground, task_of}
use Rattle.turns.specs.Stand.{RulesStand}
use Rattle.turns.specs.Midway.{Shut, shut, Ready, Begun, within_limits, limits_of}
use Rattle.substitution.specs.Run.{Going}
use Rattle.steps.specs.declared.cycle.Cycle.{Cycle}
use Rattle.turns.specs.declared.limits.Limits.{Limits}
use Rattle.turns.specs.declared.state.State.{State}
use Rattle.turns.proofs.Laws.Midway.{retold}
use Rattle.turns.proofs.Laws.Advance.{midway_same}
use Rattle.turns.proofs.Laws.Replaced.{target_tree}
use Rattle.turns.proofs.Laws.Stand.{member_room, member_found}

module _ {ws : List ℕ} {end : ℕ} {places : List ℕ} {c : Cycle} (s : RulesStand ws end places c) where
  module _ {at : ℕ} (e : at ≡ get_or places c.hub 0) where
    pub hub_stands : FoundRule ws end at
    hub_stands = member_found s s.hub e

    pub hub_room : at + 4 ≤ end
    hub_room = member_room s s.hub e

    module _ (limits : Limits) {bs : List ℕ} {budget : ℕ} {z : Size} {st : State} {k : Bool} (large : work_bytes ≤ length bs) (counted : RuleCounted ws end at z)
        (within : k ≡ within_limits limits z) (yes : k ≡ true) (begun : Begun (get_or ws (at + 3) 0) (at + 4) z budget st) where
      unfoldable ready : budget < 2 ^ 64 → Ready ws end bs st 0 0 0
      unfolding as_they_are
      ready top =
          let f = hub_stands in
          let w = rule_words_lem inner_depth f.spans in
          let t = sym within ∙ yes in
          let x = leb-true z.a limits.alternatives (first_so (leb z.a limits.alternatives) _ t) in
          let u = second_so (leb z.a limits.alternatives) _ t in
          let y = leb-true z.e limits.elements (first_so (leb z.e limits.elements) _ u) in
          let v = leb-true z.o limits.options (second_so (leb z.e limits.elements) _ u) in
          let fa = limits.fit.few_alternatives in
          let fe = limits.fit.few_elements in
          let fo = limits.fit.few_options in
          let na = begun.empty.none.0 in
          let ne = begun.empty.none.1 in
          let no' = begun.empty.none.2 in
          let ca = counted.alternatives f.tree f.next f.spans in
          let ce = counted.elements f.tree f.next f.spans in
          let co = counted.options f.tree f.next f.spans in
          let za = ap (λ r. r.a) begun.is_all in
          let ze = ap (λ r. r.e) begun.is_all in
          let zo = ap (λ r. r.o) begun.is_all in
          let l = begun.is_left in
          let m = length-map f.tree.body as_it_is in
          let n = w.count in
          let i = begun.is_budget in
          let j = begun.is_steps in
          record {
            laid = begun.empty.laid bs large;
            listed = begun.empty.all_in ws end inner_depth bs;
            remaining = record {
              trees = f.tree.body;
              next = f.next;
              spans = subst (λ p. Spans ws end (each (encode_alternative (encode_block inner_depth))) (all (ok_alternative (ok_block inner_depth))) p f.tree.body f.next) (sym begun.is_at) w.alternatives;
              count = sym n ∙ sym l;
            };
            within = let r = hub_room in let p = begun.is_at in omega arith;
            alternatives = omega arith;
            elements = omega arith;
            options = omega arith;
            few_alternatives = omega arith;
            few_elements = omega arith;
            few_options = omega arith;
            counted = omega arith;
          }

      pub begun_ready : budget < 2 ^ 64 → Shut (Ready ws end bs st 0 0 0)
      begun_ready top = shut (ready top)

      pub begun_going : {names : List ℕ} → budget < 2 ^ 64 → Shut (Going ws end names places c limits budget bs st)
      unfolding ready
      begun_going {names} top =
          shut
          (record {
            is = λ g a y.
                midway_same {y = ready top}
                (record {
                  run =
                      retold (sym (begun.empty.settled_none ws end inner_depth bs))
                      (ap (λ ts. ts ++ as_they_are hub_stands.tree.body) (sym (begun.empty.stack_none ws end inner_depth bs)))
                      (first g a);
                })
                y;
          })
        where
          first : (g : Ground ws end names places c) (a : Among (rules_of ws end g.rules g.standing) c.hub)
              → Substituting (task_of g (limits_of limits)) budget (as_they_are a.rule.body) st.budget st.steps [] (as_they_are hub_stands.tree.body)
          first g a =
              let l : c.hub < c.names.n = let e = g.count in let h = g.hub in omega arith in
              let same = target_tree g l e a hub_stands.spans in
              record {
                same =
                    ap (λ t. substitution (task_of g (limits_of limits)) budget 0 (as_they_are t.body)) same
                    ∙ ap₂ (λ i j. substitution (task_of g (limits_of limits)) i j (as_they_are hub_stands.tree.body)) (sym begun.is_budget) (sym begun.is_steps);
                settled = tt;
              }

pub ruleset beginning = (hub_stands, hub_room, begun_ready, begun_going)
