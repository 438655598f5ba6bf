-- How many steps a run makes. A sheet has 8,192 words at most and an outermost alternative five at least, so that the budget of
-- a plan is small (SPECIFICATION 8.10), and so is the sum over the plans of a run.
use Rattle.std.specs.Prelude.{ℕ, ◌+◌, ◌*◌, ◌≤◌, ◌≡◌, List, [], ◌∷◌, map, Bool, true, false, length, leb}
use Rattle.std.proofs.Common.{le_trans, mul-le-mul, length-append, leb-true}
use Rattle.std.proofs.Math.Nat.{max-le, suc-mul}
use Rattle.std.specs.Cmp.{first_so}
use native.Mathlib.Omega.{arith}
use Rattle.grammar.specs.Tree.{AlternativeOf, Counters, Rule, body_depth, Sheet}
use Rattle.grammar.specs.Encode.{encode_alternative, encode_rule, encode_block, encode_rules, encode, encode_alternative_in}
use Rattle.grammar.specs.Encode.{encode_block_in, encode_in}
use Rattle.grammar.specs.Lists.{each, keep, member, push, total}
use Rattle.grammar.specs.Valid.{fits, fits_in}
use Rattle.grammar.specs.Corners.{Corners}
use Rattle.grammar.specs.Numbers.{most_words}
use Rattle.reference.specs.Analysis.{grammar_of}
use Rattle.reference.specs.Substitute.{Limits}
use Rattle.reference.specs.Plan.{CyclePlan}
use Rattle.reference.specs.Run.{inner_depth, Stage, planned, find_plan, steps_of}
use Rattle.laws.specs.Planning.Plans.{plan_within}
use Rattle.laws.specs.Running.Search.{plan_first}
use Rattle.laws.specs.Running.Stages.{Stages, s_end, s_plan}
use Rattle.laws.specs.Validity.Result.{Good, stage_good, sheet_by}

-- The outermost alternatives of a sheet, at most; and the budget of a plan.
abbrev pub most_bodies : ℕ
most_bodies = 1638

abbrev pub most_steps : Limits → ℕ
most_steps limits = most_bodies * most_bodies + limits.budget_floor

-- A sum over some of the rules is no more than over all.
total_keep : (test : Rule → Bool) (f : Rule → ℕ) (rs : List Rule) → total (map f (keep test rs)) ≤ total (map f rs)
unfolding total keep
total_keep test f [] = omega arith
total_keep test f (r ∷ rs) = go (test r) (total_keep test f rs)
  where
    go : (b : Bool) → total (map f (keep test rs)) ≤ total (map f rs) → total (map f (push b r (keep test rs))) ≤ f r + total (map f rs)
    go true h = omega arith
    go false h = omega arith

-- The words of outermost alternatives.
alternatives_words : {B : Type 0} (enc : B → List ℕ) (as' : List (AlternativeOf B))
    → 5 * length as' ≤ length (each (encode_alternative enc) as')
unfolding encode_alternative_in
alternatives_words enc [] = omega arith
alternatives_words enc (a ∷ as') =
    let h = alternatives_words enc as' in
    let l = length-append (encode_alternative enc a) (each (encode_alternative enc) as') in
    omega arith

rules_words : (rs : List Rule) → 5 * total (map (λ r. length r.body) rs) ≤ length (encode_rules rs)
unfolding total encode_rule encode_block_in
rules_words [] = omega arith
rules_words (r ∷ rs) =
    let h = rules_words rs in
    let b = alternatives_words (encode_block inner_depth) r.body in
    let l = length-append (encode_rule (encode_block body_depth) r) (encode_rules rs) in
    omega arith

encode_rules_lem : (s : Sheet) → length (encode_rules s.rules) ≤ length (encode s)
unfolding encode_in
encode_rules_lem s = simp length-append (omega arith)

-- So a sheet that fits has few of them.
sheet_bodies : (s : Sheet) → fits s ≡ true → total (map (λ r. length r.body) s.rules) ≤ most_bodies
unfolding fits_in
sheet_bodies s f =
    let short = leb-true (length (encode s)) most_words (first_so (leb (length (encode s)) most_words) _ f) in
    let h = rules_words s.rules in
    let l = encode_rules_lem s in
    omega arith

-- The steps of a plan that is found in a sheet.
pub plan_steps : (limits : Limits) (corners : Corners) (s : Sheet) → fits s ≡ true → {cycle : List ℕ} {plan : CyclePlan inner_depth}
    → find_plan limits corners s.preserved s.rules ≡ planned cycle plan → plan.steps ≤ most_steps limits
plan_steps limits corners s f {cycle} {plan} e =
    let g = grammar_of body_depth s.rules in
    let d = (plan_first limits corners s.preserved s.rules e).is_decided in
    let w = plan_within corners inner_depth s.rules g s.preserved cycle limits plan d in
    let few = le_trans (total_keep (λ r. member r.id cycle) (λ r. length r.body) s.rules) (sheet_bodies s f) in
    let square = mul-le-mul few few in
    le_trans w (max-le (omega arith) (omega arith))

-- Of a run.
module _ (limits : Limits) (corners : Corners) (kind : ℕ) (preserved : List ℕ) where
  pub stages_steps : {rs : List Rule} {c : Counters} {n : ℕ} {ts : List Stage} → Stages limits corners kind preserved rs c n ts
      → Good (sheet_by limits corners kind preserved rs c) → steps_of ts ≤ length ts * most_steps limits
  unfolding steps_of total
  stages_steps s_end g = omega arith
  stages_steps (s_plan {rs = rs} {c = c} {n = n} {plan = plan} {ts = ts} f r x) g =
      let now = sheet_by limits corners kind preserved rs c in
      let h = plan_steps limits corners now g.fitting f in
      let k = stages_steps x (stage_good limits corners now n f r g) in
      let m = suc-mul (length ts) (most_steps limits) in
      omega arith
