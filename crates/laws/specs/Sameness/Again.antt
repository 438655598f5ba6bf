-- The pass on its own result: no plan, and the same sheet.
use Rattle.std.specs.Prelude.{ℕ, zero, suc, ◌≡◌, refl, List, [], ◌∷◌, true, length, eqb}
use Rattle.std.proofs.Common.{sym, ap₂, ◌∙◌, ⊎_elim, arith, eqb-true}
use Rattle.std.proofs.Math.Path.{ap}
use Rattle.std.proofs.lemmas.Bool.{eqb-false}
use Rattle.grammar.specs.Tree.{Sheet}
use Rattle.grammar.specs.Words.{bytes}
use Rattle.grammar.specs.Encode.{encode}
use Rattle.grammar.specs.Valid.{valid, fits}
use Rattle.grammar.specs.Corners.{Corners}
use Rattle.grammar.specs.Laws.Parse.{either}
use Rattle.grammar.specs.Laws.Words.{AreBytes}
use Rattle.grammar.specs.Numbers.{parser}
use Rattle.reference.specs.Substitute.{Limits}
use Rattle.reference.specs.Run.{Stage, ended, no_plan, find_plan, eliminate_in_unit, eliminate_mutual_left_recursion, sheet_after, filled}
use Rattle.reference.specs.Run.{are_lent}
use Rattle.reference.specs.Run.{outcome}
use Rattle.laws.specs.Running.Leaves.{Told}
use Rattle.laws.specs.Running.Stages.{sheet_after_lem, sheet_preserved, turn, turns_once, sheet_ends, valid_told}
use Rattle.laws.specs.Running.Once.{chain_few}
use Rattle.laws.specs.Sameness.Still.{still_outcome}
use Rattle.laws.specs.Proved.Demand3.{chain, preserved_rules_stay}
use Rattle.laws.specs.Proved.Analysis.{result_reads_back_lem}
use Rattle.laws.specs.Proved.OtherUnits.{other_ends}

-- The bytes of words are bytes.
pub bytes_are : (ws : List ℕ) → AreBytes (bytes ws)
unfolding bytes
bytes_are [] i = omega arith
bytes_are (w ∷ ws) zero = omega arith
bytes_are (w ∷ ws) (suc zero) = omega arith
bytes_are (w ∷ ws) (suc (suc zero)) = omega arith
bytes_are (w ∷ ws) (suc (suc (suc zero))) = omega arith
bytes_are (w ∷ ws) (suc (suc (suc (suc i)))) = bytes_are ws i

module _ (limits : Limits) (c : Corners) where
  -- Where no cycle has a plan, the run has no stage.
  still_ends : (s : Sheet) → find_plan limits c s.preserved s.rules ≡ no_plan → eliminate_mutual_left_recursion limits c s ≡ ended []
  unfolding eliminate_mutual_left_recursion
  still_ends s n =
      either (eqb s.kind parser)
      (λ t. rw (t, eliminate_mutual_left_recursion)
      (turns_once limits c s.kind s.preserved (length s.rules) s.rules s.counters 0
      ∙ ap (turn limits c s.kind s.preserved (eliminate_in_unit limits c s.kind s.preserved (length s.rules)) s.rules
      s.counters 0) n))
      (λ f. rw (f, eliminate_mutual_left_recursion) refl)

  -- What a run leaves has no plan left: the loop ended for that, since plans never outnumber rules.
  pub again_ends : (s : Sheet) → Told s.rules → (ts : List Stage) → eliminate_mutual_left_recursion limits c s ≡ ended ts
      → eliminate_mutual_left_recursion limits c (sheet_after s ts) ≡ ended []
  again_ends s told ts run =
      either (eqb s.kind parser)
      (λ t.
      ⊎_elim
      (λ p. still_ends (sheet_after s ts) (ap₂ (find_plan limits c) (sheet_preserved s ts) (sheet_after_lem s ts) ∙ p))
      (λ l. absurd (let h = chain_few limits c s.preserved told (chain limits c s told ts run) in omega arith))
      ((sheet_ends limits c s ts run).1 (eqb-true s.kind parser t)))
      (λ f. other_ends limits c (sheet_after s ts)
      (λ k. eqb-false s.kind parser f (sym (preserved_rules_stay limits c s told ts run).kind ∙ k)))

  -- The law, of the bytes that a run answers.
  pub again : (s : Sheet) → valid s ≡ true → fits s ≡ true → (ts : List Stage) → eliminate_mutual_left_recursion limits c s ≡ ended ts
      → (result trail work : List ℕ) → are_lent result trail work ≡ true
      → outcome limits c (bytes (encode (sheet_after s ts))) result trail work
      ≡ record {
        number = 0;
        plans = 0;
        steps = 0;
        result_length = length (bytes (encode (sheet_after s ts)));
        trail_length = 0;
        result = filled (bytes (encode (sheet_after s ts))) result;
        trail = filled [] trail;
        work = filled [] work;
      }
  again s v f ts run result trail work l =
      still_outcome limits c (bytes (encode (sheet_after s ts))) result trail work
      (bytes_are (encode (sheet_after s ts))) (sheet_after s ts)
      (result_reads_back_lem s v f limits c ts run).found (again_ends s (valid_told s v) ts run) l
