-- The answer to a run with other names and other carried numbers: the same plans, steps and trail, and the result so changed.
use Rattle.std.specs.Prelude.{ℕ, ◌≡◌, length}
use Rattle.std.proofs.Math.Path.{refl, ap, ap₂}
use Rattle.std.proofs.Common.{◌∙◌}
use mathlib.Core.List.{List, [], ◌∷◌, ◌++◌, map, map-map}
use Rattle.std.proofs.lemmas.List.{length-map}
use Rattle.grammar.specs.Lists.{each, total}
use Rattle.grammar.specs.Encode.{encode}
use Rattle.grammar.specs.Corners.{Corners}
use Rattle.grammar.specs.Tree.{Sheet}
use Rattle.reference.specs.Substitute.{Limits}
use Rattle.reference.specs.Run.{Stage, Run, ended, stopped, eliminate_mutual_left_recursion, sheet_with, sheet_after, steps_of}
use Rattle.reference.specs.Run.{encode_entry}
use Rattle.reference.specs.Run.{entries_of, Answer, refusal, answer, answer_run}
use Rattle.laws.specs.Demands.Marks.{on_sheet}
use Rattle.laws.specs.Sameness.Runs.{on_stage, on_run, sheet_on}

module _ (f r pr : ℕ → ℕ) (one : (a b : ℕ) → f a ≡ f b → a ≡ b) where
  -- The sheet that a run leaves, changed; its entries and steps are the same.
  pub after_on : (s : Sheet) (ts : List Stage)
      → sheet_after (on_sheet f r pr s) (map (on_stage f r pr one) ts) ≡ on_sheet f r pr (sheet_after s ts)
  unfolding sheet_after on_sheet
  after_on s [] = refl
  after_on s (t ∷ ts) = after_on (sheet_with s.kind s.preserved t.after) ts

  entries-on : (ts : List Stage) → entries_of (map (on_stage f r pr one) ts) ≡ entries_of ts
  unfolding entries_of
  entries-on [] = refl
  entries-on (t ∷ ts) = ap (λ l. t.after.entries ++ l) (entries-on ts)

  steps_on : (ts : List Stage) → steps_of (map (on_stage f r pr one) ts) ≡ steps_of ts
  unfolding steps_of
  steps_on ts = ap total (map-map (λ t. t.plan.steps) (on_stage f r pr one) ts)

  -- What is answered to a run, with the result's tree changed.
  unfoldable pub answer_on : Sheet → Run → Answer
  answer_on s (stopped ts n) = refusal n
  answer_on s (ended ts) = answer (length ts) (steps_of ts) (encode (on_sheet f r pr (sheet_after s ts)))
      (each encode_entry (entries_of ts))

  run-answer-on : (s : Sheet) (x : Run) → answer_run (on_sheet f r pr s) (on_run f r pr one x) ≡ answer_on s x
  unfolding answer_run answer_on
  run-answer-on s (stopped ts n) = refl
  run-answer-on s (ended ts) =
      let us = map (on_stage f r pr one) ts in
      ap₂ (λ (n k : ℕ). answer n k (encode (sheet_after (on_sheet f r pr s) us)) (each encode_entry (entries_of us)))
      (length-map ts (on_stage f r pr one)) (steps_on ts)
      ∙ ap₂ (λ t es. answer (length ts) (steps_of ts) (encode t) (each encode_entry es)) (after_on s ts) (entries-on ts)

  -- The answer to the run of the changed sheet.
  pub answer-on : (limits : Limits) (c : Corners) (s : Sheet)
      → answer_run (on_sheet f r pr s) (eliminate_mutual_left_recursion limits c (on_sheet f r pr s))
      ≡ answer_on s (eliminate_mutual_left_recursion limits c s)
  answer-on limits c s =
      ap (answer_run (on_sheet f r pr s)) (sheet_on f r pr one limits c s) ∙ run-answer-on s (eliminate_mutual_left_recursion limits c s)
