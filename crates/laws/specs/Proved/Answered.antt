-- From the bytes of a sheet: what is answered stands for a run with all that is promised of one.
use Rattle.std.specs.Prelude.{ℕ, ◌<◌, List, get_or}
use Rattle.std.proofs.Math.Path.{◌≡◌, refl, subst₂}
use Rattle.std.proofs.Common.{arith}
use Rattle.grammar.specs.Form.{newest}
use Rattle.grammar.specs.Tree.{Sheet}
use Rattle.grammar.specs.Encode.{encode}
use Rattle.grammar.specs.Lists.{each}
use Rattle.grammar.specs.Reading.{Reading, refused, sheet, read}
use Rattle.grammar.specs.Corners.{Corners}
use Rattle.grammar.specs.Laws.Codec.{accepted_valid}
use Rattle.reference.specs.Substitute.{Limits}
use Rattle.reference.specs.Run.{Run, ended, stopped, eliminate_mutual_left_recursion, sheet_after, encode_entry, entries_of, answer}
use Rattle.reference.specs.Run.{answer_run}
use Rattle.reference.specs.Run.{answer_reading, answer_to}
use Rattle.laws.specs.Demands.Answers.{GoodAnswer, Answered}
use Rattle.laws.specs.Running.Stages.{valid_told}
use Rattle.laws.specs.Validity.Result.{good_of, run_answer}
use Rattle.laws.specs.Proved.Analysis.{origins_told_lem}
use Rattle.laws.specs.BothReadings.Readings.{demand3_own}
use Rattle.laws.specs.Proved.Demand3.{bound}

module _ (limits : Limits) (corners : Corners) (bs : List ℕ) (b : (i : ℕ) → get_or bs i 0 < 256) where
  pub answered : (plans steps : ℕ) (result trail : List ℕ) → answer_to limits corners bs ≡ answer plans steps result trail
      → Answered limits corners bs plans steps result trail
  unfolding answer_to answer_reading answer_run
  answered plans steps result trail e = reading (read bs) refl e
    where
      running : (s : Sheet) → read bs ≡ sheet s → (r : Run) → eliminate_mutual_left_recursion limits corners s ≡ r
          → answer_run s r ≡ answer plans steps result trail
          → Answered limits corners bs plans steps result trail
      running s k (stopped ts n) u f = absurd (let z : ◌≡◌ {A = ℕ} 0 1 = cc in omega arith)
      running s k (ended ts) u f =
          let (v, fit) = accepted_valid newest bs b s k in
          let told = valid_told s v in
          let result_is : encode (sheet_after s ts) ≡ result = cc in
          let trail_is_lem : each encode_entry (entries_of ts) ≡ trail = cc in
          record {
            handed_in = s;
            reads = k;
            stages = ts;
            run = u;
            plans_are = cc;
            steps_are = cc;
            trail_is = trail_is_lem;
            demand = demand3_own limits corners s told ts u;
            plans_few = bound limits corners s told ts u;
            origins_told = origins_told_lem s v fit limits corners ts u;
            good = subst₂ (GoodAnswer (sheet_after s ts)) result_is trail_is_lem (run_answer limits corners s (good_of s v fit) u);
          }

      reading : (r : Reading) → read bs ≡ r → answer_reading limits corners r ≡ answer plans steps result trail
          → Answered limits corners bs plans steps result trail
      reading (refused n) k f = absurd (let z : ◌≡◌ {A = ℕ} 0 1 = cc in omega arith)
      reading (sheet s) k f = running s k (eliminate_mutual_left_recursion limits corners s) refl f
