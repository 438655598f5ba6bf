-- The promises of Demands, proved: for every grammar whose rules share no id and no name, and for every sheet that the
-- reader accepts.
use Rattle.std.specs.Prelude.{ℕ, ◌<◌, ◌≡◌, true, get_or}
use mathlib.Core.List.{List, map, Memᴰ}
use Rattle.grammar.specs.Laws.Lists.{in_member}
use Rattle.grammar.specs.Tree.{Block, RuleOf, Sheet, body_depth}
use Rattle.grammar.specs.Lists.{member, distinct}
use Rattle.grammar.specs.Valid.{valid, fits}
use Rattle.grammar.specs.Reading.{sheet, read}
use Rattle.language.specs.Shape.{Shapes}
use Rattle.grammar.specs.Corners.{Corners}
use Rattle.grammar.specs.Numbers.{parser}
use Rattle.reference.specs.Analysis.{grammar_of, left_corner_cycles}
use Rattle.reference.specs.Substitute.{Limits}
use Rattle.reference.specs.Run.{Stage, ended, sheet_with, eliminate_mutual_left_recursion, sheet_after, entries_of}
use Rattle.language.specs.Cycles.{RuleReaches}
use Rattle.laws.specs.Demands.Analysis.{EmptyDerivation, LeftCornersListed, TextbookCorners, least, CyclesListed}
use Rattle.laws.specs.Demands.Trail.{OriginsTold}
use Rattle.laws.specs.Demands.Answers.{ComesBack, ReadsBack}
use Rattle.laws.specs.Analysis.Empty.{rule_empty, element_empty, elements_empty, block_empty}
use Rattle.laws.specs.Analysis.LeftCorners.{left_corners_lem, block_corners_lem}
use Rattle.laws.specs.Analysis.Textbook.{textbook_corner}
use Rattle.laws.specs.Analysis.Cycles.{cycles_exact, cycles_sorted, least_in}
use Rattle.laws.specs.Running.Stages.{valid_told}
use Rattle.laws.specs.Provenance.Origins.{trail_traced, untraced}
use Rattle.laws.specs.Proved.OtherUnits.{other_answer, other_outcome}
use Rattle.laws.specs.Validity.Result.{good_of, run_good, run_each, run_trail, good_reads}

module _ (d : ℕ) (rs : List (RuleOf (Block d))) (ids : distinct (map (λ r. r.id) rs) ≡ true)
    (names : distinct (map (λ r. r.name) rs) ≡ true) where
  pub empty_derivation : EmptyDerivation d rs
  empty_derivation =
      record {
        of_rule = rule_empty d rs ids names;
        of_element = element_empty d rs ids names;
        of_alternative = elements_empty d rs ids names;
        of_block = block_empty d rs ids names;
      }

  pub left_corners_listed : (c : Corners) → LeftCornersListed c d rs
  left_corners_listed c = record { of_alternative = left_corners_lem c d rs ids names; of_block = block_corners_lem c d rs ids names }

  pub cycles_listed : (c : Corners) → CyclesListed c d rs
  cycles_listed c = record { listed = cycles_exact c d rs ids names; sorted = cycles_sorted c d rs ids names; no_larger = no_larger_lem }
    where
      no_larger_lem : (cycle wider : List ℕ) → Memᴰ cycle (left_corner_cycles c (grammar_of d rs) d rs)
          → ((i : ℕ) → member i cycle ≡ true → member i wider ≡ true)
          → ((i j : ℕ) → member i wider ≡ true → member j wider ≡ true → RuleReaches c d rs i j)
          → (i : ℕ) → member i wider ≡ true → member i cycle ≡ true
      no_larger_lem cycle wider m h k i t =
          let x = (cycles_exact c d rs ids names cycle).0 m in
          let u = in_member (least_in cycle x.several) in
          let v = h (least cycle) u in
          x.largest (least cycle) i u (k (least cycle) i v t) (k i (least cycle) t v)

pub textbook_corners_lem : (G : Shapes) → TextbookCorners G
textbook_corners_lem G = textbook_corner G

-- Of a sheet that the reader accepts.
module _ (s : Sheet) (v : valid s ≡ true) where
  pub sheet_empty : EmptyDerivation body_depth s.rules
  sheet_empty = let t = valid_told s v in empty_derivation body_depth s.rules t.ids t.names

  pub sheet_corners : (c : Corners) → LeftCornersListed c body_depth s.rules
  sheet_corners = let t = valid_told s v in left_corners_listed body_depth s.rules t.ids t.names

  pub sheet_cycles : (c : Corners) → CyclesListed c body_depth s.rules
  sheet_cycles = let t = valid_told s v in cycles_listed body_depth s.rules t.ids t.names

  -- Of a run that is not refused.
  module _ (f : fits s ≡ true) (limits : Limits) (c : Corners) (ss : List Stage)
      (run : eliminate_mutual_left_recursion limits c s ≡ ended ss) where
    pub origins_told_lem : OriginsTold (entries_of ss)
    origins_told_lem = record { recorded = trail_traced (run_trail limits c s run (good_of s v f)); others = untraced (entries_of ss) }

    pub result_reads_back_lem : ReadsBack (sheet_after s ss)
    result_reads_back_lem = good_reads (run_good limits c s run (good_of s v f))

    -- The grammars between plans are those of valid sheets too, so all of the above holds of each.
    pub stage_reads_back_lem : (t : Stage) → Memᴰ t ss → ReadsBack (sheet_with s.kind s.preserved t.after)
    stage_reads_back_lem t m = good_reads (run_each limits c s run (good_of s v f) m)

-- Of bytes.
module _ (limits : Limits) (c : Corners) (bs : List ℕ) (b : (i : ℕ) → get_or bs i 0 < 256) where
  pub other_units : (s : Sheet) → read bs ≡ sheet s → (s.kind ≡ parser → ⊥) → ComesBack limits c bs
  other_units s e n = record {
    answered = other_answer limits c bs s e n;
    whole = λ result trail work l. other_outcome limits c bs result trail work b s e n l;
  }
