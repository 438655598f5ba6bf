-- The sheet that a plan leaves, composed in the work area.
use Rattle.std.specs.Prelude.{ℕ, ◌+◌, ◌-◌, ◌*◌, ◌≤◌, ◌≡◌, List, true, false, length, get_or, take, drop}
use Rattle.grammar.specs.Numbers.{most_words}
use Rattle.grammar.specs.Tree.{Rule, inner_depth, Sheet}
use Rattle.grammar.specs.Encode.{encode, encode_rules}
use Rattle.grammar.specs.Lists.{each, member}
use Rattle.reference.specs.Plan.{CyclePlan}
use Rattle.reference.specs.Apply.{Fresh, apply_plan}
use Rattle.reference.specs.Run.{are_words, sheet_with, encode_entry}
use Rattle.records.specs.Rules.{RowsOf}
use Rattle.records.specs.declared.rules.Rules.{Rules}
use Rattle.analysis.specs.Facts.{Standing}
use Rattle.plan.specs.Decision.{PlanAs}
use Rattle.plan.specs.declared.plan.Plan.{Plan}
use Rattle.writing.specs.Taken.{counters_of}
use Rattle.copies.specs.Pen.{Drawn}
use Rattle.copies.specs.declared.pen.Pen.{Pen}
use Rattle.compose.specs.declared.compose.Composed.{Composed}

-- What stays of a sheet whose rules end at one place and whose trailer stands at another: its preserved ids and its unit kind.
abbrev pub preserved_at : List ℕ → ℕ → ℕ → List ℕ
preserved_at ws end to = take (to - end) (drop end ws)

abbrev pub kind_at : List ℕ → ℕ → ℕ
kind_at ws to = get_or ws to 0

-- The grammar after a plan.
abbrev pub after_plan : List Rule → CyclePlan inner_depth → Pen → Fresh (List Rule)
after_plan rs plan pen = apply_plan inner_depth rs plan (counters_of pen.counters)

abbrev pub sheet_after : (ws : List ℕ) (end to : ℕ) → Fresh (List Rule) → Sheet
sheet_after ws end to = sheet_with (kind_at ws to) (preserved_at ws end to)

-- A plan for the rules of a sheet stands in the work area, its hub stays, and what it makes is not refused (SPECIFICATION 4.8, 4.9).
pub record Applies (ws : List ℕ) (end to : ℕ) (rules : Rules) (p : Plan) (work trail : List ℕ) (pen : Pen) : Type 0 where
  pub standing : Standing ws end rules
  pub plan : CyclePlan inner_depth
  pub same : PlanAs ws end rules.ids rules.n work plan p
  pub stays : member plan.hub plan.removable ≡ false
  pub counters : are_words (after_plan standing.rows.found.trees plan pen).counters ≡ true
  pub words : length (encode (sheet_after ws end to (after_plan standing.rows.found.trees plan pen))) ≤ most_words
  pub entries : 4 * (pen.trail + length (each encode_entry (after_plan standing.rows.found.trees plan pen).entries)) ≤ length trail

module _ {ws : List ℕ} {end to : ℕ} {rules : Rules} {p : Plan} {work trail : List ℕ} {pen : Pen}
    (x : Applies ws end to rules p work trail pen) where
  abbrev pub rules_before : List Rule
  rules_before = x.standing.rows.found.trees

  abbrev pub after : Fresh (List Rule)
  after = after_plan rules_before x.plan pen

-- The whole sheet stands there, its entries in the trail, and its rules in the arrays; they end at a place counted from its first word.
pub record ComposedAs (ws : List ℕ) (end to : ℕ) (rules : Rules) (p : Plan) (work work' trail trail' : List ℕ) (pen : Pen) (r : Composed)
    : Type 0 where
  pub drawn : (x : Applies ws end to rules p work trail pen)
      → Drawn (encode (sheet_after ws end to (after x))) (each encode_entry (after x).entries) (after x).counters
      work work' trail trail' pen r.pen
  pub rows : (x : Applies ws end to rules p work trail pen) → RowsOf (after x).node r.rules
  pub ends : (x : Applies ws end to rules p work trail pen) → r.end ≡ length (encode_rules (after x).node)
