-- The list judged by the grammar of the rules that stand in the sheet.
use Prim.Native.Nat.{ℕ}
use mathlib.Core.Path.{◌≡◌, sym, subst}
use mathlib.Core.List.{List}
use lib.ListN.{length, get_or}
use Rattle.std.specs.declared.option.Option.{Option}
use Rattle.grammar.specs.Tree.{inner_depth}
use Rattle.grammar.specs.Corners.{Corners}
use Rattle.reference.specs.Analysis.{Grammar, names_of}
use Rattle.records.specs.declared.rules.Rules.{Rules}
use Rattle.reach.specs.Rows.{RowOf}
use Rattle.analysis.specs.Names.{Tabled}
use Rattle.analysis.specs.Facts.{Agrees, Standing}
use Rattle.analysis.proofs.Laws.Agree.{agrees}
use Rattle.analysis.proofs.Laws.Standing.{told}
use Rattle.planned.specs.Layout.{settled}
use Rattle.planned.specs.declared.list.Sizes.{Sizes}
use Rattle.rewritable.specs.Judge.{AreJudged, JudgedOf, JudgedFound}

-- Without a table the names are looked through.
pub no_table : {ws : List ℕ} {end : ℕ} {rules : Rules} {n : ℕ} → Standing ws end rules → n ≡ rules.n → (table : List ℕ) → length table ≡ 0
    → Tabled rules.names n table
no_table {rules = rules} s e table none =
    subst (λ n. Tabled rules.names n table) (sym e)
    (record { told = told s; room = λ some. absurd (some none) })

module _ {ws : List ℕ} {end : ℕ} {rules : Rules} {n : ℕ} (e : n ≡ rules.n) {nullable : List ℕ} {reading : Corners} where
  known_by : (s : Standing ws end rules) (g : Grammar) → g.names ≡ names_of s.rows.found.trees
      → RowOf rules.ids rules.n g.nullable nullable
      → Agrees g rules.ids (record { names = rules.names; n = n; nullable = nullable; reading = reading })
  known_by s g names row =
      subst
      (λ ns.
      Agrees (record { names = ns; nullable = g.nullable }) rules.ids
      (record { names = rules.names; n = n; nullable = nullable; reading = reading }))
      (sym names)
      (subst
      (λ n.
      Agrees (record { names = names_of s.rows.found.trees; nullable = g.nullable }) rules.ids
      (record { names = rules.names; n = n; nullable = nullable; reading = reading }))
      (sym e) (agrees s row reading))

  pub judged_found : {members : List ℕ} {hub : ℕ} {bs : List ℕ} {l : Sizes} {r : Option (List ℕ)}
      → JudgedOf (record { names = rules.names; n = n; nullable = nullable; reading = reading }) members hub inner_depth
      (settled ws end inner_depth bs l) r
      → JudgedFound ws end rules nullable reading members hub bs l r
  judged_found {members} {hub} {bs} {l} {r} j =
      record {
        is = λ s g cycle names row cycles.
            subst
            (λ n.
            AreJudged reading g rules.ids n cycle (get_or rules.ids hub 0) inner_depth
            (settled ws end inner_depth bs l) r)
            e
            (j.by
            (record {
              grammar = g;
              ids = rules.ids;
              agrees = known_by s g names row;
            })
            cycle (subst (λ n. RowOf rules.ids n cycle members) (sym e) cycles));
      }

pub ruleset judged = (no_table, judged_found)
