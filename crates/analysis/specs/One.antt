-- The rules that stand in a sheet are one list.
use Rattle.std.specs.Prelude.{◌≡◌, ℕ, List, true}
use Rattle.std.specs.Coded.{le_prop, Coded-set, coded_ℕ, coded_bool, coded_list}
use mathlib.Core.HLevel.{is_prop→PathP}
use Rattle.grammar.specs.Tree.{Rule}
use Rattle.grammar.specs.Lists.{distinct}
use Rattle.grammar.specs.Ids.{rule_ids, rule_names}
use Rattle.grammar.specs.Laws.One.{rules_prop}
use Rattle.records.specs.Rules.{RowsOf, FoundRows}
use Rattle.records.specs.declared.rules.Rules.{Rules}
use Rattle.analysis.specs.Facts.{Standing}

arrays_prop : (rs : List Rule) (r : Rules) → IsProp (RowsOf rs r)
arrays_prop rs r x y =
    λ i. record {
      ids = Coded-set (coded_list coded_ℕ) _ _ x.ids y.ids i;
      names = Coded-set (coded_list coded_ℕ) _ _ x.names y.names i;
      places = Coded-set (coded_list coded_ℕ) _ _ x.places y.places i;
      count = Coded-set coded_ℕ _ _ x.count y.count i;
    }

module _ (ws : List ℕ) (end : ℕ) (rules : Rules) where
  rows_prop : IsProp (FoundRows ws end rules)
  rows_prop f g =
      let e = rules_prop ws end rules.n 0 f.found g.found in
      λ i. record {
        found = e i;
        ends = is_prop→PathP (λ i. (e i).next ≡ end) (λ i. Coded-set coded_ℕ _ _) f.ends g.ends i;
        rows = is_prop→PathP (λ i. RowsOf (e i).trees rules) (λ i. arrays_prop (e i).trees rules) f.rows g.rows i;
        few = le_prop f.few g.few i;
      }

  pub standing_prop : IsProp (Standing ws end rules)
  standing_prop f g =
      let e = rows_prop f.rows g.rows in
      λ i. record {
        rows = e i;
        ids = is_prop→PathP (λ i. distinct (rule_ids (e i).found.trees) ≡ true) (λ i. Coded-set coded_bool _ _) f.ids g.ids i;
        names = is_prop→PathP (λ i. distinct (rule_names (e i).found.trees) ≡ true) (λ i. Coded-set coded_bool _ _) f.names g.names i;
      }
