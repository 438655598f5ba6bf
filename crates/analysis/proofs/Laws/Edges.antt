-- The rules' left corners and ids are those of the definition's graph.
use Prim.Native.Nat.{ℕ}
use mathlib.Core.Path.{◌≡◌, refl, sym, ap, ◌∙◌}
use mathlib.Core.List.{List, []}
use native.Mathlib.Omega.{arith}
use lib.ListN.{length, length-map}
use borrow.Author.Tests.{lt-ltb}
use Rattle.grammar.specs.Tree.{Rule, body_depth}
use Rattle.grammar.specs.Lists.{distinct}
use Rattle.grammar.specs.Corners.{Corners}
use Rattle.graph.specs.Cycles.{row_ids_lem}
use Rattle.reference.specs.Analysis.{Grammar, row_of, grammar_of}
use Rattle.records.specs.declared.rules.Rules.{Rules}
use Rattle.reach.specs.Rows.{holds}
use Rattle.reach.specs.Listed.{row_at, corner_rows, Numbered, Edges, Ids}
use Rattle.analysis.specs.Facts.{Among, Standing, FactsOf}
use Rattle.analysis.specs.declared.rounds.Marks.{Marks}
use Rattle.analysis.proofs.Laws.Standing.{key_at, all_rules, id_at, rule_of}

module _ {ws : List ℕ} {end : ℕ} {rules : Rules} (s : Standing ws end rules) where
  abbrev rs : List Rule
  rs = s.rows.found.trees

  module _ (c : Corners) (g : Grammar) where
    numbered : Numbered (corner_rows c g body_depth rs) rules.n
    numbered =
        record {
          count = all_rules s.rows ∙ sym (length-map rs (row_of c g body_depth));
          apart = ap distinct (row_ids_lem c g body_depth rs) ∙ s.ids;
        }

    row_is : {i : ℕ} (a : Among rs i) → row_at (corner_rows c g body_depth rs) i ≡ row_of c g body_depth a.rule
    row_is a = key_at (row_of c g body_depth) (record { id = 0; to = [] }) a

    pub are_ids : Ids (corner_rows c g body_depth rs) rules.n rules.ids
    are_ids =
        record {
          numbered = numbered;
          at = λ i l. let a = rule_of s.rows i l in id_at s.rows a ∙ sym (ap (λ r. r.id) (row_is a));
        }

  pub are_edges : {c : Corners} {calls corners : List (List ℕ)} {m : Marks} → FactsOf c rs rules.ids calls corners m
      → Edges (corner_rows c (grammar_of body_depth rs) body_depth rs) rules.n corners
  unfolding grammar_of holds
  are_edges {c} f =
      let g = grammar_of body_depth rs in
      record {
        numbered = numbered c g;
        bits = λ i j l k.
            let a = rule_of s.rows i l in
            let b = rule_of s.rows j k in
            (f.rows.corner_rows i a).at j
            ∙ rw (row_is c g a, row_is c g b, id_at s.rows b, lt-ltb j (length rs) (let e = all_rules s.rows in omega arith)) refl;
      }
