-- The rules' left corners and ids are those of the definition's graph, and its cycles those of the rows that are joined.
use Prim.Native.Nat.{ℕ, ◌≤◌}
use mathlib.Core.Path.{◌≡◌}
use mathlib.Core.List.{List}
use lib.ListN.{length}
use Rattle.grammar.specs.Tree.{body_depth}
use Rattle.grammar.specs.Corners.{Corners}
use Rattle.reference.specs.Analysis.{Row, grammar_of}
use Rattle.records.specs.declared.rules.Rules.{Rules}
use Rattle.reach.specs.Reach.{Loops}
use Rattle.reach.specs.Listed.{corner_rows, Ids, Left, AllLeft}
use Rattle.reach.proofs.Laws.Written.{corners_few}
use Rattle.hub.specs.Grounds.{rules_of, grammar_at}
use Rattle.analysis.specs.declared.rounds.Marks.{Marks}
use Rattle.analysis.proofs.Laws.Edges.{are_ids, are_edges}
use Rattle.turns.specs.declared.limits.Limits.{Limits}
use Rattle.plan.specs.declared.search.Found.{Found}
use Rattle.plan.specs.Search.{RulesKnown, FoundOf, cycles_of, JoinedKnown, TriedOf}

module _ {ws : List ℕ} {end : ℕ} {rules : Rules} {reading : Corners} {calls : List (List ℕ)} {marks : Marks} {kept : List ℕ}
    {closed : List (List ℕ)} (x : JoinedKnown ws end rules reading calls marks kept closed) where
  -- The definition's graph.
  abbrev pub graph : List Row
  graph =
      corner_rows reading (grammar_at ws end rules x.known.known.standing) body_depth
      (rules_of ws end rules x.known.known.standing)

  pub graph_ids : Ids graph rules.n rules.ids
  graph_ids = are_ids x.known.known.standing reading (grammar_at ws end rules x.known.known.standing)

  pub all_ahead : {row : List ℕ} → Loops closed rules.n row
      → Left graph rules.n (cycles_of x.known) closed row (cycles_of x.known)
  all_ahead {row} l =
      let s = x.known.known.standing in
      let rs = s.rows.found.trees in
      x.joined.left reading (grammar_of body_depth rs) body_depth rs (are_edges s x.known.known.facts) row l

  pub cycles_few : length (cycles_of x.known) ≤ rules.n
  cycles_few =
      let rs = x.known.known.standing.rows.found.trees in
      corners_few reading (grammar_of body_depth rs) body_depth rs graph_ids.numbered

module _ {ws : List ℕ} {end : ℕ} {rules : Rules} {reading : Corners} {calls corners closed : List (List ℕ)} {marks : Marks} {kept : List ℕ}
    {m : ℕ} (e : m ≡ rules.n) (l : AllLeft corners m closed) where
  joined_known : RulesKnown ws end rules reading calls corners marks kept → JoinedKnown ws end rules reading calls marks kept closed
  joined_known x = record { corners = corners; known = x; joined = rw e at l }

  pub found_of : {limits : Limits} {bs : List ℕ} {r : Found} → TriedOf ws end rules reading calls marks kept closed limits bs r
      → FoundOf ws end rules reading calls corners marks kept limits bs r
  unfolding joined_known
  found_of t = record { is = λ x. t.is (joined_known x) }
