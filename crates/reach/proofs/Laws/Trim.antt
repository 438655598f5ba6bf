-- Rules that lead to no rule left are on no cycle.
use Prim.Native.Nat.{ℕ, ◌<◌}
use mathlib.Core.Path.{◌≡◌, ◌∙◌, subst}
use mathlib.Core.List.{List, []}
use mathlib.Core.Bool.{true}
use lib.ListN.{get_or}
use borrow.Author.Tests.{lt-ltb}
use Rattle.reach.specs.Rows.{bit, edge}
use Rattle.reach.specs.Reach.{Path, last, more}
use Rattle.reach.specs.Steps.{Below, Holds, Kept}
use Rattle.reach.proofs.Laws.Paths.{path_path}

pub holds_all : {rows : List (List ℕ)} {n : ℕ} {r : List ℕ} → Below n r → Holds rows n r
holds_all {n = n} b = record { at = λ i l q. b.at i ∙ lt-ltb i n l }

pub holds_kept : {rows : List (List ℕ)} {n i : ℕ} {row r : List ℕ} → Holds rows n row → i < n → Kept row i (get_or rows i []) r
    → Holds rows n r
holds_kept {rows} {n} {i} {row} {r} h l k =
    record { at = λ a b p. (k.at a).1 (h.at a b p, λ e. leads (subst (λ x. Path (edge rows) n x x) e p)) }
  where
    -- The next rule on the cycle is on one too.
    leads : Path (edge rows) n i i → (j : ℕ) × (edge rows i j ≡ true) × (bit row j ≡ true)
    leads (last e) = (i, e, h.at i l (last e))
    leads (more {k = j} e m p) = (j, e, h.at j m (path_path p l (last e)))

pub ruleset trimming = (holds_all, holds_kept)
