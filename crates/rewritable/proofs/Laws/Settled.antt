-- The settled alternatives judged one after the other: what is left decides with what was found.
use Prim.Native.Nat.{ℕ, ◌+◌, ◌-◌, ◌<◌, ◌≤◌}
use mathlib.Core.Path.{◌≡◌, refl, sym, ap, ap₂, ◌∙◌, subst}
use mathlib.Core.List.{List, [], ◌∷◌}
use mathlib.Core.Bool.{Bool, true, false, not, ◌&&◌, ◌||◌, or-false, or_assoc}
use native.Mathlib.Omega.{arith}
use lib.ListN.{length, get_or, replicate}
use Rattle.std.specs.Bool.{then_some}
use Rattle.std.specs.Prelude.{Some, None}
use Rattle.std.specs.declared.option.Option.{Option as Opt}
use Rattle.grammar.specs.Lists.{each, all, any}
use Rattle.grammar.specs.Corners.{Corners}
use Rattle.reference.specs.Analysis.{Grammar, collect_calls_in_elements}
use Rattle.reference.specs.Substitute.{Planned}
use Rattle.reference.specs.Plan.{is_primary, is_recursive, is_fit, planned_hub_is_directly_rewritable}
use Rattle.reach.specs.Rows.{bit, holds, RowOf, Union}
use Rattle.reach.proofs.Laws.Rows.{no_bits}
use Rattle.analysis.specs.Survey.{View}
use Rattle.planned.specs.Layout.{meaning, settled, records_from}
use Rattle.planned.specs.List.{ListedIn, AllIn}
use Rattle.planned.specs.Reading.{settled_from, OnTrack, AtFront, ReadNext}
use Rattle.planned.specs.Laws.Ahead.{at_front}
use Rattle.planned.specs.Laws.Runs.{run_count}
use Rattle.planned.specs.declared.list.Sizes.{Sizes}
use Rattle.planned.specs.declared.list.Listed.{Listed}
use Rattle.planned.specs.declared.list.Cursor.{Cursor}
use Rattle.rewritable.specs.Walks.{Agreeing}
use Rattle.rewritable.specs.Judge.{FitAs, AreJudged, VerdictOf, JudgedOf}
use Rattle.rewritable.specs.declared.judge.Verdict.{Verdict}
use Rattle.analysis.proofs.Laws.Meant.{holds_none, holds_append}

-- By a grammar: what was found of those in front, and those left.
module _ (c : Corners) (g : Grammar) (ids : List ℕ) (n : ℕ) (cycle : List ℕ) (hub d : ℕ) (all_of : List (Planned d)) where
  abbrev pub calls : List (Planned d) → List ℕ
  calls = each (λ p. collect_calls_in_elements g d p.elements)

  abbrev pub fits : List (Planned d) → Bool
  fits = all (λ p. is_fit c g cycle hub d p.elements)

  abbrev pub primaries : List (Planned d) → Bool
  primaries = any (λ p. is_primary c g cycle hub d p.elements)

  abbrev pub recursives : List (Planned d) → Bool
  recursives = any (λ p. is_recursive g hub d p.elements)

  pub record Left (ps : List (Planned d)) (primary recursive : Bool) (row : List ℕ) : Type 0 where
    pub fit : planned_hub_is_directly_rewritable c g cycle hub d all_of
        ≡ (fits ps && ((primary || primaries ps) && (recursive || recursives ps)))
    pub called : (j : ℕ) → holds ids n (calls all_of) j ≡ (bit row j || holds ids n (calls ps) j)

  left_all : Left all_of false false (replicate 2 0)
  unfolding planned_hub_is_directly_rewritable
  left_all = record { fit = refl; called = λ j. sym (ap (λ b. b || holds ids n (calls all_of) j) (no_bits j)) }

  left_done : {ps : List (Planned d)} {primary recursive : Bool} {row : List ℕ} → Left ps primary recursive row → ps ≡ []
      → (b : Bool) → b ≡ (primary && recursive) → {r : Opt (List ℕ)} → r ≡ then_some b row → AreJudged c g ids n cycle hub d all_of r
  unfolding all any
  left_done {ps} {primary} {recursive} {row} l e b both {r} is = go b fit is
    where
      fit : planned_hub_is_directly_rewritable c g cycle hub d all_of ≡ b
      fit =
          l.fit
          ∙ ap (λ ps. fits ps && ((primary || primaries ps) && (recursive || recursives ps))) e
          ∙ ap₂ ◌&&◌ (or-false primary) (or-false recursive)
          ∙ sym both

      called : RowOf ids n (calls all_of) row
      called =
          record {
            at = λ j.
                sym (l.called j
                ∙ ap (λ ps. bit row j || holds ids n (calls ps) j) e
                ∙ ap (λ b. bit row j || b) (holds_none ids n j) ∙ or-false (bit row j));
          }

      go : (b : Bool) → planned_hub_is_directly_rewritable c g cycle hub d all_of ≡ b → r ≡ then_some b row
          → AreJudged c g ids n cycle hub d all_of r
      go true f is =
          record {
            unfit = λ x. absurd cc;
            fit = λ u x. f;
            calls = λ u x. let y : row ≡ u = cc in subst (RowOf ids n (calls all_of)) y called;
          }
      go false f is = record { unfit = λ x. f; fit = λ u x. absurd cc; calls = λ u x. absurd cc }

  module _ {ps rest : List (Planned d)} {p : Planned d} {primary recursive : Bool} {row : List ℕ} (l : Left ps primary recursive row)
      (first : ps ≡ p ∷ rest) where
    left_stop : is_fit c g cycle hub d p.elements ≡ false → AreJudged c g ids n cycle hub d all_of None
    unfolding all
    left_stop e =
        record {
          unfit = λ x.
              l.fit
              ∙ ap (λ ps. fits ps && ((primary || primaries ps) && (recursive || recursives ps))) first
              ∙ ap (λ b. (b && fits rest) && ((primary || primaries (p ∷ rest)) && (recursive || recursives (p ∷ rest)))) e;
          fit = λ u x. absurd cc;
          calls = λ u x. absurd cc;
        }

    left_more : {v : Verdict} → FitAs c g ids n cycle hub d p.elements v → {next : List ℕ} → Union row v.calls next
        → Left rest (primary || not v.recursive) (recursive || v.recursive) next
    unfolding all any
    left_more {v} judged {next} u =
        record {
          fit =
              l.fit
              ∙ ap (λ ps. fits ps && ((primary || primaries ps) && (recursive || recursives ps))) first
              ∙ ap (λ b. (b && fits rest) && ((primary || primaries (p ∷ rest)) && (recursive || recursives (p ∷ rest)))) judged.fit
              ∙ ap₂ (λ a b. fits rest && ((primary || (a || primaries rest)) && (recursive || (b || recursives rest))))
              (sym judged.primary) (sym judged.recursive)
              ∙ ap₂ (λ a b. fits rest && (a && b)) (sym (or_assoc primary (not v.recursive) (primaries rest)))
              (sym (or_assoc recursive v.recursive (recursives rest)));
          called = λ j.
              l.called j
              ∙ ap (λ ps. bit row j || holds ids n (calls ps) j) first
              ∙ ap (λ b. bit row j || b) (holds_append ids n (collect_calls_in_elements g d p.elements) (calls rest) j)
              ∙ sym (or_assoc (bit row j) (holds ids n (collect_calls_in_elements g d p.elements) j) (holds ids n (calls rest) j))
              ∙ ap (λ b. b || holds ids n (calls rest) j)
              (ap (λ b. bit row j || b) (sym (judged.calls.at j)) ∙ sym (u.at j));
        }

-- Reading one brings the end nearer.
next_place : {bs : List ℕ} {l : Sizes} {c : Cursor} {x : Listed} {next : Cursor} → ReadNext bs l c x next → c.a < l.out.a → next.a ≡ c.a + 1
unfolding settled_from
next_place {bs} {l} {c} {x} {next} n low =
    let e = ap length (n.first [] 0 0) in
    let a = run_count bs [] 0 0 (l.out.a - c.a) c.a c.e c.o in
    let b = run_count bs [] 0 0 (l.out.a - next.a) next.a next.e next.o in
    let w = n.on.within in
    omega arith

-- The loop, with k judged: by any grammar that agrees, from a position in the list on.
module _ (v : View) (members : List ℕ) (hub : ℕ) (ws : List ℕ) (end d : ℕ) (bs : List ℕ) (l : Sizes) where
  pub record Judging (k : ℕ) (c : Cursor) (primary recursive : Bool) (row : List ℕ) : Type 0 where
    pub at : c.a ≡ k
    pub on : OnTrack bs l c
    pub listed : AllIn ws end d bs l
    pub by : (w : Agreeing v) (cycle : List ℕ) → RowOf w.ids v.n cycle members
        → Left v.reading w.grammar w.ids v.n cycle (get_or w.ids hub 0) d (settled ws end d bs l)
        (settled_from ws end d bs l c) primary recursive row

  pub judge_none : AllIn ws end d bs l → {c : Cursor} → AtFront c → Judging 0 c false false (replicate 2 0)
  judge_none a {c} f =
      let none : Sizes = record { out = record { a = 0; e = 0; o = 0 }; top = record { a = 0; e = 0; o = 0 } } in
      let w = (f.on bs none).within in
      record {
        at = omega arith;
        on = f.on bs l;
        listed = a;
        by = λ w cycle r.
            subst
            (λ ps.
            Left v.reading w.grammar w.ids v.n cycle (get_or w.ids hub 0) d (settled ws end d bs l) ps false false
            (replicate 2 0))
            (sym (f.all ws end d bs l))
            (left_all v.reading w.grammar w.ids v.n cycle (get_or w.ids hub 0) d (settled ws end d bs l));
      }

  module _ {k : ℕ} {c : Cursor} {primary recursive : Bool} {row : List ℕ} (g : Judging k c primary recursive row) where
    pub judge_on : OnTrack bs l c
    judge_on = g.on

    pub judge_low : k < l.out.a → c.a < l.out.a
    judge_low h = let e = g.at in omega arith

    pub judge_all : l.out.a ≤ k → {b : Bool} → b ≡ (primary && recursive) → {r : Opt (List ℕ)} → r ≡ then_some b row
        → JudgedOf v members hub d (settled ws end d bs l) r
    unfolding settled_from records_from
    judge_all p {b} both is =
        let none : settled_from ws end d bs l c ≡ [] =
        ap (λ k. records_from ws end d bs k c.a c.e c.o) (let z : l.out.a - c.a ≡ 0 = let e = g.at in omega arith in z) in
        record { by = λ w cycle r. left_done _ _ _ _ _ _ _ _ (g.by w cycle r) none b both is }

    module _ {x : Listed} {next : Cursor} (n : ReadNext bs l c x next) where
      pub judge_listed : ListedIn ws end d bs x
      judge_listed = n.listed ws end d g.listed

      pub judge_stop : VerdictOf v members hub d (meaning ws end d bs x).elements None → {r : Opt (List ℕ)} → r ≡ None
          → JudgedOf v members hub d (settled ws end d bs l) r
      judge_stop y e =
          rw e
          (record { by = λ w cycle m. left_stop _ _ _ _ _ _ _ _ (g.by w cycle m) (n.first ws end d) ((y.by w cycle m).unfit refl) })

      pub judge_more : k < l.out.a → {r : Verdict} → VerdictOf v members hub d (meaning ws end d bs x).elements (Some r)
          → {more : List ℕ} → Union row r.calls more → Judging (k + 1) next (primary || not r.recursive) (recursive || r.recursive) more
      judge_more h {r} y u =
          record {
            at = next_place n (judge_low h) ∙ ap (λ i. i + 1) g.at;
            on = n.on;
            listed = g.listed;
            by = λ w cycle m. left_more _ _ _ _ _ _ _ _ (g.by w cycle m) (n.first ws end d) ((y.by w cycle m).fit r refl) u;
          }

pub ruleset judging = (at_front, judge_none, judge_on, judge_low, judge_all, judge_listed, judge_stop, judge_more)
