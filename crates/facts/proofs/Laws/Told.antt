-- What is told of a sheet: the facts found and the cycles listed are those of the rules that were read.
use Prim.Native.Nat.{ℕ, zero, suc, ◌≤◌}
use mathlib.Core.Path.{◌≡◌, refl, sym, ap, ◌∙◌, subst}
use mathlib.Core.List.{List, [], ◌∷◌}
use native.Mathlib.Omega.{arith}
use lib.ListN.{length, get_or, replicate, length-replicate}
use Rattle.grammar.specs.Form.{newest}
use Rattle.grammar.specs.Numbers.{rule_limit, work_bytes}
use Rattle.grammar.specs.Words.{words}
use Rattle.grammar.specs.Tree.{body_depth}
use Rattle.grammar.specs.Ids.{rule_ids, rule_names, is_distinct}
use Rattle.grammar.specs.Lists.{distinct}
use Rattle.grammar.specs.Corners.{Corners, rust, textbook}
use Rattle.grammar.specs.Laws.Parse.{never}
use Rattle.grammar.specs.Laws.Whole.{valid_parts}
use Rattle.reference.specs.Analysis.{grammar_of, left_corner_cycles}
use Rattle.records.specs.Rules.{row}
use Rattle.records.specs.declared.rules.Rules.{Rules}
use Rattle.words.specs.Room.{Room}
use Rattle.sheet.specs.Answer.{read_lent, work_after, ReadAs}
use Rattle.sheet.specs.declared.answer.Reading.{Reading}
use Rattle.std.specs.Prelude.{Ok, Err}
use Rattle.std.specs.Cmp.{first_so, second_so}
use Rattle.words.specs.declared.numbers.Refusal.{Refusal}
use Rattle.words.specs.Refusal.{refusal_number}
use Rattle.sheet.proofs.Laws.Sizes.{is_refused, was_read}
use Rattle.sheet.specs.Read.{WasRead}
use Rattle.reach.specs.Rows.{Behind}
use Rattle.analysis.specs.Facts.{Standing, FactsOf, FactsFound}
use Rattle.reach.specs.Listed.{CycleRows, CyclesIn}
use Rattle.analysis.specs.Rounds.{no_rows}
use Rattle.facts.specs.Told.{reading_of, TellsRules, RulesTold, TellsSheet, Tells}
use Rattle.analysis.specs.declared.rounds.Marks.{Marks}
use Rattle.reach.proofs.Laws.Rows.{two_words}
use Rattle.analysis.proofs.Laws.Standing.{all_rules}
use Rattle.analysis.proofs.Laws.Edges.{are_ids, are_edges}

-- zeros all over
pub rows_long : {rows : List (List ℕ)} → rows ≡ no_rows → length rows ≡ rule_limit
rows_long e = ap length e ∙ length-replicate rule_limit (replicate {A = ℕ} 2 0)

-- what is found and listed is told
pub rules_told : {ws : List ℕ} {end : ℕ} {rules : Rules} {c : Corners} {m : Marks} {count : ℕ} {cs₀ ks₀ ys₀ cs ks ys : List (List ℕ)}
    → cs₀ ≡ no_rows → ks₀ ≡ no_rows → ys₀ ≡ no_rows → FactsFound ws end rules c cs ks m
    → Behind rules.n cs₀ cs → Behind rules.n ks₀ ks
    → CyclesIn ks rules.ids rules.n ys₀ ys count → RulesTold ws end rules c m count cs ks ys
rules_told {ws} {end} {rules} {c} {m} {count} {cs = cs} {ks} {ys} a b d f x y z = record { is = told }
  where
    told : (s : Standing ws end rules) → TellsRules c s.rows.found.trees m count cs ks ys
    told s =
        let rs = s.rows.found.trees in
        let all = all_rules s.rows in
        let ids = s.rows.rows.ids in
        let g = grammar_of body_depth rs in
        let listed = z.is c g body_depth rs (are_edges s (f.is s)) (are_ids s c g) in
        record {
          facts = subst (λ xs. FactsOf c rs xs cs ks m) ids (f.is s);
          calls_behind = subst (λ n. Behind n no_rows cs) all (subst (λ rows. Behind rules.n rows cs) a x);
          corners_behind = subst (λ n. Behind n no_rows ks) all (subst (λ rows. Behind rules.n rows ks) b y);
          cycles_listed =
              subst (λ n. CycleRows (row (rule_ids rs)) n (left_corner_cycles c g body_depth rs) ys count) all
              (subst (λ xs. CycleRows xs rules.n (left_corner_cycles c g body_depth rs) ys count) ids listed);
          cycles_behind = subst (λ rows. Behind count rows ys) d z.behind;
        }

-- a sheet that was read
unfoldable pub read_stands : {bs work : List ℕ} {end : ℕ} {rules : Rules} → WasRead bs work end rules → Standing (words bs) end rules
unfolding is_distinct
read_stands w =
    let d = (valid_parts newest w.tree w.good).distinct in
    record {
      rows = w.rows;
      ids = ap (λ rs. distinct (rule_ids rs)) w.trees ∙ first_so (distinct (rule_ids w.tree.rules)) _ d;
      names =
          ap (λ rs. distinct (rule_names rs)) w.trees
          ∙ first_so (distinct (rule_names w.tree.rules)) _ (second_so (distinct (rule_ids w.tree.rules)) _ d);
    }

module _ {bs work : List ℕ} {end : ℕ} {rules : Rules} (w : WasRead bs work end rules) where
  tells_sheet : {c : Corners} {m : Marks} {count n : ℕ} {cs ks ys : List (List ℕ)} → RulesTold (words bs) end rules c m count cs ks ys
      → n ≡ rules.n
      → Tells c (read_lent bs work) (0 ∷ n ∷ count ∷ [])
      (get_or m.nullable 0 0 ∷ get_or m.nullable 1 0 ∷ get_or m.stops 0 0 ∷ get_or m.stops 1 0 ∷ []) cs ks ys
  unfolding read_stands
  tells_sheet {c} {m} {count} {n} {cs} {ks} {ys} t e =
      record {
        refusal = λ k f. never (let z = w.is in cc);
        sheet = λ s f.
            let same : w.tree ≡ s = let z = w.is in cc in
            subst (λ x. TellsSheet c x.rules (0 ∷ n ∷ count ∷ []) marks cs ks ys) same
            (subst (λ rs. TellsSheet c rs (0 ∷ n ∷ count ∷ []) marks cs ks ys) w.trees here);
      }
    where
      marks : List ℕ
      marks = get_or m.nullable 0 0 ∷ get_or m.nullable 1 0 ∷ get_or m.stops 0 0 ∷ get_or m.stops 1 0 ∷ []

      here : TellsSheet c w.rows.found.trees (0 ∷ n ∷ count ∷ []) marks cs ks ys
      here =
          let s = read_stands w in
          let o = t.is s in
          record {
            count = count;
            numbers_are = ap (λ x. 0 ∷ x ∷ count ∷ []) (e ∙ all_rules w.rows);
            told = record {
              facts = record {
                rows = o.facts.rows;
                stops = record { at = λ j. two_words m.stops j ∙ o.facts.stops.at j };
                nullable = record { at = λ j. two_words m.nullable j ∙ o.facts.nullable.at j };
              };
              calls_behind = o.calls_behind;
              corners_behind = o.corners_behind;
              cycles_listed = o.cycles_listed;
              cycles_behind = o.cycles_behind;
            };
          }

-- the same of an answer of the reader
module _ (bs work : List ℕ) {x : Refusal} (a : ReadAs (read_lent bs work) (Err x)) where
  pub tells_refusal : {n : ℕ} → n ≡ refusal_number x → (c : Corners) {ms : List ℕ} {cs ks ys : List (List ℕ)} → ms ≡ replicate 4 0 → cs ≡ no_rows
      → ks ≡ no_rows → ys ≡ no_rows → Tells c (read_lent bs work) (n ∷ 0 ∷ 0 ∷ []) ms cs ks ys
  tells_refusal {n} h c {ms} {cs} {ks} {ys} f x y z =
      let e = is_refused bs work a in
      record {
        refusal = λ k g. let same : n ≡ k = cc in record {
          numbers_are = ap (λ i. i ∷ 0 ∷ 0 ∷ []) same;
          marks_none = f;
          calls_none = x;
          corners_none = y;
          cycles_none = z;
        };
        sheet = λ s g. never cc;
      }

module _ (bs work : List ℕ) {r : Reading} (a : ReadAs (read_lent bs work) (Ok r)) where
  pub read_room : Room bs r.parts.preserved
  read_room = (was_read bs work a).room

  pub read_rules : Standing (words bs) r.parts.preserved r.rules
  read_rules = read_stands (was_read bs work a)

  module _ {w : List ℕ} (e : w ≡ work_after bs work) where
    same_long : length w ≡ length work
    same_long = ap length (e ∙ (was_read bs work a).cleared) ∙ length-replicate (length work) 0

    pub read_work : work_bytes ≤ length w
    read_work = let l = (was_read bs work a).lent in let k = same_long in omega arith

    pub read_cleared : {after : List ℕ} → after ≡ replicate (length w) 0 → after ≡ work_after bs work
    read_cleared g = g ∙ ap (λ k. replicate k 0) same_long ∙ sym (was_read bs work a).cleared

  pub tells_read : {c : Corners} {m : Marks} {count : ℕ} {cs ks ys : List (List ℕ)} → RulesTold (words bs) r.parts.preserved r.rules c m count cs ks ys
      → Tells c (read_lent bs work) (0 ∷ r.rules.n ∷ count ∷ [])
      (get_or m.nullable 0 0 ∷ get_or m.nullable 1 0 ∷ get_or m.stops 0 0 ∷ get_or m.stops 1 0 ∷ []) cs ks ys
  tells_read t = tells_sheet (was_read bs work a) t refl

-- the work area, cleared behind whatever stood in it
pub cleared_long : (mid before : List ℕ) {after : List ℕ} → length mid ≡ length before → after ≡ replicate (length mid) 0
    → after ≡ replicate (length before) 0
cleared_long mid before e f = f ∙ ap (λ k. replicate k 0) e

-- the reading that is asked for by a number
pub reads_zero : {k : ℕ} → k ≡ 0 → rust ≡ reading_of k
reads_zero e = rw e refl

pub reads_other : {k : ℕ} → (k ≡ 0 → ⊥) → textbook ≡ reading_of k
reads_other {k = zero} e = absurd (e refl)
reads_other {k = suc k} e = refl

pub ruleset rows_told = (rows_long, rules_told, cleared_long)

pub ruleset readings = (reads_zero, reads_other)

pub ruleset tellings = (tells_refusal, read_room, read_rules, read_work, read_cleared, tells_read)
