-- What a round finds, by the definition: a round by the nullable rules in a list, and the rounds until they stand.
use Prim.Native.Nat.{ℕ, zero, suc, ◌+◌, ◌-◌, ◌≤◌}
use mathlib.Core.Path.{◌≡◌, refl, sym, ap, ap₂, ◌∙◌, subst}
use mathlib.Core.List.Memᴰ
use mathlib.Core.List.{List, [], ◌∷◌, Memᴰ}
use mathlib.Core.Bool.{Bool, true, false, ◌&&◌, not, and-false}
use native.Mathlib.Omega.{arith}
use lib.ListN.{length, get_or, replicate, length-map}
use lib.Dec.{ltb}
use borrow.Author.Tests.{ltb-true, ltb-false, eq-eqb, ne_eqb}
use Rattle.std.specs.Cmp.{both_ways}
use Rattle.grammar.specs.Tree.{Rule, body_depth, inner_depth}
use Rattle.grammar.specs.Lists.{member, keep, push, distinct, rounds}
use Rattle.grammar.specs.Laws.Parse.{either}
use Rattle.grammar.specs.Laws.Lists.{in_member, member_in, in_map}
use Rattle.grammar.specs.Corners.{Corners}
use Rattle.graph.specs.Members.{in_keep, keep_in, one_with}
use Rattle.reference.specs.Analysis.{Grammar, names_of, ids_of, block_is_nullable, nullable_round, nullable_rules}
use Rattle.reference.specs.Plan.{satellite_is_inlinable}
use Rattle.records.specs.declared.rules.Rules.{Rules}
use Rattle.reach.specs.Rows.{bit, holds, RowOf, Behind}
use Rattle.analysis.specs.Survey.{View}
use Rattle.analysis.specs.Rounds.{one_if, count_below, Recorded, Recording, RoundFound}
use Rattle.analysis.specs.Facts.{SurveyOf, Among, Standing, stopping, RoundBy, FactsOf, FactsFound}
use Rattle.analysis.specs.declared.rounds.Round.{Round}
use Rattle.reach.proofs.Laws.Rows.{no_bits}
use Rattle.analysis.proofs.Laws.Standing.{among, few, all_rules, id_at, rule_spans}
use Rattle.analysis.proofs.Laws.Agree.{agrees, behind}

pub is_among : {rs : List Rule} {i : ℕ} (a : Among rs i) → Memᴰ a.rule rs
is_among a = subst (Memᴰ a.rule) a.parts (Memᴰ.append_right a.front (Memᴰ.head refl))

-- Of the rules that pass a test, with ids that no two share, one is told by its id.
pub kept_id : (test : Rule → Bool) (rs : List Rule) → distinct (ids_of rs) ≡ true → {i : ℕ} (a : Among rs i)
    → member a.rule.id (ids_of (keep test rs)) ≡ test a.rule
kept_id test rs d a = both_ways (member a.rule.id (ids_of (keep test rs))) (test a.rule) passes kept
  where
    passes : member a.rule.id (ids_of (keep test rs)) ≡ true → test a.rule ≡ true
    passes m =
        let (t, k, f) = Memᴰ.of_map (λ r. r.id) (keep test rs) (member_in (ids_of (keep test rs)) m) in
        let there = in_keep test rs k in
        ap test (sym (one_with (λ r. r.id) rs d there.0 (is_among a) f)) ∙ there.1

    kept : test a.rule ≡ true → member a.rule.id (ids_of (keep test rs)) ≡ true
    kept e = in_member (in_map (λ r. r.id) (keep_in test (is_among a) e))

-- How many pass, counted by place.
count_front : (f : ℕ → Bool) (m : ℕ) → count_below f (suc m) ≡ one_if (f 0) + count_below (λ k. f (suc k)) m
unfolding count_below
count_front f zero = omega arith
count_front f (suc m) = ap (λ x. x + one_if (f (suc m))) (count_front f m) ∙ omega arith

count_kept : (test : Rule → Bool) (rs : List Rule) (f : ℕ → Bool) → ((i : ℕ) (a : Among rs i) → f i ≡ test a.rule)
    → count_below f (length rs) ≡ length (keep test rs)
unfolding count_below keep
count_kept test [] f h = refl
count_kept test (r ∷ rs) f h =
    count_front f (length rs)
    ∙ ap₂ (λ b n. one_if b + n) (h 0 (record { front = []; rule = r; rest = rs; parts = refl; count = refl }))
    (count_kept test rs (λ k. f (suc k)) (λ i a. h (suc i) (behind r a)))
    ∙ pushed (test r) (keep test rs)
  where
    pushed : (b : Bool) (xs : List Rule) → one_if b + length xs ≡ length (push b r xs)
    pushed true xs = omega arith
    pushed false xs = omega arith

module _ {ws : List ℕ} {end : ℕ} {rules : Rules} (s : Standing ws end rules) where
  abbrev rs : List Rule
  rs = s.rows.found.trees

  -- Bits that are a test of the rules.
  marks_are : (test : Rule → Bool) (row : List ℕ) → ((i : ℕ) (a : Among rs i) → bit row i ≡ test a.rule)
      → ((k : ℕ) → rules.n ≤ k → bit row k ≡ false) → RowOf rules.ids (length rs) (ids_of (keep test rs)) row
  unfolding holds
  marks_are test row h g = record { at = λ j. either (ltb j (length rs)) (inside j) (outside j) }
    where
      inside : (j : ℕ) → ltb j (length rs) ≡ true
          → bit row j ≡ (ltb j (length rs) && member (get_or rules.ids j 0) (ids_of (keep test rs)))
      inside j e =
          let a = among rs j (ltb-true j (length rs) e) in
          h j a ∙ sym (rw (e, id_at s.rows a) (kept_id test rs s.ids a))

      outside : (j : ℕ) → ltb j (length rs) ≡ false
          → bit row j ≡ (ltb j (length rs) && member (get_or rules.ids j 0) (ids_of (keep test rs)))
      outside j e = g j (let l = ltb-false j (length rs) e in let c = all_rules s.rows in omega arith) ∙ sym (rw e refl)

  module _ {xs row : List ℕ} (o : RowOf rules.ids rules.n xs row) {reading : Corners} {cs₀ ks₀ cs ks : List (List ℕ)} {m : Round}
      (r : RoundFound ws end rules reading row cs₀ ks₀ cs ks m) where
    abbrev grammar : Grammar
    grammar = record { names = names_of rs; nullable = xs }

    abbrev kept : {i : ℕ} (a : Among rs i) → Recorded (record { names = rules.names; n = rules.n; nullable = row; reading = reading }) ws end
        (get_or rules.places i 0) i cs ks m.marks.nullable m.marks.stops
    kept {i} a = r.each i (let l = few a in let c = all_rules s.rows in omega arith)

    meant : {i : ℕ} (a : Among rs i) → SurveyOf reading grammar rules.ids (length rs) a.rule (kept a).survey
    meant {i} a =
        let z = rule_spans s.rows a in
        subst (λ n. SurveyOf reading grammar rules.ids n a.rule (kept a).survey) (all_rules s.rows)
        ((kept a).surveyed.by grammar rules.ids (agrees s o reading) a.rule z.0 z.1)

    pub round_by : RoundBy reading rs rules.ids xs cs ks m
    unfolding stopping nullable_round
    round_by =
        record {
          rows = record {
            call_rows = λ i a. rw (kept a).calls (meant a).calls;
            corner_rows = λ i a. rw (kept a).corners (meant a).corners;
          };
          stops = marks_are (λ t. not (satellite_is_inlinable inner_depth t)) m.marks.stops (λ i a. (kept a).stops ∙ (meant a).stops) r.stops_none;
          nullable = marks_are (λ t. block_is_nullable grammar body_depth t.body) m.marks.nullable nulls r.nullable_none;
          count =
              r.counted
              ∙ ap (count_below (bit m.marks.nullable)) (all_rules s.rows)
              ∙ count_kept (λ t. block_is_nullable grammar body_depth t.body) rs (bit m.marks.nullable) nulls
              ∙ sym (length-map (keep (λ t. block_is_nullable grammar body_depth t.body) rs) (λ t. t.id));
        }
      where
        nulls : (i : ℕ) (a : Among rs i) → bit m.marks.nullable i ≡ block_is_nullable grammar body_depth a.rule.body
        nulls i a = (kept a).nullable ∙ (meant a).nullable

-- Rounds, with `left` to go: the definition's rounds from what is found so far.
pub record Nulls (rs : List Rule) (ids : List ℕ) (n left : ℕ) (found : List ℕ) (count : ℕ) : Type 0 where
  pub list : List ℕ
  pub same : nullable_rules body_depth rs ≡ rounds (nullable_round body_depth rs) left list
  pub row : RowOf ids n list found
  pub counted : count ≡ length list

pub record Finding (ws : List ℕ) (end : ℕ) (rules : Rules) (left : ℕ) (found : List ℕ) (count : ℕ) : Type 0 where
  pub so : (s : Standing ws end rules) → Nulls s.rows.found.trees rules.ids rules.n left found count

pub find_none : {ws : List ℕ} {end : ℕ} {rules : Rules} {n : ℕ} → n ≡ rules.n → Finding ws end rules n (replicate 2 0) 0
unfolding nullable_rules holds member
find_none {rules = rules} {n} e =
    record {
      so = λ s.
          record {
            list = [];
            same = ap (λ k. rounds (nullable_round body_depth s.rows.found.trees) k []) (sym (all_rules s.rows) ∙ sym e);
            row = record { at = λ j. no_bits j ∙ sym (and-false (ltb j rules.n)) };
            counted = refl;
          };
    }

module _ {ws : List ℕ} {end : ℕ} {rules : Rules} {left : ℕ} {found : List ℕ} {count : ℕ} (f : Finding ws end rules left found count)
    {reading : Corners} {cs₀ ks₀ cs ks : List (List ℕ)} {m : Round} (r : RoundFound ws end rules reading found cs₀ ks₀ cs ks m) where
  by : (s : Standing ws end rules) → RoundBy reading s.rows.found.trees rules.ids (f.so s).list cs ks m
  by s = round_by s (f.so s).row r

  -- What was found is all that is nullable.
  facts : (s : Standing ws end rules) → nullable_rules body_depth s.rows.found.trees ≡ (f.so s).list
      → FactsOf reading s.rows.found.trees rules.ids cs ks (record { nullable = found; stops = m.marks.stops })
  facts s a =
      record {
        rows = rw a (by s).rows;
        stops = (by s).stops;
        nullable = rw a (subst (λ k. RowOf rules.ids k (f.so s).list found) (all_rules s.rows) (f.so s).row);
      }

  pub find_last : left ≡ 0 → FactsFound ws end rules reading cs ks (record { nullable = found; stops = m.marks.stops })
  unfolding rounds
  find_last z = record { is = λ s. facts s ((f.so s).same ∙ rw z refl) }

  stands : (s : Standing ws end rules) (k : ℕ) → left ≡ suc k → m.count ≡ count → nullable_rules body_depth s.rows.found.trees ≡ (f.so s).list
  unfolding rounds
  stands s k z c =
      (f.so s).same
      ∙ rw (z, rounds, eq-eqb (length (nullable_round body_depth s.rows.found.trees (f.so s).list)) (length (f.so s).list) (sym (by s).count ∙ c ∙ (f.so s).counted)) refl

  pub find_stands : (left ≡ 0 → ⊥) → m.count ≡ count
      → FactsFound ws end rules reading cs ks (record { nullable = found; stops = m.marks.stops })
  find_stands z c = record { is = λ s. facts s (stands s (left - 1) (omega arith) c) }

  moves : (s : Standing ws end rules) (k : ℕ) → left ≡ suc k → (m.count ≡ count → ⊥)
      → nullable_rules body_depth s.rows.found.trees
      ≡ rounds (nullable_round body_depth s.rows.found.trees) k (nullable_round body_depth s.rows.found.trees (f.so s).list)
  unfolding rounds
  moves s k z c =
      (f.so s).same
      ∙ rw (z, rounds, ne_eqb (length (nullable_round body_depth s.rows.found.trees (f.so s).list)) (length (f.so s).list) (λ x. c ((by s).count ∙ x ∙ sym (f.so s).counted))) refl

  pub find_more : {k : ℕ} → left ≡ suc k → (m.count ≡ count → ⊥) → Finding ws end rules k m.marks.nullable m.count
  find_more {k} z c =
      record {
        so = λ s.
            record {
              list = nullable_round body_depth s.rows.found.trees (f.so s).list;
              same = moves s k z c;
              row = subst (λ k. RowOf rules.ids k (nullable_round body_depth s.rows.found.trees (f.so s).list) m.marks.nullable) (sym (all_rules s.rows)) (by s).nullable;
              counted = (by s).count;
            };
      }

module _ {v : View} {ws : List ℕ} {end : ℕ} {places : List ℕ} {cs₀ ks₀ : List (List ℕ)} {n : ℕ} {cs ks : List (List ℕ)} {m : Round}
    (r : Recording v ws end places cs₀ ks₀ n cs ks m) where
  -- Rows behind the last rule.
  pub behind_all : Behind n cs₀ cs × Behind n ks₀ ks
  behind_all = (record { same = r.calls_behind; long = r.calls_long }, record { same = r.corners_behind; long = r.corners_long })

  -- A round behind another one leaves these as they were in front of both.
  pub round_more : {u : View} {cs' ks' : List (List ℕ)} {m' : Round} → Recording u ws end places cs ks n cs' ks' m'
      → Recording u ws end places cs₀ ks₀ n cs' ks' m'
  round_more o =
      record {
        each = o.each;
        nullable_none = o.nullable_none;
        stops_none = o.stops_none;
        counted = o.counted;
        low = o.low;
        calls_behind = λ k l. o.calls_behind k l ∙ r.calls_behind k l;
        corners_behind = λ k l. o.corners_behind k l ∙ r.corners_behind k l;
        calls_long = o.calls_long;
        corners_long = o.corners_long;
      }
