-- What rows say of rules that stand in a sheet, by ids: a bit is membership, a name's rule is its target, an id's is that rule.
use Prim.Native.Nat.{ℕ, suc, ◌<◌, ◌≤◌}
use mathlib.Core.Path.{◌≡◌, refl, sym, ap, ◌∙◌}
use mathlib.Core.List.{List, [], ◌∷◌, Memᴰ}
use mathlib.Core.Option.{Option, none, some}
use mathlib.Core.Bool.{true, false, ◌||◌, true≢false, and-false, or-false}
use native.Mathlib.Omega.{arith}
use lib.ListN.{get_or, length-map}
use lib.Dec.{eqb, ltb}
use borrow.Author.Tests.{eqb-true, eq-eqb, lt-ltb, ltb-true, ltb-false}
use Rattle.std.specs.Cmp.{first_so, second_so}
use Rattle.grammar.specs.Tree.{Rule, body_depth}
use Rattle.grammar.specs.Lists.{member}
use Rattle.grammar.specs.Laws.Lists.{member_in}
use Rattle.grammar.specs.Laws.Parse.{either}
use Rattle.grammar.specs.Corners.{Corners, rust}
use Rattle.graph.specs.Members.{one_with}
use Rattle.reference.specs.Analysis.{Grammar, names_of, ids_of, target, rule_with_id, collect_calls_into, grammar_of}
use Rattle.records.specs.declared.rules.Rules.{Rules}
use Rattle.reach.specs.Rows.{bit, holds, edge, RowOf}
use Rattle.reach.proofs.Laws.Graph.{in_at}
use Rattle.analysis.specs.Names.{is_named, At, Nowhere}
use Rattle.analysis.specs.Facts.{Among, Standing}
use Rattle.analysis.proofs.Laws.Seen.{any_none}
use Rattle.analysis.proofs.Laws.Agree.{agrees, behind}
use Rattle.analysis.proofs.Laws.Standing.{among, few, all_rules, id_at, key_at, one_rule}
use Rattle.analysis.specs.declared.rounds.Marks.{Marks}
use Rattle.analysis.proofs.Laws.Rounded.{is_among}
use Rattle.hub.specs.Corner.{Tells}
use Rattle.hub.specs.Grounds.{Known, rules_of, grammar_at}
use Rattle.hub.specs.declared.cycle.Cycle.{Cycle}
use Rattle.hub.proofs.Laws.Lists.{first_only}

-- A bit of a row of ids.
pub row_bit : {ids : List ℕ} {n : ℕ} {xs row : List ℕ} → RowOf ids n xs row → {i : ℕ} → i < n → bit row i ≡ member (get_or ids i 0) xs
unfolding holds
row_bit {n = n} r {i} l = r.at i ∙ rw (lt-ltb i n l) refl

pub row_low : {ids : List ℕ} {n : ℕ} {xs row : List ℕ} → RowOf ids n xs row → {i : ℕ} → bit row i ≡ true → i < n
unfolding holds
row_low {n = n} r {i} t = ltb-true i n (first_so (ltb i n) _ (sym (r.at i) ∙ t))

-- A row by the bits of the rules that are there, and what is behind them.
pub row_of : {ids : List ℕ} {n : ℕ} {xs row : List ℕ} → ((j : ℕ) → j < n → bit row j ≡ member (get_or ids j 0) xs)
    → ((j : ℕ) → n ≤ j → bit row j ≡ false)
    → RowOf ids n xs row
unfolding holds
row_of {ids} {n} {xs} {row} f g =
    record {
      at = λ j.
          either (ltb j n) (λ t. f j (ltb-true j n t) ∙ sym (rw t refl)) (λ e. g j (ltb-false j n e) ∙ sym (rw e refl));
    }

pub row_none : {ids : List ℕ} {n : ℕ} {xs row : List ℕ} → RowOf ids n xs row → (j : ℕ) → n ≤ j → bit row j ≡ false
row_none {row = row} r j l = either (bit row j) (λ t. absurd (let m = row_low r t in omega arith)) (λ f. f)

pub in_among : {t : Rule} {rs : List Rule} → Memᴰ t rs → (i : ℕ) × (a : Among rs i) × (a.rule ≡ t)
in_among (Memᴰ.head {x = r} {xs = rs} e) =
    (0, record { front = []; rule = r; rest = rs; parts = refl; count = refl }, sym e)
in_among (Memᴰ.tail {x = r} m) = let (i, a, e) = in_among m in (suc i, behind r a, e)

module _ {ws : List ℕ} {end : ℕ} {rules : Rules} (s : Standing ws end rules) where
  abbrev rs : List Rule
  rs = s.rows.found.trees

  pub place_low : {i : ℕ} → Among rs i → i < rules.n
  place_low a = let l = few a in let c = all_rules s.rows in omega arith

  pub at_place : (i : ℕ) → i < rules.n → Among rs i
  at_place i l = among rs i (let c = all_rules s.rows in omega arith)

  pub same_place : {i j : ℕ} → i < rules.n → j < rules.n → get_or rules.ids i 0 ≡ get_or rules.ids j 0 → i ≡ j
  same_place {i} {j} l m e =
      let a = at_place i l in
      let b = at_place j m in
      one_rule s.rows (λ r. r.id) s.ids a b (sym (id_at s.rows a) ∙ e ∙ id_at s.rows b)

  -- The rule that has an id.
  pub with_id : {i : ℕ} (a : Among rs i) → rule_with_id rs (get_or rules.ids i 0) ≡ some a.rule
  unfolding rule_with_id
  with_id {i} a =
      rw (id_at s.rows a)
      (first_only (λ r. eqb r.id a.rule.id) rs (is_among a) (eq-eqb a.rule.id a.rule.id refl)
      λ b m e. one_with (λ r. r.id) rs s.ids m (is_among a) (eqb-true b.id a.rule.id e))

  -- The place of an id.
  pub id_place : (x : ℕ) → member x (ids_of rs) ≡ true → (i : ℕ) × (i < rules.n) × (get_or rules.ids i 0 ≡ x)
  id_place x m =
      let (i, l, e) = in_at 0 (member_in (ids_of rs) m) in
      let a = among rs i (let z = length-map rs (λ r. r.id) in omega arith) in
      (i, place_low a, id_at s.rows a ∙ sym (key_at (λ r. r.id) 0 a) ∙ e)

  -- What a grammar with these names and nullable rules says of names is what the rows say.
  module _ {cycle members xs nullable : List ℕ} (c : RowOf rules.ids rules.n cycle members)
      (o : RowOf rules.ids rules.n xs nullable) where
    abbrev grammar : Grammar
    grammar = record { names = names_of rs; nullable = xs }

    no_target : (m : ℕ) (t : Option ℕ) → target grammar m ≡ t → Nowhere rules.names rules.n m → target grammar m ≡ none
    no_target m none e w = e
    no_target m (some t) e w =
        absurd
        (true≢false
        (sym (rw e at ((agrees s o rust).known m)) ∙ any_none (is_named rules.names rules.n m) w.none rules.n))

    told : (m i : ℕ) → At rules.names rules.n m i → (t : Option ℕ) → target grammar m ≡ t
        → holds rules.ids rules.n (elim t as (λ x. List ℕ) [ none ↦ [] | some t ↦ t ∷ [] ]) i ≡ true
    told m i a t e = sym (rw e at ((agrees s o rust).calls m i)) ∙ a.only i ∙ eq-eqb i i refl

    -- A name's rule is its target.
    pub target_at : (m i : ℕ) → At rules.names rules.n m i → target grammar m ≡ some (get_or rules.ids i 0)
    unfolding holds member
    target_at m i a = go (target grammar m) refl
      where
        go : (t : Option ℕ) → target grammar m ≡ t → target grammar m ≡ some (get_or rules.ids i 0)
        go none e = absurd (true≢false (sym (told m i a none e) ∙ and-false (ltb i rules.n)))
        go (some t) e =
            let h = second_so (ltb i rules.n) (eqb (get_or rules.ids i 0) t || false) (told m i a (some t) e) in
            e ∙ ap some (sym (eqb-true (get_or rules.ids i 0) t (sym (or-false (eqb (get_or rules.ids i 0) t)) ∙ h)))

    pub target_none : (m : ℕ) → Nowhere rules.names rules.n m → target grammar m ≡ none
    target_none m w = no_target m (target grammar m) refl w

    pub tells : (y : Cycle) → y.names.list.now ≡ rules.names → y.names.n ≡ rules.n → y.members ≡ members → y.nullable ≡ nullable → Tells grammar cycle y
    tells y names count inside empty =
        record {
          unknown = λ m w. target_none m (rw (names, count) at w);
          rule = λ m i a.
              let b : At rules.names rules.n m i = rw (names, count) at a in
              record {
                id = get_or rules.ids i 0;
                is = target_at m i b;
                inside = ap (λ r. bit r i) inside ∙ row_bit c b.below;
                empty = ap (λ r. bit r i) empty ∙ row_bit o b.below;
              };
        }

-- A bit of a row of calls.
pub call_bit : {ws : List ℕ} {end : ℕ} {rules : Rules} {reading : Corners} {calls corners : List (List ℕ)} {m : Marks}
    (k : Known ws end rules reading calls corners m) {i j : ℕ} (a : Among (rules_of ws end rules k.standing) i) → j < rules.n
    → edge calls i j ≡ member (get_or rules.ids j 0) (collect_calls_into (grammar_at ws end rules k.standing) body_depth a.rule.body)
unfolding grammar_of
call_bit k {i} {j} a l = row_bit (k.facts.rows.call_rows i a) (let c = all_rules k.standing.rows in omega arith)
