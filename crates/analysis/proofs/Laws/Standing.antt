-- Rules that stand in a sheet: each by its place among them, and what tells them apart.
use Prim.Native.Nat.{ℕ, zero, suc, ◌+◌, ◌<◌, ◌≤◌}
use mathlib.Core.Path.{◌≡◌, refl, sym, ap, ◌∙◌, subst}
use mathlib.Core.List.{List, [], ◌∷◌, ◌++◌, map, map-id}
use mathlib.Core.Bool.{true}
use native.Mathlib.Omega.{arith}
use lib.ListN.{length, get_or, length-map, get_or-append}
use Rattle.grammar.specs.Form.{newest}
use Rattle.grammar.specs.Numbers.{rule_limit}
use Rattle.grammar.specs.Tree.{Rule, body_depth, inner_depth}
use Rattle.grammar.specs.Encode.{encode_rule, encode_block}
use Rattle.grammar.specs.Lists.{distinct}
use Rattle.grammar.specs.Ids.{rule_names}
use Rattle.grammar.specs.Found.{FoundRule, RuleSpans, RulesSpan}
use Rattle.grammar.specs.Laws.Stands.{stands_length}
use Rattle.grammar.specs.Laws.Opened.{first_spans}
use Rattle.grammar.specs.Laws.Found.{rule_room}
use Rattle.records.specs.Rules.{row, places_from, places_from_in, FoundRows}
use Rattle.records.specs.declared.rules.Rules.{Rules}
use Rattle.records.proofs.Laws.Rules.{row_long}
use Rattle.records.specs.Laws.Places.{places_length}
use Rattle.analysis.specs.Names.{Told}
use Rattle.analysis.specs.Facts.{Standing, Among}
use Rattle.reach.proofs.Laws.Graph.{one_place}

pub among : (rs : List Rule) (i : ℕ) → i < length rs → Among rs i
among [] i l = absurd (omega arith)
among (r ∷ rs) zero l = record { front = []; rule = r; rest = rs; parts = refl; count = refl }
among (r ∷ rs) (suc i) l =
    let t = among rs i (omega arith) in
    record { front = r ∷ t.front; rule = t.rule; rest = t.rest; parts = ap (λ xs. r ∷ xs) t.parts; count = ap suc t.count }

pub few : {rs : List Rule} {i : ℕ} → Among rs i → i < length rs
few {rs} {i} a = subst (λ xs. i < length xs) a.parts (let l = go a.front in let c = a.count in omega arith)
  where
    go : (xs : List Rule) → length xs < length (xs ++ (a.rule ∷ a.rest))
    go [] = omega arith
    go (x ∷ xs) = let l = go xs in omega arith

-- What a rule gives, by its place in a row of numbers with zeros behind.
pub key_at : {B : Type 0} (f : Rule → B) (d : B) {rs : List Rule} {i : ℕ} (a : Among rs i) → get_or (map f rs) i d ≡ f a.rule
key_at f d {rs} {i} a =
    subst (λ xs. get_or (map f xs) i d ≡ f a.rule) a.parts
    (subst (λ k. get_or (map f (a.front ++ (a.rule ∷ a.rest))) k d ≡ f a.rule) a.count (there a.front))
  where
    there : (xs : List Rule) → get_or (map f (xs ++ (a.rule ∷ a.rest))) (length xs) d ≡ f a.rule
    there [] = refl
    there (x ∷ xs) = there xs

row_at : (f : Rule → ℕ) {rs : List Rule} {i : ℕ} (a : Among rs i) → get_or (row (map f rs)) i 0 ≡ f a.rule
unfolding row
row_at f {rs} {i} a = get_or-append (map f rs) _ 0 i (let l = few a in let m = length-map rs f in omega arith) ∙ key_at f 0 a

-- Where a rule stands.
place_spans : {ws : List ℕ} {end : ℕ} (t : Rule) (rest front : List Rule) (at q : ℕ) → RulesSpan ws end at (front ++ (t ∷ rest)) q
    → (z : ℕ) × RuleSpans ws end body_depth (get_or (places_from at (front ++ (t ∷ rest))) (length front) 0) t z
unfolding places_from_in
place_spans t rest [] at q s = let f = first_spans s in (f.0, f.1)
place_spans {ws} {end} t rest (r ∷ front) at q s =
    let f = first_spans s in
    let e : f.0 ≡ at + length (encode_rule (encode_block body_depth) r) = let z = stands_length f.1.stands in omega arith in
    place_spans {ws = ws} {end = end} t rest front (at + length (encode_rule (encode_block body_depth) r)) q (rw (← e) f.2)

module _ {ws : List ℕ} {end : ℕ} {rules : Rules} (f : FoundRows ws end rules) where
  abbrev rs : List Rule
  rs = f.found.trees

  pub all_rules : rules.n ≡ length rs
  all_rules = sym f.found.count

  module _ {i : ℕ} (a : Among rs i) where
    pub id_at : get_or rules.ids i 0 ≡ a.rule.id
    id_at = rw f.rows.ids (row_at (λ r. r.id) a)

    pub name_at : get_or rules.names i 0 ≡ a.rule.name
    name_at = rw f.rows.names (row_at (λ r. r.name) a)

    pub rule_spans : (z : ℕ) × RuleSpans ws end body_depth (get_or rules.places i 0) a.rule z
    unfolding row
    rule_spans =
        let all = a.front ++ (a.rule ∷ a.rest) in
        let s = place_spans a.rule a.rest a.front 0 f.found.next
        (subst (λ xs. RulesSpan ws end 0 xs f.found.next) (sym a.parts) f.found.spans) in
        let there : get_or rules.places i 0 ≡ get_or (places_from 0 all) (length a.front) 0 =
        rw (f.rows.places, a.parts, a.count)
        (get_or-append (places_from 0 rs) _ 0 i (let e = places_length newest 0 rs in let l = few a in omega arith)) in
        (s.0, rw there s.1)

  -- Rules are told apart by a number that no two share.
  pub one_rule : (key : Rule → ℕ) → distinct (map key rs) ≡ true → {i j : ℕ} (a : Among rs i) (b : Among rs j) → key a.rule ≡ key b.rule → i ≡ j
  one_rule key d {i} {j} a b e =
      one_place (λ x. x) 0 (map key rs) (rw (map-id (map key rs)) d) i j (long (few a)) (long (few b)) (key_at key 0 a ∙ e ∙ sym (key_at key 0 b))
    where
      long : {k : ℕ} → k < length rs → k < length (map key rs)
      long l = let m = length-map rs key in omega arith

  pub rule_of : (i : ℕ) → i < rules.n → Among rs i
  rule_of i l = among rs i (let x = all_rules in omega arith)

  module _ {m i at : ℕ} (l : i < m) (c : m ≡ rules.n) (e : at ≡ get_or rules.places i 0) where
    pub place_found : FoundRule ws end at
    place_found =
        let a = rule_of i (omega arith) in
        let s = rule_spans a in
        record { tree = a.rule; next = s.0; spans = rw e s.1 }

    pub place_room : at + 4 ≤ end
    place_room = rule_room newest inner_depth place_found

-- The array of names is as long as there may be rules.
pub names_long : {ws : List ℕ} {end : ℕ} {rules : Rules} → Standing ws end rules → length rules.names ≡ rule_limit
names_long s =
    ap length s.rows.rows.names
    ∙ row_long (rule_names s.rows.found.trees)
    (let m = length-map s.rows.found.trees (λ r. r.name) in let c = s.rows.found.count in let f = s.rows.few in omega arith)

-- The rules' names can be put into a table.
pub told : {ws : List ℕ} {end : ℕ} {rules : Rules} → Standing ws end rules → Told rules.names rules.n
told {rules = rules} s =
    record {
      few = let l = s.rows.few in let e = names_long s in omega arith;
      apart = λ i j l m e.
          let a = rule_of s.rows i (omega arith) in
          let b = rule_of s.rows j m in
          let z = one_rule s.rows (λ r. r.name) s.names a b (sym (name_at s.rows a) ∙ e ∙ name_at s.rows b) in
          omega arith;
    }

pub ruleset standing = (place_found, place_room)
