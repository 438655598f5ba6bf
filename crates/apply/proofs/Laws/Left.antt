-- The words of the rules that stay, counted one rule after the other.
use Prim.Native.Nat.{ℕ, ◌+◌, ◌-◌, ◌*◌, ◌<◌, ◌≤◌, ◌^◌}
use mathlib.Core.Path.{◌≡◌, sym, ap, ◌∙◌}
use mathlib.Core.List.{List, [], append-nil}
use mathlib.Core.Bool.{Bool, true, false, not}
use native.Mathlib.Omega.{arith}
use lib.ListN.{length, get_or, length-append}
use Rattle.grammar.specs.Numbers.{most_words, rule_limit}
use Rattle.grammar.specs.Lists.{push}
use Rattle.grammar.specs.Tree.{body_depth}
use Rattle.grammar.specs.Encode.{encode_rule, encode_rules, encode_block}
use Rattle.grammar.specs.Laws.Lists.{each_append}
use Rattle.grammar.specs.Laws.Stands.{stands_length}
use Rattle.records.specs.declared.rules.Rules.{Rules}
use Rattle.reach.specs.Rows.{bit}
use Rattle.analysis.specs.Facts.{Standing, Among}
use Rattle.analysis.proofs.Laws.Standing.{rule_of}
use Rattle.drafts.specs.Kept.{kept_of, RuleEnds}
use Rattle.drafts.specs.Laws.Kept.{kept_first, kept_none, push_split}
use Rattle.apply.specs.Left.{LeftTake}

-- The rule at a place takes so many words, or none if it goes.
pub record RuleTakes (ws : List ℕ) (end : ℕ) (rules : Rules) (i : ℕ) (gone : Bool) (n : ℕ) : Type 0 where
  pub is : (s : Standing ws end rules) (x : Among s.rows.found.trees i) → n ≡ length (encode_rules (push (not gone) x.rule []))
  pub few : n ≤ most_words

pub none_taken : {ws : List ℕ} {end : ℕ} {rules : Rules} {i : ℕ} {gone : Bool} → gone ≡ true → RuleTakes ws end rules i gone 0
none_taken e = record { is = λ s x. ap (λ g. length (encode_rules (push (not g) x.rule []))) (sym e); few = omega arith }

module _ {ws : List ℕ} {end : ℕ} {rules : Rules} {i q at : ℕ} (s : Standing ws end rules) (l : i < rules.n)
    (r : RuleEnds end rules i q) (e : at ≡ get_or rules.places i 0) where
  ends : (s : Standing ws end rules) (x : Among s.rows.found.trees i)
      → (q ≡ at + length (encode_rule (encode_block body_depth) x.rule)) × (q ≤ end)
  ends s x = rw (← e) at (stands_length (r.is ws s x).stands)

  pub ends_within : (at ≤ q) × (q ≤ end)
  ends_within = let z = ends s (rule_of s.rows i l) in (omega arith, z.1)

  pub rule_taken : end ≤ most_words → {gone : Bool} → gone ≡ false → RuleTakes ws end rules i gone (q - at)
  rule_taken m g =
      record {
        is = λ s x.
            let z = ends s x in
            let n = ap length (append-nil (encode_rule (encode_block body_depth) x.rule)) in
            let m : q - at ≡ length (encode_rules (push true x.rule [])) = omega arith in
            m ∙ ap (λ g. length (encode_rules (push (not g) x.rule []))) (sym g);
        few = let z = ends_within in omega arith;
      }

-- With those left all are counted.
module _ (ws : List ℕ) (end : ℕ) (rules : Rules) (row : List ℕ) (from until : ℕ) where
  pub record Counting (i total : ℕ) : Type 0 where
    pub low : i ≤ until
    pub few : total ≤ i * most_words
    pub rest : (s : Standing ws end rules)
        → total + length (encode_rules (kept_of row i until s.rows.found.trees))
        ≡ length (encode_rules (kept_of row from until s.rows.found.trees))

  pub counting_none : from ≤ until → Counting from 0
  counting_none l = record { low = l; few = omega arith; rest = λ s. omega arith }

  module _ {i total : ℕ} (c : Counting i total) where
    pub counting_all : until ≤ i → LeftTake ws end rules row from until total
    counting_all l =
        record {
          is = λ s.
              let e : until ≡ i = let z = c.low in omega arith in
              let n = ap (λ rs. length (encode_rules rs)) (kept_none row until s.rows.found.trees) in
              let r = c.rest s in
              let m = ap (λ k. length (encode_rules (kept_of row k until s.rows.found.trees))) e in
              omega arith;
        }

    pub counting_few : until ≤ rule_limit → total ≤ 2 ^ 20
    counting_few l = let f = c.few in let z = c.low in omega arith

    pub counting_more : {gone : Bool} {n more : ℕ} → i < until → until ≤ rules.n → gone ≡ bit row i → RuleTakes ws end rules i gone n
        → more ≡ total + n → Counting (i + 1) more
    counting_more l m h t w =
        record {
          low = omega arith;
          few = let z = c.few in let f = t.few in omega arith;
          rest = λ s.
              let x = rule_of s.rows i (omega arith) in
              let k = t.is s x in
              let split = kept_first x row until l ∙ push_split (not (bit row i)) x.rule (kept_of row (i + 1) until s.rows.found.trees) in
              let e =
              ap (λ rs. length (encode_rules rs)) split
              ∙ ap length (each_append (encode_rule (encode_block body_depth)) (push (not (bit row i)) x.rule [])
              (kept_of row (i + 1) until s.rows.found.trees))
              ∙ length-append (encode_rules (push (not (bit row i)) x.rule []))
              (encode_rules (kept_of row (i + 1) until s.rows.found.trees)) in
              let g = ap (λ b. length (encode_rules (push (not b) x.rule []))) h in
              let r = c.rest s in
              omega arith;
        }

pub ruleset countings = (counting_none, counting_all, counting_few)
