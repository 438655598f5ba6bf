-- The rules that stay copied one after the other: with those left all would be added.
use Prim.Native.Nat.{ℕ, ◌+◌, ◌-◌, ◌<◌, ◌≤◌}
use mathlib.Core.Path.{◌≡◌, refl, sym, ap, ◌∙◌, subst}
use mathlib.Core.List.{List, [], ◌∷◌, ◌++◌, append-nil}
use mathlib.Core.Bool.{Bool, true, false, not}
use native.Mathlib.Omega.{arith}
use lib.ListN.{length, get_or, take, drop, length-append}
use Rattle.grammar.specs.Numbers.{rule_limit}
use Rattle.grammar.specs.Words.{words}
use Rattle.grammar.specs.Tree.{Rule, body_depth}
use Rattle.grammar.specs.Encode.{encode_rule, encode_rules, encode_block}
use Rattle.grammar.specs.Lists.{push}
use Rattle.grammar.specs.Laws.Lists.{each_append}
use Rattle.grammar.specs.Laws.Words.{length_words}
use Rattle.grammar.specs.Laws.Stands.{stands_slice, stands_length}
use Rattle.words.specs.Room.{Room}
use Rattle.records.specs.declared.rules.Rules.{Rules}
use Rattle.reach.specs.Rows.{bit}
use Rattle.analysis.specs.Facts.{Standing, Among}
use Rattle.analysis.proofs.Laws.Standing.{rule_of, id_at, name_at}
use Rattle.writing.specs.Wrote.{Wrote}
use Rattle.drafts.specs.declared.draft.Draft.{Draft}
use Rattle.drafts.specs.Draft.{compose_end, Open, Added, RowAdded}
use Rattle.drafts.specs.Kept.{kept_of, RuleEnds, RulesFit, RulesAdded}
use Rattle.drafts.specs.Laws.Draft.{added_none, added_then, row_added}
use Rattle.drafts.specs.Laws.Kept.{kept_first, kept_none, push_split}

abbrev enc : Rule → List ℕ
enc = encode_rule (encode_block body_depth)

module _ (ws : List ℕ) (end : ℕ) (rules : Rules) (i : ℕ) (gone : Bool) where
  -- There is room for the rule at a place, unless it goes.
  pub record RuleFits (a : Draft) : Type 0 where
    pub fits : (s : Standing ws end rules) (x : Among s.rows.found.trees i)
        → a.pen.to + length (encode_rules (push (not gone) x.rule [])) ≤ compose_end

  -- It was added.
  pub record RuleAdded (before after : List ℕ) (a b : Draft) : Type 0 where
    pub is : (s : Standing ws end rules) (x : Among s.rows.found.trees i) → Added (push (not gone) x.rule []) before after a b
    pub few : b.rules.n ≤ a.rules.n + 1

pub rule_gone : {ws : List ℕ} {end : ℕ} {rules : Rules} {i : ℕ} {gone : Bool} → gone ≡ true → {work work' : List ℕ} {a b : Draft}
    → work' ≡ work → b ≡ a → RuleAdded ws end rules i gone work work' a b
rule_gone e {work} {a = a} f g =
    rw (f, g)
    record {
      is = λ s x. subst (λ g. Added (push (not g) x.rule []) work work a a) (sym e) (added_none work a);
      few = omega arith;
    }

-- It stands from one place to another, and there is room for its words.
pub record Spans (end at q to : ℕ) : Type 0 where
  pub past : at ≤ q
  pub within : q ≤ end
  pub fits : to + (q - at) ≤ compose_end

pub rule_spans : {ws : List ℕ} {end : ℕ} {rules : Rules} {i at q : ℕ} {gone : Bool} {a : Draft} → Standing ws end rules → i < rules.n
    → RuleEnds end rules i q → at ≡ get_or rules.places i 0 → gone ≡ false → RuleFits ws end rules i gone a → Spans end at q a.pen.to
rule_spans {ws} {end} {i = i} {a = a} s l r e g f =
    let x = rule_of s.rows i l in
    let z = rw (← e) at (stands_length (r.is ws s x).stands) in
    let n = ap length (append-nil (enc x.rule)) in
    let m = rw g at (f.fits s x) in
    record { past = omega arith; within = z.1; fits = omega arith }

module _ {bs : List ℕ} {end : ℕ} {rules : Rules} {i : ℕ} {gone : Bool} {a : Draft} where
  -- Its words are copied, and its row is added.
  pub rule_added : Room bs end → gone ≡ false → i < rules.n → {q at : ℕ} → RuleEnds end rules i q → at ≡ get_or rules.places i 0
      → {id name : ℕ} → id ≡ get_or rules.ids i 0 → name ≡ get_or rules.names i 0 → a.rules.n < rule_limit
      → {b : Draft} → RowAdded id name (q - at) a b → {before after : List ℕ}
      → Wrote before after a.pen.to (take (q - at) (drop at (words bs)))
      → RuleAdded (words bs) end rules i gone before after a b
  rule_added room g l {q} {at} r e {id} {name} f h low {b} w {before} {after} u =
      record {
        is = λ s x. subst (λ g. Added (push (not g) x.rule []) before after a b) (sym g) (one s x);
        few = let z = w.rows.count in omega arith;
      }
    where
      one : (s : Standing (words bs) end rules) (x : Among s.rows.found.trees i) → Added (x.rule ∷ []) before after a b
      one s x =
          let t = rw (← e) at (r.is (words bs) s x).stands in
          let k = stands_length t in
          let n : q - at ≡ length (enc x.rule) = omega arith in
          let nil = append-nil (enc x.rule) in
          let slice : take (q - at) (drop at (words bs)) ≡ enc x.rule =
          rw n (stands_slice (let z = room.trailer in omega (arith, length_words bs)) t) in
          let o = w.to in
          record {
            wrote = subst (λ ys. Wrote before after a.pen.to ys) (slice ∙ sym nil) u;
            to = let m = ap length nil in omega arith;
            trail = w.trail;
            counters = w.counters;
            rows = row_added x.rule w (f ∙ id_at s.rows x) (h ∙ name_at s.rows x) n low;
          }

-- Several.
module _ (ws : List ℕ) (end : ℕ) (rules : Rules) (row : List ℕ) (from until : ℕ) (work₀ : List ℕ) (a₀ : Draft) where
  abbrev left : (s : Standing ws end rules) → ℕ → List Rule
  left s i = kept_of row i until s.rows.found.trees

  pub record Copying (work : List ℕ) (i : ℕ) (a : Draft) : Type 0 where
    pub ready : Open a work
    pub few : a.rules.n ≤ i
    pub within : i ≤ until
    pub fits : RulesFit ws end rules row i until a
    pub done : (s : Standing ws end rules) (work' : List ℕ) (b : Draft) → Added (left s i) work work' a b
        → Added (left s from) work₀ work' a₀ b
    pub same : length work ≡ length work₀

  pub copying_none : from ≤ until → Open a₀ work₀ → a₀.rules.n ≤ from → RulesFit ws end rules row from until a₀ → Copying work₀ from a₀
  copying_none l o f r = record { ready = o; few = f; within = l; fits = r; done = λ s work' b z. z; same = refl }

  module _ {work : List ℕ} {i : ℕ} {a : Draft} (g : Copying work i a) where
    pub copying_same : length work ≡ length work₀
    copying_same = g.same

    pub copying_all : until ≤ i → RulesAdded ws end rules row from until work₀ work a₀ a
    copying_all l =
        let e : until ≡ i = let w = g.within in omega arith in
        record {
          is = λ s.
              g.done s work a
              (subst (λ rs. Added rs work work a a) (sym (subst (λ k. left s k ≡ []) e (kept_none row until s.rows.found.trees)))
              (added_none work a));
          few = let f = g.few in omega arith;
        }

    module _ (l : i < until) {gone : Bool} (h : gone ≡ bit row i) where
      split : (s : Standing ws end rules) (x : Among s.rows.found.trees i) → left s i ≡ push (not gone) x.rule [] ++ left s (i + 1)
      split s x = rw h (kept_first x row until l ∙ push_split (not (bit row i)) x.rule (left s (i + 1)))

      pub copying_fits : RuleFits ws end rules i gone a
      copying_fits =
          record {
            fits = λ s x.
                let f = g.fits.fits s in
                let e =
                ap (λ rs. length (encode_rules rs)) (split s x)
                ∙ ap length (each_append enc (push (not gone) x.rule []) (left s (i + 1)))
                ∙ length-append (encode_rules (push (not gone) x.rule [])) (encode_rules (left s (i + 1))) in
                omega arith;
          }

      pub copying_more : until ≤ rules.n → {work' : List ℕ} {b : Draft} → RuleAdded ws end rules i gone work work' a b
          → Standing ws end rules → Copying work' (i + 1) b
      copying_more m {work'} {b} r s₀ =
          let x₀ = rule_of s₀.rows i (omega arith) in
          let w = r.is s₀ x₀ in
          record {
            ready = record {
              low = let z = g.ready.low in let t = w.to in omega arith;
              long = let z = g.ready.long in let t = w.wrote.long in omega arith;
            };
            few = let f = r.few in let k = g.few in omega arith;
            within = omega arith;
            fits = record {
              fits = λ s.
                  let x = rule_of s.rows i (omega arith) in
                  let y = r.is s x in
                  let f = g.fits.fits s in
                  let e =
                  ap (λ rs. length (encode_rules rs)) (split s x)
                  ∙ ap length (each_append enc (push (not gone) x.rule []) (left s (i + 1)))
                  ∙ length-append (encode_rules (push (not gone) x.rule [])) (encode_rules (left s (i + 1))) in
                  let t = y.to in
                  omega arith;
            };
            done = λ s work'' c z.
                let x = rule_of s.rows i (omega arith) in
                g.done s work'' c (subst (λ rs. Added rs work work'' a c) (sym (split s x)) (added_then (r.is s x) z));
            same = w.wrote.long ∙ g.same;
          }

pub ruleset copying = (copying_none, copying_same, copying_all)
