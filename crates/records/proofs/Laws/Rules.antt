-- The rules read so far, and what is left to read.
use Prim.Native.Nat.{ℕ, zero, suc, ◌+◌, ◌-◌, ◌<◌, ◌≤◌}
use mathlib.Core.Path.{◌≡◌, refl, sym, ap, subst, ◌∙◌}
use mathlib.Core.List.{List, [], ◌∷◌, ◌++◌, append_assoc, append-nil, map-append}
use native.Mathlib.Omega.{arith}
use lib.ListN.{length, get_or, set, replicate, length-append, length-map, length-replicate}
use lib.Seq.{set-append_seam}
use borrow.Author.Tests.{eq-eqb, ne_eqb}
use Rattle.grammar.specs.Form.{Form}
use Rattle.grammar.specs.Stands.{Stands}
use Rattle.grammar.specs.Tree.{Rule, body_depth}
use Rattle.grammar.specs.Parse.{Got, got, bad, ◌then◌}
use Rattle.grammar.specs.Encode.{encode_rule, encode_rules_in, encode_block_in}
use Rattle.grammar.specs.Read.{rule_at_in, block_at_in, rules_at_in}
use Rattle.grammar.specs.Numbers.{rule_limit}
use Rattle.grammar.specs.Ids.{rule_ids, rule_names}
use Rattle.grammar.specs.Laws.Stands.{stands_length, stands_head}
use Rattle.grammar.specs.Laws.Parse.{never, yields_got}
use Rattle.grammar.specs.Laws.Sound.{rule_sound, block_sound}
use Rattle.std.specs.Prelude.{Option, Some, None}
use Rattle.records.specs.declared.rules.Rules.{Rules}
use Rattle.records.specs.Step.{step_of}
use Rattle.records.specs.Rules.{row, places_from_in, RowsOfIn, IsEmpty, IsWith, RulesReadIn, is_got}
use Rattle.records.specs.Laws.Places.{places_length, places_more}

pub record SoFar (form : Form) (ws : List ℕ) (end at : ℕ) (rules : Rules) : Type 0 where
  pub read : List Rule
  pub rows : RowsOfIn form read rules
  pub few : rules.n ≤ rule_limit
  pub place : at ≡ length (encode_rules_in form read)
  pub within : at ≤ end
  pub rest : rules_at_in form ws end rule_limit 0 ≡ (rules_at_in form ws end (rule_limit - rules.n) at then λ rs q. got (read ++ rs) q)

then_self : {A : Type 0} (g : Got A) → g ≡ (g then λ a q. got a q)
then_self (got a q) = refl
then_self bad = refl

-- an array with one number more
row_more : (xs : List ℕ) (x n : ℕ) → n ≡ length xs → n < rule_limit → set (row xs) n x ≡ row (xs ++ (x ∷ []))
unfolding row
row_more xs x n e h =
    let m : rule_limit - length xs ≡ suc (rule_limit - (length xs + 1)) = omega arith in
    let k : rule_limit - length (xs ++ (x ∷ [])) ≡ rule_limit - (length xs + 1) = simp length-append (omega arith) in
    let z = replicate {A = ℕ} (rule_limit - (length xs + 1)) 0 in
    rw (e, m, k) (set-append_seam xs 0 z x ∙ sym (append_assoc xs (x ∷ []) z))

pub row_long : (xs : List ℕ) → length xs ≤ rule_limit → length (row xs) ≡ rule_limit
unfolding row
row_long xs l = rw (length-append, length-replicate) (omega arith)

rules_length : (form : Form) (rs : List Rule) (r : Rule)
    → length (encode_rules_in form (rs ++ (r ∷ []))) ≡ length (encode_rules_in form rs) + length
    (encode_rule (encode_block_in form body_depth) r)
rules_length form [] r = let l = length-append (encode_rule (encode_block_in form body_depth) r) [] in omega arith
rules_length form (x ∷ rs) r =
    let i = rules_length form rs r in
    let a = length-append (encode_rule (encode_block_in form body_depth) x) (encode_rules_in form rs) in
    let b = length-append (encode_rule (encode_block_in form body_depth) x) (encode_rules_in form (rs ++ (r ∷ []))) in
    omega arith

-- the arrays with one rule more
row_with : {before after : List ℕ} (xs ys : List ℕ) (n x : ℕ) → after ≡ set before n x → before ≡ row xs → n ≡ length xs → n < rule_limit
    → ys ≡ xs ++ (x ∷ []) → after ≡ row ys
row_with xs ys n x e f g h k = e ∙ ap (λ l. set l n x) f ∙ row_more xs x n g h ∙ sym (ap row k)

pub rows_more : (form : Form) {rules more : Rules} {id name at : ℕ} (rs : List Rule) (r : Rule) → RowsOfIn form rs rules
    → rules.n < rule_limit
    → at ≡ length (encode_rules_in form rs) → id ≡ r.id → name ≡ r.name → IsWith rules id name at more → RowsOfIn form (rs ++ (r ∷ [])) more
rows_more form {rules} {more} {id} {name} {at} rs r o h p e f w =
    record {
      ids =
          row_with (rule_ids rs) _ rules.n id w.ids o.ids (o.count ∙ sym (length-map rs _)) h
          (map-append (λ x. x.id) rs (r ∷ []) ∙ ap (λ i. rule_ids rs ++ (i ∷ [])) (sym e));
      names =
          row_with (rule_names rs) _ rules.n name w.names o.names (o.count ∙ sym (length-map rs _)) h
          (map-append (λ x. x.name) rs (r ∷ []) ∙ ap (λ i. rule_names rs ++ (i ∷ [])) (sym f));
      places =
          row_with (places_from_in form 0 rs) _ rules.n at w.places o.places (o.count ∙ sym (places_length form 0 rs)) h
          (places_more form rs r 0 ∙ ap (λ i. places_from_in form 0 rs ++ (i ∷ [])) (let z : 0 + length (encode_rules_in form rs) ≡ at = omega arith in z));
      count = omega (arith, w.count, o.count, length-append rs (r ∷ []));
    }

pub none_so_far : (form : Form) (ws : List ℕ) (end : ℕ) {rules : Rules} → IsEmpty rules → SoFar form ws end 0 rules
unfolding row places_from_in
none_so_far form ws end e =
    record {
      read = [];
      rows = record { ids = e.ids; names = e.names; places = e.places; count = e.count };
      few = omega (arith, e.count);
      place = refl;
      within = omega arith;
      rest = rw e.count (then_self (rules_at_in form ws end rule_limit 0));
    }

bad_got : {A : Type 0} (g : Got A) → step_of g ≡ None → g ≡ bad
bad_got (got a q) e = never cc
bad_got bad e = refl

next_got : {A : Type 0} (g : Got A) (p : ℕ) → step_of g ≡ Some p → (a : A) × (g ≡ got a p)
next_got (got a q) p e = let z : q ≡ p = cc in (a, ap (got a) z)
next_got bad p e = never cc

then_then : {A : Type 0} (g : Got (List A)) (r : A) (rs : List A)
    → ((g then λ xs q. got (r ∷ xs) q) then λ xs q. got (rs ++ xs) q) ≡ (g then λ xs q. got (rs ++ (r ∷ []) ++ xs) q)
then_then (got xs q) r rs = ap (λ l. got l q) (sym (append_assoc rs (r ∷ []) xs))
then_then bad r rs = refl

rule_words_lem : (form : Form) {ws : List ℕ} {end at p : ℕ} (r : Rule)
    → Stands ws end (encode_rule (encode_block_in form body_depth) r) at p
    → (get_or ws at 0 ≡ r.id) × (get_or ws (at + 1) 0 ≡ r.name)
unfolding encode_rule
rule_words_lem form r s = (stands_head s, s.run.1.0)

-- one more rule, and the ways in which there is none
module _ {form : Form} {ws : List ℕ} {end at : ℕ} {rules : Rules} (f : SoFar form ws end at rules) where
  all_bad : rules_at_in form ws end (rule_limit - rules.n) at ≡ bad → rules_at_in form ws end rule_limit 0 ≡ bad
  all_bad e = f.rest ∙ ap (λ g. g then λ rs q. got (f.read ++ rs) q) e

  module _ (no : at ≡ end → ⊥) where
    step_open : (m : ℕ) → rules_at_in form ws end (suc m) at
        ≡ (rule_at_in form ws end (block_at_in form ws end body_depth) at then λ r p. rules_at_in form ws end m p then λ rs q. got (r ∷ rs) q)
    unfolding rules_at_in
    step_open m = rw (ne_eqb at end no, rules_at_in)

    pub full_bad : rules.n ≡ rule_limit → rules_at_in form ws end rule_limit 0 ≡ bad
    unfolding rules_at_in
    full_bad e = all_bad (let z : rule_limit - rules.n ≡ 0 = omega arith in rw (z, ne_eqb at end no, rules_at_in))

    module _ (h : rules.n ≡ rule_limit → ⊥) where
      left_over : rule_limit - rules.n ≡ suc (rule_limit - (rules.n + 1))
      left_over = let z = f.few in omega arith

      pub rule_bad : {s : Option ℕ} → s ≡ step_of (rule_at_in form ws end (block_at_in form ws end body_depth) at) → s ≡ None
          → rules_at_in form ws end rule_limit 0 ≡ bad
      rule_bad e t =
          let m = rule_limit - (rules.n + 1) in
          all_bad
          (rw left_over
          (step_open m
          ∙ ap (λ g. g then λ r p. rules_at_in form ws end m p then λ rs q. got (r ∷ rs) q)
          (bad_got (rule_at_in form ws end (block_at_in form ws end body_depth) at) (sym e ∙ t))))

      pub more_so_far : {s : Option ℕ} {p w v : ℕ} {more : Rules}
          → s ≡ step_of (rule_at_in form ws end (block_at_in form ws end body_depth) at) → s ≡ Some p
          → w ≡ get_or ws at 0 → v ≡ get_or ws (at + 1) 0 → IsWith rules w v at more → SoFar form ws end p more
      more_so_far {s} {p} {w} {v} {more} e t x y m =
          let g = next_got (rule_at_in form ws end (block_at_in form ws end body_depth) at) p (sym e ∙ t) in
          let r = g.0 in
          let u = yields_got (rule_sound form ws end _ _ _ (block_sound form ws end body_depth) at f.within) g.1 in
          let l = stands_length u.stands in
          let q = rule_words_lem form r u.stands in
          let c = m.count in
          let m' = rule_limit - (rules.n + 1) in
          let k : rule_limit - more.n ≡ m' = omega arith in
          record {
            read = f.read ++ (r ∷ []);
            rows = rows_more form f.read r f.rows (let z = f.few in omega arith) f.place (x ∙ q.0) (y ∙ q.1) m;
            few = let z = f.few in omega arith;
            place = omega (arith, rules_length form f.read r, f.place);
            within = l.1;
            rest =
                f.rest
                ∙ rw (left_over, k)
                (ap (λ h. h then λ rs q. got (f.read ++ rs) q)
                (step_open m' ∙ ap (λ h. h then λ r p. rules_at_in form ws end m' p then λ rs q. got (r ∷ rs) q) g.1)
                ∙ then_then (rules_at_in form ws end m' p) r f.read);
          }

  all_read : at ≡ end → rules_at_in form ws end rule_limit 0 ≡ got f.read at
  unfolding rules_at_in
  all_read e =
      f.rest
      ∙ rw e
      (ap (λ g. g then λ rs q. got (f.read ++ rs) q) (ended (rule_limit - rules.n)) ∙ ap (λ l. got l end) (append-nil f.read))
    where
      ended : (m : ℕ) → rules_at_in form ws end m end ≡ got [] end
      ended zero = rw (eq-eqb end end refl, rules_at_in)
      ended (suc m) = rw (eq-eqb end end refl, rules_at_in)

  pub read_all : at ≡ end → RulesReadIn form ws end (Some rules)
  read_all e =
      let h = all_read e in
      record {
        good = sym (ap is_got h);
        rows = λ o rs q w g. let z : f.read ≡ rs = cc in let y : rules ≡ o = cc in subst (λ x. RowsOfIn form rs x) y
            (subst (λ x. RowsOfIn form x rules) z f.rows);
      }

pub read_none : (form : Form) (ws : List ℕ) (end : ℕ) → rules_at_in form ws end rule_limit 0 ≡ bad → RulesReadIn form ws end None
read_none form ws end e =
    record {
      good = sym (ap is_got e);
      rows = λ o rs q w f. never cc;
    }

pub ruleset reads = (none_so_far, full_bad, rule_bad, more_so_far, read_all, read_none)
