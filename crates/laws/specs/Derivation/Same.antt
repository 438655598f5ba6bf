-- The two wordings agree, of every sheet that the reader accepts.
use Rattle.std.specs.Prelude.{ℕ, suc, ◌≡◌, ◌⊎◌, refl, true, leb}
use Rattle.std.proofs.Common.{sym, ap, subst, inl, inr}
use Rattle.std.specs.Cmp.{second_so}
use mathlib.Core.List.{List, map, Memᴰ}
use Rattle.grammar.specs.Form.{newest}
use Rattle.grammar.specs.Lists.{distinct}
use Rattle.grammar.specs.Numbers.{most_rule_flags}
use Rattle.grammar.specs.Read.{is_name}
use Rattle.grammar.specs.Tree.{Block, RuleOf, Rule, Sheet, inner_depth, body_depth}
use Rattle.grammar.specs.Valid.{valid, ok_block, ok_rule}
use Rattle.grammar.specs.Laws.Whole.{valid_parts}
use Rattle.language.specs.Shape.{Symbol, token_symbol, unknown_symbol, other_symbol, end_symbol, Word, erase_block, erase_rules}
use Rattle.language.specs.Derive.{Der, RuleDerives}
use Rattle.language.specs.Laws.Rules.{rule_found, found_rule}
use Rattle.laws.specs.Demands.Derivation.{SymbolsTold, RuleTold, DerivesTold}
use Rattle.laws.specs.Lists.Lookup.{all_in}
use Rattle.laws.specs.Derivation.Steps.{steps_told}
use Rattle.laws.specs.Derivation.Into.{into}
use Rattle.laws.specs.Derivation.From.{from_block, from_elements, from_element}
use Rattle.laws.specs.Running.Stages.{valid_told}

number_of : Symbol → ℕ
number_of (token_symbol n) = n
number_of (unknown_symbol n) = n
number_of (other_symbol n) = n
number_of end_symbol = 0

abbrev IsToken : Symbol → Type 0
IsToken (token_symbol n) = Unit {0}
IsToken (unknown_symbol n) = ⊥
IsToken (other_symbol n) = ⊥
IsToken end_symbol = ⊥

abbrev IsUnknown : Symbol → Type 0
IsUnknown (token_symbol n) = ⊥
IsUnknown (unknown_symbol n) = Unit {0}
IsUnknown (other_symbol n) = ⊥
IsUnknown end_symbol = ⊥

abbrev IsOther : Symbol → Type 0
IsOther (token_symbol n) = ⊥
IsOther (unknown_symbol n) = ⊥
IsOther (other_symbol n) = Unit {0}
IsOther end_symbol = ⊥

pub symbols_told : SymbolsTold
unfolding number_of
symbols_told =
    record {
      sorts = λ a.
          elim a as (λ a. (a ≡ end_symbol)
          ⊎ ((n : ℕ) × ((a ≡ token_symbol n) ⊎ ((a ≡ unknown_symbol n) ⊎ (a ≡ other_symbol n))))) [
            | token_symbol n ↦ inr (n, inl refl)
            | unknown_symbol n ↦ inr (n, inr (inl refl))
            | other_symbol n ↦ inr (n, inr (inr refl))
            | end_symbol ↦ inl refl
          ];
      tokens = λ n m. (ap number_of, ap token_symbol);
      unknowns = λ n m. (ap number_of, ap unknown_symbol);
      others = λ n m. (ap number_of, ap other_symbol);
      token_is_no_unknown = λ n m e. subst IsToken e tt;
      token_is_no_other = λ n m e. subst IsToken e tt;
      unknown_is_no_other = λ n m e. subst IsUnknown e tt;
      token_is_no_end = λ n e. subst IsToken e tt;
      unknown_is_no_end = λ n e. subst IsUnknown e tt;
      other_is_no_end = λ n e. subst IsOther e tt;
    }

module _ (d : ℕ) (rs : List (RuleOf (Block (suc d)))) (ids : distinct (map (λ r. r.id) rs) ≡ true)
    (names : distinct (map (λ r. r.name) rs) ≡ true)
    (good : (r : RuleOf (Block (suc d))) → Memᴰ r rs → ok_block (suc d) r.body ≡ true) where
  rule_into : (i : ℕ) (w : Word) → RuleTold d rs i w → RuleDerives (suc d) rs i w
  rule_into i w x =
      subst (λ i. RuleDerives (suc d) rs i w) x.is_it
      (record {
        body = erase_block (suc d) x.rule.body;
        found = rule_found (suc d) (λ r. r.id) rs ids x.there;
        tree = into d rs names x.derived;
      })

  rule_from : (i : ℕ) (w : Word) → RuleDerives (suc d) rs i w → RuleTold d rs i w
  rule_from i w x =
      let f = found_rule (suc d) (λ r. r.id) rs i x.found in
      record {
        rule = f.0;
        there = f.1;
        is_it = f.2;
        derived = from_block d rs names good d f.0.body (good f.0 f.1)
            (subst (λ s. Der (erase_rules (suc d) rs) s w) (sym f.3) x.tree);
      }

  pub derives_told : DerivesTold d rs
  derives_told =
      record {
        symbols = symbols_told;
        steps = steps_told d rs;
        of_rule = λ i w. (rule_from i w, rule_into i w);
        of_block = λ k b t w. (from_block d rs names good k b t, into d rs names);
        of_alternative = λ k es t w. (from_elements d rs names good k es t, into d rs names);
        of_element = λ k e t w. (from_element d rs names good k e t, into d rs names);
      }

good_body : (r : Rule) → ok_rule (ok_block body_depth) r ≡ true → ok_block body_depth r.body ≡ true
unfolding ok_rule
good_body r t = second_so (leb r.flags most_rule_flags) _ (second_so (is_name r.name) _ t)

pub good_rules : (s : Sheet) → valid s ≡ true → (r : Rule) → Memᴰ r s.rules → ok_block body_depth r.body ≡ true
good_rules s v r m = good_body r (all_in (ok_rule (ok_block body_depth)) (valid_parts newest s v).rules m)

pub sheet_derives : (s : Sheet) → valid s ≡ true → DerivesTold inner_depth s.rules
sheet_derives s v =
    let t = valid_told s v in
    derives_told inner_depth s.rules t.ids t.names (good_rules s v)
