-- The sheets of Demands with end of input, by computation.
use Rattle.std.specs.Prelude.{ℕ, ◌≡◌, refl, true}
use Rattle.std.proofs.Common.{sym, ap, ◌∙◌, subst}
use mathlib.Core.List.{List, [], ◌∷◌, ◌++◌, append_assoc, cons≢nil}
use Rattle.std.proofs.Math.Option.{some-injective}
use Rattle.grammar.specs.Lists.{all}
use Rattle.grammar.specs.Corners.{Corners, rust, textbook}
use Rattle.language.specs.Shape.{end_symbol, is_mark, Word, eps, fail, symbol, seq, alt, plus, quantified, erase_leaf, erase_element}
use Rattle.language.specs.Shape.{erase_block, Shapes, find, erase_rules}
use Rattle.language.specs.Derive.{Der, d_eps, d_symbol, d_seq, d_left, d_right, d_none, d_some, RuleDerives, RuleCanBeEmpty}
use Rattle.language.specs.Laws.Algebra.{fails}
use Rattle.reference.specs.Substitute.{standard}
use Rattle.reference.specs.Run.{Stage, eliminate_mutual_left_recursion}
use Rattle.reference.specs.Computed.{computed}
use Rattle.grammar.specs.Numbers.{once, one_or_more_greedy}
use Rattle.grammar.specs.Tree.{terminal, body_depth, Sheet}
use Rattle.laws.specs.Examples.{tail_of, end_alone, end_behind, only_end}
use Rattle.laws.specs.Demands.Examples.{EndOfInputs, EmptyByMark}
use Rattle.laws.specs.BothReadings.Sheets.{stages_of}

-- What is to be computed of a sheet that is joined: its stages.
abbrev staged : Corners → Sheet → List Stage
staged corners s = stages_of (eliminate_mutual_left_recursion standard corners s)

pub end_of_inputs_lem : (corners : Corners) → EndOfInputs corners
unfolding computed erase_leaf
end_of_inputs_lem rust =
    record {
      in_front = record { is_valid = refl; cycle = refl; decision = refl; run = refl };
      settled = record { is_valid = refl; cycle = refl; decision = refl; run = refl };
      tail = record { is_valid = refl; cycle = refl; decision = refl; run = refl };
      tail_plus = record { is_valid = refl; cycle = refl; decision = refl; run = refl };
      other_tail = record { is_valid = refl; stages = staged rust (tail_of once terminal); run = refl; answer = refl };
      alone = record { is_valid = refl; stages = staged rust end_alone; run = refl; answer = refl };
      behind = record { is_valid = refl; stages = staged rust end_behind; run = refl; answer = refl };
      one_mark = refl;
    }
end_of_inputs_lem textbook =
    record {
      in_front = record { is_valid = refl; cycle = refl; decision = refl; run = refl };
      settled = record { is_valid = refl; cycle = refl; decision = refl; run = refl };
      tail = record { is_valid = refl; cycle = refl; decision = refl; run = refl };
      tail_plus = record { is_valid = refl; cycle = refl; decision = refl; run = refl };
      other_tail = record { is_valid = refl; stages = staged textbook (tail_of once terminal); run = refl; answer = refl };
      alone = record { is_valid = refl; stages = staged textbook end_alone; run = refl; answer = refl };
      behind = record { is_valid = refl; stages = staged textbook end_behind; run = refl; answer = refl };
      one_mark = refl;
    }

-- What starts with the end mark derives no empty string.
module _ {G : Shapes} where
  no_mark : {u : Word} (v : Word) → Der G (symbol end_symbol) u → u ++ v ≡ [] → ⊥
  no_mark v d_symbol e = cons≢nil e

  no_marks : {u : Word} (v : Word) → Der G (plus (symbol end_symbol)) u → u ++ v ≡ [] → ⊥
  no_marks v (d_some {u = x} {v = y} e a b) f =
      no_mark (y ++ v) a (sym (append_assoc x y v) ∙ ap (λ w. w ++ v) e ∙ f)

  once_full : {w : Word} → Der G (alt (seq (symbol end_symbol) eps) fail) w → w ≡ [] → ⊥
  once_full (d_left (d_seq {v = v} e x y)) f = no_mark v x (e ∙ f)
  once_full (d_right y) f = fails y

  plus_full : {w : Word} → Der G (alt (seq (plus (symbol end_symbol)) eps) fail) w → w ≡ [] → ⊥
  plus_full (d_left (d_seq {v = v} e x y)) f = no_marks v x (e ∙ f)
  plus_full (d_right y) f = fails y

one_mark_lem : all is_mark (end_symbol ∷ []) ≡ true
unfolding all is_mark
one_mark_lem = refl

marked : {q : ℕ} → RuleDerives body_depth (only_end q) 1 (end_symbol ∷ []) → RuleCanBeEmpty body_depth (only_end q) 1
marked d = record { word = end_symbol ∷ []; marks = one_mark_lem; derives = d }

pub empty_by_mark_lem : EmptyByMark
unfolding computed erase_block erase_element erase_leaf quantified find
empty_by_mark_lem =
    record {
      nullable = refl;
      nullable_plus = refl;
      empty = marked (record { body = _; found = refl; tree = d_left (d_seq refl d_symbol d_eps) });
      empty_plus = marked (record { body = _; found = refl; tree = d_left (d_seq refl (d_some refl d_symbol d_none) d_eps) });
      not_nothing = λ x.
          let same = some-injective _ x.body x.found in
          once_full (subst (λ s. Der (erase_rules body_depth (only_end once)) s []) (sym same) x.tree) refl;
      not_nothing_plus = λ x.
          let same = some-injective _ x.body x.found in
          plus_full (subst (λ s. Der (erase_rules body_depth (only_end one_or_more_greedy)) s []) (sym same) x.tree) refl;
    }
