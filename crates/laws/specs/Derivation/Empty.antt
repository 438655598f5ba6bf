-- What can be empty by either wording.
use Rattle.std.specs.Prelude.{ℕ, suc, ◌≡◌, refl, true}
use Rattle.std.proofs.Common.{ap}
use mathlib.Core.List.{List, map, Memᴰ}
use Rattle.std.proofs.lemmas.Bool.{false≢true}
use Rattle.grammar.specs.Lists.{all, distinct}
use Rattle.grammar.specs.Tree.{Element, Block, RuleOf}
use Rattle.grammar.specs.Valid.{ok_element, ok_block}
use Rattle.language.specs.Shape.{Symbol, token_symbol, unknown_symbol, other_symbol, end_symbol, is_mark, Word, erase_element, erase_block}
use Rattle.language.specs.Shape.{erase_rules}
use Rattle.language.specs.Derive.{CanBeEmpty}
use Rattle.laws.specs.Demands.Corners.{Empties}
use Rattle.laws.specs.Lists.Every.{in_all}
use Rattle.laws.specs.Lists.Lookup.{all_in}
use Rattle.laws.specs.Derivation.Into.{into}
use Rattle.laws.specs.Derivation.From.{from_element}

-- The end mark by either wording.
mark_end : (a : Symbol) → is_mark a ≡ true → a ≡ end_symbol
unfolding is_mark
mark_end (token_symbol n) t = absurd (false≢true t)
mark_end (unknown_symbol n) t = absurd (false≢true t)
mark_end (other_symbol c) t = absurd (false≢true t)
mark_end end_symbol t = refl

end_mark : (w : Word) → ((a : Symbol) → Memᴰ a w → a ≡ end_symbol) → all is_mark w ≡ true
unfolding is_mark
end_mark w h = in_all is_mark w (λ a m. ap is_mark (h a m))

module _ (d : ℕ) (rs : List (RuleOf (Block (suc d)))) (names : distinct (map (λ r. r.name) rs) ≡ true) where
  pub can_be_empty : (k : ℕ) (e : Element (Block k)) → Empties d rs k e
      → CanBeEmpty (erase_rules (suc d) rs) (erase_element (erase_block k) e)
  can_be_empty k e x = record { word = x.word; marks = end_mark x.word x.marks; tree = into d rs names x.derived }

  module _ (good : (r : RuleOf (Block (suc d))) → Memᴰ r rs → ok_block (suc d) r.body ≡ true) where
    pub empties : (k : ℕ) (e : Element (Block k)) → ok_element (ok_block k) e ≡ true
        → CanBeEmpty (erase_rules (suc d) rs) (erase_element (erase_block k) e) → Empties d rs k e
    empties k e t o =
        record {
          word = o.word;
          marks = λ a m. mark_end a (all_in is_mark o.marks m);
          derived = from_element d rs names good k e t o.tree;
        }
