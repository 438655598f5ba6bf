-- What it is to write what stands in a sheet of the first form in the newest words: whatever tree stands there, its newest words are
-- written.
use Rattle.std.specs.Prelude.{ℕ, ◌+◌, ◌-◌, ◌*◌, ◌≤◌, ◌≡◌, List, [], ◌∷◌, ◌++◌, Bool, length, take, drop}
use Rattle.grammar.specs.Tree.{body_depth}
use Rattle.grammar.specs.Form.{first_form}
use Rattle.grammar.specs.Stands.{Spans}
use Rattle.grammar.specs.Encode.{encode_element_in, encode_alternative_in, encode_block_in, encode_rule}
use Rattle.grammar.specs.Encode.{encode_element, encode_alternative, encode_block}
use Rattle.grammar.specs.Lists.{each, all}
use Rattle.grammar.specs.Valid.{ok_element_in, ok_alternative_in, ok_block_in, ok_rule}
use Rattle.writing.specs.Wrote.{Wrote}
use Rattle.convert.specs.declared.walk.Place.{Place}

-- What was written is an eighth longer at most than what was read, and there is room for as much of the rest.
pub record Roomy (end : ℕ) (out : List ℕ) (p : Place) : Type 0 where
  pub within : p.at ≤ end
  pub eighth : 8 * p.to ≤ 9 * p.at
  pub room : 9 * end ≤ 2 * length out

-- The words up to a place were written as they are.
pub record Copied (ws : List ℕ) (there : ℕ) (out out' : List ℕ) (p p' : Place) : Type 0 where
  pub wrote : Wrote out out' p.to (take (there - p.at) (drop p.at ws))
  pub at_is : p'.at ≡ there
  pub to_is : p'.to ≡ p.to + (there - p.at)

-- They were, and a 0 behind them.
pub record Ended (ws : List ℕ) (there : ℕ) (out out' : List ℕ) (p p' : Place) : Type 0 where
  pub wrote : Wrote out out' p.to (take (there - p.at) (drop p.at ws) ++ (0 ∷ []))
  pub at_is : p'.at ≡ there
  pub to_is : p'.to ≡ p.to + (there - p.at) + 1

module _ (ws : List ℕ) (end : ℕ) {A : Type 0} (enc enc' : A → List ℕ) (ok : A → Bool) where
  -- The tree that stands at a place was written, and the place is behind it.
  pub record WidenedOne (p : Place) (out out' : List ℕ) (p' : Place) : Type 0 where
    pub long : length out' ≡ length out
    pub within : p'.at ≤ end
    pub eighth : 8 * p'.to ≤ 9 * p'.at
    pub passed : (a : A) (z : ℕ) → Spans ws end enc ok p.at a z → p'.at ≡ z
    pub to_is : (a : A) (z : ℕ) → Spans ws end enc ok p.at a z → p'.to ≡ p.to + length (enc' a)
    pub wrote : (a : A) (z : ℕ) → Spans ws end enc ok p.at a z → Wrote out out' p.to (enc' a)

  -- So were the n trees that stand there.
  pub record WidenedMany (n : ℕ) (p : Place) (out out' : List ℕ) (p' : Place) : Type 0 where
    pub long : length out' ≡ length out
    pub within : p'.at ≤ end
    pub eighth : 8 * p'.to ≤ 9 * p'.at
    pub passed : (as' : List A) (z : ℕ) → Spans ws end (each enc) (all ok) p.at as' z → length as' ≡ n → p'.at ≡ z
    pub to_is : (as' : List A) (z : ℕ) → Spans ws end (each enc) (all ok) p.at as' z → length as' ≡ n
        → p'.to ≡ p.to + length (each enc' as')
    pub wrote : (as' : List A) (z : ℕ) → Spans ws end (each enc) (all ok) p.at as' z → length as' ≡ n
        → Wrote out out' p.to (each enc' as')

module _ (ws : List ℕ) (end d : ℕ) where
  abbrev pub ElementWidened : (p : Place) (out out' : List ℕ) (p' : Place) → Type 0
  ElementWidened =
      WidenedOne ws end (encode_element_in first_form (encode_block_in first_form d)) (encode_element (encode_block d))
      (ok_element_in first_form (ok_block_in first_form d))

  abbrev pub ElementsWidened : (n : ℕ) (p : Place) (out out' : List ℕ) (p' : Place) → Type 0
  ElementsWidened =
      WidenedMany ws end (encode_element_in first_form (encode_block_in first_form d)) (encode_element (encode_block d))
      (ok_element_in first_form (ok_block_in first_form d))

  abbrev pub AlternativeWidened : (p : Place) (out out' : List ℕ) (p' : Place) → Type 0
  AlternativeWidened =
      WidenedOne ws end (encode_alternative_in first_form (encode_block_in first_form d)) (encode_alternative (encode_block d))
      (ok_alternative_in first_form (ok_block_in first_form d))

  abbrev pub AlternativesWidened : (n : ℕ) (p : Place) (out out' : List ℕ) (p' : Place) → Type 0
  AlternativesWidened =
      WidenedMany ws end (encode_alternative_in first_form (encode_block_in first_form d)) (encode_alternative (encode_block d))
      (ok_alternative_in first_form (ok_block_in first_form d))

module _ (ws : List ℕ) (end : ℕ) where
  abbrev pub RuleWidened : (p : Place) (out out' : List ℕ) (p' : Place) → Type 0
  RuleWidened =
      WidenedOne ws end (encode_rule (encode_block_in first_form body_depth)) (encode_rule (encode_block body_depth))
      (ok_rule (ok_block_in first_form body_depth))

  abbrev pub RulesWidened : (n : ℕ) (p : Place) (out out' : List ℕ) (p' : Place) → Type 0
  RulesWidened =
      WidenedMany ws end (encode_rule (encode_block_in first_form body_depth)) (encode_rule (encode_block body_depth))
      (ok_rule (ok_block_in first_form body_depth))
