-- A walk over trees as a fold: a state goes through leaves, blocks and alternatives in the order in which they stand.
use Rattle.std.specs.Prelude.{ℕ, zero, suc, ◌≤◌, ◌≡◌, List, [], ◌∷◌, Bool, length}
use Rattle.grammar.specs.Stands.{Spans}
use Rattle.grammar.specs.Tree.{OptionDecl, ElementHead, Leaf, Element, leaf, block, AlternativeOf, Block, RuleOf, Rule, body_depth}
use Rattle.grammar.specs.Form.{Form, newest}
use Rattle.grammar.specs.Encode.{encode_element_in, encode_alternative_in, encode_block_in, encode_rule}
use Rattle.grammar.specs.Lists.{each, all}
use Rattle.grammar.specs.Valid.{ok_element_in, ok_alternative_in, ok_block_in, ok_rule}

-- What an alternative has beside its elements.
pub record AlternativeHead : Type 0 where
  pub id : ℕ
  pub carried : ℕ
  pub flag : ℕ
  pub options : List OptionDecl

abbrev pub head_of : {B : Type 0} → AlternativeOf B → AlternativeHead
head_of a = record { id = a.id; carried = a.carried; flag = a.flag; options = a.options }

-- What a walk does. Out of a block and past an alternative it has the state from in front of it and that from its end.
pub record Steps (S : Type 0) : Type 0 where
  pub past_leaf : S → ElementHead → Leaf → S
  pub into_block : S → ElementHead → S
  pub past_block : S → ElementHead → S → S
  pub into_alternative : S → AlternativeHead → S
  pub past_alternative : S → AlternativeHead → S → S

abbrev pub folded : {A S : Type 0} → (S → A → S) → S → List A → S
folded step s [] = s
folded step s (a ∷ as') = folded step (step s a) as'

module _ {S : Type 0} (walk : Steps S) where
  unfoldable pub element_fold : {B : Type 0} → (S → B → S) → S → Element B → S
  element_fold f s (leaf h l) = walk.past_leaf s h l
  element_fold f s (block h b) = walk.past_block s h (f (walk.into_block s h) b)

  unfoldable pub alternative_fold : {B : Type 0} → (S → B → S) → S → AlternativeOf B → S
  alternative_fold f s a =
      walk.past_alternative s (head_of a) (folded (element_fold f) (walk.into_alternative s (head_of a)) a.elements)

  unfoldable pub block_fold : (d : ℕ) → S → Block d → S
  block_fold zero s b = absurd b
  block_fold (suc d) s b = folded (alternative_fold (block_fold d)) s b

  unfoldable pub rule_fold : (d : ℕ) → S → RuleOf (Block d) → S
  rule_fold d s r = block_fold d s r.body

  abbrev pub rules_fold : S → List Rule → S
  rules_fold = folded (rule_fold body_depth)

-- A walk from a place and a state has come to a place and a state: past what stands there, with what the fold gives.
module _ (ws : List ℕ) (end : ℕ) {A S : Type 0} (enc : A → List ℕ) (ok : A → Bool) (step : S → A → S) where
  pub record WalkedOne (at : ℕ) (s : S) (p : ℕ) (r : S) : Type 0 where
    pub passed : (a : A) (q : ℕ) → Spans ws end enc ok at a q → p ≡ q
    pub value : (a : A) (q : ℕ) → Spans ws end enc ok at a q → r ≡ step s a
    pub within : p ≤ end

  pub record WalkedMany (n at : ℕ) (s : S) (p : ℕ) (r : S) : Type 0 where
    pub passed : (as' : List A) (q : ℕ) → Spans ws end (each enc) (all ok) at as' q → length as' ≡ n → p ≡ q
    pub value : (as' : List A) (q : ℕ) → Spans ws end (each enc) (all ok) at as' q → length as' ≡ n → r ≡ folded step s as'
    pub within : p ≤ end

module _ (form : Form) {S : Type 0} (walk : Steps S) (ws : List ℕ) (end : ℕ) where
  module _ (d : ℕ) where
    abbrev pub ElementWalkedIn : ℕ → S → ℕ → S → Type 0
    ElementWalkedIn =
        WalkedOne ws end (encode_element_in form (encode_block_in form d)) (ok_element_in form (ok_block_in form d))
        (element_fold walk (block_fold walk d))

    abbrev pub ElementsWalkedIn : ℕ → ℕ → S → ℕ → S → Type 0
    ElementsWalkedIn =
        WalkedMany ws end (encode_element_in form (encode_block_in form d)) (ok_element_in form (ok_block_in form d))
        (element_fold walk (block_fold walk d))

    abbrev pub AlternativeWalkedIn : ℕ → S → ℕ → S → Type 0
    AlternativeWalkedIn =
        WalkedOne ws end (encode_alternative_in form (encode_block_in form d)) (ok_alternative_in form (ok_block_in form d))
        (alternative_fold walk (block_fold walk d))

    abbrev pub AlternativesWalkedIn : ℕ → ℕ → S → ℕ → S → Type 0
    AlternativesWalkedIn =
        WalkedMany ws end (encode_alternative_in form (encode_block_in form d)) (ok_alternative_in form (ok_block_in form d))
        (alternative_fold walk (block_fold walk d))

  abbrev pub RuleWalkedIn : ℕ → S → ℕ → S → Type 0
  RuleWalkedIn =
      WalkedOne ws end (encode_rule (encode_block_in form body_depth)) (ok_rule (ok_block_in form body_depth)) (rule_fold walk body_depth)

  abbrev pub RulesWalkedIn : ℕ → ℕ → S → ℕ → S → Type 0
  RulesWalkedIn =
      WalkedMany ws end (encode_rule (encode_block_in form body_depth)) (ok_rule (ok_block_in form body_depth)) (rule_fold walk body_depth)

-- In the newest form.
module _ {S : Type 0} (walk : Steps S) (ws : List ℕ) (end : ℕ) where
  module _ (d : ℕ) where
    abbrev pub ElementWalked : ℕ → S → ℕ → S → Type 0
    ElementWalked = ElementWalkedIn newest walk ws end d

    abbrev pub ElementsWalked : ℕ → ℕ → S → ℕ → S → Type 0
    ElementsWalked = ElementsWalkedIn newest walk ws end d

    abbrev pub AlternativeWalked : ℕ → S → ℕ → S → Type 0
    AlternativeWalked = AlternativeWalkedIn newest walk ws end d

    abbrev pub AlternativesWalked : ℕ → ℕ → S → ℕ → S → Type 0
    AlternativesWalked = AlternativesWalkedIn newest walk ws end d

  abbrev pub RuleWalked : ℕ → S → ℕ → S → Type 0
  RuleWalked = RuleWalkedIn newest walk ws end

  abbrev pub RulesWalked : ℕ → ℕ → S → ℕ → S → Type 0
  RulesWalked = RulesWalkedIn newest walk ws end
