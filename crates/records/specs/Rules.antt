-- The rules of a sheet as the reader's arrays hold them.
use Rattle.std.specs.Prelude.{ℕ, ◌+◌, ◌-◌, ◌≤◌, ◌≡◌}
use Rattle.std.specs.Prelude.{List, [], ◌∷◌, ◌++◌, length, set, replicate, Bool, true, false, Option, Some, is_some}
use Rattle.grammar.specs.Tree.{Rule, body_depth}
use Rattle.grammar.specs.Form.{Form, newest}
use Rattle.grammar.specs.Encode.{encode_rule, encode_block_in}
use Rattle.grammar.specs.Numbers.{rule_limit}
use Rattle.grammar.specs.Ids.{rule_ids, rule_names}
use Rattle.grammar.specs.Parse.{Got, got, bad}
use Rattle.grammar.specs.Read.{rules_at_in}
use Rattle.grammar.specs.Found.{FoundRulesIn}
use Rattle.records.specs.declared.rules.Rules.{Rules}

-- Numbers in an array of as many rows as there may be rules, zeros behind.
unfoldable pub row : List ℕ → List ℕ
row xs = xs ++ replicate (rule_limit - length xs) 0

-- Where each rule's record begins, the first at a place.
unfoldable pub places_from_in : Form → ℕ → List Rule → List ℕ
places_from_in f at [] = []
places_from_in f at (r ∷ rs) = at ∷ places_from_in f (at + length (encode_rule (encode_block_in f body_depth) r)) rs

-- The arrays of a list of rules.
pub record RowsOfIn (f : Form) (rs : List Rule) (r : Rules) : Type 0 where
  pub ids : r.ids ≡ row (rule_ids rs)
  pub names : r.names ≡ row (rule_names rs)
  pub places : r.places ≡ row (places_from_in f 0 rs)
  pub count : r.n ≡ length rs

pub record IsEmpty (r : Rules) : Type 0 where
  pub ids : r.ids ≡ replicate rule_limit 0
  pub names : r.names ≡ replicate rule_limit 0
  pub places : r.places ≡ replicate rule_limit 0
  pub count : r.n ≡ 0

pub record IsWith (before : Rules) (id name place : ℕ) (r : Rules) : Type 0 where
  pub ids : r.ids ≡ set before.ids before.n id
  pub names : r.names ≡ set before.names before.n name
  pub places : r.places ≡ set before.places before.n place
  pub count : r.n ≡ before.n + 1

abbrev pub is_got : {A : Type 0} → Got A → Bool
is_got (got a q) = true
is_got bad = false

-- Whether the definition finds rules, and their arrays.
pub record RulesReadIn (f : Form) (ws : List ℕ) (end : ℕ) (r : Option Rules) : Type 0 where
  pub good : is_some r ≡ is_got (rules_at_in f ws end rule_limit 0)
  pub rows : (rules : Rules) (rs : List Rule) (q : ℕ) → r ≡ Some rules → rules_at_in f ws end rule_limit 0 ≡ got rs q → RowsOfIn f rs rules

-- Rules that stand from the first word up to the end, not too many, and their arrays.
pub record FoundRowsIn (f : Form) (ws : List ℕ) (end : ℕ) (rules : Rules) : Type 0 where
  pub found : FoundRulesIn f ws end rules.n 0
  pub ends : found.next ≡ end
  pub rows : RowsOfIn f found.trees rules
  pub few : rules.n ≤ rule_limit

-- In the newest form.
abbrev pub places_from : ℕ → List Rule → List ℕ
places_from = places_from_in newest

abbrev pub RowsOf : List Rule → Rules → Type 0
RowsOf = RowsOfIn newest

abbrev pub RulesRead : (ws : List ℕ) (end : ℕ) → Option Rules → Type 0
RulesRead = RulesReadIn newest

abbrev pub FoundRows : (ws : List ℕ) (end : ℕ) → Rules → Type 0
FoundRows = FoundRowsIn newest
