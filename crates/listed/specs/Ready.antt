-- What is listed: a sheet and a trail that stand in lent buffers.
use Rattle.std.specs.Prelude.{ℕ, ◌+◌, ◌*◌, ◌≤◌, ◌≡◌, List, true, length}
use Rattle.grammar.specs.Numbers.{most_words, rule_limit, trailer_words}
use Rattle.grammar.specs.Lists.{each}
use Rattle.grammar.specs.Tree.{Rule, Sheet}
use Rattle.grammar.specs.Words as W
use Rattle.grammar.specs.Stands.{Stands}
use Rattle.grammar.specs.Encode.{encode}
use Rattle.grammar.specs.Valid.{ok_rules}
use Rattle.grammar.specs.Found.{RulesSpan, FoundRules}
use Rattle.reference.specs.Numbers.{most_entries, entry_words}
use Rattle.listed.specs.Listed.{rule_lines, entry_line, listed_rules}
use Rattle.listed.specs.Put.{Put, Filled}
use Rattle.listed.specs.Walk.{FoundEntries}

-- Rules that stand from the first word up to a place.
pub record Ruled (ws : List ℕ) (end : ℕ) : Type 0 where
  pub rules : List Rule
  pub spans : RulesSpan ws end 0 rules end
  pub few : length rules ≤ rule_limit

-- How many they are.
pub record Counted (ws : List ℕ) (end n : ℕ) : Type 0 where
  pub found : FoundRules ws end n 0
  pub is : (w : Ruled ws end) → length w.rules ≡ n

-- A sheet of so many words.
pub record Held (result : List ℕ) (n : ℕ) : Type 0 where
  pub sheet : Sheet
  pub good : ok_rules sheet.rules ≡ true
  pub stands : Stands (W.words result) n (encode sheet) 0 n
  pub room : 4 * n ≤ length result
  pub most : n ≤ most_words

-- A trail of so many entries.
pub record Recorded (trail : List ℕ) (k : ℕ) : Type 0 where
  pub found : FoundEntries (W.words trail) (entry_words * k) k 0
  pub room : 4 * (entry_words * k) ≤ length trail
  pub few : k ≤ most_entries

-- Where the rules of the sheet end.
pub record RulesEnd (result : List ℕ) (n end : ℕ) : Type 0 where
  pub is : (h : Held result n) → n ≡ end + length h.sheet.preserved + trailer_words
  pub low : end + trailer_words ≤ n

-- The rules were listed.
pub record RulesPut (ws : List ℕ) (end : ℕ) (before after : List ℕ) (at next : ℕ) : Type 0 where
  pub put : (w : Ruled ws end) → Put before after at next (each rule_lines w.rules)
  pub few : next ≤ 10 * end + 64

-- So were the entries.
pub record EntriesPut (trail : List ℕ) (k : ℕ) (before after : List ℕ) (at next : ℕ) : Type 0 where
  pub put : (w : Recorded trail k) → Put before after at next (each entry_line w.found.trees)
  pub few : next ≤ at + 46 * k

-- As many bytes as the longest listing may have.
abbrev pub most_text : ℕ
most_text = 10 * most_words + 64 + 46 * most_entries

-- The whole text stands in the buffer.
pub record JoinedPut (result trail : List ℕ) (n k plans steps : ℕ) (before after : List ℕ) (next : ℕ) : Type 0 where
  pub text : (h : Held result n) (w : Recorded trail k)
      → Filled before after next (listed_rules plans steps h.sheet.rules w.found.trees) most_text
