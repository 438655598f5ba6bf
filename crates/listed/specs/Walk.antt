-- A sheet's lines written in one walk over its rules; and the entries of a trail.
use Rattle.std.specs.Prelude.{ℕ, suc, ◌+◌, List, Bool, true, false, length, eqb}
use Rattle.std.proofs.lemmas.List.Edits.{sets}
use Rattle.grammar.specs.Numbers.{call_kind, token_kind, block_kind}
use Rattle.grammar.specs.Tree.{Rule, body_depth}
use Rattle.grammar.specs.Encode.{leaf_kind, encode_rule, encode_block}
use Rattle.grammar.specs.Valid.{ok_rule, ok_block}
use Rattle.grammar.specs.Found.{FoundMany}
use Rattle.grammar.specs.Fold.{Steps, rule_fold, WalkedOne, WalkedMany}
use Rattle.reference.specs.Apply.{Entry}
use Rattle.reference.specs.Run.{encode_entry}
use Rattle.listed.specs.Listed.{leaf_name, element_line, alternative_line, rule_line, entry_line}

-- The buffer, the place where text goes on, and the level of what is listed there.
pub record Pen : Type 0 where
  pub buffer : List ℕ
  pub place : ℕ
  pub level : ℕ

abbrev pub pen : List ℕ → (place level : ℕ) → Pen
pen buffer place level = record { buffer = buffer; place = place; level = level }

-- Text put there.
unfoldable pub put : Pen → List ℕ → Pen
put p text = pen (sets p.buffer p.place text) (p.place + length text) p.level

-- The walk.
abbrev pub listing : Steps Pen
listing =
    record {
      past_leaf = λ p h l. put p (element_line p.level h (leaf_kind l) (leaf_name l));
      into_block = λ p h. let q = put p (element_line p.level h block_kind 0) in pen q.buffer q.place (suc p.level);
      past_block = λ p h q. pen q.buffer q.place p.level;
      into_alternative = λ p a. put p (alternative_line p.level a.id);
      past_alternative = λ p a q. q;
    }

-- One rule, and one entry.
unfoldable pub rule_step : Pen → Rule → Pen
rule_step p r = rule_fold listing body_depth (put p (rule_line r.id r.name)) r

unfoldable pub entry_step : Pen → Entry → Pen
entry_step p e = put p (entry_line e)

-- Every entry is good.
abbrev pub any_entry : Entry → Bool
any_entry e = true

module _ (ws : List ℕ) (end : ℕ) where
  abbrev pub RuleListed : (at : ℕ) (p : Pen) (next : ℕ) (q : Pen) → Type 0
  RuleListed = WalkedOne ws end (encode_rule (encode_block body_depth)) (ok_rule (ok_block body_depth)) rule_step

  abbrev pub RulesListed : (n at : ℕ) (p : Pen) (next : ℕ) (q : Pen) → Type 0
  RulesListed = WalkedMany ws end (encode_rule (encode_block body_depth)) (ok_rule (ok_block body_depth)) rule_step

  abbrev pub FoundEntries : (n at : ℕ) → Type 0
  FoundEntries = FoundMany ws end encode_entry any_entry

  abbrev pub EntriesListed : (n at : ℕ) (p : Pen) (next : ℕ) (q : Pen) → Type 0
  EntriesListed = WalkedMany ws end encode_entry any_entry entry_step

-- The name that an element of a kind has by its payload's first word.
unfoldable pub name_of : (kind word : ℕ) → ℕ
name_of kind word =
    elim (eqb kind call_kind) [ true ↦ word | false ↦ elim (eqb kind token_kind) [ true ↦ word | false ↦ 0 ] ]
