-- What is promised of the hub that is chosen (SPECIFICATION 7.1 to 7.3).
use Rattle.std.specs.Prelude.{ℕ, suc, ◌≡◌, ◌⊎◌, true, false}
use mathlib.Core.List.{List, ◌∷◌, ◌++◌, Memᴰ}
use Rattle.std.proofs.Math.Option.{Option, some, none}
use Rattle.grammar.specs.Lists.{AllOf, member}
use Rattle.grammar.specs.Tree.{ElementHead, Call, call, Element, leaf, block, AlternativeOf, Block, RuleOf}
use Rattle.reference.specs.Walks.{is_epsilon_only}
use Rattle.reference.specs.Analysis.{Grammar, target}

-- A name is called in alternatives, nested ones too.
pub data CallsName (n : ℕ) : (d : ℕ) → Block d → Type 0 where
  outermost : {d : ℕ} {as' : Block (suc d)} {a : AlternativeOf (Block d)} {h : ElementHead} {k : Call} → Memᴰ a as'
      → Memᴰ (leaf h (call k)) a.elements → k.name ≡ n → CallsName n (suc d) as'
  in_block : {d : ℕ} {as' : Block (suc d)} {a : AlternativeOf (Block d)} {h : ElementHead} {b : Block d} → Memᴰ a as'
      → Memᴰ (block h b) a.elements → CallsName n d b → CallsName n (suc d) as'

module _ (g : Grammar) (cycle : List ℕ) where
  -- A corner that is not settled outside the cycle: behind epsilons, actions and predicates stands a call of a member, or of a
  -- rule that is nullable.
  pub record Enters {B : Type 0} (es : List (Element B)) : Type 0 where
    pub front : List (Element B)
    pub head : ElementHead
    pub site : Call
    pub rest : List (Element B)
    pub whole : front ++ (leaf head (call site) ∷ rest) ≡ es
    pub silent : AllOf (λ e. is_epsilon_only e ≡ true) front
    pub rule : ℕ
    pub known : target g site.name ≡ some rule
    pub inside : (member rule cycle ≡ true) ⊎ (member rule g.nullable ≡ true)

  module _ (d : ℕ) (rs : List (RuleOf (Block (suc d)))) (preserved : List ℕ) where
    -- A rule with an alternative whose corner is settled outside.
    pub record Candidate (i : ℕ) : Type 0 where
      pub rule : RuleOf (Block (suc d))
      pub is_rule : Memᴰ rule rs
      pub has_id : rule.id ≡ i
      pub way : AlternativeOf (Block d)
      pub is_way : Memᴰ way rule.body
      pub settles : Enters way.elements → ⊥

    -- A rule outside the cycle calls it, anywhere.
    pub record Called (i : ℕ) : Type 0 where
      pub caller : RuleOf (Block (suc d))
      pub is_rule : Memᴰ caller rs
      pub is_outside : member caller.id cycle ≡ false
      pub name : ℕ
      pub calls : CallsName name (suc d) caller.body
      pub known : target g name ≡ some i

    abbrev pub Wanted : ℕ → Type 0
    Wanted i = Called i ⊎ (member i preserved ≡ true)

    -- The first candidate of the cycle, whose ids rise, that is wanted; else the first; else none.
    pub data HubTold : Option ℕ → Type 0 where
      wanted : {i : ℕ} (front rest : List ℕ) → front ++ (i ∷ rest) ≡ cycle → Candidate i → Wanted i
          → ((j : ℕ) → Memᴰ j front → Candidate j → Wanted j → ⊥) → HubTold (some i)
      unwanted : {i : ℕ} (front rest : List ℕ) → front ++ (i ∷ rest) ≡ cycle → Candidate i
          → ((j : ℕ) → Memᴰ j front → Candidate j → ⊥)
          → ((j : ℕ) → Memᴰ j cycle → Candidate j → Wanted j → ⊥) → HubTold (some i)
      nobody : ((j : ℕ) → Memᴰ j cycle → Candidate j → ⊥) → HubTold none
