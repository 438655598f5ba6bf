-- What a grammar derives, told a second time (SPECIFICATION 13.2 to 13.8): of the trees of a sheet, by the numbers of the format.
-- It has lists and words in common with the first wording (Shape and Derive in language), and nothing else.
use Rattle.std.specs.Prelude.{ℕ, suc, ◌≤◌, ◌≡◌, ◌↔◌, ◌⊎◌, true}
use mathlib.Core.List.{List, [], ◌∷◌, ◌++◌, Memᴰ}
use Rattle.grammar.specs.Lists.{all}
use Rattle.grammar.specs.Tree.{ElementHead, Action, Predicate, Call, Element, leaf, block, epsilon, action, predicate, call, token}
use Rattle.grammar.specs.Tree.{terminal, end_of_input, AlternativeOf, Block, RuleOf}
use Rattle.grammar.specs.Valid.{ok_element, ok_block}
use Rattle.language.specs.Shape.{Symbol, token_symbol, unknown_symbol, other_symbol, end_symbol, Word, erase_element, erase_elements}
use Rattle.language.specs.Shape.{erase_block}
use Rattle.language.specs.Shape.{erase_rules}
use Rattle.language.specs.Derive.{Der, RuleDerives}

-- 13.2. The symbols are the end mark and those of three sorts; of these two are equal that are of one sort and have one number.
pub record SymbolsTold : Type 0 where
  pub sorts : (a : Symbol) → (a ≡ end_symbol) ⊎ ((n : ℕ) × ((a ≡ token_symbol n) ⊎ ((a ≡ unknown_symbol n) ⊎ (a ≡ other_symbol n))))
  pub tokens : (n m : ℕ) → (token_symbol n ≡ token_symbol m) ↔ (n ≡ m)
  pub unknowns : (n m : ℕ) → (unknown_symbol n ≡ unknown_symbol m) ↔ (n ≡ m)
  pub others : (n m : ℕ) → (other_symbol n ≡ other_symbol m) ↔ (n ≡ m)
  pub token_is_no_unknown : (n m : ℕ) → token_symbol n ≡ unknown_symbol m → ⊥
  pub token_is_no_other : (n m : ℕ) → token_symbol n ≡ other_symbol m → ⊥
  pub unknown_is_no_other : (n m : ℕ) → unknown_symbol n ≡ other_symbol m → ⊥
  pub token_is_no_end : (n : ℕ) → token_symbol n ≡ end_symbol → ⊥
  pub unknown_is_no_end : (n : ℕ) → unknown_symbol n ≡ end_symbol → ⊥
  pub other_is_no_end : (n : ℕ) → other_symbol n ≡ end_symbol → ⊥

-- 13.6. A quantifier lets an element be taken n times.
pub data Often (quantifier n : ℕ) : Type 0 where
  exactly_once : quantifier ≡ 0 → n ≡ 1 → Often quantifier n
  at_most_once : (quantifier ≡ 1) ⊎ (quantifier ≡ 2) → n ≤ 1 → Often quantifier n
  any_times : (quantifier ≡ 3) ⊎ (quantifier ≡ 4) → Often quantifier n
  at_least_once : (quantifier ≡ 5) ⊎ (quantifier ≡ 6) → 1 ≤ n → Often quantifier n

abbrev pub quantifier_of : {B : Type 0} → Element B → ℕ
quantifier_of (leaf h l) = h.quantifier
quantifier_of (block h b) = h.quantifier

-- What derives strings; k is the depth that is left for blocks.
pub data Part : Type 0 where
  -- Alternatives to choose from: a rule's body, or a block.
  choice : (k : ℕ) → List (AlternativeOf (Block k)) → Part
  -- Elements one after the other: an alternative.
  sequence : (k : ℕ) → List (Element (Block k)) → Part
  -- An element with its quantifier; taken n times; taken once.
  element : (k : ℕ) → Element (Block k) → Part
  times : (k n : ℕ) → Element (Block k) → Part
  once : (k : ℕ) → Element (Block k) → Part

module _ (d : ℕ) (rs : List (RuleOf (Block (suc d)))) where
  -- The least relation with these steps: a string is derived by finitely many of them (13.8).
  pub data Derives : Part → Word → Type 0 where
    -- 13.4. One of the alternatives.
    chosen : {k : ℕ} {as' : List (AlternativeOf (Block k))} {a : AlternativeOf (Block k)} {w : Word}
        → Memᴰ a as' → Derives (sequence k a.elements) w → Derives (choice k as') w
    -- 13.5. A string of each element, in their order.
    no_element : {k : ℕ} → Derives (sequence k []) []
    element_then : {k : ℕ} {e : Element (Block k)} {es : List (Element (Block k))} {u v w : Word}
        → u ++ v ≡ w → Derives (element k e) u → Derives (sequence k es) v → Derives (sequence k (e ∷ es)) w
    -- 13.6. As often as the quantifier says.
    counted : {k n : ℕ} {e : Element (Block k)} {w : Word}
        → Often (quantifier_of e) n → Derives (times k n e) w → Derives (element k e) w
    not_once : {k : ℕ} {e : Element (Block k)} → Derives (times k 0 e) []
    once_more : {k n : ℕ} {e : Element (Block k)} {u v w : Word}
        → u ++ v ≡ w → Derives (once k e) u → Derives (times k n e) v → Derives (times k (suc n) e) w
    -- 13.7. Of kinds 0, 1 and 2 the empty string.
    derives_epsilon : {k : ℕ} {h : ElementHead} → Derives (once k (leaf h epsilon)) []
    derives_action : {k : ℕ} {h : ElementHead} {x : Action} → Derives (once k (leaf h (action x))) []
    derives_predicate : {k : ℕ} {h : ElementHead} {x : Predicate} → Derives (once k (leaf h (predicate x))) []
    -- Kind 3: the strings of the rule with the call's name; where no rule has it, the symbol of an unknown call.
    derives_call : {k : ℕ} {h : ElementHead} {c : Call} {r : RuleOf (Block (suc d))} {w : Word}
        → Memᴰ r rs → r.name ≡ c.name → Derives (choice d r.body) w → Derives (once k (leaf h (call c))) w
    of_unknown : {k : ℕ} {h : ElementHead} {c : Call}
        → ((r : RuleOf (Block (suc d))) → Memᴰ r rs → r.name ≡ c.name → ⊥)
        → Derives (once k (leaf h (call c))) (unknown_symbol c.name ∷ [])
    -- Kind 4: the token of its name. Kind 5: the symbol of the element's carried number.
    derives_token : {k : ℕ} {h : ElementHead} {n : ℕ} → Derives (once k (leaf h (token n))) (token_symbol n ∷ [])
    derives_terminal : {k : ℕ} {h : ElementHead} → Derives (once k (leaf h terminal)) (other_symbol h.carried ∷ [])
    -- Kind 7: the end mark, whatever number is carried.
    derives_end : {k : ℕ} {h : ElementHead} → Derives (once k (leaf h end_of_input)) (end_symbol ∷ [])
    -- Kind 6: the strings of its alternatives.
    derives_block : {k : ℕ} {h : ElementHead} {b : Block (suc k)} {w : Word} → Derives (choice k b) w → Derives (once (suc k) (block h b)) w

  -- The rule with an id derives a string.
  pub record RuleTold (i : ℕ) (w : Word) : Type 0 where
    pub rule : RuleOf (Block (suc d))
    pub there : Memᴰ rule rs
    pub is_it : rule.id ≡ i
    pub derived : Derives (choice d rule.body) w

  -- So each part derives, step by step. These alone would hold of larger relations too; the least is meant.
  pub record StepsTold : Type 0 where
    pub of_choice : (k : ℕ) (as' : List (AlternativeOf (Block k))) (w : Word)
        → Derives (choice k as') w ↔ ((a : AlternativeOf (Block k)) × Memᴰ a as' × Derives (sequence k a.elements) w)
    pub of_none : (k : ℕ) (w : Word) → Derives (sequence k []) w ↔ (w ≡ [])
    pub of_more : (k : ℕ) (e : Element (Block k)) (es : List (Element (Block k))) (w : Word)
        → Derives (sequence k (e ∷ es)) w ↔ ((u : Word) × (v : Word) × (u ++ v ≡ w) × Derives (element k e) u × Derives (sequence k es) v)
    pub once_only : (k : ℕ) (e : Element (Block k)) → quantifier_of e ≡ 0 → (w : Word) → Derives (element k e) w ↔ Derives (once k e) w
    pub optional : (k : ℕ) (e : Element (Block k)) → (quantifier_of e ≡ 1) ⊎ (quantifier_of e ≡ 2) → (w : Word)
        → Derives (element k e) w ↔ ((w ≡ []) ⊎ Derives (once k e) w)
    pub any_number : (k : ℕ) (e : Element (Block k)) → (quantifier_of e ≡ 3) ⊎ (quantifier_of e ≡ 4) → (w : Word)
        → Derives (element k e) w ↔ ((n : ℕ) × Derives (times k n e) w)
    pub some_number : (k : ℕ) (e : Element (Block k)) → (quantifier_of e ≡ 5) ⊎ (quantifier_of e ≡ 6) → (w : Word)
        → Derives (element k e) w ↔ ((n : ℕ) × Derives (times k (suc n) e) w)
    pub no_time : (k : ℕ) (e : Element (Block k)) (w : Word) → Derives (times k 0 e) w ↔ (w ≡ [])
    pub one_time_more : (k n : ℕ) (e : Element (Block k)) (w : Word)
        → Derives (times k (suc n) e) w ↔ ((u : Word) × (v : Word) × (u ++ v ≡ w) × Derives (once k e) u × Derives (times k n e) v)
    pub of_epsilon : (k : ℕ) (h : ElementHead) (w : Word) → Derives (once k (leaf h epsilon)) w ↔ (w ≡ [])
    pub of_action : (k : ℕ) (h : ElementHead) (x : Action) (w : Word) → Derives (once k (leaf h (action x))) w ↔ (w ≡ [])
    pub of_predicate : (k : ℕ) (h : ElementHead) (x : Predicate) (w : Word) → Derives (once k (leaf h (predicate x))) w ↔ (w ≡ [])
    pub of_call : (k : ℕ) (h : ElementHead) (c : Call) (w : Word)
        → Derives (once k (leaf h (call c))) w
        ↔ (((r : RuleOf (Block (suc d))) × Memᴰ r rs × (r.name ≡ c.name) × Derives (choice d r.body) w)
        ⊎ (((r : RuleOf (Block (suc d))) → Memᴰ r rs → r.name ≡ c.name → ⊥) × (w ≡ unknown_symbol c.name ∷ [])))
    pub of_token : (k : ℕ) (h : ElementHead) (n : ℕ) (w : Word) → Derives (once k (leaf h (token n))) w ↔ (w ≡ token_symbol n ∷ [])
    pub of_terminal : (k : ℕ) (h : ElementHead) (w : Word) → Derives (once k (leaf h terminal)) w ↔ (w ≡ other_symbol h.carried ∷ [])
    pub of_end : (k : ℕ) (h : ElementHead) (w : Word) → Derives (once k (leaf h end_of_input)) w ↔ (w ≡ end_symbol ∷ [])
    pub of_block : (k : ℕ) (h : ElementHead) (b : Block (suc k)) (w : Word)
        → Derives (once (suc k) (block h b)) w ↔ Derives (choice k b) w

  -- The two wordings agree, of every rule, and of every block, alternative and element that the reader accepts.
  pub record DerivesTold : Type 0 where
    pub symbols : SymbolsTold
    pub steps : StepsTold
    pub of_rule : (i : ℕ) (w : Word) → RuleDerives (suc d) rs i w ↔ RuleTold i w
    pub of_block : (k : ℕ) (b : Block (suc k)) → ok_block (suc k) b ≡ true → (w : Word)
        → Der (erase_rules (suc d) rs) (erase_block (suc k) b) w ↔ Derives (choice k b) w
    pub of_alternative : (k : ℕ) (es : List (Element (Block k))) → all (ok_element (ok_block k)) es ≡ true → (w : Word)
        → Der (erase_rules (suc d) rs) (erase_elements (erase_block k) es) w ↔ Derives (sequence k es) w
    pub of_element : (k : ℕ) (e : Element (Block k)) → ok_element (ok_block k) e ≡ true → (w : Word)
        → Der (erase_rules (suc d) rs) (erase_element (erase_block k) e) w ↔ Derives (element k e) w
