-- The reader as a function of the words: what is refused by 4 (SPECIFICATION 4.4), and the tree that stands there else.
use Rattle.std.specs.Prelude.{ℕ, zero, suc, ◌+◌, ◌-◌, ◌/◌, ◌%◌, List, [], ◌∷◌, Bool, true, false, ◌&&◌, ◌||◌, get_or, leb, eqb}
use Rattle.grammar.specs.Numbers.{most_name, non_local, kind_end, block_kind, one_or_more_nongreedy, most_alternative_flag, most_rule_flags}
use Rattle.grammar.specs.Tree.{OptionDecl, Reference, Label, unlabelled, labelled, ElementHead, Leaf, epsilon, action, predicate}
use Rattle.grammar.specs.Tree.{call, token, terminal, end_of_input, Element, leaf, block, AlternativeOf, Block, RuleOf, Rule, body_depth}
use Rattle.grammar.specs.Form.{Form, newest, call_words}
use Rattle.grammar.specs.Parse.{Got, got, bad, ◌then◌, given, many}

abbrev pub is_name : ℕ → Bool
is_name n = leb 1 n && leb n most_name

-- Both words 0, or a name with any id.
abbrev pub is_label : ℕ → ℕ → Bool
is_label i n = is_name n || (eqb n 0 && eqb i 0)

abbrev pub label_of : ℕ → ℕ → Label
label_of i n = elim (eqb n 0) [ true ↦ unlabelled | false ↦ labelled i n ]

abbrev pub action_of : ℕ → List Reference → Leaf
action_of i rs = action (record { id = i; references = rs })

abbrev pub predicate_of : ℕ → List Reference → Leaf
predicate_of i rs = predicate (record { id = i; references = rs })

module _ (ws : List ℕ) (end : ℕ) where
  abbrev pub word : ℕ → ℕ
  word at = get_or ws at 0

  -- n words stand between `at` and the end.
  abbrev pub room : ℕ → ℕ → Bool
  room n at = leb n (end - at)

  unfoldable pub option_at : ℕ → Got OptionDecl
  option_at at = given (room 2 at && is_name (word at)) λ _. got (record { name = word at; value = word (at + 1) }) (at + 2)

  unfoldable pub reference_at : ℕ → Got Reference
  reference_at at =
      given (room 2 at && (leb (word at) non_local && is_name (word (at + 1)))) λ _.
      got (record { kind = word at; name = word (at + 1) }) (at + 2)

  -- An action or a predicate, made of its id and its references.
  unfoldable pub body_at : (ℕ → List Reference → Leaf) → ℕ → Got Leaf
  body_at make at =
      given (room 2 at) λ _. many reference_at (word (at + 1)) (at + 2) then λ rs q. got (make (word at) rs) q

  unfoldable pub token_at : ℕ → Got Leaf
  token_at at = given (room 1 at && is_name (word at)) λ _. got (token (word at)) (at + 1)

  -- The six fixed words of an element.
  unfoldable pub is_head : ℕ → Bool
  is_head at = room 6 at && (leb (word (at + 2) / kind_end) one_or_more_nongreedy && is_label (word (at + 3)) (word (at + 4)))

  unfoldable pub head_at : ℕ → Got ElementHead
  head_at at =
      given (is_head at) λ _. many option_at (word (at + 5)) (at + 6) then λ os q.
      got
      (record {
        id = word at;
        carried = word (at + 1);
        quantifier = word (at + 2) / kind_end;
        label = label_of (word (at + 3)) (word (at + 4));
        options = os;
      })
      q

module _ (f : Form) (ws : List ℕ) (end : ℕ) where
  -- Where the form has no place for a precedence there is none.
  unfoldable pub call_at_in : ℕ → Got Leaf
  call_at_in at =
      given (room ws end (call_words f) at && is_name (word ws end at)) λ _.
      got
      (call (record {
        name = word ws end at;
        arguments = word ws end (at + 1);
        precedence = elim f.precedences [ true ↦ word ws end (at + 2) | false ↦ 0 ];
      }))
      (at + call_words f)

  -- Of a kind, in the order of leaf_kind.
  unfoldable pub leaf_at_in : ℕ → ℕ → Got Leaf
  leaf_at_in zero at = got epsilon at
  leaf_at_in (suc zero) at = body_at ws end action_of at
  leaf_at_in (suc (suc zero)) at = body_at ws end predicate_of at
  leaf_at_in (suc (suc (suc zero))) at = call_at_in at
  leaf_at_in (suc (suc (suc (suc zero)))) at = token_at ws end at
  leaf_at_in (suc (suc (suc (suc (suc zero))))) at = got terminal at
  leaf_at_in (suc (suc (suc (suc (suc (suc zero)))))) at = bad
  leaf_at_in (suc (suc (suc (suc (suc (suc (suc zero))))))) at = got end_of_input at
  leaf_at_in (suc (suc (suc (suc (suc (suc (suc (suc k)))))))) at = bad

  module _ {B : Type 0} (block_at : ℕ → Got B) where
    unfoldable pub payload_at_in : ElementHead → ℕ → ℕ → Got (Element B)
    payload_at_in h kind at =
        elim (eqb kind block_kind) [
          | true ↦ block_at at then λ b q. got (block h b) q
          | false ↦ leaf_at_in kind at then λ l q. got (leaf h l) q
        ]

    unfoldable pub element_at_in : ℕ → Got (Element B)
    element_at_in at = head_at ws end at then λ h p. payload_at_in h (word ws end (at + 2) % kind_end) p

    unfoldable pub alternative_at_in : ℕ → Got (AlternativeOf B)
    alternative_at_in at =
        given (room ws end 5 at && leb (word ws end (at + 2)) most_alternative_flag) λ _.
        many (option_at ws end) (word ws end (at + 3)) (at + 5) then λ os p.
        many element_at_in (word ws end (at + 4)) p then λ es q.
        got
        (record { id = word ws end at; carried = word ws end (at + 1); flag = word ws end (at + 2); options = os; elements = es })
        q

    unfoldable pub rule_at_in : ℕ → Got (RuleOf B)
    rule_at_in at =
        given (room ws end 3 at && (is_name (word ws end (at + 1)) && leb (word ws end (at + 2)) most_rule_flags)) λ _.
        block_at (at + 3) then λ b q.
        got (record { id = word ws end at; name = word ws end (at + 1); flags = word ws end (at + 2); body = b }) q

  -- The count and the alternatives of a block that may nest blocks less than d deep.
  unfoldable pub block_at_in : (d : ℕ) → ℕ → Got (Block d)
  block_at_in zero at = bad
  block_at_in (suc d) at = given (room ws end 1 at) λ _. many (alternative_at_in (block_at_in d)) (word ws end at) (at + 1)

  -- Rules up to the end exactly, and at most n of them.
  unfoldable pub rules_at_in : ℕ → ℕ → Got (List Rule)
  rules_at_in zero at = given (eqb at end) λ _. got [] at
  rules_at_in (suc n) at =
      elim (eqb at end) [
        | true ↦ got [] at
        | false ↦ rule_at_in (block_at_in body_depth) at then λ r p. rules_at_in n p then λ rs q. got (r ∷ rs) q
      ]

-- In the newest form.
module _ (ws : List ℕ) (end : ℕ) where
  abbrev pub call_at : ℕ → Got Leaf
  call_at = call_at_in newest ws end

  abbrev pub leaf_at : ℕ → ℕ → Got Leaf
  leaf_at = leaf_at_in newest ws end

  abbrev pub payload_at : {B : Type 0} → (ℕ → Got B) → ElementHead → ℕ → ℕ → Got (Element B)
  payload_at = payload_at_in newest ws end

  abbrev pub element_at : {B : Type 0} → (ℕ → Got B) → ℕ → Got (Element B)
  element_at = element_at_in newest ws end

  abbrev pub alternative_at : {B : Type 0} → (ℕ → Got B) → ℕ → Got (AlternativeOf B)
  alternative_at = alternative_at_in newest ws end

  abbrev pub rule_at : {B : Type 0} → (ℕ → Got B) → ℕ → Got (RuleOf B)
  rule_at = rule_at_in newest ws end

  abbrev pub block_at : (d : ℕ) → ℕ → Got (Block d)
  block_at = block_at_in newest ws end

  abbrev pub rules_at : ℕ → ℕ → Got (List Rule)
  rules_at = rules_at_in newest ws end
