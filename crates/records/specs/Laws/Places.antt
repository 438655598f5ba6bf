-- Where the records of rules begin: as many places as rules, and one more where a rule is put behind them.
use Rattle.std.specs.Prelude.{ℕ, suc, ◌+◌, ◌≡◌, refl, List, [], ◌∷◌, ◌++◌, length}
use Rattle.std.proofs.Common.{ap, ◌∙◌, arith, length-append}
use Rattle.grammar.specs.Tree.{Rule, body_depth}
use Rattle.grammar.specs.Form.{Form}
use Rattle.grammar.specs.Encode.{encode_rule, encode_rules_in, encode_block_in}
use Rattle.records.specs.Rules.{places_from_in}

pub places_length : (form : Form) (at : ℕ) (rs : List Rule) → length (places_from_in form at rs) ≡ length rs
unfolding places_from_in
places_length form at [] = refl
places_length form at (r ∷ rs) = ap suc (places_length form (at + length (encode_rule (encode_block_in form body_depth) r)) rs)

pub places_more : (form : Form) (rs : List Rule) (r : Rule) (at : ℕ)
    → places_from_in form at (rs ++ (r ∷ [])) ≡ places_from_in form at rs ++ ((at + length (encode_rules_in form rs)) ∷ [])
unfolding places_from_in
places_more form [] r at = ap (λ n. n ∷ []) (omega arith)
places_more form (x ∷ rs) r at =
    ap (λ l. at ∷ l)
    (places_more form rs r (at + length (encode_rule (encode_block_in form body_depth) x))
    ∙ ap (λ n. places_from_in form (at + length (encode_rule (encode_block_in form body_depth) x)) rs ++ (n ∷ []))
    (let l = length-append (encode_rule (encode_block_in form body_depth) x) (encode_rules_in form rs) in omega arith))
