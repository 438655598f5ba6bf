-- Left corners and paths of them, told a second time (SPECIFICATION 6.5, 6.6, 13.11 and 14.1): of the trees of a sheet, by what
-- the elements in front derive. They have nothing but derivation (Derivation) in common with the first wording (LeftCorners and
-- Cycles in language).
use Rattle.std.specs.Prelude.{ℕ, suc, ◌≡◌, ◌↔◌, true}
use mathlib.Core.List.{List, ◌∷◌, ◌++◌, Memᴰ}
use Rattle.grammar.specs.Lists.{all, member}
use Rattle.grammar.specs.Tree.{ElementHead, Call, call, token, terminal, Element, leaf, block, AlternativeOf, Block, RuleOf}
use Rattle.grammar.specs.Valid.{ok_element, ok_block}
use Rattle.grammar.specs.Corners.{Corners, rust, textbook}
use Rattle.language.specs.Shape.{Symbol, end_symbol, Word, erase_rules}
use Rattle.language.specs.Cycles.{LeftCorner, RuleReaches}
use Rattle.reference.specs.Analysis.{grammar_of, left_corners}
use Rattle.laws.specs.Demands.Derivation.{element, Derives}

module _ (d : ℕ) (rs : List (RuleOf (Block (suc d)))) where
  -- A token, an element of kind 5 or an unknown call (SPECIFICATION 14.1), with any quantifier. End of input is none of them.
  pub data SymbolAt : (k : ℕ) → Element (Block k) → Type 0 where
    token_at : {k : ℕ} {h : ElementHead} {n : ℕ} → SymbolAt k (leaf h (token n))
    terminal_at : {k : ℕ} {h : ElementHead} → SymbolAt k (leaf h terminal)
    unknown_at : {k : ℕ} {h : ElementHead} {c : Call} → ((r : RuleOf (Block (suc d))) → Memᴰ r rs → r.name ≡ c.name → ⊥)
        → SymbolAt k (leaf h (call c))

  -- What can be empty (SPECIFICATION 13.9): it derives a string in which each symbol is the end mark.
  pub record Empties (k : ℕ) (e : Element (Block k)) : Type 0 where
    pub word : Word
    pub marks : (a : Symbol) → Memᴰ a word → a ≡ end_symbol
    pub derived : Derives d rs (element k e) word

  -- What left corners are sought behind: what can be empty, and by the Rust's reading is no such symbol.
  abbrev pub Past : Corners → (k : ℕ) → Element (Block k) → Type 0
  Past textbook k e = Empties k e
  Past rust k e = Empties k e × (SymbolAt k e → ⊥)

  -- The rule called there, by its name, or a left corner of an alternative of the block there.
  pub data CornerTold (c : Corners) (n : ℕ) : (k : ℕ) → List (Element (Block k)) → Type 0 where
    call_there : {k : ℕ} {es : List (Element (Block k))} (front rest : List (Element (Block k))) (h : ElementHead) (s : Call)
        → front ++ (leaf h (call s) ∷ rest) ≡ es → ((e : Element (Block k)) → Memᴰ e front → Past c k e)
        → (r : RuleOf (Block (suc d))) → Memᴰ r rs → r.name ≡ s.name → s.name ≡ n → CornerTold c n k es
    block_there : {k : ℕ} {es : List (Element (Block (suc k)))} (front rest : List (Element (Block (suc k)))) (h : ElementHead)
        (b : Block (suc k)) {a : AlternativeOf (Block k)}
        → front ++ (block h b ∷ rest) ≡ es → ((e : Element (Block (suc k))) → Memᴰ e front → Past c (suc k) e)
        → Memᴰ a b → CornerTold c n k a.elements → CornerTold c n (suc k) es

  -- A path of one left corner or more leads from a rule to another (SPECIFICATION 6.6).
  pub data PathTold (c : Corners) : RuleOf (Block (suc d)) → RuleOf (Block (suc d)) → Type 0 where
    one_step : {r q : RuleOf (Block (suc d))} {a : AlternativeOf (Block d)} → Memᴰ a r.body → Memᴰ q rs
        → CornerTold c q.name d a.elements → PathTold c r q
    step_then : {r p q : RuleOf (Block (suc d))} {a : AlternativeOf (Block d)} → Memᴰ a r.body → Memᴰ p rs
        → CornerTold c p.name d a.elements → PathTold c p q → PathTold c r q

  -- The two wordings agree, and the definition lists these, of every alternative that the reader accepts.
  pub record LeftCornersTold : Type 0 where
    pub textbook : (k : ℕ) (es : List (Element (Block k))) → all (ok_element (ok_block k)) es ≡ true → (n : ℕ)
        → LeftCorner (erase_rules (suc d) rs) k es n ↔ CornerTold textbook n k es
    pub listed : (c : Corners) (k : ℕ) (es : List (Element (Block k))) → all (ok_element (ok_block k)) es ≡ true → (i : ℕ)
        → (member i (left_corners c (grammar_of (suc d) rs) k es) ≡ true)
        ↔ ((r : RuleOf (Block (suc d))) × Memᴰ r rs × (r.id ≡ i) × CornerTold c r.name k es)
    pub reaches : (c : Corners) (i j : ℕ)
        → RuleReaches c (suc d) rs i j
        ↔ ((r : RuleOf (Block (suc d))) × (q : RuleOf (Block (suc d))) × Memᴰ r rs × Memᴰ q rs × (r.id ≡ i) × (q.id ≡ j)
        × PathTold c r q)
