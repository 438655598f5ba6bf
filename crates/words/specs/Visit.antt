-- What a visitor does in a walk over a tree that stands in a sheet, and what makes one visit after the other a fold.
use Rattle.std.specs.Prelude.{ℕ, ◌-◌, ◌≤◌, ◌≡◌, List}
use Rattle.grammar.specs.Numbers.{block_kind}
use Rattle.grammar.specs.Stands.{Spans}
use Rattle.grammar.specs.Tree.{ElementHead, Leaf, AlternativeOf, Block}
use Rattle.grammar.specs.Encode.{leaf_kind, encode_leaf}
use Rattle.grammar.specs.Valid.{ok_leaf}
use Rattle.grammar.specs.Fold.{AlternativeHead, head_of, Steps}
use Rattle.grammar.specs.Laws.Opened.{HeadWords, AlternativeWords}

module _ {S : Type 0} (walk : Steps S) (ws : List ℕ) (end at : ℕ) where
  -- Past a leaf, whatever leaf these words are; into a block; into an alternative.
  pub record LeafPassed (payload : ℕ) (s r : S) : Type 0 where
    pub is : (h : ElementHead) (l : Leaf) (q : ℕ) → HeadWords ws end at h (leaf_kind l) payload
        → Spans ws end encode_leaf ok_leaf payload l q
        → r ≡ walk.past_leaf s h l

  pub record BlockEntered (payload : ℕ) (s r : S) : Type 0 where
    pub is : (h : ElementHead) → HeadWords ws end at h block_kind payload → r ≡ walk.into_block s h

  pub record AlternativeEntered (d : ℕ) (s r : S) : Type 0 where
    pub is : (a : AlternativeOf (Block d)) (q : ℕ) → AlternativeWords ws end d at a q → r ≡ walk.into_alternative s (head_of a)

-- A visitor's state at a depth; what holds of one at a depth and a place; and what stays as it was from one to the next.
module _ {V State : Type 0} (steps : List ℕ → V → Steps State) (state : List ℕ → ℕ → V → State)
    (Fits : List ℕ → ℕ → ℕ → ℕ → V → Type 0) (Kept : List ℕ → ℕ → V → V → Type 0) where
  pub record VisitorLaws : Type 0 where
    pub none : (ws : List ℕ) (end d at : ℕ) (v : V) → Fits ws end d at v → Kept ws end v v
    pub more : (ws : List ℕ) (end : ℕ) (a b c : V) → Kept ws end a b → Kept ws end b c → Kept ws end a c
    pub same : (ws : List ℕ) (end : ℕ) (a b : V) → Kept ws end a b → steps ws b ≡ steps ws a
    pub on : (ws : List ℕ) (end d at p : ℕ) (v : V) → at ≤ p → Fits ws end d at v → Fits ws end d p v
    pub out : (ws : List ℕ) (end d at p : ℕ) (a b : V) → Kept ws end a b → Fits ws end d at a → Fits ws end (d - 1) p b
        → Fits ws end d p b
    pub past_block : (ws : List ℕ) (end d at : ℕ) (a b : V) (h : ElementHead) → 1 ≤ d → Kept ws end a b → Fits ws end d at a
        → (steps ws a).past_block (state ws d a) h (state ws (d - 1) b) ≡ state ws d b
    pub past_alternative : (ws : List ℕ) (end d : ℕ) (a b : V) (h : AlternativeHead) → Kept ws end a b
        → (steps ws a).past_alternative (state ws d a) h (state ws d b) ≡ state ws d b
