-- The walk that lists: its steps by the words of an element, an alternative or a rule.
use Prim.Native.Nat.{ℕ, suc, ◌+◌, ◌/◌, ◌%◌, ◌<◌}
use mathlib.Core.Path.{◌≡◌, refl, ap, ◌∙◌}
use mathlib.Core.List.{List, [], ◌∷◌}
use native.Mathlib.Omega.{arith}
use native.Mathlib.Numerals.{add-one}
use lib.ListN.{get_or}
use Rattle.grammar.specs.Numbers.{kind_end, block_kind}
use Rattle.grammar.specs.Stands.{Spans}
use Rattle.grammar.specs.Tree.{ElementHead, Leaf, epsilon, action, predicate, call, token, terminal, end_of_input}
use Rattle.grammar.specs.Encode.{leaf_kind, encode_leaf, encode_leaf_in}
use Rattle.grammar.specs.Valid.{ok_leaf}
use Rattle.grammar.specs.Found.{HeadAt}
use Rattle.grammar.specs.Laws.Stands.{stands_head}
use Rattle.grammar.specs.Laws.Complete.{leaf_kind_lem}
use Rattle.grammar.specs.Laws.Opened.{HeadWords}
use Rattle.words.specs.Visit.{LeafPassed, BlockEntered, AlternativeEntered}
use Rattle.listed.specs.Text.{line}
use Rattle.listed.specs.Listed.{leaf_name, element_word, element_line, alternative_line}
use Rattle.listed.specs.Put.{Put, PutFew}
use Rattle.listed.specs.Walk.{pen, put, listing, name_of}

-- Text put into the buffer is text put by the walk.
pub put_is : {b a : List ℕ} {n r : ℕ} {text : List ℕ} (level : ℕ) → Put b a n r text → pen a r level ≡ put (pen b n level) text
unfolding put
put_is level p = rw (p.is, p.moved) refl

-- A leaf's name is the first word of its payload, or 0.
name_is : {ws : List ℕ} {end p q : ℕ} (l : Leaf) → Spans ws end encode_leaf ok_leaf p l q → name_of (leaf_kind l) (get_or ws p 0) ≡ leaf_name l
unfolding name_of leaf_kind leaf_name encode_leaf_in
name_is epsilon s = refl
name_is (action a) s = refl
name_is (predicate a) s = refl
name_is (call c) s = stands_head s.stands
name_is (token n) s = stands_head s.stands
name_is terminal s = refl
name_is end_of_input s = refl

name_block : (w : ℕ) → name_of block_kind w ≡ 0
unfolding name_of
name_block w = refl

-- The line of an element by its words.
abbrev line_at : (ws : List ℕ) (level at kind payload : ℕ) → List ℕ
line_at ws level at kind payload =
    line element_word
    (level ∷ get_or ws at 0 ∷ kind ∷ get_or ws (at + 2) 0 / kind_end ∷ name_of kind (get_or ws payload 0) ∷ [])

line_is : {ws : List ℕ} {end at k kind p : ℕ} {h : ElementHead} (level name : ℕ) → HeadWords ws end at h kind p → kind < kind_end
    → k ≡ get_or ws (at + 2) 0 % kind_end
    → name_of kind (get_or ws p 0) ≡ name
    → line_at ws level at k p ≡ element_line level h kind name
line_is {ws} {at = at} {k} {kind} {p} {h} level name w low e f =
    let same : k ≡ kind = let y = w.packed in omega arith in
    let quantifier : get_or ws (at + 2) 0 / kind_end ≡ h.quantifier = let y = w.packed in omega arith in
    rw (same, quantifier, w.id, f) refl

-- The steps: past a leaf, into a block, whose level is one more, and into an alternative.
module _ {ws : List ℕ} {end at : ℕ} {b a : List ℕ} {n r level : ℕ} where
  module _ {k p : ℕ} (head : HeadAt ws end at k p) (x : PutFew b a n r (line_at ws level at k p) 57) where
    pub list_leaf : LeafPassed listing ws end at p (pen b n level) (pen a r level)
    list_leaf =
        record {
          is = λ h l q w u. put_is level x.put
              ∙ ap (put (pen b n level)) (line_is level (leaf_name l) w (let y = leaf_kind_lem l in omega arith) head.kind_is (name_is l u));
        }

    pub list_block : {inner : ℕ} → inner ≡ level + 1 → BlockEntered listing ws end at p (pen b n level) (pen a r inner)
    list_block deeper =
        record {
          is = λ h y.
              let l = line_is level 0 y (omega arith) head.kind_is (name_block (get_or ws p 0)) in
              let z = put_is level x.put ∙ ap (put (pen b n level)) l in
              rw deeper (rw (add-one level) (ap (λ q. pen q.buffer q.place (suc level)) z));
        }

  pub list_alternative : {d : ℕ} → PutFew b a n r (alternative_line level (get_or ws at 0)) 24
      → AlternativeEntered listing ws end at d (pen b n level) (pen a r level)
  list_alternative x =
      record { is = λ z q u. put_is level x.put ∙ ap (put (pen b n level)) (ap (alternative_line level) u.id) }

pub ruleset walks = (list_leaf, list_block, list_alternative)
