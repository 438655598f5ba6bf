-- What a half of the list stands for: a place, whether it is marked, the element that stands there.
use Rattle.std.specs.Prelude.{ℕ, suc, ◌+◌, ◌-◌, ◌%◌, ◌<◌, ◌≤◌, ◌≡◌, List, ◌∷◌, Bool, true, false, get_or}
use Rattle.std.proofs.Math.Path.{refl, sym}
use Rattle.std.proofs.Common.{ap, ◌∙◌, arith, add-one, le-leb}
use Rattle.std.proofs.Math.ListN.{drop}
use Rattle.std.proofs.lemmas.Bool.{lt-leb}
use Rattle.grammar.specs.Form.{newest}
use Rattle.grammar.specs.Tree.{ElementHead, Call, call, Element, leaf, Block}
use Rattle.grammar.specs.Numbers.{call_kind, kind_end}
use Rattle.grammar.specs.Encode.{leaf_kind, encode_block}
use Rattle.grammar.specs.Valid.{ok_block}
use Rattle.grammar.specs.Read.{block_at}
use Rattle.grammar.specs.Found.{ElementSpans, FoundElement}
use Rattle.grammar.specs.Laws.Complete.{element_complete, block_complete}
use Rattle.grammar.specs.Laws.Opened.{Opened, opened_leaf, opened_block, opened}
use Rattle.reference.specs.Substitute.{plain}
use Rattle.planned.specs.Layout.{half, marked, is_marked, place_of, made_if, standing, element_of, elements_from, meaning}
use Rattle.planned.specs.List.{ListedIn, CallAt, ItemAt}
use Rattle.planned.specs.Reading.{ItemIs}
use Rattle.planned.specs.Laws.Parts.{elements_at_lem}
use Rattle.planned.specs.declared.list.Listed.{Listed}

module _ {h : ℕ} where
  pub unmarked : h < marked → is_marked h ≡ false
  unmarked l = lt-leb marked h l

  pub unmarked_place : h < marked → place_of h ≡ h
  unmarked_place l = rw (unmarked l, place_of)

  pub is_marked_lem : marked ≤ h → is_marked h ≡ true
  is_marked_lem l = le-leb marked h l

  pub marked_place : marked ≤ h → place_of h ≡ h - marked
  marked_place l = rw (is_marked_lem l, place_of)

module _ (ws : List ℕ) (end d : ℕ) where
  pub standing_is : {at q : ℕ} {e : Element (Block d)} → ElementSpans ws end d at e q → standing ws end d at ≡ e
  unfolding standing
  standing_is {at} {q} {e} s =
      rw (
        element_complete newest ws end (block_at ws end d) (encode_block d) (ok_block d) (block_complete newest ws end d) at e q s,
        standing,
      )

-- The element at an index.
pub item_is : {bs : List ℕ} {x : Listed} {i at : ℕ} {made : Bool} → i < x.ne → place_of (half bs (x.e + i)) ≡ at
    → is_marked (half bs (x.e + i)) ≡ made
    → ItemIs bs x i at made
unfolding meaning element_of
item_is {bs} {x} {i} {at} {made} l p m =
    record {
      is = λ ws end d t.
          let e = t.elements i l in
          record {
            found = rw p at e.found;
            call = λ c. rw p at (e.plain (m ∙ c));
            here = λ e q s.
                rw (add-one i)
                (elements_at_lem ws end d bs i x.e x.ne l
                ∙ rw (m, p, standing_is ws end d s));
          };
    }

pub item_read : {bs : List ℕ} {x : Listed} {i h at : ℕ} → h ≡ half bs (x.e + i) → i < x.ne → at ≡ place_of h
    → ItemIs bs x i at (is_marked h)
item_read is l p = item_is l (rw (← is) (sym p)) (rw (← is) refl)

-- An element that means a call is one in the sheet.
call_kind_lem : {ws : List ℕ} {end d at q : ℕ} {e : Element (Block d)} {head : ElementHead} {c : Call} (b : Bool)
    → made_if b e ≡ leaf head (call c) → Opened ws end d at q e → get_or ws (at + 2) 0 % kind_end ≡ call_kind
unfolding plain leaf_kind
call_kind_lem {c = c} true m (opened_leaf {l = l} p w s) =
    let u : l ≡ call c = cc in let n : leaf_kind l ≡ call_kind = ap leaf_kind u in let k = w.packed in omega arith
call_kind_lem {c = c} false m (opened_leaf {l = l} p w s) =
    let u : l ≡ call c = cc in let n : leaf_kind l ≡ call_kind = ap leaf_kind u in let k = w.packed in omega arith
call_kind_lem true m (opened_block p w s) = absurd (let z : ◌≡◌ {A = ℕ} 0 1 = cc in omega arith)
call_kind_lem false m (opened_block p w s) = absurd (let z : ◌≡◌ {A = ℕ} 0 1 = cc in omega arith)

module _ {ws : List ℕ} {end d : ℕ} {bs : List ℕ} {x : Listed} {i : ℕ} (t : ListedIn ws end d bs x) (l : i < x.ne) where
  pub call_at : {head : ElementHead} {c : Call} {rest : List (Element (Block d))}
      → drop i (meaning ws end d bs x).elements ≡ leaf head (call c) ∷ rest
      → CallAt ws bs x i
  unfolding meaning element_of
  call_at {head} {c} {rest} s =
      let h = half bs (x.e + i) in
      let f = (t.elements i l).found in
      let u : element_of ws end d h ∷ drop (suc i) (elements_from ws end d bs x.e x.ne) ≡ leaf head (call c) ∷ rest =
      sym (elements_at_lem ws end d bs i x.e x.ne l) ∙ s in
      let v : element_of ws end d h ≡ leaf head (call c) = cc in
      record { kind = call_kind_lem {d = d} (is_marked h) (rw (standing_is ws end d f.spans) at v) (opened f.tree f.spans) }

-- An element that is listed stands in the sheet.
pub item_found : {ws : List ℕ} {end d : ℕ} {es : List (Element (Block d))} {i at : ℕ} {made : Bool} → ItemAt ws end d es i at made
    → FoundElement ws end d at
item_found t = t.found
