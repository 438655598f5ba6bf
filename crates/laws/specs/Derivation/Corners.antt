-- The two wordings of left corners agree, of every alternative that the reader accepts.
use Prim.Native.Nat.{ℕ, zero, suc}
use Rattle.std.specs.Prelude.{◌≡◌, ◌↔◌, true, false, leb}
use Rattle.std.proofs.Math.Path.{refl, subst}
use Rattle.std.proofs.Common.{sym, ap, ◌∙◌}
use mathlib.Core.List.Memᴰ
use mathlib.Core.List.{List, [], ◌∷◌, ◌++◌, map, Memᴰ}
use Rattle.std.proofs.Math.Option.{Option, none, some, some-injective}
use Rattle.std.proofs.Math.Bool.{true≢false}
use Rattle.std.proofs.lemmas.Bool.{false≢true}
use Rattle.std.specs.Cmp.{first_so, second_so}
use Rattle.grammar.specs.Lists.{all, distinct}
use Rattle.grammar.specs.Tree.{ElementHead, Leaf, epsilon, action, predicate, call, token, terminal, end_of_input, Element, leaf, block}
use Rattle.grammar.specs.Tree.{AlternativeOf, Block, RuleOf, Sheet, inner_depth}
use Rattle.grammar.specs.Numbers.{most_alternative_flag}
use Rattle.grammar.specs.Valid.{valid, ok_option, ok_head, ok_element, ok_alternative, ok_block, ok_alternative_in, ok_block_in}
use Rattle.grammar.specs.Valid.{ok_element_in}
use Rattle.grammar.specs.Laws.Parse.{either}
use Rattle.grammar.specs.Corners.{Corners, rust, textbook}
use Rattle.language.specs.Shape.{is_mark, Shape, alts, call_of, erase_leaf, erase_element, erase_elements, erase_block, Shapes, erase_rules}
use Rattle.language.specs.Shape.{find}
use Rattle.language.specs.LeftCorners.{is_missing, is_symbol, stops, Skippable, Corner, c_call, c_first, c_later, c_left, c_right, Leads}
use Rattle.language.specs.LeftCorners.{Reaches, r_last, r_more}
use Rattle.language.specs.Laws.Corner.{corner_quantified, symbol_quantified}
use Rattle.language.specs.Laws.Rules.{rule_found, found_rule}
use Rattle.laws.specs.Demands.Corners.{SymbolAt, token_at, terminal_at, unknown_at, Past, CornerTold, call_there, block_there}
use Rattle.laws.specs.Demands.Corners.{PathTold, one_step, step_then, LeftCornersTold}
use Rattle.laws.specs.Lists.Lookup.{all_in}
use Rattle.laws.specs.Analysis.LeftCorners.{left_corners_lem}
use Rattle.laws.specs.Analysis.Textbook.{textbook_corner}
use Rattle.laws.specs.Running.Stages.{valid_told}
use Rattle.laws.specs.Derivation.Empty.{empties, can_be_empty}
use Rattle.laws.specs.Derivation.Same.{good_rules}

module _ (d : ℕ) (rs : List (RuleOf (Block (suc d)))) (names : distinct (map (λ r. r.name) rs) ≡ true)
    (good : (r : RuleOf (Block (suc d))) → Memᴰ r rs → ok_block (suc d) r.body ≡ true) where
  abbrev G : Shapes
  G = erase_rules (suc d) rs

  -- A symbol by either wording.
  missing : (n : ℕ) → is_missing (find G n) ≡ true → (r : RuleOf (Block (suc d))) → Memᴰ r rs → r.name ≡ n → ⊥
  missing n t r m e =
      let f : find G n ≡ some (erase_block (suc d) r.body) =
      subst (λ n. find G n ≡ some (erase_block (suc d) r.body)) e (rule_found (suc d) (λ r. r.name) rs names m) in
      false≢true (sym (ap is_missing f) ∙ t)

  not_missing : (n : ℕ) (o : Option Shape) → find G n ≡ o → is_missing o ≡ false
      → (r : RuleOf (Block (suc d))) × Memᴰ r rs × (r.name ≡ n)
  not_missing n none e f = absurd (true≢false f)
  not_missing n (some b) e f = let (r, m, k, s) = found_rule (suc d) (λ r. r.name) rs n e in (r, m, k)

  leaf_symbol : {k : ℕ} (h : ElementHead) (l : Leaf) → SymbolAt d rs k (leaf h l) → is_symbol G (erase_leaf h.carried l) ≡ true
  unfolding is_symbol is_mark erase_leaf
  leaf_symbol h epsilon s = elim s [ ]
  leaf_symbol h (action a) s = elim s [ ]
  leaf_symbol h (predicate p) s = elim s [ ]
  leaf_symbol h (token n) token_at = refl
  leaf_symbol h terminal terminal_at = refl
  leaf_symbol h (call c) (unknown_at u) =
      either (is_missing (find G c.name)) (λ t. t)
      (λ f. let (r, m, e) = not_missing c.name (find G c.name) refl f in absurd (u r m e))
  leaf_symbol h end_of_input s = elim s [ ]

  symbol_leaf : {k : ℕ} (h : ElementHead) (l : Leaf) → is_symbol G (erase_leaf h.carried l) ≡ true → SymbolAt d rs k (leaf h l)
  unfolding is_symbol is_mark erase_leaf
  symbol_leaf h epsilon t = absurd (false≢true t)
  symbol_leaf h (action a) t = absurd (false≢true t)
  symbol_leaf h (predicate p) t = absurd (false≢true t)
  symbol_leaf h (call c) t = unknown_at (missing c.name t)
  symbol_leaf h (token n) t = token_at
  symbol_leaf h terminal t = terminal_at
  symbol_leaf h end_of_input t = absurd (false≢true t)

  block_no_symbol : (k : ℕ) (b : Block k) → is_symbol G (erase_block k b) ≡ false
  unfolding is_symbol erase_block
  block_no_symbol zero b = absurd b
  block_no_symbol (suc k) [] = refl
  block_no_symbol (suc k) (a ∷ as') = refl

  at_symbol : {k : ℕ} (e : Element (Block k)) → SymbolAt d rs k e → is_symbol G (erase_element (erase_block k) e) ≡ true
  unfolding erase_element
  at_symbol (leaf h l) s = symbol_quantified G h.quantifier (erase_leaf h.carried l) ∙ leaf_symbol h l s
  at_symbol (block h b) s = elim s [ ]

  no_symbol : {k : ℕ} (e : Element (Block k)) → (SymbolAt d rs k e → ⊥) → is_symbol G (erase_element (erase_block k) e) ≡ false
  unfolding erase_element
  no_symbol (leaf h l) s =
      either (is_symbol G (erase_leaf h.carried l)) (λ t. absurd (s (symbol_leaf h l t)))
      (λ f. symbol_quantified G h.quantifier (erase_leaf h.carried l) ∙ f)
  no_symbol {k} (block h b) s = symbol_quantified G h.quantifier (erase_block k b) ∙ block_no_symbol k b

  -- What is skipped by either wording.
  skipped : (c : Corners) (k : ℕ) (e : Element (Block k)) → ok_element (ok_block k) e ≡ true
      → Skippable c G (erase_element (erase_block k) e) → Past d rs c k e
  unfolding stops
  skipped textbook k e t o = empties d rs names good k e t o.empty
  skipped rust k e t o = (empties d rs names good k e t o.empty, λ s. true≢false (sym (at_symbol e s) ∙ o.goes_on))

  skips : (c : Corners) (k : ℕ) (e : Element (Block k)) → Past d rs c k e → Skippable c G (erase_element (erase_block k) e)
  unfolding stops
  skips textbook k e p = record { empty = can_be_empty d rs names k e p; goes_on = refl }
  skips rust k e p = record { empty = can_be_empty d rs names k e p.0; goes_on = no_symbol e p.1 }

  module _ (c : Corners) where
    -- One more element in front.
    further : {k : ℕ} {es : List (Element (Block k))} {n : ℕ} (e : Element (Block k)) → Past d rs c k e → CornerTold d rs c n k es
        → CornerTold d rs c n k (e ∷ es)
    further {k} e o (call_there front rest h s w p r m i j) =
        call_there (e ∷ front) rest h s (ap (λ l. e ∷ l) w) (in_front e front o p) r m i j
      where
        in_front : (e : Element (Block k)) (front : List (Element (Block k))) → Past d rs c k e
            → ((f : Element (Block k)) → Memᴰ f front → Past d rs c k f) → (f : Element (Block k)) → Memᴰ f (e ∷ front)
            → Past d rs c k f
        in_front e front o p f (Memᴰ.head q) = subst (Past d rs c k) (sym q) o
        in_front e front o p f (Memᴰ.tail m) = p f m
    further e o (block_there {k = k} front rest h b w p m x) =
        block_there (e ∷ front) rest h b (ap (λ l. e ∷ l) w) (in_front e front o p) m x
      where
        in_front : (e : Element (Block (suc k))) (front : List (Element (Block (suc k)))) → Past d rs c (suc k) e
            → ((f : Element (Block (suc k))) → Memᴰ f front → Past d rs c (suc k) f) → (f : Element (Block (suc k)))
            → Memᴰ f (e ∷ front) → Past d rs c (suc k) f
        in_front e front o p f (Memᴰ.head q) = subst (Past d rs c (suc k)) (sym q) o
        in_front e front o p f (Memᴰ.tail m) = p f m

    at_leaf : {k : ℕ} (h : ElementHead) (l : Leaf) (es : List (Element (Block k))) {n : ℕ} → Corner c G (erase_leaf h.carried l) n
        → CornerTold d rs c n k (leaf h l ∷ es)
    unfolding erase_leaf
    at_leaf h epsilon es x = elim x [ ]
    at_leaf h (action a) es x = elim x [ ]
    at_leaf h (predicate p) es x = elim x [ ]
    at_leaf h (call s) es (c_call e) =
        let (r, m, i, same) = found_rule (suc d) (λ r. r.name) rs s.name e in
        call_there [] es h s refl (λ f q. absurd (Memᴰ.not-nil q)) r m i refl
    at_leaf h (token n) es x = elim x [ ]
    at_leaf h terminal es x = elim x [ ]
    at_leaf h end_of_input es x = elim x [ ]

    -- The alternative of a block with the left corner.
    alternative_of : {B : Type 0} (f : B → Shape) (bs : List B) {n : ℕ} → Corner c G (alts (map f bs)) n
        → (b : B) × Memᴰ b bs × Corner c G (f b) n
    alternative_of f [] x = elim x [ ]
    alternative_of f (b ∷ bs) (c_left x) = (b, Memᴰ.head refl, x)
    alternative_of f (b ∷ bs) (c_right x) = let (a, m, y) = alternative_of f bs x in (a, Memᴰ.tail m, y)

    of_alternative : {B : Type 0} (f : B → Shape) {b : B} {bs : List B} {n : ℕ} → Memᴰ b bs → Corner c G (f b) n
        → Corner c G (alts (map f bs)) n
    of_alternative f {n = n} (Memᴰ.head e) x = c_left (subst (λ y. Corner c G (f y) n) e x)
    of_alternative f (Memᴰ.tail m) x = c_right (of_alternative f m x)

    module _ (k : ℕ) (inner : (h : ElementHead) (b : Block k) (es : List (Element (Block k))) (n : ℕ) → ok_block k b ≡ true
        → Corner c G (erase_block k b) n → CornerTold d rs c n k (block h b ∷ es)) where
      found_at : (e : Element (Block k)) (es : List (Element (Block k))) {n : ℕ} → ok_element (ok_block k) e ≡ true
          → Corner c G (erase_element (erase_block k) e) n → CornerTold d rs c n k (e ∷ es)
      unfolding erase_element ok_element_in
      found_at (leaf h l) es t x = at_leaf h l es ((corner_quantified h.quantifier (erase_leaf h.carried l)).0 x)
      found_at (block h b) es {n} t x =
          inner h b es n (second_so (ok_head h) (ok_block k b) t) ((corner_quantified h.quantifier (erase_block k b)).0 x)

      found_in : (es : List (Element (Block k))) {n : ℕ} → all (ok_element (ok_block k)) es ≡ true
          → Corner c G (erase_elements (erase_block k) es) n → CornerTold d rs c n k es
      unfolding all
      found_in [] t x = elim x [ ]
      found_in (e ∷ es) t (c_first x) = found_at e es (first_so (ok_element (ok_block k) e) _ t) x
      found_in (e ∷ es) t (c_later o x) =
          further e (skipped c k e (first_so (ok_element (ok_block k) e) _ t) o)
          (found_in es (second_so (ok_element (ok_block k) e) _ t) x)

    in_block : (k : ℕ) (h : ElementHead) (b : Block k) (es : List (Element (Block k))) (n : ℕ) → ok_block k b ≡ true
        → Corner c G (erase_block k b) n → CornerTold d rs c n k (block h b ∷ es)
    unfolding erase_block ok_block_in ok_alternative_in
    in_block zero h b es n t x = absurd b
    in_block (suc k) h b es n t x =
        let (a, m, y) = alternative_of (λ a. erase_elements (erase_block k) a.elements) b x in
        let u = all_in (ok_alternative (ok_block k)) t m in
        let v = second_so (all ok_option a.options) _ (second_so (leb a.flag most_alternative_flag) _ u) in
        block_there [] es h b refl (λ f q. absurd (Memᴰ.not-nil q)) m (found_in k (in_block k) a.elements v y)

    -- Behind what is skipped.
    behind : (k : ℕ) (front rest : List (Element (Block k))) (e : Element (Block k)) {n : ℕ}
        → ((f : Element (Block k)) → Memᴰ f front → Past d rs c k f) → Corner c G (erase_element (erase_block k) e) n
        → Corner c G (erase_elements (erase_block k) (front ++ (e ∷ rest))) n
    behind k [] rest e p x = c_first x
    behind k (f ∷ front) rest e p x =
        c_later (skips c k f (p f (Memᴰ.head refl))) (behind k front rest e (λ g m. p g (Memᴰ.tail m)) x)

    is_corner : {n k : ℕ} {es : List (Element (Block k))} → CornerTold d rs c n k es → Corner c G (erase_elements (erase_block k) es) n
    unfolding erase_element erase_leaf erase_block
    is_corner {n = n} {k = k} (call_there front rest h s w p r m i j) =
        let b = erase_block (suc d) r.body in
        let f : find G s.name ≡ some b = subst (λ n. find G n ≡ some b) i (rule_found (suc d) (λ r. r.name) rs names m) in
        let x : Corner c G (call_of s.name) n = subst (Corner c G (call_of s.name)) j (c_call f) in
        subst (λ l. Corner c G (erase_elements (erase_block k) l) n) w
        (behind k front rest (leaf h (call s)) p ((corner_quantified h.quantifier (call_of s.name)).1 x))
    is_corner {n = n} (block_there {k = k} front rest h b w p m x) =
        subst (λ l. Corner c G (erase_elements (erase_block (suc k)) l) n) w
        (behind (suc k) front rest (block h b) p
        ((corner_quantified h.quantifier (erase_block (suc k) b)).1
        (of_alternative (λ a. erase_elements (erase_block k) a.elements) m (is_corner x))))

    corner_told : (k : ℕ) (es : List (Element (Block k))) → all (ok_element (ok_block k)) es ≡ true → (n : ℕ)
        → Corner c G (erase_elements (erase_block k) es) n ↔ CornerTold d rs c n k es
    corner_told k es t n = (found_in k (in_block k) es t, is_corner)

    -- A rule leads to another: by an alternative of its body.
    body_of : {r : RuleOf (Block (suc d))} → Memᴰ r rs → find G r.name ≡ some (erase_block (suc d) r.body)
    body_of m = rule_found (suc d) (λ r. r.name) rs names m

    leads_told : {r : RuleOf (Block (suc d))} (m : Memᴰ r rs) {n k : ℕ} → r.name ≡ n → Leads c G n k
        → (a : AlternativeOf (Block d)) × Memᴰ a r.body × CornerTold d rs c k d a.elements
    unfolding erase_block ok_block_in ok_alternative_in
    leads_told {r} m {n} {k} e x =
        let b = erase_block (suc d) r.body in
        let same : x.body ≡ b =
        some-injective x.body b (sym x.found ∙ subst (λ n. find G n ≡ some b) e (body_of m)) in
        let (a, i, y) =
        alternative_of (λ a. erase_elements (erase_block d) a.elements) r.body (subst (λ s. Corner c G s k) same x.corner) in
        let u = all_in (ok_alternative (ok_block d)) (good r m) i in
        let v = second_so (all ok_option a.options) _ (second_so (leb a.flag most_alternative_flag) _ u) in
        (a, i, (corner_told d a.elements v k).0 y)

    told_leads : {r : RuleOf (Block (suc d))} (m : Memᴰ r rs) {k : ℕ} {a : AlternativeOf (Block d)} → Memᴰ a r.body
        → CornerTold d rs c k d a.elements → Leads c G r.name k
    unfolding erase_block
    told_leads {r} m i x =
        record {
          body = erase_block (suc d) r.body;
          found = body_of m;
          corner = of_alternative (λ a. erase_elements (erase_block d) a.elements) i (is_corner x);
        }

    path_told : {r q : RuleOf (Block (suc d))} → Memᴰ r rs → Memᴰ q rs → {n k : ℕ} → r.name ≡ n → q.name ≡ k
        → Reaches c G n k → PathTold d rs c r q
    path_told m i e f (r_last x) =
        let (a, j, y) = leads_told m e x in
        one_step j i (subst (λ k. CornerTold d rs c k d a.elements) (sym f) y)
    path_told {r = r} m i e f (r_more {m = h} x xs) =
        let (a, j, y) = leads_told m e x in
        let (p, o, s) = next xs in
        step_then j o (subst (λ k. CornerTold d rs c k d a.elements) (sym s) y) (path_told {r = p} o i s f xs)
      where
        next : {n k : ℕ} → Reaches c G n k → (p : RuleOf (Block (suc d))) × Memᴰ p rs × (p.name ≡ n)
        next {n} (r_last z) = let (p, o, s, w) = found_rule (suc d) (λ r. r.name) rs n z.found in (p, o, s)
        next {n} (r_more z zs) = let (p, o, s, w) = found_rule (suc d) (λ r. r.name) rs n z.found in (p, o, s)

    told_path : {r q : RuleOf (Block (suc d))} → Memᴰ r rs → PathTold d rs c r q → Reaches c G r.name q.name
    told_path m (one_step i o x) = r_last (told_leads m i x)
    told_path m (step_then i o x xs) = r_more (told_leads m i x) (told_path o xs)

  pub left_corners_told : distinct (map (λ r. r.id) rs) ≡ true → LeftCornersTold d rs
  left_corners_told ids =
      record {
        textbook = λ k es t n.
            let (to, from) = corner_told textbook k es t n in
            let (into-left, from-left) = textbook_corner G k es n in
            (λ x. to (from-left x), λ x. into-left (from x));
        listed = λ c k es t i.
            let (to, from) = left_corners_lem c (suc d) rs ids names k es i in (
              λ u. let x = to u in (x.rule, x.there, x.id, (corner_told c k es t x.rule.name).0 x.corner),
              λ x. from (record {
                rule = x.0;
                there = x.1;
                id = x.2;
                corner = (corner_told c k es t x.0.name).1 x.3;
              }),
            );
        reaches = λ c i j. (
          λ x. (
            x.source,
            x.goal,
            x.source_stands,
            x.goal_stands,
            x.source_id,
            x.goal_id,
            path_told c x.source_stands x.goal_stands refl refl x.path,
          ),
          λ x.
              record {
                source = x.0;
                source_stands = x.2;
                source_id = x.4;
                goal = x.1;
                goal_stands = x.3;
                goal_id = x.5;
                path = told_path c x.2 x.6;
              },
        );
      }

pub sheet_left_corners : (s : Sheet) → valid s ≡ true → LeftCornersTold inner_depth s.rules
sheet_left_corners s v =
    let t = valid_told s v in
    left_corners_told inner_depth s.rules t.names (good_rules s v) t.ids
