-- The two readings of left corners against SPECIFICATION 13.11.
use Prim.Native.Nat.{ℕ, zero, suc}
use Rattle.std.specs.Prelude.{◌≡◌, ◌⊎◌}
use Rattle.std.proofs.Math.Path.{refl, subst}
use Rattle.std.proofs.Common.{sym, ◌∙◌}
use Rattle.std.proofs.Math.Logic.{inl, inr, ⊎_elim, ⊎_map}
use mathlib.Core.List.{List, [], ◌∷◌, ◌++◌, Memᴰ}
use Rattle.std.proofs.Math.Option.{Option, none, some, none-ne-some}
use Rattle.std.proofs.Math.Bool.{true, false≢true}
use Rattle.grammar.specs.Lists.{AllOf, AnyOf}
use Rattle.grammar.specs.Tree.{Leaf, epsilon, action, predicate, call, token, terminal, end_of_input, Element, leaf, block, AlternativeOf}
use Rattle.grammar.specs.Tree.{Block, Rule, body_depth, Sheet}
use Rattle.language.specs.Shape.{Shape, call_of, erase_leaf, erase_element, erase_block, Shapes, find, erase_rules, is_mark}
use Rattle.language.specs.Derive.{CanBeEmpty}
use Rattle.grammar.specs.Corners.{Corners, rust, textbook}
use Rattle.language.specs.LeftCorners.{is_missing, is_symbol, stops, Skippable, Corner, c_call, c_first, c_later, c_left, c_right, IsSymbol}
use Rattle.language.specs.LeftCorners.{is_token, is_terminal, unknown_name}
use Rattle.grammar.specs.Laws.Parse.{either}
use Rattle.language.specs.Laws.Empty.{symbol_empty, call_empty, quantified_empty}
use Rattle.language.specs.Laws.Corner.{corner_quantified, symbol_quantified}
use Rattle.reference.specs.Substitute.{Limits}
use Rattle.reference.specs.Run.{inner_depth, Stage, ended, eliminate_mutual_left_recursion}
use Rattle.language.specs.Cycles.{LeftCorner, called, inside}
use Rattle.laws.specs.Analysis.Textbook.{textbook_corner}
use Rattle.laws.specs.Demands.Shape.{Elements, NoCorner, IsOptionalSymbol, PastSymbol, NoLeftCorner, OnlyPastSymbols, SecondSort}
use Rattle.laws.specs.Demands.Shape.{JoinedShape}
use Rattle.laws.specs.Demands.Run.{Demand3}
use Rattle.laws.specs.Running.Leaves.{Told}
use Rattle.laws.specs.Planning.Turns.{Items}
use Rattle.laws.specs.Planning.Substituted.{shape_of}
use Rattle.laws.specs.Proved.Demand3.{demand3}

-- The textbook's reading is that of SPECIFICATION 13.11.
pub no_left_corner : (rules : List Rule) (cycle : List ℕ) (es : Elements) → NoCorner textbook rules cycle es → NoLeftCorner rules cycle es
no_left_corner rules cycle es n =
    record { none = λ q m i k. n.none q m i ((textbook_corner (erase_rules body_depth rules) inner_depth es q.name).1 k) }

module _ (G : Shapes) where
  -- Where the Rust stops stands a symbol.
  leaf_symbol : (c : ℕ) (l : Leaf) → is_symbol G (erase_leaf c l) ≡ true → IsSymbol G l
  unfolding is_symbol erase_leaf is_mark
  leaf_symbol c epsilon t = absurd (false≢true t)
  leaf_symbol c (action a) t = absurd (false≢true t)
  leaf_symbol c (predicate p) t = absurd (false≢true t)
  leaf_symbol c (call k) t = unknown_name (missing (find G k.name) t)
    where
      missing : (o : Option Shape) → is_missing o ≡ true → o ≡ none
      missing none t = refl
      missing (some b) t = absurd (false≢true t)
  leaf_symbol c (token n) t = is_token
  leaf_symbol c terminal t = is_terminal
  leaf_symbol c end_of_input t = absurd (false≢true t)

  symbol_full : (c : ℕ) (l : Leaf) → IsSymbol G l → CanBeEmpty G (erase_leaf c l) → ⊥
  unfolding erase_leaf is_mark
  symbol_full c epsilon s o = elim s [ ]
  symbol_full c (action a) s o = elim s [ ]
  symbol_full c (predicate p) s o = elim s [ ]
  symbol_full c (token n) is_token o = false≢true ((symbol_empty _).0 o)
  symbol_full c terminal is_terminal o = false≢true ((symbol_empty _).0 o)
  symbol_full c (call k) (unknown_name e) o = let (b, f, _) = (call_empty k.name).0 o in none-ne-some b (sym e ∙ f)
  symbol_full c end_of_input s o = elim s [ ]

  block_symbol : (d : ℕ) (b : Block d) → is_symbol G (erase_block d b) ≡ true → ⊥
  unfolding is_symbol erase_block
  block_symbol zero b t = absurd b
  block_symbol (suc d) [] t = false≢true t
  block_symbol (suc d) (a ∷ as') t = false≢true t

  module _ (d : ℕ) where
    abbrev Empties : Items d → Type 0
    Empties = AllOf (λ e. CanBeEmpty G (erase_element (erase_block d) e))

    -- An element that can be empty is looked past, or is a symbol with quantifier 1 to 4.
    past_element : (e : Element (Block d)) → CanBeEmpty G (erase_element (erase_block d) e)
        → Skippable rust G (erase_element (erase_block d) e) ⊎ IsOptionalSymbol G e
    unfolding erase_element stops
    past_element (leaf h l) o =
        either (is_symbol G (erase_element (erase_block d) (leaf h l)))
        (λ t.
        let s = leaf_symbol h.carried l (sym (symbol_quantified G h.quantifier (erase_leaf h.carried l)) ∙ t) in
        inr (
          s,
          ⊎_elim (λ p. p) (λ p. absurd (symbol_full h.carried l s p))
              ((quantified_empty h.quantifier (erase_leaf h.carried l)).0 o),
        ))
        (λ f. inl (record { empty = o; goes_on = f }))
    past_element (block h b) o =
        either (is_symbol G (erase_element (erase_block d) (block h b)))
        (λ t. absurd (block_symbol d b (sym (symbol_quantified G h.quantifier (erase_block d b)) ∙ t)))
        (λ f. inl (record { empty = o; goes_on = f }))

    -- Elements that can be empty: all are looked past, or there is such a symbol among them.
    scan : (front : Items d) → Empties front → AllOf (λ e. Skippable rust G (erase_element (erase_block d) e)) front
        ⊎ AnyOf (IsOptionalSymbol G) front
    scan [] s = inl tt
    scan (e ∷ front) s = ⊎_elim (λ o. ⊎_map (λ r. (o, r)) inr (scan front s.1)) (λ p. inr (inl p)) (past_element e s.0)

    rust_behind : (front : Items d) (x : Element (Block d)) (rest : Items d) {n : ℕ}
        → AllOf (λ e. Skippable rust G (erase_element (erase_block d) e)) front
        → Corner rust G (erase_element (erase_block d) x) n → Corner rust G (shape_of d (front ++ (x ∷ rest))) n
    rust_behind [] x rest s k = c_first k
    rust_behind (e ∷ front) x rest s k = c_later s.0 (rust_behind front x rest s.1 k)

  pub one_of : (d : ℕ) {a : AlternativeOf (Block d)} {as' : Block (suc d)} {n : ℕ} → Memᴰ a as'
      → Corner rust G (shape_of d a.elements) n → Corner rust G (erase_block (suc d) as') n
  unfolding erase_block
  one_of d {n = n} (Memᴰ.head e) k = c_left (subst (λ a. Corner rust G (shape_of d a.elements) n) e k)
  one_of d (Memᴰ.tail m) k = c_right (one_of d m k)

  -- What SPECIFICATION 13.11 finds the Rust finds, or a symbol with quantifier 1 to 4 stands in front.
  pub found_or_past : {d : ℕ} {es : Items d} {n : ℕ} (k : LeftCorner G d es n) → Corner rust G (shape_of d es) n ⊎ PastSymbol k
  unfolding erase_element erase_leaf PastSymbol
  found_or_past {d} {es} {n} (called front rest h c w s f) =
      ⊎_map
      (λ o. subst (λ l. Corner rust G (shape_of d l) n) w
      (rust_behind d front (leaf h (call c)) rest o ((corner_quantified h.quantifier (call_of n)).1 (c_call f))))
      (λ y. y)
      (scan d front s)
  found_or_past {es = es} {n = n} (inside {d = d} front rest h b w s m k) =
      ⊎_elim
      (λ c.
      ⊎_map
      (λ o. subst (λ l. Corner rust G (shape_of (suc d) l) n) w
      (rust_behind (suc d) front (block h b) rest o ((corner_quantified h.quantifier (erase_block (suc d) b)).1 (one_of d m c))))
      inl
      (scan (suc d) front s))
      (λ p. inr (inr p))
      (found_or_past k)

-- What is left for the Rust's run.
pub only_past_symbols : (rules : List Rule) (cycle : List ℕ) (es : Elements) → NoCorner rust rules cycle es → OnlyPastSymbols rules cycle es
only_past_symbols rules cycle es n =
    record { past = λ q m i k. ⊎_elim (λ c. absurd (n.none q m i c)) (λ p. p) (found_or_past (erase_rules body_depth rules) k) }

shape_map : {P Q : Elements → Type 0} → ((es : Elements) → P es → Q es) → {rules : List Rule} {hub : ℕ} → JoinedShape P rules hub
    → JoinedShape Q rules hub
shape_map f j =
    record {
      rule = j.rule;
      is_left = j.is_left;
      is_hub = j.is_hub;
      every = λ a m. ⊎_map (λ c. c) (f a.elements) (j.every a m);
      one_continues = j.one_continues;
      one_without = let (a, m, w) = j.one_without in (a, m, f a.elements w);
    }

with_shape : (s : Sheet) (limits : Limits) (corners : Corners) {P Q : List Rule → List ℕ → Elements → Type 0}
    → ((rules : List Rule) (cycle : List ℕ) (es : Elements) → P rules cycle es → Q rules cycle es)
    → {ts : List Stage} → Demand3 s limits corners P ts → Demand3 s limits corners Q ts
with_shape s limits corners f x =
    record {
      same_strings = x.same_strings;
      same_between = x.same_between;
      same_readings = x.same_readings;
      readings_told = x.readings_told;
      readings_between = x.readings_between;
      told_between = x.told_between;
      closed = x.closed;
      closed_between = x.closed_between;
      joins = x.joins;
      shape = λ t m. shape_map (f t.after.node t.cycle) (x.shape t m);
      no_later_cycle = x.no_later_cycle;
      stands = x.stands;
    }

module _ (limits : Limits) (s : Sheet) (told : Told s.rules) (ts : List Stage) where
  -- Demand 3 whole, of the textbook's run.
  pub demand3_textbook_lem : eliminate_mutual_left_recursion limits textbook s ≡ ended ts → Demand3 s limits textbook NoLeftCorner ts
  demand3_textbook_lem run = with_shape s limits textbook no_left_corner (demand3 limits textbook s told ts run)

  -- Of the Rust's run, but for left corners behind a symbol with quantifier 1 to 4.
  pub demand3_rust_lem : eliminate_mutual_left_recursion limits rust s ≡ ended ts → Demand3 s limits rust OnlyPastSymbols ts
  demand3_rust_lem run = with_shape s limits rust only_past_symbols (demand3 limits rust s told ts run)

-- In each reading's own words.
pub demand3_own : (limits : Limits) (corners : Corners) (s : Sheet) → Told s.rules → (ts : List Stage)
    → eliminate_mutual_left_recursion limits corners s ≡ ended ts → Demand3 s limits corners (SecondSort corners) ts
demand3_own limits rust s told ts run = demand3_rust_lem limits s told ts run
demand3_own limits textbook s told ts run = demand3_textbook_lem limits s told ts run
