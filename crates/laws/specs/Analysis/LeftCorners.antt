-- Left corners: what the definition lists are the left corners by the inductive definition, in both readings.
use Rattle.std.specs.Prelude.{ℕ, ◌≡◌, ◌↔◌, true}
use Rattle.std.proofs.Common.{sym, ap}
use Rattle.std.proofs.Math.Path.{subst}
use mathlib.Core.List.Memᴰ
use mathlib.Core.List.{List, map, Memᴰ}
use Rattle.std.proofs.Math.Option.{Option, none, some}
use Rattle.grammar.specs.Laws.Lists.{in_member, member_in}
use Rattle.grammar.specs.Tree.{Element, Block, RuleOf}
use Rattle.grammar.specs.Lists.{each, member, distinct}
use Rattle.language.specs.Shape.{Shape, find, erase_elements, erase_block, erase_rules}
use Rattle.grammar.specs.Corners.{Corners}
use Rattle.language.specs.LeftCorners.{is_missing, Corner}
use Rattle.language.specs.Laws.Empty.{empty_if}
use Rattle.language.specs.Laws.Corner.{corners_of, corners_exact}
use Rattle.language.specs.Laws.Rules.{rule_found}
use Rattle.reference.specs.Analysis.{target, nullable_rules, grammar_of, left_corners, block_corners}
use Rattle.language.specs.Cycles.{CornerRule}
use Rattle.graph.specs.Members.{in_each, each_in}
use Rattle.laws.specs.Analysis.Names.{is_unknown, looked, looked_alike, by_id, by_name}
use Rattle.laws.specs.Analysis.Nullable.{named}
use Rattle.laws.specs.Analysis.Empty.{empty_exact}
use Rattle.laws.specs.Analysis.Corners.{to_id, elements_list, block_list}

in_to_id : {i : ℕ} (o : Option ℕ) → Memᴰ i (to_id o) → o ≡ some i
in_to_id none m = absurd (Memᴰ.not-nil m)
in_to_id (some t) m = ap some (sym (Memᴰ.eq_of_singleton m))

module _ (c : Corners) (d : ℕ) (rs : List (RuleOf (Block d))) (ids : distinct (map (λ r. r.id) rs) ≡ true)
    (names : distinct (map (λ r. r.name) rs) ≡ true) where
  known : (n : ℕ) → is_missing (find (erase_rules d rs) n) ≡ is_unknown (target (grammar_of d rs) n)
  unfolding grammar_of
  known n = looked_alike (looked d rs (nullable_rules d rs) n)

  listed : (s : Shape) {i : ℕ} → Memᴰ i
      (each (λ n. to_id (target (grammar_of d rs) n)) (corners_of c (erase_rules d rs) (empty_if (named (grammar_of d rs))) s))
      → CornerRule c d rs s i
  unfolding grammar_of
  listed s {i} m =
      let (n, k, o) =
      each_in (λ n. to_id (target (grammar_of d rs) n)) (corners_of c (erase_rules d rs) (empty_if (named (grammar_of d rs))) s) m in
      let (b, f, r) = by_id (looked d rs (nullable_rules d rs) n) (in_to_id (target (grammar_of d rs) n) o) in
      record {
        rule = r.rule;
        there = r.there;
        id = r.id;
        corner =
            subst (Corner c (erase_rules d rs) s) (sym r.name)
            ((corners_exact c (erase_rules d rs) (empty_if (named (grammar_of d rs))) (empty_exact d rs ids names) s n).0 k);
      }

  lists : (s : Shape) {i : ℕ} → CornerRule c d rs s i
      → Memᴰ i (each (λ n. to_id (target (grammar_of d rs) n)) (corners_of c (erase_rules d rs) (empty_if (named (grammar_of d rs))) s))
  unfolding grammar_of
  lists s {i} r =
      let n = r.rule.name in
      let k = (corners_exact c (erase_rules d rs) (empty_if (named (grammar_of d rs))) (empty_exact d rs ids names) s n).1 r.corner in
      let t =
      (by_name names r.there (looked d rs (nullable_rules d rs) n)
      (ap is_missing (rule_found d (λ r. r.name) rs names r.there))).1 in
      let o : Memᴰ i (to_id (target (grammar_of d rs) n)) = rw t (Memᴰ.head (sym r.id)) in
      in_each (λ n. to_id (target (grammar_of d rs) n)) k o

  -- Of the elements of an alternative, nested at any depth.
  pub left_corners_lem : (k : ℕ) (es : List (Element (Block k))) (i : ℕ)
      → (member i (left_corners c (grammar_of d rs) k es) ≡ true) ↔ CornerRule c d rs (erase_elements (erase_block k) es) i
  unfolding left_corners
  left_corners_lem k es i =
      let e =
      elements_list c (grammar_of d rs) (erase_rules d rs) known k (block_list c (grammar_of d rs) (erase_rules d rs) known k) es in (
        λ t. listed (erase_elements (erase_block k) es) (subst (Memᴰ i) (sym e) (member_in _ t)),
        λ r. in_member
            (subst (Memᴰ i) e (lists (erase_elements (erase_block k) es) r)),
      )

  -- Of the alternatives of a block, or of a rule.
  pub block_corners_lem : (k : ℕ) (b : Block k) (i : ℕ)
      → (member i (block_corners c (grammar_of d rs) k b) ≡ true) ↔ CornerRule c d rs (erase_block k b) i
  block_corners_lem k b i =
      let e = block_list c (grammar_of d rs) (erase_rules d rs) known k b in (
        λ t. listed (erase_block k b) (subst (Memᴰ i) (sym e) (member_in _ t)),
        λ r. in_member
            (subst (Memᴰ i) e (lists (erase_block k b) r)),
      )
