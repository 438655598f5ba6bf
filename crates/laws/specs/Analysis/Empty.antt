-- Empty derivation: what the definition finds nullable is what derives a string of end marks alone.
use Rattle.std.specs.Prelude.{ℕ, ◌≤◌, ◌≡◌, ◌↔◌, Bool, length}
use Rattle.std.proofs.Math.Path.{sym, ap, subst}
use Rattle.std.proofs.Common.{◌∙◌}
use mathlib.Core.List.Memᴰ
use mathlib.Core.List.Sublistᴰ
use mathlib.Core.List.{List, [], map, Memᴰ, Sublistᴰ}
use Rattle.std.proofs.Math.Option.{Option, none, some}
use Rattle.std.proofs.Math.Bool.{true}
use Rattle.std.proofs.lemmas.Bool.{false≢true}
use native.Mathlib.Omega.{arith}
use Rattle.std.proofs.Math.ListN.{length-map}
use Rattle.grammar.specs.Laws.Lists.{in_member, member_in, in_map}
use Rattle.grammar.specs.Tree.{Element, Block, RuleOf}
use Rattle.grammar.specs.Lists.{member, distinct, all, keep}
use Rattle.language.specs.Shape.{Shape, call_of, find, erase_element, erase_elements, erase_block, erase_rules}
use Rattle.language.specs.Derive.{CanBeEmpty, RuleCanBeEmpty}
use Rattle.language.specs.Laws.Empty.{call_empty, empty_if, empty_if_sound, empty_if_exact}
use Rattle.language.specs.Laws.Rules.{rule_found, found_rule, rule_can_be_empty}
use Rattle.reference.specs.Analysis.{Grammar, names_of, target, element_nullable, block_is_nullable, nullable_round, nullable_rules}
use Rattle.reference.specs.Analysis.{grammar_of}
use Rattle.graph.specs.Members.{in_keep, keep_in, one_with, keep_part, keep_is_part, part_in, part_map}
use Rattle.graph.specs.Fixpoint.{part_length, rounds_keep, rounds_grow}
use Rattle.laws.specs.Analysis.Names.{Looked, looked, by_body}
use Rattle.laws.specs.Analysis.Nullable.{is_null, named, element_test, elements_test, block_test, empty_if_more}

module _ (d : ℕ) (rs : List (RuleOf (Block d))) where
  -- The grammar as a round sees it.
  abbrev given : List ℕ → Grammar
  given xs = record { names = names_of rs; nullable = xs }

  in_round : (xs : List ℕ) {i : ℕ} → Memᴰ i (nullable_round d rs xs)
      → (r : RuleOf (Block d)) × Memᴰ r rs × (r.id ≡ i) × (block_is_nullable (given xs) d r.body ≡ true)
  unfolding nullable_round
  in_round xs m =
      let (r, k, e) = Memᴰ.of_map (λ r. r.id) (keep (λ r. block_is_nullable (given xs) d r.body) rs) m in
      let (n, t) = in_keep (λ r. block_is_nullable (given xs) d r.body) rs k in
      (r, n, e, t)

  round_in : (xs : List ℕ) {r : RuleOf (Block d)} → Memᴰ r rs → block_is_nullable (given xs) d r.body ≡ true
      → Memᴰ r.id (nullable_round d rs xs)
  unfolding nullable_round
  round_in xs m t = in_map (λ r. r.id) (keep_in (λ r. block_is_nullable (given xs) d r.body) m t)

  null_more : (xs ys : List ℕ) → ((i : ℕ) → Memᴰ i xs → Memᴰ i ys) → (o : Option ℕ) → is_null (given xs) o ≡ true
      → is_null (given ys) o ≡ true
  null_more xs ys h none t = t
  null_more xs ys h (some i) t = in_member (h i (member_in xs t))

  named_more : (xs ys : List ℕ) → ((i : ℕ) → Memᴰ i xs → Memᴰ i ys) → (n : ℕ) → named (given xs) n ≡ true
      → named (given ys) n ≡ true
  unfolding named target
  named_more xs ys h n t = null_more xs ys h (target (given xs) n) t

  block_more : (xs ys : List ℕ) → ((i : ℕ) → Memᴰ i xs → Memᴰ i ys) → (b : Block d) → block_is_nullable (given xs) d b ≡ true
      → block_is_nullable (given ys) d b ≡ true
  block_more xs ys h b t =
      sym (block_test (given ys) d b)
      ∙ empty_if_more (named (given xs)) (named (given ys)) (named_more xs ys h) (erase_block d b) (block_test (given xs) d b ∙ t)

  grows : (xs : List ℕ) → Sublistᴰ xs (nullable_round d rs xs)
      → Sublistᴰ (nullable_round d rs xs) (nullable_round d rs (nullable_round d rs xs))
  unfolding nullable_round
  grows xs s =
      part_map (λ r. r.id) (keep_part _ _ rs λ r m t. block_more xs (nullable_round d rs xs) (λ i. part_in s) r.body t)

  bounded : (xs : List ℕ) → length (nullable_round d rs xs) ≤ length rs
  unfolding nullable_round
  bounded xs =
      let h = part_length (part_map (λ r. r.id) (keep_is_part (λ r. block_is_nullable (given xs) d r.body) rs)) in
      let e = length-map rs (λ r. r.id) in
      omega arith

  -- The rounds are enough: one more would add nothing.
  pub nullable_fixed : nullable_round d rs (nullable_rules d rs) ≡ nullable_rules d rs
  unfolding nullable_rules
  nullable_fixed = rounds_grow (nullable_round d rs) (length rs) bounded grows (length rs) [] (Sublistᴰ.nil-sublist _) (omega arith)

  module _ (ids : distinct (map (λ r. r.id) rs) ≡ true) (names : distinct (map (λ r. r.name) rs) ≡ true) where
    -- What a round finds can be empty.
    abbrev Sound : List ℕ → Type 0
    Sound xs = (r : RuleOf (Block d)) → Memᴰ r rs → Memᴰ r.id xs → CanBeEmpty (erase_rules d rs) (call_of r.name)

    null_sound : (xs : List ℕ) → Sound xs → {n : ℕ} {o : Option Shape} {t : Option ℕ} → Looked d rs n o t → is_null (given xs) t ≡ true
        → CanBeEmpty (erase_rules d rs) (call_of n)
    null_sound xs s (Looked.known {r = r} m e) t = subst (λ k. CanBeEmpty (erase_rules d rs) (call_of k)) e (s r m (member_in xs t))
    null_sound xs s Looked.missing t = absurd (false≢true t)

    named_sound : (xs : List ℕ) → Sound xs → (n : ℕ) → named (given xs) n ≡ true → CanBeEmpty (erase_rules d rs) (call_of n)
    unfolding named
    named_sound xs s n t = null_sound xs s (looked d rs xs n) t

    sound_round : (xs : List ℕ) → Sound xs → Sound (nullable_round d rs xs)
    sound_round xs s r m i =
        let (q, k, e, t) = in_round xs i in
        let same = one_with (λ r. r.id) rs ids k m e in
        let u = subst (λ x. block_is_nullable (given xs) d x.body ≡ true) same t in
        (call_empty r.name).1 (
          erase_block d r.body,
          rule_found d (λ r. r.name) rs names m,
          empty_if_sound (named (given xs)) (named_sound xs s) (erase_block d r.body) (block_test (given xs) d r.body ∙ u),
        )

    nullable_sound : Sound (nullable_rules d rs)
    unfolding nullable_rules
    nullable_sound = rounds_keep (nullable_round d rs) Sound sound_round (length rs) [] (λ r m i. absurd (Memᴰ.not-nil i))

    -- The fixpoint names every rule whose body its own test finds.
    closed : (n : ℕ) (b : Shape) → find (erase_rules d rs) n ≡ some b → empty_if (named (grammar_of d rs)) b ≡ true
        → named (grammar_of d rs) n ≡ true
    unfolding named grammar_of
    closed n b f t =
        let (i, u, o) = by_body (looked d rs (nullable_rules d rs) n) f in
        let v : block_is_nullable (given (nullable_rules d rs)) d o.rule.body ≡ true =
        sym (block_test (given (nullable_rules d rs)) d o.rule.body) ∙ ap (empty_if (named (given (nullable_rules d rs)))) o.body ∙ t in
        let w = subst (Memᴰ o.rule.id) nullable_fixed (round_in (nullable_rules d rs) o.there v) in
        rw u (in_member (subst (λ x. Memᴰ x (nullable_rules d rs)) o.id w))

    -- The test of shapes, with the names found, is exact.
    pub empty_exact : (s : Shape) → (empty_if (named (grammar_of d rs)) s ≡ true) ↔ CanBeEmpty (erase_rules d rs) s
    unfolding grammar_of
    empty_exact = empty_if_exact (named (grammar_of d rs)) (named_sound (nullable_rules d rs) nullable_sound) closed

    rewritten : {a b : Bool} {P : Type 0} → a ≡ b → (a ≡ true) ↔ P → (b ≡ true) ↔ P
    rewritten e p = (λ t. p.0 (e ∙ t), λ x. sym e ∙ p.1 x)

    -- Of a block nested at any depth, or a body.
    pub block_empty : (k : ℕ) (b : Block k)
        → (block_is_nullable (grammar_of d rs) k b ≡ true) ↔ CanBeEmpty (erase_rules d rs) (erase_block k b)
    block_empty k b = rewritten (block_test (grammar_of d rs) k b) (empty_exact (erase_block k b))

    pub element_empty : (k : ℕ) (e : Element (Block k))
        → (element_nullable (grammar_of d rs) (block_is_nullable (grammar_of d rs) k) e ≡ true)
        ↔ CanBeEmpty (erase_rules d rs) (erase_element (erase_block k) e)
    element_empty k e =
        rewritten (element_test (grammar_of d rs) (erase_block k) (block_is_nullable (grammar_of d rs) k)
        (block_test (grammar_of d rs) k) e)
        (empty_exact (erase_element (erase_block k) e))

    pub elements_empty : (k : ℕ) (es : List (Element (Block k)))
        → (all (element_nullable (grammar_of d rs) (block_is_nullable (grammar_of d rs) k)) es ≡ true)
        ↔ CanBeEmpty (erase_rules d rs) (erase_elements (erase_block k) es)
    elements_empty k es = rewritten (elements_test (grammar_of d rs) k es) (empty_exact (erase_elements (erase_block k) es))

    -- Of a rule, known by its id.
    pub rule_empty : (i : ℕ) → (member i (nullable_rules d rs) ≡ true) ↔ RuleCanBeEmpty d rs i
    unfolding grammar_of
    rule_empty i = (found, finds)
      where
        found : member i (nullable_rules d rs) ≡ true → RuleCanBeEmpty d rs i
        found t =
            let m = subst (Memᴰ i) (sym nullable_fixed) (member_in (nullable_rules d rs) t) in
            let (r, k, e, u) = in_round (nullable_rules d rs) m in
            subst (RuleCanBeEmpty d rs) e
            ((rule_can_be_empty d rs ids names k).1
            (nullable_sound r k (subst (λ x. Memᴰ x (nullable_rules d rs)) (sym e) (member_in (nullable_rules d rs) t))))

        finds : RuleCanBeEmpty d rs i → member i (nullable_rules d rs) ≡ true
        finds x =
            let (r, m, e, b) = found_rule d (λ r. r.id) rs i x.derives.found in
            let v = (block_empty d r.body).1 (subst (CanBeEmpty (erase_rules d rs)) (sym b) (record {
              word = x.word;
              marks = x.marks;
              tree = x.derives.tree;
            })) in
            in_member (subst (Memᴰ i) nullable_fixed
            (subst (λ y. Memᴰ y (nullable_round d rs (nullable_rules d rs))) e (round_in (nullable_rules d rs) m v)))
