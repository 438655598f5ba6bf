-- A step of a substitution does not look at names but for which are equal, nor at carried numbers.
use Rattle.std.specs.Prelude.{ℕ, suc, ◌≡◌, not, take, drop}
use Rattle.std.proofs.Math.Path.{refl, ap, ap₂, fun_ext}
use Rattle.std.proofs.Common.{sym, ◌∙◌}
use mathlib.Core.List.{List, [], ◌∷◌, ◌++◌, map, map-append, map-map}
use Rattle.std.proofs.Math.Option
use Rattle.std.proofs.Math.Option.{Option, none, some}
use Rattle.std.proofs.Math.Dec.{eqb}
use Rattle.grammar.specs.Tree.{OptionDecl, Element, leaf, block, AlternativeOf, Block, RuleOf}
use Rattle.reference.specs.Analysis.{Grammar, rule_with_id}
use Rattle.reference.specs.Substitute.{dangling_reference, label_collision, binding_collision, option_collision, Decided, decided, declined}
use Rattle.reference.specs.Substitute.{overfull, ◌and_then◌, require, found, decide_each, in_slot_of, PlannedCorner, optional, satellite}
use Rattle.reference.specs.Substitute.{blocked, settled, planned_corner, without, plain, with_plain, split_optional, union_options}
use Rattle.reference.specs.Substitute.{Elements, Planned, remaining_actions_reference, labels_collide, implicit_bindings_collide}
use Rattle.reference.specs.Substitute.{splice_alternative, splice_satellite, replacement, step}
use Rattle.laws.specs.Lists.Mapped.{take_on, drop_on, first_same}
use Rattle.laws.specs.Demands.Marks.{on_option, on_element, on_alternative, on_rule, on_block}
use Rattle.laws.specs.Sameness.Marked.{on_grammar, on_rules, corner_on}
use Rattle.laws.specs.Sameness.Decided.{on_decided, require_on, decide_each_on}
use Rattle.laws.specs.Sameness.Walks.{on, without_on, remaining_on, labels_on, bindings_on}
use Rattle.laws.specs.Sameness.Options.{union_on}

module _ (f r pr : ℕ → ℕ) (one : (a b : ℕ) → f a ≡ f b → a ≡ b) (d : ℕ) where
  -- A planned alternative, changed.
  abbrev pub on_planned : Planned d → Planned d
  on_planned p =
      record {
        carried = r p.carried;
        flag = p.flag;
        options = map (on_option f r pr) p.options;
        origin = p.origin;
        elements = map (on f r pr one d) p.elements;
        verbatim = p.verbatim;
      }

  -- What a step hands back, and that changed.
  abbrev pub Reply : Type 0
  Reply = Option (Decided (List (Planned d)))

  abbrev pub on_reply : Reply → Reply
  on_reply = Option.map (on_decided (map on_planned))

  -- The parts of a tree that a step looks at, changed.
  abbrev on_elements : Elements d → Elements d
  on_elements = map (on f r pr one d)

  abbrev on_options : List OptionDecl → List OptionDecl
  on_options = map (on_option f r pr)

  abbrev on_whole : RuleOf (Block (suc d)) → RuleOf (Block (suc d))
  on_whole = on_rule f r pr (on_block f r pr (suc d))

  -- An id has the rule that it had.
  pub rule_on : (rs : List (RuleOf (Block (suc d)))) (t : ℕ)
      → rule_with_id (on_rules f r pr one (suc d) rs) t ≡ Option.map (on_rule f r pr (on_block f r pr (suc d))) (rule_with_id rs t)
  unfolding rule_with_id
  rule_on rs t = first_same on_whole (λ q. eqb q.id t) (λ q. eqb q.id t) (λ q. refl) rs

  -- An alternative of a satellite in the place of a call of it.
  abbrev spliced_at : ℕ → Elements d → Elements d → Elements d
  spliced_at i es more = take i es ++ (more ++ drop (suc i) es)

  spliced_on : (i : ℕ) (es more : Elements d) → spliced_at i (on_elements es) (on_elements more) ≡ on_elements (spliced_at i es more)
  spliced_on i es more =
      ap₂ ◌++◌ (take_on (on f r pr one d) i es)
      (ap (λ l. on_elements more ++ l) (drop_on (on f r pr one d) (suc i) es) ∙ sym (map-append (on f r pr one d) more (drop (suc i) es)))
      ∙ sym (map-append (on f r pr one d) (take i es) (more ++ drop (suc i) es))

  module _ (p : Planned d) (i : ℕ) (s : AlternativeOf (Block d)) where
    abbrev around : Elements d
    around = without i p.elements

    -- The end of it, with the options of both.
    abbrev joined : Planned d → Elements d → Elements d → Option (List OptionDecl) → Decided (Planned d)
    joined q es more u = found option_collision u and_then λ os. decided (in_slot_of q os s.id (spliced_at i es more))

    joined_on : (u : Option (List OptionDecl))
        → joined (on_planned p) (on_elements p.elements) (on_elements s.elements) (Option.map on_options u)
        ≡ on_decided on_planned (joined p p.elements s.elements u)
    joined_on none = refl
    joined_on (some os) =
        ap (λ l. decided (in_slot_of (on_planned p) (on_options os) s.id l)) (spliced_on i p.elements s.elements)

    splice_on : splice_alternative d (on_planned p) i (on_alternative f r pr (on_block f r pr d) s)
        ≡ on_decided on_planned (splice_alternative d p i s)
    unfolding splice_alternative
    splice_on =
        let there = without_on f r pr one d i p.elements in
        let end = joined (on_planned p) (on_elements p.elements) (on_elements s.elements) in
        ap₂ (λ a b. require label_collision (not a) λ _. require binding_collision (not b) λ _.
        end (union_options (on_options p.options) (on_options s.options)))
        (ap (λ l. labels_collide d l (on_elements s.elements)) there ∙ labels_on f r pr one d around s.elements)
        (ap (λ l. implicit_bindings_collide d l (on_elements s.elements)) there ∙ bindings_on f r pr one d around s.elements)
        ∙ require_on on_planned label_collision (not (labels_collide d around s.elements)) _ _
        (require_on on_planned binding_collision (not (implicit_bindings_collide d around s.elements)) _ _
        (ap end (union_on f r pr one p.options s.options) ∙ joined_on (union_options p.options s.options)))

  satellite_on : (p : Planned d) (i : ℕ) (q : RuleOf (Block (suc d)))
      → splice_satellite d (on_planned p) i (on_whole q) ≡ on_decided (map on_planned) (splice_satellite d p i q)
  unfolding splice_satellite on_block
  satellite_on p i q =
      ap (λ b. require dangling_reference (not b) λ _.
      decide_each (splice_alternative d (on_planned p) i) (map (on_alternative f r pr (on_block f r pr d)) q.body))
      (remaining_on f r pr one d p.elements i q.name)
      ∙ require_on (map on_planned) dangling_reference (not (remaining_actions_reference d p.elements i q.name)) _ _
      (decide_each_on (on_alternative f r pr (on_block f r pr d)) on_planned (splice_alternative d p i)
      (splice_alternative d (on_planned p) i)
      (splice_on p i) q.body)

  -- An optional element, there and not there.
  plain_on : (e : Element (Block d)) → plain (on f r pr one d e) ≡ on f r pr one d (plain e)
  unfolding plain on_element
  plain_on (leaf h l) = refl
  plain_on (block h b) = refl

  plains_on : (es : Elements d) → map plain (on_elements es) ≡ on_elements (map plain es)
  plains_on es =
      map-map plain (on f r pr one d) es ∙ ap (λ k. map k es) (fun_ext plain_on) ∙ sym (map-map (on f r pr one d) plain es)

  with_plain_on : (i : ℕ) (es : Elements d) → with_plain i (on_elements es) ≡ on_elements (with_plain i es)
  with_plain_on i es =
      ap₂ ◌++◌ (take_on (on f r pr one d) i es)
      (ap₂ ◌++◌ (ap (map plain) (ap (take 1) (drop_on (on f r pr one d) i es) ∙ take_on (on f r pr one d) 1 (drop i es))
      ∙ plains_on (take 1 (drop i es))) (drop_on (on f r pr one d) (suc i) es)
      ∙ sym (map-append (on f r pr one d) (map plain (take 1 (drop i es))) (drop (suc i) es)))
      ∙ sym (map-append (on f r pr one d) (take i es) (map plain (take 1 (drop i es)) ++ drop (suc i) es))

  split_on : (p : Planned d) (i : ℕ) → split_optional (on_planned p) i ≡ map on_planned (split_optional p i)
  unfolding split_optional
  split_on p i =
      let slot = in_slot_of (on_planned p) (on_options p.options) p.origin in
      ap₂ (λ a b. slot a ∷ slot b ∷ []) (with_plain_on i p.elements) (without_on f r pr one d i p.elements)

  -- What takes the place of an alternative.
  replacement_on : (rs : List (RuleOf (Block (suc d)))) (p : Planned d) (c : PlannedCorner)
      → replacement d (on_rules f r pr one (suc d) rs) (on_planned p) c ≡ on_reply (replacement d rs p c)
  unfolding replacement
  replacement_on rs p (optional i t) = rw (rule_on rs t, replacement) (go (rule_with_id rs t))
    where
      -- The split, where nothing else refers to the element.
      split : Planned d → RuleOf (Block (suc d)) → Decided (List (Planned d))
      split p q = require dangling_reference (not (remaining_actions_reference d p.elements i q.name)) λ _. decided (split_optional p i)

      go : (x : Option (RuleOf (Block (suc d))))
          → (elim (Option.map on_whole x) as (λ y. Reply) [ none ↦ none | some q ↦ some (split (on_planned p) q) ])
          ≡ on_reply (elim x as (λ y. Reply) [ none ↦ none | some q ↦ some (split p q) ])
      go none = refl
      go (some q) =
          ap some
          (ap (λ b. require dangling_reference (not b) λ _. decided (split_optional (on_planned p) i))
          (remaining_on f r pr one d p.elements i q.name)
          ∙ require_on (map on_planned) dangling_reference (not (remaining_actions_reference d p.elements i q.name)) _ _
          (ap decided (split_on p i)))
  replacement_on rs p (satellite i t) = rw (rule_on rs t, replacement) (go (rule_with_id rs t))
    where
      go : (x : Option (RuleOf (Block (suc d))))
          → (elim (Option.map on_whole x) as (λ y. Reply) [ none ↦ none | some q ↦ some (splice_satellite d (on_planned p) i q) ])
          ≡ on_reply (elim x as (λ y. Reply) [ none ↦ none | some q ↦ some (splice_satellite d p i q) ])
      go none = refl
      go (some q) = ap some (satellite_on p i q)
  replacement_on rs p blocked = refl
  replacement_on rs p settled = refl

  -- One step: the first alternative that has a replacement, replaced in its slot.
  abbrev step_by : Planned d → List (Planned d) → Reply → Reply → Reply
  step_by p ps x y =
      elim x [
        | some a ↦ some (a and_then λ qs. decided (qs ++ ps))
        | none ↦ elim y [ none ↦ none | some a ↦ some (a and_then λ qs. decided (p ∷ qs)) ]
      ]

  by_on : (p : Planned d) (ps : List (Planned d)) (x y : Reply)
      → step_by (on_planned p) (map on_planned ps) (on_reply x) (on_reply y) ≡ on_reply (step_by p ps x y)
  by_on p ps none none = refl
  by_on p ps none (some (decided qs)) = refl
  by_on p ps none (some (declined c)) = refl
  by_on p ps none (some overfull) = refl
  by_on p ps (some (decided qs)) y = ap (λ l. some (decided l)) (sym (map-append on_planned qs ps))
  by_on p ps (some (declined c)) y = refl
  by_on p ps (some overfull) y = refl

  pub step_on : (rs : List (RuleOf (Block (suc d)))) (g : Grammar) (cycle : List ℕ) (hub : ℕ) (ps : List (Planned d))
      → step d (on_rules f r pr one (suc d) rs) (on_grammar f r pr one g) cycle hub (map on_planned ps)
      ≡ on_reply (step d rs g cycle hub ps)
  unfolding step
  step_on rs g cycle hub [] = refl
  step_on rs g cycle hub (p ∷ ps) =
      ap₂ (step_by (on_planned p) (map on_planned ps))
      (ap (replacement d (on_rules f r pr one (suc d) rs) (on_planned p)) (corner_on f r pr one g cycle hub (on_block f r pr d) p.elements)
      ∙ replacement_on rs p (planned_corner g cycle hub p.elements))
      (step_on rs g cycle hub ps)
      ∙ by_on p ps (replacement d rs p (planned_corner g cycle hub p.elements)) (step d rs g cycle hub ps)
