-- The trail of a plan: the hub's alternatives one after the other, and the hub.
use Rattle.std.specs.Prelude.{ℕ, ◌≡◌, refl, List, [], ◌∷◌, ◌++◌, Bool, true, false}
use Rattle.std.proofs.Common.{sym, ap, ap₂, ◌∙◌, subst, append-nil, append_assoc}
use Rattle.std.proofs.Math.Path.{subst₂}
use Rattle.grammar.specs.Tree.{Alternative, Counters}
use Rattle.grammar.specs.Corners.{Corners}
use Rattle.grammar.specs.Numbers.{rule_sort, alternative_sort}
use Rattle.reference.specs.Substitute.{Limits, Planned}
use Rattle.reference.specs.Apply.{Fresh, fresh_each, past, boundary, unchanged, ◌followed_by◌, renumber_elements, renumber_block, placed}
use Rattle.reference.specs.Apply.{apply_new, apply_alternative, apply_plan}
use Rattle.reference.specs.Run.{inner_depth, Stage}
use Rattle.laws.specs.Demands.Nodes.{block_nodes}
use Rattle.laws.specs.Demands.Trail.{TrailOf, closing, untouched, anew, TrailTold}
use Rattle.laws.specs.Running.Leaves.{Told}
use Rattle.laws.specs.Running.Stages.{Happened}
use Rattle.laws.specs.Running.OneStage.{stage_body}
use Rattle.laws.specs.Provenance.Copies.{copy_elements_lem, copy_block}

abbrev Body : Type 0
Body = Fresh (List Alternative)

applied_trail : (hub : ℕ) (ps : List (Planned inner_depth)) (c : Counters)
    → TrailOf hub ps (fresh_each (apply_alternative inner_depth) ps c).node
    ((fresh_each (apply_alternative inner_depth) ps c).entries ++ (boundary rule_sort hub hub ∷ []))
unfolding fresh_each apply_alternative
applied_trail hub [] c = closing
applied_trail hub (p ∷ ps) c = go p.verbatim refl (applied_trail hub ps)
  where
    one : Bool → Fresh Alternative
    one b = elim b [ true ↦ unchanged (placed inner_depth p.origin p.elements p) c | false ↦ apply_new inner_depth p c ]

    all : Bool → Body
    all b = one b followed_by λ a c₁. fresh_each (apply_alternative inner_depth) ps c₁ followed_by λ as' c₂. unchanged (a ∷ as') c₂

    go : (b : Bool) → p.verbatim ≡ b
        → ((c : Counters) → TrailOf hub ps (fresh_each (apply_alternative inner_depth) ps c).node
        ((fresh_each (apply_alternative inner_depth) ps c).entries ++ (boundary rule_sort hub hub ∷ [])))
        → TrailOf hub (p ∷ ps) (all b).node ((all b).entries ++ (boundary rule_sort hub hub ∷ []))
    go true v ih =
        let rest = fresh_each (apply_alternative inner_depth) ps c in
        untouched v (subst (λ es. TrailOf hub ps rest.node (es ++ (boundary rule_sort hub hub ∷ []))) (sym (append-nil rest.entries))
        (ih c))
    go false v ih =
        let copy = renumber_elements (renumber_block inner_depth) p.elements (past alternative_sort c) in
        let rest = fresh_each (apply_alternative inner_depth) ps copy.counters in
        let k =
        copy_elements_lem (renumber_block inner_depth) (λ v. block_nodes v inner_depth) (copy_block inner_depth) p.elements
        (past alternative_sort c) in
        subst (λ es. TrailOf hub (p ∷ ps) (all false).node (boundary alternative_sort c.alternative p.origin ∷ es))
        (sym (ap₂ (λ l m. (l ++ m) ++ (boundary rule_sort hub hub ∷ [])) (append-nil copy.entries) (append-nil rest.entries)
        ∙ append_assoc copy.entries rest.entries (boundary rule_sort hub hub ∷ [])))
        (anew c.alternative copy.node v (record { reasons = k.reasons; ids = k.ids; owners = k.owners }) (ih copy.counters))

-- Of a stage of the run.
module _ (limits : Limits) (corners : Corners) (preserved : List ℕ) where
  pub stage_trail : {t : Stage} → Told t.before → Happened limits corners preserved t → TrailTold t
  unfolding apply_plan
  stage_trail {t} k h =
      record {
        is = λ q m e.
            subst₂ (TrailOf t.plan.hub t.plan.alternatives) (sym (stage_body limits corners preserved k h q m e))
            (ap (λ f. f.entries) (sym h.left))
            (applied_trail t.plan.hub t.plan.alternatives h.counters);
      }
