-- What is told of a sheet: the decision is that for the rules and the preserved ids that were read.
use Prim.Native.Nat.{ℕ, ◌+◌}
use mathlib.Core.Path.{◌≡◌, refl, sym, ap, ◌∙◌, subst}
use mathlib.Core.List.{List}
use mathlib.Core.Bool.{Bool}
use native.Mathlib.Omega.{arith}
use lib.ListN.{length, get_or, replicate, length-replicate}
use Rattle.grammar.specs.Words.{words}
use Rattle.grammar.specs.Tree.{Rule}
use Rattle.grammar.specs.Ids.{rule_ids}
use Rattle.grammar.specs.Corners.{Corners}
use Rattle.records.specs.Rules.{row}
use Rattle.sheet.specs.Answer.{read_lent, work_after, ReadAs}
use Rattle.sheet.specs.declared.answer.Reading.{Reading}
use Rattle.words.specs.declared.numbers.Refusal.{Refusal}
use Rattle.sheet.proofs.Laws.Sizes.{was_read}
use Rattle.analysis.proofs.Laws.Standing.{all_rules}
use Rattle.std.specs.Prelude.{Option, Some, None, Result, Ok, Err}
use Rattle.turns.specs.declared.turn.Unplanned.{Unplanned}
use Rattle.turns.specs.declared.turn.Unplanned.TheVariants.{Declined, Overfull}
use Rattle.plan.specs.declared.plan.Plan.{Plan}
use Rattle.plan.specs.declared.search.FoundPlan.{FoundPlan}
use Rattle.plans.specs.declared.nth.Nth.{Nth}
use Rattle.plans.specs.Nth.{ChoiceAs, NthAs, NthOf, choice_numbers, nth_numbers, nth_row, left_by}
use Rattle.plans.specs.Told.{Cleared, NthToldOf, NthTold, FirstToldOf, FirstTold}
use Rattle.plans.specs.First.{SearchAs, FirstAs, FirstOf, choice_in, search_numbers, search_cycle, search_row}
use Rattle.plan.specs.declared.search.Found.{Found}
use Rattle.reference.specs.Substitute.{standard}
use Rattle.hub.specs.Preserved.{bytes_between}
use Rattle.plans.proofs.Laws.Ground.{read_end, read_preserved}
use Rattle.facts.proofs.Laws.Told.{read_stands}

-- Equals in the place of equals.
moved : {ws : List ℕ} {e₁ e₂ : ℕ} {i₁ i₂ : List ℕ} {n₁ n₂ : ℕ} {bs : List ℕ} {c : Corners} {r₁ r₂ : List Rule} {p₁ p₂ : List ℕ} {nth : ℕ}
    {r : Nth} → e₁ ≡ e₂ → i₁ ≡ i₂ → n₁ ≡ n₂ → r₁ ≡ r₂ → p₁ ≡ p₂ → NthAs ws e₁ i₁ n₁ bs c r₁ p₁ nth r → NthAs ws e₂ i₂ n₂ bs c r₂ p₂ nth r
moved {ws} {e₁} {e₂} {i₁} {i₂} {n₁} {n₂} {bs} {c} {r₁} {r₂} {p₁} {p₂} {nth} {r} a b d e f x =
    subst (λ z. NthAs ws z i₂ n₂ bs c r₂ p₂ nth r) a
    (subst (λ z. NthAs ws e₁ z n₂ bs c r₂ p₂ nth r) b
    (subst (λ z. NthAs ws e₁ i₁ z bs c r₂ p₂ nth r) d
    (subst (λ z. NthAs ws e₁ i₁ n₁ bs c z p₂ nth r) e
    (subst (λ z. NthAs ws e₁ i₁ n₁ bs c r₁ z nth r) f x))))

found_moved : {ws : List ℕ} {e₁ e₂ : ℕ} {i₁ i₂ : List ℕ} {n₁ n₂ : ℕ} {bs : List ℕ} {c : Corners} {r₁ r₂ : List Rule} {p₁ p₂ : List ℕ}
    {r : Found} → e₁ ≡ e₂ → i₁ ≡ i₂ → n₁ ≡ n₂ → r₁ ≡ r₂ → p₁ ≡ p₂ → FirstAs standard ws e₁ i₁ n₁ bs c r₁ p₁ r
    → FirstAs standard ws e₂ i₂ n₂ bs c r₂ p₂ r
found_moved {ws} {e₁} {e₂} {i₁} {i₂} {n₁} {n₂} {bs} {c} {r₁} {r₂} {p₁} {p₂} {r} a b d e f x =
    subst (λ z. FirstAs standard ws z i₂ n₂ bs c r₂ p₂ r) a
    (subst (λ z. FirstAs standard ws e₁ z n₂ bs c r₂ p₂ r) b
    (subst (λ z. FirstAs standard ws e₁ i₁ z bs c r₂ p₂ r) d
    (subst (λ z. FirstAs standard ws e₁ i₁ n₁ bs c z p₂ r) e
    (subst (λ z. FirstAs standard ws e₁ i₁ n₁ bs c r₁ z r) f x))))

-- Where the work area is left so, there are zeros without a plan,
left_zeros : (list : List ℕ) {after : List ℕ} → after ≡ replicate (length list) 0 → after ≡ replicate (length after) 0
left_zeros list e = e ∙ ap (λ n. replicate n 0) (sym (ap length e ∙ length-replicate (length list) 0))

left_cleared : (list : List ℕ) (k : ℕ) (x : Option (Result Plan Unplanned)) {after numbers : List ℕ} → numbers ≡ choice_numbers k x
    → after ≡ left_by x list → Cleared after numbers
left_cleared list k None f e = record { is = λ z. left_zeros list e }
left_cleared list k (Some (Ok p)) f e = record { is = λ z. absurd (z (ap (λ l. get_or l 2 0) f)) }
left_cleared list k (Some (Err x)) f e = record { is = λ z. left_zeros list e }

-- and what is decided stays so.
module _ (ws : List ℕ) (end : ℕ) (ids : List ℕ) (n : ℕ) (list : List ℕ) {after : List ℕ} (c : Corners) (rs : List Rule) (ps : List ℕ) where
  choice_left : (nth : ℕ) (x : Option (Result Plan Unplanned)) → after ≡ left_by x list → ChoiceAs ws end ids n list c rs ps nth x
      → ChoiceAs ws end ids n after c rs ps nth x
  choice_left nth None e h = h
  choice_left nth (Some (Ok p)) e h = subst (λ b. ChoiceAs ws end ids n b c rs ps nth (Some (Ok p))) (sym e) h
  choice_left nth (Some (Err (Declined m))) e h = record { low = h.low; is = h.is }
  choice_left nth (Some (Err Overfull)) e h = record { low = h.low; is = h.is }

  nth_left : {nth : ℕ} {t : Nth} → after ≡ left_by t.choice list → NthAs ws end ids n list c rs ps nth t
      → NthAs ws end ids n after c rs ps nth t
  nth_left {nth} {t} e h = record { cycles = h.cycles; choice = choice_left nth t.choice e h.choice }

  search_left : (place : ℕ) (x : Result (Option FoundPlan) Refusal) → after ≡ left_by (choice_in x) list
      → SearchAs standard ws end ids n list c rs ps place x
      → SearchAs standard ws end ids n after c rs ps place x
  search_left place (Ok None) e h = record { all = h.all; is = h.is }
  search_left place (Ok (Some p)) e h = subst (λ b. SearchAs standard ws end ids n b c rs ps place (Ok (Some p))) (sym e) h
  search_left place (Err f) e h = record { low = h.low; over = h.over; is = h.is; refusal = h.refusal }

  first_left : {t : Found} → after ≡ left_by (choice_in t.answer) list → FirstAs standard ws end ids n list c rs ps t
      → FirstAs standard ws end ids n after c rs ps t
  first_left {t} e h = record { answer = search_left t.declined t.answer e h.answer; declines = h.declines; behind = h.behind }

module _ (bs work : List ℕ) {r : Reading} (a : ReadAs (read_lent bs work) (Ok r)) {to : ℕ} (e : to ≡ r.parts.preserved + r.parts.count) where
  pub nth_sheet : {reading : Corners} {nth : ℕ} {t : Nth} {list after numbers removable : List ℕ}
      → NthOf (words bs) r.parts.preserved (words (bytes_between bs r.parts.preserved to)) r.rules reading nth list t → numbers ≡ nth_numbers t → removable ≡ nth_row t
      → after ≡ left_by t.choice list
      → NthTold reading nth bs (read_lent bs work) (work_after bs work) after numbers removable
  unfolding read_stands
  nth_sheet {reading} {nth} {t} {list} {after} {numbers} {removable} d f g l =
      let w = was_read bs work a in
      let here : NthToldOf reading nth bs w.tree after numbers removable = record {
        answer = t;
        numbers_are = f;
        removable_is = g;
        cleared = left_cleared list t.cycles t.choice f l;
        is = nth_left _ _ _ _ list _ _ _ l
            (moved (read_end bs work a) (w.rows.rows.ids ∙ ap (λ rs. row (rule_ids rs)) w.trees)
            (all_rules w.rows ∙ ap length w.trees) w.trees (read_preserved bs work a e) (d.is (read_stands w)));
      } in
      record {
        refusal = λ k z. absurd (let y = w.is in let u : ◌≡◌ {A = ℕ} 0 1 = cc in omega arith);
        sheet = λ s z.
            let same : w.tree ≡ s = let y = w.is in cc in
            subst (λ x. NthToldOf reading nth bs x after numbers removable) same here;
      }

  pub first_sheet : {reading : Corners} {t : Found} {list after numbers cycle removable clauses : List ℕ}
      → FirstOf (words bs) r.parts.preserved (words (bytes_between bs r.parts.preserved to)) r.rules reading list t → numbers ≡ search_numbers t.declined t.answer
      → cycle ≡ search_cycle t.answer → removable ≡ search_row t.answer → clauses ≡ t.clauses → after ≡ left_by (choice_in t.answer) list
      → FirstTold reading bs (read_lent bs work) (work_after bs work) after numbers cycle removable clauses
  unfolding read_stands
  first_sheet {reading} {t} {list} {after} {numbers} {cycle} {removable} {clauses} d f x g y l =
      let w = was_read bs work a in
      let here : FirstToldOf reading bs w.tree after numbers cycle removable clauses = record {
        found = t;
        numbers_are = f;
        cycle_is = x;
        removable_is = g;
        clauses_are = y;
        cleared = left_cleared list t.declined (choice_in t.answer) f l;
        is = first_left _ _ _ _ list _ _ _ l
            (found_moved (read_end bs work a) (w.rows.rows.ids ∙ ap (λ rs. row (rule_ids rs)) w.trees)
            (all_rules w.rows ∙ ap length w.trees) w.trees (read_preserved bs work a e) (d.is (read_stands w)));
      } in
      record {
        refusal = λ k z. absurd (let y = w.is in let u : ◌≡◌ {A = ℕ} 0 1 = cc in omega arith);
        sheet = λ s z.
            let same : w.tree ≡ s = let y = w.is in cc in
            subst (λ x. FirstToldOf reading bs x after numbers cycle removable clauses) same here;
      }
