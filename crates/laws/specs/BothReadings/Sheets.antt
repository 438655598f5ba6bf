-- The two sheets of Demands, by computation: one where the Rust's reading of left corners and the textbook's part, and one
-- where a nullable hub stands in a later cycle.
use Rattle.std.specs.Prelude.{ℕ, ◌≡◌, refl, true}
use Rattle.std.proofs.Common.{sym, ◌∙◌, subst, ⊎_elim, true≢false, arith}
use mathlib.Core.List.Memᴰ
use mathlib.Core.List.{List, [], ◌∷◌, map, Memᴰ}
use Rattle.grammar.specs.Lists
use Rattle.grammar.specs.Valid.{valid}
use Rattle.grammar.specs.Numbers.{once, optional_greedy}
use Rattle.grammar.specs.Tree.{token, Rule, body_depth}
use Rattle.language.specs.Shape.{quantified, erase_leaf, erase_element, erase_block, find, erase_rules}
use Rattle.language.specs.Derive.{d_eps, d_seq, d_left, d_right, d_absent, RuleCanBeEmpty}
use Rattle.language.specs.Laws.Empty.{nothing}
use Rattle.grammar.specs.Corners.{Corners, rust, textbook}
use Rattle.language.specs.Cycles.{LeftCorner, called}
use Rattle.reference.specs.Analysis.{grammar_of, left_corner_cycles}
use Rattle.reference.specs.Substitute.{standard}
use Rattle.reference.specs.Run.{inner_depth, Stage, Run, ended, stopped, eliminate_mutual_left_recursion}
use Rattle.reference.specs.Computed.{computed}
use Rattle.reference.specs.Written.{element, call_to, alternative, rule}
use Rattle.laws.specs.Examples.{parting, behind_name, parted, returning, returned}
use Rattle.laws.specs.Demands.Shape.{Continues, NoLeftCorner, JoinedShape}
use Rattle.laws.specs.Demands.Run.{rules_of}
use Rattle.laws.specs.Demands.Examples.{NoMoreOfRust, NullableHubReturns}

abbrev pub stages_of : Run → List Stage
stages_of (ended ts) = ts
stages_of (stopped ss n) = ss

-- Both are sheets that the reader accepts.
sheets_valid : (valid parting ≡ true) × (valid returning ≡ true)
unfolding computed
sheets_valid = (refl, refl)

parted_corner : LeftCorner (erase_rules body_depth parted) inner_depth behind_name 1
unfolding erase_element erase_leaf quantified find
parted_corner = called (element 29 optional_greedy (token 5) ∷ []) (element 31 once (token 6) ∷ []) _ _ refl (nothing d_absent, tt) refl

no_shape : JoinedShape (NoLeftCorner parted (1 ∷ 2 ∷ [])) parted 1 → ⊥
unfolding Lists.member
no_shape j =
    ⊎_elim starts corner (j.every (alternative 15 behind_name)
    (subst (λ (r : Rule). Memᴰ (alternative 15 behind_name) r.body) (sym only) (Memᴰ.tail (Memᴰ.head refl))))
  where
    only : j.rule ≡ rule 1 1
        (alternative 14 (element 27 once (call_to 1) ∷ element 28 once (token 4) ∷ []) ∷ alternative 15 behind_name ∷ alternative 11
        (element 21 once (token 3) ∷ []) ∷ [])
    only = Memᴰ.eq_of_singleton j.is_left

    starts : Continues parted j.rule.name behind_name → ⊥
    starts c = let w = c.starts in let z : ◌≡◌ {A = ℕ} 0 1 = cc in omega arith

    corner : NoLeftCorner parted (1 ∷ 2 ∷ []) behind_name → ⊥
    corner c = c.none _ (Memᴰ.head refl) refl parted_corner

pub no_more_of_rust_lem : NoMoreOfRust
unfolding computed
no_more_of_rust_lem =
    record {
      is_valid = sheets_valid.0;
      stages = stages_of (eliminate_mutual_left_recursion standard rust parting);
      run = refl;
      answer = refl;
      corner = parted_corner;
      not_whole = λ d. no_shape (d.shape _ (Memᴰ.head refl));
      by_textbook = refl;
    }

returned_empty : RuleCanBeEmpty body_depth returned 1
unfolding erase_element erase_leaf quantified find erase_block Lists.all
returned_empty =
    record {
      word = [];
      marks = refl;
      derives = record { body = _; found = refl; tree = d_right (d_left (d_seq refl d_absent d_eps)) };
    }

abbrev cycles_of : Corners → List Rule → List (List ℕ)
cycles_of corners rules = left_corner_cycles corners (grammar_of body_depth rules) body_depth rules

-- What is to be computed, for each reading: the run, its answer, its hub and the cycle behind it.
module _ (corners : Corners) (ts : List Stage) where
  returned_by : eliminate_mutual_left_recursion standard corners returning ≡ ended ts → rules_of returning ts ≡ returned
      → map (λ t. t.plan.hub) ts ≡ 1 ∷ []
      → cycles_of corners returned ≡ (1 ∷ 2 ∷ []) ∷ []
      → (t : Stage) × Memᴰ t ts × Memᴰ (1 ∷ 2 ∷ []) (cycles_of corners t.after.node)
      × (Lists.member t.plan.hub (1 ∷ 2 ∷ []) ≡ true)
      → NullableHubReturns corners
  returned_by run answer hub cycle (t, m, k, i) =
      record {
        is_valid = sheets_valid.1;
        stages = ts;
        run = run;
        answer = answer;
        hub = hub;
        empty = returned_empty;
        cycle = cycle;
        needed = λ h. true≢false (sym i ∙ h t m (1 ∷ 2 ∷ []) k);
      }

pub nullable_hub_returns_lem : (corners : Corners) → NullableHubReturns corners
unfolding computed
nullable_hub_returns_lem rust =
    returned_by rust (stages_of (eliminate_mutual_left_recursion standard rust returning)) refl refl refl refl
    (_, Memᴰ.head refl, Memᴰ.head refl, refl)
nullable_hub_returns_lem textbook =
    returned_by textbook (stages_of (eliminate_mutual_left_recursion standard textbook returning)) refl refl refl refl
    (_, Memᴰ.head refl, Memᴰ.head refl, refl)
