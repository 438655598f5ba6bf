-- A run that is over: its answer is the definition's.
use Prim.Native.Nat.{ℕ, ◌*◌}
use Rattle.std.specs.Prelude.{None, Ok, Err}
use mathlib.Core.Path.{◌≡◌, refl, sym, ◌∙◌, subst}
use mathlib.Core.List.{List}
use lib.ListN.{length}
use Rattle.grammar.specs.Tree.{Sheet}
use Rattle.grammar.specs.Lists.{each}
use Rattle.grammar.specs.Encode.{encode}
use Rattle.grammar.specs.Laws.Parse.{never}
use Rattle.grammar.specs.Corners.{Corners}
use Rattle.reference.specs.Substitute as R
use Rattle.reference.specs.Run.{Stage, ended, stopped, no_plan, too_large, find_plan, answer_run, sheet_after}
use Rattle.reference.specs.Run.{steps_of, entries_of, encode_entry}
use Rattle.laws.specs.Running.Midway.{midway_ended, midway_large}
use Rattle.run.specs.declared.state.State.{State}
use Rattle.run.specs.declared.state.Ended.{Ended}
use Rattle.run.specs.Ended.{Front, AnswerIs}
use Rattle.run.specs.Midst.{Midst}
use Rattle.words.specs.Refusal.{refusal_number}
use Rattle.words.specs.declared.numbers.Refusal.{Refusal}
use Rattle.words.specs.declared.numbers.Refusal.TheVariants.{PlanTooLarge}
use Rattle.run.specs.Turn.{ended_with, TurnedTo}
use Rattle.run.proofs.Laws.Known.{midst_ended}

-- A refusal.
pub stopped_answer : {result trail : List ℕ} {f : Refusal} {n : ℕ} (s : Sheet) (ss : List Stage) → refusal_number f ≡ n
    → AnswerIs result trail (Err f) (answer_run s (stopped ss n))
unfolding answer_run
stopped_answer s ss e =
    record {
      refused = λ k x. e ∙ cc;
      delivered = λ plans steps ws ts x. never cc;
    }

module _ {result trail : List ℕ} {r : Ended} (s : Sheet) (ss : List Stage) where
  -- No refusal.
  pub ended_answer : r.plans ≡ length ss → r.steps ≡ steps_of ss
      → Front result (encode (sheet_after s ss)) r.words
      → Front trail (each encode_entry (entries_of ss)) (4 * r.entries)
      → AnswerIs result trail (Ok r) (answer_run s (ended ss))
  unfolding answer_run
  ended_answer p t f g =
      record {
        refused = λ k x. never cc;
        delivered = λ plans steps ws ts x.
            let a : length ss ≡ plans = cc in
            let b : steps_of ss ≡ steps = cc in
            let c : encode (sheet_after s ss) ≡ ws = cc in
            let d : each encode_entry (entries_of ss) ≡ ts = cc in
            record {
              plans_are = p ∙ a;
              steps_are = t ∙ b;
              sheet = subst (λ l. Front result l r.words) c f;
              entries = subst (λ l. Front trail l (4 * r.entries)) d g;
            };
      }

module _ {limits : R.Limits} {reading : Corners} {s : Sheet} {result trail : List ℕ} {calls corners : List (List ℕ)} {st : State}
    (m : Midst limits reading s result trail calls corners st) where
  -- No cycle has a plan.
  pub turned_none : find_plan limits reading s.preserved m.now.rules ≡ no_plan
      → TurnedTo limits reading s result trail calls corners st (Ok None)
  turned_none f =
      record {
        short = midst_ended m;
        is =
            subst (λ r. AnswerIs result trail (Ok (ended_with st)) (answer_run s r)) (sym (midway_ended limits reading s m.midway f))
            (ended_answer s m.stages m.plans m.steps
            (record {
              stands = rw m.midway.is_now m.held.stands;
              room = m.held.room;
            })
            m.told);
      }

  -- A planned list is too large.
  pub turned_large : find_plan limits reading s.preserved m.now.rules ≡ too_large
      → TurnedTo limits reading s result trail calls corners st (Err PlanTooLarge)
  turned_large f =
      record {
        short = tt;
        is =
            subst (λ r. AnswerIs result trail (Err PlanTooLarge) (answer_run s r))
            (sym (midway_large limits reading s m.midway f)) (stopped_answer s m.stages refl);
      }
