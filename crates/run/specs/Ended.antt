-- What a run hands back, against the definition's answer (SPECIFICATION 3.3).
use Rattle.std.specs.Prelude.{ℕ, ◌*◌, ◌≤◌, ◌≡◌, List, length, Result, IsOkAnd, IsErrAnd}
use Rattle.grammar.specs.Words.{words}
use Rattle.grammar.specs.Stands.{Stands}
use Rattle.grammar.specs.Numbers.{most_words}
use Rattle.reference.specs.Numbers.{entry_words, most_entries}
use Rattle.reference.specs.Run.{Answer, refusal, answer}
use Rattle.words.specs.Refusal.{refusal_number}
use Rattle.words.specs.declared.numbers.Refusal.{Refusal}
use Rattle.run.specs.declared.state.Ended.{Ended}

-- Words that stand in a buffer from its first on, so many.
pub record Front (bs ws : List ℕ) (n : ℕ) : Type 0 where
  pub stands : Stands (words bs) n ws 0 n
  pub room : 4 * n ≤ length bs

-- Sheet and trail are no longer than they may be.
pub record Short (r : Ended) : Type 0 where
  pub words : r.words ≤ most_words
  pub entries : r.entries ≤ most_entries

module _ (result trail : List ℕ) where
  -- Plans, steps, the new sheet in the one buffer, and the trail in the other.
  pub record Delivered (r : Ended) (plans steps : ℕ) (ws ts : List ℕ) : Type 0 where
    pub plans_are : r.plans ≡ plans
    pub steps_are : r.steps ≡ steps
    pub sheet : Front result ws r.words
    pub entries : Front trail ts (entry_words * r.entries)

  -- For each answer what was handed back.
  pub record AnswerIs (r : Result Ended Refusal) (a : Answer) : Type 0 where
    pub refused : (n : ℕ) → a ≡ refusal n → IsErrAnd r (λ e. refusal_number e ≡ n)
    pub delivered : (plans steps : ℕ) (ws ts : List ℕ) → a ≡ answer plans steps ws ts
        → IsOkAnd r (λ d. Delivered d plans steps ws ts)
