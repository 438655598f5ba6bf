-- Runs compared (SPECIFICATION 1.15 to 1.17, 18): the pass on a sheet with other names, and on two sheets alike but for
-- carried numbers or but for precedences. (On its own result: `OwnResult`, in Kept.) A sheet with other names, other carried numbers
-- and other precedences is `on_sheet` of the sheet.
use Rattle.std.specs.Prelude.{ℕ, zero, suc, ◌≡◌, List, true, take}
use Rattle.grammar.specs.Tree.{Sheet}
use Rattle.grammar.specs.Lists.{member}
use Rattle.grammar.specs.Words.{words, bytes}
use Rattle.grammar.specs.Encode.{encode}
use Rattle.grammar.specs.Parse.{got}
use Rattle.grammar.specs.Read.{is_name}
use Rattle.grammar.specs.Reading.{refused, sheet, is_trailer, rules_of, sheet_of, read}
use Rattle.grammar.specs.Corners.{Corners}
use Rattle.reference.specs.Substitute.{Limits}
use Rattle.reference.specs.Run.{Outcome, filled, outcome}
use Rattle.laws.specs.Demands.Table.{GoodLength}
use Rattle.laws.specs.Demands.Marks.{on_sheet, names_in}

-- The tree that stands in bytes that pass 1, 3 and 4; 5 and 6 are not asked (SPECIFICATION 4.1, 4.3, 4.4).
pub record TreeIn (bs : List ℕ) (t : Sheet) : Type 0 where
  pub good_length : GoodLength bs
  pub trailer : is_trailer (words bs) ≡ true
  pub next : ℕ
  pub records : rules_of (words bs) ≡ got t.rules next
  pub is_sheet : sheet_of (words bs) t.rules ≡ t

-- A number left as it is, and 0 in place of each: what becomes of carried numbers, of precedences, or of names.
abbrev pub same : ℕ → ℕ
same a = a

abbrev pub none : ℕ → ℕ
none a = 0

module _ (f r pr : ℕ → ℕ) where
  -- The bytes of the same sheet with other names, carried numbers and precedences. Bytes that hold no sheet stay.
  unfoldable pub on_bytes : List ℕ → List ℕ
  on_bytes bs = elim (read bs) [ refused n ↦ bs | sheet s ↦ bytes (encode (on_sheet f r pr s)) ]

  -- An outcome whose result has other names, carried numbers and precedences, and nothing else that is other. A refusal has no result.
  unfoldable pub on_outcome : Outcome → Outcome
  on_outcome o =
      elim o.number [
        | suc n ↦ o
        | zero ↦ record {
          number = o.number;
          plans = o.plans;
          steps = o.steps;
          result_length = o.result_length;
          trail_length = o.trail_length;
          result = filled (on_bytes (take o.result_length o.result)) o.result;
          trail = o.trail;
          work = o.work;
        }
      ]

-- A renaming of a sheet: one function for names of all sorts, one-to-one on the names that stand there, which gives names there.
pub record Renames (f : ℕ → ℕ) (t : Sheet) : Type 0 where
  pub apart : (a b : ℕ) → member a (names_in t) ≡ true → member b (names_in t) ≡ true → f a ≡ f b → a ≡ b
  pub are_names : (a : ℕ) → member a (names_in t) ≡ true → is_name (f a) ≡ true

module _ (limits : Limits) (c : Corners) (result trail work : List ℕ) where
  -- Renamed before the pass or after it: the same number, plans, steps and lengths, and the same bytes in every buffer.
  abbrev pub Renamed : (bs : List ℕ) → Sheet → (ℕ → ℕ) → Type 0
  Renamed bs t f =
      outcome limits c (bytes (encode (on_sheet f same same t))) result trail work
      ≡ on_outcome f same same (outcome limits c bs result trail work)

  -- The same number, plans, steps, lengths, trail and work area, and the same result once every carried number in it is 0.
  abbrev pub AlikeButCarried : (bs bs' : List ℕ) → Type 0
  AlikeButCarried bs bs' =
      on_outcome same none same (outcome limits c bs result trail work) ≡ on_outcome same none same (outcome limits c bs' result trail work)

  -- The same for precedences: no run looks at them.
  abbrev pub AlikeButPrecedences : (bs bs' : List ℕ) → Type 0
  AlikeButPrecedences bs bs' =
      on_outcome same same none (outcome limits c bs result trail work) ≡ on_outcome same same none (outcome limits c bs' result trail work)
