-- The cases of Demands.Met: the sheet `returning` of Examples in both readings, a unit of a lexer without rules, and no bytes.
use Rattle.std.specs.Prelude.{ℕ, zero, suc, ◌+◌, ◌≤◌, ◌≡◌, refl, true, false, ◌||◌, length, replicate, eqb}
use Rattle.std.proofs.Common.{sym, ap, ap₂, ◌∙◌, subst, true≢false, arith, eqb-true}
use mathlib.Core.List.Memᴰ
use mathlib.Core.List.{List, [], ◌∷◌, append-nil, Memᴰ}
use Rattle.std.proofs.Math.Option.{some}
use Rattle.std.proofs.lemmas.List.{length-replicate}
use Rattle.grammar.specs.Form.{newest}
use Rattle.grammar.specs.Lists.{AllOf, each, member}
use Rattle.grammar.specs.Numbers.{lexer, parser, once, result_bytes, trail_bytes, work_bytes}
use Rattle.grammar.specs.Tree.{unlabelled, Rule, body_depth, Sheet}
use Rattle.grammar.specs.Words.{bytes}
use Rattle.grammar.specs.Encode.{encode}
use Rattle.grammar.specs.Valid.{valid, fits}
use Rattle.grammar.specs.Reading.{refused, sheet, is_length, read}
use Rattle.grammar.specs.Read.{is_name}
use Rattle.grammar.specs.Laws.Parse.{either}
use Rattle.language.specs.Shape.{OnBlock}
use Rattle.grammar.specs.Corners.{Corners, rust, textbook}
use Rattle.grammar.specs.Laws.Words.{AreBytes}
use Rattle.grammar.specs.Laws.Codec.{reads_back_lem}
use Rattle.reference.specs.Walks.{is_end}
use Rattle.reference.specs.Substitute.{standard}
use Rattle.reference.specs.Analysis.{grammar_of, target}
use Rattle.reference.specs.Run.{Stage, eliminate_mutual_left_recursion, sheet_after, steps_of, encode_entry, entries_of}
use Rattle.reference.specs.Run.{answer, refusal, answer_run, answer_reading, answer_to, Outcome, are_lent, delivered, outcome}
use Rattle.reference.specs.Computed.{computed}
use Rattle.reference.specs.Written.{counted}
use Rattle.laws.specs.Examples.{returning, sum_of_before}
use Rattle.laws.specs.Demands.End.{NotEnd, NoEnd}
use Rattle.laws.specs.Demands.Shape.{NoOptionalSymbol}
use Rattle.laws.specs.Demands.Run.{rules_of}
use Rattle.laws.specs.Demands.Table.{Lent}
use Rattle.laws.specs.Demands.Marks.{element_names, names_of_leaf, block_names, names_in}
use Rattle.laws.specs.Demands.Sameness.{Renames}
use Rattle.laws.specs.Demands.Theorems.{Ends}
use Rattle.laws.specs.Demands.Met.{Met}
use Rattle.laws.specs.BothReadings.Sheets.{stages_of, nullable_hub_returns_lem}
use Rattle.laws.specs.Proved.Table.{lent_are}
use Rattle.laws.specs.Proved.Others.{returning_bytes, tree_returning, carried_five, tree_five, same_but_carried, raised, tree_raised}
use Rattle.laws.specs.Proved.Others.{same_but_precedences}
use Rattle.laws.specs.Proved.Conversion.{sum_number}
use Rattle.laws.specs.Proved.Kept.{every_call_lem}
use Rattle.laws.specs.Sameness.Again.{bytes_are}

abbrev stages_by : Corners → List Stage
stages_by c = stages_of (eliminate_mutual_left_recursion standard c returning)

valid_returning : valid returning ≡ true
valid_returning = (nullable_hub_returns_lem rust).is_valid

fits_returning : fits returning ≡ true
unfolding computed
fits_returning = refl

ends_rust : Ends standard rust returning (stages_by rust)
unfolding computed
ends_rust = (valid_returning, refl)

ends_textbook : Ends standard textbook returning (stages_by textbook)
unfolding computed
ends_textbook = (valid_returning, refl)

one_rust : (t : Stage) × (t ∷ [] ≡ stages_by rust)
unfolding computed
one_rust = (_, refl)

one_textbook : (t : Stage) × (t ∷ [] ≡ stages_by textbook)
unfolding computed
one_textbook = (_, refl)

joined : (t : Stage) × Memᴰ t (stages_by rust) × (q : Rule) × Memᴰ q (rules_of returning (stages_by rust)) × (q.id ≡ t.plan.hub)
unfolding computed
joined = (_, Memᴰ.head refl, _, Memᴰ.head refl, refl)

reads_returning : read returning_bytes ≡ sheet returning
reads_returning = reads_back_lem newest returning valid_returning fits_returning

-- No end of input stands in its rules, and no other sheet stands in its bytes.
ends_nowhere : AllOf (λ r. OnBlock NotEnd body_depth r.body) returning.rules
unfolding OnBlock is_end
ends_nowhere = (((refl, tt), ((refl, tt), tt)), (((refl, (refl, tt)), tt), tt))

of_each : {A : Type 0} (P : A → Type 0) {a : A} {xs : List A} → Memᴰ a xs → AllOf P xs → P a
of_each P (Memᴰ.head e) p = subst P (sym e) p.0
of_each P (Memᴰ.tail m) p = of_each P m p.1

no_end_returning : NoEnd body_depth returning.rules
no_end_returning = record { everywhere = λ r m. of_each (λ r. OnBlock NotEnd body_depth r.body) m ends_nowhere }

no_end_read : (s : Sheet) → read returning_bytes ≡ sheet s → NoEnd body_depth s.rules
no_end_read s e =
    let k : returning ≡ s = let z = sym reads_returning ∙ e in cc in
    subst (λ x. NoEnd body_depth x.rules) k no_end_returning

-- A lexer's unit without rules.
abbrev bare : Sheet
bare = record { kind = lexer; rules = []; preserved = []; counters = counted 0 0 }

valid_bare : (valid bare ≡ true) × (fits bare ≡ true)
unfolding computed
valid_bare = (refl, refl)

reads_bare : read (bytes (encode bare)) ≡ sheet bare
reads_bare = reads_back_lem newest bare valid_bare.0 valid_bare.1

no_optional : NoOptionalSymbol []
no_optional = record { everywhere = λ r m. absurd (Memᴰ.not-nil m) }

-- No rule has an optional symbol where there are no rules, and no other sheet stands in these bytes.
no_symbols : (s : Sheet) → read (bytes (encode bare)) ≡ sheet s → NoOptionalSymbol s.rules
no_symbols s e =
    let k : bare ≡ s = let z = sym reads_bare ∙ e in cc in
    subst (λ x. NoOptionalSymbol x.rules) k no_optional

not_parser : bare.kind ≡ parser → ⊥
not_parser e = omega arith

zeros_lent : Lent (replicate result_bytes 0) (replicate trail_bytes 0) (replicate work_bytes 0)
zeros_lent =
    let r = length-replicate {A = ℕ} result_bytes 0 in
    let t = length-replicate {A = ℕ} trail_bytes 0 in
    let w = length-replicate {A = ℕ} work_bytes 0 in
    record { for_result = omega arith; for_trail = omega arith; for_work = omega arith }

an_answer_lem : answer_to standard rust returning_bytes
    ≡ answer (length (stages_by rust)) (steps_of (stages_by rust)) (encode (sheet_after returning (stages_by rust)))
    (each encode_entry (entries_of (stages_by rust)))
unfolding answer_to answer_reading answer_run
an_answer_lem = ap (answer_reading standard rust) reads_returning ∙ ap (answer_run returning) ends_rust.1

no_bytes : AreBytes []
no_bytes i = omega arith

a_refusal_lem : answer_to standard rust [] ≡ refusal 1
unfolding computed
a_refusal_lem = refl

hub_known : target (grammar_of body_depth returning.rules) 1 ≡ some 1
unfolding computed
hub_known = refl

abbrev lent_zeros : ℕ → List ℕ
lent_zeros n = replicate n 0

number_0 : (outcome standard rust (bytes (encode bare)) (lent_zeros result_bytes) (lent_zeros trail_bytes) (lent_zeros work_bytes)).number
    ≡ 0
number_0 =
    ap (λ (o : Outcome). o.number)
    ((every_call_lem standard rust (bytes (encode bare)) (lent_zeros result_bytes) (lent_zeros trail_bytes) (lent_zeros work_bytes)
    (bytes_are (encode bare))).other_units zeros_lent bare reads_bare not_parser)

-- Every name is 1 or 2, and 7 more is a name.
names_returning : names_in returning ≡ 1 ∷ 2 ∷ 2 ∷ 1 ∷ 2 ∷ []
unfolding computed names_in block_names element_names names_of_leaf
names_returning = refl

seven_more : (n : ℕ) → member n (1 ∷ 2 ∷ 2 ∷ 1 ∷ 2 ∷ []) ≡ true → is_name (n + 7) ≡ true
unfolding member
seven_more n m =
    either (eqb n 1)
    (λ y. ap (λ k. is_name (k + 7)) (eqb-true n 1 y))
    (λ z. either (eqb n 2)
    (λ y. ap (λ k. is_name (k + 7)) (eqb-true n 2 y))
    (λ w. absurd (true≢false (sym m ∙ ap₂ (λ a b. a || (b || (b || (a || (b || false))))) z w))))

renames_returning : Renames (λ n. n + 7) returning
renames_returning =
    record {
      apart = λ a b x y e. omega arith;
      are_names = λ n m. seven_more n (sym (ap (member n) names_returning) ∙ m);
    }

-- 32 zeros have no unit's kind.
zeros_refused : (is_length (length (lent_zeros 32)) ≡ true) × (read (lent_zeros 32) ≡ refused 3)
unfolding computed
zeros_refused = (refl, refl)

number_of : (bs result trail work : List ℕ) → is_length (length bs) ≡ true → are_lent result trail work ≡ true → (n : ℕ)
    → read bs ≡ refused n
    → (outcome standard rust bs result trail work).number ≡ n
unfolding outcome answer_to answer_reading delivered
number_of bs result trail work a b n e = rw (a, b, outcome) (rw e refl)

number_3 : 3 ≤ (outcome standard rust (lent_zeros 32) (lent_zeros result_bytes) (lent_zeros trail_bytes) (lent_zeros work_bytes)).number
number_3 =
    let e =
    number_of (lent_zeros 32) (lent_zeros result_bytes) (lent_zeros trail_bytes) (lent_zeros work_bytes) zeros_refused.0
    (lent_are (lent_zeros result_bytes) (lent_zeros trail_bytes) (lent_zeros work_bytes) zeros_lent) 3 zeros_refused.1 in
    omega arith

zero_bytes : (n : ℕ) → AreBytes (lent_zeros n)
zero_bytes zero i = omega arith
zero_bytes (suc n) zero = omega arith
zero_bytes (suc n) (suc i) = zero_bytes n i

first_member : member 1 (1 ∷ 2 ∷ []) ≡ true
unfolding member
first_member = refl

pub met : Met
met =
    record {
      a_sheet = (returning, valid_returning);
      a_run = (standard, rust, returning, stages_by rust, fits_returning, ends_rust, joined.0, joined.1, joined.2, joined.3, joined.4);
      rust_run = (standard, returning, stages_by rust, ends_rust, [], one_rust.0, [], [], one_rust.1);
      textbook_run = (standard, returning, stages_by textbook, ends_textbook, [], one_textbook.0, [], one_textbook.1);
      a_part = (standard, rust, returning, stages_by rust, ends_rust, [], stages_by rust, [], append-nil (stages_by rust));
      a_call = (
        0,
        grammar_of body_depth returning.rules,
        1,
        [],
        record { id = 0; carried = 0; quantifier = once; label = unlabelled; options = [] },
        record { name = 1; arguments = 0; precedence = 0 },
        tt,
        hub_known,
        refl,
      );
      an_answer = (
        standard,
        rust,
        returning_bytes,
        bytes_are (encode returning),
        length (stages_by rust),
        steps_of (stages_by rust),
        encode (sheet_after returning (stages_by rust)),
        each encode_entry (entries_of (stages_by rust)),
        an_answer_lem,
      );
      a_refusal = (standard, rust, [], no_bytes, 1, a_refusal_lem);
      other_unit = (
        standard,
        rust,
        bytes (encode bare),
        lent_zeros result_bytes,
        lent_zeros trail_bytes,
        lent_zeros work_bytes,
        zeros_lent,
        bytes_are (encode bare),
        bare,
        reads_bare,
        not_parser,
        number_0,
      );
      a_conversion = (
        bytes sum_of_before,
        lent_zeros result_bytes,
        lent_zeros work_bytes,
        bytes_are sum_of_before,
        sum_number (lent_zeros result_bytes) (lent_zeros work_bytes) (record {
          for_result = zeros_lent.for_result;
          for_work = zeros_lent.for_work;
        }),
      );
      no_end = (body_depth, returning.rules, no_end_returning);
      bytes_no_end = (returning_bytes, bytes_are (encode returning), returning, reads_returning, no_end_read);
      a_member = (returning, valid_returning, _, Memᴰ.head refl, 1 ∷ 2 ∷ [], first_member);
      a_renaming = (returning_bytes, bytes_are (encode returning), returning, tree_returning, λ n. n + 7, renames_returning);
      other_carried = (
        returning_bytes,
        bytes_are (encode returning),
        returning,
        tree_returning,
        bytes (encode carried_five),
        bytes_are (encode carried_five),
        carried_five,
        tree_five,
        same_but_carried,
      );
      other_precedences = (
        returning_bytes,
        bytes_are (encode returning),
        returning,
        tree_returning,
        bytes (encode raised),
        bytes_are (encode raised),
        raised,
        tree_raised,
        same_but_precedences,
      );
      a_refused_call = (
        standard,
        rust,
        lent_zeros 32,
        lent_zeros result_bytes,
        lent_zeros trail_bytes,
        lent_zeros work_bytes,
        zero_bytes 32,
        number_3,
      );
      plain_symbols = (bytes (encode bare), bytes_are (encode bare), bare, reads_bare, no_symbols);
    }
