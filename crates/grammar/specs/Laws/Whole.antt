-- The reader of a whole sheet of words, both ways.
use Rattle.std.specs.Prelude.{ℕ, ◌≤◌, ◌≡◌, List, ◌∷◌, ◌++◌, ◌&&◌, take, drop, leb, eqb}
use Rattle.std.proofs.Math.Path.{refl}
use Rattle.std.proofs.Common.{ap, subst}
use Rattle.std.proofs.Math.Bool.{true}
use native.Mathlib.Omega.{arith}
use Rattle.std.proofs.Math.ListN.{length}
use Rattle.std.proofs.lemmas.Bool.{and_from}
use Rattle.std.specs.Cmp.{first_so, second_so}
use borrow.Author.Tests.{leb-true, eqb-true, le-leb, eq-eqb}
use Rattle.grammar.specs.Numbers.{trailer_words}
use Rattle.grammar.specs.Stands.{Stands}
use Rattle.grammar.specs.Tree.{Rule, Sheet, body_depth}
use Rattle.grammar.specs.Encode.{encode_in, encode_rules_in, encode_counters}
use Rattle.grammar.specs.Parse.{Got, got}
use Rattle.grammar.specs.Form.{Form, newest}
use Rattle.grammar.specs.Ids.{is_distinct, is_below}
use Rattle.grammar.specs.Lists.{member, all, rising}
use Rattle.grammar.specs.Valid.{ok_rule, ok_block_in, ok_rules_in, rule_limit, is_kind, valid_in}
use Rattle.grammar.specs.Reading.{Reading, refused, sheet, refusals, trailer, unit_kind, first_distance, second_distance, is_trailer}
use Rattle.grammar.specs.Reading.{rules_end}
use Rattle.grammar.specs.Reading.{preserved_ids, counters_of, rules_of_in, sheet_of, judge, read_words_in}
use Rattle.grammar.specs.Laws.Stands.{first, stands_head, stands_length, stands_append, stands_within, stands_slice, slice_stands}
use Rattle.grammar.specs.Laws.Stands.{stands_split, stands_whole, stands_self}
use Rattle.grammar.specs.Laws.Parse.{either, Yields, found, nothing, yields, yields_then}
use Rattle.grammar.specs.Laws.Parse.{yields_got, yields_given, then_got, given_got}
use Rattle.grammar.specs.Laws.Sound.{RulesAt, rules_sound}
use Rattle.grammar.specs.Laws.Complete.{rules_complete}

-- A sheet that is found has the property P, and a refusal has one of the numbers.
pub data Reads (P : Sheet → Type 0) : Reading → Type 0 where
  accepts : {s : Sheet} → P s → Reads P (sheet s)
  refuses : {n : ℕ} → member n refusals ≡ true → Reads P (refused n)

pub reads_map : {P Q : Sheet → Type 0} {r : Reading} → Reads P r → ((s : Sheet) → P s → Q s) → Reads Q r
reads_map (accepts {s = s} x) k = accepts (k s x)
reads_map (refuses m) k = refuses m

pub reads_sheet : {P : Sheet → Type 0} {r : Reading} {s : Sheet} → Reads P r → r ≡ sheet s → P s
reads_sheet {P} (accepts x) e = subst P (cc) x
reads_sheet (refuses m) e = absurd (let z : ◌≡◌ {A = ℕ} 0 1 = cc in omega arith)

pub reads_refused : {P : Sheet → Type 0} {r : Reading} {n : ℕ} → Reads P r → r ≡ refused n → member n refusals ≡ true
reads_refused (accepts x) e = absurd (let z : ◌≡◌ {A = ℕ} 0 1 = cc in omega arith)
reads_refused (refuses m) e = subst (λ k. member k refusals ≡ true) (cc) m

-- The parts of validity.
pub record PartsIn (form : Form) (s : Sheet) : Type 0 where
  pub kind : is_kind s.kind ≡ true
  pub few : leb (length s.rules) rule_limit ≡ true
  pub rules : all (ok_rule (ok_block_in form body_depth)) s.rules ≡ true
  pub preserved : rising s.preserved ≡ true
  pub distinct : is_distinct s.rules ≡ true
  pub below : is_below s.counters s.rules ≡ true

pub parts_valid : (form : Form) (s : Sheet) → PartsIn form s → valid_in form s ≡ true
unfolding valid_in ok_rules_in
parts_valid form s v =
    and_from _ _ v.kind (and_from _ _ (and_from _ _ (and_from _ _ v.few v.rules) v.preserved)
    (and_from _ _ v.distinct v.below))

pub valid_parts : (form : Form) (s : Sheet) → valid_in form s ≡ true → PartsIn form s
unfolding valid_in ok_rules_in
valid_parts form s v =
    let r = second_so (is_kind s.kind) _ v in
    let a = first_so (ok_rules_in form s.rules && rising s.preserved) _ r in
    let b = second_so (ok_rules_in form s.rules && rising s.preserved) _ r in
    let c = first_so (ok_rules_in form s.rules) (rising s.preserved) a in
    record {
      kind = first_so (is_kind s.kind) _ v;
      few = first_so (leb (length s.rules) rule_limit) _ c;
      rules = second_so (leb (length s.rules) rule_limit) _ c;
      preserved = second_so (ok_rules_in form s.rules) (rising s.preserved) a;
      distinct = first_so (is_distinct s.rules) _ b;
      below = second_so (is_distinct s.rules) _ b;
    }

-- What 4 asks of a tree: the parts but for 5 and 6.
pub record RecordsIn (form : Form) (s : Sheet) : Type 0 where
  pub kind : is_kind s.kind ≡ true
  pub few : leb (length s.rules) rule_limit ≡ true
  pub rules : all (ok_rule (ok_block_in form body_depth)) s.rules ≡ true
  pub preserved : rising s.preserved ≡ true

module _ (form : Form) (ws : List ℕ) where
  judge_reads : {Q : List Rule → ℕ → Type 0} {P : Sheet → Type 0} {g : Got (List Rule)} → Yields Q g
      → ((rs : List Rule) (q : ℕ) → Q rs q → is_distinct rs ≡ true → is_below (counters_of ws) rs ≡ true → P (sheet_of ws rs))
      → Reads P (judge ws g)
  unfolding judge member
  judge_reads nothing k = refuses refl
  judge_reads (found {a = rs} {q = q} x) k =
      either (is_distinct rs)
      (λ d. either (is_below (counters_of ws) rs)
      (λ b. rw (d, b, judge) (accepts (k rs q x d b)))
      (λ b. rw (d, b, judge) (refuses refl)))
      (λ d. rw (d, judge) (refuses refl))

  record Found (rs : List Rule) (q : ℕ) : Type 0 where
    rules : RulesAt form ws (rules_end ws) rule_limit 0 rs q
    preserved : rising (preserved_ids ws) ≡ true

  rules_of_sound : Yields Found (rules_of_in form ws)
  unfolding rules_of_in
  rules_of_sound =
      yields_then (rules_sound form ws (rules_end ws) rule_limit 0 (omega arith)) λ rs q x.
      yields_given (rising (preserved_ids ws)) _ λ t.
      yields (record { rules = x; preserved = t })

  whole : trailer_words ≤ length ws → first_distance ws ≡ trailer ws → second_distance ws ≤ trailer ws → (rs : List Rule) (q : ℕ)
      → Found rs q → encode_in form (sheet_of ws rs) ≡ ws
  unfolding encode_in sheet_of counters_of preserved_ids
  whole h f g rs q x =
      let a : Stands ws (length ws) (encode_rules_in form rs) 0 (rules_end ws) =
      stands_within (length ws) (omega arith) (rw x.rules.ends at x.rules.spans.stands) in
      let b : Stands ws (length ws) (take (second_distance ws) (drop (rules_end ws) ws)) (rules_end ws) (trailer ws) =
      slice_stands ws (length ws) (second_distance ws) (rules_end ws) (trailer ws) (omega arith) (omega arith) (omega arith) in
      let ab = stands_append a b in
      let lb = stands_length b in
      let lab = stands_length ab in
      stands_whole (stands_append ab (record {
        run = (
          first ws (trailer ws),
          (omega arith, (omega arith, (refl, (refl, (refl, (refl, (refl, (omega arith, omega arith)))))))),
        );
      }))

  -- What passes 3 and 4 is encoded by these very words.
  records_found : trailer_words ≤ length ws → is_trailer ws ≡ true → (rs : List Rule) (q : ℕ) → Found rs q
      → (encode_in form (sheet_of ws rs) ≡ ws) × RecordsIn form (sheet_of ws rs)
  unfolding is_trailer sheet_of
  records_found h t rs q x =
      let u = second_so (is_kind (unit_kind ws)) _ t in
      let f = eqb-true (first_distance ws) (trailer ws) (first_so _ (leb (second_distance ws) (first_distance ws)) u) in
      let g = leb-true (second_distance ws) (first_distance ws) (second_so (eqb (first_distance ws) (trailer ws)) _ u) in (
        whole h f (omega arith) rs q x,
        record {
          kind = first_so (is_kind (unit_kind ws)) _ t;
          few = le-leb (length rs) rule_limit x.rules.few;
          rules = x.rules.spans.fine;
          preserved = x.preserved;
        },
      )

  pub stands_encoded : trailer_words ≤ length ws → is_trailer ws ≡ true → (rs : List Rule) (q : ℕ) → rules_of_in form ws ≡ got rs q
      → (encode_in form (sheet_of ws rs) ≡ ws) × RecordsIn form (sheet_of ws rs)
  stands_encoded h t rs q e = records_found h t rs q (yields_got rules_of_sound e)

  -- What is found is valid and encoded by these very words.
  pub record IsSheet (s : Sheet) : Type 0 where
    pub words : encode_in form s ≡ ws
    pub parts : PartsIn form s

  sheet_found : trailer_words ≤ length ws → is_trailer ws ≡ true → (rs : List Rule) (q : ℕ) → Found rs q → is_distinct rs ≡ true
      → is_below (counters_of ws) rs ≡ true
      → IsSheet (sheet_of ws rs)
  unfolding sheet_of
  sheet_found h t rs q x d b =
      let (e, r) = records_found h t rs q x in
      record {
        words = e;
        parts = record { kind = r.kind; few = r.few; rules = r.rules; preserved = r.preserved; distinct = d; below = b };
      }

  pub words_sound : trailer_words ≤ length ws → Reads IsSheet (read_words_in form ws)
  unfolding read_words_in member
  words_sound h =
      either (is_trailer ws) (λ t. rw (t, read_words_in) (judge_reads rules_of_sound (sheet_found h t)))
      (λ t. rw (t, read_words_in) (refuses refl))

  -- Where the parts of an encoded sheet stand.
  record Placed (s : Sheet) : Type 0 where
    rules : Stands ws (rules_end ws) (encode_rules_in form s.rules) 0 (rules_end ws)
    preserved : preserved_ids ws ≡ s.preserved
    kind : unit_kind ws ≡ s.kind
    first_distance_is : first_distance ws ≡ trailer ws
    second_distance_is : second_distance ws ≤ first_distance ws
    counters : counters_of ws ≡ s.counters

  placed_at : (s : Sheet) (o p : ℕ) → Stands ws (length ws) (encode_rules_in form s.rules) 0 o → Stands ws (length ws) s.preserved o p
      → Stands ws (length ws)
      (s.kind ∷ length (encode_rules_in form s.rules ++ s.preserved) ∷ length s.preserved ∷ encode_counters s.counters) p (length ws)
      → Placed s
  unfolding preserved_ids counters_of
  placed_at s o p a b c =
      let lb = stands_length b in
      let lab = stands_length (stands_append a b) in
      let lc = stands_length c in
      let e : p ≡ trailer ws = omega arith in
      let d = rw e at c in
      let w = d.run.1 in
      let r : o ≡ rules_end ws = omega (arith, w.1.0) in
      let k = w.1.1 in
      record {
        rules = stands_within (rules_end ws) (omega arith) (rw r at a);
        preserved = rw (← r, w.1.0) (stands_slice (omega arith) b);
        kind = stands_head d;
        first_distance_is = omega (arith, w.0);
        second_distance_is = omega (arith, w.0, w.1.0);
        counters = λ i. record {
          alternative = k.0 i;
          element = k.1.0 i;
          label = k.1.1.0 i;
          action = k.1.1.1.0 i;
          predicate = k.1.1.1.1.0 i;
        };
      }

  placed : (s : Sheet) → Stands ws (length ws) (encode_in form s) 0 (length ws) → Placed s
  unfolding encode_in
  placed s t =
      let body = encode_rules_in form s.rules ++ s.preserved in
      let (p, x, c) = stands_split body (s.kind ∷ length body ∷ length s.preserved ∷ encode_counters s.counters) t in
      let (o, a, b) = stands_split (encode_rules_in form s.rules) s.preserved x in
      placed_at s o p a b c

  module _ (s : Sheet) (p : Placed s) (v : RecordsIn form s) where
    is_trailer_complete : is_trailer ws ≡ true
    unfolding is_trailer
    is_trailer_complete =
        let k : is_kind (unit_kind ws) ≡ true = rw p.kind v.kind in
        and_from _ _ k (and_from _ _ (eq-eqb _ _ p.first_distance_is) (le-leb _ _ p.second_distance_is))

    rules_of_complete : rules_of_in form ws ≡ got s.rules (rules_end ws)
    unfolding rules_of_in
    rules_of_complete =
        then_got _ (rules_complete form ws (rules_end ws) rule_limit 0 s.rules (leb-true _ _ v.few)
        (record { stands = p.rules; fine = v.rules }))
        (given_got (rising (preserved_ids ws)) _ (rw p.preserved v.preserved) refl)

    sheet_of_complete : sheet_of ws s.rules ≡ s
    unfolding sheet_of
    sheet_of_complete = λ i. record { kind = p.kind i; rules = s.rules; preserved = p.preserved i; counters = p.counters i }

  placed_complete : (s : Sheet) → Placed s → PartsIn form s → read_words_in form ws ≡ sheet s
  unfolding read_words_in judge
  placed_complete s p v =
      let r : RecordsIn form s = record { kind = v.kind; few = v.few; rules = v.rules; preserved = v.preserved } in
      let b : is_below (counters_of ws) s.rules ≡ true = rw p.counters v.below in
      rw (is_trailer_complete s p r, read_words_in)
      (rw (rules_of_complete s p r) (rw (v.distinct, b, judge) (ap sheet (sheet_of_complete s p r))))

  -- A valid sheet that these words encode is found.
  pub words_complete : (s : Sheet) → Stands ws (length ws) (encode_in form s) 0 (length ws) → PartsIn form s
      → read_words_in form ws ≡ sheet s
  words_complete s t v = placed_complete s (placed s t) v

-- What is encoded of a tree that 4 allows is found again.
pub encoded_stands : (form : Form) (s : Sheet) → RecordsIn form s
    → (is_trailer (encode_in form s) ≡ true) × (rules_of_in form (encode_in form s) ≡ got s.rules (rules_end (encode_in form s)))
    × (sheet_of (encode_in form s) s.rules ≡ s)
encoded_stands form s v =
    let ws = encode_in form s in
    let p = placed form ws s (stands_self ws) in
    (is_trailer_complete form ws s p v, rules_of_complete form ws s p v, sheet_of_complete form ws s p v)

-- In the newest form.
abbrev pub Parts : Sheet → Type 0
Parts = PartsIn newest

abbrev pub Records : Sheet → Type 0
Records = RecordsIn newest
