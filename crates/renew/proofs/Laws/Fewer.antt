-- What is known of rules, when one of them is gone, and when all are.
use Prim.Native.Nat.{ℕ, suc, ◌-◌, ◌<◌, ◌≤◌}
use mathlib.Core.Path.{◌≡◌, refl, sym, ap, ◌∙◌, subst}
use mathlib.Core.List.{List, [], ◌∷◌, ◌++◌, map-id, map-append}
use mathlib.Core.Bool.{Bool, true, not, true≢false}
use native.Mathlib.Omega.{arith}
use lib.ListN.{length, get_or, length-append, length-map}
use lib.Seq.{append_snoc}
use Rattle.grammar.specs.Numbers.{rule_limit}
use Rattle.grammar.specs.Tree.{Rule}
use Rattle.grammar.specs.Lists.{member, keep}
use Rattle.grammar.specs.Laws.Parse.{either}
use Rattle.reference.specs.Analysis.{ids_of}
use Rattle.reach.specs.Rows.{bit}
use Rattle.analysis.specs.Facts.{Among}
use Rattle.analysis.proofs.Laws.Standing.{among, few, key_at}
use Rattle.hub.proofs.Laws.Grounds.{row_bit, row_of, row_none}
use Rattle.renew.specs.Less.{before, after, Less, RowsLess}
use Rattle.renew.specs.Fewer.{staying, HasRow, HasRows, IsAt, PlaceLess, Unchanged, PlaceLessIf, Fewer, RulesLess}
use Rattle.renew.specs.declared.renew.Renewed.{Renewed}
use Rattle.renew.proofs.Laws.Words.{before_high}
use Rattle.renew.proofs.Laws.Less.{before_next, before_after, after_inside, list_less}

-- The rule at a place.
pub rule_at : {rs : List Rule} {i : ℕ} (a : Among rs i) (d : Rule) → get_or rs i d ≡ a.rule
rule_at {rs} {i} a d = sym (ap (λ xs. get_or xs i d) (map-id rs)) ∙ key_at (λ r. r) d a

-- One rule is gone.
module _ (front : List Rule) (r : Rule) (more : List Rule) where
  abbrev all : List Rule
  all = front ++ (r ∷ more)

  abbrev rest : List Rule
  rest = front ++ more

  one_less : length all ≡ suc (length rest)
  one_less = let a = length-append front (r ∷ more) in let b = length-append front more in omega arith

  ids_less : (j : ℕ) → get_or (ids_of all) (before (length front) j) 0 ≡ get_or (ids_of rest) j 0
  ids_less j =
      ap (λ xs. get_or xs (before (length front) j) 0) (map-append (λ x. x.id) front (r ∷ more))
      ∙ ap (λ k. get_or (ids_of front ++ (r.id ∷ ids_of more)) (before k j) 0) (sym (length-map front (λ x. x.id)))
      ∙ list_less (ids_of front) r.id (ids_of more) 0 j
      ∙ ap (λ xs. get_or xs j 0) (sym (map-append (λ x. x.id) front more))

  row_less : {xs row row' : List ℕ} → Less row (length front) row' → HasRow all xs row → HasRow rest xs row'
  row_less {xs} {row} {row'} l h =
      row_of
      (λ j m.
      l.at j ∙ row_bit h (let a = before_next (length front) j in let b = one_less in omega arith) ∙ ap (λ i. member i xs) (ids_less j))
      (λ j m.
      l.at j
      ∙ row_none h (before (length front) j)
      (let a = length-append front more in
      let b = one_less in
      let e = before_high {k = length front} {j = j} (omega arith) in
      omega arith))

  rows_less : {give : Rule → List ℕ} {n : ℕ} {rows rows' : List (List ℕ)} → RowsLess n (length front) rows rows' → length all ≤ n
      → HasRows all give rows → HasRows rest give rows'
  rows_less {give} {n} {rows} l m h =
      record {
        at = λ i a.
            let low = few a in
            let one = one_less in
            let b = among all (before (length front) i) (let z = before_next (length front) i in omega arith) in
            let e : b.rule ≡ a.rule = sym (rule_at b r) ∙ list_less front r more r i ∙ rule_at a r in
            row_less (l.at i (omega arith))
            (subst (λ t. HasRow all (give t) (get_or rows (before (length front) i) [])) e (h.at (before (length front) i) b));
      }

  abbrev here : Among all (length front)
  here = record { front = front; rule = r; rest = more; parts = refl; count = refl }

  place_less : {i id : ℕ} → (id ≡ r.id → ⊥) → IsAt all i id → IsAt rest (after (length front) i) id
  place_less {i} {id} d a =
      let other : (i ≡ length front → ⊥) = λ e. d (sym a.is ∙ ap (λ j. get_or (ids_of all) j 0) e ∙ key_at (λ x. x.id) 0 here) in
      let one = one_less in
      let low = few here in
      let z = a.inside in
      record {
        inside = after_inside other (omega arith) (omega arith);
        is = sym (ids_less (after (length front) i)) ∙ ap (λ j. get_or (ids_of all) j 0) (before_after other) ∙ a.is;
      }

  fewer_one : {cs ks cs' ks' : List (List ℕ)} {m m' : Renewed} {n : ℕ} {gone : List ℕ} → PlaceLess cs ks m cs' ks' m' n (length front)
      → length all ≤ n → member r.id gone ≡ true → Fewer cs ks m cs' ks' m' all rest gone
  fewer_one {gone = gone} p l t =
      record {
        calls = λ give h. rows_less p.calls l h;
        corners = λ give h. rows_less p.corners l h;
        nullable = λ xs h. row_less p.nullable h;
        stops = λ xs h. row_less p.stops h;
        kept = λ xs h. row_less p.kept h;
        hub = λ h f a.
            subst (λ i. IsAt rest i h) (sym p.hub) (place_less (λ e. true≢false (sym t ∙ ap (λ x. member x gone) (sym e) ∙ f)) a);
      }

fewer_none : {cs ks : List (List ℕ)} {m : Renewed} {rs : List Rule} {gone : List ℕ} → Fewer cs ks m cs ks m rs rs gone
fewer_none =
    record {
      calls = λ give h. h;
      corners = λ give h. h;
      nullable = λ xs h. h;
      stops = λ xs h. h;
      kept = λ xs h. h;
      hub = λ h f a. a;
    }

fewer_then : {cs ks cs' ks' cs'' ks'' : List (List ℕ)} {m m' m'' : Renewed} {rs qs ps : List Rule} {gone : List ℕ}
    → Fewer cs ks m cs' ks' m' rs qs gone → Fewer cs' ks' m' cs'' ks'' m'' qs ps gone → Fewer cs ks m cs'' ks'' m'' rs ps gone
fewer_then x y =
    record {
      calls = λ give h. y.calls give (x.calls give h);
      corners = λ give h. y.corners give (x.corners give h);
      nullable = λ xs h. y.nullable xs (x.nullable xs h);
      stops = λ xs h. y.stops xs (x.stops xs h);
      kept = λ xs h. y.kept xs (x.kept xs h);
      hub = λ h f a. y.hub h f (x.hub h f a);
    }

unchanged_fewer : {cs ks cs' ks' : List (List ℕ)} {m m' : Renewed} {rs : List Rule} {gone : List ℕ} → Unchanged cs ks m cs' ks' m'
    → Fewer cs ks m cs' ks' m' rs rs gone
unchanged_fewer u = rw (u.calls, u.corners, u.rest) fewer_none

keep_few : (test : Rule → Bool) (xs : List Rule) → length (keep test xs) ≤ length xs
unfolding keep
keep_few test [] = omega arith
keep_few test (x ∷ xs) =
    let l = keep_few test xs in
    either (test x) (λ t. rw t (omega arith)) (λ f. rw f (omega arith))

-- The rules from place k on are done.
pub record Dropping (cs₀ ks₀ : List (List ℕ)) (m₀ : Renewed) (cs ks : List (List ℕ)) (m : Renewed) (row : List ℕ) (n k : ℕ) : Type 0 where
  pub low : k ≤ n
  pub calls_long : length cs ≡ rule_limit
  pub corners_long : length ks ≡ rule_limit
  pub is : (rs : List Rule) (gone : List ℕ) → length rs ≡ n → HasRow rs gone row → (front behind : List Rule) → front ++ behind ≡ rs
      → length front ≡ k → Fewer cs₀ ks₀ m₀ cs ks m rs (front ++ staying gone behind) gone

pub drop_none : {cs ks : List (List ℕ)} {m : Renewed} {row : List ℕ} {n : ℕ} → length cs ≡ rule_limit → length ks ≡ rule_limit
    → Dropping cs ks m cs ks m row n n
unfolding keep
drop_none {cs} {ks} {m} a b =
    record {
      low = omega arith;
      calls_long = a;
      corners_long = b;
      is = λ rs gone e h front behind p l. last rs gone front behind p (l ∙ sym e);
    }
  where
    last : (rs : List Rule) (gone : List ℕ) (front behind : List Rule) → front ++ behind ≡ rs → length front ≡ length rs
        → Fewer cs ks m cs ks m rs (front ++ staying gone behind) gone
    last rs gone front [] p l = subst (λ xs. Fewer cs ks m cs ks m rs xs gone) (sym p) fewer_none
    last rs gone front (b ∷ bs) p l = absurd (let s = length-append front (b ∷ bs) in let t = ap length p in omega arith)

module _ {cs₀ ks₀ cs ks : List (List ℕ)} {m₀ m : Renewed} {row : List ℕ} {n k : ℕ} (x : Dropping cs₀ ks₀ m₀ cs ks m row n k) where
  pub drop_more : {cs' ks' : List (List ℕ)} {m' : Renewed} → PlaceLessIf cs ks m cs' ks' m' row n (k - 1) → 0 < k
      → Dropping cs₀ ks₀ m₀ cs' ks' m' row n (k - 1)
  unfolding keep
  drop_more {cs'} {ks'} {m'} p z =
      record {
        low = let l = x.low in omega arith;
        calls_long = p.calls_long;
        corners_long = p.corners_long;
        is = next;
      }
    where
      next : (rs : List Rule) (gone : List ℕ) → length rs ≡ n → HasRow rs gone row → (front behind : List Rule) → front ++ behind ≡ rs
          → length front ≡ k - 1 → Fewer cs₀ ks₀ m₀ cs' ks' m' rs (front ++ staying gone behind) gone
      next rs gone e h front [] q l =
          absurd (let s = length-append front [] in let t = ap length q in let w = x.low in omega arith)
      next rs gone e h front (b ∷ bs) q l =
          let long = length-append front (b ∷ []) in
          let before = subst (λ xs. Fewer cs₀ ks₀ m₀ cs ks m rs xs gone) (append_snoc front b (staying gone bs))
          (x.is rs gone e h (front ++ (b ∷ [])) bs (append_snoc front b bs ∙ q) (omega arith)) in
          let a : Among rs (k - 1) = record { front = front; rule = b; rest = bs; parts = q; count = l } in
          let own : bit row (k - 1) ≡ member b.id gone = row_bit h (few a) ∙ ap (λ i. member i gone) (key_at (λ r. r.id) 0 a) in
          let size = ap length q in
          let sum = length-append front (b ∷ bs) in
          let sum' = length-append front (b ∷ staying gone bs) in
          let less = keep_few (λ r. not (member r.id gone)) bs in
          either (member b.id gone)
          (λ t.
          rw t
          (fewer_then before
          (fewer_one front b (staying gone bs) (subst (PlaceLess cs ks m cs' ks' m' n) (sym l) (p.taken (own ∙ t))) (omega arith) t)))
          (λ f. rw f (fewer_then before (unchanged_fewer (p.left (own ∙ f)))))

  pub drop_all : k ≤ 0 → RulesLess cs₀ ks₀ m₀ cs ks m row n
  drop_all z =
      record {
        is = λ rs gone e h. x.is rs gone e h [] rs refl (omega arith);
        calls_long = x.calls_long;
        corners_long = x.corners_long;
      }

pub ruleset dropping = (drop_none, drop_more, drop_all)
