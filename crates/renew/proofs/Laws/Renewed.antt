-- What is known of the rules after a plan: of those that stay by their rows, of the hub by its survey.
use Prim.Native.Nat.{ℕ, ◌<◌}
use mathlib.Core.Path.{◌≡◌, refl, sym, ap, ap₂, ◌∙◌, subst}
use mathlib.Core.List.{List, [], ◌∷◌, map, Memᴰ}
use mathlib.Core.Bool.{Bool, true, false, not}
use native.Mathlib.Omega.{arith}
use lib.ListN.{length, get_or, set, length-map}
use lib.Seq.{get_or-set_same, get_or-set_other}
use lib.Dec.{eqb}
use borrow.Author.Tests.{eqb-true, eqb-false, ne_eqb}
use Rattle.grammar.specs.Numbers.{rule_limit}
use Rattle.grammar.specs.Tree.{Rule, Block, body_depth, inner_depth}
use Rattle.grammar.specs.Lists.{member, keep, push}
use Rattle.grammar.specs.Corners.{Corners}
use Rattle.grammar.specs.Laws.Lists.{in_member}
use Rattle.grammar.specs.Laws.Parse.{either}
use Rattle.graph.specs.Members.{in_keep}
use Rattle.reference.specs.Analysis.{Grammar, ids_of, names_of, grammar_of, nullable_rules, collect_calls_into, block_corners}
use Rattle.reference.specs.Apply.{with_body}
use Rattle.reference.specs.Plan.{satellite_is_inlinable}
use Rattle.records.specs.declared.rules.Rules.{Rules}
use Rattle.reach.specs.Rows.{bit, RowOf}
use Rattle.reach.proofs.Laws.Graph.{at_in}
use Rattle.analysis.specs.Facts.{Standing, Among, SurveyOf, stopping, RowsBy}
use Rattle.analysis.specs.declared.rounds.Marks.{Marks}
use Rattle.analysis.proofs.Laws.Standing.{among, few, all_rules, id_at, key_at, rule_spans}
use Rattle.analysis.proofs.Laws.Agree.{agrees}
use Rattle.analysis.proofs.Laws.Rounded.{is_among, kept_id}
use Rattle.hub.specs.Grounds.{rules_of}
use Rattle.hub.proofs.Laws.Grounds.{row_bit, row_of, row_none, in_among, same_place}
use Rattle.plan.specs.Search.{RulesKnown}
use Rattle.renew.specs.Fewer.{staying, HasRow, HasRows, IsAt, Fewer, RulesLess}
use Rattle.renew.specs.Renewed.{HubSurveyed, Renewable, RenewedAs, RenewedOf}
use Rattle.renew.specs.declared.renew.Renewed.{Renewed}
use Rattle.renew.proofs.Laws.Fewer.{rule_at}

-- Another body leaves a rule's id; and a rule that is not the hub stays whole.
module _ (hub : ℕ) (body : Block body_depth) where
  abbrev changed : Rule → Rule
  changed = with_body inner_depth hub body

  changed_id : (r : Rule) → (changed r).id ≡ r.id
  unfolding with_body
  changed_id r = either (eqb r.id hub) (λ t. rw (t, with_body) refl) (λ f. rw (f, with_body) refl)

  changed_other : (r : Rule) → (r.id ≡ hub → ⊥) → changed r ≡ r
  unfolding with_body
  changed_other r d = rw (ne_eqb r.id hub d, with_body) refl

  pushed : (b : Bool) (r : Rule) (rs : List Rule) → push b (changed r) (map changed rs) ≡ map changed (push b r rs)
  pushed true r rs = refl
  pushed false r rs = refl

  staying_changed : (gone : List ℕ) (rs : List Rule) → staying gone (map changed rs) ≡ map changed (staying gone rs)
  unfolding keep
  staying_changed gone [] = refl
  staying_changed gone (r ∷ rs) =
      ap₂ (λ b xs. push b (changed r) xs) (ap (λ i. not (member i gone)) (changed_id r)) (staying_changed gone rs)
      ∙ pushed (not (member r.id gone)) r (staying gone rs)

  changed_ids : (rs : List Rule) → ids_of (map changed rs) ≡ ids_of rs
  changed_ids [] = refl
  changed_ids (r ∷ rs) = rw (changed_id r, changed_ids rs) refl

-- What a rule's body calls, and its left corners.
abbrev called : Grammar → Rule → List ℕ
called g t = collect_calls_into g body_depth t.body

abbrev cornered : Corners → Grammar → Rule → List ℕ
cornered c g t = block_corners c g body_depth t.body

-- A row by the ids of rules that stand in a sheet, and by the rules.
module _ {ws : List ℕ} {end : ℕ} {rules : Rules} (s : Standing ws end rules) where
  abbrev rs : List Rule
  rs = s.rows.found.trees

  same_ids : (j : ℕ) → j < length rs → get_or rules.ids j 0 ≡ get_or (ids_of rs) j 0
  same_ids j l = let a = among rs j l in id_at s.rows a ∙ sym (key_at (λ r. r.id) 0 a)

  by_rules : {n : ℕ} {xs row : List ℕ} → n ≡ length rs → RowOf rules.ids n xs row → HasRow rs xs row
  by_rules {xs = xs} e r =
      row_of (λ j l. row_bit r (omega arith) ∙ ap (λ i. member i xs) (same_ids j l)) (λ j l. row_none r j (omega arith))

  by_ids : {n : ℕ} {xs row : List ℕ} → n ≡ length rs → HasRow rs xs row → RowOf rules.ids n xs row
  by_ids {xs = xs} e r =
      row_of (λ j l. row_bit r (omega arith) ∙ ap (λ i. member i xs) (sym (same_ids j (omega arith)))) (λ j l. row_none r j (omega arith))

module _ {ws : List ℕ} {end : ℕ} {rules : Rules} {n hub : ℕ} {row : List ℕ} {reading : Corners}
    {calls corners : List (List ℕ)} {marks : Marks} {kept : List ℕ}
    (x : Renewable ws end rules n hub row reading calls corners marks kept) {cs ks : List (List ℕ)} {m : Renewed}
    (l : RulesLess calls corners (record { ground = record { marks = marks; kept = kept }; hub = hub }) cs ks m row n)
  where
    abbrev s₀ : Standing x.words₀ x.end₀ x.rules₀
    s₀ = x.known.known.standing

    abbrev old : List Rule
    old = rules_of x.words₀ x.end₀ x.rules₀ s₀

    abbrev left : List Rule
    left = staying x.gone old

    abbrev new : List Rule
    new = rules_of ws end rules x.standing

    abbrev hub_id : ℕ
    hub_id = get_or x.rules₀.ids hub 0

    abbrev renewed : Rule → Rule
    renewed = with_body inner_depth hub_id x.stays.body

    fewer : Fewer calls corners (record { ground = record { marks = marks; kept = kept }; hub = hub }) cs ks m old left x.gone
    fewer = l.is old x.gone (sym (x.count ∙ all_rules s₀.rows)) (by_rules s₀ (all_rules s₀.rows) x.gone_row)

    trees : new ≡ map renewed left
    trees = x.stays.rules ∙ staying_changed hub_id x.stays.body x.gone old

    ids : ids_of new ≡ ids_of left
    ids = ap ids_of trees ∙ changed_ids hub_id x.stays.body left

    as_many : length new ≡ length left
    as_many = ap length trees ∙ length-map left renewed

    as_new : {xs r : List ℕ} → HasRow left xs r → HasRow new xs r
    as_new {xs} {r} h =
        subst (λ k. RowOf (ids_of new) k xs r) (sym as_many) (subst (λ is. RowOf is (length left) xs r) (sym ids) h)

    -- The hub's place.
    hub_at : IsAt left m.hub hub_id
    hub_at =
        let low : hub < length old = let a = x.inside in let b = x.count in let c = all_rules s₀.rows in omega arith in
        fewer.hub hub_id x.stays.hub_stays (record { inside = low; is = sym (same_ids s₀ hub low) })

    pub hub_inside : m.hub < rules.n
    hub_inside = let a = hub_at.inside in let b = as_many in let c = all_rules x.standing.rows in omega arith

    hub_id_lem : get_or rules.ids m.hub 0 ≡ hub_id
    hub_id_lem =
        same_ids x.standing m.hub (let a = hub_at.inside in let b = as_many in omega arith)
        ∙ ap (λ is. get_or is m.hub 0) ids ∙ hub_at.is

    -- A rule that is not the hub was there.
    other : {i : ℕ} (a : Among new i) → (i ≡ m.hub → ⊥) → (b : Among left i) × (b.rule ≡ a.rule)
    other {i} a d =
        let low = few a in
        let b = among left i (let e = as_many in omega arith) in
        let e : a.rule ≡ renewed b.rule =
        sym (rule_at a a.rule) ∙ ap (λ ts. get_or ts i a.rule) trees ∙ key_at renewed a.rule b in
        let same : a.rule.id ≡ b.rule.id = ap (λ t. t.id) e ∙ changed_id hub_id x.stays.body b.rule in
        let z = all_rules x.standing.rows in (
          b,
          sym (e ∙ changed_other hub_id x.stays.body b.rule
              (λ h. d (same_place x.standing (omega arith) hub_inside (id_at x.standing.rows a ∙ same ∙ h ∙ sym hub_id_lem)))),
        )

    module _ (give give' : Rule → List ℕ) (stays : (t : Rule) → Memᴰ t new → give' t ≡ give t) {rows : List (List ℕ)}
        (h : HasRows left give rows) where
      other_row : {i : ℕ} (a : Among new i) → (i ≡ m.hub → ⊥) → RowOf rules.ids (length new) (give' a.rule) (get_or rows i [])
      other_row {i} a d =
          let (b, e) = other a d in
          by_ids x.standing refl
          (as_new (subst (λ ys. HasRow left ys (get_or rows i [])) (ap give e ∙ sym (stays a.rule (is_among a))) (h.at i b)))

    -- Which rules are nullable does not change.
    nulls : HasRow new (nullable_rules body_depth new) m.ground.marks.nullable
    nulls =
        let h = as_new (fewer.nullable (nullable_rules body_depth old) (by_rules s₀ refl x.known.known.facts.nullable)) in
        row_of
        (λ j k.
        row_bit h k
        ∙ sym
        (x.stays.nullable (get_or (ids_of new) j 0)
        ∙ rw (in_member (at_in 0 (ids_of new) j (let z = length-map new (λ t. t.id) in omega arith))) refl))
        (row_none h)

    module _ {cs' ks' : List (List ℕ)} {st : List ℕ} (v : HubSurveyed ws end rules m.hub reading m.ground.marks.nullable cs ks
        m.ground.marks.stops cs' ks' st)
      where
        abbrev grammar : Grammar
        grammar = record { names = names_of new; nullable = nullable_rules body_depth new }

        own : {i : ℕ} (a : Among new i) → i ≡ m.hub → SurveyOf reading grammar rules.ids (length new) a.rule v.survey
        own {i} a e =
            let z = rule_spans x.standing.rows a in
            subst (λ k. SurveyOf reading grammar rules.ids k a.rule v.survey) (all_rules x.standing.rows)
            (v.surveyed.by grammar rules.ids (agrees x.standing (by_ids x.standing (all_rules x.standing.rows) nulls) reading)
            a.rule z.0 (rw (← e) z.1))

        -- A row for each rule: the hub's is new.
        with_own : (give' : Rule → List ℕ) (rows : List (List ℕ)) (r : List ℕ) {rows' : List (List ℕ)} → rows' ≡ set rows m.hub r → length rows ≡ rule_limit
            → ((i : ℕ) (a : Among new i) → i ≡ m.hub → RowOf rules.ids (length new) (give' a.rule) r)
            → ((i : ℕ) (a : Among new i) → (i ≡ m.hub → ⊥) → RowOf rules.ids (length new) (give' a.rule) (get_or rows i []))
            → (i : ℕ) (a : Among new i) → RowOf rules.ids (length new) (give' a.rule) (get_or rows' i [])
        with_own give' rows r e long f g i a =
            either (eqb i m.hub)
            (λ t.
            let z = eqb-true i m.hub t in
            let b = hub_inside in
            let w = x.standing.rows.few in
            subst (λ y. RowOf rules.ids (length new) (give' a.rule) y)
            (sym (ap (λ ys. get_or ys i []) e ∙ ap (λ j. get_or (set rows m.hub r) j []) z ∙ get_or-set_same rows m.hub r [] (omega arith)))
            (f i a z))
            (λ t.
            let z = eqb-false i m.hub t in
            subst (λ y. RowOf rules.ids (length new) (give' a.rule) y)
            (sym (ap (λ ys. get_or ys i []) e ∙ get_or-set_other rows m.hub i r [] z)) (g i a z))

        abbrev test : Rule → Bool
        test t = not (satellite_is_inlinable inner_depth t)

        was_stopping : {i : ℕ} (b : Among left i) → bit m.ground.marks.stops i ≡ test b.rule
        unfolding stopping
        was_stopping b =
            let (j, a, e) = in_among (in_keep (λ r. not (member r.id x.gone)) old (is_among b)).0 in
            row_bit (fewer.stops (ids_of (keep test old)) (by_rules s₀ refl x.known.known.facts.stops)) (few b)
            ∙ ap (λ i. member i (ids_of (keep test old))) (key_at (λ t. t.id) 0 b)
            ∙ subst (λ t. member t.id (ids_of (keep test old)) ≡ test t) e (kept_id test old s₀.ids a)

        stop_bit : {i : ℕ} (a : Among new i) → bit st i ≡ test a.rule
        stop_bit {i} a =
            either (eqb i m.hub)
            (λ t. let z = eqb-true i m.hub t in ap (bit st) z ∙ v.stops.here ∙ (own a z).stops)
            (λ t.
            let z = eqb-false i m.hub t in
            let (b, e) = other a z in
            v.stops.other i z ∙ was_stopping b ∙ ap test e)

        stop_row : RowOf rules.ids (length new) (stopping reading new rules.ids) st
        unfolding stopping
        stop_row =
            let h = as_new (fewer.stops (ids_of (keep test old)) (by_rules s₀ refl x.known.known.facts.stops)) in
            by_ids x.standing refl
            (row_of
            (λ j k.
            let a = among new j k in
            stop_bit a ∙ sym (ap (λ i. member i (ids_of (keep test new))) (key_at (λ t. t.id) 0 a) ∙ kept_id test new x.standing.ids a))
            (λ j k.
            v.stops.other j (λ e. let b = hub_inside in let c = all_rules x.standing.rows in omega arith) ∙ row_none h j k))

        row_facts : RowsBy reading new rules.ids (nullable_rules body_depth new) cs' ks'
        unfolding grammar_of
        row_facts =
            let before = grammar_of body_depth old in
            record {
              call_rows =
                  with_own (called grammar) cs v.survey.calls v.calls l.calls_long (λ i a e. (own a e).calls)
                  (λ i a d.
                  other_row (called before) (called grammar) x.stays.calls
                  (fewer.calls (called before) (record { at = λ j b. by_rules s₀ refl (x.known.known.facts.rows.call_rows j b) })) a d);
              corner_rows =
                  with_own (cornered reading grammar) ks v.survey.corners v.corners l.corners_long (λ i a e. (own a e).corners)
                  (λ i a d.
                  other_row (cornered reading before) (cornered reading grammar) (x.stays.corners reading)
                  (fewer.corners (cornered reading before) (record { at = λ j b. by_rules s₀ refl (x.known.known.facts.rows.corner_rows j b) }))
                  a d);
            }

        known_now : RulesKnown ws end rules reading cs' ks' (record { nullable = m.ground.marks.nullable; stops = st }) m.ground.kept
        known_now =
            record {
              known = record {
                standing = x.standing;
                small = x.small;
                facts = record { rows = row_facts; stops = stop_row; nullable = by_ids x.standing refl nulls };
              };
              preserved = x.known.preserved;
              keeps =
                  by_ids x.standing (all_rules x.standing.rows)
                  (as_new (fewer.kept x.known.preserved (by_rules s₀ (all_rules s₀.rows) x.known.keeps)));
            }

        now : RenewedAs ws end rules n hub row reading calls corners marks kept x cs' ks'
            (record {
              ground = record { marks = record { nullable = m.ground.marks.nullable; stops = st }; kept = m.ground.kept };
              hub = m.hub;
            })
        unfolding known_now
        now = record { known = known_now; standing = refl; preserved = refl; inside = hub_inside; same = hub_id_lem }

module _ {ws : List ℕ} {end : ℕ} {rules : Rules} {n hub : ℕ} {row : List ℕ} {reading : Corners}
    {calls corners : List (List ℕ)} {marks : Marks} {kept : List ℕ} {cs ks : List (List ℕ)} {m : Renewed}
    (l : RulesLess calls corners (record { ground = record { marks = marks; kept = kept }; hub = hub }) cs ks m row n)
  where
    pub hub_low : Renewable ws end rules n hub row reading calls corners marks kept → m.hub < rules.n
    hub_low x = hub_inside x l

    pub renewed_of : {cs' ks' : List (List ℕ)} {known : Marks}
        → HubSurveyed ws end rules m.hub reading m.ground.marks.nullable cs ks m.ground.marks.stops cs' ks' known.stops
        → known.nullable ≡ m.ground.marks.nullable
        → RenewedOf ws end rules n hub row reading calls corners marks kept cs' ks'
        (record { ground = record { marks = known; kept = m.ground.kept }; hub = m.hub })
    renewed_of {cs'} {ks'} {known} v e =
        subst
        (λ null.
        RenewedOf ws end rules n hub row reading calls corners marks kept cs' ks'
        (record { ground = record { marks = record { nullable = null; stops = known.stops }; kept = m.ground.kept }; hub = m.hub }))
        (sym e) (record { is = λ x. now x l v })
