-- Drafts that follow one another.
use Rattle.std.specs.Prelude.{ℕ, ◌+◌, ◌-◌, ◌<◌, ◌≡◌, refl, List, [], ◌∷◌, ◌++◌, length}
use Rattle.std.proofs.Common.{sym, ap, ◌∙◌, subst, append_assoc, append-nil, arith, length-append}
use Rattle.grammar.specs.Form.{newest}
use Rattle.grammar.specs.Numbers.{rule_limit}
use Rattle.grammar.specs.Tree.{Rule, body_depth, Counters}
use Rattle.grammar.specs.Encode.{encode_rule, encode_rules, encode_block}
use Rattle.grammar.specs.Laws.Lists.{each_append}
use Rattle.records.proofs.Laws.Rules.{rows_more}
use Rattle.writing.specs.Taken.{counters_of}
use Rattle.writing.specs.Laws.Wrote.{wrote_nothing, wrote_then}
use Rattle.copies.specs.Laws.Drawn.{drawn_words, drawn_then}
use Rattle.drafts.specs.declared.draft.Draft.{Draft}
use Rattle.drafts.specs.Draft.{Follows, Added, Drafted, RowAdded}

-- A rule more, of as many words.
pub row_added : {id name n : ℕ} {a b : Draft} (r : Rule) → RowAdded id name n a b → id ≡ r.id → name ≡ r.name
    → n ≡ length (encode_rule (encode_block body_depth) r) → a.rules.n < rule_limit → (fs : List Rule) → Follows fs a
    → Follows (fs ++ (r ∷ [])) b
row_added {id} {name} {n} {a} {b} r w e f l h fs g =
    let t = g.to in
    let u = w.to in
    let v : length (encode_rules (fs ++ (r ∷ []))) ≡ length (encode_rules fs) + length (encode_rule (encode_block body_depth) r) =
    ap length (each_append (encode_rule (encode_block body_depth)) fs (r ∷ []))
    ∙ length-append (encode_rules fs) (encode_rules (r ∷ []))
    ∙ ap (λ k. length (encode_rules fs) + k) (ap length (append-nil (encode_rule (encode_block body_depth) r))) in
    record {
      rows = rows_more newest fs r g.rows h (omega arith) e f w.rows;
      to = omega arith;
    }

-- None is added.
pub added_none : (work : List ℕ) (a : Draft) → Added [] work work a a
added_none work a =
    record {
      wrote = wrote_nothing work a.pen.to;
      to = omega arith;
      trail = refl;
      counters = refl;
      rows = λ fs g. subst (λ xs. Follows xs a) (sym (append-nil fs)) g;
    }

-- Some, and then others.
pub added_then : {rs rs' : List Rule} {work work' work'' : List ℕ} {a b c : Draft} → Added rs work work' a b → Added rs' work' work'' b c
    → Added (rs ++ rs') work work'' a c
added_then {rs} {rs'} {a = a} {c = c} x y =
    let e = each_append (encode_rule (encode_block body_depth)) rs rs' in
    let l = length-append (encode_rules rs) (encode_rules rs') in
    let t = x.to in
    let u = y.to in
    record {
      wrote = rw e (wrote_then x.to x.wrote y.wrote);
      to = rw e (omega arith);
      trail = y.trail ∙ x.trail;
      counters = y.counters ∙ x.counters;
      rows = λ fs g. subst (λ xs. Follows xs c) (append_assoc fs rs rs') (y.rows (fs ++ rs) (x.rows fs g));
    }

pub added_drafted : {rs : List Rule} {work work' : List ℕ} (t : List ℕ) {a b : Draft} → Added rs work work' a b
    → Drafted rs [] (counters_of a.pen.counters) work work' t t a b
added_drafted t x = record { drawn = drawn_words t x.wrote x.to x.trail x.counters; rows = x.rows }

pub drafted_then : {rs rs' : List Rule} {ys ys' zs : List ℕ} {c c' : Counters} {work work' work'' t t' t'' : List ℕ} {a b d : Draft}
    → zs ≡ ys ++ ys' → Drafted rs ys c work work' t t' a b → Drafted rs' ys' c' work' work'' t' t'' b d
    → Drafted (rs ++ rs') zs c' work work'' t t'' a d
drafted_then {rs} {rs'} {d = d} e x y =
    record {
      drawn = drawn_then (each_append (encode_rule (encode_block body_depth)) rs rs') e x.drawn y.drawn;
      rows = λ fs g. subst (λ xs. Follows xs d) (append_assoc fs rs rs') (y.rows (fs ++ rs) (x.rows fs g));
    }
