-- A splice on the stack: the records have room, and are what the definition makes of them.
use Prim.Native.Nat.{ℕ, suc, ◌+◌, ◌-◌}
use mathlib.Core.Path.{◌≡◌, refl, ap}
use mathlib.Core.List.{List, [], ◌∷◌}
use native.Mathlib.Omega.{arith}
use lib.ListN.{length}
use Rattle.grammar.specs.Tree.{Block, RuleOf, inner_depth}
use Rattle.grammar.specs.Encode.{encode_block, encode_rule}
use Rattle.grammar.specs.Valid.{ok_block, ok_rule}
use Rattle.grammar.specs.Found.{Found, FoundRule, RuleSpans}
use Rattle.grammar.specs.Laws.Opened.{rule_words_lem}
use Rattle.reference.specs.Substitute.{Decided, decided, decide_each, splice_alternative}
use Rattle.planned.specs.Layout.{meaning}
use Rattle.planned.specs.List.{Laid, HasRoom}
use Rattle.planned.specs.Moves.{Pushed}
use Rattle.splices.specs.Moves.{SplicedTo, Spliceable, PushedSplice}
use Rattle.splices.specs.Splice.{AllFit, AllPut}
use Rattle.planned.specs.Laws.Runs.{run_elements, run_options}
use Rattle.planned.specs.Laws.Kept.{with_top, pushed_run}
use Rattle.planned.specs.declared.list.Sizes.{Sizes}
use Rattle.planned.specs.declared.list.Listed.{Listed}
use Rattle.splices.proofs.Laws.SpliceDecided.{each_by, each_none}

each_length : {A B : Type 0} (f : A → Decided B) (xs : List A) (bs : List B) → decide_each f xs ≡ decided bs → length bs ≡ length xs
each_length f [] bs e = rw (each_none f bs e) refl
each_length f (x ∷ xs) bs e =
    let by = each_by f x xs bs e in
    rw by.are (ap suc (each_length f xs by.others by.then'))

module _ (d : ℕ) {ws : List ℕ} {end at : ℕ} {h : Listed} {index a e o : ℕ} {l : Sizes} {before : List ℕ} (laid : Laid before l)
    (room : HasRoom l a e o) where
  splice_fits : Found ws end (encode_rule (encode_block (suc d))) (ok_rule (ok_block (suc d))) at → Spliceable ws end d at before h index a e o
      → AllFit ws end d h index a (at + 4) before (l.top.a - a) (l.top.e - e) (l.top.o - o) l.top.e l.top.o
  splice_fits f s =
      let t = s.is f.tree f.next f.spans in
      let w = rule_words_lem d f.spans in
      let c = each_length (splice_alternative d (meaning ws end d before h) index) f.tree.body t.ps t.are in
      let u = t.alternatives in
      let v = t.elements in
      let x = t.options in
      record {
        body = f.tree.body;
        next = f.next;
        spans = w.alternatives;
        count = omega arith;
        ps = t.ps;
        are = t.are;
        heads = omega arith;
        elements = omega arith;
        options = omega arith;
        few_elements = laid.top_e;
        few_options = laid.top_o;
      }

  module _ {after : List ℕ}
      (g : AllPut ws end d h index a (at + 4) before after (l.top.a - a) (l.top.e - e) (l.top.o - o) l.top.e l.top.o) where
    splice_pushed : PushedSplice ws end d at before after l (with_top l (l.top.a - a) (l.top.e - e) (l.top.o - o)) h index a e o
    splice_pushed =
        record {
          is = pushed;
          grown = record { alternatives = omega arith; elements = omega arith; options = omega arith };
        }
      where
        pushed : (t : RuleOf (Block (suc d))) (q : ℕ) → RuleSpans ws end (suc d) at t q
            → (s : SplicedTo d (meaning ws end d before h) index t.body a e o)
            → Pushed ws end d before after l (with_top l (l.top.a - a) (l.top.e - e) (l.top.o - o)) s.ps
        pushed t q r s =
            let w = rule_words_lem d r in
            let c = each_length (splice_alternative d (meaning ws end d before h) index) t.body s.ps s.are in
            let u = s.alternatives in
            let v = s.elements in
            let x = s.options in
            let m = g.meant t.body q w.alternatives (omega arith) s.ps s.are in
            let es = rw m at (run_elements after ws end d a (l.top.a - a) (l.top.e - e) (l.top.o - o)) in
            let os = rw m at (run_options after ws end d a (l.top.a - a) (l.top.e - e) (l.top.o - o)) in
            let z : l.top.a - a + a ≡ l.top.a = omega arith in
            rw m at (pushed_run laid
            (record {
              out_a = omega arith;
              out_e = omega arith;
              out_o = omega arith;
              heads = z;
              elements = omega arith;
              options = omega arith;
            })
            (rw z at g.outside) ws end d (rw z at g.stands))

-- At the depth of a rule's own alternatives.
pub rule_fits : {ws : List ℕ} {end at : ℕ} {h : Listed} {index a e o : ℕ} {l : Sizes} {before : List ℕ} → Laid before l → HasRoom l a e o
    → FoundRule ws end at → Spliceable ws end inner_depth at before h index a e o
    → AllFit ws end 8 h index a (at + 4) before (l.top.a - a) (l.top.e - e) (l.top.o - o) l.top.e l.top.o
rule_fits laid room f s = splice_fits 8 laid room f s

pub rule_pushed : {l : Sizes} {before : List ℕ} {a e o : ℕ} → Laid before l → HasRoom l a e o → {ws : List ℕ} {end at : ℕ} {h : Listed}
    {index : ℕ} {r : Sizes} {after : List ℕ} → r ≡ with_top l (l.top.a - a) (l.top.e - e) (l.top.o - o)
    → AllPut ws end 8 h index a (at + 4) before after (l.top.a - a) (l.top.e - e) (l.top.o - o) l.top.e l.top.o
    → PushedSplice ws end inner_depth at before after l r h index a e o
rule_pushed laid room is g = rw is (splice_pushed 8 laid room g)
