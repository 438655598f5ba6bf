-- What was decided is put on the stack: a split, or a splice.
use Prim.Native.Nat.{ℕ, suc, ◌*◌, ◌-◌}
use mathlib.Core.Path.{◌≡◌}
use mathlib.Core.List.{List}
use mathlib.Core.Bool.{Bool, true, false, not}
use native.Mathlib.Omega.{arith}
use Rattle.grammar.specs.Tree.{Block, RuleOf}
use Rattle.grammar.specs.Encode.{encode_rule, encode_block}
use Rattle.grammar.specs.Valid.{ok_rule, ok_block}
use Rattle.grammar.specs.Found.{Found}
use Rattle.reference.specs.Substitute.{Planned, decided, require, dangling_reference, remaining_actions_reference, split_optional}
use Rattle.reference.specs.Substitute.{splice_satellite, decide_each, splice_alternative}
use Rattle.planned.specs.Layout.{meaning}
use Rattle.planned.specs.List.{HasRoom}
use Rattle.planned.specs.Moves.{PushedSplit}
use Rattle.splices.specs.Moves.{PushedSplice, Spliceable}
use Rattle.splices.specs.Splice.{HandIn}
use Rattle.planned.specs.declared.list.Listed.{Listed}
use Rattle.planned.specs.declared.list.Sizes.{Sizes}
use Rattle.splices.specs.declared.splice.Size.{Size}
use Rattle.steps.specs.Step.{step_by, Goable, PushedBy}

-- What goes is the split.
split_is : (d : ℕ) (p : Planned d) (index : ℕ) (t : RuleOf (Block (suc d))) {ps : List (Planned d)} → step_by d p index t true ≡ decided ps
    → split_optional p index ≡ ps
split_is d p index t {ps} e = go (not (remaining_actions_reference d p.elements index t.name)) e
  where
    go : (b : Bool) → (require dangling_reference b λ _. decided (split_optional p index)) ≡ decided ps → split_optional p index ≡ ps
    go true f = cc
    go false f = absurd (let x : ◌≡◌ {A = ℕ} 0 1 = cc in omega arith)

-- What goes is each alternative's splice.
splice_is : (d : ℕ) (p : Planned d) (index : ℕ) (t : RuleOf (Block (suc d))) {ps : List (Planned d)} → step_by d p index t false ≡ decided ps
    → decide_each (splice_alternative d p index) t.body ≡ decided ps
unfolding splice_satellite
splice_is d p index t {ps} e = go (not (remaining_actions_reference d p.elements index t.name)) e
  where
    go : (b : Bool) → (require dangling_reference b λ _. decide_each (splice_alternative d p index) t.body) ≡ decided ps
        → decide_each (splice_alternative d p index) t.body ≡ decided ps
    go true f = f
    go false f = absurd (let x : ◌≡◌ {A = ℕ} 0 1 = cc in omega arith)

module _ {ws : List ℕ} {end d at : ℕ} {bs : List ℕ} {h : Listed} {index : ℕ} {optional : Bool} {z : Size}
    (k : Goable ws end d at bs h index optional z) where
  pub split_room : {l : Sizes} → optional ≡ true → HasRoom l z.a z.e z.o → HasRoom l 2 (2 * h.ne - 1) (2 * h.no)
  split_room o r =
      let s = k.split o in
      rw (s.alternatives, s.elements, s.options) at r

  pub spliceable : optional ≡ false → Spliceable ws end d at bs h index z.a z.e z.o
  spliceable o =
      record {
        is = λ t q s.
            let g = rw o at (k.goes t q s) in
            record {
              ps = g.ps;
              are = splice_is d (meaning ws end d bs h) index t g.is;
              alternatives = g.alternatives;
              elements = g.elements;
              options = g.options;
            };
      }

module _ {ws : List ℕ} {end d at : ℕ} {before after : List ℕ} {l r : Sizes} {h : Listed} {index : ℕ} {optional : Bool} {z : Size}
    (k : Goable ws end d at before h index optional z) (i : HandIn ws end d h index before) where
  pub split_pushed : optional ≡ true → PushedSplit before after l r h index → PushedBy ws end d at before after l r h index optional z
  split_pushed o p =
      let s = k.split o in
      record {
        is = λ t q u g.
            let e = split_is d (meaning ws end d before h) index t (rw o at g.is) in
            rw (← e) (p.is ws end d i.listed (k.call o));
        grown = rw (s.alternatives, s.elements, s.options) p.grown;
        laid = p.laid;
        long = p.long;
      }

  pub splice_pushed : optional ≡ false → PushedSplice ws end d at before after l r h index z.a z.e z.o
      → (f : Found ws end (encode_rule (encode_block (suc d))) (ok_rule (ok_block (suc d))) at) → PushedBy ws end d at before after l r h index optional z
  splice_pushed o p f =
      let it = p.is f.tree f.next f.spans ((spliceable k o).is f.tree f.next f.spans) in
      record {
        is = λ t q u g.
            p.is t q u
            (record {
              ps = g.ps;
              are = splice_is d (meaning ws end d before h) index t (rw o at g.is);
              alternatives = g.alternatives;
              elements = g.elements;
              options = g.options;
            });
        grown = p.grown;
        laid = it.laid;
        long = it.long;
      }

pub ruleset pushing = (split_room, spliceable, split_pushed, splice_pushed)
