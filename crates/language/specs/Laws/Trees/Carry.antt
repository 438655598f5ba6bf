-- Trees carried from one grammar to another, and pairs of shapes whose trees pair off.
use Rattle.std.specs.Prelude.{ℕ, ◌≡◌, refl}
use Rattle.std.proofs.Common.{sym, ap, ap₂, ◌∙◌, subst}
use Rattle.std.proofs.Math.Path.{subst_refl, path_j}
use Rattle.std.proofs.Math.Option.{Option, none, some, is_set}
use Rattle.std.proofs.Math.Nat.{ℕ_set}
use Rattle.language.specs.Shape.{Shape, Symbol, Symbol-set', Shape-set', call_of, Shapes, find}
use Rattle.language.specs.Readings.{Tree, t_eps, t_symbol, t_call, t_unknown, t_seq, t_left, t_right, t_absent, t_present, t_none}
use Rattle.language.specs.Readings.{t_more, t_some, yield}
use Rattle.language.specs.Laws.Cover.{ButFor}

-- Between two symbols there is at most one path, and so between shapes, and between what is found for a name: the paths in a tree
-- count nothing.
pub Symbol-set : IsSet Symbol
Symbol-set = Symbol-set' ℕ_set

pub Shape-set : IsSet Shape
Shape-set = Shape-set' Symbol-set ℕ_set

pub found_set : IsSet (Option Shape)
found_set = is_set Shape-set

-- How a call's node is carried over; every other node is kept.
pub record Covers (X Y : Shapes) : Type 0 where
  pub bodies : (n : ℕ) (b : Shape) → find X n ≡ some b → Tree Y b → Tree Y (call_of n)
  pub unknowns : (n : ℕ) → find X n ≡ none → find Y n ≡ none

-- A tree in another grammar.
unfoldable pub carry : {X Y : Shapes} → Covers X Y → {s : Shape} → Tree X s → Tree Y s
carry c t_eps = t_eps
carry c t_symbol = t_symbol
carry c (t_call {n = n} {b = b} e x) = c.bodies n b e (carry c x)
carry c (t_unknown {n = n} e) = t_unknown (c.unknowns n e)
carry c (t_seq x y) = t_seq (carry c x) (carry c y)
carry c (t_left x) = t_left (carry c x)
carry c (t_right x) = t_right (carry c x)
carry c t_absent = t_absent
carry c (t_present x) = t_present (carry c x)
carry c t_none = t_none
carry c (t_more x y) = t_more (carry c x) (carry c y)
carry c (t_some x y) = t_some (carry c x) (carry c y)

-- The call of every rule but H is carried over as it is.
pub record Plain (H : ℕ) {X Y : Shapes} (c : Covers X Y) : Type 0 where
  pub calls : (n : ℕ) (b : Shape) → (n ≡ H → ⊥) → (e : find X n ≡ some b) (f : find Y n ≡ some b) (x : Tree Y b)
      → c.bodies n b e x ≡ t_call f x

-- The trees of two shapes pair off in every grammar that differs from G in the body of H alone; the string is kept; and the
-- pairing does not look below calls of H: it commutes with all that changes those alone.
pub record Pairs (H : ℕ) (G : Shapes) (s t : Shape) : Type 0 where
  pub to : (X : Shapes) → ButFor H G X → Tree X s → Tree X t
  pub from : (X : Shapes) → ButFor H G X → Tree X t → Tree X s
  pub there : (X : Shapes) (o : ButFor H G X) (x : Tree X t) → to X o (from X o x) ≡ x
  pub back : (X : Shapes) (o : ButFor H G X) (x : Tree X s) → from X o (to X o x) ≡ x
  pub strings : (X : Shapes) (o : ButFor H G X) (x : Tree X s) → yield (to X o x) ≡ yield x
  pub commutes : (X Y : Shapes) (o : ButFor H G X) (p : ButFor H G Y) (c : Covers X Y) → Plain H c → (x : Tree X s)
      → carry c (to X o x) ≡ to Y p (carry c x)

module _ {H : ℕ} {G : Shapes} where
  -- Each shape pairs off with itself.
  unfoldable pub pairs_refl : (s : Shape) → Pairs H G s s
  pairs_refl s =
      record {
        to = λ X o x. x;
        from = λ X o x. x;
        there = λ X o x. refl;
        back = λ X o x. refl;
        strings = λ X o x. refl;
        commutes = λ X Y o p c k x. refl;
      }

  -- By way of a third.
  unfoldable pub pairs_trans : {s t u : Shape} → Pairs H G s t → Pairs H G t u → Pairs H G s u
  pairs_trans p q =
      record {
        to = λ X o x. q.to X o (p.to X o x);
        from = λ X o x. p.from X o (q.from X o x);
        there = λ X o x. ap (q.to X o) (p.there X o (q.from X o x)) ∙ q.there X o x;
        back = λ X o x. ap (p.from X o) (q.back X o (p.to X o x)) ∙ p.back X o x;
        strings = λ X o x. q.strings X o (p.to X o x) ∙ p.strings X o x;
        commutes = λ X Y o r c k x. q.commutes X Y o r c k (p.to X o x) ∙ ap (q.to Y r) (p.commutes X Y o r c k x);
      }

  -- The other way round commutes too.
  pub commutes_back : {s t : Shape} (p : Pairs H G s t) (X Y : Shapes) (o : ButFor H G X) (r : ButFor H G Y) (c : Covers X Y) → Plain H c
      → (x : Tree X t) → carry c (p.from X o x) ≡ p.from Y r (carry c x)
  commutes_back p X Y o r c k x =
      sym (p.back Y r (carry c (p.from X o x)))
      ∙ ap (p.from Y r) (sym (p.commutes X Y o r c k (p.from X o x)) ∙ ap (carry c) (p.there X o x))

  -- The other way round.
  unfoldable pub pairs_sym : {s t : Shape} → Pairs H G s t → Pairs H G t s
  pairs_sym p =
      record {
        to = p.from;
        from = p.to;
        there = p.back;
        back = p.there;
        strings = λ X o x. sym (p.strings X o (p.from X o x)) ∙ ap yield (p.there X o x);
        commutes = commutes_back p;
      }

-- A call's node does not tell by which proof its body was found.
pub call_path : {X : Shapes} {n : ℕ} {b : Shape} (e f : find X n ≡ some b) {x y : Tree X b} → x ≡ y → t_call e x ≡ t_call f y
call_path {X} {n} {b} e f p =
    let node : find X n ≡ some b → Tree X b → Tree X (call_of n) = λ g z. t_call g z in
    ap₂ node (found_set (find X n) (some b) e f) p

-- Nor under which name for the body.
pub call_moved : {X : Shapes} {n : ℕ} {b : Shape} (x : Tree X b) {c : Shape} (q : b ≡ c) (e : find X n ≡ some b) (f : find X n ≡ some c)
    → t_call e x ≡ t_call f (subst (Tree X) q x)
call_moved {X} {n} {b} x =
    path_j (λ c q. (e : find X n ≡ some b) (f : find X n ≡ some c) → t_call e x ≡ t_call f (subst (Tree X) q x))
    (λ e f. call_path e f (sym (subst_refl (Tree X) x)))

-- Nor does the node of a symbol tell by which proof its name is unknown.
pub unknown_path : {X : Shapes} {n : ℕ} (e f : find X n ≡ none) → ◌≡◌ {A = Tree X (call_of n)} (t_unknown e) (t_unknown f)
unknown_path {X} {n} e f =
    let node : find X n ≡ none → Tree X (call_of n) = λ g. t_unknown g in
    ap node (found_set (find X n) none e f)

-- A loop of a shape's carries a tree to itself.
pub loop : {X : Shapes} {b : Shape} (q : b ≡ b) (x : Tree X b) → subst (Tree X) q x ≡ x
loop {X} {b} q x = ap (λ r. subst (Tree X) r x) (Shape-set b b q refl) ∙ subst_refl (Tree X) x

-- What is carried, and what is derived, does not ask for the name of the shape.
pub carry_subst : {X Y : Shapes} (c : Covers X Y) {b d : Shape} (q : b ≡ d) (x : Tree X b)
    → carry c (subst (Tree X) q x) ≡ subst (Tree Y) q (carry c x)
carry_subst {X} {Y} c {b} q x =
    path_j (λ d q. carry c (subst (Tree X) q x) ≡ subst (Tree Y) q (carry c x))
    (ap (carry c) (subst_refl (Tree X) x) ∙ sym (subst_refl (Tree Y) (carry c x))) q

pub yield_subst : {X : Shapes} {b d : Shape} (q : b ≡ d) (x : Tree X b) → yield (subst (Tree X) q x) ≡ yield x
yield_subst {X} q x = path_j (λ d q. yield (subst (Tree X) q x) ≡ yield x) (ap yield (subst_refl (Tree X) x)) q
