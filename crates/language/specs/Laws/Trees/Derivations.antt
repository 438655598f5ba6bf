-- A derivation of a string is a tree whose string it is: nothing else is counted. So trees that pair off and keep their
-- strings make derivations of each string pair off.
use Rattle.std.specs.Prelude.{◌≡◌}
use Rattle.std.proofs.Math.Path.{refl, ap, ap₂, subst_refl, path_j}
use Rattle.std.proofs.Common.{sym, ◌∙◌, subst}
use mathlib.Core.List.{◌++◌, is_set}
use mathlib.Core.Equiv.{Iso}
use mathlib.Core.HLevel.{Σ_prop_path}
use Rattle.language.specs.Shape.{Word, Shape, Shapes}
use Rattle.language.specs.Derive.{Der, d_eps, d_symbol, d_call, d_unknown, d_seq, d_left, d_right, d_absent, d_present, d_none}
use Rattle.language.specs.Derive.{d_more, d_some}
use Rattle.language.specs.Readings.{Tree, t_eps, t_symbol, t_call, t_unknown, t_seq, t_left, t_right, t_absent, t_present, t_none}
use Rattle.language.specs.Readings.{t_more, t_some, yield, Reading, tree_of}
use Rattle.language.specs.Laws.Trees.Carry.{Symbol-set}
use Rattle.language.specs.Laws.Trees.Replace.{Paired}

-- Between two words there is at most one path, so that the paths in a derivation count nothing.
pub Word-set : IsSet Word
Word-set = is_set Symbol-set

module _ {G : Shapes} where
  -- Its string.
  unfoldable pub string_of : {s : Shape} {w : Word} (d : Der G s w) → yield (tree_of d) ≡ w
  unfolding tree_of yield
  string_of d_eps = refl
  string_of d_symbol = refl
  string_of (d_call e d) = string_of d
  string_of (d_unknown e) = refl
  string_of (d_seq e d f) = ap₂ ◌++◌ (string_of d) (string_of f) ∙ e
  string_of (d_left d) = string_of d
  string_of (d_right d) = string_of d
  string_of d_absent = refl
  string_of (d_present d) = string_of d
  string_of d_none = refl
  string_of (d_more e d f) = ap₂ ◌++◌ (string_of d) (string_of f) ∙ e
  string_of (d_some e d f) = ap₂ ◌++◌ (string_of d) (string_of f) ∙ e

  -- The derivation of a tree.
  unfoldable pub derives : {s : Shape} (x : Tree G s) → Der G s (yield x)
  unfolding yield
  derives t_eps = d_eps
  derives t_symbol = d_symbol
  derives (t_call e x) = d_call e (derives x)
  derives (t_unknown e) = d_unknown e
  derives (t_seq x y) = d_seq refl (derives x) (derives y)
  derives (t_left x) = d_left (derives x)
  derives (t_right x) = d_right (derives x)
  derives t_absent = d_absent
  derives (t_present x) = d_present (derives x)
  derives t_none = d_none
  derives (t_more x y) = d_more refl (derives x) (derives y)
  derives (t_some x y) = d_some refl (derives x) (derives y)

  -- It is the derivation of that tree, whatever its word is called.
  pub tree_derives : {s : Shape} (x : Tree G s) → tree_of (derives x) ≡ x
  unfolding tree_of derives yield
  tree_derives t_eps = refl
  tree_derives t_symbol = refl
  tree_derives (t_call e x) = ap (t_call e) (tree_derives x)
  tree_derives (t_unknown e) = refl
  tree_derives (t_seq x y) = ap₂ t_seq (tree_derives x) (tree_derives y)
  tree_derives (t_left x) = ap t_left (tree_derives x)
  tree_derives (t_right x) = ap t_right (tree_derives x)
  tree_derives t_absent = refl
  tree_derives (t_present x) = ap t_present (tree_derives x)
  tree_derives t_none = refl
  tree_derives (t_more x y) = ap₂ t_more (tree_derives x) (tree_derives y)
  tree_derives (t_some x y) = ap₂ t_some (tree_derives x) (tree_derives y)

  pub tree_moved : {s : Shape} {v w : Word} (p : v ≡ w) (d : Der G s v) → tree_of (subst (Der G s) p d) ≡ tree_of d
  tree_moved {s} p d = path_j (λ w p. tree_of (subst (Der G s) p d) ≡ tree_of d) (ap tree_of (subst_refl (Der G s) d)) p

  -- One node with one part, and one with two, over another word.
  under : {s t : Shape} (f : (w : Word) → Der G s w → Der G t w) {v w : Word} (p : v ≡ w) (d : Der G s v)
      → subst (Der G t) p (f v d) ≡ f w (subst (Der G s) p d)
  under {s} {t} f {v} p d =
      path_j (λ w p. subst (Der G t) p (f v d) ≡ f w (subst (Der G s) p d))
      (subst_refl (Der G t) (f v d) ∙ ap (f v) (sym (subst_refl (Der G s) d))) p

  module _ {s t r : Shape} (f : (u v w : Word) → u ++ v ≡ w → Der G s u → Der G t v → Der G r w) where
    joined : (u v w : Word) (e : u ++ v ≡ w) (x : Der G s u) (y : Der G t v) → subst (Der G r) e (f u v (u ++ v) refl x y) ≡ f u v w e x y
    joined u v w e x y =
        path_j (λ w e. subst (Der G r) e (f u v (u ++ v) refl x y) ≡ f u v w e x y) (subst_refl (Der G r) (f u v (u ++ v) refl x y)) e

    two : (u v w : Word) {u' v' : Word} (p : u ≡ u') (q : v ≡ v') (e : u' ++ v' ≡ w) (l : u ++ v ≡ w) (x : Der G s u) (y : Der G t v)
        → subst (Der G r) l (f u v (u ++ v) refl x y) ≡ f u' v' w e (subst (Der G s) p x) (subst (Der G t) q y)
    two u v w {u'} {v'} p q e l x y =
        path_j (λ u' p. (v' : Word) (q : v ≡ v') (e : u' ++ v' ≡ w)
        → subst (Der G r) l (f u v (u ++ v) refl x y) ≡ f u' v' w e (subst (Der G s) p x) (subst (Der G t) q y))
        (λ v' q.
        path_j (λ v' q. (e : u ++ v' ≡ w)
        → subst (Der G r) l (f u v (u ++ v) refl x y) ≡ f u v' w e (subst (Der G s) refl x) (subst (Der G t) q y))
        (λ e.
        joined u v w l x y
        ∙ ap (λ z. f u v w z x y) (Word-set (u ++ v) w l e)
        ∙ ap₂ (f u v w e) (sym (subst_refl (Der G s) x)) (sym (subst_refl (Der G t) y))) q) p v' q e

  -- The derivation of a derivation's tree is that derivation.
  pub derives_tree : {s : Shape} {w : Word} (d : Der G s w) → subst (Der G s) (string_of d) (derives (tree_of d)) ≡ d
  unfolding tree_of derives yield string_of
  derives_tree (d_eps) = subst_refl (Der G _) d_eps
  derives_tree (d_symbol) = subst_refl (Der G _) d_symbol
  derives_tree (d_call e d) = under (λ w x. d_call e x) (string_of d) (derives (tree_of d)) ∙ ap (d_call e) (derives_tree d)
  derives_tree (d_unknown e) = subst_refl (Der G _) (d_unknown e)
  derives_tree (d_seq {u = u} {v = v} {w = w} e d f) =
      two (λ u v w e x y. d_seq e x y) (yield (tree_of d)) (yield (tree_of f)) w (string_of d) (string_of f) e _ (derives (tree_of d))
      (derives (tree_of f))
      ∙ ap₂ (d_seq e) (derives_tree d) (derives_tree f)
  derives_tree (d_left d) = under (λ w x. d_left x) (string_of d) (derives (tree_of d)) ∙ ap d_left (derives_tree d)
  derives_tree (d_right d) = under (λ w x. d_right x) (string_of d) (derives (tree_of d)) ∙ ap d_right (derives_tree d)
  derives_tree (d_absent) = subst_refl (Der G _) d_absent
  derives_tree (d_present d) = under (λ w x. d_present x) (string_of d) (derives (tree_of d)) ∙ ap d_present (derives_tree d)
  derives_tree (d_none) = subst_refl (Der G _) d_none
  derives_tree (d_more {u = u} {v = v} {w = w} e d f) =
      two (λ u v w e x y. d_more e x y) (yield (tree_of d)) (yield (tree_of f)) w (string_of d) (string_of f) e _ (derives (tree_of d))
      (derives (tree_of f))
      ∙ ap₂ (d_more e) (derives_tree d) (derives_tree f)
  derives_tree (d_some {u = u} {v = v} {w = w} e d f) =
      two (λ u v w e x y. d_some e x y) (yield (tree_of d)) (yield (tree_of f)) w (string_of d) (string_of f) e _ (derives (tree_of d))
      (derives (tree_of f))
      ∙ ap₂ (d_some e) (derives_tree d) (derives_tree f)

  -- A derivation of a string is a tree whose string it is.
  unfoldable pub derivations : (s : Shape) (w : Word) → Iso (Der G s w) (Reading G s w)
  derivations s w =
      record {
        fun = λ d. (tree_of d, string_of d);
        inv = λ r. subst (Der G s) r.1 (derives r.0);
        rinv = λ r.
            Σ_prop_path {B = λ x. yield x ≡ w} (λ x. Word-set (yield x) w)
            {u = (tree_of (subst (Der G s) r.1 (derives r.0)), string_of (subst (Der G s) r.1 (derives r.0)))} {v = r}
            (tree_moved r.1 (derives r.0) ∙ tree_derives r.0);
        linv = derives_tree;
      }

-- What pairs off as trees pairs off as derivations of each string.
pub paired_derivations : {G K : Shapes} {s t : Shape} → Paired G s K t → (w : Word) → Iso (Der G s w) (Der K t w)
paired_derivations {G} {K} {s} {t} p w =
    let g = derivations {G = G} s w in
    let k = derivations {G = K} t w in
    let over : Reading G s w → Reading K t w = λ r. (p.to r.0, p.strings r.0 ∙ r.1) in
    let under : Reading K t w → Reading G s w = λ r.
    (p.from r.0, (sym (p.strings (p.from r.0)) ∙ ap yield (p.there r.0)) ∙ r.1) in
    let there : (r : Reading K t w) → over (under r) ≡ r = λ r.
    Σ_prop_path {B = λ x. yield x ≡ w} (λ x. Word-set (yield x) w) {u = over (under r)} {v = r} (p.there r.0) in
    let back : (r : Reading G s w) → under (over r) ≡ r = λ r.
    Σ_prop_path {B = λ x. yield x ≡ w} (λ x. Word-set (yield x) w) {u = under (over r)} {v = r} (p.back r.0) in
    record {
      fun = λ d. k.inv (over (g.fun d));
      inv = λ d. g.inv (under (k.fun d));
      rinv = λ d. ap (λ r. k.inv (over r)) (g.rinv (under (k.fun d))) ∙ ap k.inv (there (k.fun d)) ∙ k.linv d;
      linv = λ d. ap (λ r. g.inv (under r)) (k.rinv (over (g.fun d))) ∙ ap g.inv (back (g.fun d)) ∙ g.linv d;
    }

-- It is the tree that is paired.
pub paired_tree : {G K : Shapes} {s t : Shape} (p : Paired G s K t) (w : Word) (d : Der G s w)
    → tree_of ((paired_derivations p w).fun d) ≡ p.to (tree_of d)
unfolding paired_derivations derivations
paired_tree p w d = tree_moved (p.strings (tree_of d) ∙ string_of d) (derives (p.to (tree_of d))) ∙ tree_derives (p.to (tree_of d))
