-- The elements of a listed alternative, from an index on; and the tests of them.
use Prim.Native.Nat.{ℕ, ◌+◌, ◌≤◌}
use mathlib.Core.Path.{◌≡◌, refl, sym, ap, ◌∙◌}
use mathlib.Core.List.{List, ◌∷◌}
use mathlib.Core.Bool.{Bool, true, false, ◌&&◌, ◌||◌, not, and-true, and_assoc}
use native.Mathlib.Omega.{arith}
use lib.ListN.{drop}
use Rattle.grammar.specs.Tree.{Element, Block, inner_depth}
use Rattle.grammar.specs.Lists.{all, any}
use Rattle.reference.specs.Walks.{is_epsilon_only}
use Rattle.planned.specs.Layout.{made_if}
use Rattle.planned.specs.List.{ItemAt}
use Rattle.planned.specs.Shown.{meant, ItemOf}
use Rattle.planned.specs.Laws.Items.{item_found}
use Rattle.planned.specs.Laws.Shown.{none_left}
use Rattle.planned.specs.declared.shown.Shown.{Shown}
use Rattle.words.specs.Sheet.{text}
use Rattle.rewritable.specs.Items.{is_call_of, gives_arguments, starts_with_call, may_be_rewritten, ItemTested}
use Rattle.rewritable.specs.Walks.{ItemStands}

module _ {ws : List ℕ} {end d : ℕ} {es : List (Element (Block d))} {i at : ℕ} {made : Bool} (there : ItemAt ws end d es i at made) where
  pub item_stands : ItemStands ws end d at made
  item_stands = record { found = there.found; call = there.call }

  abbrev pub this : Element (Block d)
  this = made_if made there.found.tree

  pub next_left : drop i es ≡ this ∷ drop (i + 1) es
  next_left = there.here there.found.tree there.found.next there.found.spans

  tested : {test : Element (Block d) → Bool} {r : Bool} → ItemTested ws end d at made test r → r ≡ test this
  tested t = t.is there.found.tree there.found.next there.found.spans

pub ruleset found = (item_stands, item_found)

-- The first element.
pub starts_not : (a : Shown) (m : ℕ) → a.x.ne ≡ 0 → false ≡ starts_with_call m (meant a).elements
unfolding starts_with_call
starts_not a m e = sym (ap (starts_with_call m) (none_left a 0 (omega arith)))

pub starts_by : (a : Shown) {at : ℕ} {made : Bool} (m : ℕ) {r : Bool} → ItemOf a 0 at made
    → ItemTested (text a.s.now) a.s.now.end inner_depth at made (is_call_of m) r → r ≡ starts_with_call m (meant a).elements
unfolding starts_with_call
starts_by a m i t = tested i t ∙ sym (ap (starts_with_call m) (next_left i))

pub ruleset starts = (item_found, starts_not, starts_by)

-- The loop over all elements: what is left decides.
module _ (a : Shown) (m : ℕ) where
  abbrev es : List (Element (Block inner_depth))
  es = (meant a).elements

  pub record Testing (i : ℕ) (silent : Bool) : Type 0 where
    pub same : may_be_rewritten m es ≡ not (any (gives_arguments m) (drop i es) || (silent && all is_epsilon_only (drop i es)))

  pub test_none : Testing 0 true
  unfolding may_be_rewritten
  test_none = record { same = refl }

  module _ {i : ℕ} {silent : Bool} (g : Testing i silent) where
    pub test_all : a.x.ne ≤ i → not silent ≡ may_be_rewritten m es
    unfolding any all
    test_all l =
        sym (g.same
        ∙ ap (λ zs. not (any (gives_arguments m) zs || (silent && all is_epsilon_only zs))) (none_left a i l)
        ∙ ap not (and-true silent))

    module _ {at : ℕ} {made : Bool} (item : ItemOf a i at made) {r : Bool}
        (t : ItemTested (text a.s.now) a.s.now.end inner_depth at made (gives_arguments m) r) where
      abbrev rest : List (Element (Block inner_depth))
      rest = drop (i + 1) es

      abbrev e : Element (Block inner_depth)
      e = this item

      opened : may_be_rewritten m es ≡ not ((r || any (gives_arguments m) rest) || (silent && (is_epsilon_only e && all is_epsilon_only rest)))
      unfolding any all
      opened =
          g.same
          ∙ ap (λ zs. not (any (gives_arguments m) zs || (silent && all is_epsilon_only zs))) (next_left item)
          ∙ ap (λ b. not ((b || any (gives_arguments m) rest) || (silent && (is_epsilon_only e && all is_epsilon_only rest))))
          (sym (tested item t))

      pub test_stop : r ≡ true → false ≡ may_be_rewritten m es
      test_stop y = sym (rw y at opened)

      pub test_more : r ≡ false → {u : Bool} → ItemTested (text a.s.now) a.s.now.end inner_depth at made is_epsilon_only u → Testing (i + 1) (silent && u)
      test_more n {u} k =
          record {
            same =
                (rw n at opened)
                ∙ ap (λ b. not (any (gives_arguments m) rest || b))
                (sym (and_assoc silent (is_epsilon_only e) (all is_epsilon_only rest))
                ∙ ap (λ b. (silent && b) && all is_epsilon_only rest) (sym (tested item k)));
          }

pub ruleset testing = (item_found, test_none, test_all, test_stop, test_more)
