-- What is promised of the tests before a step (SPECIFICATION 8.6 to 8.8, 10.5 and 10.7 to 10.9): labels, bindings, references and
-- options are found by what stands where, without a walk.
use Rattle.std.specs.Prelude.{ℕ, suc, ◌≤◌, ◌≡◌, ◌↔◌, ◌⊎◌, true, length}
use mathlib.Core.List.{List, ◌∷◌, ◌++◌, Memᴰ}
use Rattle.std.proofs.Math.Option.{none}
use Rattle.grammar.specs.Tree.{OptionDecl, Reference, labelled, ElementHead, Action, Predicate, Call, Leaf, action, predicate, call}
use Rattle.grammar.specs.Tree.{token, Element, leaf, block, AlternativeOf, Block}
use Rattle.reference.specs.Substitute.{labels_collide, implicit_bindings_collide, remaining_actions_reference, union_options}
use Rattle.laws.specs.Demands.Step.{Unnamed}

-- A head is that of an element in a list, or of one in an alternative of a block there, at any depth.
pub data HeadIn (h : ElementHead) : (d : ℕ) → List (Element (Block d)) → Type 0 where
  of_leaf : {d : ℕ} {es : List (Element (Block d))} {l : Leaf} → Memᴰ (leaf h l) es → HeadIn h d es
  of_block : {d : ℕ} {es : List (Element (Block d))} {b : Block d} → Memᴰ (block h b) es → HeadIn h d es
  head_deeper : {d : ℕ} {es : List (Element (Block (suc d)))} {k : ElementHead} {b : Block (suc d)} {a : AlternativeOf (Block d)}
      → Memᴰ (block k b) es → Memᴰ a b → HeadIn h d a.elements → HeadIn h (suc d) es

-- A leaf stands there.
pub data LeafIn (l : Leaf) : (d : ℕ) → List (Element (Block d)) → Type 0 where
  outermost : {d : ℕ} {es : List (Element (Block d))} {h : ElementHead} → Memᴰ (leaf h l) es → LeafIn l d es
  leaf_deeper : {d : ℕ} {es : List (Element (Block (suc d)))} {k : ElementHead} {b : Block (suc d)} {a : AlternativeOf (Block d)}
      → Memᴰ (block k b) es → Memᴰ a b → LeafIn l d a.elements → LeafIn l (suc d) es

module _ (d : ℕ) where
  abbrev pub Items : Type 0
  Items = List (Element (Block d))

  -- A label of some elements has a name.
  pub record Labels (n : ℕ) (es : Items) : Type 0 where
    pub head : ElementHead
    pub there : HeadIn head d es
    pub id : ℕ
    pub is_label : head.label ≡ labelled id n

  -- They bind a name: by a label, a call or a token.
  pub data Binds (n : ℕ) (es : Items) : Type 0 where
    by_label : Labels n es → Binds n es
    by_call : {c : Call} → LeafIn (call c) d es → c.name ≡ n → Binds n es
    by_token : LeafIn (token n) d es → Binds n es

  -- An action or a predicate of theirs has a reference.
  pub data HasReference (r : Reference) (es : Items) : Type 0 where
    in_action : {a : Action} → LeafIn (action a) d es → Memᴰ r a.references → HasReference r es
    in_predicate : {p : Predicate} → LeafIn (predicate p) d es → Memᴰ r p.references → HasReference r es

  -- They refer to a name: by a reference of any kind, and by one of kind 0 or 1.
  pub record RefersTo (n : ℕ) (es : Items) : Type 0 where
    pub reference : Reference
    pub there : HasReference reference es
    pub is_name : reference.name ≡ n

  pub record Reads (n : ℕ) (es : Items) : Type 0 where
    pub reference : Reference
    pub there : HasReference reference es
    pub is_name : reference.name ≡ n
    pub is_local : reference.kind ≤ 1

  -- Both have a label of one name; one refers to a name that the other binds.
  abbrev pub SameLabel : Items → Items → Type 0
  SameLabel around spliced = (n : ℕ) × Labels n around × Labels n spliced

  abbrev pub SameBinding : Items → Items → Type 0
  SameBinding around spliced = (n : ℕ) × ((Reads n around × Binds n spliced) ⊎ (Reads n spliced × Binds n around))

-- Of options joined by more, one has another value than the first of its name among those before it.
pub record OtherValue (os more : List OptionDecl) : Type 0 where
  pub front : List OptionDecl
  pub option : OptionDecl
  pub rest : List OptionDecl
  pub whole : front ++ (option ∷ rest) ≡ more
  pub before : List OptionDecl
  pub same : OptionDecl
  pub after : List OptionDecl
  pub stands : before ++ (same ∷ after) ≡ os ++ front
  pub is_first : Unnamed option.name before
  pub is_named : same.name ≡ option.name
  pub differs : same.value ≡ option.value → ⊥

pub record CollisionsTold (d : ℕ) : Type 0 where
  pub labels : (around spliced : Items d) → (labels_collide d around spliced ≡ true) ↔ SameLabel d around spliced
  pub bindings : (around spliced : Items d) → (implicit_bindings_collide d around spliced ≡ true) ↔ SameBinding d around spliced
  -- Of all elements but the call at a place.
  pub dangling : (front rest : Items d) (e : Element (Block d)) (n : ℕ)
      → (remaining_actions_reference d (front ++ (e ∷ rest)) (length front) n ≡ true) ↔ RefersTo d n (front ++ rest)
  pub options : (os more : List OptionDecl) → (union_options os more ≡ none) ↔ OtherValue os more
