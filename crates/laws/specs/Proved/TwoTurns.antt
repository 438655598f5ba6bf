-- The two turns by which `a? DOTS | INT` becomes `e PLUS DOTS | DOTS | DOTS | INT`, a having the alternatives `e PLUS` and none: there
-- are no other two that start there, so that what they do to a tree is known.
use Rattle.std.specs.Prelude.{ℕ, ◌≡◌, Bool, true, false}
use Rattle.std.proofs.Math.Path.{refl, sym, ap, subst}
use Rattle.std.proofs.Common.{ap₂, ◌∙◌, true≢false, arith}
use mathlib.Core.List.Memᴰ
use mathlib.Core.List.{List, [], ◌∷◌, ◌++◌, map, Memᴰ}
use Rattle.std.proofs.Math.Option.{some, some-injective}
use Rattle.grammar.specs.Lists.{any}
use Rattle.language.specs.Shape.{token_symbol, Shape, eps, fail, symbol, call_of, seq, alt, opt, star, plus, seqs, alts, Shapes, find}
use Rattle.language.specs.Readings.{Tree, t_eps, t_symbol, t_call, t_seq, t_left, t_right, t_absent, t_present, Choice}
use Rattle.language.specs.Readings.{first, next, absent, present, choices}
use Rattle.language.specs.Laws.Cover.{ButFor}
use Rattle.language.specs.Laws.Trees.Carry.{Pairs, pairs_refl, pairs_trans}
use Rattle.language.specs.Laws.Trees.Algebra.{join}
use Rattle.language.specs.Laws.Trees.Steps.{split_pairs, splice_pairs, slot_pairs}
use Rattle.language.specs.Laws.Trees.Slots.{At, here, there, on_at, in_front, behind, in_slot, around, split_there_lem, split_gone_lem}
use Rattle.language.specs.Laws.Trees.Slots.{splice_slot}
use Rattle.language.specs.Laws.Trees.Slots.{slot_here_lem, slot_rest_lem}
use Rattle.language.specs.Laws.Trees.Turns.{split, splice, Turn, slot, Turns, still, onward}
use Rattle.language.specs.Laws.Trees.Told.{told_apart_lem}
use Rattle.laws.specs.Lists.Lookup.{any_false}

-- The parts of a sequence, and the alternatives of a choice.
abbrev parts : Shape → List Shape
parts eps = []
parts fail = []
parts (symbol a) = []
parts (call_of n) = []
parts (seq s t) = s ∷ parts t
parts (alt s t) = []
parts (opt s) = []
parts (star s) = []
parts (plus s) = []

abbrev branches : Shape → List Shape
branches eps = []
branches fail = []
branches (symbol a) = []
branches (call_of n) = []
branches (seq s t) = []
branches (alt s t) = s ∷ branches t
branches (opt s) = []
branches (star s) = []
branches (plus s) = []

parts_of : (xs : List Shape) → parts (seqs xs) ≡ xs
parts_of [] = refl
parts_of (x ∷ xs) = ap (λ l. x ∷ l) (parts_of xs)

branches_of : (xs : List Shape) → branches (alts xs) ≡ xs
branches_of [] = refl
branches_of (x ∷ xs) = ap (λ l. x ∷ l) (branches_of xs)

each_of : (xs : List (List Shape)) → map parts (map seqs xs) ≡ xs
each_of [] = refl
each_of (x ∷ xs) = ap₂ ◌∷◌ (parts_of x) (each_of xs)

-- What can be turned: an optional, and a call.
abbrev is_optional : Shape → Bool
is_optional eps = false
is_optional fail = false
is_optional (symbol a) = false
is_optional (call_of n) = false
is_optional (seq s t) = false
is_optional (alt s t) = false
is_optional (opt s) = true
is_optional (star s) = false
is_optional (plus s) = false

abbrev is_call : Shape → Bool
is_call eps = false
is_call fail = false
is_call (symbol a) = false
is_call (call_of n) = true
is_call (seq s t) = false
is_call (alt s t) = false
is_call (opt s) = false
is_call (star s) = false
is_call (plus s) = false

-- What stands in the middle of a list is one of its items.
middle : {A : Type 0} (front : List A) {a : A} (rest l : List A) → front ++ (a ∷ rest) ≡ l → Memᴰ a l
middle front {a} rest l e = subst (Memᴰ a) e (Memᴰ.append_right front (Memᴰ.head refl))

module _ (test : Shape → Bool) (α : List Shape) (s : Shape) (β : List Shape) (t : test s ≡ true) where
  -- It is not in a sequence without such a part, nor in an alternative of which none has such a part.
  not_part : (l : List Shape) → any test l ≡ false → α ++ (s ∷ β) ≡ l → ⊥
  not_part l f e = true≢false (sym t ∙ any_false test f (middle α β l e))

  not_branch : (l : List Shape) → any (λ a. any test (parts a)) l ≡ false → (front rest : List Shape)
      → front ++ (seqs (α ++ (s ∷ β)) ∷ rest) ≡ l → ⊥
  not_branch l f front rest e =
      not_part (α ++ (s ∷ β))
      (sym (ap (any test) (parts_of (α ++ (s ∷ β)))) ∙ any_false (λ a. any test (parts a)) f (middle front rest l e)) refl

abbrev dots : Shape
dots = symbol (token_symbol 5)

abbrev int : Shape
int = symbol (token_symbol 3)

-- The alternatives of the satellite; of the hub before, and after the split.
abbrev pub satellite : List (List Shape)
satellite = (call_of 1 ∷ symbol (token_symbol 4) ∷ []) ∷ [] ∷ []

abbrev pub start : List (List Shape)
start = (opt (call_of 2) ∷ dots ∷ []) ∷ (int ∷ []) ∷ []

abbrev halfway : List (List Shape)
halfway = (call_of 2 ∷ dots ∷ []) ∷ (dots ∷ []) ∷ (int ∷ []) ∷ []

module _ (G : Shapes) where
  -- A pairing makes trees with some choices of those with others.
  abbrev pub Makes : {s t : Shape} → Pairs 1 G s t → (from to : List Choice) → Type 0
  Makes {s} p from to = (K : Shapes) (o : ButFor 1 G K) (z : Tree K s) → choices z ≡ from → choices (p.to K o z) ≡ to

  -- The split, where it can be made.
  abbrev Split : (x : Shape) (β rest : List Shape) → Type 0
  Split x β rest =
      (alts (seqs (x ∷ β) ∷ seqs β ∷ rest) ≡ alts (map seqs halfway))
      × Makes (slot_pairs (seqs (x ∷ β) ∷ seqs β ∷ []) (split_pairs x [] β) [] rest) (first ∷ absent ∷ []) (next ∷ first ∷ [])
      × Makes (slot_pairs (seqs (x ∷ β) ∷ seqs β ∷ []) (split_pairs x [] β) [] rest) (first ∷ present ∷ next ∷ first ∷ [])
      (first ∷ next ∷ first ∷ [])

  split_here : (e : find G 2 ≡ some (alts (map seqs satellite))) → Split (call_of 2) (dots ∷ []) (map seqs ((int ∷ []) ∷ []))
  unfolding choices in_slot in_front behind join
  split_here e =
      let q = opt (call_of 2) in
      let qs = seqs (call_of 2 ∷ dots ∷ []) ∷ seqs (dots ∷ []) ∷ [] in
      let rest = map seqs ((int ∷ []) ∷ []) in
      let p = split_pairs (call_of 2) [] (dots ∷ []) in (
        refl,
        λ K o z h.
            let v : Tree K (seqs (dots ∷ [])) = t_seq t_symbol t_eps in
            let y : Tree K (seqs (q ∷ dots ∷ [])) = around [] (dots ∷ []) t_eps t_absent v in
            ap choices (ap ((slot_pairs qs p [] rest).to K o) (told_apart_lem z (t_left y) h)
            ∙ slot_here_lem K o qs p rest [] y (there here) v (split_gone_lem K o (call_of 2) [] (dots ∷ []) t_eps v)),
        λ K o z h.
            let v : Tree K (seqs (dots ∷ [])) = t_seq t_symbol t_eps in
            let c : Tree K (call_of 2) = t_call (o.others 2 (λ n. absurd (omega arith)) ∙ e) (t_right (t_left t_eps)) in
            let y : Tree K (seqs (q ∷ dots ∷ [])) = around [] (dots ∷ []) t_eps (t_present c) v in
            ap choices (ap ((slot_pairs qs p [] rest).to K o) (told_apart_lem z (t_left y) h)
            ∙ slot_here_lem K o qs p rest [] y here (t_seq c v) (split_there_lem K o (call_of 2) [] (dots ∷ []) t_eps c v)),
      )

  -- The splice, where it can be made.
  abbrev Splice : (S : ℕ) (Γ : List (List Shape)) (β rest : List Shape) → Type 0
  Splice S Γ β rest =
      (ne : S ≡ 1 → ⊥) (e : find G S ≡ some (alts (map seqs Γ)))
      → Makes (slot_pairs (map (λ γ. seqs (γ ++ β)) Γ) (splice_pairs S Γ ne e [] β) [] rest) (next ∷ first ∷ []) (next ∷ next ∷ first ∷ [])
      × Makes (slot_pairs (map (λ γ. seqs (γ ++ β)) Γ) (splice_pairs S Γ ne e [] β) [] rest) (first ∷ next ∷ first ∷ []) (next ∷ first ∷ [])

  splice_here : Splice 2 satellite (dots ∷ []) (map seqs ((dots ∷ []) ∷ (int ∷ []) ∷ []))
  unfolding choices in_slot in_front behind join on_at
  splice_here ne e = (
    λ K o z h.
        let qs = map (λ γ. seqs (γ ++ (dots ∷ []))) satellite in
        let rest = map seqs ((dots ∷ []) ∷ (int ∷ []) ∷ []) in
        let p = splice_pairs 2 satellite ne e [] (dots ∷ []) in
        let v : Tree K (seqs (dots ∷ [])) = t_seq t_symbol t_eps in
        let second : At 0 (seqs (dots ∷ [])) rest = here in
        let is = told_apart_lem z (in_slot (there {b = seqs (call_of 2 ∷ dots ∷ [])} second) v) h in
        ap choices (ap ((slot_pairs qs p [] rest).to K o) is ∙ slot_rest_lem K o qs p rest [] second v),
    λ K o z h.
        let qs = map (λ γ. seqs (γ ++ (dots ∷ []))) satellite in
        let rest = map seqs ((dots ∷ []) ∷ (int ∷ []) ∷ []) in
        let p = splice_pairs 2 satellite ne e [] (dots ∷ []) in
        let v : Tree K (seqs (dots ∷ [])) = t_seq t_symbol t_eps in
        let second : At 1 [] satellite = there here in
        let c : Tree K (call_of 2) = t_call (o.others 2 ne ∙ e) (in_slot (on_at seqs second) t_eps) in
        let y : Tree K (seqs (call_of 2 ∷ dots ∷ [])) = around [] (dots ∷ []) t_eps c v in
        let front : At 0 (seqs (call_of 2 ∷ dots ∷ [])) (seqs (call_of 2 ∷ dots ∷ []) ∷ rest) = here in
        let is = told_apart_lem z (in_slot front y) h in
        ap choices (ap ((slot_pairs qs p [] rest).to K o) is
        ∙ slot_here_lem K o qs p rest [] y (on_at (λ γ. seqs (γ ++ (dots ∷ []))) second) v
        (splice_slot K o 2 satellite ne e [] (dots ∷ []) t_eps v second t_eps)),
  )

  module _ (e : find G 2 ≡ some (alts (map seqs satellite))) where
    -- The first turn is the split.
    first_turn : {s t : Shape} {p : Pairs 1 G s t} → Turn 1 G s t p → s ≡ alts (map seqs start)
        → (t ≡ alts (map seqs halfway)) × Makes p (first ∷ absent ∷ []) (next ∷ first ∷ [])
        × Makes p (first ∷ present ∷ next ∷ first ∷ []) (first ∷ next ∷ first ∷ [])
    unfolding any
    first_turn (slot (split x α β) front rest) w =
        splits x α β front rest (sym (branches_of (front ++ (seqs (α ++ (opt x ∷ β)) ∷ rest))) ∙ ap branches w)
      where
        splits : (x : Shape) (α β front rest : List Shape) → front ++ (seqs (α ++ (opt x ∷ β)) ∷ rest) ≡ map seqs start
            → (alts (front ++ (seqs (α ++ (x ∷ β)) ∷ seqs (α ++ β) ∷ rest)) ≡ alts (map seqs halfway))
            × Makes (slot_pairs (seqs (α ++ (x ∷ β)) ∷ seqs (α ++ β) ∷ []) (split_pairs x α β) front rest) (first ∷ absent ∷ [])
            (next ∷ first ∷ [])
            × Makes (slot_pairs (seqs (α ++ (x ∷ β)) ∷ seqs (α ++ β) ∷ []) (split_pairs x α β) front rest)
            (first ∷ present ∷ next ∷ first ∷ []) (first ∷ next ∷ first ∷ [])
        splits x [] β [] rest w =
            let p : x ≡ call_of 2 = cc in
            let q : β ≡ dots ∷ [] = sym (parts_of β) ∙ ap parts (let u : seqs β ≡ seqs (dots ∷ []) = cc in u) in
            let r : rest ≡ map seqs ((int ∷ []) ∷ []) = cc in
            subst (λ x. Split x β rest) (sym p) (subst (λ b. Split (call_of 2) b rest) (sym q)
            (subst (Split (call_of 2) (dots ∷ [])) (sym r)
            (split_here e)))
        splits x (a ∷ α) β [] rest w =
            let u : seqs (α ++ (opt x ∷ β)) ≡ seqs (dots ∷ []) = cc in
            absurd (not_part is_optional α (opt x) β refl (dots ∷ []) refl (sym (parts_of (α ++ (opt x ∷ β))) ∙ ap parts u))
        splits x α β (f ∷ front) rest w =
            let u : front ++ (seqs (α ++ (opt x ∷ β)) ∷ rest) ≡ map seqs ((int ∷ []) ∷ []) = cc in
            absurd (not_branch is_optional α (opt x) β refl (map seqs ((int ∷ []) ∷ [])) refl front rest u)
    first_turn (slot (splice S Γ ne k α β) front rest) w =
        absurd (not_branch is_call α (call_of S) β refl (map seqs start) refl front rest
        (sym (branches_of (front ++ (seqs (α ++ (call_of S ∷ β)) ∷ rest))) ∙ ap branches w))

    -- The second is the splice.
    second_turn : {s t : Shape} {p : Pairs 1 G s t} → Turn 1 G s t p → s ≡ alts (map seqs halfway)
        → Makes p (next ∷ first ∷ []) (next ∷ next ∷ first ∷ []) × Makes p (first ∷ next ∷ first ∷ []) (next ∷ first ∷ [])
    unfolding any
    second_turn (slot (split x α β) front rest) w =
        absurd (not_branch is_optional α (opt x) β refl (map seqs halfway) refl front rest
        (sym (branches_of (front ++ (seqs (α ++ (opt x ∷ β)) ∷ rest))) ∙ ap branches w))
    second_turn (slot (splice S Γ ne k α β) front rest) w =
        splices S Γ α β front rest (sym (branches_of (front ++ (seqs (α ++ (call_of S ∷ β)) ∷ rest))) ∙ ap branches w) ne k
      where
        splices : (S : ℕ) (Γ : List (List Shape)) (α β front rest : List Shape)
            → front ++ (seqs (α ++ (call_of S ∷ β)) ∷ rest) ≡ map seqs halfway
            → (ne : S ≡ 1 → ⊥) (k : find G S ≡ some (alts (map seqs Γ)))
            → Makes (slot_pairs (map (λ γ. seqs (α ++ (γ ++ β))) Γ) (splice_pairs S Γ ne k α β) front rest) (next ∷ first ∷ [])
            (next ∷ next ∷ first ∷ [])
            × Makes (slot_pairs (map (λ γ. seqs (α ++ (γ ++ β))) Γ) (splice_pairs S Γ ne k α β) front rest) (first ∷ next ∷ first ∷ [])
            (next ∷ first ∷ [])
        splices S Γ [] β [] rest w ne k =
            let p : S ≡ 2 = cc in
            let q : β ≡ dots ∷ [] = sym (parts_of β) ∙ ap parts (let u : seqs β ≡ seqs (dots ∷ []) = cc in u) in
            let r : rest ≡ map seqs ((dots ∷ []) ∷ (int ∷ []) ∷ []) = cc in
            let g : Γ ≡ satellite = sym (each_of Γ) ∙ ap (map parts) (sym (branches_of (map seqs Γ)) ∙ ap branches
            (some-injective (alts (map seqs Γ)) (alts (map seqs satellite)) (sym k ∙ ap (find G) p ∙ e))
            ∙ branches_of (map seqs satellite))
            ∙ each_of satellite in
            subst (λ n. Splice n Γ β rest) (sym p) (subst (λ l. Splice 2 l β rest) (sym g) (subst (λ b. Splice 2 satellite b rest) (sym q)
            (subst (Splice 2 satellite (dots ∷ [])) (sym r) splice_here))) ne k
        splices S Γ (a ∷ α) β [] rest w ne k =
            let u : seqs (α ++ (call_of S ∷ β)) ≡ seqs (dots ∷ []) = cc in
            absurd (not_part is_call α (call_of S) β refl (dots ∷ []) refl (sym (parts_of (α ++ (call_of S ∷ β))) ∙ ap parts u))
        splices S Γ α β (f ∷ front) rest w ne k =
            let l = map seqs ((dots ∷ []) ∷ (int ∷ []) ∷ []) in
            let u : front ++ (seqs (α ++ (call_of S ∷ β)) ∷ rest) ≡ l = cc in
            absurd (not_branch is_call α (call_of S) β refl l refl front rest u)

    -- Where a is absent, the third alternative is made of it; where it is there and empty, the second.
    pub two_turns : {s t : Shape} {p : Pairs 1 G s t} → Turns 1 G 2 s t p → s ≡ alts (map seqs start)
        → Makes p (first ∷ absent ∷ []) (next ∷ next ∷ first ∷ []) × Makes p (first ∷ present ∷ next ∷ first ∷ []) (next ∷ first ∷ [])
    unfolding pairs_trans pairs_refl
    two_turns (onward {p = p} a (onward {p = q} b still)) w =
        let (u, gone, kept) = first_turn a w in
        let (later, inside) = second_turn b u in
        (λ K o z h. later K o (p.to K o z) (gone K o z h), λ K o z h. inside K o (p.to K o z) (kept K o z h))
