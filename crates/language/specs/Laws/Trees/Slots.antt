-- What the two steps do with a tree, slot by slot: nothing is left open but the proofs by which bodies are found.
use Rattle.std.specs.Prelude.{ℕ, zero, suc, ◌≡◌, ◌⊎◌}
use Rattle.std.proofs.Math.Path.{refl, ap}
use Rattle.std.proofs.Common.{sym, ◌∙◌}
use Rattle.std.proofs.Math.Logic.{inl, inr, ⊎_elim}
use mathlib.Core.List.{List, [], ◌∷◌, ◌++◌, map}
use Rattle.std.proofs.Math.Option.{some}
use Rattle.language.specs.Shape.{Shape, call_of, seq, seqs, alts, Shapes, find}
use Rattle.language.specs.Readings.{Tree, t_eps, t_call, t_seq, t_left, t_right, t_absent, t_present}
use Rattle.language.specs.Laws.Cover.{ButFor}
use Rattle.language.specs.Laws.Trees.Carry.{Pairs, pairs_refl, pairs_trans, pairs_sym}
use Rattle.language.specs.Laws.Trees.Algebra.{on_seq, on_alt, seq_pairs, alt_pairs, alts_pairs, seqs_append, alts_append, distribute}
use Rattle.language.specs.Laws.Trees.Algebra.{fails, cut, join, choose, cut_join, join_cut, unpart}
use Rattle.language.specs.Laws.Trees.Steps.{opened, open_call, call_open, parted, call_pairs, opt_pairs, inline_pairs, splice_pairs}
use Rattle.language.specs.Laws.Trees.Steps.{split_pairs, slot_pairs}

-- The k-th of a list.
pub data At {A : Type 0} : ℕ → A → List A → Type 0 where
  here : {a : A} {as' : List A} → At zero a (a ∷ as')
  there : {k : ℕ} {a b : A} {as' : List A} → At k a as' → At (suc k) a (b ∷ as')

-- The k-th of a list, each item of which is made into another.
unfoldable pub on_at : {A B : Type 0} (f : A → B) {k : ℕ} {a : A} {as' : List A} → At k a as' → At k (f a) (map f as')
on_at f here = here
on_at f (there p) = there (on_at f p)

-- Further on by as many as a list has.
abbrev pub further : {A : Type 0} → List A → ℕ → ℕ
further [] k = k
further (x ∷ xs) k = suc (further xs k)

-- The k-th is the k-th with more behind it; with others in front it stands further on by as many.
unfoldable pub in_front : {A : Type 0} {k : ℕ} {a : A} {as' : List A} (more : List A) → At k a as' → At k a (as' ++ more)
in_front more here = here
in_front more (there p) = there (in_front more p)

unfoldable pub behind : {A : Type 0} (front : List A) {k : ℕ} {a : A} {as' : List A} → At k a as' → At (further front k) a (front ++ as')
behind [] p = p
behind (x ∷ front) p = there (behind front p)

module _ {X : Shapes} where
  -- A tree of an alternative, in its slot.
  unfoldable pub in_slot : {k : ℕ} {a : Shape} {as' : List Shape} → At k a as' → Tree X a → Tree X (alts as')
  in_slot here x = t_left x
  in_slot (there p) x = t_right (in_slot p x)

  -- Every tree of a choice is one of an alternative, in its slot.
  pub some_slot_lem : (as' : List Shape) (z : Tree X (alts as'))
      → (k : ℕ) × (a : Shape) × (p : At k a as') × (x : Tree X a) × (z ≡ in_slot p x)
  unfolding in_slot
  some_slot_lem [] z = absurd (fails z)
  some_slot_lem (a ∷ as') (t_left x) = (0, a, here, x, refl)
  some_slot_lem (a ∷ as') (t_right z) = let (k, b, p, x, e) = some_slot_lem as' z in (suc k, b, there p, x, ap t_right e)

  -- The elements of an alternative around one of them, and around several.
  abbrev pub around : (α : List Shape) {s : Shape} (β : List Shape) → Tree X (seqs α) → Tree X s → Tree X (seqs β)
      → Tree X (seqs (α ++ (s ∷ β)))
  around α {s} β u x v = join α (s ∷ β) (t_seq u (t_seq x v))

  abbrev pub within : (α γ β : List Shape) → Tree X (seqs α) → Tree X (seqs γ) → Tree X (seqs β) → Tree X (seqs (α ++ (γ ++ β)))
  within α γ β u y v = join α (γ ++ β) (t_seq u (join γ β (t_seq y v)))

  -- Every tree of an alternative is one around an element.
  pub some_around_lem : (α : List Shape) (s : Shape) (β : List Shape) (z : Tree X (seqs (α ++ (s ∷ β))))
      → (u : Tree X (seqs α)) × (x : Tree X s) × (v : Tree X (seqs β)) × (z ≡ around α β u x v)
  some_around_lem α s β z = go (cut α (s ∷ β) z) (join_cut α (s ∷ β) z)
    where
      go : (c : Tree X (seq (seqs α) (seq s (seqs β)))) → join α (s ∷ β) c ≡ z
          → (u : Tree X (seqs α)) × (x : Tree X s) × (v : Tree X (seqs β)) × (z ≡ around α β u x v)
      go (t_seq u (t_seq x v)) e = (u, x, v, sym e)

  -- Every tree of a choice of sequences is one of a sequence, in its slot; and so below the node of a call.
  some_branch : (Γ : List (List Shape)) (z : Tree X (alts (map seqs Γ)))
      → (k : ℕ) × (γ : List Shape) × (p : At k γ Γ) × (y : Tree X (seqs γ)) × (z ≡ in_slot (on_at seqs p) y)
  unfolding in_slot on_at
  some_branch [] z = absurd (fails z)
  some_branch (γ ∷ Γ) (t_left y) = (0, γ, here, y, refl)
  some_branch (γ ∷ Γ) (t_right z) = let (k, δ, p, y, e) = some_branch Γ z in (suc k, δ, there p, y, ap t_right e)

  pub some_call_lem : (S : ℕ) (Γ : List (List Shape)) (e : find X S ≡ some (alts (map seqs Γ))) (z : Tree X (call_of S))
      → (k : ℕ) × (γ : List Shape) × (p : At k γ Γ) × (y : Tree X (seqs γ)) × (z ≡ t_call e (in_slot (on_at seqs p) y))
  some_call_lem S Γ e z =
      let (k, γ, p, y, w) = some_branch Γ (opened S e z) in (k, γ, p, y, sym (call_open S e z) ∙ ap (λ x. t_call e x) w)

  -- Every tree of a list of alternatives stands in front of one of them, in its slot, or behind it.
  abbrev pub Stands : (front : List Shape) (a : Shape) (rest : List Shape) → Tree X (alts (front ++ (a ∷ rest))) → Type 0
  Stands front a rest z =
      ((k : ℕ) × (f : Shape) × (p : At k f front) × (x : Tree X f) × (z ≡ in_slot (in_front (a ∷ rest) p) x))
      ⊎ (((x : Tree X a) × (z ≡ in_slot (behind front here) x))
      ⊎ ((k : ℕ) × (r : Shape) × (p : At k r rest) × (x : Tree X r) × (z ≡ in_slot (behind front (there p)) x)))

  pub some_place_lem : (front : List Shape) (a : Shape) (rest : List Shape) (z : Tree X (alts (front ++ (a ∷ rest))))
      → Stands front a rest z
  unfolding in_slot in_front behind
  some_place_lem [] a rest (t_left x) = inr (inl (x, refl))
  some_place_lem [] a rest (t_right z) = let (k, r, p, x, e) = some_slot_lem rest z in inr (inr (k, r, p, x, ap t_right e))
  some_place_lem (f ∷ front) a rest (t_left x) = inl (0, f, here, x, refl)
  some_place_lem (f ∷ front) a rest (t_right z) =
      ⊎_elim (λ s. let (k, g, p, x, e) = s in inl (suc k, g, there p, x, ap t_right e))
      (⊎_elim (λ s. let (x, e) = s in inr (inl (x, ap t_right e))) (λ s. let (k, r, p, x, e) = s in inr (inr (k, r, p, x, ap t_right e))))
      (some_place_lem front a rest z)

module _ {X : Shapes} {A : Type 0} (f : A → Shape) (s t : Shape) where
  choose_slot : {k : ℕ} {a : A} {as' : List A} (p : At k a as') (u : Tree X s) (y : Tree X (f a)) (v : Tree X t)
      → choose f s t as' (t_seq u (t_seq (in_slot (on_at f p) y) v)) ≡ in_slot (on_at (λ a. seq s (seq (f a) t)) p) (t_seq u (t_seq y v))
  unfolding choose in_slot on_at
  choose_slot here u y v = refl
  choose_slot (there p) u y v = ap t_right (choose_slot p u y v)

module _ {H : ℕ} {G : Shapes} {A : Type 0} {f g : A → Shape} (h : (a : A) → Pairs H G (f a) (g a)) (X : Shapes) (o : ButFor H G X) where
  alts_slot : {k : ℕ} {a : A} {as' : List A} (p : At k a as') (x : Tree X (f a))
      → (alts_pairs h as').to X o (in_slot (on_at f p) x) ≡ in_slot (on_at g p) ((h a).to X o x)
  unfolding alts_pairs alt_pairs on_alt in_slot on_at
  alts_slot here x = refl
  alts_slot (there p) x = ap t_right (alts_slot p x)

module _ {H : ℕ} {G : Shapes} (X : Shapes) (o : ButFor H G X) where
  -- What is a choice of sequences, in the middle of an alternative: the slot of that choice is the new alternative's.
  pub inline_slot : {s : Shape} (Γ : List (List Shape)) (e : Pairs H G s (alts (map seqs Γ))) (α β : List Shape)
      (u : Tree X (seqs α)) (x : Tree X s) (v : Tree X (seqs β)) {k : ℕ} {γ : List Shape} (p : At k γ Γ) (y : Tree X (seqs γ))
      → e.to X o x ≡ in_slot (on_at seqs p) y
      → (inline_pairs Γ e α β).to X o (around α β u x v) ≡ in_slot (on_at (λ γ. seqs (α ++ (γ ++ β))) p) (within α γ β u y v)
  unfolding inline_pairs pairs_trans pairs_refl pairs_sym seqs_append seq_pairs distribute on_seq
  inline_slot {s} Γ e α β u x v p y q =
      let each : (γ : List Shape) → Pairs H G _ (seqs (α ++ (γ ++ β))) = λ γ.
      pairs_sym (pairs_trans (seqs_append α (γ ++ β)) (seq_pairs (pairs_refl (seqs α)) (seqs_append γ β))) in
      let last = alts_pairs each Γ in
      ap (λ z. last.to X o (choose seqs (seqs α) (seqs β) Γ (on_seq (λ a. a) (on_seq (e.to X o) (λ b. b)) z)))
      (cut_join α (s ∷ β) (t_seq u (t_seq x v)))
      ∙ ap (λ z. last.to X o (choose seqs (seqs α) (seqs β) Γ (t_seq u (t_seq z v)))) q
      ∙ ap (last.to X o) (choose_slot seqs (seqs α) (seqs β) p u y v)
      ∙ alts_slot each X o p (t_seq u (t_seq y v))

  -- Split: an optional that is there, and one that is not.
  pub split_there_lem : (x : Shape) (α β : List Shape) (u : Tree X (seqs α)) (d : Tree X x) (v : Tree X (seqs β))
      → (split_pairs x α β).to X o (around α β u (t_present d) v) ≡ t_left (around α β u d v)
  unfolding split_pairs opt_pairs parted in_slot on_at join
  split_there_lem x α β u d v = inline_slot ((x ∷ []) ∷ [] ∷ []) (opt_pairs x) α β u (t_present d) v here (t_seq d t_eps) refl

  pub split_gone_lem : (x : Shape) (α β : List Shape) (u : Tree X (seqs α)) (v : Tree X (seqs β))
      → (split_pairs x α β).to X o (around α β u t_absent v) ≡ t_right (t_left (join α β (t_seq u v)))
  unfolding split_pairs opt_pairs parted in_slot on_at join
  split_gone_lem x α β u v = inline_slot ((x ∷ []) ∷ [] ∷ []) (opt_pairs x) α β u t_absent v (there here) t_eps refl

  -- Splice: the call's node goes, and the slot of the alternative that it used is the new alternative's.
  pub splice_slot : (S : ℕ) (Γ : List (List Shape)) (ne : S ≡ H → ⊥) (e : find G S ≡ some (alts (map seqs Γ))) (α β : List Shape)
      (u : Tree X (seqs α)) (v : Tree X (seqs β)) {k : ℕ} {γ : List Shape} (p : At k γ Γ) (y : Tree X (seqs γ))
      → (splice_pairs S Γ ne e α β).to X o (around α β u (t_call (o.others S ne ∙ e) (in_slot (on_at seqs p) y)) v)
      ≡ in_slot (on_at (λ γ. seqs (α ++ (γ ++ β))) p) (within α γ β u y v)
  unfolding splice_pairs call_pairs
  splice_slot S Γ ne e α β u v p y =
      inline_slot Γ (call_pairs S ne e) α β u (t_call (o.others S ne ∙ e) (in_slot (on_at seqs p) y)) v p y
      (open_call S (o.others S ne ∙ e) (in_slot (on_at seqs p) y))

module _ {X : Shapes} where
  unpart_left : {k : ℕ} {a : Shape} {qs : List Shape} (rest : List Shape) (p : At k a qs) (y : Tree X a)
      → unpart qs rest (t_left (in_slot p y)) ≡ in_slot (in_front rest p) y
  unfolding unpart in_slot in_front
  unpart_left rest here y = refl
  unpart_left rest (there p) y = ap t_right (unpart_left rest p y)

  unpart_right : {k : ℕ} {a : Shape} (qs : List Shape) {rest : List Shape} (p : At k a rest) (y : Tree X a)
      → unpart qs rest (t_right (in_slot p y)) ≡ in_slot (behind qs p) y
  unfolding unpart in_slot behind
  unpart_right [] p y = refl
  unpart_right (q ∷ qs) p y = ap t_right (unpart_right qs p y)

-- In a list of alternatives: those in front of the slot stay where they are; the k-th of those that take the slot's place stands
-- k further on; those behind follow the new ones.
module _ {H : ℕ} {G : Shapes} (X : Shapes) (o : ButFor H G X) {a : Shape} (qs : List Shape) (e : Pairs H G a (alts qs))
    (rest : List Shape) where
  pub slot_front_lem : {k : ℕ} {f : Shape} {front : List Shape} (p : At k f front) (x : Tree X f)
      → (slot_pairs qs e front rest).to X o (in_slot (in_front (a ∷ rest) p) x) ≡ in_slot (in_front (qs ++ rest) p) x
  unfolding slot_pairs alt_pairs pairs_refl on_alt in_slot in_front
  slot_front_lem here x = refl
  slot_front_lem (there p) x = ap t_right (slot_front_lem p x)

  pub slot_here_lem : (front : List Shape) (x : Tree X a) {k : ℕ} {q : Shape} (p : At k q qs) (y : Tree X q) → e.to X o x ≡ in_slot p y
      → (slot_pairs qs e front rest).to X o (in_slot (behind front here) x) ≡ in_slot (behind front (in_front rest p)) y
  unfolding slot_pairs alt_pairs alts_append pairs_refl pairs_trans pairs_sym on_alt in_slot behind
  slot_here_lem [] x p y w = ap (λ z. unpart qs rest (t_left z)) w ∙ unpart_left rest p y
  slot_here_lem (f ∷ front) x p y w = ap t_right (slot_here_lem front x p y w)

  pub slot_rest_lem : (front : List Shape) {k : ℕ} {r : Shape} (p : At k r rest) (x : Tree X r)
      → (slot_pairs qs e front rest).to X o (in_slot (behind front (there p)) x) ≡ in_slot (behind front (behind qs p)) x
  unfolding slot_pairs alt_pairs alts_append pairs_refl pairs_trans pairs_sym on_alt in_slot behind
  slot_rest_lem [] p x = unpart_right qs p x
  slot_rest_lem (f ∷ front) p x = ap t_right (slot_rest_lem front p x)
