-- Shapes whose trees pair off in every grammar: sequences and choices may be cut, and the one distributes over the other.
use Rattle.std.specs.Prelude.{ℕ, ◌≡◌}
use Rattle.std.proofs.Math.Path.{refl, ap, ap₂}
use Rattle.std.proofs.Common.{◌∙◌}
use mathlib.Core.List.{List, [], ◌∷◌, ◌++◌, map, append_assoc}
use Rattle.language.specs.Shape.{Shape, fail, seq, alt, seqs, alts, Shapes}
use Rattle.language.specs.Readings.{Tree, t_eps, t_seq, t_left, t_right, yield}
use Rattle.language.specs.Laws.Cover.{ButFor}
use Rattle.language.specs.Laws.Trees.Carry.{Covers, carry, Plain, Pairs, pairs_refl}

-- What is no alternative of anything has no tree.
pub fails : {X : Shapes} → Tree X fail → ⊥
fails x = elim x [ ]

-- What is done with the parts of a sequence, or of a choice, is done with the whole.
module _ {X Y : Shapes} {s s' t t' : Shape} (f : Tree X s → Tree Y s') (g : Tree X t → Tree Y t') where
  unfoldable pub on_seq : Tree X (seq s t) → Tree Y (seq s' t')
  on_seq (t_seq x y) = t_seq (f x) (g y)

  unfoldable pub on_alt : Tree X (alt s t) → Tree Y (alt s' t')
  on_alt (t_left x) = t_left (f x)
  on_alt (t_right y) = t_right (g y)

module _ {H : ℕ} {G : Shapes} {s s' t t' : Shape} (p : Pairs H G s s') (q : Pairs H G t t') where
  -- Two pairings side by side: there and back, the string, and that it commutes. First of sequences.
  pub seq_there : (X : Shapes) (o : ButFor H G X) (x : Tree X (seq s' t'))
      → on_seq (p.to X o) (q.to X o) (on_seq (p.from X o) (q.from X o) x) ≡ x
  unfolding on_seq
  seq_there X o (t_seq x y) = ap₂ t_seq (p.there X o x) (q.there X o y)

  pub seq_back : (X : Shapes) (o : ButFor H G X) (x : Tree X (seq s t))
      → on_seq (p.from X o) (q.from X o) (on_seq (p.to X o) (q.to X o) x) ≡ x
  unfolding on_seq
  seq_back X o (t_seq x y) = ap₂ t_seq (p.back X o x) (q.back X o y)

  pub seq_strings : (X : Shapes) (o : ButFor H G X) (x : Tree X (seq s t)) → yield (on_seq (p.to X o) (q.to X o) x) ≡ yield x
  unfolding on_seq yield
  seq_strings X o (t_seq x y) = ap₂ ◌++◌ (p.strings X o x) (q.strings X o y)

  pub seq_commutes : (X Y : Shapes) (o : ButFor H G X) (r : ButFor H G Y) (c : Covers X Y) → Plain H c → (x : Tree X (seq s t))
      → carry c (on_seq (p.to X o) (q.to X o) x) ≡ on_seq (p.to Y r) (q.to Y r) (carry c x)
  unfolding on_seq carry
  seq_commutes X Y o r c k (t_seq x y) = ap₂ t_seq (p.commutes X Y o r c k x) (q.commutes X Y o r c k y)

  -- So sequences pair off where their parts do.
  unfoldable pub seq_pairs : Pairs H G (seq s t) (seq s' t')
  seq_pairs =
      record {
        to = λ X o. on_seq (p.to X o) (q.to X o);
        from = λ X o. on_seq (p.from X o) (q.from X o);
        there = seq_there;
        back = seq_back;
        strings = seq_strings;
        commutes = seq_commutes;
      }

  -- The same of choices.
  pub alt_there : (X : Shapes) (o : ButFor H G X) (x : Tree X (alt s' t'))
      → on_alt (p.to X o) (q.to X o) (on_alt (p.from X o) (q.from X o) x) ≡ x
  unfolding on_alt
  alt_there X o (t_left x) = ap t_left (p.there X o x)
  alt_there X o (t_right y) = ap t_right (q.there X o y)

  pub alt_back : (X : Shapes) (o : ButFor H G X) (x : Tree X (alt s t))
      → on_alt (p.from X o) (q.from X o) (on_alt (p.to X o) (q.to X o) x) ≡ x
  unfolding on_alt
  alt_back X o (t_left x) = ap t_left (p.back X o x)
  alt_back X o (t_right y) = ap t_right (q.back X o y)

  pub alt_strings : (X : Shapes) (o : ButFor H G X) (x : Tree X (alt s t)) → yield (on_alt (p.to X o) (q.to X o) x) ≡ yield x
  unfolding on_alt yield
  alt_strings X o (t_left x) = p.strings X o x
  alt_strings X o (t_right y) = q.strings X o y

  pub alt_commutes : (X Y : Shapes) (o : ButFor H G X) (r : ButFor H G Y) (c : Covers X Y) → Plain H c → (x : Tree X (alt s t))
      → carry c (on_alt (p.to X o) (q.to X o) x) ≡ on_alt (p.to Y r) (q.to Y r) (carry c x)
  unfolding on_alt carry
  alt_commutes X Y o r c k (t_left x) = ap t_left (p.commutes X Y o r c k x)
  alt_commutes X Y o r c k (t_right y) = ap t_right (q.commutes X Y o r c k y)

  -- So choices pair off where their alternatives do.
  unfoldable pub alt_pairs : Pairs H G (alt s t) (alt s' t')
  alt_pairs =
      record {
        to = λ X o. on_alt (p.to X o) (q.to X o);
        from = λ X o. on_alt (p.from X o) (q.from X o);
        there = alt_there;
        back = alt_back;
        strings = alt_strings;
        commutes = alt_commutes;
      }

-- A choice, one by one.
unfoldable pub alts_pairs : {H : ℕ} {G : Shapes} {A : Type 0} {f g : A → Shape} → ((a : A) → Pairs H G (f a) (g a)) → (as' : List A)
    → Pairs H G (alts (map f as')) (alts (map g as'))
alts_pairs h [] = pairs_refl fail
alts_pairs h (a ∷ as') = alt_pairs (h a) (alts_pairs h as')

-- The trees of a list of items, cut in two and joined.
module _ {X : Shapes} where
  unfoldable pub push : {a s t : Shape} → Tree X a → Tree X (seq s t) → Tree X (seq (seq a s) t)
  push x (t_seq u v) = t_seq (t_seq x u) v

  -- A sequence of two lists, cut between them; and joined again.
  unfoldable pub cut : (α β : List Shape) → Tree X (seqs (α ++ β)) → Tree X (seq (seqs α) (seqs β))
  cut [] β x = t_seq t_eps x
  cut (a ∷ α) β (t_seq x y) = push x (cut α β y)

  unfoldable pub join : (α β : List Shape) → Tree X (seq (seqs α) (seqs β)) → Tree X (seqs (α ++ β))
  join [] β (t_seq t_eps y) = y
  join (a ∷ α) β (t_seq (t_seq x u) v) = t_seq x (join α β (t_seq u v))

  join_push : (a : Shape) (α β : List Shape) (x : Tree X a) (z : Tree X (seq (seqs α) (seqs β)))
      → join (a ∷ α) β (push x z) ≡ t_seq x (join α β z)
  unfolding join push
  join_push a α β x (t_seq u v) = refl

  -- Each undoes the other.
  pub join_cut : (α β : List Shape) (x : Tree X (seqs (α ++ β))) → join α β (cut α β x) ≡ x
  unfolding join cut
  join_cut [] β x = refl
  join_cut (a ∷ α) β (t_seq x y) = join_push a α β x (cut α β y) ∙ ap (t_seq x) (join_cut α β y)

  pub cut_join : (α β : List Shape) (x : Tree X (seq (seqs α) (seqs β))) → cut α β (join α β x) ≡ x
  unfolding join cut push
  cut_join [] β (t_seq t_eps y) = refl
  cut_join (a ∷ α) β (t_seq (t_seq x u) v) = ap (push x) (cut_join α β (t_seq u v))

  push_yield : {a s t : Shape} (x : Tree X a) (z : Tree X (seq s t)) → yield (push x z) ≡ yield x ++ yield z
  unfolding push yield
  push_yield x (t_seq u v) = append_assoc (yield x) (yield u) (yield v)

  -- The string is kept.
  pub cut_yield : (α β : List Shape) (x : Tree X (seqs (α ++ β))) → yield (cut α β x) ≡ yield x
  unfolding cut yield
  cut_yield [] β x = refl
  cut_yield (a ∷ α) β (t_seq x y) = push_yield x (cut α β y) ∙ ap (λ w. yield x ++ w) (cut_yield α β y)

  -- The same of a choice.
  unfoldable pub deeper : {a s t : Shape} → Tree X (alt s t) → Tree X (alt (alt a s) t)
  deeper (t_left u) = t_left (t_right u)
  deeper (t_right v) = t_right v

  -- The alternatives of two lists, parted; and in one list again.
  unfoldable pub part : (α β : List Shape) → Tree X (alts (α ++ β)) → Tree X (alt (alts α) (alts β))
  part [] β x = t_right x
  part (a ∷ α) β (t_left x) = t_left (t_left x)
  part (a ∷ α) β (t_right y) = deeper (part α β y)

  unfoldable pub unpart : (α β : List Shape) → Tree X (alt (alts α) (alts β)) → Tree X (alts (α ++ β))
  unpart [] β (t_left x) = absurd (fails x)
  unpart [] β (t_right y) = y
  unpart (a ∷ α) β (t_left (t_left x)) = t_left x
  unpart (a ∷ α) β (t_left (t_right u)) = t_right (unpart α β (t_left u))
  unpart (a ∷ α) β (t_right v) = t_right (unpart α β (t_right v))

  unpart_deeper : (a : Shape) (α β : List Shape) (z : Tree X (alt (alts α) (alts β))) → unpart (a ∷ α) β (deeper z) ≡ t_right (unpart α β z)
  unfolding unpart deeper
  unpart_deeper a α β (t_left u) = refl
  unpart_deeper a α β (t_right v) = refl

  -- Each undoes the other.
  pub unpart_part : (α β : List Shape) (x : Tree X (alts (α ++ β))) → unpart α β (part α β x) ≡ x
  unfolding unpart part
  unpart_part [] β x = refl
  unpart_part (a ∷ α) β (t_left x) = refl
  unpart_part (a ∷ α) β (t_right y) = unpart_deeper a α β (part α β y) ∙ ap t_right (unpart_part α β y)

  pub part_unpart : (α β : List Shape) (x : Tree X (alt (alts α) (alts β))) → part α β (unpart α β x) ≡ x
  unfolding unpart part deeper
  part_unpart [] β (t_left x) = absurd (fails x)
  part_unpart [] β (t_right y) = refl
  part_unpart (a ∷ α) β (t_left (t_left x)) = refl
  part_unpart (a ∷ α) β (t_left (t_right u)) = ap deeper (part_unpart α β (t_left u))
  part_unpart (a ∷ α) β (t_right v) = ap deeper (part_unpart α β (t_right v))

  deeper_yield : (a : Shape) {s t : Shape} (z : Tree X (alt s t)) → yield (deeper {a = a} z) ≡ yield z
  unfolding deeper yield
  deeper_yield a (t_left u) = refl
  deeper_yield a (t_right v) = refl

  -- The string is kept.
  pub part_yield : (α β : List Shape) (x : Tree X (alts (α ++ β))) → yield (part α β x) ≡ yield x
  unfolding part yield
  part_yield [] β x = refl
  part_yield (a ∷ α) β (t_left x) = refl
  part_yield (a ∷ α) β (t_right y) = deeper_yield a (part α β y) ∙ part_yield α β y

  -- A choice in the middle of a sequence is a choice of sequences.
  module _ {A : Type 0} (f : A → Shape) (s t : Shape) where
    unfoldable pub under_right : {p q : Shape} → Tree X (seq s (seq q t)) → Tree X (seq s (seq (alt p q) t))
    under_right (t_seq x (t_seq y z)) = t_seq x (t_seq (t_right y) z)

    -- The choice made first, and made in its place.
    unfoldable pub choose : (as' : List A) → Tree X (seq s (seq (alts (map f as')) t)) → Tree X (alts (map (λ a. seq s (seq (f a) t)) as'))
    choose [] (t_seq x (t_seq y z)) = absurd (fails y)
    choose (a ∷ as') (t_seq x (t_seq (t_left y) z)) = t_left (t_seq x (t_seq y z))
    choose (a ∷ as') (t_seq x (t_seq (t_right y) z)) = t_right (choose as' (t_seq x (t_seq y z)))

    unfoldable pub unchoose : (as' : List A) → Tree X (alts (map (λ a. seq s (seq (f a) t)) as'))
        → Tree X (seq s (seq (alts (map f as')) t))
    unchoose (a ∷ as') (t_left (t_seq x (t_seq y z))) = t_seq x (t_seq (t_left y) z)
    unchoose (a ∷ as') (t_right w) = under_right (unchoose as' w)
    unchoose [] x' = elim x' [ ]

    choose_under : (a : A) (as' : List A) (v : Tree X (seq s (seq (alts (map f as')) t)))
        → choose (a ∷ as') (under_right v) ≡ t_right (choose as' v)
    unfolding choose under_right
    choose_under a as' (t_seq x (t_seq y z)) = refl

    -- Each undoes the other.
    pub choose_unchoose : (as' : List A) (w : Tree X (alts (map (λ a. seq s (seq (f a) t)) as'))) → choose as' (unchoose as' w) ≡ w
    unfolding choose unchoose
    choose_unchoose (a ∷ as') (t_left (t_seq x (t_seq y z))) = refl
    choose_unchoose (a ∷ as') (t_right w) = choose_under a as' (unchoose as' w) ∙ ap t_right (choose_unchoose as' w)
    choose_unchoose [] w = elim w [ ]

    pub unchoose_choose : (as' : List A) (v : Tree X (seq s (seq (alts (map f as')) t))) → unchoose as' (choose as' v) ≡ v
    unfolding choose unchoose under_right
    unchoose_choose [] (t_seq x (t_seq y z)) = absurd (fails y)
    unchoose_choose (a ∷ as') (t_seq x (t_seq (t_left y) z)) = refl
    unchoose_choose (a ∷ as') (t_seq x (t_seq (t_right y) z)) = ap under_right (unchoose_choose as' (t_seq x (t_seq y z)))

    -- The string is kept.
    pub choose_yield : (as' : List A) (v : Tree X (seq s (seq (alts (map f as')) t))) → yield (choose as' v) ≡ yield v
    unfolding choose yield
    choose_yield [] (t_seq x (t_seq y z)) = absurd (fails y)
    choose_yield (a ∷ as') (t_seq x (t_seq (t_left y) z)) = refl
    choose_yield (a ∷ as') (t_seq x (t_seq (t_right y) z)) = choose_yield as' (t_seq x (t_seq y z))

-- They commute with whatever is carried over below.
module _ {X Y : Shapes} (c : Covers X Y) where
  push_carry : {a s t : Shape} (x : Tree X a) (z : Tree X (seq s t)) → carry c (push x z) ≡ push (carry c x) (carry c z)
  unfolding push carry
  push_carry x (t_seq u v) = refl

  pub cut_carry : (α β : List Shape) (x : Tree X (seqs (α ++ β))) → carry c (cut α β x) ≡ cut α β (carry c x)
  unfolding cut carry
  cut_carry [] β x = refl
  cut_carry (a ∷ α) β (t_seq x y) = push_carry x (cut α β y) ∙ ap (push (carry c x)) (cut_carry α β y)

  deeper_carry : (a : Shape) {s t : Shape} (z : Tree X (alt s t)) → carry c (deeper {a = a} z) ≡ deeper (carry c z)
  unfolding deeper carry
  deeper_carry a (t_left u) = refl
  deeper_carry a (t_right v) = refl

  pub part_carry : (α β : List Shape) (x : Tree X (alts (α ++ β))) → carry c (part α β x) ≡ part α β (carry c x)
  unfolding part carry
  part_carry [] β x = refl
  part_carry (a ∷ α) β (t_left x) = refl
  part_carry (a ∷ α) β (t_right y) = deeper_carry a (part α β y) ∙ ap deeper (part_carry α β y)

  pub choose_carry : {A : Type 0} (f : A → Shape) (s t : Shape) (as' : List A) (v : Tree X (seq s (seq (alts (map f as')) t)))
      → carry c (choose f s t as' v) ≡ choose f s t as' (carry c v)
  unfolding choose carry
  choose_carry f s t [] (t_seq x (t_seq y z)) = absurd (fails y)
  choose_carry f s t (a ∷ as') (t_seq x (t_seq (t_left y) z)) = refl
  choose_carry f s t (a ∷ as') (t_seq x (t_seq (t_right y) z)) = ap t_right (choose_carry f s t as' (t_seq x (t_seq y z)))

module _ {H : ℕ} {G : Shapes} where
  -- The pairings that they make.
  unfoldable pub seqs_append : (α β : List Shape) → Pairs H G (seqs (α ++ β)) (seq (seqs α) (seqs β))
  seqs_append α β =
      record {
        to = λ X o. cut α β;
        from = λ X o. join α β;
        there = λ X o. cut_join α β;
        back = λ X o. join_cut α β;
        strings = λ X o. cut_yield α β;
        commutes = λ X Y o r c k. cut_carry c α β;
      }

  unfoldable pub alts_append : (α β : List Shape) → Pairs H G (alts (α ++ β)) (alt (alts α) (alts β))
  alts_append α β =
      record {
        to = λ X o. part α β;
        from = λ X o. unpart α β;
        there = λ X o. part_unpart α β;
        back = λ X o. unpart_part α β;
        strings = λ X o. part_yield α β;
        commutes = λ X Y o r c k. part_carry c α β;
      }

  unfoldable pub distribute : {A : Type 0} (f : A → Shape) (s t : Shape) (as' : List A)
      → Pairs H G (seq s (seq (alts (map f as')) t)) (alts (map (λ a. seq s (seq (f a) t)) as'))
  distribute f s t as' =
      record {
        to = λ X o. choose f s t as';
        from = λ X o. unchoose f s t as';
        there = λ X o. choose_unchoose f s t as';
        back = λ X o. unchoose_choose f s t as';
        strings = λ X o. choose_yield f s t as';
        commutes = λ X Y o r c k. choose_carry c f s t as';
      }
