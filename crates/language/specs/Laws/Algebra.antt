-- Shapes that derive the same strings in every grammar: sequences and choices may be regrouped, and the one distributes over
-- the other.
use Rattle.std.specs.Prelude.{◌≡◌, refl, List, [], ◌∷◌, ◌++◌, map}
use Rattle.std.proofs.Common.{sym, ap, ◌∙◌, subst, append_assoc}
use Rattle.language.specs.Shape.{Word, Shape, eps, fail, seq, alt, seqs, alts, Shapes}
use Rattle.language.specs.Derive.{Der, d_eps, d_seq, d_left, d_right}
use Rattle.language.specs.Laws.Cover.{Within, Same, same_refl, same_sym, same_trans}

-- Three strings joined either way.
regroup : (u v w : Word) {x y : Word} → v ++ w ≡ x → u ++ x ≡ y → (u ++ v) ++ w ≡ y
regroup u v w p q = append_assoc u v w ∙ ap (λ l. u ++ l) p ∙ q

ungroup : (u v w : Word) {x y : Word} → u ++ v ≡ x → x ++ w ≡ y → u ++ (v ++ w) ≡ y
ungroup u v w p q = sym (append_assoc u v w) ∙ ap (λ l. l ++ w) p ∙ q

module _ {G : Shapes} where
  pub fails : {w : Word} → Der G fail w → ⊥
  fails d = elim d [ ]

  -- Congruence.
  seq_within : {s s' t t' : Shape} → Within G s G s' → Within G t G t' → Within G (seq s t) G (seq s' t')
  seq_within f g w (d_seq {u = u} {v = v} e x y) = d_seq e (f u x) (g v y)

  pub seq_same : {s s' t t' : Shape} → Same G s G s' → Same G t G t' → Same G (seq s t) G (seq s' t')
  seq_same p q = record { to = seq_within p.to q.to; back = seq_within p.back q.back }

  alt_within : {s s' t t' : Shape} → Within G s G s' → Within G t G t' → Within G (alt s t) G (alt s' t')
  alt_within f g w (d_left x) = d_left (f w x)
  alt_within f g w (d_right y) = d_right (g w y)

  pub alt_same : {s s' t t' : Shape} → Same G s G s' → Same G t G t' → Same G (alt s t) G (alt s' t')
  alt_same p q = record { to = alt_within p.to q.to; back = alt_within p.back q.back }

  -- The empty sequence and the empty choice are units.
  unit_seq : {s : Shape} → Within G (seq eps s) G s
  unit_seq {s} w (d_seq e d_eps y) = subst (λ x. Der G s x) e y

  pub seq_unit : (s : Shape) → Same G (seq eps s) G s
  seq_unit s = record { to = unit_seq; back = λ w d. d_seq refl d_eps d }

  unit_alt : {s : Shape} → Within G (alt fail s) G s
  unit_alt w (d_right y) = y
  unit_alt {s = s} w (d_left x4) = elim x4 [ ]

  pub alt_unit : (s : Shape) → Same G (alt fail s) G s
  alt_unit s = record { to = unit_alt; back = λ w d. d_right d }

  -- Both are associative.
  seq_right : {s t r : Shape} → Within G (seq (seq s t) r) G (seq s (seq t r))
  seq_right w (d_seq {v = c} e (d_seq {u = a} {v = b} f x y) z) = d_seq (ungroup a b c f e) x (d_seq refl y z)

  seq_left : {s t r : Shape} → Within G (seq s (seq t r)) G (seq (seq s t) r)
  seq_left w (d_seq {u = a} e x (d_seq {u = b} {v = c} f y z)) = d_seq (regroup a b c f e) (d_seq refl x y) z

  pub seq_assoc : (s t r : Shape) → Same G (seq (seq s t) r) G (seq s (seq t r))
  seq_assoc s t r = record { to = seq_right; back = seq_left }

  alt_right : {s t r : Shape} → Within G (alt (alt s t) r) G (alt s (alt t r))
  alt_right w (d_left (d_left x)) = d_left x
  alt_right w (d_left (d_right y)) = d_right (d_left y)
  alt_right w (d_right z) = d_right (d_right z)

  alt_left : {s t r : Shape} → Within G (alt s (alt t r)) G (alt (alt s t) r)
  alt_left w (d_left x) = d_left (d_left x)
  alt_left w (d_right (d_left y)) = d_left (d_right y)
  alt_left w (d_right (d_right z)) = d_right z

  pub alt_assoc : (s t r : Shape) → Same G (alt (alt s t) r) G (alt s (alt t r))
  alt_assoc s t r = record { to = alt_right; back = alt_left }

  -- Lists of either may be cut.
  pub seqs_append : (α β : List Shape) → Same G (seqs (α ++ β)) G (seq (seqs α) (seqs β))
  seqs_append [] β = same_sym (seq_unit (seqs β))
  seqs_append (a ∷ α) β =
      same_trans (seq_same (same_refl G a) (seqs_append α β)) (same_sym (seq_assoc a (seqs α) (seqs β)))

  pub alts_append : (α β : List Shape) → Same G (alts (α ++ β)) G (alt (alts α) (alts β))
  alts_append [] β = same_sym (alt_unit (alts β))
  alts_append (a ∷ α) β =
      same_trans (alt_same (same_refl G a) (alts_append α β)) (same_sym (alt_assoc a (alts α) (alts β)))

  -- A choice, one by one.
  pub alts_same : {A : Type 0} {f g : A → Shape} → ((a : A) → Same G (f a) G (g a)) → (as' : List A)
      → Same G (alts (map f as')) G (alts (map g as'))
  alts_same h [] = same_refl G fail
  alts_same h (a ∷ as') = alt_same (h a) (alts_same h as')

  -- A choice in the middle of a sequence is a choice of sequences.
  module _ {A : Type 0} (f : A → Shape) (s t : Shape) where
    choose : (as' : List A) → Within G (seq s (seq (alts (map f as')) t)) G (alts (map (λ a. seq s (seq (f a) t)) as'))
    choose [] w (d_seq e x (d_seq e' y z)) = absurd (fails y)
    choose (a ∷ as') w (d_seq e x (d_seq e' (d_left y) z)) = d_left (d_seq e x (d_seq e' y z))
    choose (a ∷ as') w (d_seq e x (d_seq e' (d_right y) z)) = d_right (choose as' w (d_seq e x (d_seq e' y z)))

    under_left : {p q : Shape} {w : Word} → Der G (seq s (seq p t)) w → Der G (seq s (seq (alt p q) t)) w
    under_left (d_seq e x (d_seq e' y z)) = d_seq e x (d_seq e' (d_left y) z)

    under_right : {p q : Shape} {w : Word} → Der G (seq s (seq q t)) w → Der G (seq s (seq (alt p q) t)) w
    under_right (d_seq e x (d_seq e' y z)) = d_seq e x (d_seq e' (d_right y) z)

    unchoose : (as' : List A) → Within G (alts (map (λ a. seq s (seq (f a) t)) as')) G (seq s (seq (alts (map f as')) t))
    unchoose (a ∷ as') w (d_left x) = under_left x
    unchoose (a ∷ as') w (d_right x) = under_right (unchoose as' w x)
    unchoose [] w x' = elim x' [ ]

    pub distribute : (as' : List A) → Same G (seq s (seq (alts (map f as')) t)) G (alts (map (λ a. seq s (seq (f a) t)) as'))
    distribute as' = record { to = choose as'; back = unchoose as' }
