-- The two steps of a substitution, splice and split, as pairings of trees; and in the rule H.
use Rattle.std.specs.Prelude.{ℕ, ◌≡◌}
use Rattle.std.proofs.Math.Path.{refl, sym, ap, subst}
use Rattle.std.proofs.Common.{◌∙◌}
use mathlib.Core.List.{List, [], ◌∷◌, ◌++◌, map, append-nil}
use Rattle.std.proofs.Math.Option.{some, some-injective, none-ne-some}
use Rattle.language.specs.Shape.{Shape, call_of, alt, opt, seqs, alts, Shapes, find}
use Rattle.language.specs.Readings.{Tree, t_eps, t_call, t_unknown, t_seq, t_left, t_right, t_absent, t_present, yield}
use Rattle.language.specs.Laws.Cover.{ButFor, but_for_refl}
use Rattle.language.specs.Laws.Trees.Carry.{Covers, carry, Plain, Pairs, pairs_refl, pairs_trans, pairs_sym, call_moved, carry_subst}
use Rattle.language.specs.Laws.Trees.Carry.{yield_subst, loop, Shape-set}
use Rattle.language.specs.Laws.Trees.Algebra.{seq_pairs, alt_pairs, alts_pairs, seqs_append, alts_append, distribute}
use Rattle.language.specs.Laws.Trees.Replace.{Paired, replaced_pairs}

-- A call of a rule has the trees of its body.
module _ {X : Shapes} (n : ℕ) {b : Shape} (e : find X n ≡ some b) where
  -- The tree below its node.
  unfoldable pub opened : Tree X (call_of n) → Tree X b
  opened (t_call {b = c} f x) = subst (Tree X) (some-injective c b (sym f ∙ e)) x
  opened (t_unknown f) = absurd (none-ne-some b (sym f ∙ e))

  -- The node put on and taken off, in both orders; the string; and that it commutes.
  pub open_call : (x : Tree X b) → opened (t_call e x) ≡ x
  unfolding opened
  open_call x = loop (some-injective b b (sym e ∙ e)) x

  pub call_open : (x : Tree X (call_of n)) → t_call e (opened x) ≡ x
  unfolding opened
  call_open (t_call {b = c} f x) = sym (call_moved x (some-injective c b (sym f ∙ e)) f e)
  call_open (t_unknown f) = absurd (none-ne-some b (sym f ∙ e))

  pub open_yield : (x : Tree X (call_of n)) → yield (opened x) ≡ yield x
  unfolding opened yield
  open_yield (t_call {b = c} f x) = yield_subst (some-injective c b (sym f ∙ e)) x
  open_yield (t_unknown f) = absurd (none-ne-some b (sym f ∙ e))

module _ {H : ℕ} {G : Shapes} where
  pub open_carry : (S : ℕ) → (S ≡ H → ⊥) → (X Y : Shapes) (o : ButFor H G X) (r : ButFor H G Y) {b : Shape} (e : find X S ≡ some b)
      (f : find Y S ≡ some b) (c : Covers X Y) → Plain H c → (x : Tree X (call_of S))
      → carry c (opened S e x) ≡ opened S f (carry c x)
  unfolding opened carry
  open_carry S ne X Y o r {b} e f c k (t_call {b = d} g x) =
      let h : find Y S ≡ some d = r.others S ne ∙ sym (o.others S ne) ∙ g in
      let q = some-injective d b (sym g ∙ e) in
      carry_subst c q x
      ∙ ap (λ l. subst (Tree Y) l (carry c x)) (Shape-set d b q (some-injective d b (sym h ∙ f)))
      ∙ ap (opened S f) (sym (k.calls S d ne g h (carry c x)))
  open_carry S ne X Y o r {b} e f c k (t_unknown g) = absurd (none-ne-some b (sym g ∙ e))

  -- So a call pairs off with its body.
  unfoldable pub call_pairs : (S : ℕ) → (S ≡ H → ⊥) → {b : Shape} → find G S ≡ some b → Pairs H G (call_of S) b
  call_pairs S ne e =
      record {
        to = λ X o. opened S (o.others S ne ∙ e);
        from = λ X o x. t_call (o.others S ne ∙ e) x;
        there = λ X o. open_call S (o.others S ne ∙ e);
        back = λ X o. call_open S (o.others S ne ∙ e);
        strings = λ X o. open_yield S (o.others S ne ∙ e);
        commutes = λ X Y o r c k. open_carry S ne X Y o r (o.others S ne ∙ e) (r.others S ne ∙ e) c k;
      }

-- An optional shape is there or is not.
module _ {X : Shapes} {x : Shape} where
  -- Absent is the second of two alternatives, there the first.
  unfoldable pub parted : Tree X (opt x) → Tree X (alts (map seqs ((x ∷ []) ∷ [] ∷ [])))
  parted t_absent = t_right (t_left t_eps)
  parted (t_present d) = t_left (t_seq d t_eps)

  unfoldable pub joined : Tree X (alts (map seqs ((x ∷ []) ∷ [] ∷ []))) → Tree X (opt x)
  joined (t_left (t_seq d t_eps)) = t_present d
  joined (t_right (t_left t_eps)) = t_absent
  joined (t_right (t_right x7)) = elim x7 [ ]

  -- Each undoes the other, the string is kept, and it commutes.
  pub part_join : (d : Tree X (alts (map seqs ((x ∷ []) ∷ [] ∷ [])))) → parted (joined d) ≡ d
  unfolding parted joined
  part_join (t_left (t_seq d t_eps)) = refl
  part_join (t_right (t_left t_eps)) = refl
  part_join (t_right (t_right x6)) = elim x6 [ ]

  pub join_part : (d : Tree X (opt x)) → joined (parted d) ≡ d
  unfolding parted joined
  join_part t_absent = refl
  join_part (t_present d) = refl

  pub parted_yield : (d : Tree X (opt x)) → yield (parted d) ≡ yield d
  unfolding parted yield
  parted_yield t_absent = refl
  parted_yield (t_present d) = append-nil (yield d)

pub parted_carry : {X Y : Shapes} (c : Covers X Y) {x : Shape} (d : Tree X (opt x)) → carry c (parted d) ≡ parted (carry c d)
unfolding parted carry
parted_carry c t_absent = refl
parted_carry c (t_present d) = refl

module _ {H : ℕ} {G : Shapes} where
  -- So an optional pairs off with a choice.
  unfoldable pub opt_pairs : (x : Shape) → Pairs H G (opt x) (alts (map seqs ((x ∷ []) ∷ [] ∷ [])))
  opt_pairs x =
      record {
        to = λ X o. parted;
        from = λ X o. joined;
        there = λ X o. part_join;
        back = λ X o. join_part;
        strings = λ X o. parted_yield;
        commutes = λ X Y o r c k. parted_carry c;
      }

  -- What is a choice of sequences, in the middle of an alternative, makes as many alternatives.
  unfoldable pub inline_pairs : {s : Shape} (Γ : List (List Shape)) → Pairs H G s (alts (map seqs Γ)) → (α β : List Shape)
      → Pairs H G (seqs (α ++ (s ∷ β))) (alts (map (λ γ. seqs (α ++ (γ ++ β))) Γ))
  inline_pairs {s} Γ e α β =
      pairs_trans (seqs_append α (s ∷ β))
      (pairs_trans (seq_pairs (pairs_refl (seqs α)) (seq_pairs e (pairs_refl (seqs β))))
      (pairs_trans (distribute seqs (seqs α) (seqs β) Γ)
      (alts_pairs (λ γ. pairs_sym (pairs_trans (seqs_append α (γ ++ β)) (seq_pairs (pairs_refl (seqs α)) (seqs_append γ β)))) Γ)))

  -- Splice: `α S β` against `α γ₁ β | … | α γₙ β`. The slot of S's alternative is the new one's.
  unfoldable pub splice_pairs : (S : ℕ) (Γ : List (List Shape)) → (S ≡ H → ⊥) → find G S ≡ some (alts (map seqs Γ)) → (α β : List Shape)
      → Pairs H G (seqs (α ++ (call_of S ∷ β))) (alts (map (λ γ. seqs (α ++ (γ ++ β))) Γ))
  splice_pairs S Γ ne e = inline_pairs Γ (call_pairs S ne e)

  -- Split: `α x? β` against `α x β | α β`.
  unfoldable pub split_pairs : (x : Shape) (α β : List Shape)
      → Pairs H G (seqs (α ++ (opt x ∷ β))) (alts (seqs (α ++ (x ∷ β)) ∷ seqs (α ++ β) ∷ []))
  split_pairs x = inline_pairs ((x ∷ []) ∷ [] ∷ []) (opt_pairs x)

  -- In a list of alternatives, others for the one in a slot.
  unfoldable pub slot_pairs : {a : Shape} (qs : List Shape) → Pairs H G a (alts qs) → (front rest : List Shape)
      → Pairs H G (alts (front ++ (a ∷ rest))) (alts (front ++ (qs ++ rest)))
  slot_pairs qs e [] rest = pairs_trans (alt_pairs e (pairs_refl (alts rest))) (pairs_sym (alts_append qs rest))
  slot_pairs qs e (f ∷ front) rest = alt_pairs (pairs_refl f) (slot_pairs qs e front rest)

  -- Behind one alternative more.
  unfoldable pub pairs_behind : (a : Shape) {b c : Shape} → Pairs H G b c → Pairs H G (alt a b) (alt a c)
  pairs_behind a p = alt_pairs (pairs_refl a) p

-- One may stand for the other as the body of H.
unfoldable pub body_replaced : {H : ℕ} {G K : Shapes} {b c : Shape} → ButFor H G K → find G H ≡ some b → find K H ≡ some c
    → Pairs H G b c → (s : Shape) → Paired G s K s
body_replaced {H} {G} o g k p = replaced_pairs (but_for_refl H G) o g k p
