-- The two steps of a substitution, splice and split: alternative by alternative, and as a change of a rule H.
use Rattle.std.specs.Prelude.{ℕ, ◌≡◌, List, [], ◌∷◌, ◌++◌, map}
use Rattle.std.proofs.Common.{sym, ◌∙◌, subst, append-nil}
use Rattle.std.proofs.Math.Option.{some, some-injective, none-ne-some}
use Rattle.language.specs.Shape.{Shape, call_of, alt, opt, seqs, alts, Shapes, find}
use Rattle.language.specs.Derive.{Der, d_eps, d_call, d_unknown, d_seq, d_left, d_right, d_absent, d_present}
use Rattle.language.specs.Laws.Cover.{Within, Same, same_refl, same_sym, same_trans, SameStrings, Alike, alike_replaced, replace_body}
use Rattle.language.specs.Laws.Cover.{replaced_others, replaced_found}
use Rattle.language.specs.Laws.Algebra.{seq_same, alt_same, seqs_append, alts_append, alts_same, distribute}

module _ {G : Shapes} where
  -- A call of a rule derives what its body does.
  opened : {n : ℕ} {b : Shape} → find G n ≡ some b → Within G (call_of n) G b
  opened {n} {b} e w (d_call {b = c} f d) = subst (λ s. Der G s w) (some-injective c b (sym f ∙ e)) d
  opened {n} {b} e w (d_unknown f) = absurd (none-ne-some b (sym f ∙ e))

  pub call_same : {n : ℕ} {b : Shape} → find G n ≡ some b → Same G (call_of n) G b
  call_same e = record { to = opened e; back = λ w d. d_call e d }

  -- An optional shape is there or is not.
  parted : {x : Shape} → Within G (opt x) G (alts (map seqs ((x ∷ []) ∷ [] ∷ [])))
  parted w d_absent = d_right (d_left d_eps)
  parted w (d_present d) = d_left (d_seq (append-nil w) d d_eps)

  joined : {x : Shape} → Within G (alts (map seqs ((x ∷ []) ∷ [] ∷ []))) G (opt x)
  joined {x} w (d_left (d_seq {u = u} e d d_eps)) = d_present (subst (λ v. Der G x v) (sym (append-nil u) ∙ e) d)
  joined w (d_right (d_left d_eps)) = d_absent
  joined {x = x} w (d_right (d_right x9)) = elim x9 [ ]

  pub opt_same : (x : Shape) → Same G (opt x) G (alts (map seqs ((x ∷ []) ∷ [] ∷ [])))
  opt_same x = record { to = parted; back = joined }

  -- What is a choice of sequences, in the middle of an alternative, makes as many alternatives.
  pub inline_same : {s : Shape} (Γ : List (List Shape)) → Same G s G (alts (map seqs Γ)) → (α β : List Shape)
      → Same G (seqs (α ++ (s ∷ β))) G (alts (map (λ γ. seqs (α ++ (γ ++ β))) Γ))
  inline_same {s} Γ e α β =
      same_trans (seqs_append α (s ∷ β))
      (same_trans (seq_same (same_refl G (seqs α)) (seq_same e (same_refl G (seqs β))))
      (same_trans (distribute seqs (seqs α) (seqs β) Γ)
      (alts_same (λ γ. same_sym (same_trans (seqs_append α (γ ++ β)) (seq_same (same_refl G (seqs α)) (seqs_append γ β)))) Γ)))

  -- Splice: `α S β` against `α γ₁ β | … | α γₙ β`, S having the alternatives γ₁ … γₙ.
  pub splice_same : (S : ℕ) (Γ : List (List Shape)) → find G S ≡ some (alts (map seqs Γ)) → (α β : List Shape)
      → Same G (seqs (α ++ (call_of S ∷ β))) G (alts (map (λ γ. seqs (α ++ (γ ++ β))) Γ))
  splice_same S Γ e = inline_same Γ (call_same e)

  -- Split: `α x? β` against `α x β | α β`.
  pub split_same : (x : Shape) (α β : List Shape)
      → Same G (seqs (α ++ (opt x ∷ β))) G (alts (seqs (α ++ (x ∷ β)) ∷ seqs (α ++ β) ∷ []))
  split_same x = inline_same ((x ∷ []) ∷ [] ∷ []) (opt_same x)

  -- In a list of alternatives, others for the one in a slot.
  pub slot_same : {a : Shape} (qs : List Shape) → Same G a G (alts qs) → (front rest : List Shape)
      → Same G (alts (front ++ (a ∷ rest))) G (alts (front ++ (qs ++ rest)))
  slot_same qs e [] rest = same_trans (alt_same e (same_refl G (alts rest))) (same_sym (alts_append qs rest))
  slot_same qs e (f ∷ front) rest = alt_same (same_refl G f) (slot_same qs e front rest)

module _ {H : ℕ} {G : Shapes} where
  pub alike_slot : {a : Shape} (qs : List Shape) → Alike H G a (alts qs) → (front rest : List Shape)
      → Alike H G (alts (front ++ (a ∷ rest))) (alts (front ++ (qs ++ rest)))
  alike_slot qs p front rest K o = slot_same qs (p K o) front rest

  pub alike_behind : (a : Shape) {b c : Shape} → Alike H G b c → Alike H G (alt a b) (alt a c)
  alike_behind a p K o = alt_same (same_refl K a) (p K o)

  -- S is another rule than H, so its body is the same in each of the grammars.
  pub alike_splice : (S : ℕ) (Γ : List (List Shape)) → (S ≡ H → ⊥) → find G S ≡ some (alts (map seqs Γ)) → (α β : List Shape)
      → Alike H G (seqs (α ++ (call_of S ∷ β))) (alts (map (λ γ. seqs (α ++ (γ ++ β))) Γ))
  alike_splice S Γ ne e α β K o = splice_same S Γ (o.others S ne ∙ e) α β

  pub alike_split : (x : Shape) (α β : List Shape)
      → Alike H G (seqs (α ++ (opt x ∷ β))) (alts (seqs (α ++ (x ∷ β)) ∷ seqs (α ++ β) ∷ []))
  alike_split x α β K o = split_same x α β

-- H has an alternative `a`, and others derive what it does whatever the body of H is: they may stand for it.
pub slot_replaced : (H : ℕ) (G : Shapes) {a : Shape} (qs front rest : List Shape) → find G H ≡ some (alts (front ++ (a ∷ rest)))
    → Alike H G a (alts qs) → SameStrings G (replace_body H (alts (front ++ (qs ++ rest))) G)
slot_replaced H G qs front rest g p =
    let c = alts (front ++ (qs ++ rest)) in
    alike_replaced (replaced_others H c G) g (replaced_found H c G g) (alike_slot qs p front rest)

-- Splice, in the rule H: every shape derives the same strings before and after.
pub splice : (H S : ℕ) (G : Shapes) (α β : List Shape) (Γ : List (List Shape)) (front rest : List Shape) → (S ≡ H → ⊥)
    → find G H ≡ some (alts (front ++ (seqs (α ++ (call_of S ∷ β)) ∷ rest))) → find G S ≡ some (alts (map seqs Γ))
    → SameStrings G (replace_body H (alts (front ++ (map (λ γ. seqs (α ++ (γ ++ β))) Γ ++ rest))) G)
splice H S G α β Γ front rest ne g e = slot_replaced H G (map (λ γ. seqs (α ++ (γ ++ β))) Γ) front rest g (alike_splice S Γ ne e α β)

-- Split, in the rule H.
pub split : (H : ℕ) (G : Shapes) (x : Shape) (α β front rest : List Shape)
    → find G H ≡ some (alts (front ++ (seqs (α ++ (opt x ∷ β)) ∷ rest)))
    → SameStrings G (replace_body H (alts (front ++ (seqs (α ++ (x ∷ β)) ∷ seqs (α ++ β) ∷ rest))) G)
split H G x α β front rest g = slot_replaced H G (seqs (α ++ (x ∷ β)) ∷ seqs (α ++ β) ∷ []) front rest g (alike_split x α β)
