-- The two words of a label: which pairs are one, and which one.
use Rattle.std.specs.Prelude.{ℕ, zero, suc, ◌≡◌, refl, true}
use Rattle.std.proofs.Common.{sym, ◌∙◌, arith, eqb-true}
use Rattle.std.proofs.Math.Bool.{or-false}
use Rattle.std.proofs.Math.Dec.{eqb-suc-zero}
use Rattle.grammar.specs.Tree.{Label, unlabelled, labelled}
use Rattle.grammar.specs.Encode.{label_id, label_name}
use Rattle.grammar.specs.Read.{is_name, is_label, label_of}
use Rattle.grammar.specs.Valid.{ok_label}

label_suc : (i n : ℕ) → label_of i (suc n) ≡ labelled i (suc n)
label_suc i n = rw (eqb-suc-zero n, label_of)

pub label_fine : (i n : ℕ) → is_label i n ≡ true → ok_label (label_of i n) ≡ true
unfolding ok_label
label_fine i zero t = refl
label_fine i (suc n) t = rw (label_suc i n) (sym (or-false (is_name (suc n))) ∙ (rw (eqb-suc-zero n) at t))

pub label_id_lem : (i n : ℕ) → is_label i n ≡ true → i ≡ label_id (label_of i n)
label_id_lem i zero t = eqb-true i 0 t
label_id_lem i (suc n) t = rw (label_suc i n)

pub label_name_lem : (i n : ℕ) → n ≡ label_name (label_of i n)
label_name_lem i zero = refl
label_name_lem i (suc n) = rw (label_suc i n)

pub is_label_lem : (l : Label) → ok_label l ≡ true → is_label (label_id l) (label_name l) ≡ true
unfolding ok_label
is_label_lem unlabelled t = refl
is_label_lem (labelled i n) t = rw t

pub label_of_lem : (l : Label) → ok_label l ≡ true → label_of (label_id l) (label_name l) ≡ l
unfolding ok_label
label_of_lem unlabelled t = refl
label_of_lem (labelled i zero) t = absurd (let z : ◌≡◌ {A = ℕ} 0 1 = cc in omega arith)
label_of_lem (labelled i (suc n)) t = label_suc i n
