-- What replacing the hub's body, and removing rules, is as far as derivation is concerned.
use Rattle.std.specs.Prelude.{ℕ, suc, ◌≡◌, Bool, not, eqb}
use Rattle.std.proofs.Math.Path.{refl}
use Rattle.std.proofs.Common.{sym, ap, ◌∙◌}
use mathlib.Core.List.{List, [], ◌∷◌, map, Memᴰ}
use Rattle.grammar.specs.Tree.{Block, RuleOf}
use Rattle.grammar.specs.Lists.{member, keep}
use Rattle.language.specs.Shape.{erase_block, erase_rules}
use Rattle.grammar.specs.Laws.Parse.{either}
use Rattle.language.specs.Laws.Cover.{replace_body}
use Rattle.language.specs.Laws.Removal.{without}
use Rattle.reference.specs.Apply.{with_body}

module _ (d : ℕ) (hub : ℕ) (b : Block (suc d)) where
  -- Replacing by id is replacing by name, where the two tell the same rule.
  pub erase_replaced : (H : ℕ) (qs : List (RuleOf (Block (suc d))))
      → ((r : RuleOf (Block (suc d))) → Memᴰ r qs → eqb r.id hub ≡ eqb r.name H)
      → erase_rules (suc d) (map (with_body d hub b) qs) ≡ replace_body H (erase_block (suc d) b) (erase_rules (suc d) qs)
  unfolding replace_body with_body
  erase_replaced H [] h = refl
  erase_replaced H (r ∷ qs) h =
      let ih = erase_replaced H qs (λ q m. h q (Memᴰ.tail m)) in
      let e = h r (Memᴰ.head refl) in
      either (eqb r.id hub)
      (λ t. rw (t, with_body) (rw (sym e ∙ t, replace_body) (ap (λ l. record { name = r.name; body = erase_block (suc d) b } ∷ l) ih)))
      (λ f. rw (f, with_body) (rw (sym e ∙ f, replace_body)
      (ap (λ l. record { name = r.name; body = erase_block (suc d) r.body } ∷ l) ih)))

-- The same of removing.
pub erase_kept : (d : ℕ) (gone : ℕ → Bool) (xs : List ℕ) (qs : List (RuleOf (Block d)))
    → ((r : RuleOf (Block d)) → Memᴰ r qs → gone r.name ≡ member r.id xs)
    → erase_rules d (keep (λ r. not (member r.id xs)) qs) ≡ without gone (erase_rules d qs)
unfolding keep without
erase_kept d gone xs [] h = refl
erase_kept d gone xs (r ∷ qs) h =
    let ih = erase_kept d gone xs qs (λ q m. h q (Memᴰ.tail m)) in
    let e = h r (Memᴰ.head refl) in
    either (member r.id xs)
    (λ t. rw (t, e ∙ t, without) ih)
    (λ f. rw (f, e ∙ f, without) (ap (λ l. record { name = r.name; body = erase_block d r.body } ∷ l) ih))
