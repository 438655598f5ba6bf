-- What stands at a place of a sheet is one tree: it is read in one way alone, by a parser that finds all that stands.
use Rattle.std.specs.Prelude.{ℕ, suc, ◌≡◌, List, [], ◌∷◌, Bool, length}
use Rattle.std.specs.Coded.{×_prop, le_prop, Coded-set, coded_ℕ, coded_bool}
use Rattle.std.proofs.Common.{sym, ap, ◌∙◌}
use mathlib.Core.HLevel.{is_prop→PathP}
use Rattle.grammar.specs.Form.{newest}
use Rattle.grammar.specs.Tree.{body_depth}
use Rattle.grammar.specs.Lists.{each, all}
use Rattle.grammar.specs.Parse.{Got, got, bad}
use Rattle.grammar.specs.Stands.{Run, Spans}
use Rattle.grammar.specs.Found.{Found, FoundMany, FoundElement, FoundAlternative, FoundRules}
use Rattle.grammar.specs.Laws.Parse.{Complete, many_complete}
use Rattle.grammar.specs.Laws.Complete.{element_complete, alternative_complete, rule_complete, block_complete}

abbrev tree_or : {A : Type 0} → A → Got A → A
tree_or a (got b q) = b
tree_or a bad = a

abbrev next_or : {A : Type 0} → Got A → ℕ
next_or (got b q) = q
next_or bad = 0

module _ (ws : List ℕ) (end : ℕ) where
  run_prop : (xs : List ℕ) (at k q : ℕ) → IsProp (Run ws end xs at k q)
  run_prop [] at k q = ×_prop (Coded-set coded_ℕ _ _) le_prop
  run_prop (x ∷ xs) at k q = ×_prop (Coded-set coded_ℕ _ _) (run_prop xs at (suc k) q)

  module _ {A : Type 0} (enc : A → List ℕ) (ok : A → Bool) where
    spans_prop : (at : ℕ) (a : A) (q : ℕ) → IsProp (Spans ws end enc ok at a q)
    spans_prop at a q s t =
        λ i. record {
          stands = record { run = run_prop (enc a) at 0 q s.stands.run t.stands.run i };
          fine = Coded-set coded_bool _ _ s.fine t.fine i;
        }

  module _ {A : Type 0} {enc : A → List ℕ} {ok : A → Bool} {p : ℕ → Got A} (c : Complete ws end p enc ok) where
    found_prop : (at : ℕ) → IsProp (Found ws end enc ok at)
    found_prop at f g =
        let e = sym (c at f.tree f.next f.spans) ∙ c at g.tree g.next g.spans in
        let et : f.tree ≡ g.tree = ap (tree_or f.tree) e in
        let en : f.next ≡ g.next = ap next_or e in
        λ i. record {
          tree = et i;
          next = en i;
          spans = is_prop→PathP (λ i. Spans ws end enc ok at (et i) (en i)) (λ i. spans_prop enc ok at (et i) (en i)) f.spans g.spans i;
        }

    -- Of several that stand behind each other.
    many_prop : (n at : ℕ) → IsProp (FoundMany ws end enc ok n at)
    many_prop n at f g =
        let x = many_complete p enc ok c f.trees n at f.next (sym f.count) f.spans in
        let y = many_complete p enc ok c g.trees n at g.next (sym g.count) g.spans in
        let e = sym x ∙ y in
        let et : f.trees ≡ g.trees = ap (tree_or f.trees) e in
        let en : f.next ≡ g.next = ap next_or e in
        λ i. record {
          trees = et i;
          next = en i;
          spans = is_prop→PathP (λ i. Spans ws end (each enc) (all ok) at (et i) (en i))
              (λ i. spans_prop (each enc) (all ok) at (et i) (en i)) f.spans g.spans i;
          count = is_prop→PathP (λ i. length (et i) ≡ n) (λ i. Coded-set coded_ℕ _ _) f.count g.count i;
        }

  module _ (d : ℕ) where
    pub element_prop : (at : ℕ) → IsProp (FoundElement ws end d at)
    element_prop = found_prop (element_complete newest ws end _ _ _ (block_complete newest ws end d))

    pub alternative_prop : (at : ℕ) → IsProp (FoundAlternative ws end d at)
    alternative_prop = found_prop (alternative_complete newest ws end _ _ _ (block_complete newest ws end d))

  pub rules_prop : (n at : ℕ) → IsProp (FoundRules ws end n at)
  rules_prop = many_prop (rule_complete newest ws end _ _ _ (block_complete newest ws end body_depth))
