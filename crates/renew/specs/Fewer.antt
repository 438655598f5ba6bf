-- What is known of rules by rows, when some of the rules are gone: a row speaks of a list of ids, and says the same of those that stay.
use Rattle.std.specs.Prelude.{ℕ, ◌<◌, ◌≡◌, List, [], true, false, not, length, get_or}
use Rattle.grammar.specs.Numbers.{rule_limit}
use Rattle.grammar.specs.Tree.{Rule}
use Rattle.grammar.specs.Lists.{member, keep}
use Rattle.reference.specs.Analysis.{ids_of}
use Rattle.reach.specs.Rows.{bit, RowOf}
use Rattle.analysis.specs.Facts.{Among}
use Rattle.renew.specs.Less.{after, Less, RowsLess}
use Rattle.renew.specs.declared.renew.Renewed.{Renewed}

-- The rules that stay where those in a list are gone.
abbrev pub staying : List ℕ → List Rule → List Rule
staying gone = keep (λ r. not (member r.id gone))

module _ (rs : List Rule) where
  -- A row that has just the rules whose ids are in a list.
  abbrev pub HasRow : List ℕ → List ℕ → Type 0
  HasRow xs row = RowOf (ids_of rs) (length rs) xs row

  -- A row for each rule, with what the rule gives.
  pub record HasRows (give : Rule → List ℕ) (rows : List (List ℕ)) : Type 0 where
    pub at : (i : ℕ) (a : Among rs i) → HasRow (give a.rule) (get_or rows i [])

  -- The rule at a place has an id.
  pub record IsAt (i id : ℕ) : Type 0 where
    pub inside : i < length rs
    pub is : get_or (ids_of rs) i 0 ≡ id

module _ (cs ks : List (List ℕ)) (m : Renewed) (cs' ks' : List (List ℕ)) (m' : Renewed) where
  -- All rows without place k, of n.
  pub record PlaceLess (n k : ℕ) : Type 0 where
    pub calls : RowsLess n k cs cs'
    pub corners : RowsLess n k ks ks'
    pub nullable : Less m.ground.marks.nullable k m'.ground.marks.nullable
    pub stops : Less m.ground.marks.stops k m'.ground.marks.stops
    pub kept : Less m.ground.kept k m'.ground.kept
    pub hub : m'.hub ≡ after k m.hub

  -- Nothing is changed.
  pub record Unchanged : Type 0 where
    pub calls : cs' ≡ cs
    pub corners : ks' ≡ ks
    pub rest : m' ≡ m

  -- All rows without place k, if it is in a row.
  pub record PlaceLessIf (gone : List ℕ) (n k : ℕ) : Type 0 where
    pub taken : bit gone k ≡ true → PlaceLess n k
    pub left : bit gone k ≡ false → Unchanged
    pub calls_long : length cs' ≡ rule_limit
    pub corners_long : length ks' ≡ rule_limit

  -- What was known of rules is known of fewer of them. The hub is not among those that are gone.
  pub record Fewer (rs qs : List Rule) (gone : List ℕ) : Type 0 where
    pub calls : (give : Rule → List ℕ) → HasRows rs give cs → HasRows qs give cs'
    pub corners : (give : Rule → List ℕ) → HasRows rs give ks → HasRows qs give ks'
    pub nullable : (xs : List ℕ) → HasRow rs xs m.ground.marks.nullable → HasRow qs xs m'.ground.marks.nullable
    pub stops : (xs : List ℕ) → HasRow rs xs m.ground.marks.stops → HasRow qs xs m'.ground.marks.stops
    pub kept : (xs : List ℕ) → HasRow rs xs m.ground.kept → HasRow qs xs m'.ground.kept
    pub hub : (h : ℕ) → member h gone ≡ false → IsAt rs m.hub h → IsAt qs m'.hub h

  -- So it is for all rules of which a row tells those that are gone.
  pub record RulesLess (row : List ℕ) (n : ℕ) : Type 0 where
    pub is : (rs : List Rule) (gone : List ℕ) → length rs ≡ n → HasRow rs gone row → Fewer rs (staying gone rs) gone
    pub calls_long : length cs' ≡ rule_limit
    pub corners_long : length ks' ≡ rule_limit
