-- The preserved rules: a run of words of a sheet.
use Rattle.std.specs.Prelude.{ℕ, ◌-◌, ◌*◌, List, take, drop}

-- The words from a place up to a place.
abbrev pub between : List ℕ → ℕ → ℕ → List ℕ
between ws from to = take (to - from) (drop from ws)

-- The bytes in which these stand.
abbrev pub bytes_between : List ℕ → ℕ → ℕ → List ℕ
bytes_between bs from to = take (4 * to - 4 * from) (drop (4 * from) bs)
