-- A count of the bytes at the front of a buffer.
use Rattle.std.specs.Prelude.{ℕ, ◌≡◌, ◌≤◌, List, length, take}

-- So many of the first bytes may be lent, and are so many.
abbrev pub IsPrefixLen : ℕ → List ℕ → Type 0
IsPrefixLen n xs = (n ≤ length xs) × (n ≡ length (take n xs))
