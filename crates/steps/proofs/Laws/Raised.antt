-- What a `?` returns, where an error is passed on.
use mathlib.Core.Path.{◌≡◌, ap}
use Rattle.std.specs.Prelude.{Result, Ok, Err, IsErrAnd}

pub raised : {T E : Type 0} (k : E) (r : Result T E) → IsErrAnd r (λ e. e ≡ k) → r ≡ Err k
raised k (Ok x) h = absurd h
raised k (Err e) h = ap Err h
