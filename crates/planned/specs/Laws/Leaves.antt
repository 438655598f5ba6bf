-- Fresh ids change a leaf's words and not how many there are.
use Rattle.std.specs.Prelude.{◌≡◌, refl, length}
use Rattle.grammar.specs.Tree.{Leaf, epsilon, action, predicate, call, token, terminal, end_of_input, Counters}
use Rattle.grammar.specs.Encode.{encode_leaf, encode_leaf_in}
use Rattle.reference.specs.Apply.{renumber_leaf}

pub leaf_length : (l : Leaf) (c : Counters) → length (encode_leaf (renumber_leaf l c).node) ≡ length (encode_leaf l)
unfolding renumber_leaf encode_leaf_in
leaf_length epsilon c = refl
leaf_length (action a) c = refl
leaf_length (predicate p) c = refl
leaf_length (call k) c = refl
leaf_length (token n) c = refl
leaf_length terminal c = refl
leaf_length end_of_input c = refl
