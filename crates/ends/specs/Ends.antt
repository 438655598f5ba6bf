-- A walk that only passes what stands there.
use Rattle.grammar.specs.Fold.{Steps}

abbrev pub skipping : Steps (Unit {0})
skipping =
    record {
      past_leaf = λ s h l. tt;
      into_block = λ s h. tt;
      past_block = λ s h t. tt;
      into_alternative = λ s h. tt;
      past_alternative = λ s h t. tt;
    }
