use Rattle.std.proofs.Common.{rules}
use Rattle.std.proofs.lemmas.Fn.{always_returns_same}
use Rattle.collisions.specs.Names.{entry_name}
use Rattle.words.specs.Sheet.{text}
use Rattle.collisions.proofs.Laws.Find.{looked}
use Rattle.collisions.proofs.names.Names.look.Goals as goal

-- The closure gives an entry's name.
pub returns : goal.returns
returns c =
    let facts = c.binary_search_by_key.ensures in
    let by_key = facts.position (entry_name (text c.args.self.now.s.now)) (always_returns_same _ _ _ (λ a r g called. search rules)) in
    looked c.args.self.now.ordered c.lowest-low.ensures c.count.ensures c.as_chunks.ensures.front c.args.name c.binary_search_by_key.result
    facts.bound by_key
