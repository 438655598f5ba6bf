use Rattle.std.proofs.Common.{rules, ◌≡◌, ◌+◌, ◌*◌, get_or}
use Rattle.words.specs.Sheet.{text}
use Rattle.collisions.proofs.Laws.Find.{name_read, name_past}
use Rattle.collisions.proofs.names.Names.name_of.Goals as goal

pub returns-then-p-self : goal.returns-then-p-self
returns-then-p-self c =
    let bytes : c.from_le_bytes.result ≡ get_or c.args.e 0 0 + 256 * get_or c.args.e 1 0 = search rules in
    name_read (text c.args.self.now.s.now) c.args.e bytes c.place-p.ensures c.word.ensures

pub returns-else-p-self : goal.returns-else-p-self
returns-else-p-self c =
    let bytes : c.from_le_bytes.result ≡ get_or c.args.e 0 0 + 256 * get_or c.args.e 1 0 = search rules in
    name_past c.args.self.now.s.now.bytes.now c.args.e bytes c.place-p.ensures c.if-p-self.false
