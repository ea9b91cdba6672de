use Rattle.rules.proofs.Parts.{whole_read, whole_stops}
use Rattle.rules.proofs.reader.Reader.whole.Goals as goal

pub returns-then-is_empty : goal.returns-then-is_empty
returns-then-is_empty c =
    let p = c.in_ok-nesting.ensures in
    (p.spelled, whole_read c.args.self.now c.part.new.self _ p c.without_spaces-end.result c.without_spaces-end.ensures c.if-is_empty.ensures, p.nested, p.adds)

pub returns-else-is_empty : goal.returns-else-is_empty
returns-else-is_empty c = whole_stops c.args.self.now c.part.new.self _ c.in_ok-nesting.ensures c.without_spaces-end.result c.without_spaces-end.ensures c.stuck.result.left c.stuck.ensures c.if-is_empty.ensures
