-- What a record says of its node.
use Rattle.tree.specs.Tree.{Head, Tree, alone}
use Rattle.tree.specs.Fields.{head_at}
use Rattle.fields.specs.declared.record.Record.{Record}

abbrev pub head : Record → Head
head r = head_at r.src.now r.at

abbrev pub node : Record → Tree
node r = alone (head r)
