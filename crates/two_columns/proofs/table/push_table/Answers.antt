use Rattle.std.proofs.Common.{append_assoc, arith}
use Rattle.two_columns.specs.Kept.{table_is}
use Rattle.two_columns.proofs.table.push_table.Goals as goal

pub returns : goal.returns
returns c =
    rw (c.push_records.ensures, c.push_lines.ensures.bytes, c.push_str.ensures.bytes, c.requires.empty, append_assoc)
    (table_is c.requires.given (record { small = λ i. omega (arith, c.type_inv.left i) }) c.list_file-before.ensures.list c.list_file-after.ensures.list c.records.ensures c.records-2.ensures)
