use Rattle.std.proofs.Common.{arith}
use Rattle.row_packing.specs.Chosen.{shape_at}
use Rattle.row_packing.proofs.Measuring.{few_kept, many_bytes, many_items}
use Rattle.row_packing.proofs.measured.widths_within.Goals as goal
use Rattle.row_packing.proofs.measured.widths_within.Goals.{then-total-gt-MAX_ITEMS-via-then-total-gt-MAX_ITEMS, then-total-gt-MAX_ITEMS-via-else-total-gt-MAX_ITEMS+then-bytes-gt-MAX_BYTES}

pub widths-requires-clause-keeps : goal.widths-requires-clause-keeps
widths-requires-clause-keeps g c =
    few_kept (shape_at (g.B.Rows.schemas c.args.new.now) c.args.type_index) (g.A.Rows.table c.args.old.now) (g.B.Rows.table c.args.new.now) c.args.type_index c.args.total c.args.bytes c.requires.total c.requires.bytes
    c.requires.ordinals (omega arith) (omega arith)

pub returns-then-total-gt-MAX_ITEMS : goal.returns-then-total-gt-MAX_ITEMS
returns-then-total-gt-MAX_ITEMS g c keeps =
    let shape = shape_at (g.B.Rows.schemas c.args.new.now) c.args.type_index in
    let old = g.A.Rows.table c.args.old.now in
    let new = g.B.Rows.table c.args.new.now in
    absurd
    (elim c.then-total-gt-MAX_ITEMS.branch [
      | then-total-gt-MAX_ITEMS-via-then-total-gt-MAX_ITEMS w ↦
          many_items shape old new c.args.type_index c.args.total c.args.bytes c.requires.total c.requires.bytes (omega (arith, w.if-total-gt-MAX_ITEMS.true)) keeps
      | then-total-gt-MAX_ITEMS-via-else-total-gt-MAX_ITEMS+then-bytes-gt-MAX_BYTES w ↦
          many_bytes shape old new c.args.type_index c.args.total c.args.bytes c.requires.total c.requires.bytes (omega (arith, w.if-bytes-gt-MAX_BYTES.true)) keeps
    ])
