use Rattle.object_codec.specs.ObjectPlace.{part_at}
use Rattle.object_codec.proofs.FieldWidths.{boolean_below, element_below}
use Rattle.object_codec.proofs.Starts.{text_run_told, bytes_run_told}
use Rattle.object_codec.proofs.part.read_part.Goals as goal

pub boolean_part-requires : goal.boolean_part-requires
boolean_part-requires c =
    boolean_below c.args.kind.now c.args.width c.element-element.result c.requires.wide c.in-Boolean.is
    (element_below c.args.first.now c.args.at c.args.width c.element-element.result c.element-element.ensures)

pub returns-in-Text-clause-tells : goal.returns-in-Text-clause-tells
returns-in-Text-clause-tells c = λ place before area is held long.
    text_run_told c.args.kind.now (part_at c.args.first.now c.args.size place before c.args.width area) c.run.result c.in-Text.is (c.run.ensures.tells place before area is held long)

pub returns-in-Bytes-clause-tells : goal.returns-in-Bytes-clause-tells
returns-in-Bytes-clause-tells c = λ place before area is held long.
    bytes_run_told c.args.kind.now (part_at c.args.first.now c.args.size place before c.args.width area) c.run-in-Bytes.result c.in-Bytes.is (c.run-in-Bytes.ensures.tells place before area is held long)
