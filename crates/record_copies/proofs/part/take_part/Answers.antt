use Rattle.record_copies.proofs.Taken.{run_told, some_bits, text_has, bytes_has}
use Rattle.record_copies.proofs.part.take_part.Goals as goal

pub returns-in-Text : goal.returns-in-Text
returns-in-Text g c =
    let has = text_has c.args.kind.now c.in-Text.is in
    run_told c.args.kind.now _ c.args.width c.args.area.now _ c.take_run.result has (some_bits c.args.kind.now c.args.width has c.requires.wide) c.take_run.ensures

pub returns-in-Bytes : goal.returns-in-Bytes
returns-in-Bytes g c =
    let has = bytes_has c.args.kind.now c.in-Bytes.is in
    run_told c.args.kind.now _ c.args.width c.args.area.now _ c.take_run-in-Bytes.result has (some_bits c.args.kind.now c.args.width has c.requires.wide) c.take_run-in-Bytes.ensures
