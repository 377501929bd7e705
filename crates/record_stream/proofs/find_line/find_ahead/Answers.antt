use Rattle.std.proofs.Common.{refl}
use Rattle.std.specs.Prelude.{string_bytes}
use Rattle.serde_json.specs.View.{view}
use Rattle.record_stream.proofs.Finding.{find_taken}
use Rattle.record_stream.proofs.find_line.find_ahead.Goals as goal

pub returns : goal.returns
returns c =
    find_taken c.args.reader.now c.take_object.new.reader c.take_key.new.reader c.take_array.new.reader c.take_text.new.reader c.read_value.new.reader c.read_value-2.new.reader
    (string_bytes c.in_ok-type_name.type_name) (view c.in_ok-paths.paths) (view c.in_ok-values.values) c.in_ok-take_object.ensures c.in_ok-take_key.ensures c.in_ok-take_array.ensures
    c.in_ok-type_name.ensures c.in_ok-paths.ensures.ok c.in_ok-values.ensures.ok (c.if-not-is_find_closed.ensures refl)
