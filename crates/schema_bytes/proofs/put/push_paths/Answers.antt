use Rattle.std.proofs.Common.{◌∙◌, ap, ◌++◌, flat_map}
use Rattle.hol_varint.specs.Varint.{varint_bytes}
use Rattle.schema_model.specs.Schema.{name_bytes}
use Rattle.schema_bytes.proofs.Fronts.{kept_twice, kept_behind}
use Rattle.schema_bytes.proofs.Pieces.{piece_pushed, pieces_done}
use Rattle.schema_bytes.proofs.put.push_paths.Goals as goal

pub returns-in_err-push_name-clause-kept : goal.returns-in_err-push_name-clause-kept
returns-in_err-push_name-clause-kept c = kept_behind _ _ _ _ _ _ c.in_ok-put_vint.ensures.ok c.loop-path.invariant c.push_name.ensures.kept

pub loop-path-preserved : goal.loop-path-preserved
loop-path-preserved c =
    piece_pushed name_bytes c.as_slice-path-items.result.now c.loop-path.path-index c.path-item.result c.put_vint.new.out.items c.loop-path.out.items c.push_name.new.out.items
    c.loop-path-test.true c.path-item.is c.loop-path.invariant c.in_ok-push_name.ensures.ok

pub returns-clause-ok : goal.returns-clause-ok
returns-clause-ok c =
    pieces_done name_bytes c.args.paths.now c.as_slice-path-items.result.now c.loop-path.path-index c.args.out.now.items (varint_bytes c.len.result) c.put_vint.new.out.items c.loop-path.out.items
    c.loop-path-test.false c.as_slice-path-items.ensures c.in_ok-put_vint.ensures.ok c.loop-path.invariant
    ∙ ap (λ count. c.args.out.now.items ++ (varint_bytes count ++ flat_map name_bytes c.args.paths.now)) c.len.ensures

pub returns-clause-kept : goal.returns-clause-kept
returns-clause-kept c = kept_twice _ _ _ _ _ c.in_ok-put_vint.ensures.ok c.loop-path.invariant
