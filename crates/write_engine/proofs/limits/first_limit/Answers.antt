use Rattle.std.proofs.Common.{◌<◌, ◌∙◌, arith, length, refl, sym}
use Rattle.std.proofs.lemmas.Option.{slice_get_read}
use Rattle.write_engine.proofs.TypesKept.{first_passed, limit_told, one_kept}
use Rattle.write_engine.proofs.limits.first_limit.Goals as goal

pub loop-type_index-preserved : goal.loop-type_index-preserved
loop-type_index-preserved c previous current agree are =
    let model = c.args.model.now in
    let measured = c.args.measured.now in
    let k = c.loop-type_index.type_index in
    let one = c.index-measured-type_index.result in
    let known : k < length model = omega (arith, c.loop-type_index-test.true, c.len-type_index-end.ensures.count) in
    let at = slice_get_read measured (length measured) k one refl (omega (arith, known, c.requires)) c.index-measured-type_index.is in
    one_kept model previous current k known (c.loop-type_index.invariant previous current agree are) c.limit_of-limit.result (sym c.is_some.ensures ∙ c.if-is_some.false)
    (limit_told model previous current agree measured are k one c.schema.result.now c.limit_of-limit.result at c.schema.ensures.value c.limit_of-limit.ensures)

pub returns-then-is_some : goal.returns-then-is_some
returns-then-is_some c previous current agree are =
    let model = c.args.model.now in
    let measured = c.args.measured.now in
    let k = c.loop-type_index.type_index in
    let one = c.index-measured-type_index.result in
    let known : k < length model = omega (arith, c.loop-type_index-test.true, c.len-type_index-end.ensures.count) in
    let at = slice_get_read measured (length measured) k one refl (omega (arith, known, c.requires)) c.index-measured-type_index.is in
    first_passed model previous current k known (c.loop-type_index.invariant previous current agree are) c.limit_of-limit.result (sym c.is_some.ensures ∙ c.if-is_some.true)
    (limit_told model previous current agree measured are k one c.schema.result.now c.limit_of-limit.result at c.schema.ensures.value c.limit_of-limit.ensures)

pub returns : goal.returns
returns c previous current agree are t inside =
    c.loop-type_index.invariant previous current agree are t (omega (arith, inside, c.loop-type_index-test.false, c.len-type_index-end.ensures.count))
