use Rattle.std.proofs.Common.{All, get_or, subst, arith, rules}
use Rattle.std.proofs.lemmas.List.{take_all}
use Rattle.json_rows.specs.PlainText.{IsPlainUnit}
use Rattle.json_rows.proofs.PlainTexts.{plain_more}
use Rattle.json_rows.proofs.plain.is_plain.Goals as goal

pub loop-unit-preserved : goal.loop-unit-preserved
loop-unit-preserved c =
    let l = c.loop-unit in
    let plain : IsPlainUnit (get_or c.args.units.now l.unit-index 0) = search rules in
    plain_more c.args.units.now l.unit-index 0 (omega arith) plain l.invariant

pub returns : goal.returns
returns c = λ yes. subst (All IsPlainUnit) (take_all c.loop-unit.unit-index c.args.units.now (omega arith)) c.loop-unit.invariant
