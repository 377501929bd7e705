use Rattle.std.proofs.Common.{List, arith, subst}
use Rattle.std.specs.Prelude.{All}
use Rattle.std.proofs.lemmas.List.{take_all}
use Rattle.delta_blob.specs.declared.of_model.NamedPart.{NamedPart}
use Rattle.delta_blob.specs.OfModel.{KeepsNamed}
use Rattle.delta_blob.proofs.JudgedTypes.{counts_fail, counts_more}
use Rattle.delta_blob.proofs.of_model.check_counts.Goals as goal

pub returns-in-Some : goal.returns-in-Some
returns-in-Some c = counts_fail c.args.parts.now c.loop-named.named-index c.named-item.result c.in-Some.fault (omega (arith, c.loop-named-test.true)) c.named-item.is c.loop-named.invariant c.in-Some.ensures

pub loop-named-preserved : goal.loop-named-preserved
loop-named-preserved c = counts_more c.args.parts.now c.loop-named.named-index c.named-item.result (omega (arith, c.loop-named-test.true)) c.named-item.is c.loop-named.invariant c.in_default.ensures

pub returns : goal.returns
returns c = subst (λ (parts : List NamedPart). All KeepsNamed parts) (take_all c.loop-named.named-index c.args.parts.now (omega (arith, c.loop-named-test.false))) c.loop-named.invariant
