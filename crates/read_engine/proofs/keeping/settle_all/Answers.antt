use Rattle.std.proofs.Common.{◌≡◌, ap, ◌∙◌, length, arith, set}
use Rattle.state_moves.proofs.Mapped.{all_mapped, first_mapped, none_mapped, one_more_mapped}
use Rattle.read_engine.proofs.keeping.settle_all.Goals as goal

pub loop-index-init : goal.loop-index-init
loop-index-init g c = none_mapped g.I.StepIndex.still c.args.indexes.now

pub loop-index-preserved : goal.loop-index-preserved
loop-index-preserved g c =
    ap (set c.loop-index.indexes c.loop-index.index-index) c.settle.ensures
    ∙ one_more_mapped g.I.StepIndex.still c.loop-index.index-index c.args.indexes.now c.loop-index.indexes c.index-item.result c.loop-index-test.true c.loop-index.invariant

pub returns : goal.returns
returns g c =
    let all : c.loop-index.index-index ≡ length c.args.indexes.now = omega (arith, c.loop-index-test.false, c.loop-index.auto.index-index-end) in
    c.loop-index.invariant ∙ ap (λ n. first_mapped g.I.StepIndex.still n c.args.indexes.now) all ∙ all_mapped g.I.StepIndex.still c.args.indexes.now
