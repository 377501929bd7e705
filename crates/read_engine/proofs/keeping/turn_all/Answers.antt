use Rattle.std.proofs.Common.{◌≡◌, ap, ◌∙◌, length, arith, get_or, set, sym, subst}
use Rattle.std.specs.Prelude.{IsTrue}
use Rattle.state_moves.proofs.Mapped.{all_mapped, first_mapped, none_mapped, not_mapped, one_more_mapped}
use Rattle.read_engine.proofs.keeping.turn_all.Goals as goal

pub loop-index-init : goal.loop-index-init
loop-index-init g c = none_mapped g.I.StepIndex.turned c.args.indexes.now

pub turn-requires : goal.turn-requires
turn-requires g c =
    let same = ap (λ xs. get_or xs c.loop-index.index-index c.index-item.result) c.loop-index.invariant ∙ not_mapped g.I.StepIndex.turned c.loop-index.index-index c.args.indexes.now c.index-item.result in
    subst (λ kept. IsTrue (g.I.StepIndex.has_next kept)) (sym same) (c.requires c.loop-index.index-index c.index-item.result c.loop-index-test.true)

pub loop-index-preserved : goal.loop-index-preserved
loop-index-preserved g c =
    ap (set c.loop-index.indexes c.loop-index.index-index) c.turn.ensures
    ∙ one_more_mapped g.I.StepIndex.turned c.loop-index.index-index c.args.indexes.now c.loop-index.indexes c.index-item.result c.loop-index-test.true c.loop-index.invariant

pub returns : goal.returns
returns g c =
    let all : c.loop-index.index-index ≡ length c.args.indexes.now = omega (arith, c.loop-index-test.false, c.loop-index.auto.index-index-end) in
    c.loop-index.invariant ∙ ap (λ n. first_mapped g.I.StepIndex.turned n c.args.indexes.now) all ∙ all_mapped g.I.StepIndex.turned c.args.indexes.now
