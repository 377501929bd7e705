use Rattle.std.proofs.Common.{◌≡◌, List, ap, ◌∙◌, sym, length, arith, map, get_or, set, subst}
use Rattle.type_state.specs.State.{IsLaidOut, State}
use Rattle.state_moves.specs.Halves.{current_halves}
use Rattle.state_moves.proofs.Flips.{all_turned, same_schemas, turned}
use Rattle.state_moves.proofs.Mapped.{all_mapped, first_mapped, none_mapped, not_mapped, one_more_mapped}
use Rattle.state_moves.proofs.turning.flip_all.Goals as goal

pub loop-state-init : goal.loop-state-init
loop-state-init c = none_mapped turned c.args.states.now

pub flip-requires : goal.flip-requires
flip-requires c =
    let same = ap (λ (xs : List State). get_or xs c.loop-state.state-index c.state-item.result) c.loop-state.invariant ∙ not_mapped turned c.loop-state.state-index c.args.states.now c.state-item.result in
    subst (λ (s : State). IsLaidOut s.schema s.other) (sym same) (c.requires c.loop-state.state-index c.state-item.result c.loop-state-test.true)

pub loop-state-preserved : goal.loop-state-preserved
loop-state-preserved c =
    ap (set c.loop-state.states c.loop-state.state-index) c.flip.ensures
    ∙ one_more_mapped turned c.loop-state.state-index c.args.states.now c.loop-state.states c.state-item.result c.loop-state-test.true c.loop-state.invariant

pub returns-clause-halves : goal.returns-clause-halves
returns-clause-halves c =
    let all : c.loop-state.state-index ≡ length c.args.states.now = omega (arith, c.loop-state-test.false, c.loop-state.auto.state-index-end) in
    ap current_halves (c.loop-state.invariant ∙ ap (λ n. first_mapped turned n c.args.states.now) all ∙ all_mapped turned c.args.states.now) ∙ all_turned c.args.states.now

pub returns-clause-schemas : goal.returns-clause-schemas
returns-clause-schemas c =
    let all : c.loop-state.state-index ≡ length c.args.states.now = omega (arith, c.loop-state-test.false, c.loop-state.auto.state-index-end) in
    ap (map (λ (s : State). s.schema)) (c.loop-state.invariant ∙ ap (λ n. first_mapped turned n c.args.states.now) all ∙ all_mapped turned c.args.states.now) ∙ same_schemas c.args.states.now
