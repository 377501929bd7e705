use Rattle.std.proofs.Common.{◌≡◌, ◌<◌, ℕ, Bool, false, List, Some, ap, ◌∙◌, length, arith, get_or, map, set}
use Rattle.std.specs.Prelude.{slice_get}
use Rattle.std.proofs.lemmas.Option.{slice_get-get_or}
use Rattle.type_state.specs.State.{State}
use Rattle.state_moves.specs.Halves.{current_halves}
use Rattle.state_moves.proofs.Comings.{all_named, first_named, laid_here, long_named, named_schemas, none_named, one_more_named}
use Rattle.state_moves.proofs.turning.flip_named.Goals as goal

pub loop-type_index-init : goal.loop-type_index-init
loop-type_index-init c = none_named c.args.named.now c.args.states.now

pub bounds-named-type_index : goal.bounds-named-type_index
bounds-named-type_index c = omega (arith, c.loop-type_index-test.true, long_named c.args.states.now c.args.named.now c.requires)

-- whether the type is named
flag_there : (named : List Bool) (n : ℕ) → n < length named → slice_get named n ≡ Some (get_or named n false)
flag_there named n inside = slice_get-get_or named n false inside

pub flip_if_named-requires : goal.flip_if_named-requires
flip_if_named-requires c =
    laid_here c.loop-type_index.type_index c.args.named.now c.args.states.now c.loop-type_index.states c.index-states-type_index.result _ c.loop-type_index-test.true c.loop-type_index.invariant
    (flag_there c.args.named.now c.loop-type_index.type_index (omega (arith, c.loop-type_index-test.true, long_named c.args.states.now c.args.named.now c.requires))) c.requires

pub loop-type_index-preserved : goal.loop-type_index-preserved
loop-type_index-preserved c =
    let within : c.loop-type_index.type_index < length c.args.named.now = omega (arith, c.loop-type_index-test.true, long_named c.args.states.now c.args.named.now c.requires) in
    ap (set c.loop-type_index.states c.loop-type_index.type_index) c.flip_if_named.ensures
    ∙ one_more_named c.loop-type_index.type_index c.args.named.now c.args.states.now c.loop-type_index.states c.index-states-type_index.result _ c.loop-type_index-test.true within c.loop-type_index.invariant
    (flag_there c.args.named.now c.loop-type_index.type_index within)

pub returns-clause-halves : goal.returns-clause-halves
returns-clause-halves c =
    let all : c.loop-type_index.type_index ≡ length c.args.states.now = omega arith in
    ap current_halves (c.loop-type_index.invariant ∙ ap (λ n. first_named n c.args.named.now c.args.states.now) all) ∙ all_named c.args.named.now c.args.states.now (long_named c.args.states.now c.args.named.now c.requires)

pub returns-clause-schemas : goal.returns-clause-schemas
returns-clause-schemas c = ap (map (λ (s : State). s.schema)) c.loop-type_index.invariant ∙ named_schemas c.loop-type_index.type_index c.args.named.now c.args.states.now
