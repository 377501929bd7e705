use Rattle.std.proofs.Common.{◌-◌, ◌<◌, ◌^◌, ◌++◌, ◌∷◌, [], subst, sym, ap, ◌∙◌, arith}
use Rattle.std.proofs.lemmas.List.Elements.{All-contains}
use Rattle.ordinal_set.specs.Ordinals.{TellsNext, lacking}
use Rattle.ordinal_set.proofs.Members.{members_below-none, members_below-next, members_below-all}
use Rattle.ordinal_set.proofs.Lacking.{ordinals-lacking}
use Rattle.ordinal_set.proofs.set.OrdinalSet.without.Goals as goal

pub loop-ordinal-init : goal.loop-ordinal-init
loop-ordinal-init c = record { small = omega arith; done = c.new-list.ensures ∙ sym (members_below-none (lacking c.args.self.now c.args.other.now)) }

pub overflow_add-from : goal.overflow_add-from
overflow_add-from c =
    let set = lacking c.args.self.now c.args.other.now in
    let ordinals = ordinals-lacking c.args.self.now c.args.other.now c.in-Some.ensures.ordinals in
    let small = All-contains (λ m. m < 2 ^ 32 - 1) set c.in-Some.ordinal ordinals.small c.in-Some.ensures.tells.member in
    record { fits = omega (arith, small) }

pub returns-in_err-push-clause-ordinals : goal.returns-in_err-push-clause-ordinals
returns-in_err-push-clause-ordinals c = ordinals-lacking c.args.self.now c.args.other.now c.first_beside.ensures.ordinals

pub loop-ordinal-preserved : goal.loop-ordinal-preserved
loop-ordinal-preserved c =
    let set = lacking c.args.self.now c.args.other.now in
    let ordinals = ordinals-lacking c.args.self.now c.args.other.now c.in-Some.ensures.ordinals in
    let next = c.in-Some.ensures.tells in
    record {
      small = let small = All-contains (λ m. m < 2 ^ 32 - 1) set c.in-Some.ordinal ordinals.small next.member in omega arith;
      done =
          c.in_ok-push.ensures.ok
          ∙ ap (λ list. list ++ c.in-Some.ordinal ∷ []) c.loop-ordinal.invariant.done
          ∙ sym (members_below-next c.loop-ordinal.from c.in-Some.ordinal set ordinals.rising next);
    }

pub returns-clause-members : goal.returns-clause-members
returns-clause-members c =
    let set = lacking c.args.self.now c.args.other.now in
    let from = c.loop-ordinal.from in
    let none = subst (λ answer. TellsNext from set answer) c.in_default.is c.first_beside.ensures.tells in
    c.loop-ordinal.invariant.done ∙ members_below-all from set none

pub returns-clause-ordinals : goal.returns-clause-ordinals
returns-clause-ordinals c = ordinals-lacking c.args.self.now c.args.other.now c.first_beside.ensures.ordinals
