use Rattle.std.proofs.Common.{◌-◌, ◌<◌, ◌^◌, subst, sym, ap, ◌∙◌, arith, ◌++◌, ◌∷◌, []}
use Rattle.std.proofs.lemmas.List.Elements.{All-contains}
use Rattle.ordinal_set.specs.Ordinals.{TellsNext}
use Rattle.ordinal_set.proofs.Members.{members_below-none, members_below-next, members_below-all}
use Rattle.ordinal_set.proofs.set.OrdinalSet.ordinals.Goals as goal

pub loop-ordinal-init : goal.loop-ordinal-init
loop-ordinal-init c = record { small = omega arith; done = c.new-list.ensures ∙ sym (members_below-none c.args.self.now) }

pub loop-ordinal-preserved : goal.loop-ordinal-preserved
loop-ordinal-preserved c =
    let set = c.args.self.now in
    let ordinals = c.in-Some.ensures.ordinals in
    let next = c.in-Some.ensures.tells in
    record {
      small = let small = All-contains (λ m. m < 2 ^ 32 - 1) set c.in-Some.ordinal ordinals.small next.member in omega arith;
      done =
          c.in_ok-push.ensures.ok
          ∙ ap (λ list. list ++ c.in-Some.ordinal ∷ []) c.loop-ordinal.invariant.done
          ∙ sym (members_below-next c.loop-ordinal.from c.in-Some.ordinal set ordinals.rising next);
    }

pub returns-clause-members : goal.returns-clause-members
returns-clause-members c =
    let set = c.args.self.now in
    let from = c.loop-ordinal.from in
    let none = subst (λ answer. TellsNext from set answer) c.in_default.is c.next_from.ensures.tells in
    c.loop-ordinal.invariant.done ∙ members_below-all from set none
