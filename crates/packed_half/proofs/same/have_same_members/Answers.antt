use Rattle.std.proofs.Common.{rules, ◌≡◌, ◌-◌, ◌<◌, ◌^◌, ℕ, List, [], ◌∷◌, ◌++◌, Some, sym, ap, ◌∙◌, subst, arith}
use Rattle.std.proofs.lemmas.List.Elements.{All-contains}
use Rattle.ordinal_set.specs.Ordinals.{TellsNext}
use Rattle.ordinal_set.proofs.Members.{members_below-next, members_below-none}
use Rattle.packed_half.proofs.SameMembers.{ended}
use Rattle.packed_half.proofs.same.have_same_members.Goals as goal

pub loop-ordinal-init : goal.loop-ordinal-init
loop-ordinal-init c = record { small = omega arith; done = members_below-none c.args.set.now ∙ sym (members_below-none c.args.other.now) }

pub loop-ordinal-preserved : goal.loop-ordinal-preserved
loop-ordinal-preserved c =
    let from = c.loop-ordinal.from in
    let ordinal = c.in-Some.ordinal in
    let ordinals = c.in-Some.ensures.ordinals in
    let next = c.in-Some.ensures.tells in
    let also : c.next_from-in-Some.result ≡ Some ordinal = search rules in
    let beside = subst (TellsNext from c.args.other.now) also c.next_from-in-Some.ensures.tells in
    record {
      small = let small = All-contains (λ m. m < 2 ^ 32 - 1) c.args.set.now ordinal ordinals.small next.member in omega arith;
      done =
          members_below-next from ordinal c.args.set.now ordinals.rising next
          ∙ ap (λ (members : List ℕ). members ++ ordinal ∷ []) c.loop-ordinal.invariant.done
          ∙ sym (members_below-next from ordinal c.args.other.now c.next_from-in-Some.ensures.ordinals.rising beside);
    }

pub returns : goal.returns
returns c =
    let none = subst (TellsNext c.loop-ordinal.from c.args.set.now) c.in_default.is c.next_from.ensures.tells in
    ended c.loop-ordinal.from c.args.set.now c.args.other.now c.next_from-2.result c.is_none.result c.is_none.ensures c.next_from-2.ensures.next c.next_from-2.ensures.tells none
    c.loop-ordinal.invariant.done
