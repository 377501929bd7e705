use Rattle.std.proofs.Common.{◌∙◌, ap, sym, subst, arith, take, get_or, ℕ}
use Rattle.std.specs.Prelude.{nat_eq}
use Rattle.std.specs.Map.{lookup}
use Rattle.std.specs.Ordering.{nat_cmp}
use Rattle.std.specs.BTreeMap.{get, IsOrdered, BTreeMap}
use Rattle.std.proofs.lemmas.List.{take_more}
use Rattle.write_engine.proofs.Gathering.{is_map, take_whole, pair_again, pair_more}
use Rattle.write_engine.proofs.gather.map_of.Goals as goal
use Rattle.write_engine.proofs.gather.map_of.Goals.{then-not-contains_key+in_ok-insert, else-not-contains_key}

pub loop-pair-preserved : goal.loop-pair-preserved
loop-pair-preserved c = elim c.if-not-contains_key.branch [
  | then-not-contains_key+in_ok-insert w ↦ record {
    ordered = subst (λ (m : BTreeMap ℕ ℕ). IsOrdered nat_cmp m) (sym w.members-is) w.insert.ensures.ordered;
    same = λ q.
        ap (λ (m : BTreeMap ℕ ℕ). get nat_cmp m q) w.members-is
        ∙ pair_more (get nat_cmp c.loop-pair.members) (get nat_cmp w.insert.new.self) (take c.loop-pair.pair-index c.args.pairs.now) (get_or c.args.pairs.now c.loop-pair.pair-index (0, 0)) c.loop-pair.invariant.same
        (sym c.contains_key.ensures ∙ w.if-not-contains_key.true) w.in_ok-insert.ensures.updates.0 q
        ∙ ap (lookup (nat_eq q)) (sym (take_more c.args.pairs.now c.loop-pair.pair-index (0, 0) c.loop-pair-test.true));
  }
  | else-not-contains_key w ↦ record {
    ordered = subst (λ (m : BTreeMap ℕ ℕ). IsOrdered nat_cmp m) (sym w.members-is) c.loop-pair.invariant.ordered;
    same = λ q.
        ap (λ (m : BTreeMap ℕ ℕ). get nat_cmp m q) w.members-is
        ∙ pair_again (get nat_cmp c.loop-pair.members) (take c.loop-pair.pair-index c.args.pairs.now) (get_or c.args.pairs.now c.loop-pair.pair-index (0, 0)) c.loop-pair.invariant.same
        (sym c.contains_key.ensures ∙ w.if-not-contains_key.false) q
        ∙ ap (lookup (nat_eq q)) (sym (take_more c.args.pairs.now c.loop-pair.pair-index (0, 0) c.loop-pair-test.true));
  }
]

pub returns : goal.returns
returns c = is_map c.args.pairs.now c.loop-pair.members.entries c.from_vec.result (c.from_vec.ensures ∙ c.in_ok-entries_of.ensures) c.loop-pair.invariant.ordered
    (λ q. c.loop-pair.invariant.same q ∙ ap (lookup (nat_eq q)) (take_whole c.args.pairs.now c.loop-pair.pair-index (omega arith)))
