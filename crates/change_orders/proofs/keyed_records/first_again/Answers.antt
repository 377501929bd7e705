use Rattle.std.proofs.Common.{◌≡◌, ◌∙◌, ◌<◌, ◌≤◌, ℕ, Some, length, ap, arith, subst, sym}
use Rattle.std.specs.Prelude.{if◌then◌else◌, nat_eq, slice_get}
use Rattle.std.proofs.lemmas.Option.{slice_get-get_or}
use Rattle.linked_slots.specs.Chained.{Chained, hash_of}
use Rattle.row_hash.specs.Hash.{values_hash}
use Rattle.change_orders.proofs.KeysOnce.{apart_more, hashed_more, none_again, set_length}
use Rattle.change_orders.proofs.keyed_records.first_again.Goals as goal

pub loop-place-preserved : goal.loop-place-preserved
loop-place-preserved c =
    let found = c.args.found.now in
    let place = c.loop-place.place in
    let one = c.index-found-place.result in
    let inv = c.loop-place.invariant in
    let within : place < length found = omega (arith, c.in_ok-chains.ensures.few, c.loop-place-test.true) in
    let at : slice_get found place ≡ Some one = slice_get-get_or found place one within ∙ ap Some (sym c.index-found-place.is) in
    let hash_is : c.values_hash-hash.result ≡ values_hash one.key = c.values_hash-hash.ensures ∙ ap values_hash c.as_slice.ensures in
    record {
      hashed = hashed_more found place one at c.loop-place.chains c.link.new.self inv.hashed
          (λ other. subst (λ (h : ℕ). hash_of c.link.new.self other ≡ (if nat_eq other place then Some h else hash_of c.loop-place.chains other)) hash_is (c.link.ensures.hashes other));
      room = subst (λ (k : Chained). length found ≤ k.slots) (sym c.link.ensures.chains) inv.room;
      buckets = subst (λ (k : Chained). 0 < length k.chains) (sym c.link.ensures.chains) (subst (λ n. 0 < n) (sym (set_length _ _ _)) inv.buckets);
      apart = apart_more found place one at inv.apart c.in_default.ensures;
    }

pub returns : goal.returns
returns c = none_again c.args.found.now c.loop-place.place (omega (arith, c.in_ok-chains.ensures.few, c.loop-place-test.false)) c.loop-place.invariant.apart
