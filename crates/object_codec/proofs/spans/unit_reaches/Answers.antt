use Rattle.std.proofs.Common.{ℕ, ◌≡◌, ◌+◌, ◌*◌, ◌/◌, ◌^◌, ◌<◌, length, refl, arith}
use Rattle.hol_varint.specs.Varint.{VarStandsBelow}
use Rattle.object_codec.specs.Texts.{IsBorder}
use Rattle.object_codec.proofs.UnitReaches.{held_further, held_behind, reaches_filled, no_reaches}
use Rattle.object_codec.proofs.spans.unit_reaches.Goals as goal

pub loop-place-init : goal.loop-place-init
loop-place-init c = (omega arith, no_reaches c.args.bytes.now c.new-reaches.result.items c.new-reaches.ensures.items, λ place low before border. absurd (omega arith))

pub loop-place-preserved-in-Some : goal.loop-place-preserved-in-Some
loop-place-preserved-in-Some c =
    let old = c.loop-place.reaches.items in
    let there = c.in-Some.ensures in
    (there.1.within, c.loop-place.invariant.1, held_further c.args.bytes.now (64 * length old) c.loop-place.place c.in-Some.next there.0 c.loop-place.invariant.2 there.1)

pub loop-place-preserved : goal.loop-place-preserved
loop-place-preserved c =
    let bytes = c.args.bytes.now in
    let place = c.loop-place.place in
    let old = c.loop-place.reaches in
    let new = c.resize.new.self in
    let told = c.in_ok-resize-in-None.ensures in
    let old_is = old.ok.0 in
    let new_is = new.ok.0 in
    let many : place / 64 + 1 ≡ length new.items = omega (arith, told.len) in
    let behind : place < 64 * length new.items = omega arith in (
      c.behind_end-place.ensures.inside,
      reaches_filled (λ place. IsBorder bytes place → (next : ℕ) × (unit : ℕ) × VarStandsBelow (2 ^ 16) bytes place unit next) old.items new.items old.len (place / 64 + 1) place old_is many c.loop-place.invariant.1 c.loop-place.invariant.2 told.by_index.0 (λ k d. told.by_index.1 k d refl),
      held_behind bytes (64 * length new.items) place c.behind_end-place.result behind c.behind_end-place.ensures.on,
    )

pub returns : goal.returns
returns c =
    let bytes = c.args.bytes.now in
    let old = c.loop-place.reaches in
    let new = c.resize-2.new.self in
    let told = c.in_ok-resize.ensures in
    let old_is = old.ok.0 in
    let new_is = new.ok.0 in
    let many : length bytes / 64 + 1 ≡ length new.items = omega (arith, told.len) in
    reaches_filled (λ place. IsBorder bytes place → (next : ℕ) × (unit : ℕ) × VarStandsBelow (2 ^ 16) bytes place unit next) old.items new.items old.len (length bytes / 64 + 1) (length bytes) old_is many c.loop-place.invariant.1
    (λ place low before border. c.loop-place.invariant.2 place low (omega arith) border) told.by_index.0 (λ k d. told.by_index.1 k d refl)
