use Rattle.std.proofs.Common.{◌≡◌, ◌∙◌, ℕ, ◌+◌, List, ap, sym, subst, refl, length, drop, arith}
use Rattle.std.proofs.lemmas.Option.{slice_get_read}
use Rattle.seen_patches.specs.ByName.{field_in}
use Rattle.seen_patches.proofs.Areas.{IsMovedSoFar, left_back, moved_step}
use Rattle.seen_patches.proofs.Naming.{inside_of}
use Rattle.seen_patches.proofs.columns.seen_areas.Goals as goal

pub loop-field-preserved : goal.loop-field-preserved
loop-field-preserved c =
    let mine = c.args.mine.now in
    let theirs = c.args.theirs.now in
    let index = c.loop-field.field-index in
    let now = c.as_mut_slice.result.now in
    let left = c.take_area.new.areas in
    let item = slice_get_read mine (length mine) index c.field-item.result refl (omega arith) c.field-item.is in
    let so_far = subst (λ (l : List (List ℕ)). IsMovedSoFar mine theirs c.args.areas l c.loop-field.seen index) (sym c.as_mut_slice.ensures.value) c.loop-field.invariant in
    let long : length now ≡ length theirs = so_far.long ∙ c.requires.filled in
    let back = left_back now left (drop (length left) c.loop-field.areas.items) c.loop-field.areas.len c.find-place.result c.as_mut_slice.ensures.len c.take_area.ensures.left in
    subst (λ (l : List (List ℕ)). IsMovedSoFar mine theirs c.args.areas l c.push.new.self (index + 1)) (sym back)
    (moved_step mine theirs c.args.areas now left c.loop-field.seen c.push.new.self index c.field-item.result c.find-place.result c.take_area.result c.requires.apart item
    (c.find-place.ensures.is ∙ ap (field_in theirs) c.text.ensures) (inside_of theirs (length now) c.find-place.result long c.find-place.ensures.inside)
    c.take_area.ensures.taken c.take_area.ensures.left c.in_ok-push.ensures.ok so_far)
