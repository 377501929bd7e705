use Rattle.std.proofs.Common.{◌≡◌, ◌<◌, ℕ, List, length, take, drop, ap, sym, ◌∙◌, arith}
use Rattle.std.specs.Prelude.{slice_index}
use Rattle.std.proofs.lemmas.List.{length-take-le}
use Rattle.packed_half.specs.Half.{byte_in}
use Rattle.packed_half.proofs.Areas.{area_byte, area_long, field_inside}
use Rattle.packed_half.proofs.cut.CutWordsParts.byte.Goals as goal

-- the field is one of the fields
inside : (lengths : List ℕ) (field at : ℕ) → at < slice_index lengths field → field ≡ length (take field lengths)
inside lengths field at byte = let within = field_inside lengths field at byte in sym (length-take-le field lengths (omega arith))

pub slice_bounds-byte_words-end : goal.slice_bounds-byte_words-end
slice_bounds-byte_words-end c =
    let self = c.args.self.now in
    let long = area_long self.bytes.now self.lengths.now c.args.field in
    inside self.lengths.now c.args.field c.args.at (omega (arith, long, c.requires))

pub returns : goal.returns
returns c =
    let self = c.args.self.now in
    let there = c.behind.ensures ∙ ap (λ (n : ℕ). drop n self.bytes.now) c.byte_words-before.ensures in
    c.byte_at.ensures ∙ ap (λ (ws : List ℕ). byte_in ws c.args.at) there ∙ sym (area_byte self.bytes.now self.lengths.now c.args.field c.args.at c.requires)
