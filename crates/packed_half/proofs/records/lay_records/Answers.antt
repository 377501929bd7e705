use Rattle.std.proofs.Common.{◌≡◌, List, ℕ, length, take, ◌++◌, sym, ap, ◌∙◌, subst}
use Rattle.std.specs.Prelude.{map}
use Rattle.std.proofs.Math.Seq.{take-append_seam}
use Rattle.packed_half.specs.Half.{areas_in, byte_words}
use Rattle.packed_half.specs.Laying.{ArePlaced}
use Rattle.packed_half.proofs.PlacedRecords.{packed_lengths, records_placed}
use Rattle.packed_half.proofs.records.lay_records.Goals as goal

-- a vector whose items are all written over
written_over : (lent new behind : List (List ℕ)) (len : ℕ) → lent ≡ take len (new ++ behind) → len ≡ length new → lent ≡ new
written_over lent new behind len is all = is ∙ subst (λ (n : ℕ). take n (new ++ behind) ≡ new) (sym all) (take-append_seam new behind)

-- there is room for the bytes of the fields
room_is : (room : ℕ) (lengths : List ℕ) (areas : List (List ℕ)) → room ≡ byte_words lengths → map (λ (area : List ℕ). length area) areas ≡ lengths → room ≡ byte_words (map (λ (area : List ℕ). length area) areas)
room_is room lengths areas is are = is ∙ ap byte_words (sym are)

-- the bytes that stand there are those of the fields
areas_read : (words lengths : List ℕ) (lent areas : List (List ℕ)) → map (λ (area : List ℕ). length area) lent ≡ lengths → areas_in words (map (λ (area : List ℕ). length area) lent) ≡ lent → lent ≡ areas
    → areas ≡ areas_in words lengths
areas_read words lengths lent areas are read same = sym (ap (areas_in words) (sym are) ∙ read ∙ same)

pub put_areas-requires : goal.put_areas-requires
put_areas-requires g c =
    let areas : c.as_slice.result.now ≡ c.put_records.new.areas =
    written_over c.as_slice.result.now c.put_records.new.areas _ _ c.as_slice.ensures.value (sym (c.put_records.auto.areas ∙ c.as_mut_slice.ensures.len)) in
    let done = c.in_ok-put_records.ensures in
    room_is (length c.args.bytes.now) c.args.half.now.lengths c.as_slice.result.now c.requires.bytes
    (packed_lengths c.args.schema.now.shape c.args.half.now (g.N.NewRows.rows c.args.new.now) c.put_records.new.first c.as_slice.result.now c.put_records.new.areas c.requires.can areas done)

pub returns : goal.returns
returns g c =
    let areas : c.as_slice.result.now ≡ c.put_records.new.areas =
    written_over c.as_slice.result.now c.put_records.new.areas _ _ c.as_slice.ensures.value (sym (c.put_records.auto.areas ∙ c.as_mut_slice.ensures.len)) in
    let done = c.in_ok-put_records.ensures in
    let lengths = packed_lengths c.args.schema.now.shape c.args.half.now (g.N.NewRows.rows c.args.new.now) c.put_records.new.first c.as_slice.result.now c.put_records.new.areas c.requires.can areas done in
    let bytes = areas_read c.put_areas.new.words c.args.half.now.lengths c.as_slice.result.now c.put_records.new.areas lengths c.put_areas.ensures areas in
    λ second.
    subst (λ (as_read : List (List ℕ)). ArePlaced c.args.schema.now.shape c.args.half.now (g.N.NewRows.rows c.args.new.now) c.put_records.new.first second as_read) bytes
    (records_placed c.args.schema.now.shape c.args.half.now (g.N.NewRows.rows c.args.new.now) c.requires.object c.requires.can c.put_records.new.first second c.put_records.new.areas done)
