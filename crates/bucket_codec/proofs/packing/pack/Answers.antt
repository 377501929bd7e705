use Rattle.std.proofs.Common.{◌*◌, length, ◌∙◌, refl, sym, ap, subst, All}
use Rattle.bucket_codec.specs.BucketPlace.{place_width, bucket_width}
use Rattle.bucket_codec.specs.Packed.{bucket_total, IsWritable}
use Rattle.bucket_codec.proofs.Placed.{all_writable, packs_all, lays_all, zeros_all, words_long, written_over}
use Rattle.bucket_codec.proofs.Behind.{none_behind_zeros}
use Rattle.bucket_codec.proofs.packing.pack.Goals as goal

pub put_rows-requires-clause-each : goal.put_rows-requires-clause-each
put_rows-requires-clause-each g c =
    let rows = g.P.PlacedRows.places c.args.rows.now in
    subst (λ w. All (λ row. IsWritable w row) rows) (sym c.as_slice-widths.ensures) (all_writable c.args.schema.now.shape c.args.widths.now rows c.requires)

pub returns-clause-packed : goal.returns-clause-packed
returns-clause-packed g c =
    let first = c.from_vec.ensures ∙ written_over c.put_rows.new.first _ _ (sym (c.put_rows.auto.first ∙ c.as_mut_slice.ensures.len)) in
    let second = c.from_vec-2.ensures ∙ written_over c.put_rows.new.second _ _ (sym (c.put_rows.auto.second ∙ c.as_mut_slice-2.ensures.len)) in
    packs_all c.args.schema.now.shape c.args.widths.now c.as_slice-widths.result.now (g.P.PlacedRows.places c.args.rows.now) c.from_vec.result c.put_rows.new.first c.from_vec-2.result
    c.put_rows.new.second c.requires c.as_slice-widths.ensures first second c.in_ok-put_rows.ensures.packed

pub returns-clause-laid : goal.returns-clause-laid
returns-clause-laid g c =
    let first = c.from_vec.ensures ∙ written_over c.put_rows.new.first _ _ (sym (c.put_rows.auto.first ∙ c.as_mut_slice.ensures.len)) in
    let second = c.from_vec-2.ensures ∙ written_over c.put_rows.new.second _ _ (sym (c.put_rows.auto.second ∙ c.as_mut_slice-2.ensures.len)) in
    lays_all c.args.widths.now c.as_slice-widths.result.now (g.P.PlacedRows.places c.args.rows.now) c.from_vec.result c.put_rows.new.first c.from_vec-2.result
    c.put_rows.new.second c.as_slice-widths.ensures first second c.in_ok-put_rows.ensures.laid

pub returns-clause-first_bits : goal.returns-clause-first_bits
returns-clause-first_bits g c =
    let count = length (g.P.PlacedRows.places c.args.rows.now) in
    let first = c.from_vec.ensures ∙ written_over c.put_rows.new.first _ _ (sym (c.put_rows.auto.first ∙ c.as_mut_slice.ensures.len)) in
    none_behind_zeros c.in_ok-first.first.items c.as_mut_slice.result.now c.put_rows.new.first c.from_vec.result count (place_width c.args.widths.now) count _
    c.in_ok-first.ensures.none c.as_mut_slice.ensures.value first refl (ap place_width c.as_slice-widths.ensures) c.in_ok-put_rows.ensures.first

pub returns-clause-second_bits : goal.returns-clause-second_bits
returns-clause-second_bits g c =
    let count = bucket_total (g.P.PlacedRows.places c.args.rows.now) in
    let second = c.from_vec-2.ensures ∙ written_over c.put_rows.new.second _ _ (sym (c.put_rows.auto.second ∙ c.as_mut_slice-2.ensures.len)) in
    none_behind_zeros c.in_ok-second.second.items c.as_mut_slice-2.result.now c.put_rows.new.second c.from_vec-2.result count (bucket_width c.args.widths.now) count _
    c.in_ok-second.ensures.none c.as_mut_slice-2.ensures.value second refl (ap bucket_width c.as_slice-widths.ensures) c.in_ok-put_rows.ensures.second

pub returns-clause-whole : goal.returns-clause-whole
returns-clause-whole g c =
    let rows = g.P.PlacedRows.places c.args.rows.now in
    let widths = c.as_slice-widths.ensures in
    let first = c.from_vec.ensures ∙ written_over c.put_rows.new.first _ _ (sym (c.put_rows.auto.first ∙ c.as_mut_slice.ensures.len)) in
    let second = c.from_vec-2.ensures ∙ written_over c.put_rows.new.second _ _ (sym (c.put_rows.auto.second ∙ c.as_mut_slice-2.ensures.len)) in
    record {
      packs = returns-clause-packed g c;
      laid = returns-clause-laid g c;
      zeros = zeros_all c.args.widths.now c.as_slice-widths.result.now rows c.from_vec-2.result c.put_rows.new.second widths second c.in_ok-put_rows.ensures.zeros;
      first_bits = record {
        long = words_long c.in_ok-first.first.items c.as_mut_slice.result.now c.put_rows.new.first c.from_vec.result _ (c.count.result * c.place_bits.result) c.in_ok-first.ensures.long
            c.as_mut_slice.ensures.value c.put_rows.auto.first first
            (ap (λ n. n * c.place_bits.result) c.count.ensures ∙ ap (λ w. length rows * w) (c.place_bits.ensures ∙ ap place_width widths));
        below = returns-clause-first_bits g c;
      };
      second_bits = record {
        long = words_long c.in_ok-second.second.items c.as_mut_slice-2.result.now c.put_rows.new.second c.from_vec-2.result _ (c.in_ok-total_buckets.field-0 * c.bucket_bits.result) c.in_ok-second.ensures.long
            c.as_mut_slice-2.ensures.value c.put_rows.auto.second second
            (ap (λ n. n * c.bucket_bits.result) c.in_ok-total_buckets.ensures ∙ ap (λ w. bucket_total rows * w) (c.bucket_bits.ensures ∙ ap bucket_width widths));
        below = returns-clause-second_bits g c;
      };
    }
