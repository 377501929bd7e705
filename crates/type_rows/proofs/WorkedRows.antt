-- Worked rows, computed.
use Rattle.std.proofs.Common.{◌≡◌, List, [], ◌∷◌, None, Some, refl, ap}
use Rattle.std.specs.Prelude.{pos}
use Rattle.bit_array.specs.Element.{element_of, number_of}
use Rattle.row_model.specs.declared.row.Value.{Value}
use Rattle.row_model.specs.declared.row.Row.{Row}
use Rattle.bucket_codec.specs.Run.{Bucket, keys_of, taken_of}
use Rattle.bucket_codec.specs.BucketPlace.{run_at}
use Rattle.type_rows.specs.Rows.{pairs_in, row_in}
use Rattle.type_rows.specs.Value.{units_behind, units_in}
use Rattle.type_rows.specs.Worked.{number_section, number_shape, set_section, set_shape}
use Rattle.type_rows.proofs.Keyed.{entries_put, put_all}

pub number : row_in number_shape number_section 0 ≡ Row.Object (Value.Int (pos 5) ∷ [])
unfolding element_of number_of
number = refl

pub null : row_in number_shape number_section 1 ≡ Row.Object (Value.Null ∷ [])
unfolding element_of number_of
null = refl

computed : (run : List Bucket) → pairs_in run ≡ put_all (taken_of run)
unfolding pairs_in
computed run = entries_put (taken_of run)

pub set : row_in set_shape set_section 0 ≡ Row.Set (0 ∷ 1 ∷ [])
unfolding element_of number_of
set = ap (λ ps. Row.Set (keys_of ps)) (computed (run_at set_section.widths set_section.first set_section.second 0))

pub round : pairs_in (Some (4, 8) ∷ Some (5, 9) ∷ None ∷ Some (0, 7) ∷ []) ≡ (0, 7) ∷ (4, 8) ∷ (5, 9) ∷ []
round = computed (Some (4, 8) ∷ Some (5, 9) ∷ None ∷ Some (0, 7) ∷ [])

pub units : units_in (97 ∷ 129 ∷ 105 ∷ []) ≡ 97 ∷ 233 ∷ []
unfolding units_behind
units = refl
