use Rattle.std.proofs.Common.{◌≡◌, ◌+◌, ◌++◌, ℕ, ℤ, List, [], length, ap, ◌∙◌, arith}
use Rattle.std.specs.Int.{w32, w64, to_be_bytes, cast_unsigned}
use mir.Val.{to_z, of_z}
use Rattle.std.proofs.lemmas.Int.{ints, to_z-of_z}
use Rattle.hol_varint.specs.Varint.{varint_bytes}
use Rattle.blob_frame.specs.Written.{schemas_at, schema_list_bytes}
use Rattle.blob_frame.proofs.Listing.{six_parts}
use Rattle.blob_frame.proofs.writing.header_of.Goals as goal

pub returns : goal.returns
returns c =
    let list = schema_list_bytes (schemas_at c.args.model.now c.args.types.now) in
    let listed = c.in_ok-push_schemas.ensures.ok in
    let from : to_z w64 (of_z w64 c.args.origin) ≡ c.args.origin = grind (arith, ints, to_z-of_z) in
    let to : to_z w64 (of_z w64 c.args.destination) ≡ c.args.destination = grind (arith, ints, to_z-of_z) in
    let first : c.extend_from_slice.new.self.items ≡ [] ++ to_be_bytes w32 1030 =
    c.in_ok-extend_from_slice.ensures.items ∙ (ap (λ (xs : List ℕ). xs ++ c.to_be_bytes.result) c.new-header.ensures.items ∙ ap (λ (xs : List ℕ). [] ++ xs) c.to_be_bytes.ensures) in
    let second : c.extend_from_slice-2.new.self.items ≡ c.extend_from_slice.new.self.items ++ to_be_bytes w64 (cast_unsigned w64 c.args.origin) =
    c.in_ok-extend_from_slice-2.ensures.items ∙ ap (λ (xs : List ℕ). c.extend_from_slice.new.self.items ++ xs) (c.to_be_bytes-2.ensures ∙ (ap (to_be_bytes w64) c.cast_unsigned.ensures ∙ ap (λ (z : ℤ). to_be_bytes w64 (cast_unsigned w64 z)) from)) in
    let third : c.extend_from_slice-3.new.self.items ≡ c.extend_from_slice-2.new.self.items ++ to_be_bytes w64 (cast_unsigned w64 c.args.destination) =
    c.in_ok-extend_from_slice-3.ensures.items ∙ ap (λ (xs : List ℕ). c.extend_from_slice-2.new.self.items ++ xs) (c.to_be_bytes-3.ensures ∙ (ap (to_be_bytes w64) c.cast_unsigned-2.ensures ∙ ap (λ (z : ℤ). to_be_bytes w64 (cast_unsigned w64 z)) to)) in
    let number : c.len.result + 1 ≡ length list + 1 = omega (arith, ap (λ (xs : List ℕ). length xs) listed) in
    let fourth : c.put_vint.new.out.items ≡ c.extend_from_slice-3.new.self.items ++ varint_bytes (length list + 1) =
    c.in_ok-put_vint.ensures.ok ∙ ap (λ n. c.extend_from_slice-3.new.self.items ++ varint_bytes n) number in
    let fifth : c.extend_from_slice-4.new.self.items ≡ c.put_vint.new.out.items ++ list =
    c.in_ok-extend_from_slice-4.ensures.items ∙ ap (λ (xs : List ℕ). c.put_vint.new.out.items ++ xs) (c.as_slice.ensures.value ∙ listed) in
    six_parts _ _ _ _ _ _ first second third fourth fifth c.in_ok-extend_from_slice-5.ensures.items
