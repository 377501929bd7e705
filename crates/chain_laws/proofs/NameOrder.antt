-- The order of the names of blobs is total, and only equal names tie.
use Rattle.std.proofs.Common.{◌≡◌, refl}
use Rattle.std.specs.Cmp.{IsTotalOrder, on_total}
use Rattle.std.specs.Cmp.Lexicographic.{nat_list_cmp_total}
use Rattle.std.specs.FinMap.{IsAntisymmetric, nat_cmp-IsAntisymmetric, slice_cmp-IsAntisymmetric}
use Rattle.hol_io.specs.declared.name.BlobName.{BlobName}
use Rattle.hol_io.specs.declared.name.BlobName.TheVariants.{Snapshot, Delta, Reverse, Announced}
use Rattle.hol_io.specs.Name.{name_key, name_cmp}

pub name_cmp_total : IsTotalOrder name_cmp
name_cmp_total = on_total name_key nat_list_cmp_total

same_keys : (a b : BlobName) → name_key a ≡ name_key b → a ≡ b
same_keys (Snapshot v) (Snapshot w) e = cc
same_keys (Snapshot v) (Delta x y) e = cc
same_keys (Snapshot v) (Reverse x y) e = cc
same_keys (Snapshot v) Announced e = cc
same_keys (Delta u v) (Snapshot w) e = cc
same_keys (Delta u v) (Delta x y) e = cc
same_keys (Delta u v) (Reverse x y) e = cc
same_keys (Delta u v) Announced e = cc
same_keys (Reverse u v) (Snapshot w) e = cc
same_keys (Reverse u v) (Delta x y) e = cc
same_keys (Reverse u v) (Reverse x y) e = cc
same_keys (Reverse u v) Announced e = cc
same_keys Announced (Snapshot w) e = cc
same_keys Announced (Delta x y) e = cc
same_keys Announced (Reverse x y) e = cc
same_keys Announced Announced e = refl

pub name_cmp-IsAntisymmetric : IsAntisymmetric name_cmp
name_cmp-IsAntisymmetric a b e = same_keys a b (slice_cmp-IsAntisymmetric nat_cmp-IsAntisymmetric (name_key a) (name_key b) e)
