-- The areas before this one are written, behind what stood there, and their lengths fit.
use Rattle.std.proofs.Common.{◌≡◌, ◌<◌, ◌^◌, ◌++◌, length, take, flat_map}
use Rattle.std.specs.List.{All}
use Rattle.blob_writing.specs.Written.{area_bytes}
use Rattle.blob_writing.proofs.items.push_areas.Given as goal

abbrev pub invariant-loop-area : goal.invariant-loop-area
invariant-loop-area l = record {
  written : l.out.items ≡ l.initial.out.items ++ flat_map area_bytes (take l.area-index l.areas);
  fits : All (λ area. length area < 2 ^ 64) (take l.area-index l.areas);
}
