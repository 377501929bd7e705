-- The store that a list of entries stands for.
use Rattle.std.specs.Prelude.{ℕ, List, map, Vec}
use Rattle.std.specs.FinMap.{from_entries}
use Rattle.std.specs.declared.alloc.Global.{Global}
use Rattle.hol_io.specs.declared.name.BlobName.{BlobName}
use Rattle.hol_io.specs.Store.{Store}

-- The store of the entries of a map in memory.
abbrev pub store_of : List (BlobName × Vec ℕ Global) → Store
store_of entries = from_entries (map (λ entry. (entry.0, entry.1.items)) entries)
