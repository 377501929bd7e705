-- Which block a deed is the right to give back, and to which allocator.
use Rattle.std.specs.Prelude.{◌≡◌, ℕ}
use Rattle.std.specs.Ptr.{Ptr}
use Rattle.raw_words.specs.declared.block.Deed.{Deed}

abbrev pub IsDeedTo : {A : Type 0} → Deed A → Ptr → ℕ → A → Type 0
IsDeedTo deed first places alloc = (deed.at ≡ first) × (deed.places ≡ places) × (deed.alloc ≡ alloc)
