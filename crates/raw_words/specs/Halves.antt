-- What holds of the fields of a half.
use Rattle.std.specs.Prelude.{◌≡◌, ℕ, ◌≤◌, ◌*◌, ◌<◌, ◌^◌, List, length, take, IfSome}
use Rattle.raw_words.specs.Deeds.{IsDeedTo}
use Rattle.raw_words.specs.declared.half.Half.TheInside.{Inside}

-- the words of the half, of which the block may have more
abbrev pub half_words : Inside → List ℕ
half_words h = take h.len h.block.words

pub record IsHalf (half : Inside) : Type 0 where
  pub places : length half.block.words ≡ half.capacity
  pub full : half.block.room ≡ 0
  pub within : half.len ≤ half.capacity
  pub fits : half.capacity * 8 < 2 ^ 63
  pub deed : IfSome half.deed (λ d. IsDeedTo d half.block.first half.capacity half.alloc)
