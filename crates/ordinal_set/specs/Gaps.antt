-- Ordinal runs of a blob: lists of numbers as the VInts of the gaps between them.
use Rattle.std.specs.Prelude.{◌≡◌, ℕ, ◌+◌, ◌-◌, ◌^◌, ◌<◌, List, [], ◌∷◌, ◌++◌, length, take, Result, Ok, Err}
use Rattle.hol_varint.specs.Varint.{IsVarint, VintStandsAt, varint_bytes}
use Rattle.ordinal_set.specs.declared.gaps.GapFault.{GapFault}
use Rattle.ordinal_set.specs.declared.gaps.GapFault.TheVariants.{Bad, Memory}

-- The bytes begin with the VInt of a gap, which leads from the number before to this one.
pub record BeginsWithGap (before number : ℕ) (bytes behind : List ℕ) : Type 0 where
  pub gap : ℕ
  pub vint : List ℕ
  pub begins : bytes ≡ vint ++ behind
  pub spelled : IsVarint vint gap
  pub below : gap < 2 ^ 32
  pub is : number ≡ before + gap

-- The bytes are VInts, and each number of the list is the one before it plus the next VInt.
abbrev pub GapsAfter : ℕ → List ℕ → List ℕ → Type 0
GapsAfter before bytes [] = bytes ≡ []
GapsAfter before bytes (number ∷ rest) =
    (behind : List ℕ) × BeginsWithGap before number bytes behind × GapsAfter number behind rest

-- The first number of a run is its first VInt. The list rises only where no gap is 0.
abbrev pub Gaps : List ℕ → List ℕ → Type 0
Gaps = GapsAfter 0

-- The bytes of a rising list whose numbers are above this one.
unfoldable pub gap_bytes_after : ℕ → List ℕ → List ℕ
gap_bytes_after before [] = []
gap_bytes_after before (number ∷ rest) = varint_bytes (number - before) ++ gap_bytes_after number rest

-- The bytes of a rising list.
abbrev pub gap_bytes : List ℕ → List ℕ
gap_bytes list = gap_bytes_after 0 list

-- VInts stand up to this place, and none stands there.
pub record IsGapFault (bytes : List ℕ) (place : ℕ) : Type 0 where
  pub list : List ℕ
  pub whole : Gaps (take place bytes) list
  pub inside : place < length bytes
  pub none : (gap next : ℕ) → VintStandsAt bytes place gap next → ⊥

-- Want of memory may come in place of any answer.
abbrev pub IsFreeGaps : GapFault → Type 0
IsFreeGaps (Bad place) = ⊥
IsFreeGaps Memory = Unit {0}

-- What each answer of the reader of a run tells.
abbrev pub TellsGaps : List ℕ → Result (List ℕ) GapFault → Type 0
TellsGaps bytes (Ok list) = Gaps bytes list
TellsGaps bytes (Err (Bad place)) = IsGapFault bytes place
TellsGaps bytes (Err Memory) = Unit {0}
