-- The numbers of the reasons for which a blob or a record is refused.
use Rattle.std.specs.Prelude.{ℕ}
use Rattle.schema_model.specs.declared.reason.Reason.{Reason}
use Rattle.schema_model.specs.declared.reason.Reason.TheVariants.{Truncated, OtherFormat, BadVarint, BadName, BadSchema, FloatField, KeyedHash, Sharded, BadWidth, BadLength, TrailingBytes, BadOrdinals, BadValue, BadText, BadPointers, BadBuckets, Dangling, BadAnnounced, OtherKind, UnknownField, NumberOutOfRange, NotHexadecimal, NullRecord, SameKeys, UnitOutOfRange}

abbrev pub number_of_reason : Reason → ℕ
number_of_reason Truncated = 40
number_of_reason OtherFormat = 41
number_of_reason BadVarint = 42
number_of_reason BadName = 43
number_of_reason BadSchema = 44
number_of_reason FloatField = 45
number_of_reason KeyedHash = 46
number_of_reason Sharded = 47
number_of_reason BadWidth = 48
number_of_reason BadLength = 49
number_of_reason TrailingBytes = 50
number_of_reason BadOrdinals = 51
number_of_reason BadValue = 52
number_of_reason BadText = 53
number_of_reason BadPointers = 54
number_of_reason BadBuckets = 55
number_of_reason Dangling = 56
number_of_reason BadAnnounced = 57
number_of_reason OtherKind = 60
number_of_reason UnknownField = 61
number_of_reason NumberOutOfRange = 62
number_of_reason NotHexadecimal = 63
number_of_reason NullRecord = 64
number_of_reason SameKeys = 65
number_of_reason UnitOutOfRange = 66
