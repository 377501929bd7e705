-- What content is no version: one that is too long, and one that is no text.
use Rattle.std.proofs.Common.{◌≡◌, ℕ, ◌<◌, ◌^◌, List, length, Option, None, Some, IfSome, OnSome, option_map, ap, subst, arith}
use Rattle.std.specs.Fmt.{decimal}
use Rattle.std.specs.Str.{IsUtf8}
use Rattle.std.proofs.lemmas.Fmt.{length-decimal-le, IsAscii-decimal}
use Rattle.std.proofs.lemmas.Str.{IsUtf8-from_ascii}
use Rattle.hol_io.specs.Store.{Store}
use Rattle.chain_store.specs.Announced.{IsNoVersion}

too_long : (content : Option (List ℕ)) (found : Option ℕ) (size : ℕ) → found ≡ option_map length content → found ≡ Some size → 19 < size → IsNoVersion content
too_long None found size told is long = absurd cc
too_long (Some bytes) found size told is long = λ version of_version same.
    let sized : size ≡ length bytes = cc in
    omega (arith, sized, ap length same, length-decimal-le 19 version (omega arith) (omega (arith, of_version)) (omega (arith, of_version)), long)

pub long_is_bad : (held : Option Store) (content : Option (List ℕ)) (found : Option ℕ) (size : ℕ) → OnSome held (found ≡ option_map length content) → found ≡ Some size → 19 < size
    → IfSome held (λ store. IsNoVersion content)
long_is_bad None content found size told is long = tt
long_is_bad (Some store) content found size told is long = too_long content found size told is long

decimal_is_text : (version : ℕ) → version < 2 ^ 64 → IsUtf8 (decimal version)
decimal_is_text version small = IsUtf8-from_ascii (decimal version) (IsAscii-decimal version small)

pub no_text : (bytes : List ℕ) → ¬ IsUtf8 bytes → IsNoVersion (Some bytes)
no_text bytes none version of_version same = none (subst IsUtf8 same (decimal_is_text version (omega (arith, of_version))))
