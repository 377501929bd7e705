-- A header, the types behind it, and the end of the blob: what is written of them is read so.
use Rattle.std.proofs.Common.{◌≤◌, ◌+◌, ◌^◌, ℕ, ℤ, List, [], ◌++◌, length, refl, subst, sym, arith, length-append, append-nil, zero-add}
use Rattle.std.specs.List.{flat_map, All}
use Rattle.std.specs.Int.{w64}
use Rattle.std.specs.Prelude.{FitsSigned}
use Rattle.hol_varint.specs.Varint.{varint_bytes}
use Rattle.schema_model.specs.declared.schema.Schema.{Schema}
use Rattle.blob_grammar.specs.Form.{Form, ◌>>=◌, nothing, at_most, counted, both}
use Rattle.blob_frame.specs.declared.header.Header.{Header}
use Rattle.blob_frame.specs.Item.{vint, end}
use Rattle.blob_frame.specs.Header.{header}
use Rattle.blob_frame.specs.Written.{schema_list_bytes, header_bytes}
use Rattle.blob_frame.proofs.Spelling.{spells_judged, spells_varint}
use Rattle.blob_frame.proofs.SpelledSchemas.{IsWritten, spells_header}
use Rattle.blob_writing.specs.Placed.{placed}
use Rattle.blob_writing.proofs.Placing.{SpellsAt, at_counted}

-- the types behind bytes, 512 at most, and the end of the blob
pub types_stand : {A V : Type 0} {part : Form V} (P : A → Type 0) (spelled : A → List ℕ) (made : A → ℕ → V) → ((x : A) → P x → SpellsAt part (made x) (spelled x)) →
    (before : List ℕ) (xs : List A) → length xs ≤ 512 → All P xs →
    (counted (at_most vint 512) part >>= (λ parts. end >>= (λ u. nothing parts))).Stands (before ++ (varint_bytes (length xs) ++ flat_map spelled xs)) (length before)
    (placed spelled made xs (length before + length (varint_bytes (length xs)))) (length (before ++ (varint_bytes (length xs) ++ flat_map spelled xs)))
unfolding ◌>>=◌ nothing end at_most
types_stand {part = part} P spelled made each before xs few all =
    let number = spells_judged _ _ _ (spells_varint (2 ^ 32) (length xs) (omega (arith, few))) (refl, few) in
    let bytes = varint_bytes (length xs) ++ flat_map spelled xs in
    let types = counted (at_most vint 512) part in
    let parts = placed spelled made xs (length before + length (varint_bytes (length xs))) in
    let blob = before ++ bytes in
    let stands : types.Stands (blob ++ []) (length before) parts (length before + length bytes) = (at_counted P spelled made each xs all number).stands before [] in
    let there : types.Stands blob (length before) parts (length blob) =
    subst (λ next. types.Stands blob (length before) parts next) (sym (length-append before bytes))
    (subst (λ (all : List ℕ). types.Stands all (length before) parts (length before + length bytes)) (append-nil blob) stands) in
    (parts, length blob, there, (tt, length blob, (refl, refl), (refl, refl)))

-- a header in front of them
pub header_stands : {V : Type 0} (body : Form V) (origin destination : ℤ) (listed : List Schema) (rest : List ℕ) (v : V) → FitsSigned w64 origin → FitsSigned w64 destination → length listed ≤ 512 →
    All IsWritten listed → length (schema_list_bytes listed) ≤ 2 ^ 28 →
    body.Stands (header_bytes origin destination listed ++ rest) (length (header_bytes origin destination listed)) v (length (header_bytes origin destination listed ++ rest)) →
    (both header body).Stands (header_bytes origin destination listed ++ rest) 0 (record { origin = origin; destination = destination; schemas = listed; tags = [] }, v)
    (length (header_bytes origin destination listed ++ rest))
unfolding both ◌>>=◌ nothing
header_stands body origin destination listed rest v from to few all short behind =
    let front = header_bytes origin destination listed in
    let blob = front ++ rest in
    let found : Header = record { origin = origin; destination = destination; schemas = listed; tags = [] } in
    let head = (spells_header origin destination listed from to few all short).stands [] rest in
    let first : header.Stands blob 0 found (length front) = subst (λ next. header.Stands blob 0 found next) (zero-add (length front)) head in
    (found, length front, first, (v, length blob, behind, (refl, refl)))
