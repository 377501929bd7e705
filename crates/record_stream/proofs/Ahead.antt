-- Records that are ahead are passed over, one after another.
use Rattle.std.proofs.Common.{◌≡◌, ℕ, zero, suc, ◌+◌, ◌<◌, ◌≤◌, List, [], ◌∷◌, length, drop, Option, Some, None, refl, sym, ap, subst, arith, add-one}
use Rattle.std.specs.Prelude.{slice_get}
use Rattle.json.specs.Token.{Token}
use Rattle.json.specs.Json.{Json, after_end_array, skip_value, value}
use Rattle.serde_json.specs.Data.{Data}
use Rattle.serde_json.specs.Read.{converted, of_json}
use Rattle.record_stream.specs.Records.{AreAhead, record_depth}
use Rattle.record_stream.proofs.Opened.{known, known_passed}
use Rattle.record_stream.proofs.Records.{ended, stepped, unread}

-- ---- the items from a place on

pub at_front : {A : Type 0} (xs ys : List A) (i : ℕ) (x : A) → drop i xs ≡ x ∷ ys → (slice_get xs i ≡ Some x) × (drop (i + 1) xs ≡ ys)
at_front xs ys zero x e = (ap (λ l. slice_get l 0) e, ap (drop 1) e)
at_front [] ys (suc i) x e = absurd cc
at_front (z ∷ zs) ys (suc i) x e = let more = at_front zs ys i x e in (more.0, rw add-one (rw add-one at more.1))

pub past_end : {A : Type 0} (xs : List A) (i : ℕ) → drop i xs ≡ [] → length xs ≤ i
past_end xs zero e = let none = ap length e in omega arith
past_end [] (suc i) e = omega arith
past_end (x ∷ xs) (suc i) e = let more = past_end xs i e in omega arith

pub from_place : {A : Type 0} (xs : List A) (i : ℕ) → i < length xs → (x : A) × (drop i xs ≡ x ∷ drop (i + 1) xs)
from_place [] i within = absurd (omega arith)
from_place (x ∷ xs) zero within = (x, refl)
from_place (x ∷ xs) (suc i) within = let more = from_place xs i (omega arith) in (more.0, rw add-one (rw add-one at more.1))

-- ---- one record is passed

first_by : (now : List Token) (record_ahead : Data) (others : List Data) (rest : List Token) (over : Option (List Token)) (read : Option (Data × List Token)) → after_end_array now ≡ over
    → converted of_json (value record_depth now) ≡ read → AreAhead now (record_ahead ∷ others) rest
    → (first : Data) × (behind : List Token) × (converted of_json (value record_depth now) ≡ Some (first, behind)) × AreAhead behind others rest
first_by now record_ahead others rest (Some new) read over is ahead =
    let none = (ended now new (record_ahead ∷ others) rest over ahead).0 in
    absurd cc
first_by now record_ahead others rest None None going is ahead = absurd (unread now (record_ahead ∷ others) rest going is ahead)
first_by now record_ahead others rest None (Some (first, behind)) going is ahead =
    let step = stepped now behind first (record_ahead ∷ others) rest going is ahead in
    (first, behind, is, subst (λ (rs : List Data). AreAhead behind rs rest) (sym (ap (drop 1) step.1)) step.2)

-- the record at a place that is ahead can be read, and those behind it are ahead then
record_at : (now : List Token) (records : List Data) (rest : List Token) (i : ℕ) → i < length records → AreAhead now (drop i records) rest
    → (first : Data) × (behind : List Token) × (converted of_json (value record_depth now) ≡ Some (first, behind)) × AreAhead behind (drop (i + 1) records) rest
record_at now records rest i within ahead =
    let here = from_place records i within in
    first_by now here.0 (drop (i + 1) records) rest (after_end_array now) (converted of_json (value record_depth now)) refl refl (subst (λ (rs : List Data). AreAhead now rs rest) here.1 ahead)

-- So many records were passed of those that were ahead at the start, of which there are as many as are to be passed.
abbrev pub ArePassed : List Token → List Token → ℕ → ℕ → Type 0
ArePassed start now count i = (records : List Data) (rest : List Token) → AreAhead start records rest → count ≤ length records → AreAhead now (drop i records) rest

pub passed_known : (start now : List Token) (count i : ℕ) → ArePassed start now count i → i < count → (records : List Data) × (rest : List Token) × AreAhead start records rest × (count ≤ length records)
    → (json : Json) × (rest : List Token) × (value record_depth now ≡ Some (json, rest))
passed_known start now count i passed more (records, rest, ahead, enough) =
    let first = record_at now records rest i (omega arith) (passed records rest ahead enough) in
    let json = known record_depth now first.1 first.0 first.2 in
    (json.0, first.1, json.1)

pub passed_more : (start now new : List Token) (count i : ℕ) → ArePassed start now count i → i < count → skip_value record_depth now ≡ Some new → ArePassed start new count (i + 1)
passed_more start now new count i passed more skipped = λ records rest ahead enough.
    (let first = record_at now records rest i (omega arith) (passed records rest ahead enough) in
    let at = known_passed record_depth now new first.1 first.0 first.2 skipped in
    subst (λ (ts : List Token). AreAhead ts (drop (i + 1) records) rest) (sym at) first.3)

pub passed_all : (start now : List Token) (count i : ℕ) → i ≡ count → ArePassed start now count i → ArePassed start now count count
passed_all start now count i all passed = subst (λ (n : ℕ). ArePassed start now count n) all passed
