-- Reading from the bytes that stand ahead: a run of them, and a number of a fixed size.
use Rattle.std.proofs.Common.{◌≡◌, ◌≤◌, ◌+◌, ◌-◌, ℕ, ◌<◌, List, [], ◌∷◌, ◌++◌, get_or, take, drop, length, Option, Some, None, Result, Ok, Err, refl, ◌∙◌, subst, sym, ap, arith}
use Rattle.std.specs.Int.{Width, w8, w64, byte_len, from_be_bytes}
use Rattle.std.proofs.lemmas.List.{drop-take, drop-drop, take-take, length-drop, take_more}
use Rattle.hol_io.specs.Store.{told}
use Rattle.blob_frame.specs.declared.fault.BlobFault.{BlobFault}
use Rattle.blob_frame.specs.declared.fault.BlobFault.TheVariants as fault
use Rattle.blob_frame.specs.Item.{fixed, run}
use Rattle.blob_cursor.specs.Scene.{Place, Scene, at_place, moved, Stays, IsOver, IsPlaceIn, IsItemFault, IsReadFault, Tells, Reads}
use Rattle.blob_cursor.specs.Filling.{Needs, TellsNeed}
use Rattle.blob_cursor.proofs.Chain.{Holds, told_stays, reads_found, reads_ok, reads_err}

-- a fault of a reader that takes no memory is one of a reader of items
item_fault : (e : BlobFault) → IsReadFault e → IsItemFault e
item_fault (fault.Bad place why) k = tt
item_fault fault.Memory k = absurd k
item_fault _ k = k

drop_told : (blob ahead : List ℕ) (at count : ℕ) → ahead ≡ take (length ahead) (drop at blob) → count ≤ length ahead →
    drop count ahead ≡ take (length (drop count ahead)) (drop (at + count) blob)
drop_told blob ahead at count is h =
    let whole : length ahead ≡ count + (length ahead - count) = omega arith in
    let left : length (drop count ahead) ≡ length ahead - count = omega (arith, length-drop count ahead) in
    let e : drop count ahead ≡ drop count (take (count + (length ahead - count)) (drop at blob)) =
    ap (λ (xs : List ℕ). drop count xs) (is ∙ ap (λ n. take n (drop at blob)) whole) in
    let f = drop-take count (length ahead - count) (drop at blob) in
    let d = ap (λ (xs : List ℕ). take (length ahead - count) xs) (drop-drop count at blob) in
    e ∙ (f ∙ (d ∙ ap (λ n. take n (drop (at + count) blob)) (sym left)))

-- a cursor that moves past bytes ahead of it stays in its blob
pub over_moved : (place : Place) (content : Option (List ℕ)) (count : ℕ) → count ≤ length place.ahead → IsPlaceIn place content → IsPlaceIn (moved place count) content
over_moved place None count h over = tt
over_moved place (Some blob) count h over =
    (over.0, omega (arith, over.1, length-drop count place.ahead), drop_told blob place.ahead place.at count over.2 h)

-- the scene behind so many bytes ahead
abbrev pub passed : Scene → ℕ → Scene
passed now count = at_place now (moved now.place count)

pub stays_passed : {before mid : Scene} (count : ℕ) → Stays before mid → Stays before (passed mid count)
stays_passed count p = record { store = p.store; puts = p.puts; later = p.later; name = p.name; size = p.size }

-- the place of a cursor whose blob is told
pub place_in : {before mid : Scene} → Stays before mid → IsOver mid → (blob : List ℕ) → Holds before blob → IsPlaceIn mid.place (Some blob)
place_in {mid = mid} stays over blob holds = subst (λ content. IsPlaceIn mid.place content) (told_stays stays ∙ holds) over

-- bytes ahead of the cursor are read
pub reads_ahead : {before mid : Scene} {place : Place} (count : ℕ) → Stays before mid → IsOver mid → mid.place.at ≡ before.place.at → count ≤ length mid.place.ahead →
    place ≡ moved mid.place count → Reads (run count) before (at_place mid place) (Ok (take count mid.place.ahead))
unfolding run
reads_ahead {before} {mid} count stays over here enough is =
    subst (λ place. Reads (run count) before (at_place mid place) (Ok (take count mid.place.ahead))) (sym is)
    (reads_found (stays_passed count stays) (over_moved mid.place (told mid.held mid.place.name) count enough over)
    (λ blob holds. let place = place_in stays over blob holds in (
      ap (λ n. n + count) here,
      omega (arith, place.1, enough),
      ap (λ (xs : List ℕ). take count xs) place.2
          ∙ (take-take count (length mid.place.ahead) (drop mid.place.at blob) enough ∙ ap (λ n. take count (drop n blob)) here),
    )) refl)

tells_short : (count : ℕ) (content : Option (List ℕ)) (at next : ℕ) (e : BlobFault) → IsReadFault e → TellsNeed {T = Unit {0}} count content at (Err e) → Tells (run count) content at (Err e) next
unfolding run
tells_short count None at next e k p = tt
tells_short count (Some blob) at next (fault.Bad place why) k p = p
tells_short count (Some blob) at next fault.Store k p = tt
tells_short count (Some blob) at next fault.Memory k p = absurd k
tells_short count (Some blob) at next _ k p = k

-- the blob ends before so many bytes, or the store failed
pub reads_short : (count : ℕ) {before after : Scene} {e : BlobFault} → Needs {T = Unit {0}} count before after (Err e) → Reads (run count) before after (Err e)
reads_short count {before} {after} {e} p = record {
  stays = p.stays;
  over = p.over;
  cause = λ k. p.cause (ap Err (cc));
  kind = item_fault e p.kind;
  tells = tells_short count (told before.held before.place.name) before.place.at after.place.at e p.kind p.tells;
}

-- a number of a fixed size is read from the bytes ahead
pub reads_fixed : (w : Width) {before mid : Scene} {place : Place} {v : ℕ} → Needs {T = Unit {0}} (byte_len w) before mid (Ok tt) → place ≡ moved mid.place (byte_len w) →
    v ≡ from_be_bytes w (take (byte_len w) mid.place.ahead) → Reads (fixed w) before (at_place mid place) (Ok v)
unfolding fixed run
reads_fixed w p behind is =
    reads_ok (reads_ahead (byte_len w) p.stays p.over p.place p.enough behind) (λ blob holds q. (q.0, q.1, is ∙ ap (from_be_bytes w) q.2)) refl

pub reads_no_fixed : (w : Width) {before after : Scene} {e : BlobFault} {r : Result ℕ BlobFault} → Needs {T = Unit {0}} (byte_len w) before after (Err e) → r ≡ Err e →
    Reads (fixed w) before after r
unfolding fixed run
reads_no_fixed w p is = reads_err (reads_short (byte_len w) p) (λ blob place why holds stuck. stuck) is

-- a list that is long enough begins with its first items
first_more : (n : ℕ) (xs : List ℕ) {front all : List ℕ} → n < length xs → take n xs ≡ front → all ≡ front ++ get_or xs n 0 ∷ [] → take (n + 1) xs ≡ all
first_more n xs h is all = take_more xs n 0 h ∙ (ap (λ (ys : List ℕ). ys ++ get_or xs n 0 ∷ []) is ∙ sym all)

pub first_one : (xs : List ℕ) → 1 ≤ length xs → take 1 xs ≡ get_or xs 0 0 ∷ []
first_one xs h = first_more 0 xs (omega arith) refl refl

-- the number that one byte spells
pub value_one : (xs ys : List ℕ) → 1 ≤ length ys → xs ≡ ys → get_or xs 0 0 ≡ from_be_bytes w8 (take 1 ys)
value_one xs ys h is = rw (is, first_one ys h) (omega arith)

pub first_two : (xs : List ℕ) → 2 ≤ length xs → take 2 xs ≡ get_or xs 0 0 ∷ get_or xs 1 0 ∷ []
first_two xs h = first_more 1 xs (omega arith) (first_one xs (omega arith)) refl

pub first_four : (xs : List ℕ) → 4 ≤ length xs → take 4 xs ≡ get_or xs 0 0 ∷ get_or xs 1 0 ∷ get_or xs 2 0 ∷ get_or xs 3 0 ∷ []
first_four xs h = first_more 3 xs (omega arith) (first_more 2 xs (omega arith) (first_two xs (omega arith)) refl) refl

pub first_eight : (xs : List ℕ) → 8 ≤ length xs → take 8 xs ≡ get_or xs 0 0 ∷ get_or xs 1 0 ∷ get_or xs 2 0 ∷ get_or xs 3 0 ∷ get_or xs 4 0 ∷ get_or xs 5 0 ∷ get_or xs 6 0 ∷ get_or xs 7 0 ∷ []
first_eight xs h = first_more 7 xs (omega arith)
    (first_more 6 xs (omega arith) (first_more 5 xs (omega arith) (first_more 4 xs (omega arith) (first_four xs (omega arith)) refl) refl) refl) refl

-- the number that eight bytes spell
pub value_eight : (xs : List ℕ) (v : ℕ) → 8 ≤ length xs → v ≡ from_be_bytes w64 (get_or xs 0 0 ∷ get_or xs 1 0 ∷ get_or xs 2 0 ∷ get_or xs 3 0 ∷ get_or xs 4 0 ∷ get_or xs 5 0 ∷ get_or xs 6 0 ∷ get_or xs 7 0 ∷ [])
    → v ≡ from_be_bytes w64 (take 8 xs)
value_eight xs v h is = is ∙ ap (from_be_bytes w64) (sym (first_eight xs h))
