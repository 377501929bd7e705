-- Reading a run of bytes piece by piece, moving past one, and the end of a blob.
use Rattle.std.proofs.Common.{◌≡◌, ◌≤◌, ◌<◌, ◌+◌, ◌-◌, ℕ, List, [], ◌∷◌, ◌++◌, take, drop, length, min, Result, Ok, Err, refl, ◌∙◌, subst, sym, ap, arith, length-append}
use Rattle.std.specs.Option.{IfSome}
use Rattle.std.proofs.Math.Seq.{take-add}
use Rattle.std.proofs.lemmas.List.{drop-drop, length-take-le}
use Rattle.hol_io.specs.Store.{Seen, told}
use Rattle.schema_model.specs.declared.reason.Reason.TheVariants.{Truncated, TrailingBytes}
use Rattle.blob_frame.specs.declared.fault.BlobFault.{BlobFault}
use Rattle.blob_frame.specs.declared.fault.BlobFault.TheVariants as fault
use Rattle.blob_grammar.specs.Form.{judged}
use Rattle.blob_frame.specs.Item.{run, skipped, end}
use Rattle.blob_cursor.specs.Scene.{Place, Scene, scene, at_place, moved, IsOver, IsPlaceIn, Reads}
use Rattle.blob_cursor.specs.Filling.{Fills}
use Rattle.blob_cursor.proofs.Chain.{told_stays, stays_here, stays_then, found_in, reads_found, reads_missed}
use Rattle.blob_cursor.proofs.Fixed.{place_in, reads_ahead}

-- two runs, one behind the other
reads_joined : (m n : ℕ) {before mid after : Scene} {xs ys : List ℕ} → Reads (run m) before mid (Ok xs) → Reads (run n) mid after (Ok ys) →
    Reads (run (m + n)) before after (Ok (xs ++ ys))
unfolding run
reads_joined m n {before} {mid} {after} {xs} {ys} p q = reads_found (stays_then p.stays q.stays) q.over (λ blob holds.
    let a = found_in (run m) p blob holds in
    let b = found_in (run n) q blob (told_stays p.stays ∙ holds) in (
      omega (arith, a.0, b.0),
      b.1,
      ap (λ (zs : List ℕ). zs ++ ys) a.2 ∙ (ap (λ (zs : List ℕ). take m (drop before.place.at blob) ++ zs)
          (b.2 ∙ (ap (λ k. take n (drop k blob)) a.0 ∙ ap (λ (zs : List ℕ). take n zs) (sym (drop-drop m before.place.at blob))))
          ∙ sym (take-add m n (drop before.place.at blob))),
    )) refl

-- the bytes so far are read
pub record Gathers (count : ℕ) (before now : Scene) (bytes : List ℕ) : Type 0 where
  pub reads : Reads (run (length bytes)) before now (Ok bytes)
  pub within : length bytes ≤ count

pub gathers_start : (count : ℕ) (now : Scene) {bytes : List ℕ} → IsOver now → bytes ≡ [] → Gathers count now now bytes
unfolding run
gathers_start count now over is = subst (λ (bytes : List ℕ). Gathers count now now bytes) (sym is) (record {
  reads = reads_found (stays_here now) over (λ blob holds. let place = place_in (stays_here now) over blob holds in (omega arith, omega (arith, place.1), refl)) refl;
  within = omega arith;
})

-- a piece more
pub gathers_more : {count : ℕ} {before now mid : Scene} {bytes all : List ℕ} (piece : ℕ) {place : Place} → Gathers count before now bytes → Fills {T = Unit {0}} 1 now mid (Ok tt) →
    piece ≤ length mid.place.ahead → length bytes + piece ≤ count → place ≡ moved mid.place piece → all ≡ bytes ++ take piece mid.place.ahead →
    Gathers count before (at_place mid place) all
gathers_more {count} {before} {now} {mid} {bytes} {all} piece {place} p f h fits is longer =
    let long : length (bytes ++ take piece mid.place.ahead) ≡ length bytes + piece =
    length-append bytes (take piece mid.place.ahead) ∙ ap (λ n. length bytes + n) (length-take-le piece mid.place.ahead h) in
    subst (λ (all : List ℕ). Gathers count before (at_place mid place) all) (sym longer) (record {
      reads = subst (λ n. Reads (run n) before (at_place mid place) (Ok (bytes ++ take piece mid.place.ahead))) (sym long)
          (reads_joined (length bytes) piece p.reads (reads_ahead piece f.stays f.over f.place h is));
      within = omega (arith, long, fits);
    })

-- all of the bytes are there
pub gathers_done : {count : ℕ} {before now : Scene} {bytes all : List ℕ} → Gathers count before now bytes → count ≤ length bytes → all ≡ bytes → Reads (run count) before now (Ok all)
gathers_done {count} {before} {now} {bytes} {all} p enough is = subst (λ (all : List ℕ). Reads (run count) before now (Ok all)) (sym is)
    (subst (λ n. Reads (run n) before now (Ok bytes)) (omega (arith, p.within, enough)) p.reads)

-- a store that tells its content gives all of the bytes that are there
pub gathers_gone : {count : ℕ} {before now mid : Scene} {bytes : List ℕ} {r : Result (List ℕ) BlobFault} → Gathers count before now bytes → Fills {T = Unit {0}} 1 now mid (Ok tt) →
    length mid.place.ahead ≡ 0 → length bytes < count → before.place.at + count ≤ before.place.size → IsOver before →
    r ≡ Err (fault.Bad before.place.at Truncated) → Reads (run count) before mid r
unfolding run
gathers_gone {before = before} {now} {mid} {bytes} p f none less fits over is = reads_missed (stays_then p.reads.stays f.stays) f.over (λ blob holds.
    let place = place_in (stays_here before) over blob holds in
    let here = found_in (run (length bytes)) p.reads blob holds in
    let enough = subst (λ content. IfSome content (λ blob. min 1 (length blob - now.place.at) ≤ length mid.place.ahead)) (told_stays p.reads.stays ∙ holds) f.enough in
    absurd (omega (arith, place.0, here.0, enough, none, less, fits))) is

-- the blob has fewer bytes
pub reads_cut : (count : ℕ) {now : Scene} {r : Result (List ℕ) BlobFault} → IsOver now → now.place.size < now.place.at + count →
    r ≡ Err (fault.Bad now.place.at Truncated) → Reads (run count) now now r
unfolding run
reads_cut count {now} over less is = reads_missed (stays_here now) over (λ blob holds. let place = place_in (stays_here now) over blob holds in (omega (arith, place.0, less), refl, refl)) is

-- moving past bytes that are there
pub reads_skipped : (count : ℕ) (seen : Seen) (place after : Place) → IsPlaceIn place (told seen.held place.name) → place.at + count ≤ place.size →
    after.name ≡ place.name → after.size ≡ place.size → after.at ≡ place.at + count → IsPlaceIn after (told seen.held place.name) →
    Reads (skipped count) (scene seen place) (scene seen after) (Ok tt)
unfolding skipped run judged
reads_skipped count seen place after over fits name size at here = reads_found
    (record { store = refl; puts = refl; later = omega arith; name = name; size = size }) (subst (λ n. IsPlaceIn after (told seen.held n)) (sym name) here)
    (λ blob holds. let in_blob = place_in (stays_here (scene seen place)) over blob holds in (take count (drop place.at blob), (at, omega (arith, in_blob.0, at, fits), refl), tt)) refl

-- nothing is left
pub reads_end : {now : Scene} → IsOver now → now.place.at ≡ now.place.size → Reads end now now (Ok tt)
unfolding end
reads_end {now} over is = reads_found (stays_here now) over (λ blob holds. (is ∙ (place_in (stays_here now) over blob holds).0, refl)) refl

-- a byte is left
pub reads_trailing : {now : Scene} {r : Result Unit BlobFault} → IsOver now → now.place.at < now.place.size → r ≡ Err (fault.Bad now.place.at TrailingBytes) → Reads end now now r
unfolding end
reads_trailing {now} over less is = reads_missed (stays_here now) over (λ blob holds. (omega (arith, less, (place_in (stays_here now) over blob holds).0), refl, refl)) is

-- a list with one more is one longer
pub one_longer : {X : Type 0} (list all : List X) (x : X) {done : ℕ} → length list ≡ done → all ≡ list ++ x ∷ [] → length all ≡ done + 1
one_longer {X} list all x long is = omega (arith, ap (λ (xs : List X). length xs) is ∙ length-append list (x ∷ []))
