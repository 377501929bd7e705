-- Seeking the end of a number that goes on.
use Rattle.std.proofs.Common.{◌≡◌, ◌≢◌, ◌≤◌, ◌<◌, ◌+◌, ◌-◌, ◌*◌, ◌^◌, ℕ, suc, List, [], ◌∷◌, ◌++◌, get_or, take, drop, length, min, true, Option, Some, None, Ok, ◌∙◌, subst, sym, ap, arith, length-drop, drop-cons}
use Rattle.std.specs.Option.{IfSome}
use Rattle.std.proofs.Math.Seq.{take-add}
use Rattle.std.proofs.lemmas.List.{drop-drop, take-take, take-append-drop, take_more, get_or-take, get_or-drop}
use Rattle.hol_io.specs.Store.{told}
use Rattle.hol_varint.specs.Varint.{GoOn, IsVarint}
use Rattle.blob_cursor.specs.Scene.{Place, Scene, at_place, moved, Stays, IsOver, IsPlaceIn}
use Rattle.blob_grammar.specs.Words.{StopsLater}
use Rattle.blob_grammar.proofs.SomeNumbers.{grouped, spells-push}
use Rattle.blob_cursor.specs.Filling.{Fills, Seeks, HasAhead}
use Rattle.blob_cursor.proofs.Chain.{told_stays, stays_then}
use Rattle.blob_cursor.proofs.Fixed.{stays_passed}

pub GoOn-append : (xs ys : List ℕ) → GoOn xs → GoOn ys → GoOn (xs ++ ys)
GoOn-append [] ys p q = q
GoOn-append (x ∷ xs) ys p q = (p.0, p.1, GoOn-append xs ys p.2 q)

grouped_above : (high : ℕ) (bs : List ℕ) → high ≤ grouped high bs
grouped_above high [] = omega arith
grouped_above high (b ∷ bs) = omega (arith, grouped_above (high * 128 + (b - 128)) bs)

ten_groups : (a b c d e f g h i j : ℕ) (rest : List ℕ) (stop : ℕ) → 128 ≤ a → a ≢ 128 →
    2 ^ 64 ≤ grouped 0 (a ∷ b ∷ c ∷ d ∷ e ∷ f ∷ g ∷ h ∷ i ∷ j ∷ rest) * 128 + stop
ten_groups a b c d e f g h i j rest stop low first =
    let least : 2 ^ 63 ≤ ((((((((((0 + (a - 128)) * 128 + (b - 128)) * 128 + (c - 128)) * 128 + (d - 128)) * 128 + (e - 128)) * 128 + (f - 128)) * 128 + (g - 128)) * 128 + (h - 128)) * 128 + (i - 128)) * 128 + (j - 128)) = omega arith in
    let above : ((((((((((0 + (a - 128)) * 128 + (b - 128)) * 128 + (c - 128)) * 128 + (d - 128)) * 128 + (e - 128)) * 128 + (f - 128)) * 128 + (g - 128)) * 128 + (h - 128)) * 128 + (i - 128)) * 128 + (j - 128)) ≤ grouped 0 (a ∷ b ∷ c ∷ d ∷ e ∷ f ∷ g ∷ h ∷ i ∷ j ∷ rest) = grouped_above ((((((((((0 + (a - 128)) * 128 + (b - 128)) * 128 + (c - 128)) * 128 + (d - 128)) * 128 + (e - 128)) * 128 + (f - 128)) * 128 + (g - 128)) * 128 + (h - 128)) * 128 + (i - 128)) * 128 + (j - 128)) rest in
    omega (arith, least, above)

-- a number of ten groups or more that go on, and one that ends it, is too large
pub long_run : (front : List ℕ) (stop : ℕ) → GoOn front → stop < 128 → get_or front 0 0 ≢ 128 → 10 ≤ length front →
    (number : ℕ) × IsVarint (front ++ stop ∷ []) number × (2 ^ 64 ≤ number)
long_run [] stop on ends first long = absurd (omega arith)
long_run (a ∷ []) stop on ends first long = absurd (omega arith)
long_run (a ∷ b ∷ []) stop on ends first long = absurd (omega arith)
long_run (a ∷ b ∷ c ∷ []) stop on ends first long = absurd (omega arith)
long_run (a ∷ b ∷ c ∷ d ∷ []) stop on ends first long = absurd (omega arith)
long_run (a ∷ b ∷ c ∷ d ∷ e ∷ []) stop on ends first long = absurd (omega arith)
long_run (a ∷ b ∷ c ∷ d ∷ e ∷ f ∷ []) stop on ends first long = absurd (omega arith)
long_run (a ∷ b ∷ c ∷ d ∷ e ∷ f ∷ g ∷ []) stop on ends first long = absurd (omega arith)
long_run (a ∷ b ∷ c ∷ d ∷ e ∷ f ∷ g ∷ h ∷ []) stop on ends first long = absurd (omega arith)
long_run (a ∷ b ∷ c ∷ d ∷ e ∷ f ∷ g ∷ h ∷ i ∷ []) stop on ends first long = absurd (omega arith)
long_run (a ∷ b ∷ c ∷ d ∷ e ∷ f ∷ g ∷ h ∷ i ∷ j ∷ rest) stop on ends first long = (
  grouped 0 (a ∷ b ∷ c ∷ d ∷ e ∷ f ∷ g ∷ h ∷ i ∷ j ∷ rest) * 128 + stop,
  record { groups = spells-push 0 (a ∷ b ∷ c ∷ d ∷ e ∷ f ∷ g ∷ h ∷ i ∷ j ∷ rest) stop on ends; first = first },
  ten_groups a b c d e f g h i j rest stop on.0 first,
)

-- one byte more that goes on
pub go_on_more : (bytes : List ℕ) (place : ℕ) → GoOn (take place bytes) → place < length bytes → 128 ≤ get_or bytes place 0 → get_or bytes place 0 < 256 →
    GoOn (take (place + 1) bytes)
go_on_more bytes place on h low small = rw (take_more bytes place 0 h) (GoOn-append (take place bytes) (get_or bytes place 0 ∷ []) on (low, small, tt))

-- so far each byte goes on
pub record Seeking (before now : Scene) : Type 0 where
  pub stays : Stays before now
  pub over : IsOver now
  pub place : before.place.at ≤ now.place.at
  pub on : IfSome (told before.held before.place.name) (λ blob. GoOn (take (now.place.at - before.place.at) (drop before.place.at blob)))
  pub ahead : HasAhead 1 now

-- what stands behind the bytes so far
rest_told : (blob : List ℕ) (from : ℕ) (place : Place) → from ≤ place.at → IsPlaceIn place (Some blob) →
    place.ahead ≡ take (length place.ahead) (drop (place.at - from) (drop from blob))
rest_told blob from place h over =
    let e : from + (place.at - from) ≡ place.at = omega arith in
    over.2 ∙ ap (λ (xs : List ℕ). take (length place.ahead) xs) (sym (drop-drop (place.at - from) from blob ∙ ap (λ n. drop n blob) e))

more_on : (content : Option (List ℕ)) (from : ℕ) (place : Place) → from ≤ place.at → IsPlaceIn place content → GoOn place.ahead →
    IfSome content (λ blob. GoOn (take (place.at - from) (drop from blob))) →
    IfSome content (λ blob. GoOn (take (place.at + length place.ahead - from) (drop from blob)))
more_on None from place h over on so_far = tt
more_on (Some blob) from place h over on so_far =
    let e : place.at + length place.ahead - from ≡ (place.at - from) + length place.ahead = omega arith in
    rw (e, take-add (place.at - from) (length place.ahead) (drop from blob), ← (rest_told blob from place h over))
    (GoOn-append (take (place.at - from) (drop from blob)) place.ahead so_far on)

-- all of the bytes ahead go on, and more are read ahead
pub seeking_more : {before now mid : Scene} {place : Place} (count : ℕ) → Seeking before now → GoOn now.place.ahead → count ≡ length now.place.ahead →
    place ≡ moved now.place count → Fills {T = Unit {0}} 1 (at_place now place) mid (Ok tt) → Seeking before mid
seeking_more {before} {now} {mid} {place} count p on all is f =
    let at : place.at ≡ now.place.at + length now.place.ahead = ap (λ (p : Place). p.at) is ∙ ap (λ n. now.place.at + n) all in
    let stays : Stays before (at_place now place) = subst (λ (place : Place). Stays before (at_place now place)) (sym is) (stays_passed count p.stays) in
    record {
      stays = stays_then stays f.stays;
      over = f.over;
      place = omega (arith, p.place, f.place, at);
      on = subst (λ n. IfSome (told before.held before.place.name) (λ blob. GoOn (take (n - before.place.at) (drop before.place.at blob)))) (sym (f.place ∙ at))
          (more_on (told before.held before.place.name) before.place.at now.place p.place
          (subst (λ content. IsPlaceIn now.place content) (told_stays p.stays) p.over) on p.on);
      ahead = subst (λ content. IfSome content (λ blob. min 1 (length blob - mid.place.at) ≤ length mid.place.ahead)) (sym (told_stays f.stays))
          (subst (λ n. IfSome (told now.held place.name) (λ blob. min 1 (length blob - n) ≤ length mid.place.ahead)) (sym f.place) f.enough);
    }

stop_told : (content : Option (List ℕ)) (from : ℕ) (place : Place) (k : ℕ) → from ≤ place.at → IsPlaceIn place content → k < length place.ahead → GoOn (take k place.ahead) →
    get_or place.ahead k 0 < 128 → IfSome content (λ blob. GoOn (take (place.at - from) (drop from blob))) →
    IfSome content (λ blob. StopsLater (drop from blob))
stop_told None from place k h over inside on ends so_far = tt
stop_told (Some blob) from place k h over inside on ends so_far =
    let rest = drop from blob in
    let n = place.at - from in
    let is = rest_told blob from place h over in
    let here : take k place.ahead ≡ take k (drop n rest) =
    ap (λ (xs : List ℕ). take k xs) is ∙ take-take k (length place.ahead) (drop n rest) (omega arith) in
    let there : get_or place.ahead k 0 ≡ get_or rest (n + k) 0 =
    ap (λ (xs : List ℕ). get_or xs k 0) is ∙ (get_or-take (length place.ahead) (drop n rest) k 0 inside ∙ get_or-drop n rest k 0) in
    let long : n + k < length rest = omega (arith, over.1, length-drop from blob) in
    record {
      front = take (n + k) rest;
      stop = get_or place.ahead k 0;
      behind = drop (suc (n + k)) rest;
      is = sym (take-append-drop (n + k) rest) ∙ ap (λ (xs : List ℕ). take (n + k) rest ++ xs) (drop-cons rest (n + k) 0 long ∙ ap (λ b. b ∷ drop (suc (n + k)) rest) (sym there));
      on = rw (take-add n k rest, ← here) (GoOn-append (take n rest) (take k place.ahead) so_far on);
      ends = ends;
    }

-- one of the bytes ahead ends the number
pub seeking_found : {before now : Scene} (k : ℕ) → Seeking before now → (k < length now.place.ahead) × GoOn (take k now.place.ahead) × (get_or now.place.ahead k 0 < 128) →
    Seeks before now (Ok true)
seeking_found {before} {now} k p stop = record {
  stays = p.stays;
  over = p.over;
  cause = λ e. absurd (cc);
  kind = tt;
  tells = stop_told (told before.held before.place.name) before.place.at now.place k p.place
      (subst (λ content. IsPlaceIn now.place content) (told_stays p.stays) p.over) stop.0 stop.1 stop.2 p.on;
}
