-- Going along blobs one after the other, and what `goto` answers of it.
use Rattle.std.proofs.Common.{◌≡◌, ◌≢◌, ◌<◌, ◌≤◌, ◌+◌, ℕ, false, List, [], ◌∷◌, drop, get_or, length, Option, Some, None, Ok, IfSome, inl, inr, refl, sym, ap, ◌∙◌, subst, arith}
use Rattle.std.specs.Option.{option_map}
use Rattle.std.proofs.lemmas.List.{drop_all, drop_more}
use Rattle.hol_io.specs.declared.name.BlobName.{BlobName}
use Rattle.hol_io.specs.Store.{Store, names}
use Rattle.hol_history.specs.History.{PastSteps}
use Rattle.hol_plan.specs.Walk.{TellsPlan}
use Rattle.read_engine.specs.Position.{Position}
use Rattle.hol_answers.specs.declared.refusal.Refusal.{Refusal}
use Rattle.hol_answers.specs.declared.refusal.Refusal.TheVariants.{NoPlan}
use Rattle.hol_answers.specs.declared.reply.Progress.{Progress}
use Rattle.hol_answers.specs.declared.reply.Reply.{Reply}
use Rattle.hol_answers.specs.declared.reply.Reply.TheVariants.{Goto, Refused}
use Rattle.hol_answers.specs.Reply.{is_refusal}
use Rattle.hollow_machine.specs.Kept.{Kept, MovesReader, Reader, kept_with_reader, machine_of, reader_of}
use Rattle.hollow_machine.specs.PlanOrders.{Applies, Goes, GotoStep}
use Rattle.hollow_machine.specs.State.{Machine}
use Rattle.plan_orders.specs.Going.{GoesAlong}

-- Where a reader goes along the rest of the blobs, it goes from the first along all.
abbrev pub GoesOn : Option Store → Reader → Reader → List BlobName → ℕ → ℕ → Type 0
GoesOn held first now blobs applied index =
    IfSome held (λ store. (kept : Kept) (behind : ℕ) (refused : Option Refusal) (next : Machine) → Goes (machine_of store (kept_with_reader kept now)) (drop index blobs) behind refused next
    → Goes (machine_of store (kept_with_reader kept first)) blobs (applied + behind) refused next)

-- So many of the first blobs are applied, which is all of those before this index.
pub record HasGone (held : Option Store) (first now : Reader) (blobs : List BlobName) (applied index : ℕ) : Type 0 where
  pub count : applied ≡ index
  pub rest : GoesOn held first now blobs applied index

-- an answer that moves a reader over a store applies the blob
applies_over : (E : Type 0) (store : Store) (name : BlobName) (now after : Reader) (answer : Reply) (kept : Kept) →
    MovesReader {E = E} (λ machine reply next. Applies machine name reply next) (Some store) now after (Ok answer) →
    Applies (machine_of store (kept_with_reader kept now)) name answer (machine_of store (kept_with_reader kept after))
applies_over E store name now after answer kept moves =
    let (other, is, applies) = moves kept in
    let same : store ≡ other = cc in
    subst (λ (s : Store). Applies (machine_of store (kept_with_reader kept now)) name answer (machine_of s (kept_with_reader kept after))) (sym same) applies

one_more : (E : Type 0) (first now after : Reader) (blobs : List BlobName) (applied index : ℕ) (name : BlobName) (held : Option Store) (answer : Reply) → drop index blobs ≡ name ∷ drop (index + 1) blobs → is_refusal answer ≡ false →
    MovesReader {E = E} (λ machine reply next. Applies machine name reply next) held now after (Ok answer) → GoesOn held first now blobs applied index → GoesOn held first after blobs (applied + 1) (index + 1)
one_more E first now after blobs applied index name None answer front taken moves on = tt
one_more E first now after blobs applied index name (Some store) answer front taken moves on = λ kept behind refused next goes.
    let here = machine_of store (kept_with_reader kept now) in
    let there = machine_of store (kept_with_reader kept after) in
    let goes_here : Goes here (name ∷ drop (index + 1) blobs) (1 + behind) refused next =
    inr (answer, there, behind, applies_over E store name now after answer kept moves, taken, refl, goes) in
    let all = on kept (1 + behind) refused next (subst (λ (rest : List BlobName). Goes here rest (1 + behind) refused next) (sym front) goes_here) in
    let count : applied + (1 + behind) ≡ applied + 1 + behind = omega arith in
    subst (λ (n : ℕ). Goes (machine_of store (kept_with_reader kept first)) blobs n refused next) count all

one_refused : (E : Type 0) (first now after : Reader) (blobs : List BlobName) (applied index : ℕ) (name : BlobName) (held : Option Store) (answer : Reply) (refusal : Refusal) → drop index blobs ≡ name ∷ drop (index + 1) blobs →
    answer ≡ Refused refusal → MovesReader {E = E} (λ machine reply next. Applies machine name reply next) held now after (Ok answer) → GoesOn held first now blobs applied index →
    GoesAlong held first blobs applied (Some refusal) after
one_refused E first now after blobs applied index name None answer refusal front refuses moves on = tt
one_refused E first now after blobs applied index name (Some store) answer refusal front refuses moves on = λ kept.
    let here = machine_of store (kept_with_reader kept now) in
    let there = machine_of store (kept_with_reader kept after) in
    let applies = subst (λ (reply : Reply). Applies here name reply there) refuses (applies_over E store name now after answer kept moves) in
    let stops : Goes here (name ∷ drop (index + 1) blobs) 0 (Some refusal) there = inl (refusal, applies, refl, refl) in
    let all = on kept 0 (Some refusal) there (subst (λ (rest : List BlobName). Goes here rest 0 (Some refusal) there) (sym front) stops) in
    let count : applied + 0 ≡ applied = omega arith in
    subst (λ (n : ℕ). Goes (machine_of store (kept_with_reader kept first)) blobs n (Some refusal) there) count all

module _ (E : Type 0) (first now after : Reader) (blobs : List BlobName) (applied index : ℕ) (name : BlobName) (within : index < length blobs) (is : get_or blobs index name ≡ name) (held now_held : Option Store) (kept_held : now_held ≡ held) where
  at_front : drop index blobs ≡ name ∷ drop (index + 1) blobs
  at_front = drop_more blobs index name within ∙ ap (λ (n : BlobName). n ∷ drop (index + 1) blobs) is

  -- One more is applied.
  pub one_gone : (answer : Reply) → is_refusal answer ≡ false → MovesReader {E = E} (λ machine reply next. Applies machine name reply next) now_held now after (Ok answer) → HasGone held first now blobs applied index →
      HasGone held first after blobs (applied + 1) (index + 1)
  one_gone answer taken moves gone = record {
    count = ap (λ (n : ℕ). n + 1) gone.count;
    rest = one_more E first now after blobs applied index name held answer at_front taken (subst (λ (h : Option Store). MovesReader {E = E} (λ machine reply next. Applies machine name reply next) h now after (Ok answer)) kept_held moves) gone.rest;
  }

  -- The next one is refused.
  pub gone_to_refused : (answer : Reply) (refusal : Refusal) → answer ≡ Refused refusal → MovesReader {E = E} (λ machine reply next. Applies machine name reply next) now_held now after (Ok answer) →
      HasGone held first now blobs applied index → GoesAlong held first blobs applied (Some refusal) after
  gone_to_refused answer refusal refuses moves gone =
      one_refused E first now after blobs applied index name held answer refusal at_front refuses (subst (λ (h : Option Store). MovesReader {E = E} (λ machine reply next. Applies machine name reply next) h now after (Ok answer)) kept_held moves) gone.rest

-- All are applied.
pub all_gone : (held : Option Store) (first now : Reader) (blobs : List BlobName) (applied index : ℕ) → length blobs ≤ index → HasGone held first now blobs applied index →
    GoesAlong held first blobs applied None now
all_gone None first now blobs applied index over gone = tt
all_gone (Some store) first now blobs applied index over gone = λ kept.
    let here = machine_of store (kept_with_reader kept now) in
    let ends : Goes here [] 0 None here = (refl, refl, refl) in
    let all = gone.rest kept 0 None here (subst (λ (rest : List BlobName). Goes here rest 0 None here) (sym (drop_all index blobs over)) ends) in
    let count : applied + 0 ≡ applied = omega arith in
    subst (λ (n : ℕ). Goes (machine_of store (kept_with_reader kept first)) blobs n None here) count all

-- ---- the order `goto`

-- A reader that has gone along the plan moves the machine.
pub gone : (E : Type 0) (held held' : Option Store) (wanted : ℕ) (old new : Option Position) (version version' : Option ℕ) (history history' : PastSteps) (found : Option (List BlobName)) (blobs given : List BlobName)
    (progress : Progress) → held' ≡ held → found ≡ Some blobs → given ≡ blobs → IfSome held (λ store. TellsPlan (names store) version wanted found) →
    GoesAlong held' (reader_of old version history) given progress.applied progress.refused (reader_of new version' history') → progress.of ≡ length blobs → progress.tag ≡ option_map (λ now. now.tag) new →
    MovesReader {E = E} (λ machine reply next. GotoStep machine wanted reply next) held (reader_of old version history) (reader_of new version' history') (Ok (Goto progress))
gone E None held' wanted old new version version' history history' found blobs given progress kept_held is same tells goes of tag = λ kept. tt
gone E (Some store) held' wanted old new version version' history history' found blobs given progress kept_held is same tells goes of tag = λ kept.
    let plan = subst (TellsPlan (names store) version wanted) is tells in
    let along = subst (λ (h : Option Store). GoesAlong h (reader_of old version history) given progress.applied progress.refused (reader_of new version' history')) kept_held goes in
    let on = subst (λ (list : List BlobName). GoesAlong (Some store) (reader_of old version history) list progress.applied progress.refused (reader_of new version' history')) same along in
    (store, refl, (blobs, plan, of, on kept, tag))

-- Where there is no plan all stays.
pub not_gone : (E : Type 0) (held : Option Store) (wanted : ℕ) (old : Option Position) (version : Option ℕ) (history : PastSteps) (found : Option (List BlobName)) → found ≡ None →
    IfSome held (λ store. TellsPlan (names store) version wanted found) →
    MovesReader {E = E} (λ machine reply next. GotoStep machine wanted reply next) held (reader_of old version history) (reader_of old version history) (Ok (Refused (NoPlan version wanted)))
not_gone E None wanted old version history found is tells = λ kept. tt
not_gone E (Some store) wanted old version history found is tells = λ kept. (store, refl, ((refl, refl, subst (TellsPlan (names store) version wanted) is tells), refl))

-- An answer that is none of the refusals is none.
pub not_refused : (answer : Reply) → ((refusal : Refusal) → answer ≢ Refused refusal) → is_refusal answer ≡ false
not_refused (Refused refusal) not = absurd (not refusal refl)
not_refused _ not = refl
