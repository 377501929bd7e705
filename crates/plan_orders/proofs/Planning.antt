-- What is planned over the names of a store, and what `plan` answers of it.
use Rattle.std.proofs.Common.{◌≡◌, ◌≢◌, ℕ, List, [], ◌∷◌, All, Option, Some, None, Result, Ok, IfSome, refl, sym, subst}
use Rattle.std.proofs.lemmas.List.Elements.{All-cons, All-nil}
use Rattle.hol_io.specs.declared.name.BlobName.{BlobName}
use Rattle.hol_io.specs.declared.name.BlobName.TheVariants.{Snapshot, Delta, Reverse, Announced}
use Rattle.hol_io.specs.Store.{Store, names}
use Rattle.hol_plan.specs.Walk.{IsWalk, Leads, TellsPlan}
use Rattle.hol_orders.specs.declared.order_stop.OrderStop.{OrderStop}
use Rattle.hol_answers.specs.declared.reply.Reply.{Reply}
use Rattle.hol_answers.specs.declared.reply.Reply.TheVariants.{Plan, Refused}
use Rattle.hol_answers.specs.declared.refusal.Refusal.TheVariants.{NoPlan}
use Rattle.hollow_machine.specs.Kept.{Kept, Moves}
use Rattle.hollow_machine.specs.PlanOrders.{PlanReply}

abbrev IsBlob : BlobName → Type 0
IsBlob name = name ≢ Announced

-- a name that leads somewhere is that of a blob
leading : (name : BlobName) (from : Option ℕ) (to : ℕ) → Leads name from to → IsBlob name
leading (Snapshot version) from to leads = λ same. absurd cc
leading (Delta begin end) from to leads = λ same. absurd cc
leading (Reverse begin end) from to leads = λ same. absurd cc
leading Announced from to leads = absurd leads

-- a walk goes along blobs
walked : (listed : List BlobName) (from : Option ℕ) (to : ℕ) (walk : List BlobName) → IsWalk listed from to walk → All IsBlob walk
walked listed from to [] walks = All-nil IsBlob
walked listed from to (name ∷ rest) (there, (middle, (leads, on))) = All-cons IsBlob name rest (leading name from middle leads) (walked listed (Some middle) to rest on)

-- A plan goes along blobs.
pub plan_blobs : (listed : List BlobName) (from : Option ℕ) (to : ℕ) (plan : Option (List BlobName)) → TellsPlan listed from to plan → IfSome plan (All (λ name. name ≢ Announced))
plan_blobs listed from to None tells = tt
plan_blobs listed from to (Some plan) tells = walked listed from to plan tells.walks

-- ---- the order `plan`

abbrev Shows : Option Store → Option ℕ → ℕ → Result Reply OrderStop → Type 0
Shows held version wanted result =
    (kept : Kept) → kept.reader.version ≡ version → Moves (λ machine reply next. PlanReply machine wanted reply × (next ≡ machine)) held kept held kept result

-- The plan is shown.
pub shown : (held : Option Store) (version : Option ℕ) (wanted : ℕ) (found : Option (List BlobName)) (blobs : List BlobName) → found ≡ Some blobs → IfSome held (λ store. TellsPlan (names store) version wanted found) →
    Shows held version wanted (Ok (Plan blobs))
shown None version wanted found blobs is tells = λ kept same. tt
shown (Some store) version wanted found blobs is tells = λ kept same.
    (store, refl, (subst (λ (from : Option ℕ). TellsPlan (names store) from wanted (Some blobs)) (sym same) (subst (TellsPlan (names store) version wanted) is tells), refl))

-- There is no plan.
pub not_shown : (held : Option Store) (version : Option ℕ) (wanted : ℕ) (found : Option (List BlobName)) → found ≡ None → IfSome held (λ store. TellsPlan (names store) version wanted found) →
    Shows held version wanted (Ok (Refused (NoPlan version wanted)))
not_shown None version wanted found is tells = λ kept same. tt
not_shown (Some store) version wanted found is tells = λ kept same.
    (store, refl, ((sym same, refl, subst (λ (from : Option ℕ). TellsPlan (names store) from wanted None) (sym same) (subst (TellsPlan (names store) version wanted) is tells)), refl))
