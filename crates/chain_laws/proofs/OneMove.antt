-- A load and a step of a consumer have one answer, and leave one machine.
use Rattle.std.proofs.Common.{◌≡◌, ◌<◌, ◌⊎◌, ℕ, suc, List, [], ◌∷◌, length, Option, Some, inl, inr, refl, sym, ap, subst, ◌∙◌, arith}
use Rattle.std.specs.Prelude.{IfSome}
use Rattle.std.specs.FinMap.{get}
use Rattle.std.proofs.lemmas.Bool.{cases_eq}
use Rattle.std.proofs.lemmas.List.{length-map}
use Rattle.std.proofs.lemmas.List.Elements.{All-cons, All-head, All-nil, All-tail}
use Rattle.hol_io.specs.declared.name.BlobName.{BlobName}
use Rattle.hol_io.specs.declared.name.BlobName.TheVariants.{Snapshot}
use Rattle.row_model.specs.Table.{Table}
use Rattle.type_state.specs.State.{Half}
use Rattle.type_state.specs.Views.{table_of}
use Rattle.blob_frame.specs.declared.header.Header.{Header}
use Rattle.snapshot_blob.proofs.Whole.{one_snapshot}
use Rattle.delta_blob.specs.Moved.{EachNamed, IsUnnamed, Moved}
use Rattle.delta_blob.specs.Patch.{TypePatch}
use Rattle.hol_answers.specs.declared.refusal.Refusal.{Refusal}
use Rattle.hol_answers.specs.declared.reply.Reply.{Reply}
use Rattle.hol_answers.specs.declared.reply.Reply.TheVariants as reply
use Rattle.read_engine.specs.Position.{Position, rows_now}
use Rattle.read_engine.specs.Taking.{LoadsFrom, StepsBy, layout_at}
use Rattle.read_engine.specs.Walks.{HasFewEntries, KeepsWalks}
use Rattle.read_engine.proofs.Those.{those_once}
use Rattle.hollow_machine.proofs.Refusals.{one_snapshot_refusal, one_step_refusal, some_one}
use Rattle.hollow_machine.specs.LoadOrder.{LoadStep}
use Rattle.hollow_machine.specs.State.{Machine, loaded_to, stepped_to}
use Rattle.hollow_machine.specs.StepOrder.{StepRefusal, StepStep}
use Rattle.written_laws.proofs.MovedOnce.{moved_once}
use Rattle.delta_blob.proofs.OnePatch.{patch_once, tags_once}
use Rattle.chain_laws.proofs.ConsumerOrders.{no_load_refusal, no_refusal}
use Rattle.chain_laws.proofs.StoreNames.{found_with}
use Rattle.chain_laws.proofs.TypedConsumers.{IsTyped}

-- both answers are one, and so are the machines behind them
abbrev pub Alike : Reply → Machine → Reply → Machine → Type 0
Alike one next other after = (one ≡ other) × (next ≡ after)

-- ---- loads

pub load_once : (blob : List ℕ) (a b : Position) → LoadsFrom blob a → LoadsFrom blob b → a ≡ b
load_once blob a b (head, accepted, tag, before, none, unwalked) (other, also, tag_too, before_too, none_too, unwalked_too) =
    let once = one_snapshot blob head other accepted.0 also.0 a.schemas b.schemas a.halves b.halves accepted.1 also.1 in
    let tags = tag ∙ ap (λ (h : Header). h.destination) once.0 ∙ sym tag_too in
    let befores = before ∙ ap table_of once.3 ∙ sym before_too in
    let bare = none ∙ sym none_too in
    let walks = unwalked ∙ sym unwalked_too in
    λ i. record { tag = tags i; schemas = once.2 i; halves = once.3 i; before = befores i; indexes = bare i; walks = walks i }

pub one_load : (machine : Machine) (version : ℕ) (one other : Reply) (next after : Machine) → LoadStep machine version one next → LoadStep machine version other after → Alike one next other after
one_load machine version (reply.Load tag) (reply.Load also) next after (blob, position, at, loads, tag_is, next_is) (x, place, at_x, loads_x, also_is, after_is) =
    let same = some_one (get machine.store (Snapshot version)) x blob at_x at in
    let here : position ≡ place = load_once blob position place loads (subst (λ (b : List ℕ). LoadsFrom b place) same loads_x) in
    (ap (λ t. reply.Load t) (tag_is ∙ ap (λ (p : Position). p.tag) here ∙ sym also_is), next_is ∙ ap (loaded_to machine version) here ∙ sym after_is)
one_load machine version (reply.Load tag) (reply.Refused refusal) next after (blob, position, at, loads, tag_is, next_is) step =
    absurd (no_load_refusal version (get machine.store (Snapshot version)) blob position at loads refusal step.0)
one_load machine version (reply.Refused refusal) (reply.Load tag) next after step (blob, position, at, loads, tag_is, next_is) =
    absurd (no_load_refusal version (get machine.store (Snapshot version)) blob position at loads refusal step.0)
one_load machine version (reply.Refused r) (reply.Refused s) next after one other =
    let content = get machine.store (Snapshot version) in
    let same = one_snapshot_refusal (Snapshot version) content r s one.0 other.0 in
    (ap (λ x. reply.Refused x) same, one.1 ∙ sym other.1)
one_load machine version (reply.Load tag) _ next after one other = absurd other
one_load machine version (reply.Refused r) _ next after one other = absurd other
one_load machine version _ other_answer next after one other = absurd one

-- ---- steps

-- halves of one table in the same layouts
halves_once : (xs bs : List Half) → table_of xs ≡ table_of bs → ((t : ℕ) → t < length xs → layout_at xs t ≡ layout_at bs t) → xs ≡ bs
halves_once [] [] rows each = refl
halves_once [] (b ∷ bs) rows each = absurd (let none = ap (λ t. length t) rows in omega (arith, none))
halves_once (a ∷ xs) [] rows each = absurd (let none = ap (λ t. length t) rows in omega (arith, none))
halves_once (a ∷ xs) (b ∷ bs) rows each =
    let of_layout : Some a.layout ≡ Some b.layout = each 0 (omega arith) in
    let layout : a.layout ≡ b.layout = cc in
    let row : a.rows ≡ b.rows = cc in
    let more : table_of xs ≡ table_of bs = cc in
    let others = halves_once xs bs more (λ t inside. each (suc t) (omega (arith, inside))) in
    λ i. record { layout = layout i; rows = row i } ∷ others i

-- the types that a patch names are laid out in one way
named_alike : (xs bs : List Half) (patch : List TypePatch) → EachNamed patch (λ t named. layout_at xs t ≡ Some named.layout) → EachNamed patch (λ t named. layout_at bs t ≡ Some named.layout) → (index : ℕ)
    → (layout_at xs index ≡ layout_at bs index) ⊎ IsUnnamed patch index
named_alike xs bs [] one other index = inr (All-nil (λ named. named.type_index ≡ index → ⊥))
named_alike xs bs (named ∷ patch) one other index =
    elim (cases_eq named.type_index index) [
      | inl here ↦
          inl
          (subst (λ t. layout_at xs t ≡ layout_at bs t) here
          (All-head (λ n. layout_at xs n.type_index ≡ Some n.layout) named patch one ∙ sym (All-head (λ n. layout_at bs n.type_index ≡ Some n.layout) named patch other)))
      | inr apart ↦
          elim (named_alike xs bs patch (All-tail (λ n. layout_at xs n.type_index ≡ Some n.layout) named patch one) (All-tail (λ n. layout_at bs n.type_index ≡ Some n.layout) named patch other) index) [
            | inl found ↦ inl found
            | inr none ↦ inr (All-cons (λ n. n.type_index ≡ index → ⊥) named patch apart none)
          ]
    ]

pub step_once : (blob : List ℕ) (now a b : Position) → IsTyped now → StepsBy blob now a → StepsBy blob now b → a ≡ b
step_once blob now a b typed one other =
    let tags = tags_once now.schemas now.schemas blob now.tag a.tag now.tag b.tag one.patch other.patch one.is other.is in
    let once = patch_once now.schemas blob now.tag a.tag now.tag b.tag one.patch other.patch typed.names one.is other.is in
    let moved : Moved one.patch (rows_now now) (rows_now b) = subst (λ (p : List TypePatch). Moved p (rows_now now) (rows_now b)) (sym once) other.moved in
    let rows : rows_now a ≡ rows_now b = moved_once one.patch (rows_now now) (rows_now a) (rows_now b) one.moved moved in
    let count : length a.halves ≡ length now.schemas = one.types ∙ sym (length-map now.halves (λ (half : Half). half.rows)) ∙ typed.types in
    let layouts = subst (λ (p : List TypePatch). EachNamed p (λ t named. layout_at b.halves t ≡ Some named.layout)) (sym once) other.layouts in
    let others : (t : ℕ) → t < length now.schemas → IsUnnamed one.patch t → layout_at b.halves t ≡ layout_at now.halves t =
    subst (λ (p : List TypePatch). (t : ℕ) → t < length now.schemas → IsUnnamed p t → layout_at b.halves t ≡ layout_at now.halves t) (sym once) other.others in
    let halves = halves_once a.halves b.halves rows (λ t inside.
    (let within : t < length now.schemas = omega (arith, inside, count) in
    elim (named_alike a.halves b.halves one.patch one.layouts layouts t) [
      | inl same ↦ same
      | inr unnamed ↦ one.others t within unnamed ∙ sym (others t within unnamed)
    ])) in
    let schemas = one.model ∙ sym other.model in
    let before = one.before ∙ sym other.before in
    let indexes = one.indexes ∙ sym other.indexes in
    let walks = those_once (HasFewEntries now.schemas (rows_now a)) now.walks a.walks b.walks one.walks
    (subst (λ (t : Table). KeepsWalks now.schemas t now.walks b.walks) (sym rows) other.walks) in
    λ i. record { tag = tags.1 i; schemas = schemas i; halves = halves i; before = before i; indexes = indexes i; walks = walks i }

module _ (machine : Machine) (name : BlobName) (version : ℕ) (typed : IfSome machine.consumer IsTyped) where
  abbrev content : Option (List ℕ)
  content = get machine.store name

  -- a step that was taken is not refused
  taken_not : (now to : Position) (blob : List ℕ) (refusal : Refusal) → machine.consumer ≡ Some now → content ≡ Some blob → StepsBy blob now to → StepRefusal name content machine.consumer refusal → ⊥
  taken_not now to blob refusal is at steps refuses =
      let here : IsTyped now = subst (λ (consumer : Option Position). IfSome consumer IsTyped) is typed in
      no_refusal name content blob now to at here steps refusal (subst (λ (consumer : Option Position). StepRefusal name content consumer refusal) is refuses)

  pub one_move : (one other : Reply) (next after : Machine) → StepStep machine name version one next → StepStep machine name version other after → Alike one next other after
  one_move (reply.Step tag) (reply.Step also) next after one other =
      let (now, is, (blob, to, at, steps, tag_is, next_is)) = found_with machine.consumer _ one in
      let (now_too, is_too, (x, place, at_x, steps_x, also_is, after_is)) = found_with machine.consumer _ other in
      let here = some_one machine.consumer now_too now is_too is in
      let bytes = some_one content x blob at_x at in
      let steps_too : StepsBy blob now place = subst (λ (b : List ℕ). StepsBy b now place) bytes (subst (λ (p : Position). StepsBy x p place) here steps_x) in
      let there : to ≡ place = step_once blob now to place (subst (λ (consumer : Option Position). IfSome consumer IsTyped) is typed) steps steps_too in
      (ap (λ t. reply.Step t) (tag_is ∙ ap (λ (p : Position). p.tag) there ∙ sym also_is), next_is ∙ ap (stepped_to machine version) there ∙ sym after_is)
  one_move (reply.Step tag) (reply.Refused refusal) next after one other =
      let (now, is, (blob, to, at, steps, tag_is, next_is)) = found_with machine.consumer _ one in
      absurd (taken_not now to blob refusal is at steps other.0)
  one_move (reply.Refused refusal) (reply.Step tag) next after one other =
      let (now, is, (blob, to, at, steps, tag_is, next_is)) = found_with machine.consumer _ other in
      absurd (taken_not now to blob refusal is at steps one.0)
  one_move (reply.Refused r) (reply.Refused s) next after one other =
      (ap (λ x. reply.Refused x) (one_step_refusal name content machine.consumer r s one.0 other.0), one.1 ∙ sym other.1)
  one_move (reply.Step tag) _ next after one other = absurd other
  one_move (reply.Refused r) _ next after one other = absurd other
  one_move _ other_answer next after one other = absurd one
