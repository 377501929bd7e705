-- A restore has one answer, and leaves one machine.
use Rattle.std.proofs.Common.{◌≡◌, ◌<◌, ◌⊎◌, ℕ, List, Option, Some, None, inl, inr, refl, sym, ap, subst, ◌∙◌, arith}
use Rattle.std.specs.Prelude.{IsSomeAnd, slice_get}
use Rattle.std.specs.FinMap.{get}
use Rattle.std.proofs.lemmas.Bool.{cases_eq, cases_lt}
use Rattle.hol_io.specs.declared.name.BlobName.TheVariants.{Announced, Snapshot}
use Rattle.hol_io.specs.Store.{Store, told}
use Rattle.schema_model.specs.declared.schema.Schema.{Schema}
use Rattle.schema_model.specs.declared.reason.Reason.TheVariants.{BadAnnounced}
use Rattle.row_model.specs.declared.row.Row.{Row}
use Rattle.row_model.specs.Table.{Table, row_at}
use Rattle.row_model.proofs.RowsFrom.{get_in}
use Rattle.write_engine.specs.Agreement.{HoldsOnce}
use Rattle.write_engine.specs.Restoring.{IsFirstDuplicate, IsFirstOfType}
use Rattle.chain_store.specs.Announced.{IsBadlyAnnounced, IsNoVersion}
use Rattle.read_engine.specs.Position.{Position, rows_now}
use Rattle.read_engine.specs.Taking.{LoadsFrom}
use Rattle.hol_answers.specs.declared.refusal.EqualRows.{EqualRows}
use Rattle.hol_answers.specs.declared.refusal.Refusal.{Refusal}
use Rattle.hol_answers.specs.declared.refusal.Refusal.TheVariants as refused
use Rattle.hol_answers.specs.Refusal.{bad_item}
use Rattle.hol_answers.specs.declared.reply.Reply.{Reply}
use Rattle.hol_answers.specs.declared.reply.Reply.TheVariants as reply
use Rattle.hollow_machine.proofs.Refusals.{one_snapshot_refusal, some_one}
use Rattle.hollow_machine.specs.Blobs.{SnapshotRefusal}
use Rattle.hollow_machine.specs.RestoreOrder.{IsLast, IsNotLast, IsStored, NamesDuplicate, RestoreRefusal, RestoreStep, producer_at}
use Rattle.hollow_machine.specs.State.{Machine, with_producer}
use Rattle.chain_laws.proofs.ConsumerOrders.{no_load_refusal}
use Rattle.chain_laws.proofs.OneMove.{load_once}
use Rattle.chain_laws.proofs.StoreNames.{name_once, no_version_apart, one_announced}

-- ---- the two equal rows that are named

module _ (table : Table) where
  -- no two equal rows stand before the second one that is named
  none_before : (t first second a b : ℕ) (row : Row) → IsFirstOfType table t first second → a < b → b < second → row_at table t a ≡ Some row → row_at table t b ≡ Some row → ⊥
  none_before t first second a b row named rises low at_a at_b = let least = named.least a b (row, rises, at_a, at_b) in omega (arith, least, low)

  -- so one ordinal alone has its row before it
  first_one : (t a b second : ℕ) → IsFirstOfType table t a second → IsFirstOfType table t b second → a ≡ b
  first_one t a b second one other =
      let (row, below, at_a, at_second) = one.equal in
      let (same, under, at_b, also_second) = other.equal in
      let rows : Some same ≡ Some row = sym also_second ∙ at_second in
      let here : row_at table t b ≡ Some row = at_b ∙ rows in
      elim (cases_lt a b) [
        | inl low ↦ absurd (none_before t a second a b row one low under at_a here)
        | inr up ↦
            elim (cases_eq a b) [
              | inl same ↦ same
              | inr apart ↦ absurd (none_before t a second b a row one (omega (arith, up, apart)) below here at_a)
            ]
      ]

  of_type_one : (t a b second another : ℕ) → IsFirstOfType table t a second → IsFirstOfType table t b another → (a ≡ b) × (second ≡ another)
  of_type_one t a b second another one other =
      let up = one.least b another other.equal in
      let down = other.least a second one.equal in
      let same : second ≡ another = omega (arith, up, down) in
      (first_one t a b another (subst (λ s. IsFirstOfType table t a s) same one) other, same)

  duplicate_one : (t u a b second another : ℕ) → IsFirstDuplicate table t a second → IsFirstDuplicate table u b another → (t ≡ u) × (a ≡ b) × (second ≡ another)
  duplicate_one t u a b second another one other =
      elim (cases_lt t u) [
        | inl low ↦ absurd (other.earlier t low a second one.here.equal)
        | inr up ↦
            elim (cases_eq t u) [
              | inl same ↦
                  (let both = of_type_one u a b second another (subst (λ k. IsFirstOfType table k a second) same one.here) other.here in
                  (same, both.0, both.1))
              | inr apart ↦ absurd (one.earlier u (omega (arith, up, apart)) b another other.here.equal)
            ]
      ]

  -- where no row stands twice none is named
  none_twice : (t a b : ℕ) → HoldsOnce table → IsFirstDuplicate table t a b → ⊥
  none_twice t a b once named =
      let (row, below, at_a, at_b) = named.here.equal in
      let same = once.once t a b row (get_in table t a ∙ at_a) (get_in table t b ∙ at_b) in
      omega (arith, below, same)

named_one : (position : Position) (rows others : EqualRows) → NamesDuplicate position rows → NamesDuplicate position others → rows ≡ others
named_one position rows others (t, named, first) (u, also, other) =
    let same = duplicate_one (rows_now position) t u rows.first others.first rows.second others.second first other in
    let there = subst (λ k. IsSomeAnd (slice_get position.schemas k) (λ (s : Schema). s.name ≡ rows.type_name)) same.0 named in
    let names = name_once (slice_get position.schemas u) rows.type_name others.type_name there also in
    λ i. record { type_name = names i; first = same.1 i; second = same.2 i }

module _ (store : Store) (version : ℕ) where
  abbrev announced : Option (List ℕ)
  announced = told (Some store) Announced

  abbrev content : Option (List ℕ)
  content = get store (Snapshot version)

  -- ---- whether the version is the announced one

  last_apart : (refusal : Refusal) → IsNotLast store version refusal → IsLast store version → ⊥
  last_apart (refused.NoBlob name) is last = last.there is.1
  last_apart (refused.BadBlob fault) is last = no_version_apart announced version is.0 last.announced
  last_apart (refused.NotLast other) is last = is.1 (one_announced announced other version is.0.announced last.announced)
  last_apart _ is last = absurd is

  abbrev Why : Refusal → Type 0
  Why refusal =
      ((announced ≡ None) × (refusal ≡ refused.NoBlob Announced))
      ⊎ ((IsBadlyAnnounced store × (refusal ≡ bad_item Announced 0 BadAnnounced))
      ⊎ ((other : ℕ) × IsLast store other × (refusal ≡ refused.NotLast other)))

  why : (refusal : Refusal) → IsNotLast store version refusal → Why refusal
  why (refused.NoBlob name) is = inl (is.1, ap (λ n. refused.NoBlob n) is.0)
  why (refused.BadBlob fault) is = inr (inl (is.0, (λ i. refused.BadBlob (record { blob = is.1 i; at = is.2 i; reason = is.3 i; row = is.4 i }))))
  why (refused.NotLast other) is = inr (inr (other, is.0, refl))
  why _ is = absurd is

  one_why : (r s : Refusal) → Why r → Why s → r ≡ s
  one_why r s (inl none) (inl also) = none.1 ∙ sym also.1
  one_why r s (inl none) (inr (inl bad)) = absurd (subst IsNoVersion none.0 bad.0)
  one_why r s (inl none) (inr (inr (other, last, is))) = absurd (last.there none.0)
  one_why r s (inr (inl bad)) (inl none) = absurd (subst IsNoVersion none.0 bad.0)
  one_why r s (inr (inl bad)) (inr (inl also)) = bad.1 ∙ sym also.1
  one_why r s (inr (inl bad)) (inr (inr (other, last, is))) = absurd (no_version_apart announced other bad.0 last.announced)
  one_why r s (inr (inr (other, last, is))) (inl none) = absurd (last.there none.0)
  one_why r s (inr (inr (other, last, is))) (inr (inl bad)) = absurd (no_version_apart announced other bad.0 last.announced)
  one_why r s (inr (inr (other, last, is))) (inr (inr (same, also, is_too))) =
      is ∙ ap (λ v. refused.NotLast v) (one_announced announced other same last.announced also.announced) ∙ sym is_too

  -- ---- the state that is stored

  pub stored_once : (a b : Position) → IsStored store version a → IsStored store version b → a ≡ b
  stored_once a b (blob, at, loads) (bytes, also, loads_too) =
      load_once blob a b loads (subst (λ (x : List ℕ). LoadsFrom x b) (some_one content bytes blob also at) loads_too)

  -- a snapshot that is loaded is not refused
  pub stored_apart : (position : Position) (refusal : Refusal) → IsStored store version position → SnapshotRefusal (Snapshot version) content refusal → ⊥
  stored_apart position refusal (blob, at, loads) refuses = no_load_refusal version content blob position at loads refusal refuses

  -- ---- why a restore is refused

  abbrev HasTwice : EqualRows → Type 0
  HasTwice rows = (position : Position) × IsStored store version position × NamesDuplicate position rows

  abbrev Refuses : Refusal → Type 0
  Refuses refusal =
      ((rows : EqualRows) × (refusal ≡ refused.DuplicateRow rows) × IsLast store version × HasTwice rows)
      ⊎ (IsNotLast store version refusal ⊎ (IsLast store version × SnapshotRefusal (Snapshot version) content refusal))

  refuses_of : (refusal : Refusal) → RestoreRefusal store version refusal → Refuses refusal
  refuses_of (refused.DuplicateRow rows) is = inl (rows, refl, is.0, is.1)
  refuses_of _ is = inr is

  twice_one : (rows others : EqualRows) → HasTwice rows → HasTwice others → rows ≡ others
  twice_one rows others (position, stored, named) (place, also, named_too) =
      named_one position rows others named (subst (λ (p : Position). NamesDuplicate p others) (stored_once place position also stored) named_too)

  twice_apart : (rows : EqualRows) (refusal : Refusal) → HasTwice rows → SnapshotRefusal (Snapshot version) content refusal → ⊥
  twice_apart rows refusal (position, stored, named) refuses = stored_apart position refusal stored refuses

  refuses_one : (r s : Refusal) → Refuses r → Refuses s → r ≡ s
  refuses_one r s (inl (rows, is, last, twice)) (inl (others, is_too, last_too, also)) = is ∙ ap (λ x. refused.DuplicateRow x) (twice_one rows others twice also) ∙ sym is_too
  refuses_one r s (inl (rows, is, last, twice)) (inr (inl not)) = absurd (last_apart s not last)
  refuses_one r s (inl (rows, is, last, twice)) (inr (inr (last_too, refuses))) = absurd (twice_apart rows s twice refuses)
  refuses_one r s (inr (inl not)) (inl (rows, is, last, twice)) = absurd (last_apart r not last)
  refuses_one r s (inr (inr (last_too, refuses))) (inl (rows, is, last, twice)) = absurd (twice_apart rows r twice refuses)
  refuses_one r s (inr (inl not)) (inr (inl also)) = one_why r s (why r not) (why s also)
  refuses_one r s (inr (inl not)) (inr (inr (last, refuses))) = absurd (last_apart r not last)
  refuses_one r s (inr (inr (last, refuses))) (inr (inl not)) = absurd (last_apart s not last)
  refuses_one r s (inr (inr (last, refuses))) (inr (inr (last_too, also))) = one_snapshot_refusal (Snapshot version) content r s refuses also

  -- a state that is restored is not refused
  restored_not : (position : Position) (refusal : Refusal) → IsLast store version → IsStored store version position → HoldsOnce (rows_now position) → Refuses refusal → ⊥
  restored_not position refusal last stored once (inl (rows, is, last_too, (place, also, (t, named, first)))) =
      none_twice (rows_now place) t rows.first rows.second (subst (λ (p : Position). HoldsOnce (rows_now p)) (stored_once position place stored also) once) first
  restored_not position refusal last stored once (inr (inl not)) = last_apart refusal not last
  restored_not position refusal last stored once (inr (inr (last_too, refuses))) = stored_apart position refusal stored refuses

module _ (machine : Machine) (version : ℕ) where
  pub one_restore : (one other : Reply) (next after : Machine) → RestoreStep machine version one next → RestoreStep machine version other after → (one ≡ other) × (next ≡ after)
  one_restore (reply.Restore tag v) (reply.Restore also w) next after (is, last, (position, stored, once, tag_is, next_is)) (is_too, last_too, (place, stored_too, once_too, also_is, after_is)) =
      let here = stored_once machine.store version position place stored stored_too in
      let tags = tag_is ∙ ap (λ (p : Position). p.tag) here ∙ sym also_is in
      let versions = is ∙ sym is_too in
      ((λ i. reply.Restore (tags i) (versions i)), next_is ∙ ap (λ (p : Position). with_producer machine (Some (producer_at p version))) here ∙ sym after_is)
  one_restore (reply.Restore tag v) (reply.Refused refusal) next after (is, last, (position, stored, once, tag_is, next_is)) other =
      absurd (restored_not machine.store version position refusal last stored once (refuses_of machine.store version refusal other.0))
  one_restore (reply.Refused refusal) (reply.Restore tag v) next after one (is, last, (position, stored, once, tag_is, next_is)) =
      absurd (restored_not machine.store version position refusal last stored once (refuses_of machine.store version refusal one.0))
  one_restore (reply.Refused r) (reply.Refused s) next after one other =
      (ap (λ x. reply.Refused x) (refuses_one machine.store version r s (refuses_of machine.store version r one.0) (refuses_of machine.store version s other.0)), one.1 ∙ sym other.1)
  one_restore (reply.Restore tag v) _ next after one other = absurd other
  one_restore (reply.Refused r) _ next after one other = absurd other
  one_restore _ other_answer next after one other = absurd one
