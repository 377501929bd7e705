-- A cycle has one answer, and leaves one machine.
use Rattle.std.proofs.Common.{◌≡◌, ◌≢◌, ◌≤◌, ◌<◌, ◌⊎◌, ℕ, ℤ, List, [], ◌∷◌, Bool, true, false, Option, Some, None, inl, inr, refl, sym, ap, subst, ◌∙◌, arith}
use Rattle.std.specs.Prelude.{All, IfSome, IsSomeAnd, slice_get}
use Rattle.std.proofs.lemmas.Bool.{cases_eq, cases_lt}
use Rattle.hol_io.specs.declared.name.BlobName.TheVariants.{Snapshot, Delta, Reverse, Announced}
use Rattle.hol_io.specs.Store.{Store, told}
use Rattle.schema_model.specs.declared.limit.Limit.{Limit}
use Rattle.schema_model.specs.declared.limit.Limit.TheVariants as limit
use Rattle.schema_model.specs.declared.schema.Schema.{Schema}
use Rattle.schema_model.specs.declared.schema.Shape.{Shape}
use Rattle.schema_model.specs.declared.model.rule.Rule.TheVariants.{DuplicateName}
use Rattle.schema_model.specs.declared.reason.Reason.TheVariants.{BadAnnounced}
use Rattle.schema_model.specs.Model.{IsModel}
use Rattle.row_model.specs.PlainTree.{PlainTree}
use Rattle.row_model.specs.Table.{IsTableOf, Table}
use Rattle.row_packing.specs.Chosen.{shape_at}
use Rattle.row_packing.specs.States.{AreWritable}
use Rattle.row_packing.specs.TypeLimit.{KeepsBytes, KeepsItems, TellsLimit}
use Rattle.write_engine.specs.Agreement.{HoldsOnce}
use Rattle.write_engine.specs.Cycle.{Next}
use Rattle.write_engine.specs.CycleLimit.{TellsTypes}
use Rattle.write_engine.specs.Production.{AreChanged}
use Rattle.write_engine.proofs.NextStates.{next_agree}
use Rattle.write_engine.proofs.OneState.{next_is_one}
use Rattle.write_engine.proofs.TypesKept.{writable, writable_back}
use Rattle.blob_writing.specs.Snapshot.{IsWrittenSnapshot}
use Rattle.blob_writing.specs.Changes.{IsDeltaBetween}
use Rattle.chain_store.specs.Announced.{IsAnnounced, IsBadlyAnnounced}
use Rattle.chain_store.specs.Versions.{last_version}
use Rattle.hol_answers.specs.declared.refusal.Refusal.{Refusal}
use Rattle.hol_answers.specs.declared.refusal.Refusal.TheVariants as refused
use Rattle.hol_answers.specs.Refusal.{bad_item}
use Rattle.hol_answers.specs.declared.reply.Reply.{Reply}
use Rattle.hol_answers.specs.declared.reply.Reply.TheVariants as reply
use Rattle.hollow_machine.specs.CycleOrder.{AreNamed, CycleRefusal, CycleStep, Leaves, Makes, PassesLimit, Publishes, RefusesAfter, Succeeds, SucceedsAfter}
use Rattle.hollow_machine.specs.Follow.{MayFollow, MayNotFollow}
use Rattle.state_blobs.specs.Puts.{AreBlobs, AreWhole, IsShort, Put, puts_of, put_all}
use Rattle.hollow_machine.specs.Records.{AskedCycle, GivesTrees}
use Rattle.hollow_machine.specs.State.{Machine, with_producer, with_store}
use Rattle.state_blobs.specs.Published.{Published}
use Rattle.chain_laws.proofs.OneLook.{rising_one}
use Rattle.chain_laws.proofs.OneRecords.{NoTrees, given_one, no_trees, no_trees_apart, no_trees_one}
use Rattle.chain_laws.proofs.PrintedOnce.{each_once}
use Rattle.chain_laws.proofs.StoreNames.{found_with, name_once, no_version_apart, one_announced}

-- ---- whether a state may follow

module _ (store : Store) (last version : ℕ) (tag : ℤ) where
  bad_apart : (announced : ℕ) → IsBadlyAnnounced store → IsAnnounced store announced → ⊥
  bad_apart announced bad is = no_version_apart (told (Some store) Announced) announced bad is

  one_version : (u v : ℕ) → IsAnnounced store u → IsAnnounced store v → u ≡ v
  one_version u v one other = one_announced (told (Some store) Announced) u v one other

  pub may_apart : (refusal : Refusal) → MayNotFollow store last version tag refusal → MayFollow store last version tag → ⊥
  may_apart (refused.BadBlob fault) is may = bad_apart last is.0 may.announced
  may_apart (refused.NotLast announced) is may = is.1 (one_version announced last is.0 may.announced)
  may_apart (refused.BadVersion greatest) is may = let low = is.2 in let same = is.1 in let later = may.later in omega (arith, low, same, later)
  may_apart (refused.TagUsed used) is may = may.unused is.3
  may_apart _ is may = absurd is

  abbrev Why : Refusal → Type 0
  Why refusal =
      (IsBadlyAnnounced store × (refusal ≡ bad_item Announced 0 BadAnnounced))
      ⊎ (((announced : ℕ) × IsAnnounced store announced × (announced ≢ last) × (refusal ≡ refused.NotLast announced))
      ⊎ ((IsAnnounced store last × (version ≤ last_version store) × (refusal ≡ refused.BadVersion (last_version store)))
      ⊎ (IsAnnounced store last × (last_version store < version) × (refusal ≡ refused.TagUsed tag))))

  why : (refusal : Refusal) → MayNotFollow store last version tag refusal → Why refusal
  why (refused.BadBlob fault) is = inl (is.0, (λ i. refused.BadBlob (record { blob = is.1 i; at = is.2 i; reason = is.3 i; row = is.4 i })))
  why (refused.NotLast announced) is = inr (inl (announced, is.0, is.1, refl))
  why (refused.BadVersion greatest) is =
      let same = is.1 in let low = is.2 in inr (inr (inl (is.0, omega (arith, same, low), ap (λ n. refused.BadVersion n) same)))
  why (refused.TagUsed used) is = inr (inr (inr (is.0, is.1, ap (λ t. refused.TagUsed t) is.2)))
  why _ is = absurd is

  one_why : (r s : Refusal) → Why r → Why s → r ≡ s
  one_why r s (inl bad) (inl also) = bad.1 ∙ sym also.1
  one_why r s (inl bad) (inr (inl other)) = absurd (bad_apart other.0 bad.0 other.1)
  one_why r s (inl bad) (inr (inr (inl low))) = absurd (bad_apart last bad.0 low.0)
  one_why r s (inl bad) (inr (inr (inr used))) = absurd (bad_apart last bad.0 used.0)
  one_why r s (inr (inl other)) (inl bad) = absurd (bad_apart other.0 bad.0 other.1)
  one_why r s (inr (inl other)) (inr (inl also)) = other.3 ∙ ap (λ n. refused.NotLast n) (one_version other.0 also.0 other.1 also.1) ∙ sym also.3
  one_why r s (inr (inl other)) (inr (inr (inl low))) = absurd (other.2 (one_version other.0 last other.1 low.0))
  one_why r s (inr (inl other)) (inr (inr (inr used))) = absurd (other.2 (one_version other.0 last other.1 used.0))
  one_why r s (inr (inr (inl low))) (inl bad) = absurd (bad_apart last bad.0 low.0)
  one_why r s (inr (inr (inl low))) (inr (inl other)) = absurd (other.2 (one_version other.0 last other.1 low.0))
  one_why r s (inr (inr (inl low))) (inr (inr (inl also))) = low.2 ∙ sym also.2
  one_why r s (inr (inr (inl low))) (inr (inr (inr used))) = absurd (let a = low.1 in let b = used.1 in omega (arith, a, b))
  one_why r s (inr (inr (inr used))) (inl bad) = absurd (bad_apart last bad.0 used.0)
  one_why r s (inr (inr (inr used))) (inr (inl other)) = absurd (other.2 (one_version other.0 last other.1 used.0))
  one_why r s (inr (inr (inr used))) (inr (inr (inl low))) = absurd (let a = low.1 in let b = used.1 in omega (arith, a, b))
  one_why r s (inr (inr (inr used))) (inr (inr (inr also))) = used.2 ∙ sym also.2

-- ---- the limits of the types

module _ (shape : Shape) (old new : Table) (t : ℕ) where
  none_some : (passed : Limit) → TellsLimit shape old new t None → TellsLimit shape old new t (Some passed) → ⊥
  none_some limit.Items kept not = not kept.0
  none_some limit.Bytes kept not = not.1 kept.1
  none_some limit.Words kept not = not.2 kept.2
  none_some _ kept not = absurd not

  abbrev Which : Limit → Type 0
  Which passed =
      ((passed ≡ limit.Items) × (KeepsItems shape old new t → ⊥))
      ⊎ (((passed ≡ limit.Bytes) × KeepsItems shape old new t × (KeepsBytes old new t → ⊥))
      ⊎ ((passed ≡ limit.Words) × KeepsItems shape old new t × KeepsBytes old new t))

  which : (passed : Limit) → TellsLimit shape old new t (Some passed) → Which passed
  which limit.Items not = inl (refl, not)
  which limit.Bytes not = inr (inl (refl, not.0, not.1))
  which limit.Words not = inr (inr (refl, not.0, not.1))
  which _ not = absurd not

  one_which : (l m : Limit) → Which l → Which m → l ≡ m
  one_which l m (inl a) (inl b) = a.0 ∙ sym b.0
  one_which l m (inl a) (inr (inl b)) = absurd (a.1 b.1)
  one_which l m (inl a) (inr (inr b)) = absurd (a.1 b.1)
  one_which l m (inr (inl a)) (inl b) = absurd (b.1 a.1)
  one_which l m (inr (inl a)) (inr (inl b)) = a.0 ∙ sym b.0
  one_which l m (inr (inl a)) (inr (inr b)) = absurd (a.2 b.2)
  one_which l m (inr (inr a)) (inl b) = absurd (b.1 a.1)
  one_which l m (inr (inr a)) (inr (inl b)) = absurd (b.2 a.2)
  one_which l m (inr (inr a)) (inr (inr b)) = a.0 ∙ sym b.0

module _ (schemas : List Schema) (old new : Table) where
  types_apart : (passed : Limit) → TellsTypes schemas old new None → TellsTypes schemas old new (Some passed) → ⊥
  types_apart passed kept (t, inside, before, not) = none_some (shape_at schemas t) old new t passed (kept t inside) not

  types_one : (l m : Limit) → TellsTypes schemas old new (Some l) → TellsTypes schemas old new (Some m) → l ≡ m
  types_one l m (t, inside, before, not) (u, within, earlier, nor) =
      elim (cases_lt t u) [
        | inl low ↦ absurd (none_some (shape_at schemas t) old new t l (earlier t low) not)
        | inr up ↦
            elim (cases_eq t u) [
              | inl same ↦
                  one_which (shape_at schemas u) old new u l m (which (shape_at schemas u) old new u l (subst (λ k. TellsLimit (shape_at schemas k) old new k (Some l)) same not))
                  (which (shape_at schemas u) old new u m nor)
              | inr apart ↦ absurd (none_some (shape_at schemas u) old new u m (before u (omega (arith, up, apart))) nor)
            ]
      ]

-- ---- the state that trees make

module _ (last : Published) (trees : List (ℕ × PlainTree)) (once : HoldsOnce last.rows) where
  rows_one : (rows others : Table) (changed also : List ℕ) → Makes last trees rows changed → Makes last trees others also → rows ≡ others
  rows_one rows others changed also one other = next_is_one last.model last.rows rows others trees once one.state other.state

  changed_one : (rows others : Table) (changed also : List ℕ) → rows ≡ others → AreChanged last.rows rows changed → AreChanged last.rows others also → changed ≡ also
  changed_one rows others changed also same one other =
      let here : AreChanged last.rows rows also = subst (λ (t : Table). AreChanged last.rows t also) (sym same) other in
      rising_one changed also one.rising here.rising (λ q. ((λ among. (here.same q).1 ((one.same q).0 among)), (λ among. (one.same q).1 ((here.same q).0 among))))

-- ---- a cycle of a producer

-- each state is written in one way
abbrev pub WrittenOnce : Type 0
WrittenOnce =
    ((schemas : List Schema) (old new : Table) (origin destination : ℤ) (a b : List ℕ) → IsModel schemas → AreWritable schemas old new → IsWrittenSnapshot schemas old new origin destination a
    → IsWrittenSnapshot schemas old new origin destination b → a ≡ b)
    × ((schemas : List Schema) (old new : Table) (origin destination : ℤ) (a b : List ℕ) → IsModel schemas → AreWritable schemas old new → IsDeltaBetween schemas old new origin destination a
    → IsDeltaBetween schemas old new origin destination b → a ≡ b)

module _ (written : WrittenOnce) (machine : Machine) (last : Published) (version : ℕ) (tag : ℤ) (with_snapshot : Bool) (trees : List (ℕ × PlainTree)) (model : IsModel last.model)
    (once : HoldsOnce last.rows) where
  -- the snapshot is one, where it is put
  whole_one : (put : Bool) (rows : Table) → AreWritable last.model last.rows rows → (whole other : List Put) → AreWhole put last rows version tag whole → AreWhole put last rows version tag other
      → whole ≡ other
  whole_one true rows can whole other (snapshot, one, is) (bytes, also, other_is) =
      is ∙ ap (λ (b : List ℕ). (Snapshot version, b) ∷ []) (written.0 last.model last.rows rows last.tag tag snapshot bytes model can one also) ∙ sym other_is
  whole_one false rows can whole other none none_too = none ∙ sym none_too

  blobs_one : (rows : Table) → Next last.model last.rows trees rows → TellsTypes last.model last.rows rows None → (blobs others : List Put)
      → AreBlobs last rows version tag with_snapshot blobs → AreBlobs last rows version tag with_snapshot others → blobs ≡ others
  blobs_one rows made keeps blobs others (inl (zero_before, first)) (inl (zero_too, also)) =
      whole_one true rows (writable last.model last.rows rows (next_agree last.model last.rows rows trees once made) keeps) blobs others first also
  blobs_one rows made keeps blobs others (inl first) (inr later) = absurd (later.0 first.0)
  blobs_one rows made keeps blobs others (inr later) (inl first) = absurd (later.0 first.0)
  blobs_one rows made keeps blobs others (inr (nonzero, (delta, reverse, whole, forth, back, one, is))) (inr (nonzero_too, (d, r, w, forth_too, back_too, also, other_is))) =
      let agree = next_agree last.model last.rows rows trees once made in
      let can = writable last.model last.rows rows agree keeps in
      let deltas = written.1 last.model last.rows rows last.tag tag delta d model can forth forth_too in
      let reverses = written.1 last.model rows last.rows tag last.tag reverse r model (writable_back last.model last.rows rows agree keeps) back back_too in
      let wholes = whole_one with_snapshot rows can whole w one also in
      is ∙ (λ i. (Delta last.version version, deltas i) ∷ (Reverse version last.version, reverses i) ∷ wholes i) ∙ sym other_is

  -- what a cycle publishes is not left out
  not_both : (changed : List ℕ) → Publishes last changed → last.version ≢ 0 → changed ≡ [] → ⊥
  not_both changed (inl zero_before) nonzero none = nonzero zero_before
  not_both changed (inr some) nonzero none = some none

  leaves_one : (rows : Table) (changed : List ℕ) → Next last.model last.rows trees rows → (published also : Bool) (next after : Machine)
      → Leaves machine last rows changed version tag with_snapshot published next → Leaves machine last rows changed version tag with_snapshot also after → (published ≡ also) × (next ≡ after)
  leaves_one rows changed made false false next after one other = (refl, one.2 ∙ sym other.2)
  leaves_one rows changed made false true next after one other = absurd (not_both changed other.0 one.0 one.1)
  leaves_one rows changed made true false next after one other = absurd (not_both changed one.0 other.0 other.1)
  leaves_one rows changed made true true next after (publishes, keeps, (blobs, are, short, next_is)) (publishes_too, keeps_too, (others, are_too, short_too, after_is)) =
      let same = blobs_one rows made keeps blobs others are are_too in (
        refl,
        next_is
            ∙ ap (λ (bs : List Put). with_producer (with_store machine (put_all machine.store (puts_of bs version))) (Some (record { model = last.model; rows = rows; tag = tag; version = version }))) same
            ∙ sym after_is,
      )

  named_one : (schemas : List Schema) (types : List ℕ) (names others : List (List ℕ)) → AreNamed schemas types names → AreNamed schemas types others → names ≡ others
  named_one schemas types names others one other =
      each_once (λ t name. IsSomeAnd (slice_get schemas t) (λ (s : Schema). s.name ≡ name)) (λ t a b x y. name_once (slice_get schemas t) a b x y) types names others one other

  succeeds_one : (names others : List (List ℕ)) (published also : Bool) (next after : Machine) → Succeeds machine last version tag with_snapshot trees names published next
      → Succeeds machine last version tag with_snapshot trees others also after → (names ≡ others) × (published ≡ also) × (next ≡ after)
  succeeds_one names others published also next after (rows, changed, makes, named, leaves) (table, ts, makes_too, named_too, leaves_too) =
      let same = rows_one last trees once rows table changed ts makes makes_too in
      let list = changed_one last trees once rows table changed ts same makes.types makes_too.types in
      let here = subst (λ (t : Table). Leaves machine last t changed version tag with_snapshot also after) (sym same) (subst (λ (cs : List ℕ). Leaves machine last table cs version tag with_snapshot also after) (sym list) leaves_too) in
      let left = leaves_one rows changed makes.state published also next after leaves here in
      (named_one last.model changed names others named (subst (λ (cs : List ℕ). AreNamed last.model cs others) (sym list) named_too), left.0, left.1)

  -- ---- why a cycle is refused

  abbrev NoNext : Type 0
  NoNext = (rows : Table) → Next last.model last.rows trees rows → ⊥

  -- a blob of what is published is too long
  abbrev TooLong : Type 0
  TooLong =
      (rows : Table) × (changed : List ℕ) × Makes last trees rows changed × Publishes last changed × TellsTypes last.model last.rows rows None
      × ((blobs : List Put) → AreBlobs last rows version tag with_snapshot blobs → All IsShort blobs → ⊥)

  -- a type of what is published passes this limit
  abbrev TypePasses : Limit → Type 0
  TypePasses passed = (rows : Table) × (changed : List ℕ) × Makes last trees rows changed × Publishes last changed × TellsTypes last.model last.rows rows (Some passed)

  abbrev PassKind : Limit → Type 0
  PassKind passed = ((passed ≡ limit.Ordinals) × NoNext) ⊎ (((passed ≡ limit.Blob) × TooLong) ⊎ TypePasses passed)

  pass_kind : (passed : Limit) → PassesLimit last version tag with_snapshot trees passed → PassKind passed
  pass_kind limit.Ordinals is = inl (refl, is)
  pass_kind limit.Blob is = inr (inl (refl, is))
  pass_kind _ is = inr (inr is)

  same_rows : (P : Table → Type 0) (rows others : Table) (changed also : List ℕ) → Makes last trees rows changed → Makes last trees others also → P others → P rows
  same_rows P rows others changed also makes makes_too p = subst P (sym (rows_one last trees once rows others changed also makes makes_too)) p

  passes_one : (l m : Limit) → PassKind l → PassKind m → l ≡ m
  passes_one l m (inl none) (inl also) = none.0 ∙ sym also.0
  passes_one l m (inl none) (inr (inl (is, (rows, changed, makes, publishes, keeps, not)))) = absurd (none.1 rows makes.state)
  passes_one l m (inl none) (inr (inr (rows, changed, makes, publishes, tells))) = absurd (none.1 rows makes.state)
  passes_one l m (inr (inl (is, (rows, changed, makes, publishes, keeps, not)))) (inl none) = absurd (none.1 rows makes.state)
  passes_one l m (inr (inr (rows, changed, makes, publishes, tells))) (inl none) = absurd (none.1 rows makes.state)
  passes_one l m (inr (inl one)) (inr (inl other)) = one.0 ∙ sym other.0
  passes_one l m (inr (inl (is, (rows, changed, makes, publishes, keeps, not)))) (inr (inr (others, also, makes_too, publishes_too, tells))) =
      absurd (types_apart last.model last.rows rows m keeps
      (same_rows (λ (t : Table). TellsTypes last.model last.rows t (Some m)) rows others changed also makes makes_too tells))
  passes_one l m (inr (inr (others, also, makes_too, publishes_too, tells))) (inr (inl (is, (rows, changed, makes, publishes, keeps, not)))) =
      absurd (types_apart last.model last.rows rows l keeps
      (same_rows (λ (t : Table). TellsTypes last.model last.rows t (Some l)) rows others changed also makes makes_too tells))
  passes_one l m (inr (inr (rows, changed, makes, publishes, tells))) (inr (inr (others, also, makes_too, publishes_too, tells_too))) =
      types_one last.model last.rows rows l m tells (same_rows (λ (t : Table). TellsTypes last.model last.rows t (Some m)) rows others changed also makes makes_too tells_too)

  -- ---- a cycle that succeeds passes no limit

  left_not : (rows : Table) (changed : List ℕ) (published : Bool) (next : Machine) (passed : Limit) → Makes last trees rows changed → Leaves machine last rows changed version tag with_snapshot published next → PassKind passed → ⊥
  left_not rows changed false next passed makes leaves (inl none) = none.1 rows makes.state
  left_not rows changed true next passed makes leaves (inl none) = none.1 rows makes.state
  left_not rows changed false next passed makes (nonzero, none, next_is) (inr (inl (is, (others, also, makes_too, publishes, keeps, not)))) =
      let same = rows_one last trees once rows others changed also makes makes_too in
      let list = changed_one last trees once rows others changed also same makes.types makes_too.types in
      not_both changed (subst (λ (cs : List ℕ). Publishes last cs) (sym list) publishes) nonzero none
  left_not rows changed false next passed makes (nonzero, none, next_is) (inr (inr (others, also, makes_too, publishes, tells))) =
      let same = rows_one last trees once rows others changed also makes makes_too in
      let list = changed_one last trees once rows others changed also same makes.types makes_too.types in
      not_both changed (subst (λ (cs : List ℕ). Publishes last cs) (sym list) publishes) nonzero none
  left_not rows changed true next passed makes (publishes, keeps, (blobs, are, short, next_is)) (inr (inl (is, (others, also, makes_too, publishes_too, keeps_too, not)))) =
      (same_rows (λ (t : Table). (bs : List Put) → AreBlobs last t version tag with_snapshot bs → All IsShort bs → ⊥) rows others changed also makes makes_too not) blobs are short
  left_not rows changed true next passed makes (publishes, keeps, (blobs, are, short, next_is)) (inr (inr (others, also, makes_too, publishes_too, tells))) =
      types_apart last.model last.rows rows passed keeps (same_rows (λ (t : Table). TellsTypes last.model last.rows t (Some passed)) rows others changed also makes makes_too tells)

  succeeds_not : (names : List (List ℕ)) (published : Bool) (next : Machine) (passed : Limit) → Succeeds machine last version tag with_snapshot trees names published next → PassKind passed → ⊥
  succeeds_not names published next passed (rows, changed, makes, named, leaves) kind = left_not rows changed published next passed makes leaves kind

-- ---- a cycle of the records that are asked for

module _ (written : WrittenOnce) (machine : Machine) (last : Published) (asked : AskedCycle) (model : IsModel last.model) (once : HoldsOnce last.rows) where
  abbrev store : Store
  store = machine.store

  abbrev version : ℕ
  version = asked.version

  abbrev tag : ℤ
  tag = asked.tag

  abbrev with_snapshot : Bool
  with_snapshot = asked.snapshot

  abbrev May : Type 0
  May = MayFollow store last.version version tag

  -- the records give trees, and these pass this limit
  abbrev PassedBy : Limit → Type 0
  PassedBy passed = (trees : List (ℕ × PlainTree)) × GivesTrees last asked.add trees × PassKind written machine last version tag with_snapshot trees model once passed

  abbrev pub AfterKind : Refusal → Type 0
  AfterKind refusal =
      MayNotFollow store last.version version tag refusal
      ⊎ (May × (NoTrees last.model asked.add refusal ⊎ ((passed : Limit) × (refusal ≡ refused.TooLarge passed) × PassedBy passed)))

  pub after_kind : (refusal : Refusal) → RefusesAfter store last asked refusal → AfterKind refusal
  after_kind (refused.NoType name) is = inr (is.0, inl (no_trees last.model asked.add (refused.NoType name) is.1))
  after_kind (refused.BadRecord fault) is = inr (is.0, inl (no_trees last.model asked.add (refused.BadRecord fault) is.1))
  after_kind (refused.TooLarge passed) (may, (trees, gives, passes)) = inr (may, inr (passed, refl, (trees, gives, pass_kind written machine last version tag with_snapshot trees model once passed passes)))
  after_kind _ is = inl is

  same_trees : (trees others : List (ℕ × PlainTree)) → GivesTrees last asked.add trees → GivesTrees last asked.add others → trees ≡ others
  same_trees trees others gives also = given_one last (model DuplicateName) asked.add trees others gives also

  passed_one : (l m : Limit) → PassedBy l → PassedBy m → l ≡ m
  passed_one l m (trees, gives, kind) (others, gives_too, also) =
      passes_one written machine last version tag with_snapshot trees model once l m kind
      (subst (λ (ts : List (ℕ × PlainTree)). PassKind written machine last version tag with_snapshot ts model once m) (sym (same_trees trees others gives gives_too)) also)

  pub after_one : (r s : Refusal) → AfterKind r → AfterKind s → r ≡ s
  after_one r s (inl not) (inl also) = one_why store last.version version tag r s (why store last.version version tag r not) (why store last.version version tag s also)
  after_one r s (inl not) (inr may) = absurd (may_apart store last.version version tag r not may.0)
  after_one r s (inr may) (inl not) = absurd (may_apart store last.version version tag s not may.0)
  after_one r s (inr (may, inl none)) (inr (may_too, inl also)) = no_trees_one last.model asked.add r s none also
  after_one r s (inr (may, inl none)) (inr (may_too, inr (passed, is, (trees, gives, kind)))) = absurd (no_trees_apart last asked.add r trees gives none)
  after_one r s (inr (may, inr (passed, is, (trees, gives, kind)))) (inr (may_too, inl none)) = absurd (no_trees_apart last asked.add s trees gives none)
  after_one r s (inr (may, inr (l, is, kind))) (inr (may_too, inr (m, is_too, also))) = is ∙ ap (λ p. refused.TooLarge p) (passed_one l m kind also) ∙ sym is_too

  after_succeeds_one : (names others : List (List ℕ)) (published also : Bool) (next after : Machine) → SucceedsAfter machine last asked names published next
      → SucceedsAfter machine last asked others also after → (names ≡ others) × (published ≡ also) × (next ≡ after)
  after_succeeds_one names others published also next after (may, (trees, gives, one)) (may_too, (ts, gives_too, other)) =
      succeeds_one written machine last version tag with_snapshot trees model once names others published also next after one
      (subst (λ (list : List (ℕ × PlainTree)). Succeeds machine last version tag with_snapshot list others also after) (sym (same_trees trees ts gives gives_too)) other)

  -- ---- a cycle that succeeds is not refused

  pub after_succeeds_not : (names : List (List ℕ)) (published : Bool) (next : Machine) (refusal : Refusal) → SucceedsAfter machine last asked names published next → AfterKind refusal → ⊥
  after_succeeds_not names published next refusal (may, more) (inl not) = may_apart store last.version version tag refusal not may
  after_succeeds_not names published next refusal (may, (trees, gives, one)) (inr (may_too, inl none)) = no_trees_apart last asked.add refusal trees gives none
  after_succeeds_not names published next refusal (may, (trees, gives, one)) (inr (may_too, inr (passed, is, (others, gives_too, kind)))) =
      succeeds_not written machine last version tag with_snapshot trees model once names published next passed one
      (subst (λ (list : List (ℕ × PlainTree)). PassKind written machine last version tag with_snapshot list model once passed) (sym (same_trees trees others gives gives_too)) kind)

-- ---- the order

-- a producer's model is a model, and its rows are a table of it, in which no row stands twice
pub record IsOnce (last : Published) : Type 0 where
  pub model : IsModel last.model
  pub rows : IsTableOf last.model last.rows
  pub once : HoldsOnce last.rows

abbrev RefusalOf : Machine → AskedCycle → Refusal → Type 0
RefusalOf machine asked refusal =
    ((machine.producer ≡ None) × (refusal ≡ refused.NoModel)) ⊎ IsSomeAnd machine.producer (λ last. RefusesAfter machine.store last asked refusal)

refusal_of : (machine : Machine) (asked : AskedCycle) (refusal : Refusal) → CycleRefusal machine asked refusal → RefusalOf machine asked refusal
refusal_of machine asked refused.NoModel is = inl (is, refl)
refusal_of machine asked _ is = inr is

module _ (written : WrittenOnce) (machine : Machine) (asked : AskedCycle) (known : IfSome machine.producer IsOnce) where
  known_of : (last : Published) → machine.producer ≡ Some last → IsOnce last
  known_of last is = subst (λ (producer : Option Published). IfSome producer IsOnce) is known

  same_last : (last other : Published) → machine.producer ≡ Some last → machine.producer ≡ Some other → other ≡ last
  same_last last other is also = let both : Some other ≡ Some last = sym also ∙ is in cc

  refusals_one : (r s : Refusal) → RefusalOf machine asked r → RefusalOf machine asked s → r ≡ s
  refusals_one r s (inl none) (inl also) = none.1 ∙ sym also.1
  refusals_one r s (inl none) (inr some) = let (last, is, refuses) = found_with machine.producer _ some in let no : Some last ≡ None = sym is ∙ none.0 in absurd cc
  refusals_one r s (inr some) (inl none) = let (last, is, refuses) = found_with machine.producer _ some in let no : Some last ≡ None = sym is ∙ none.0 in absurd cc
  refusals_one r s (inr one) (inr other) =
      let (last, is, refuses) = found_with machine.producer _ one in
      let (same, also, refuses_too) = found_with machine.producer _ other in
      let here = subst (λ (l : Published). RefusesAfter machine.store l asked s) (same_last last same is also) refuses_too in
      let facts = known_of last is in
      after_one written machine last asked facts.model facts.once r s (after_kind written machine last asked facts.model facts.once r refuses)
      (after_kind written machine last asked facts.model facts.once s here)

  not_refused : (names : List (List ℕ)) (published : Bool) (next : Machine) (refusal : Refusal) → IsSomeAnd machine.producer (λ last. SucceedsAfter machine last asked names published next)
      → RefusalOf machine asked refusal → ⊥
  not_refused names published next refusal some (inl none) = let (last, is, succeeds) = found_with machine.producer _ some in let no : Some last ≡ None = sym is ∙ none.0 in absurd cc
  not_refused names published next refusal some (inr other) =
      let (last, is, succeeds) = found_with machine.producer _ some in
      let (same, also, refuses) = found_with machine.producer _ other in
      let here = subst (λ (l : Published). RefusesAfter machine.store l asked refusal) (same_last last same is also) refuses in
      let facts = known_of last is in
      after_succeeds_not written machine last asked facts.model facts.once names published next refusal succeeds (after_kind written machine last asked facts.model facts.once refusal here)

  pub one_cycle : (one other : Reply) (next after : Machine) → CycleStep machine asked one next → CycleStep machine asked other after → (one ≡ other) × (next ≡ after)
  one_cycle (reply.Cycle names published v) (reply.Cycle others also w) next after one other =
      let (last, is, succeeds) = found_with machine.producer _ one.1 in
      let (same, is_too, succeeds_too) = found_with machine.producer _ other.1 in
      let here = subst (λ (l : Published). SucceedsAfter machine l asked others also after) (same_last last same is is_too) succeeds_too in
      let facts = known_of last is in
      let all = after_succeeds_one written machine last asked facts.model facts.once names others published also next after succeeds here in
      let versions = one.0 ∙ sym other.0 in
      ((λ i. reply.Cycle (all.0 i) (all.1 i) (versions i)), all.2)
  one_cycle (reply.Cycle names published v) (reply.Refused refusal) next after one other = absurd (not_refused names published next refusal one.1 (refusal_of machine asked refusal other.0))
  one_cycle (reply.Refused refusal) (reply.Cycle names published v) next after one other = absurd (not_refused names published after refusal other.1 (refusal_of machine asked refusal one.0))
  one_cycle (reply.Refused r) (reply.Refused s) next after one other =
      (ap (λ x. reply.Refused x) (refusals_one r s (refusal_of machine asked r one.0) (refusal_of machine asked s other.0)), one.1 ∙ sym other.1)
  one_cycle (reply.Cycle names published v) _ next after one other = absurd other
  one_cycle (reply.Refused r) _ next after one other = absurd other
  one_cycle _ other_answer next after one other = absurd one
