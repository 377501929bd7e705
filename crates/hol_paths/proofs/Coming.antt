-- The entries of rows that come, row by row; and those of the next state.
use Rattle.std.proofs.Common.{append_assoc, ◌≡◌, ◌↔◌, ℕ, suc, ◌+◌, ◌-◌, ◌<◌, ◌≤◌, ◌∙◌, Option, Some, None, refl, sym, ap, subst, inl, inr, arith, List, [], ◌∷◌, ◌++◌, length, get_or, map, take, drop}
use Rattle.std.specs.Prelude.{All, Contains, option_map, slice_get}
use Rattle.std.proofs.lemmas.Option.{get_or_from_slice_get, slice_get-get_or, slice_get_within}
use Rattle.std.proofs.lemmas.List.{append-nil, get_or_default, get_or-map, get_or-take, take-append-drop, length-append, length-map, length-take-le, map-append, take_all, take_more}
use Rattle.std.proofs.lemmas.List.Elements.{All-push, Contains-append_cases, Contains-append_left, Contains-append_right, Contains-get_or, Contains-push, Contains-push_cases}
use Rattle.key_index.proofs.Lists.{contains_none}
use Rattle.schema_model.specs.Limit.{number_of_limit}
use Rattle.schema_model.specs.declared.limit.Limit.TheVariants.{Entries}
use Rattle.schema_model.specs.declared.model.walk_path.WalkPart.{WalkPart}
use Rattle.schema_model.specs.declared.schema.Schema.{Schema}
use Rattle.row_model.specs.declared.row.Value.{Value}
use Rattle.row_model.specs.declared.row.Value.TheVariants.{Null}
use Rattle.row_model.specs.Reach.{AreEntries, Reach}
use Rattle.row_model.specs.Row.{Rises}
use Rattle.row_model.specs.Table.{Table}
use Rattle.hol_paths.specs.declared.entries.Slot.{Slot}
use Rattle.hol_paths.specs.Distinct.{Stay}
use Rattle.hol_paths.specs.Reached.{AreReached}
use Rattle.hol_paths.specs.Slots.{AreKnown, AreLeaving, ReachMany, entries_of, entry_of, no_slot, owner_at, without_places, without_slots}
use Rattle.hol_paths.specs.Walked.{AreAdded, Entry, FollowsWalk, HasManyEntries, IsTurned}
use Rattle.hol_paths.proofs.Apart.{AreApart, apart_append, no_more}
use Rattle.hol_paths.proofs.Leaving.{from_left, kept_or_left, left_apart, left_length, map_left, never_left}
use Rattle.hol_paths.proofs.Slotted.{known_longer}
use Rattle.hol_paths.proofs.Turning.{turned_are}

-- ---- entries of values that stay

same_entry : (old new : List Value) (slot : Slot) → Stay old new → slot.number < length old → entry_of new slot ≡ entry_of old slot
same_entry old new slot stay known =
    ap (λ v. (slot.owner, v)) (get_or_from_slice_get new slot.number (get_or old slot.number Null) Null (stay slot.number (get_or old slot.number Null) (slice_get-get_or old slot.number Null known)))

pub same_entries : (old new : List Value) (slots : List Slot) → Stay old new → AreKnown old slots → entries_of new slots ≡ entries_of old slots
same_entries old new [] stay known = refl
same_entries old new (slot ∷ slots) stay known =
    let first : entry_of new slot ≡ entry_of old slot = same_entry old new slot stay (known 0 slot (omega arith)) in
    let rest : entries_of new slots ≡ entries_of old slots = same_entries old new slots stay (λ k d within. known (suc k) d (omega (arith, within))) in
    ap (λ e. e ∷ entries_of new slots) first ∙ ap (λ es. entry_of old slot ∷ es) rest

-- an entry more, of a value that stands at a place
pub entry_more : (old new : List Value) (coming more : List Slot) (slot : Slot) (value : Value) → Stay old new → AreKnown old coming → slice_get new slot.number ≡ Some value → more ≡ coming ++ slot ∷ []
    → entries_of new more ≡ entries_of old coming ++ (slot.owner, value) ∷ []
entry_more old new coming more slot value stay known placed is =
    ap (entries_of new) is ∙ map-append (entry_of new) coming (slot ∷ [])
    ∙ ap (λ es. es ++ entry_of new slot ∷ []) (same_entries old new coming stay known)
    ∙ ap (λ v. entries_of old coming ++ (slot.owner, v) ∷ []) (get_or_from_slice_get new slot.number value Null placed)

-- ---- the entries of one row

abbrev pub with_owner : ℕ → Value → Entry
with_owner owner value = (owner, value)

module _ (owner : ℕ) where
  abbrev pub owned : List Value → List Entry
  owned values = map (with_owner owner) values

  pub in_owned : (values : List Value) (value : Value) → Contains values value → Contains (owned values) (owner, value)
  in_owned values value h = (h.0, omega (arith, h.1, length-map values (with_owner owner)), get_or-map (with_owner owner) values h.0 value (owner, value) h.1 ∙ ap (λ v. (owner, v)) h.2)

  pub from_owned : (values : List Value) (o : ℕ) (value : Value) → Contains (owned values) (o, value) → (owner ≡ o) × Contains values value
  from_owned values o value h =
      let within : h.0 < length values = omega (arith, h.1, length-map values (with_owner owner)) in
      let same : (owner, get_or values h.0 value) ≡ (o, value) = sym (get_or-map (with_owner owner) values h.0 value (o, value) within) ∙ h.2 in
      (ap (λ (e : Entry). e.0) same, (h.0, within, ap (λ (e : Entry). e.1) same))

  pub owned_apart : (values : List Value) → AreApart values → AreApart (owned values)
  owned_apart values apart = λ i j d before within same.
      let there : j < length values = omega (arith, within, length-map values (with_owner owner)) in
      apart i j d.1 before there (ap (λ (e : Entry). e.1)
      (sym (get_or-map (with_owner owner) values i d.1 d (omega (arith, before, there))) ∙ same ∙ get_or-map (with_owner owner) values j d.1 d there))

-- the entries of the values so far of a row, and one more
module _ (old new : List Value) (coming more : List Slot) (slot : Slot) (value : Value) (stay : Stay old new) (known : AreKnown old coming) (placed : slice_get new slot.number ≡ Some value)
    (is : more ≡ coming ++ slot ∷ []) where
  pub known_more : AreKnown new more
  known_more = subst (AreKnown new) (sym is) (All-push (λ (s : Slot). s.number < length new) coming slot (known_longer old new coming stay known) (slice_get_within new slot.number value placed))

  pub values_more : (before : List Entry) (yielded : List Value) → entries_of old coming ≡ before ++ owned slot.owner yielded → entries_of new more ≡ before ++ owned slot.owner (yielded ++ value ∷ [])
  values_more before yielded so_far =
      entry_more old new coming more slot value stay known placed is
      ∙ ap (λ (es : List Entry). es ++ (slot.owner, value) ∷ []) so_far
      ∙ append_assoc before (owned slot.owner yielded) ((slot.owner, value) ∷ [])
      ∙ ap (λ (es : List Entry). before ++ es) (sym (map-append (with_owner slot.owner) yielded (value ∷ [])))

pub yielded_all : (done left all : List Value) → done ++ left ≡ all → length left ≡ 0 → done ≡ all
yielded_all done [] all are none = sym (append-nil done) ∙ are
yielded_all done (x ∷ left) all are none = absurd (omega (arith, none))

pub one_yielded : (done rest left all : List Value) (x : Value) → left ≡ x ∷ rest → done ++ left ≡ all → (done ++ x ∷ []) ++ rest ≡ all
one_yielded done rest left all x steps are = append_assoc done (x ∷ []) rest ∙ (ap (λ (ls : List Value). done ++ ls) (sym steps) ∙ are)

-- the entries of slots that stay, where they are read by one list of values after another
pub entries_stay : (first old new : List Value) (slots now : List Slot) → now ≡ slots → entries_of new now ≡ entries_of old now → entries_of old slots ≡ entries_of first slots → entries_of new slots ≡ entries_of first slots
entries_stay first old new slots now is step before = ap (entries_of new) (sym is) ∙ step ∙ ap (entries_of old) is ∙ before

-- the entries of a row more are not too many
pub few_more : (old new : List Value) (coming more : List Slot) (values : List Value) (owner most : ℕ) → entries_of new more ≡ entries_of old coming ++ owned owner values
    → length values ≤ most - length coming → length coming ≤ most → length more ≤ most
few_more old new coming more values owner most is room few =
    omega (arith, room, few, ap length is, length-append (entries_of old coming) (owned owner values), length-map values (with_owner owner), length-map coming (entry_of old), length-map more (entry_of new))

-- what more values would make too many
pub many_more : (values : List Value) (coming : List Slot) (more most : ℕ) → most - length coming < more → length coming ≤ most → most < length (entries_of values coming) + more
many_more values coming more most past few = omega (arith, past, few, length-map coming (entry_of values))

-- ---- the entries of rows

module _ (schemas : List Schema) (table : Table) (t : ℕ) (parts : List WalkPart) (added : List ℕ) where
  pub none_added : (entries : List Entry) → entries ≡ [] → AreAdded schemas table t parts (take 0 added) entries
  none_added entries none = subst (AreAdded schemas table t parts (take 0 added)) (sym none) record {
    once = λ i j d before within. absurd (omega (arith, within));
    are = λ o v. ((λ h. absurd (contains_none (o, v) h)), (λ h. absurd (contains_none o h.0)));
  }

  not_before : (k : ℕ) → Rises added → k < length added → (o : ℕ) → Contains (take k added) o → get_or added k 0 ≡ o → ⊥
  not_before k rises below o h same =
      let within : h.0 < k = omega (arith, h.1, length-take-le k added (omega (arith, below))) in
      let lower = rises h.0 k o within below in
      let here : get_or added h.0 o ≡ o = sym (get_or-take k added h.0 o within) ∙ h.2 in
      omega (arith, lower, here, same, get_or_default added k 0 o below)

  module _ (k : ℕ) (rises : Rises added) (below : k < length added) (entries : List Entry) (values : List Value)
      (so_far : AreAdded schemas table t parts (take k added) entries) (reached : AreReached schemas table t parts (get_or added k 0) values) where
    abbrev row : ℕ
    row = get_or added k 0

    taken : take (k + 1) added ≡ take k added ++ row ∷ []
    taken = take_more added k 0 below

    pub added_more : AreAdded schemas table t parts (take (k + 1) added) (entries ++ owned row values)
    added_more = record {
      once = apart_append entries (owned row values) so_far.once (owned_apart row values reached.once)
          (λ e here there.
          not_before k rises below e.0 ((so_far.are e.0 e.1).0 here).0 (from_owned row values e.0 e.1 there).0);
      are = λ o v. (
        (λ h. elim (Contains-append_cases entries (owned row values) (o, v) h) [
          | inl was ↦ (let at = (so_far.are o v).0 was in (subst (λ l. Contains l o) (sym taken) (Contains-append_left (take k added) (row ∷ []) o at.0), at.1))
          | inr new ↦ (let at = from_owned row values o v new in (
            subst (λ l. Contains l o) (sym taken) (subst (Contains (take k added ++ row ∷ [])) at.0 (Contains-push (take k added) row)),
            subst (λ q. Reach schemas table t parts q v) at.0 ((reached.are v).0 at.1),
          ))
        ]),
        (λ h. elim (Contains-push_cases (take k added) row o (subst (λ l. Contains l o) taken h.0)) [
          | inl was ↦ Contains-append_left entries (owned row values) (o, v) ((so_far.are o v).1 (was, h.1))
          | inr e ↦ Contains-append_right entries (owned row values) (o, v)
              (subst (λ q. Contains (owned row values) (q, v)) e (in_owned row values v ((reached.are v).1 (subst (λ q. Reach schemas table t parts q v) (sym e) h.1))))
        ]),
      );
    }

    pub added_many : (most : ℕ) → most < length entries + length values → ReachMany schemas table t parts added most
    added_many most past = (
      entries ++ owned row values,
      added_more.once,
      (λ o v h. (let at = (added_more.are o v).0 h in (from_taken (k + 1) o at.0, at.1))),
      omega (arith, past, length-append entries (owned row values), length-map values (with_owner row)),
    )
      where
        from_taken : (n o : ℕ) → Contains (take n added) o → Contains added o
        from_taken n o h = subst (λ l. Contains l o) (take-append-drop n added) (Contains-append_left (take n added) (drop n added) o h)

  pub all_added : (k : ℕ) (entries : List Entry) → length added ≤ k → AreAdded schemas table t parts (take k added) entries → AreAdded schemas table t parts added entries
  all_added k entries past are = subst (λ l. AreAdded schemas table t parts l entries) (take_all k added past) are

-- ---- the entries of the next state

module _ (slots : List Slot) (removed leaving : List ℕ) (leaves : AreLeaving slots removed leaving) where
  pub places_there : All (λ p. p < length slots) leaving
  places_there = λ k d within.
      let at = (leaves.are (get_or leaving k d)).0 (Contains-get_or leaving k d within) in
      inside (slice_get slots (get_or leaving k d)) at.0 (get_or leaving k d) refl at.2
    where
      inside : (slot : Option Slot) (owner p : ℕ) → slice_get slots p ≡ slot → option_map (λ (s : Slot). s.owner) slot ≡ Some owner → p < length slots
      inside None owner p read is = absurd cc
      inside (Some slot) owner p read is = slice_get_within slots p slot read

module _ (values : List Value) (slots : List Slot) (removed leaving : List ℕ) (leaves : AreLeaving slots removed leaving) where
  all_there : All (λ p. p < length slots) leaving
  all_there = places_there slots removed leaving leaves

  abbrev entries : List Entry
  entries = entries_of values slots

  abbrev none : Entry
  none = entry_of values no_slot

  abbrev pub kept : List Entry
  kept = without_places none leaving entries

  there : Rises leaving × All (λ p. p < length entries) leaving
  there = (leaves.rises, λ k d within. omega (arith, all_there k d within, length-map slots (entry_of values)))

  pub left_entries : entries_of values (without_slots leaving slots) ≡ kept
  left_entries = map_left (entry_of values) no_slot slots leaving leaves.rises all_there

  -- the row of an entry is that of its slot
  owner_is : (p o : ℕ) → p < length slots → (get_or entries p none).0 ≡ o → owner_at slots p ≡ Some o
  owner_is p o within is =
      ap (option_map (λ (s : Slot). s.owner)) (slice_get-get_or slots p no_slot within)
      ∙ ap Some (sym (ap (λ (e : Entry). e.0) (get_or-map (entry_of values) slots p no_slot none within)) ∙ is)

  owner_was : (p o : ℕ) → p < length slots → owner_at slots p ≡ Some o → (get_or entries p none).0 ≡ o
  owner_was p o within is =
      let same : Some (get_or entries p none).0 ≡ Some o = sym (owner_is p (get_or entries p none).0 within refl) ∙ is in
      cc

  pub stays_in : AreApart entries → (o : ℕ) (v : Value) → Contains kept (o, v) ↔ (Contains entries (o, v) × ¬ Contains removed o)
  stays_in apart o v = (
    (λ h. (
      from_left none entries leaving there (o, v) h,
      (λ gone.
          let at = from_left none entries leaving there (o, v) h in
          let within : at.0 < length slots = omega (arith, at.1, length-map slots (entry_of values)) in
          let is : get_or entries at.0 none ≡ (o, v) = get_or_default entries at.0 none (o, v) at.1 ∙ at.2 in
          never_left none entries leaving there apart (o, v) h at.0
          ((leaves.are at.0).1 (o, gone, owner_is at.0 o within (ap (λ (e : Entry). e.0) is))) is),
    )),
    (λ h. elim (kept_or_left none entries leaving there (o, v) h.0) [
      | inl stays ↦ stays
      | inr gone ↦ (let who = (leaves.are gone.0).0 gone.1 in
          let within : gone.0 < length slots = from_contains gone.0 gone.1 in
          let same : who.0 ≡ o = sym (owner_was gone.0 who.0 within who.2) ∙ ap (λ (e : Entry). e.0) gone.2 in
          absurd (h.1 (subst (Contains removed) same who.1)))
    ]),
  )
    where
      from_contains : (p : ℕ) → Contains leaving p → p < length slots
      from_contains p h = subst (λ n. n < length slots) h.2 (all_there h.0 p h.1)

  module _ (schemas : List Schema) (table : Table) (t : ℕ) (parts : List WalkPart) (added : List ℕ) (follows : FollowsWalk entries schemas table t parts removed added) where
    kept_apart : AreApart kept
    kept_apart = left_apart none entries leaving there follows.once

    -- nothing comes that was there
    new : (came : List Entry) → ((o : ℕ) (v : Value) → Contains came (o, v) → Contains added o) → (e : Entry) → Contains kept e → Contains came e → ⊥
    new came among e was comes = follows.apart e.0 e.1 (from_left none entries leaving there e was) (among e.0 e.1 comes)

    turns : (came : List Entry) → AreAdded schemas table t parts added came → IsTurned entries removed came (kept ++ came)
    turns came comes = record {
      once = apart_append kept came kept_apart comes.once (new came (λ o v h. ((comes.are o v).0 h).0));
      are = λ o v. (
        (λ h. elim (Contains-append_cases kept came (o, v) h) [
          | inl stays ↦ inl ((stays_in follows.once o v).0 stays)
          | inr comes_in ↦ inr comes_in
        ]),
        (λ h. elim h [
          | inl stays ↦ Contains-append_left kept came (o, v) ((stays_in follows.once o v).1 stays)
          | inr comes_in ↦ Contains-append_right kept came (o, v) comes_in
        ]),
      );
    }

    pub next_entries : (coming : List Slot) → AreAdded schemas table t parts added (entries_of values coming) → AreEntries schemas table t parts (entries_of values (without_slots leaving slots ++ coming))
    next_entries coming comes =
        subst (AreEntries schemas table t parts) (sym (map-append (entry_of values) (without_slots leaving slots) coming ∙ ap (λ es. es ++ entries_of values coming) left_entries))
        (turned_are schemas table t parts entries (entries_of values coming) (kept ++ entries_of values coming) removed added follows comes (turns (entries_of values coming) comes))

    pub kept_length : length kept + length leaving ≡ length slots
    kept_length = omega (arith, left_length none entries leaving there, length-map slots (entry_of values))

    -- there are too many, where those that come are more than there is room for
    pub many_entries : (most : ℕ) → number_of_limit Entries + length leaving ≤ most + length slots → ReachMany schemas table t parts added most → HasManyEntries schemas table t parts
    many_entries most room many = (
      kept ++ many.0,
      apart_append kept many.0 kept_apart many.1 (new many.0 (λ o v h. (many.2 o v h).0)),
      (λ o v h. elim (Contains-append_cases kept many.0 (o, v) h) [
        | inl stays ↦ (let at = (stays_in follows.once o v).0 stays in follows.kept o v at.0 at.1)
        | inr comes ↦ (let at = many.2 o v comes in (follows.added_live o at.0, at.1))
      ]),
      omega (arith, room, kept_length, many.3, length-append kept many.0),
    )

    -- and there are not too many, where they are not
    pub few_entries : (coming : List Slot) → AreAdded schemas table t parts added (entries_of values coming) → length slots + length coming ≤ number_of_limit Entries + length leaving
        → HasManyEntries schemas table t parts → ⊥
    few_entries coming comes few many =
        let next = next_entries coming comes in
        let turned = entries_of values (without_slots leaving slots ++ coming) in
        let long : length turned ≡ length kept + length coming = length-map (without_slots leaving slots ++ coming) (entry_of values) ∙ length-append (without_slots leaving slots) coming
        ∙ ap (λ n. n + length coming) (sym (length-map (without_slots leaving slots) (entry_of values)) ∙ ap length left_entries) in
        omega (arith, no_more many.0 turned many.1 (λ e h. (next.are e.0 e.1).1 (many.2 e.0 e.1 h)), long, kept_length, few, many.3)
