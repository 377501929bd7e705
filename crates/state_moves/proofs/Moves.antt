-- Moving the types of a state one after another.
use Rattle.std.proofs.Common.{◌≡◌, ◌<◌, ◌+◌, ◌-◌, ◌^◌, inl, inr, ℕ, zero, suc, Bool, true, false, List, [], ◌∷◌, ◌++◌, length, get_or, set, take, map, replicate, Option, Some, None, Result, Ok, Err, IfErr, refl, sym, ap, ◌∙◌, subst, arith}
use Rattle.std.specs.Prelude.{All, IsErrAnd, IsSome, slice_get, unwrap_or}
use Rattle.std.specs.Ordering.{nat_cmp}
use Rattle.std.specs.FinMap.{empty, get, keys}
use Rattle.std.specs.Option.{option_map}
use Rattle.std.proofs.lemmas.Bool.{cases_eq}
use Rattle.std.proofs.lemmas.List.{length-replicate, length-set, take_more}
use Rattle.std.proofs.lemmas.List.Elements.{All-cons, All-nil, All-head, All-tail}
use Rattle.std.proofs.lemmas.Option.{slice_get-map, slice_get_within, slice_get-get_or, get_or_from_slice_get}
use Rattle.ordinal_set.specs.Ordinals.{bound_of}
use Rattle.schema_model.specs.declared.schema.Schema.{Schema}
use Rattle.row_model.specs.BothStates.{rows_in}
use Rattle.row_model.specs.Table.{RowMap, Table}
use Rattle.type_rows.specs.Patches.{IsMovedBy, IsReadablePatch}
use Rattle.type_state.specs.State.{Half, State}
use Rattle.type_state.specs.Views.{table_of}
use Rattle.delta_blob.specs.declared.patch.PatchPart.{PatchPart}
use Rattle.blob_frame.specs.declared.fault.BlobFault.{BlobFault}
use Rattle.blob_faults.specs.Judge.{Blames, ◌>>=◌, each_of, item_at, nothing}
use Rattle.blob_faults.specs.Rows.{moves}
use Rattle.blob_faults.proofs.EachOf.{each_long, fails_next, passes_next}
use Rattle.state_moves.specs.Halves.{current_halves}
use Rattle.state_moves.specs.Judged.{IsFreeMove, part_moves}
use Rattle.row_model.specs.Before.{PastPart, no_part}
use Rattle.state_moves.specs.Moving.{AreMoved, ComesOf, IsReadableIn, MovesState, StaysCurrent, TypeIs, coming_halves, parts_move}
use Rattle.state_moves.proofs.Judging.{coming_none, coming_set, moved_next, moved_none}
use Rattle.type_rows.proofs.Entries.{below_bound}
use Rattle.state_moves.proofs.Tables.{current_at}

-- ---- lists

pub set_same : {A : Type 0} (xs : List A) (i : ℕ) (x : A) → i < length xs → slice_get (set xs i x) i ≡ Some x
set_same [] i x inside = absurd (omega (arith, inside))
set_same (w ∷ xs) zero x inside = refl
set_same (w ∷ xs) (suc i) x inside = set_same xs i x (omega (arith, inside))

pub set_other : {A : Type 0} (xs : List A) (i j : ℕ) (x : A) → (i ≡ j → ⊥) → slice_get (set xs i x) j ≡ slice_get xs j
set_other [] i j x apart = refl
set_other (w ∷ xs) zero zero x apart = absurd (apart refl)
set_other (w ∷ xs) zero (suc j) x apart = refl
set_other (w ∷ xs) (suc i) zero x apart = refl
set_other (w ∷ xs) (suc i) (suc j) x apart = set_other xs i j x (λ same. apart (ap suc same))

pub map_set : {A B : Type 0} (f : A → B) (xs : List A) (i : ℕ) (x d : A) → f x ≡ f (get_or xs i d) → map f (set xs i x) ≡ map f xs
map_set f [] i x d same = refl
map_set f (w ∷ xs) zero x d same = ap (λ y. y ∷ map f xs) same
map_set f (w ∷ xs) (suc i) x d same = ap (λ ys. f w ∷ ys) (map_set f xs i x d same)

taken_later : {A : Type 0} (xs : List A) (n k : ℕ) (x : A) → slice_get (take n xs) k ≡ Some x → slice_get (take (suc n) xs) k ≡ Some x
taken_later [] zero k x is = is
taken_later [] (suc n) k x is = is
taken_later (w ∷ xs) zero zero x is = absurd cc
taken_later (w ∷ xs) zero (suc k) x is = absurd cc
taken_later (w ∷ xs) (suc n) zero x is = is
taken_later (w ∷ xs) (suc n) (suc k) x is = taken_later xs n k x is

pub taken_from : {A : Type 0} (xs : List A) (n k : ℕ) (x : A) → slice_get (take n xs) k ≡ Some x → slice_get (take (n + 1) xs) k ≡ Some x
taken_from xs n k x is = let next : suc n ≡ n + 1 = omega arith in subst (λ (m : ℕ). slice_get (take m xs) k ≡ Some x) next (taken_later xs n k x is)

taken_here : {A : Type 0} (xs : List A) (n : ℕ) (x : A) → slice_get xs n ≡ Some x → slice_get (take (suc n) xs) n ≡ Some x
taken_here [] n x is = absurd cc
taken_here (w ∷ xs) zero x is = is
taken_here (w ∷ xs) (suc n) x is = taken_here xs n x is

pub taken_last : {A : Type 0} (xs : List A) (n : ℕ) (x : A) → slice_get xs n ≡ Some x → slice_get (take (n + 1) xs) n ≡ Some x
taken_last xs n x is = let next : suc n ≡ n + 1 = omega arith in subst (λ (m : ℕ). slice_get (take m xs) n ≡ Some x) next (taken_here xs n x is)

all_push : {A : Type 0} (P : A → Type 0) (xs : List A) (x : A) → All P xs → P x → All P (xs ++ x ∷ [])
all_push P [] x all one = All-cons P x [] one (All-nil P)
all_push P (w ∷ xs) x all one = All-cons P w (xs ++ x ∷ []) (All-head P w xs all) (all_push P xs x (All-tail P w xs all) one)

-- ---- ordinals

pub small_live : (state : State) (bound : ℕ) (ordinals : List ℕ) → bound ≡ bound_of (keys state.current.rows) → bound < 2 ^ 32 → All (λ o. IsSome (get state.current.rows o)) ordinals → All (λ o. o < 2 ^ 32 - 1) ordinals
small_live state bound ordinals is small live k d inside = let below = below_bound state.current.rows (get_or ordinals k d) (live k d inside) in omega (arith, below, is, small)

-- ---- what stays

pub stays_at : (old new : List State) (t : ℕ) (before : State) → StaysCurrent old new → slice_get old t ≡ Some before → (after : State) × (slice_get new t ≡ Some after) × (after.schema ≡ before.schema) × (after.current ≡ before.current)
stays_at old new t before stays is = of_option (slice_get new t) refl
  where
    schemas : option_map (λ (s : State). s.schema) (slice_get new t) ≡ Some before.schema
    schemas = sym (slice_get-map (λ (s : State). s.schema) new t) ∙ ap (λ (xs : List Schema). slice_get xs t) stays.schemas ∙ slice_get-map (λ (s : State). s.schema) old t ∙ ap (option_map (λ (s : State). s.schema)) is

    halves : option_map (λ (s : State). s.current) (slice_get new t) ≡ Some before.current
    halves = sym (slice_get-map (λ (s : State). s.current) new t) ∙ ap (λ (xs : List Half). slice_get xs t) stays.halves ∙ slice_get-map (λ (s : State). s.current) old t ∙ ap (option_map (λ (s : State). s.current)) is

    of_option : (o : Option State) → slice_get new t ≡ o → (after : State) × (slice_get new t ≡ Some after) × (after.schema ≡ before.schema) × (after.current ≡ before.current)
    of_option None e = let none = sym (ap (option_map (λ (s : State). s.schema)) e) ∙ schemas in absurd cc
    of_option (Some after) e =
        let one : Some after.schema ≡ Some before.schema = sym (ap (option_map (λ (s : State). s.schema)) e) ∙ schemas in
        let other : Some after.current ≡ Some before.current = sym (ap (option_map (λ (s : State). s.current)) e) ∙ halves in
        (after, e, cc, cc)

pub stays_set : (old states : List State) (t : ℕ) (s d : State) → StaysCurrent old states → s.schema ≡ (get_or states t d).schema → s.current ≡ (get_or states t d).current → StaysCurrent old (set states t s)
stays_set old states t s d stays schema current = record {
  schemas = map_set (λ (x : State). x.schema) states t s d schema ∙ stays.schemas;
  halves = map_set (λ (x : State). x.current) states t s d current ∙ stays.halves;
}

-- ---- one part

module _ (initial states : List State) (parts : List PatchPart) (i : ℕ) (part : PatchPart) (readable : All (IsReadableIn initial) parts) (inside : i < length parts) (is : part ≡ get_or parts i part) (stays : StaysCurrent initial states) where
  here : IsReadableIn initial part
  here = subst (IsReadableIn initial) (sym is) (readable i part inside)

  type_there : (after : State) × (slice_get states part.type_index ≡ Some after) × (after.schema ≡ here.0.schema) × (after.current ≡ here.0.current)
  type_there = stays_at initial states part.type_index here.0 stays here.1

  pub type_within : part.type_index < length states
  type_within = slice_get_within states part.type_index type_there.0 type_there.1

  pub readable_now : (d : State) → IsReadablePatch (get_or states part.type_index d).schema.shape part.section
  readable_now d =
      let same = get_or_from_slice_get states part.type_index type_there.0 d type_there.1 in
      subst (λ (s : State). IsReadablePatch s.schema.shape part.section) (sym same) (subst (λ (schema : Schema). IsReadablePatch schema.shape part.section) (sym type_there.2) here.2)

  part_at : slice_get parts i ≡ Some part
  part_at = slice_get-get_or parts i part inside ∙ ap Some (sym is)

  -- the schema and the rows of the part's type, as they were
  schema_was : slice_get (map (λ (s : State). s.schema) initial) part.type_index ≡ Some here.0.schema
  schema_was = slice_get-map (λ (s : State). s.schema) initial part.type_index ∙ ap (option_map (λ (s : State). s.schema)) here.1

  rows_were : rows_in (table_of (current_halves initial)) part.type_index ≡ here.0.current.rows
  rows_were = ap (λ (found : Option RowMap). unwrap_or found (empty {R = nat_cmp})) (current_at initial part.type_index here.0 here.1)

  -- both still stand there
  schema_stays : (d : State) → (get_or states part.type_index d).schema ≡ here.0.schema
  schema_stays d = ap (λ (s : State). s.schema) (get_or_from_slice_get states part.type_index type_there.0 d type_there.1) ∙ type_there.2

  rows_stay : (d : State) → (get_or states part.type_index d).current.rows ≡ rows_in (table_of (current_halves initial)) part.type_index
  rows_stay d =
      ap (λ (s : State). s.current.rows) (get_or_from_slice_get states part.type_index type_there.0 d type_there.1) ∙ ap (λ (half : Half). half.rows) type_there.3 ∙ sym rows_were

  -- the part fails as the move of its type does
  part_fails : (d : State) (fault : BlobFault) → (moves part.at (get_or states part.type_index d).schema part.section (get_or states part.type_index d).current.rows).Fails fault
      → (part_moves (map (λ (s : State). s.schema) initial) (table_of (current_halves initial)) part).Fails fault
  unfolding part_moves ◌>>=◌ item_at
  part_fails d fault fails = inr (
    here.0.schema,
    schema_was,
    subst (λ (rows : RowMap). (moves part.at here.0.schema part.section rows).Fails fault) (rows_stay d)
        (subst (λ (schema : Schema). (moves part.at schema part.section (get_or states part.type_index d).current.rows).Fails fault) (schema_stays d) fails),
  )

  -- the part passes with the rows that its type moves to
  part_passes : (d s : State) → s.schema ≡ (get_or states part.type_index d).schema → s.current ≡ (get_or states part.type_index d).current → IsMovedBy s.schema.shape part.section s.current.rows s.other.rows
      → (part_moves (map (λ (s : State). s.schema) initial) (table_of (current_halves initial)) part).Passes s.other.rows
  unfolding part_moves ◌>>=◌ item_at moves
  part_passes d s schema current moved = (
    here.0.schema,
    schema_was,
    subst (λ (rows : RowMap). IsMovedBy here.0.schema.shape part.section rows s.other.rows) (ap (λ (half : Half). half.rows) current ∙ rows_stay d)
        (subst (λ (x : Schema). IsMovedBy x.shape part.section s.current.rows s.other.rows) (schema ∙ schema_stays d) moved),
  )

  -- where the parts before it pass, a fault of the part is that of the parts
  pub part_blamed : (d : State) (fault : BlobFault) (rows : List RowMap) → (parts_move initial (take i parts)).Passes rows
      → Blames (moves part.at (get_or states part.type_index d).schema part.section (get_or states part.type_index d).current.rows) IsFreeMove fault → Blames (parts_move initial parts) IsFreeMove fault
  part_blamed d fault rows passes (inl fails) =
      inl (fails_next (part_moves (map (λ (s : State). s.schema) initial) (table_of (current_halves initial))) parts i rows part fault part_at passes (part_fails d fault fails))
  part_blamed d fault rows passes (inr free) = inr free

  -- with the part the rows come that it leads to
  pub comes_more : (named : List Bool) (d s : State) → length named ≡ length states → s.schema ≡ (get_or states part.type_index d).schema → s.current ≡ (get_or states part.type_index d).current
      → IsMovedBy s.schema.shape part.section s.current.rows s.other.rows → ComesOf (take i parts) initial states named
      → ComesOf (take (i + 1) parts) initial (set states part.type_index s) (set named part.type_index true)
  comes_more named d s long schema current moved before = record {
    rows = before.rows ++ s.other.rows ∷ [];
    passes =
        passes_next (part_moves (map (λ (s : State). s.schema) initial) (table_of (current_halves initial))) parts i before.rows part s.other.rows part_at before.passes
        (part_passes d s schema current moved);
    comes =
        coming_set states named part.type_index s long
        ∙ ap (λ (table : Table). set table part.type_index s.other.rows) before.comes
        ∙ sym
        (moved_next (table_of (current_halves initial)) parts i before.rows part s.other.rows part_at
        (each_long (part_moves (map (λ (s : State). s.schema) initial) (table_of (current_halves initial))) (take i parts) before.rows before.passes));
  }

  -- what is put at the part's type is what stands there
  put_there : {A : Type 0} (xs : List A) (t : ℕ) (x y : A) → length xs ≡ length states → part.type_index ≡ t → slice_get (set xs part.type_index x) t ≡ Some y → x ≡ y
  put_there xs t x y long same there =
      let within : part.type_index < length xs = omega (arith, type_within, long) in
      let one : Some x ≡ Some y = sym (set_same xs part.type_index x within) ∙ ap (slice_get (set xs part.type_index x)) same ∙ there in
      cc

  pub moved_more : (named : List Bool) (past : List PastPart) (s : State) (p : PastPart) → AreMoved (take i parts) states named past → MovesState part.section s p
      → AreMoved (take (i + 1) parts) (set states part.type_index s) (set named part.type_index true) (set past part.type_index p)
  moved_more named past s p moved one = record {
    named_long = length-set named part.type_index true ∙ moved.named_long ∙ sym (length-set states part.type_index s);
    past_long = length-set past part.type_index p ∙ moved.past_long ∙ sym (length-set states part.type_index s);
    types = λ t state is_named kept at flag there. elim (cases_eq part.type_index t) [
      | inl same ↦ this t state is_named kept same at flag there
      | inr apart ↦
          that t state is_named kept apart
          (moved.types t state is_named kept (sym (set_other states part.type_index t s apart) ∙ at) (sym (set_other named part.type_index t true apart) ∙ flag) (sym (set_other past part.type_index t p apart) ∙ there))
    ];
  }
    where
      this : (t : ℕ) (state : State) (is_named : Bool) (kept : PastPart) → part.type_index ≡ t → slice_get (set states part.type_index s) t ≡ Some state → slice_get (set named part.type_index true) t ≡ Some is_named
          → slice_get (set past part.type_index p) t ≡ Some kept → TypeIs (take (i + 1) parts) t state is_named kept
      this t state is_named kept same at flag there =
          let state_is : s ≡ state = put_there states t s state refl same at in
          let kept_is : p ≡ kept = put_there past t p kept moved.past_long same there in
          TypeIs.Named (sym (put_there named t true is_named moved.named_long same flag)) i part (taken_last parts i part part_at) same
          (subst (λ (x : State). MovesState part.section x kept) state_is (subst (λ (x : PastPart). MovesState part.section s x) kept_is one))

      that : (t : ℕ) (state : State) (is_named : Bool) (kept : PastPart) → (part.type_index ≡ t → ⊥) → TypeIs (take i parts) t state is_named kept → TypeIs (take (i + 1) parts) t state is_named kept
      that t state is_named kept apart (TypeIs.Unnamed unnamed none all) =
          let last : get_or parts i part ≡ part = sym is in
          TypeIs.Unnamed unnamed none
          (subst (All (λ named. named.type_index ≡ t → ⊥)) (sym (take_more parts i part inside ∙ ap (λ (x : PatchPart). take i parts ++ x ∷ []) last)) (all_push (λ named. named.type_index ≡ t → ⊥) (take i parts) part all apart))
      that t state is_named kept apart (TypeIs.Named flag place by at same moves) = TypeIs.Named flag place by (taken_from parts i place by at) same moves

-- ---- no part

-- what stands in a list of one value is that value
one_value : {A : Type 0} (n : ℕ) (value found : A) (t : ℕ) → slice_get (replicate n value) t ≡ Some found → found ≡ value
one_value zero value found t at = absurd cc
one_value (suc n) value found zero at = let same : Some value ≡ Some found = at in cc
one_value (suc n) value found (suc t) at = one_value n value found t at

-- before the first part no type is moved
pub moved_none_yet : (states : List State) (parts : List PatchPart) (named : List Bool) (past : List PastPart) → named ≡ replicate (length states) false → past ≡ replicate (length states) no_part
    → AreMoved (take 0 parts) states named past
moved_none_yet states parts named past unnamed none = record {
  named_long = ap length unnamed ∙ length-replicate (length states) false;
  past_long = ap length none ∙ length-replicate (length states) no_part;
  types = λ t state is_named part at flag kept. TypeIs.Unnamed
      (one_value (length states) false is_named t (sym (ap (λ (flags : List Bool). slice_get flags t) unnamed) ∙ flag))
      (one_value (length states) no_part part t (sym (ap (λ (parts : List PastPart). slice_get parts t) none) ∙ kept))
      (All-nil (λ (named : PatchPart). named.type_index ≡ t → ⊥));
}

-- before the first part the current rows come
pub comes_none : (states : List State) (parts : List PatchPart) (named : List Bool) → named ≡ replicate (length states) false → ComesOf (take 0 parts) states states named
unfolding each_of nothing
comes_none states parts named none = record {
  rows = [];
  passes = refl;
  comes = ap (λ (flags : List Bool). table_of (coming_halves states flags)) none ∙ coming_none (length states) states refl ∙ moved_none (table_of (current_halves states)) [];
}

-- ---- faults

-- a fault that is passed on tells the same
pub fault_exit : {T : Type 0} (Tells : BlobFault → Type 0) (result : Result T BlobFault) (fault : BlobFault) → IsErrAnd result (λ found. found ≡ fault) → Tells fault → IfErr result Tells
fault_exit Tells (Ok value) fault is tells = absurd is
fault_exit Tells (Err found) fault is tells = subst Tells (sym is) tells
