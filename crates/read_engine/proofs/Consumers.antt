-- A consumer by what it keeps: it stands at a position where it has a tag, and nowhere else.
use Rattle.std.proofs.Common.{◌≡◌, ◌≤◌, ◌+◌, ◌⊎◌, ℕ, ℤ, pos, List, [], length, map, Option, Some, None, Result, Ok, Err, IfSome, refl, sym, ap, ◌∙◌, subst}
use Rattle.std.specs.Prelude.{All, IfOk, IsErrAnd, IsSome, IsSomeAnd, slice_get, unwrap_or}
use Rattle.std.specs.FinMap.{get}
use Rattle.std.specs.Option.{option_map}
use Rattle.std.proofs.lemmas.Bool.{false≢true}
use Rattle.std.proofs.lemmas.List.{length-map}
use Rattle.std.proofs.lemmas.Option.{slice_get-map}
use Rattle.schema_model.specs.declared.schema.Schema.{Schema}
use Rattle.row_model.specs.Table.{IsTableOf, Table, row_at}
use Rattle.type_state.specs.State.{Half, State}
use Rattle.type_state.specs.Views.{table_of}
use Rattle.delta_blob.specs.declared.patch.PatchPart.{PatchPart}
use Rattle.key_index.specs.Indexed.{Indexed}
use Rattle.hol_paths.specs.Walked.{Walked}
use Rattle.state_moves.specs.Halves.{current_halves}
use Rattle.blob_frame.specs.declared.fault.BlobFault.{BlobFault}
use Rattle.blob_faults.specs.Judge.{Blames}
use Rattle.state_moves.specs.Judged.{IsFreeMove, state_moved}
use Rattle.state_moves.specs.Moving.{StaysCurrent}
use Rattle.row_model.specs.Before.{PastPart, table_before}
use Rattle.read_engine.specs.Indexes.{CountsStep}
use Rattle.read_engine.specs.Kept.{IsKept, came_all, index_kept, paths_of}
use Rattle.read_engine.specs.Position.{IsOfType, IsPosition, Position, rows_now}
use Rattle.read_engine.specs.Standing.{HasParts, IsStanding, position_of, stands_at}
use Rattle.read_engine.specs.Taken.{BlamesParts, CountsTaken, IsTaken, ReadsSome, TakesParts, TakesWalks, TellsTaken}
use Rattle.read_engine.specs.Walking.{schemas_at, table_at, tag_at}
use Rattle.state_moves.proofs.Tables.{current_at, row_of}
use Rattle.read_engine.proofs.Taken.{counts_step, is_taken, part_counted, stands_after, stands_still}

-- ---- where it stands

no_rows : IsTableOf [] []
no_rows = record { types = refl; rows = λ t o schema row there at. absurd cc; ranges = λ t o schema row there at. absurd cc }

-- what it shows is a table of its types
pub fits_at : (now : Option Position) → IfSome now IsPosition → IsTableOf (schemas_at now) (table_at now)
fits_at None position = no_rows
fits_at (Some at) position = position.rows

-- where it has a state, what holds of each position that it may have holds of that
pub stands_and : (now : Option Position) (P : Position → Type 0) → IsSome now → IfSome now P → IsSomeAnd now P
stands_and None P none holds = absurd (false≢true none)
stands_and (Some position) P some holds = holds

-- where something holds of its position it has one
pub has_some : (now : Option Position) (P : Position → Type 0) → IsSomeAnd now P → IsSome now
has_some None P none = absurd none
has_some (Some position) P holds = refl

-- what it shows is of its position
pub shows_schemas : (now : Option Position) (schemas : List Schema) → IsSome now → schemas ≡ schemas_at now → IsSomeAnd now (λ position. position.schemas ≡ schemas)
shows_schemas None schemas none are = absurd (false≢true none)
shows_schemas (Some position) schemas some are = sym are

pub shows_table : (now : Option Position) (table : Table) → IsSome now → table ≡ table_at now → IsSomeAnd now (λ position. rows_now position ≡ table)
shows_table None table none is = absurd (false≢true none)
shows_table (Some position) table some is = sym is

module _ (tag : Option ℤ) (schemas : List Schema) (states : List State) (past : List PastPart) (kept : List Indexed) (walked : List Walked) (has : HasParts tag schemas states past kept walked) (now : Option Position) (view : stands_at tag schemas states past kept walked ≡ now) where
  -- what holds of each position that it can have
  pub each_position : (P : Position → Type 0) → ((at : ℤ) → IsStanding at schemas states past kept walked → P (position_of at schemas states past kept walked)) → IfSome now P
  each_position P holds = subst (λ (n : Option Position). IfSome n P) view (of_tag tag has)
    where
      of_tag : (t : Option ℤ) → HasParts t schemas states past kept walked → IfSome (stands_at t schemas states past kept walked) P
      of_tag None nothing = tt
      of_tag (Some at) stands = holds at stands

  -- what holds of the one that it has
  pub its_position : (Q P : Position → Type 0) → IsSomeAnd now Q → ((at : ℤ) → IsStanding at schemas states past kept walked → Q (position_of at schemas states past kept walked) → P (position_of at schemas states past kept walked)) → IsSomeAnd now P
  its_position Q P known holds = subst (λ (n : Option Position). IsSomeAnd n P) view (of_tag tag has (subst (λ (n : Option Position). IsSomeAnd n Q) (sym view) known))
    where
      of_tag : (t : Option ℤ) → HasParts t schemas states past kept walked → IsSomeAnd (stands_at t schemas states past kept walked) Q → IsSomeAnd (stands_at t schemas states past kept walked) P
      of_tag None nothing none = absurd none
      of_tag (Some at) stands q = holds at stands q

  -- the same of an answer
  pub ok_position : {T E : Type 0} (answer : Result T E) (Q : Position → Type 0) (P : T → Position → Type 0) → IsSomeAnd now Q
      → ((at : ℤ) → IsStanding at schemas states past kept walked → Q (position_of at schemas states past kept walked) → IfOk answer (λ x. P x (position_of at schemas states past kept walked))) → IfOk answer (λ x. IsSomeAnd now (P x))
  ok_position (Err e) Q P known holds = tt
  ok_position (Ok x) Q P known holds = its_position Q (P x) known holds

  -- what follows of the parts themselves
  pub its_parts : (Q : Position → Type 0) (P : Type 0) → IsSomeAnd now Q → ((at : ℤ) → IsStanding at schemas states past kept walked → Q (position_of at schemas states past kept walked) → P) → P
  its_parts Q P known holds = of_tag tag has (subst (λ (n : Option Position). IsSomeAnd n Q) (sym view) known)
    where
      of_tag : (t : Option ℤ) → HasParts t schemas states past kept walked → IsSomeAnd (stands_at t schemas states past kept walked) Q → P
      of_tag None nothing none = absurd none
      of_tag (Some at) stands q = holds at stands q

  pub tag_is : tag ≡ option_map (λ (p : Position). p.tag) now
  tag_is = subst (λ (n : Option Position). tag ≡ option_map (λ (p : Position). p.tag) n) view (of_tag tag)
    where
      of_tag : (t : Option ℤ) → t ≡ option_map (λ (p : Position). p.tag) (stands_at t schemas states past kept walked)
      of_tag None = refl
      of_tag (Some at) = refl

  pub tag_or_zero : unwrap_or tag (pos 0) ≡ tag_at now
  tag_or_zero = subst (λ (n : Option Position). unwrap_or tag (pos 0) ≡ tag_at n) view (of_tag tag)
    where
      of_tag : (t : Option ℤ) → unwrap_or t (pos 0) ≡ tag_at (stands_at t schemas states past kept walked)
      of_tag None = refl
      of_tag (Some at) = refl

  pub schemas_are : schemas ≡ schemas_at now
  schemas_are = subst (λ (n : Option Position). schemas ≡ schemas_at n) view (of_tag tag has)
    where
      of_tag : (t : Option ℤ) → HasParts t schemas states past kept walked → schemas ≡ schemas_at (stands_at t schemas states past kept walked)
      of_tag None nothing = nothing.no_types
      of_tag (Some at) stands = refl

  pub table_is : table_of (current_halves states) ≡ table_at now
  table_is = subst (λ (n : Option Position). table_of (current_halves states) ≡ table_at n) view (of_tag tag has)
    where
      of_tag : (t : Option ℤ) → HasParts t schemas states past kept walked → table_of (current_halves states) ≡ table_at (stands_at t schemas states past kept walked)
      of_tag None nothing = ap (λ (xs : List State). table_of (current_halves xs)) nothing.no_states
      of_tag (Some at) stands = refl

  pub named_are : map (λ (s : State). s.schema) states ≡ schemas_at now
  named_are = subst (λ (n : Option Position). map (λ (s : State). s.schema) states ≡ schemas_at n) view (of_tag tag has)
    where
      of_tag : (t : Option ℤ) → HasParts t schemas states past kept walked → map (λ (s : State). s.schema) states ≡ schemas_at (stands_at t schemas states past kept walked)
      of_tag None nothing = ap (λ (xs : List State). map (λ (s : State). s.schema) xs) nothing.no_states
      of_tag (Some at) stands = stands.named

  pub is_position : IfSome now IsPosition
  is_position = each_position IsPosition (λ at stands. stands.position)

-- the types have a state each
pub states_length : (at : ℤ) (schemas : List Schema) (states : List State) (past : List PastPart) (kept : List Indexed) (walked : List Walked) → IsStanding at schemas states past kept walked → length states ≡ length schemas
states_length at schemas states past kept walked stands = sym (length-map states (λ (s : State). s.schema)) ∙ ap length stands.named

-- the current row of a type
pub row_is : (states : List State) (t o : ℕ) (state : State) → slice_get states t ≡ Some state → row_at (table_of (current_halves states)) t o ≡ get state.current.rows o
row_is states t o state there = row_of (table_of (current_halves states)) t o state.current.rows (current_at states t state there)

-- what is so of a state is so of its type
pub of_state : (at : ℤ) (schemas : List Schema) (states : List State) (past : List PastPart) (kept : List Indexed) (walked : List Walked) → IsStanding at schemas states past kept walked → (t : ℕ) (state : State) → slice_get states t ≡ Some state → (Is : Schema → Half → Type 0)
    → Is state.schema state.current → IsOfType (position_of at schemas states past kept walked) t Is
of_state at schemas states past kept walked stands t state there Is is = λ schema half schema_there half_there.
    let named : Some schema ≡ Some state.schema =
    sym schema_there ∙ ap (λ (ss : List Schema). slice_get ss t) (sym stands.named) ∙ slice_get-map (λ (s : State). s.schema) states t ∙ ap (option_map (λ (s : State). s.schema)) there
    in
    let held : Some half ≡ Some state.current = sym half_there ∙ slice_get-map (λ (s : State). s.current) states t ∙ ap (option_map (λ (s : State). s.current)) there in
    let same : schema ≡ state.schema = cc in
    let current : half ≡ state.current = cc in
    subst (λ (h : Half). Is schema h) (sym current) (subst (λ (s : Schema). Is s state.current) (sym same) is)

-- ---- a step

-- a consumer that has a state has a tag
has_tag : (tag : Option ℤ) (schemas : List Schema) (states : List State) (past : List PastPart) (kept : List Indexed) (walked : List Walked) (now : Option Position) → stands_at tag schemas states past kept walked ≡ now → IsSome now → tag ≡ None → ⊥
has_tag tag schemas states past kept walked now view some none =
    false≢true (subst (λ (t : Option ℤ). IsSome (stands_at t schemas states past kept walked)) none (subst IsSome (sym view) some))

module _ (held : Option ℤ) (schemas : List Schema) (before : List State) (kept : List PastPart) (indexes : List Indexed) (walks : List Walked) (has : HasParts held schemas before kept indexes walks) (old : Option Position)
    (view : stands_at held schemas before kept indexes walks ≡ old) (some : IsSome old) where
  -- what follows where it has a state
  pub given : (P : Type 0) → ((at : ℤ) → IsStanding at schemas before kept indexes walks → P) → P
  given P gives = of_tag held has refl
    where
      of_tag : (t : Option ℤ) → HasParts t schemas before kept indexes walks → held ≡ t → P
      of_tag None nothing is = absurd (has_tag held schemas before kept indexes walks old view some is)
      of_tag (Some at) stands is = gives at stands

  -- if the current halves stay, it stands where it stood
  pub still_has : (states : List State) → StaysCurrent before states → HasParts held schemas states kept indexes walks
  still_has states stays = of_tag held has refl
    where
      of_tag : (t : Option ℤ) → HasParts t schemas before kept indexes walks → held ≡ t → HasParts t schemas states kept indexes walks
      of_tag None nothing is = absurd (has_tag held schemas before kept indexes walks old view some is)
      of_tag (Some at) stands is = stands_still at schemas before states kept indexes walks stands stays

  pub still_at : (states : List State) → StaysCurrent before states → stands_at held schemas states kept indexes walks ≡ old
  still_at states stays =
      ap (λ (halves : List Half). option_map (λ (at : ℤ). record { tag = at; schemas = schemas; halves = halves; before = table_before (table_of halves) kept; indexes = map index_kept indexes; walks = paths_of walks }) held) stays.halves ∙ view

  module _ (tag : ℤ) (parts : List PatchPart) (after : List State) (past : List PastPart) (moved : List Indexed) (moved_walks : List Walked) (takes : TakesParts schemas parts before after past)
      (same : map index_kept moved ≡ map index_kept indexes) (follow : All (IsKept schemas (table_of (current_halves after))) moved)
      (walked : TakesWalks schemas (table_of (current_halves after)) walks moved_walks) where
    abbrev pub to : Position
    to = position_of tag schemas after past moved moved_walks

    pub has_after : IsStanding tag schemas after past moved moved_walks
    has_after = given (IsStanding tag schemas after past moved moved_walks) (λ other stands. stands_after tag other schemas parts before after kept past indexes moved walks moved_walks stands takes same follow walked)

    pub taken_from : IfSome old (λ from. IsTaken tag parts from to)
    taken_from =
        each_position held schemas before kept indexes walks has old view (λ from. IsTaken tag parts from to)
        (λ other stands. is_taken tag other schemas parts before after kept past indexes moved walks moved_walks stands takes same follow walked (position_of other schemas before kept indexes walks) refl)

    pub step_counted : (was is : ℕ) → was + came_all past indexes moved_walks ≤ is → is ≤ was + came_all past indexes walks → IfSome old (λ from. CountsStep from to was is)
    step_counted was is least most =
        each_position held schemas before kept indexes walks has old view (λ from. CountsStep from to was is)
        (λ other stands. counts_step tag other schemas parts before after kept past indexes moved walks moved_walks stands takes same follow walked was is least most (position_of other schemas before kept indexes walks) refl)

  -- parts that are at fault
  pub not_taken : (size : ℕ) (parts : List PatchPart) (found : BlobFault) → Blames (state_moved schemas parts size (table_of (current_halves before))) IsFreeMove found → IfSome old (BlamesParts size parts found)
  not_taken size parts found blames = each_position held schemas before kept indexes walks has old view (BlamesParts size parts found) (λ other stands. blames)

  -- nothing was counted, or what the step would count
  pub some_counted : (tag : ℤ) (parts : List PatchPart) (was is : ℕ) → (is ≡ was) ⊎ ReadsSome schemas parts before indexes walks was is → IfSome old (λ from. (is ≡ was) ⊎ CountsTaken tag parts from was is)
  some_counted tag parts was is reads =
      each_position held schemas before kept indexes walks has old view (λ from. (is ≡ was) ⊎ CountsTaken tag parts from was is)
      (λ other stands. part_counted tag other schemas parts before kept indexes walks stands was is reads (position_of other schemas before kept indexes walks) refl)

-- what a fault tells of it
pub tells_refusal : (size : ℕ) (tag : ℤ) (parts : List PatchPart) (old now : Option Position) (answer : Result (Unit {0}) BlobFault) (found : BlobFault) → IsErrAnd answer (λ fault. fault ≡ found) → IfSome old (BlamesParts size parts found)
    → IfSome old (λ from. TellsTaken size tag parts from now answer)
tells_refusal size tag parts old now (Ok done) found is blames = absurd is
tells_refusal size tag parts old now (Err fault) found is blames = subst (λ (found : BlobFault). IfSome old (BlamesParts size parts found)) (sym is) blames
