-- Values that were read already: what rows that name the same ordinal reach.
use Rattle.std.proofs.Common.{◌≡◌, ◌∙◌, ℕ, ◌+◌, ◌<◌, ◌≤◌, Option, Some, None, refl, sym, ap, subst, inl, inr, arith, List, [], ◌∷◌, ◌++◌, append_assoc, drop, get_or, length, map, take}
use Rattle.std.specs.Prelude.{Result, Ok, Err, Contains, IfSome, OnOk}
use Rattle.std.proofs.lemmas.List.{drop-append-le, drop-map, get_or_append_left, get_or-drop, length-append, length-drop, length-map, length-take-le, map-append, take-append-le, take-map, take_all, take_more}
use Rattle.std.proofs.lemmas.List.Elements.{All-append, All-drop, All-map, All-take}
use Rattle.schema_model.specs.declared.model.walk_path.WalkPart.{WalkPart}
use Rattle.schema_model.specs.declared.schema.Schema.{Schema}
use Rattle.row_model.specs.declared.row.Value.{Value}
use Rattle.row_model.specs.declared.row.Value.TheVariants.{Null}
use Rattle.row_model.specs.Reach.{Reach}
use Rattle.row_model.specs.Table.{Table}
use Rattle.hol_paths.specs.declared.entries.Slot.{Slot}
use Rattle.hol_paths.specs.declared.met.Run.{Run}
use Rattle.hol_paths.specs.Met.{AreMet, IsRowPushed, KeepsMet, NamesOnly, met_at, of_owner, run_of, run_values}
use Rattle.hol_paths.specs.Reached.{AreReached}
use Rattle.hol_paths.specs.Slots.{AreKnown, entries_of, entry_of, no_slot}
use Rattle.hol_paths.specs.Walked.{Entry}
use Rattle.hol_paths.proofs.Coming.{owned, with_owner}
use Rattle.hol_paths.proofs.Walks.{comes_from, goes, steps_on}

-- ---- rows that name the same ordinal

same_reach : (S : List Schema) (T : Table) (t : ℕ) (parts : List WalkPart) (a b n : ℕ) (v : Value) → NamesOnly T t parts a n → NamesOnly T t parts b n → Reach S T t parts a v → Reach S T t parts b v
same_reach S T t [] a b n v here there h = absurd (omega (arith, here.0))
same_reach S T t (part ∷ []) a b n v here there h = absurd (omega (arith, here.0))
same_reach S T t (part ∷ next ∷ rest) a b n v here there h =
    let g = (goes S T t 0 next rest v part a).0 h in
    let on = steps_on S T t g.0 next rest v part a g.3 h in
    comes_from S T t g.0 next rest v part b on.0 g.3 (subst (λ (l : List ℕ). Contains l on.0) (here.1 ∙ sym there.1) on.1) on.2

-- ---- the values of a run

taken_inside : (count : ℕ) (xs ys : List Entry) (start : ℕ) → start + count ≤ length xs → take count (drop start (xs ++ ys)) ≡ take count (drop start xs)
taken_inside count xs ys start within =
    ap (take count) (drop-append-le start xs ys (omega (arith, within))) ∙ take-append-le count (drop start xs) ys (omega (arith, within, length-drop start xs))

dropped_front : (xs ys : List Entry) → drop (length xs) (xs ++ ys) ≡ ys
dropped_front [] ys = refl
dropped_front (x ∷ xs) ys = dropped_front xs ys

values_owned : (owner : ℕ) (values : List Value) → map (λ (e : Entry). e.1) (owned owner values) ≡ values
values_owned owner [] = refl
values_owned owner (v ∷ values) = ap (λ vs. v ∷ vs) (values_owned owner values)

-- those of a run stay where entries come behind
run_stays : (before more after : List Entry) (run : Run) → after ≡ before ++ more → run.start + run.count ≤ length before → run_values after run ≡ run_values before run
run_stays before more after run is within =
    ap (λ (es : List Entry). run_values es run) is ∙ ap (map (λ (e : Entry). e.1)) (taken_inside run.count before more run.start within)

-- and those of the entries of a row that stand behind others are the values of the row
run_read : (before after : List Entry) (owner : ℕ) (values : List Value) (run : Run) → after ≡ before ++ owned owner values → run.start ≡ length before → run.count ≡ length values → run_values after run ≡ values
run_read before after owner values run is at long =
    ap (λ (es : List Entry). run_values es run) is
    ∙ ap (λ (k : ℕ). map (λ (e : Entry). e.1) (take run.count (drop k (before ++ owned owner values)))) at
    ∙ ap (λ (es : List Entry). map (λ (e : Entry). e.1) (take run.count es)) (dropped_front before (owned owner values))
    ∙ ap (map (λ (e : Entry). e.1)) (take_all run.count (owned owner values) (omega (arith, long, length-map values (with_owner owner))))
    ∙ values_owned owner values

-- the entries of the slots of a run, of another row
of_other : (values : List Value) (owner : ℕ) (slots : List Slot) → entries_of values (map (of_owner owner) slots) ≡ owned owner (map (λ (e : Entry). e.1) (entries_of values slots))
of_other values owner [] = refl
of_other values owner (slot ∷ slots) = ap (λ (es : List Entry). (owner, get_or values slot.number Null) ∷ es) (of_other values owner slots)

run_owned : (values : List Value) (owner : ℕ) (run : Run) (slots : List Slot) → entries_of values (run_of owner run slots) ≡ owned owner (run_values (entries_of values slots) run)
run_owned values owner run slots =
    of_other values owner (take run.count (drop run.start slots))
    ∙ ap (λ (es : List Entry). owned owner (map (λ (e : Entry). e.1) es))
    (sym (ap (take run.count) (drop-map (entry_of values) run.start slots) ∙ take-map (entry_of values) run.count (drop run.start slots)))

module _ (S : List Schema) (T : Table) (t : ℕ) (parts : List WalkPart) where
  same_reached : (a b n : ℕ) (values : List Value) → NamesOnly T t parts a n → NamesOnly T t parts b n → AreReached S T t parts a values → AreReached S T t parts b values
  same_reached a b n values here there reached = record {
    once = reached.once;
    are = λ v. (
      (λ h. same_reach S T t parts a b n v here there ((reached.are v).0 h)),
      (λ h. (reached.are v).1 (same_reach S T t parts b a n v there here h)),
    );
  }

  -- ---- what is met

  pub none_are_met : (entries : List Entry) (met : List (Option Run)) → ((named : ℕ) → met_at met named ≡ None) → AreMet S T t parts entries met
  none_are_met entries met none = λ named run is. absurd (apart run (sym (none named) ∙ is))
    where
      apart : (r : Run) → ◌≡◌ {A = Option Run} None (Some r) → ⊥
      apart r e = absurd cc

  met_stay : (before more after : List Entry) (met : List (Option Run)) → after ≡ before ++ more → AreMet S T t parts before met → AreMet S T t parts after met
  met_stay before more after met is are = λ named run at_run.
      let at = are named run at_run in (
        omega (arith, at.0, ap (λ (es : List Entry). length es) is, length-append before more),
        (λ o only. subst (AreReached S T t parts o) (sym (run_stays before more after run is at.0)) (at.1 o only)),
      )

  -- the entries of a row that is met stand behind
  pub met_still : (values : List Value) (before after more : List Slot) (met : List (Option Run)) → after ≡ before ++ more → AreMet S T t parts (entries_of values before) met → AreMet S T t parts (entries_of values after) met
  met_still values before after more met is = met_stay (entries_of values before) (entries_of values more) (entries_of values after) met (ap (entries_of values) is ∙ map-append (entry_of values) before more)

  -- the run of a row that is read is kept
  pub met_behind : (before after : List Entry) (owner : ℕ) (values : List Value) (kept met : List (Option Run)) (named : Option ℕ) (run : Run) → AreMet S T t parts before kept
      → IfSome named (NamesOnly T t parts owner) → AreReached S T t parts owner values → after ≡ before ++ owned owner values → run.start ≡ length before → run.count ≡ length values
      → KeepsMet kept named run met → AreMet S T t parts after met
  met_behind before after owner values kept met named run are only reached is at long keeps = λ place other at_run.
      elim (keeps place other at_run) [
        | inl was ↦ met_stay before (owned owner values) after kept is are place other was
        | inr new ↦ subst (λ (r : Run). (r.start + r.count ≤ length after) × ((o : ℕ) → NamesOnly T t parts o place → AreReached S T t parts o (run_values after r))) new.1 (
          omega (arith, at, long, ap (λ (es : List Entry). length es) is, length-append before (owned owner values), length-map values (with_owner owner)),
          (λ o names.
              subst (AreReached S T t parts o) (sym (run_read before after owner values run is at long))
              (same_reached owner o place values (subst (λ (q : Option ℕ). IfSome q (NamesOnly T t parts owner)) new.0 only) names reached)),
        )
      ]

  -- a row that names an ordinal that was met
  pub met_row : (entries : List Entry) (met read : List (Option Run)) (named : Option ℕ) (owner : ℕ) (run : Run) → AreMet S T t parts entries met → IfSome named (NamesOnly T t parts owner) → read ≡ met
      → ((place : ℕ) × (named ≡ Some place) × (met_at read place ≡ Some run)) → (run.start + run.count ≤ length entries) × AreReached S T t parts owner (run_values entries run)
  met_row entries met read named owner run are only same h =
      let at = are h.0 run (subst (λ (l : List (Option Run)). met_at l h.0 ≡ Some run) same h.2) in
      (at.0, at.1 owner (subst (λ (q : Option ℕ). IfSome q (NamesOnly T t parts owner)) h.1 only))

  pub met_pushed : (values : List Value) (before after : List Slot) (owner : ℕ) (run : Run) → AreReached S T t parts owner (run_values (entries_of values before) run) → after ≡ before ++ run_of owner run before
      → IsRowPushed S T t parts owner (entries_of values before) (entries_of values after)
  met_pushed values before after owner run reached is = record {
    values = run_values (entries_of values before) run;
    reached = reached;
    behind = ap (entries_of values) is ∙ map-append (entry_of values) before (run_of owner run before) ∙ ap (λ (es : List Entry). entries_of values before ++ es) (run_owned values owner run before);
  }

pub met_known : (values : List Value) (before after : List Slot) (owner : ℕ) (run : Run) → AreKnown values before → after ≡ before ++ run_of owner run before → AreKnown values after
met_known values before after owner run known is =
    let P : Slot → Type 0 = λ (s : Slot). s.number < length values in
    subst (AreKnown values) (sym is)
    (All-append P before (run_of owner run before) known
    (All-map P (of_owner owner) (take run.count (drop run.start before)) (All-take P run.count (drop run.start before) (All-drop P run.start before known))))

-- so many values are in a run
pub run_long : (entries : List Entry) (run : Run) → run.start + run.count ≤ length entries → length (run_values entries run) ≡ run.count
run_long entries run within =
    length-map (take run.count (drop run.start entries)) (λ (e : Entry). e.1)
    ∙ length-take-le run.count (drop run.start entries) (omega (arith, within, length-drop run.start entries))

-- a slot more of a run
pub run_more : (owner : ℕ) (run : Run) (first before after : List Slot) (place at : ℕ) (slot : Slot) → run.start + run.count ≤ length first → place < run.count → at ≡ run.start + place
    → before ≡ first ++ map (of_owner owner) (take place (drop run.start first)) → slot ≡ of_owner owner (get_or before at no_slot) → after ≡ before ++ slot ∷ []
    → after ≡ first ++ map (of_owner owner) (take (place + 1) (drop run.start first))
run_more owner run first before after place at slot within below where_at so_far new is =
    let left = drop run.start first in
    let same : get_or before at no_slot ≡ get_or left place no_slot =
    ap (λ (l : List Slot). get_or l at no_slot) so_far
    ∙ get_or_append_left first (map (of_owner owner) (take place left)) no_slot at (omega (arith, within, below, where_at))
    ∙ ap (λ (k : ℕ). get_or first k no_slot) where_at ∙ sym (get_or-drop run.start first place no_slot) in
    is ∙ ap (λ (l : List Slot). l ++ slot ∷ []) so_far ∙ append_assoc first (map (of_owner owner) (take place left)) (slot ∷ [])
    ∙ ap (λ (s : Slot). first ++ (map (of_owner owner) (take place left) ++ s ∷ [])) (new ∙ ap (of_owner owner) same)
    ∙ ap (λ (l : List Slot). first ++ l)
    (sym (ap (map (of_owner owner)) (take_more left place no_slot (omega (arith, below, within, length-drop run.start first))) ∙ map-append (of_owner owner) (take place left) (get_or left place no_slot ∷ [])))

-- how many slots there are, with the entries of a row behind others
pub lengths_behind : (old new : List Value) (before after : List Slot) (owner : ℕ) (values : List Value) → entries_of new after ≡ entries_of old before ++ owned owner values → length after ≡ length before + length values
lengths_behind old new before after owner values is =
    omega (arith, ap (λ (es : List Entry). length es) is, length-append (entries_of old before) (owned owner values), length-map values (with_owner owner), length-map before (entry_of old), length-map after (entry_of new))

pub on_ok : {X E P Q : Type 0} (result : Result X E) → (P → Q) → OnOk result P → OnOk result Q
on_ok (Ok x) then h = then h
on_ok (Err e) then h = tt
