-- Which rows a patch moves others to.
use Rattle.std.proofs.Common.{◌≡◌, ℕ, zero, suc, ◌+◌, ◌-◌, ◌^◌, ◌<◌, ◌≤◌, inl, inr, List, [], ◌∷◌, length, map, Option, None, Some, refl, ap, sym, ◌∙◌, subst, arith}
use Rattle.std.specs.Prelude.{All, Contains, IsSome, slice_get}
use Rattle.std.specs.Option.{option_map}
use Rattle.std.specs.List.Sorted.{IsStrictlyIncreasing, IsStrictlySortedBy}
use Rattle.std.specs.Ordering.{nat_cmp}
use Rattle.std.specs.FinMap.{find, get, keys}
use Rattle.std.specs.Map.{keys_of, values_of}
use Rattle.std.proofs.lemmas.Bool.{cases_eq, cases_lt}
use Rattle.std.proofs.lemmas.List.Elements.{All-contains}
use Rattle.std.proofs.lemmas.Map.Keys.{sorted_from_strictly_increasing}
use Rattle.std.proofs.lemmas.Option.{slice_get_within, slice_get-map}
use Rattle.ordinal_set.specs.Ordinals.{bound_of}
use Rattle.schema_model.specs.declared.schema.Shape.{Shape}
use Rattle.row_model.specs.declared.row.Row.{Row}
use Rattle.row_model.specs.Table.{RowMap}
use Rattle.type_rows.specs.declared.patch.PatchSection.{PatchSection}
use Rattle.type_rows.specs.Layout.{places_of}
use Rattle.type_rows.specs.Patches.{IsReadablePatch, MovesRows}
use Rattle.type_rows.proofs.Entries.{below_bound}
use Rattle.type_rows.proofs.Removal.{has_or}
use Rattle.type_rows.proofs.Rising.{RiseFrom, none_is_not, from_sorted}
use Rattle.type_rows.specs.MoveFault.{LeadsTo}
use Rattle.type_rows.proofs.MoveFaults.{key_of_live}
use Rattle.type_state.specs.declared.differences.Differences.{Differences}
use Rattle.type_state.specs.Differences.{AreApart, AreBelow, AreSpelled, present, removal, rows_with, added_of, removed_of}
use Rattle.type_state.specs.Moving.{IsDifferent, IsMoved}
use Rattle.type_state.proofs.DifferingRows.{either, get_with}
use Rattle.type_state.proofs.Lookups.{found, skipped}

-- ---- what is found among the added rows

not_below : (low : ℕ) (os : List ℕ) (k o : ℕ) → RiseFrom low os → slice_get os k ≡ Some o → low ≤ o
not_below low [] k o rise at = absurd cc
not_below low (m ∷ os) zero o rise at = let same : m ≡ o = cc in omega (arith, rise.0)
not_below low (m ∷ os) (suc k) o rise at = let above = not_below (m + 1) os k o rise.1 at in omega (arith, rise.0)

-- What is found under the ordinal at a place is what stands at the place.
found_at_place : {X : Type 0} (low : ℕ) (es : List (ℕ × X)) (k o : ℕ) → RiseFrom low (keys_of es) → slice_get (keys_of es) k ≡ Some o → find nat_cmp o es ≡ slice_get (values_of es) k
found_at_place low [] k o rise at = absurd cc
found_at_place low (e ∷ es) zero o rise at = let same : e.0 ≡ o = cc in found o e es (sym same)
found_at_place low (e ∷ es) (suc k) o rise at =
    let above = not_below (e.0 + 1) (keys_of es) k o rise.1 at in
    skipped o e es (λ same. omega (arith, same, above)) ∙ found_at_place (e.0 + 1) es k o rise.1 at

behind : (o m : ℕ) (os : List ℕ) → Contains os o → Contains (m ∷ os) o
behind o m os at = (suc at.0, omega (arith, at.1), at.2)

-- Under another ordinal nothing is found.
pub lacks : {X : Type 0} (o : ℕ) (es : List (ℕ × X)) → (Contains (keys_of es) o → ⊥) → find nat_cmp o es ≡ None
lacks o [] none = refl
lacks o (e ∷ es) none = skipped o e es (λ same. none (0, omega arith, sym same)) ∙ lacks o es (λ at. none (behind o e.0 (keys_of es) at))

-- ---- what a patch makes differ

pub removed_keys : (os : List ℕ) → keys_of (map removal os) ≡ os
removed_keys [] = refl
removed_keys (o ∷ os) = ap (λ rest. o ∷ rest) (removed_keys os)

pub removed_found : (os : List ℕ) (o : ℕ) → Contains os o → find nat_cmp o (map removal os) ≡ Some None
removed_found [] o at = absurd (omega (arith, at.1))
removed_found (r ∷ os) o (zero, inside, is) = found o (removal r) (map removal os) (sym is)
removed_found (r ∷ os) o (suc k, inside, is) = elim (cases_eq o r) [
  | inl same ↦ found o (removal r) (map removal os) same
  | inr other ↦ skipped o (removal r) (map removal os) other ∙ removed_found os o (k, omega arith, is)
]

module _ (shape : Shape) (patch : PatchSection) (old : RowMap) (ds : Differences) (d : IsDifferent shape patch old ds) where
  free : (o : ℕ) → Contains patch.added o → get old o ≡ None
  free o at = All-contains (λ m. get old m ≡ None) patch.added o d.addable.free at

  live : (o : ℕ) → Contains patch.removed o → IsSome (get old o)
  live o at = All-contains (λ m. IsSome (get old m)) patch.removed o d.removable.live at

  not_added : (o : ℕ) → (Contains patch.added o → ⊥) → find nat_cmp o (added_of ds) ≡ None
  not_added o out = lacks o (added_of ds) (λ at. out (subst (λ os. Contains os o) d.added.keys at))

  removed_are : keys_of (removed_of ds) ≡ patch.removed
  removed_are = ap keys_of d.removed ∙ removed_keys patch.removed

  few : places_of patch.max ≤ 2 ^ 22
  few = omega (arith, d.readable.few)

  here : (P : PatchSection → Type 0) → P patch → P ds.patch.now
  here P h = subst P (sym d.lent) h

  not_removed : (o : ℕ) → (Contains patch.removed o → ⊥) → find nat_cmp o (removed_of ds) ≡ None
  not_removed o out = lacks o (removed_of ds) (λ at. out (subst (λ os. Contains os o) removed_are at))

  pub are_apart : AreApart ds
  are_apart = record {
    removed = subst (IsStrictlySortedBy nat_cmp) (sym removed_are) (sorted_from_strictly_increasing patch.removed d.removable.rise);
    added = subst (IsStrictlySortedBy nat_cmp) (sym d.added.keys) (sorted_from_strictly_increasing patch.added d.addable.rise);
    apart = λ o some. elim (has_or patch.added o) [
      | inl at ↦ not_removed o (λ gone. none_is_not (get old o) (free o at) (live o gone))
      | inr out ↦ absurd (none_is_not (find nat_cmp o (added_of ds)) (not_added o out) some)
    ];
    readable = subst (λ s. IsReadablePatch s ds.patch.now) (sym d.of) (here (IsReadablePatch shape) d.readable);
    spelled = subst (λ s. AreSpelled s ds.patch.now) (sym d.of) (here (AreSpelled shape) d.spelled);
    gone_rise = here (λ p. IsStrictlyIncreasing p.removed) d.removable.rise;
    gone_small = here (λ p. All (λ o. o < 2 ^ 32) p.removed) d.small;
    come_rise = here (λ p. IsStrictlyIncreasing p.added) d.addable.rise;
    come_placed = here (λ p. All (λ o. o < places_of p.max) p.added) d.addable.placed;
    come_small = here (λ p. All (λ o. o < 2 ^ 32 - 1) p.added) (λ k e inside. (let low = d.addable.placed k e inside in omega (arith, low, few)));
  }

  rise : RiseFrom 0 (keys_of (added_of ds))
  rise = from_sorted (keys_of (added_of ds)) are_apart.added

  some_row : (rows : List Row) (place : ℕ) (rest : Option Row) → place < length rows → either (option_map present (slice_get rows place)) rest ≡ slice_get rows place
  some_row [] place rest inside = absurd (omega arith)
  some_row (row ∷ rows) zero rest inside = refl
  some_row (row ∷ rows) (suc place) rest inside = some_row rows place rest (omega arith)

  -- The rows with the differences are the old ones, moved by the patch.
  pub are_moves : MovesRows old (rows_with old ds) patch.removed patch.added d.added.rows
  are_moves = record {
    gone = λ o at.
        get_with old ds are_apart o
        ∙ ap (λ f. either f (either (find nat_cmp o (removed_of ds)) (get old o))) (not_added o (λ came. none_is_not (get old o) (free o came) (live o at)))
        ∙ ap (λ f. either f (get old o)) (ap (find nat_cmp o) d.removed ∙ removed_found patch.removed o at);
    came = λ place o at.
        (let inside = slice_get_within patch.added place o at in
        let each = d.added.adds.each in
        get_with old ds are_apart o
        ∙ ap (λ f. either f (either (find nat_cmp o (removed_of ds)) (get old o)))
        (found_at_place 0 (added_of ds) place o rise (ap (λ os. slice_get os place) d.added.keys ∙ at) ∙ ap (λ rs. slice_get rs place) d.added.are ∙ slice_get-map present d.added.rows place)
        ∙ some_row d.added.rows place (either (find nat_cmp o (removed_of ds)) (get old o)) (omega (arith, each, inside)));
    kept = λ o removed added.
        get_with old ds are_apart o
        ∙ ap (λ f. either f (either (find nat_cmp o (removed_of ds)) (get old o))) (not_added o added)
        ∙ ap (λ f. either f (get old o)) (not_removed o removed);
  }

  -- Each new row has a place: the added ones do, and those that stay.
  each_placed : (o : ℕ) → IsSome (get (rows_with old ds) o) → o < places_of patch.max
  each_placed o some = elim (has_or patch.added o) [
    | inl at ↦ All-contains (λ m. m < places_of patch.max) patch.added o d.addable.placed at
    | inr other ↦ elim (has_or patch.removed o) [
      | inl gone ↦ absurd (none_is_not (get (rows_with old ds) o) (are_moves.gone o gone) some)
      | inr stays ↦ elim (cases_lt o (places_of patch.max)) [
        | inl low ↦ low
        | inr high ↦ absurd (d.ordinals.staying o (key_of_live old o (subst IsSome (are_moves.kept o stays other) some), stays, high))
      ]
    ]
  ]

  pub are_moved : IsMoved shape patch old (rows_with old ds)
  are_moved = record {
    added = d.added.rows;
    adds = d.added.adds;
    ordinals = record { removed_rise = d.removable.rise; removed_live = d.removable.live; added_rise = d.addable.rise; added_placed = d.addable.placed; added_free = d.addable.free };
    moves = are_moves;
    placed = each_placed;
  }

  pub leads : LeadsTo shape patch old (rows_with old ds)
  leads = record { ordinals = d.ordinals; rows = d.added.rows; adds = d.added.adds; moves = are_moves }

  pub removed_below : AreBelow (bound_of (keys old)) (removed_of ds)
  removed_below = subst (AreBelow (bound_of (keys old))) (sym d.removed) (each patch.removed (λ o at. below_bound old o (live o at)))
    where
      each : (os : List ℕ) → ((o : ℕ) → Contains os o → o < bound_of (keys old)) → AreBelow (bound_of (keys old)) (map removal os)
      each [] below k e inside = absurd (omega arith)
      each (o ∷ os) below zero e inside = below o (0, omega arith, refl)
      each (o ∷ os) below (suc k) e inside = each os (λ p at. below p (behind p o os at)) k e (omega arith)
