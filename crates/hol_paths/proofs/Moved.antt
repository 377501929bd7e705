-- What holds of entries in another order.
use Rattle.std.proofs.Common.{◌↔◌, ℕ, ◌∙◌, subst, inl, inr, arith, List, ◌∷◌, ◌++◌, get_or}
use Rattle.std.specs.Prelude.{Contains}
use Rattle.std.specs.List.{remove}
use Rattle.std.specs.List.Sorted.{IsPermutation}
use Rattle.std.proofs.lemmas.List.{get_or_default}
use Rattle.std.proofs.lemmas.List.Edits.{get_or-remove_below, length-remove}
use Rattle.std.proofs.lemmas.List.Sorted.{Contains-permutation, IsPermutation-append_right, IsPermutation-map, IsPermutation-remove, IsPermutation-sym, length_permutation}
use Rattle.key_index.proofs.Lists.{contains_either}
use Rattle.schema_model.specs.declared.model.walk_path.WalkPart.{WalkPart}
use Rattle.schema_model.specs.declared.schema.Schema.{Schema}
use Rattle.row_model.specs.declared.row.Value.{Value}
use Rattle.row_model.specs.Table.{Table}
use Rattle.hol_paths.specs.declared.entries.Slot.{Slot}
use Rattle.hol_paths.specs.Slots.{entries_of, entry_of}
use Rattle.hol_paths.specs.Walked.{AreAdded, CountsOwners, Entry}
use Rattle.hol_paths.proofs.Apart.{AreApart, no_more}

module _ {X : Type 0} (xs ys : List X) (moved : IsPermutation xs ys) where
  -- Where one list is the other in another order, nothing stands twice in one if nothing does in the other: without the second place of an element the list
  -- would hold as much, and be shorter.
  pub apart_moved : AreApart xs → AreApart ys
  apart_moved apart = λ i j d before within same.
      let x = get_or ys j d in
      let rest = remove ys j in
      let out = IsPermutation-remove ys j x within (get_or_default ys j d x within) in
      let long = length-remove ys j within in
      let still : Contains rest x =
      (i, omega (arith, before, within, long), get_or-remove_below ys j x i before within ∙ get_or_default ys i x d (omega (arith, before, within)) ∙ same) in
      let fewer = no_more xs rest apart (λ y h. elim (contains_either x y rest (Contains-permutation ys (x ∷ rest) y out (Contains-permutation xs ys y moved h))) [
        | inl e ↦ subst (Contains rest) e still
        | inr later ↦ later
      ]) in
      omega (arith, fewer, long, length_permutation xs ys moved, within)

  pub contains_moved : (x : X) → Contains xs x ↔ Contains ys x
  contains_moved x = (Contains-permutation xs ys x moved, Contains-permutation ys xs x (IsPermutation-sym xs ys moved))

-- the entries that come
module _ (schemas : List Schema) (table : Table) (t : ℕ) (parts : List WalkPart) (added : List ℕ) where
  pub added_moved : (before after : List Entry) → IsPermutation before after → AreAdded schemas table t parts added before → AreAdded schemas table t parts added after
  added_moved before after moved are = record {
    once = apart_moved before after moved are.once;
    are = λ o v. (
      (λ h. (are.are o v).0 ((contains_moved before after moved (o, v)).1 h)),
      (λ h. (contains_moved before after moved (o, v)).0 ((are.are o v).1 h)),
    );
  }

-- how many rows have an entry
pub counts_moved : (before after : List Entry) → IsPermutation before after → (count : ℕ) → CountsOwners before count → CountsOwners after count
counts_moved before after moved count counts = (
  counts.0,
  counts.1,
  (λ o. (
    (λ h. (let has = (counts.2 o).0 h in (has.0, (contains_moved before after moved (o, has.0)).0 has.1))),
    (λ has. (counts.2 o).1 (has.0, (contains_moved before after moved (o, has.0)).1 has.1)),
  )),
  counts.3,
)

-- the entries of slots behind others
pub entries_moved : (values : List Value) (kept before after : List Slot) → IsPermutation before after → IsPermutation (entries_of values (kept ++ before)) (entries_of values (kept ++ after))
entries_moved values kept before after moved = IsPermutation-map (entry_of values) (kept ++ before) (kept ++ after) (IsPermutation-append_right kept before after moved)
