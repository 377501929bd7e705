-- A cycle in its plain form is an order, and so is a change.
use Rattle.std.proofs.Common.{Bool, Option, ◌≡◌, ◌∙◌, ℕ, List, [], ◌∷◌, Ordering, Less, Equal, Greater, nat_cmp, Some, sym, ap, subst}
use Rattle.std.specs.Prelude.{FitsSigned, IsUtf8}
use Rattle.std.specs.Int.{w64}
use Rattle.std.specs.Cmp.Lexicographic.{slice_cmp}
use Rattle.std.specs.Ordering.{match_ordering}
use Rattle.serde_json.specs.Data.{Data, Items, Members, array, member, no_members, number, object, put}
use Rattle.serde_json.specs.Find.{of_integer}
use Rattle.serde_json.specs.Read.{read}
use Rattle.serde_json.specs.View.{items_of, view}
use Rattle.record_stream.specs.ChangeLine.{change_data}
use Rattle.record_stream.specs.CycleLine.{cycle_data}
use Rattle.record_stream.specs.RecordLine.{Typed, added_by, with_types}
use Rattle.hol_io.specs.Name.{IsVersion}
use Rattle.hol_orders.specs.declared.added.Added.TheVariants.{Line}
use Rattle.hol_orders.specs.declared.order.NextState.{NextState}
use Rattle.hol_orders.specs.declared.order.Order.TheVariants.{Change, Cycle}
use Rattle.hol_orders.specs.declared.order.StateChange.{StateChange}
use Rattle.hol_orders.specs.Order.{Orders}
use Rattle.hol_orders.specs.Parts.{added, whole}
use Rattle.hol_orders.specs.Shapes.{AreArrays, AreKeys, AreRecords}

arrays_at : (o : Ordering) (k l : List ℕ) (items : Items) (d : Data) (ms more : Members) → AreArrays (member l d ms) → AreArrays more
    → AreArrays (match_ordering o (member k (array items) (member l d ms)) (member l (array items) ms) (member l d more))
arrays_at Less k l items d ms more are also = (tt, are)
arrays_at Equal k l items d ms more are also = (tt, are.1)
arrays_at Greater k l items d ms more are also = (are.0, also)

arrays-put : (k : List ℕ) (items : Items) (ms : Members) → AreArrays ms → AreArrays (put k (array items) ms)
arrays-put k items no_members are = (tt, tt)
arrays-put k items (member l d ms) are = arrays_at (slice_cmp nat_cmp k l) k l items d ms (put k (array items) ms) are (arrays-put k items ms are.1)

arrays-with_types : (types : List Typed) (ms : Members) → AreArrays ms → AreArrays (with_types types ms)
arrays-with_types [] ms are = are
arrays-with_types (typed ∷ types) ms are = arrays-with_types types (put typed.0 (array (items_of typed.1)) ms) (arrays-put typed.0 (items_of typed.1) ms are)

pub cycle_orders : (line text kept : List ℕ) (version tag : Data) (types : List Typed) (snapshot : Option Bool) (next : NextState) → text ≡ line → IsUtf8 line → kept ≡ text → read text ≡ Some (cycle_data version tag (added_by text) snapshot)
    → added_by text ≡ object (with_types types no_members) → IsVersion next.version × (whole next.version ≡ version) → FitsSigned w64 next.tag × (number (of_integer next.tag) ≡ tag) → next.add ≡ Line kept → next.snapshot ≡ snapshot
    → Orders line (Cycle next)
cycle_orders line text kept version tag types snapshot next same utf8 stays reads adds is_version is_tag stands said =
    let add : added next.add ≡ added_by text = ap added stands ∙ ap added_by stays in
    let arrays : AreRecords (object (with_types types no_members)) = arrays-with_types types no_members tt in (
      (is_version.0, is_tag.0, subst AreRecords (sym (add ∙ adds)) arrays),
      utf8,
      ap read (sym same) ∙ (reads ∙ (λ i. Some (cycle_data (sym is_version.1 i) (sym is_tag.1 i) (sym add i) (sym said i)))),
    )

pub change_orders : (line text kept : List ℕ) (version tag remove : Data) (types : List Typed) (next : StateChange) → text ≡ line → IsUtf8 line → kept ≡ text → read text ≡ Some (change_data version tag (added_by text) remove)
    → added_by text ≡ object (with_types types no_members) → IsVersion next.version × (whole next.version ≡ version) → FitsSigned w64 next.tag × (number (of_integer next.tag) ≡ tag) → next.put ≡ Line kept
    → AreKeys (view next.remove) × (view next.remove ≡ remove) → Orders line (Change next)
change_orders line text kept version tag remove types next same utf8 stays reads adds is_version is_tag stands removes =
    let put : added next.put ≡ added_by text = ap added stands ∙ ap added_by stays in
    let arrays : AreRecords (object (with_types types no_members)) = arrays-with_types types no_members tt in (
      (is_version.0, is_tag.0, subst AreRecords (sym (put ∙ adds)) arrays, removes.0),
      utf8,
      ap read (sym same) ∙ (reads ∙ (λ i. Some (change_data (sym is_version.1 i) (sym is_tag.1 i) (sym put i) (sym removes.1 i)))),
    )
