-- The entries of the next state: those of the rows that stay, and those of the rows that come.
use Rattle.std.proofs.Common.{ℕ, inl, inr, List}
use Rattle.schema_model.specs.declared.model.walk_path.WalkPart.{WalkPart}
use Rattle.schema_model.specs.declared.schema.Schema.{Schema}
use Rattle.row_model.specs.Reach.{AreEntries}
use Rattle.row_model.specs.Table.{IsClosed, IsLive, IsTableOf, Table}
use Rattle.key_index.specs.Indexed.{HaveOneRow}
use Rattle.hol_paths.specs.Walked.{AreAdded, Entry, FollowsWalk, IsStepOf, IsTurned}
use Rattle.hol_paths.proofs.KeptReach.{reach_kept}

pub turned_are : (schemas : List Schema) (table : Table) (t : ℕ) (parts : List WalkPart) (entries came turned : List Entry) (removed added : List ℕ)
    → FollowsWalk entries schemas table t parts removed added → AreAdded schemas table t parts added came → IsTurned entries removed came turned → AreEntries schemas table t parts turned
turned_are schemas table t parts entries came turned removed added follows comes turns = record {
  once = turns.once;
  are = λ o v. (
    (λ h. elim ((turns.are o v).0 h) [
      | inl was ↦ follows.kept o v was.0 was.1
      | inr new ↦ (let at = (comes.are o v).0 new in (follows.added_live o at.0, at.1))
    ]),
    (λ h. (turns.are o v).1 (elim (follows.stays o v h.0 h.1) [
      | inl was ↦ inl was
      | inr new ↦ inr ((comes.are o v).1 (new, h.1))
    ])),
  );
}

pub step_followed : (schemas : List Schema) (old new : Table) (t : ℕ) (parts : List WalkPart) (entries : List Entry) (removed added : List ℕ)
    → IsTableOf schemas old → IsTableOf schemas new → IsClosed schemas old → IsClosed schemas new → HaveOneRow old new → IsStepOf old new t removed added → AreEntries schemas old t parts entries
    → FollowsWalk entries schemas new t parts removed added
step_followed schemas old new t parts entries removed added old_fits new_fits old_closed new_closed one moves are = record {
  once = are.once;
  removed_rise = moves.removed_rise;
  added_rise = moves.added_rise;
  added_live = λ o h. (moves.live o).1 (inr h);
  kept = λ o v h stays.
      let was = (are.are o v).0 h in
      let live : IsLive new t o = (moves.live o).1 (inl (was.0, stays)) in
      (live, (reach_kept schemas old new old_fits new_fits old_closed new_closed one t o parts v was.0 live).0 was.1);
  apart = λ o v h comes. moves.added_free o comes ((are.are o v).0 h).0;
  stays = λ o v live reach. elim ((moves.live o).0 live) [
    | inl was ↦ inl ((are.are o v).1 (was.0, (reach_kept schemas old new old_fits new_fits old_closed new_closed one t o parts v was.0 live).1 reach), was.1)
    | inr comes ↦ inr comes
  ];
}
