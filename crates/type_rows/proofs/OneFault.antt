-- There is one first fault of the rows of a type, and none where they are taken.
use Rattle.std.proofs.Common.{inl, inr, ◌≡◌, ◌⊎◌, ℕ, [], refl, subst}
use Rattle.std.specs.Prelude.{◌≢◌}
use Rattle.std.specs.FinMap.{keys, values}
use Rattle.schema_model.specs.declared.schema.Shape.{Shape}
use Rattle.schema_model.specs.declared.reason.Reason.{Reason}
use Rattle.schema_model.specs.declared.limit.Limit.{Limit}
use Rattle.row_model.specs.Table.{RowMap}
use Rattle.type_rows.specs.declared.fault.RowFault.{RowFault}
use Rattle.type_rows.specs.Layout.{Layout}
use Rattle.type_rows.specs.Holds.{HoldsRows}
use Rattle.type_rows.specs.Widths.{FirstUnheld}
use Rattle.type_rows.specs.Tests.{Tests, FailsFirst, FailsAt, LeadsHeld, PassBytes, PassWords}
use Rattle.type_rows.proofs.OnceFirst.{unheld_once, unheld_or_held}

-- What the parts of some tests are to one another.
pub record AreApart (tests : Tests) : Type 0 where
  pub ordinal_once : (a b : ℕ) → tests.BadOrdinal a → tests.BadOrdinal b → a ≡ b
  pub ordinal_or_ordered : (a : ℕ) → tests.BadOrdinal a → tests.Ordered → ⊥
  pub place_once : (r s : Reason) (a b : ℕ) → tests.BadPlace r a → tests.BadPlace s b → (r ≡ s) × (a ≡ b)
  pub place_or_rows : (r : Reason) (a : ℕ) (rows : RowMap) → tests.BadPlace r a → tests.Leads rows → ⊥
  pub rows_once : (a b : RowMap) → tests.Leads a → tests.Leads b → a ≡ b
  pub ordered : (rows : RowMap) → tests.Leads rows → tests.Ordered

-- The five ways in which rows may fail first, each with the fault that tells it.
abbrev pub Ordinal : Tests → RowFault → Type 0
Ordinal tests fault = (o : ℕ) × (fault ≡ RowFault.At Reason.BadOrdinals o) × tests.BadOrdinal o

abbrev pub Place : Tests → RowFault → Type 0
Place tests fault = (r : Reason) × (o : ℕ) × (fault ≡ RowFault.At r o) × tests.Ordered × tests.BadPlace r o

abbrev pub Width : Shape → Layout → Tests → RowFault → Type 0
Width shape layout tests fault = (o : ℕ) × (rows : RowMap) × (fault ≡ RowFault.At Reason.BadWidth o) × tests.Leads rows × FirstUnheld shape layout.widths (keys rows) (values rows) o

abbrev pub Words : Shape → ℕ → Layout → Tests → RowFault → Type 0
Words shape own layout tests fault = (rows : RowMap) × (fault ≡ RowFault.Limit Limit.Words) × LeadsHeld shape layout tests rows × PassWords shape own layout rows

abbrev pub Bytes : Shape → ℕ → Layout → Tests → RowFault → Type 0
Bytes shape own layout tests fault = (rows : RowMap) × (fault ≡ RowFault.Limit Limit.Bytes) × LeadsHeld shape layout tests rows × (PassWords shape own layout rows → ⊥)

abbrev pub Stage : Shape → ℕ → Layout → Tests → RowFault → Type 0
Stage shape own layout tests fault = Ordinal tests fault ⊎ Place tests fault ⊎ Width shape layout tests fault ⊎ Words shape own layout tests fault ⊎ Bytes shape own layout tests fault

at_stage : (shape : Shape) (own : ℕ) (layout : Layout) (tests : Tests) (reason : Reason) (o : ℕ) → FailsAt shape layout tests reason o → Stage shape own layout tests (RowFault.At reason o)
at_stage shape own layout tests Reason.BadOrdinals o h = inl (o, refl, h)
at_stage shape own layout tests Reason.BadWidth o h = inr (inr (inl (o, h.0, refl, h.1, h.2)))
at_stage shape own layout tests reason o h = inr (inl (reason, o, refl, h.0, h.1))

stage_of : (shape : Shape) (own : ℕ) (layout : Layout) (tests : Tests) (fault : RowFault) → fault ≢ RowFault.Memory → FailsFirst shape own layout tests fault → Stage shape own layout tests fault
stage_of shape own layout tests (RowFault.At reason o) told h = at_stage shape own layout tests reason o h
stage_of shape own layout tests (RowFault.Limit Limit.Words) told h = inr (inr (inr (inl (h.0, refl, h.1, h.2))))
stage_of shape own layout tests (RowFault.Limit Limit.Bytes) told h = inr (inr (inr (inr (h.0, refl, h.1, h.2))))
stage_of shape own layout tests (RowFault.Limit _) told h = absurd h
stage_of shape own layout tests RowFault.Memory told h = absurd (told refl)

same_at : (a b : RowFault) (r s : Reason) (o p : ℕ) → a ≡ RowFault.At r o → b ≡ RowFault.At s p → r ≡ s → o ≡ p → a ≡ b
same_at a b r s o p e f g h = cc

same_limit : (a b : RowFault) (limit : Limit) → a ≡ RowFault.Limit limit → b ≡ RowFault.Limit limit → a ≡ b
same_limit a b limit e f = cc

module _ (shape : Shape) (own : ℕ) (layout : Layout) (tests : Tests) (apart : AreApart tests) where
  -- Rows that are led to are those that the widths hold, so none is the first that they do not.
  unheld_or_leads : (rows others : RowMap) (o : ℕ) → tests.Leads rows → FirstUnheld shape layout.widths (keys rows) (values rows) o → LeadsHeld shape layout tests others → ⊥
  unheld_or_leads rows others o leads unheld held =
      unheld_or_held shape layout.widths (keys rows) (values rows) o unheld
      (subst (λ same. HoldsRows shape layout.widths [] (values same)) (apart.rows_once others rows held.leads leads) held.held)

  same_widths : (a b : RowFault) → Width shape layout tests a → Width shape layout tests b → a ≡ b
  same_widths a b (o, rows, is, leads, unheld) (p, others, is', leads', unheld') =
      same_at a b Reason.BadWidth Reason.BadWidth o p is is' refl
      (unheld_once shape layout.widths (keys rows) (values rows) o p unheld
      (subst (λ (same : RowMap). FirstUnheld shape layout.widths (keys same) (values same) p) (apart.rows_once others rows leads' leads) unheld'))

  words_or_bytes : (a b : RowFault) → Words shape own layout tests a → Bytes shape own layout tests b → ⊥
  words_or_bytes a b (rows, is, held, pass) (others, is', held', none) =
      none (subst (λ same. PassWords shape own layout same) (apart.rows_once rows others held.leads held'.leads) pass)

  ordinal_or : (a : RowFault) (rows : RowMap) → Ordinal tests a → tests.Leads rows → ⊥
  ordinal_or a rows (o, is, bad) leads = apart.ordinal_or_ordered o bad (apart.ordered rows leads)

  place_or : (a : RowFault) (rows : RowMap) → Place tests a → tests.Leads rows → ⊥
  place_or a rows (r, o, is, ordered, bad) leads = apart.place_or_rows r o rows bad leads

  stages_once : (a b : RowFault) → Stage shape own layout tests a → Stage shape own layout tests b → a ≡ b
  stages_once a b (inl f) (inl g) = same_at a b Reason.BadOrdinals Reason.BadOrdinals f.0 g.0 f.1 g.1 refl (apart.ordinal_once f.0 g.0 f.2 g.2)
  stages_once a b (inl f) (inr (inl g)) = absurd (apart.ordinal_or_ordered f.0 f.2 g.3)
  stages_once a b (inl f) (inr (inr (inl g))) = absurd (ordinal_or a g.1 f g.3)
  stages_once a b (inl f) (inr (inr (inr (inl g)))) = absurd (ordinal_or a g.0 f g.2.leads)
  stages_once a b (inl f) (inr (inr (inr (inr g)))) = absurd (ordinal_or a g.0 f g.2.leads)
  stages_once a b (inr (inl f)) (inl g) = absurd (apart.ordinal_or_ordered g.0 g.2 f.3)
  stages_once a b (inr (inl f)) (inr (inl g)) =
      let same = apart.place_once f.0 g.0 f.1 g.1 f.4 g.4 in same_at a b f.0 g.0 f.1 g.1 f.2 g.2 same.0 same.1
  stages_once a b (inr (inl f)) (inr (inr (inl g))) = absurd (place_or a g.1 f g.3)
  stages_once a b (inr (inl f)) (inr (inr (inr (inl g)))) = absurd (place_or a g.0 f g.2.leads)
  stages_once a b (inr (inl f)) (inr (inr (inr (inr g)))) = absurd (place_or a g.0 f g.2.leads)
  stages_once a b (inr (inr (inl f))) (inl g) = absurd (ordinal_or b f.1 g f.3)
  stages_once a b (inr (inr (inl f))) (inr (inl g)) = absurd (place_or b f.1 g f.3)
  stages_once a b (inr (inr (inl f))) (inr (inr (inl g))) = same_widths a b f g
  stages_once a b (inr (inr (inl f))) (inr (inr (inr (inl g)))) = absurd (unheld_or_leads f.1 g.0 f.0 f.3 f.4 g.2)
  stages_once a b (inr (inr (inl f))) (inr (inr (inr (inr g)))) = absurd (unheld_or_leads f.1 g.0 f.0 f.3 f.4 g.2)
  stages_once a b (inr (inr (inr (inl f)))) (inl g) = absurd (ordinal_or b f.0 g f.2.leads)
  stages_once a b (inr (inr (inr (inl f)))) (inr (inl g)) = absurd (place_or b f.0 g f.2.leads)
  stages_once a b (inr (inr (inr (inl f)))) (inr (inr (inl g))) = absurd (unheld_or_leads g.1 f.0 g.0 g.3 g.4 f.2)
  stages_once a b (inr (inr (inr (inl f)))) (inr (inr (inr (inl g)))) = same_limit a b Limit.Words f.1 g.1
  stages_once a b (inr (inr (inr (inl f)))) (inr (inr (inr (inr g)))) = absurd (words_or_bytes a b f g)
  stages_once a b (inr (inr (inr (inr f)))) (inl g) = absurd (ordinal_or b f.0 g f.2.leads)
  stages_once a b (inr (inr (inr (inr f)))) (inr (inl g)) = absurd (place_or b f.0 g f.2.leads)
  stages_once a b (inr (inr (inr (inr f)))) (inr (inr (inl g))) = absurd (unheld_or_leads g.1 f.0 g.0 g.3 g.4 f.2)
  stages_once a b (inr (inr (inr (inr f)))) (inr (inr (inr (inl g)))) = absurd (words_or_bytes b a g f)
  stages_once a b (inr (inr (inr (inr f)))) (inr (inr (inr (inr g)))) = same_limit a b Limit.Bytes f.1 g.1

  pub fault_once : (a b : RowFault) → a ≢ RowFault.Memory → b ≢ RowFault.Memory → FailsFirst shape own layout tests a → FailsFirst shape own layout tests b → a ≡ b
  fault_once a b told told' f g = stages_once a b (stage_of shape own layout tests a told f) (stage_of shape own layout tests b told' g)

  -- Rows that are led to, held and within the limits have no first fault.
  pub fault_or_rows : (fault : RowFault) (rows : RowMap) → fault ≢ RowFault.Memory → LeadsHeld shape layout tests rows → (PassWords shape own layout rows → ⊥) → (PassBytes rows → ⊥)
      → FailsFirst shape own layout tests fault → ⊥
  fault_or_rows (RowFault.At reason o) rows told held words bytes h = at_or_rows reason o rows held h
    where
      at_or_rows : (reason : Reason) (o : ℕ) (rows : RowMap) → LeadsHeld shape layout tests rows → FailsAt shape layout tests reason o → ⊥
      at_or_rows Reason.BadOrdinals o rows held h = apart.ordinal_or_ordered o h (apart.ordered rows held.leads)
      at_or_rows Reason.BadWidth o rows held h = unheld_or_leads h.0 rows o h.1 h.2 held
      at_or_rows reason o rows held h = apart.place_or_rows reason o rows h.1 held.leads
  fault_or_rows (RowFault.Limit Limit.Words) rows told held words bytes h = words (subst (λ same. PassWords shape own layout same) (apart.rows_once h.0 rows h.1.leads held.leads) h.2)
  fault_or_rows (RowFault.Limit Limit.Bytes) rows told held words bytes h = bytes (subst PassBytes (apart.rows_once h.0 rows h.1.leads held.leads) h.3)
  fault_or_rows (RowFault.Limit _) rows told held words bytes h = absurd h
  fault_or_rows RowFault.Memory rows told held words bytes h = absurd (told refl)
