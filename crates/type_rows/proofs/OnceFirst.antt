-- The first of some things that fails is one: of numbers by a test, of places, and of rows that widths do not hold.
use Rattle.std.proofs.Common.{inl, inr, ◌≡◌, ℕ, ◌<◌, List, [], ◌∷◌, ◌++◌, Some, ap, sym, ◌∙◌, subst, arith, take, append_assoc, zero, suc}
use Rattle.std.specs.Prelude.{slice_get}
use Rattle.std.proofs.lemmas.Bool.{cases_order}
use Rattle.std.proofs.lemmas.List.{take-take}
use Rattle.schema_model.specs.declared.schema.Shape.{Shape}
use Rattle.schema_model.specs.declared.reason.Reason.{Reason}
use Rattle.row_model.specs.declared.row.Row.{Row}
use Rattle.type_rows.specs.declared.section.Section.{Section}
use Rattle.type_rows.specs.Holds.{HoldsRow, HoldsRows}
use Rattle.type_rows.specs.First.{FirstFails, NoneFails}
use Rattle.type_rows.specs.Fails.{Fails}
use Rattle.type_rows.specs.Places.{FirstPlaceFails, SpellsSome}
use Rattle.type_rows.specs.Widths.{FirstUnheld}
use Rattle.type_rows.proofs.OneReason.{reason_once, row_or_reason}

pub some_once : {A : Type 0} (a b : A) → Some a ≡ Some b → a ≡ b
some_once a b e = cc

-- Two places of an order, neither of which can stand before the other, are one.
pub neither_first : (a b : ℕ) → (a < b → ⊥) → (b < a → ⊥) → a ≡ b
neither_first a b no_a no_b = elim (cases_order a b) [
  | inl same ↦ same
  | inr (inl below) ↦ absurd (no_a below)
  | inr (inr above) ↦ absurd (no_b above)
]

-- What stands at one index of a list is one.
pub stands_once : {A : Type 0} (items : List A) (i j : ℕ) (a b : A) → i ≡ j → slice_get items i ≡ Some a → slice_get items j ≡ Some b → a ≡ b
stands_once items i j a b same at_i at_j = some_once a b (sym at_i ∙ ap (λ k. slice_get items k) same ∙ at_j)

pub first_once : (Test : ℕ → ℕ → Type 0) (numbers : List ℕ) (a b : ℕ) → FirstFails Test numbers a → FirstFails Test numbers b → a ≡ b
first_once Test numbers a b f g =
    stands_once numbers f.index g.index a b (neither_first f.index g.index (λ below. g.passed f.index a below f.stands f.fails) (λ above. f.passed g.index b above g.stands g.fails)) f.stands g.stands

pub first_or_none : (Test : ℕ → ℕ → Type 0) (numbers : List ℕ) (a : ℕ) → FirstFails Test numbers a → NoneFails Test numbers → ⊥
first_or_none Test numbers a f none = none f.index a f.stands f.fails

pub spelled_or_failed : (shape : Shape) (section : Section) (place : ℕ) (reason : Reason) → SpellsSome shape section place → Fails shape section place reason → ⊥
spelled_or_failed shape section place reason some fails = row_or_reason shape section place some.0 reason some.1 fails

pub place_once : (shape : Shape) (section : Section) (places ordinals : List ℕ) (r s : Reason) (a b : ℕ)
    → FirstPlaceFails shape section places ordinals r a → FirstPlaceFails shape section places ordinals s b → (r ≡ s) × (a ≡ b)
place_once shape section places ordinals r s a b f g =
    let same : f.index ≡ g.index = neither_first f.index g.index
    (λ below. spelled_or_failed shape section f.place r (g.before f.index f.place below f.stands) f.fails)
    (λ above. spelled_or_failed shape section g.place s (f.before g.index g.place above g.stands) g.fails) in
    let place : f.place ≡ g.place = stands_once places f.index g.index f.place g.place same f.stands g.stands in (
      reason_once shape section g.place r s (subst (λ p. Fails shape section p r) place f.fails) g.fails,
      stands_once ordinals f.index g.index a b same f.of g.of,
    )

-- Where rows are held one behind the other, so is each of them.
held_at : (shape : Shape) (widths : List ℕ) (before rows : List Row) (index : ℕ) (row : Row)
    → HoldsRows shape widths before rows → slice_get rows index ≡ Some row → HoldsRow shape widths (before ++ take (suc index) rows) row
held_at shape widths before [] index row h at = absurd cc
held_at shape widths before (first ∷ rest) zero row h at =
    subst (λ last. HoldsRow shape widths (before ++ first ∷ []) last) (some_once first row at) h.0
held_at shape widths before (first ∷ rest) (suc index) row h at =
    subst (λ rows. HoldsRow shape widths rows row) (append_assoc before (first ∷ []) (take (suc index) rest)) (held_at shape widths (before ++ first ∷ []) rest index row h.1 at)

-- What stands at an index stands there in a longer front too.
taken_at : {A : Type 0} (items : List A) (index many : ℕ) (item : A) → index < many → slice_get items index ≡ Some item → slice_get (take many items) index ≡ Some item
taken_at [] index many item below at = absurd cc
taken_at (first ∷ rest) index zero item below at = absurd (omega (arith, below))
taken_at (first ∷ rest) zero (suc many) item below at = at
taken_at (first ∷ rest) (suc index) (suc many) item below at = taken_at rest index many item (omega (arith, below)) at

pub unheld_not_held : (shape : Shape) (widths ordinals : List ℕ) (rows : List Row) (a many : ℕ) (f : FirstUnheld shape widths ordinals rows a)
    → f.index < many → HoldsRows shape widths [] (take many rows) → ⊥
unheld_not_held shape widths ordinals rows a many f below held =
    f.unheld (subst (λ some. HoldsRow shape widths some f.row) (take-take (suc f.index) many rows (omega (arith, below)))
    (held_at shape widths [] (take many rows) f.index f.row held (taken_at rows f.index many f.row below f.stands)))

pub unheld_once : (shape : Shape) (widths ordinals : List ℕ) (rows : List Row) (a b : ℕ) → FirstUnheld shape widths ordinals rows a → FirstUnheld shape widths ordinals rows b → a ≡ b
unheld_once shape widths ordinals rows a b f g =
    stands_once ordinals f.index g.index a b
    (neither_first f.index g.index (λ below. unheld_not_held shape widths ordinals rows a g.index f below g.held) (λ above. unheld_not_held shape widths ordinals rows b f.index g above f.held))
    f.of g.of

-- Rows of which one is not held are not all held.
pub unheld_or_held : (shape : Shape) (widths ordinals : List ℕ) (rows : List Row) (a : ℕ) → FirstUnheld shape widths ordinals rows a → HoldsRows shape widths [] rows → ⊥
unheld_or_held shape widths ordinals rows a f held = f.unheld (held_at shape widths [] rows f.index f.row held f.stands)
