-- What a type that breaks a rule tells, and what one that keeps it does.
use Rattle.std.proofs.Common.{◌≡◌, ℕ, ◌<◌, ◌≤◌, ◌∙◌, sym, subst, List, [], Some, length, slice_get, get_or, inl, inr}
use Rattle.std.proofs.lemmas.Bool.{cases_lt}
use Rattle.std.proofs.lemmas.Option.{slice_get-get_or}
use Rattle.schema_model.specs.Model.{BreaksAt, Breaks, IsKept}
use Rattle.schema_model.specs.Parts.{fields_of}
use Rattle.schema_model.specs.declared.model.rule.Rule.{Rule}
use Rattle.schema_model.specs.declared.model.rule.Rule.TheVariants.{TooMany}
use Rattle.schema_model.specs.declared.schema.Schema.{Schema}
use Rattle.schema_model.specs.declared.schema.Shape.TheVariants.{Set}

-- the type at an index has one schema
pub same_schema : (schemas : List Schema) (t : ℕ) (r s : Schema) → slice_get schemas t ≡ Some r → slice_get schemas t ≡ Some s → r ≡ s
same_schema schemas t r s a b = let e : Some r ≡ Some s = sym a ∙ b in cc

-- what a type breaks is a fact of its schema
pub breaks_itself : (schemas : List Schema) (rule : Rule) (t : ℕ) (s : Schema) → slice_get schemas t ≡ Some s → BreaksAt schemas rule t → Breaks schemas rule t s
breaks_itself schemas rule t s at (r, e, breaks) = subst (λ x. Breaks schemas rule t x) (same_schema schemas t r s e at) breaks

-- how many fields a type has where no type has too many
pub few_fields : (schemas : List Schema) (t : ℕ) (s : Schema) → slice_get schemas t ≡ Some s → IsKept schemas TooMany → length (fields_of s) ≤ 1024
few_fields schemas t s at kept = elim (cases_lt 1024 (length (fields_of s))) [ inl more ↦ absurd (kept t (s, at, inr more)) | inr few ↦ few ]

-- a type that breaks nothing is not past the 512th
pub few_types : (schemas : List Schema) (t : ℕ) → t < length schemas → ¬ BreaksAt schemas TooMany t → t < 512
few_types schemas t inside kept =
    elim (cases_lt t 512) [
      | inl few ↦ few
      | inr many ↦ let d : Schema = record { name = []; shape = Set [] } in absurd (kept (get_or schemas t d, slice_get-get_or schemas t d inside, inl many))
    ]
