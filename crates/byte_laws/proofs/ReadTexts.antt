-- The names that stand in a blob are texts: so are all names of the schemas of a snapshot.
use Rattle.std.proofs.Common.{ℕ, List, length, Some, None, sym, subst}
use Rattle.std.specs.Prelude.{All}
use Rattle.std.specs.Int.{w16}
use Rattle.std.specs.Str.{IsUtf8}
use Rattle.std.proofs.lemmas.List.Elements.{All-map}
use Rattle.schema_model.specs.declared.schema.FieldKind.TheVariants.{Reference, Int, Long, Boolean, Text, Bytes}
use Rattle.schema_model.specs.declared.schema.Schema.{Schema}
use Rattle.schema_model.specs.declared.schema.Shape.{Shape}
use Rattle.schema_model.specs.declared.schema.Shape.TheVariants as shape
use Rattle.schema_model.specs.Schema.{EachName, EachNameOfField, EachNameOfKind, EachNameOfShape}
use Rattle.blob_grammar.specs.Form.{◌>>=◌, nothing, at_most, both}
use Rattle.blob_grammar.specs.declared.kind.FieldType.{FieldType}
use Rattle.blob_grammar.specs.declared.kind.FieldType.TheVariants as type_
use Rattle.blob_grammar.specs.declared.kind.SchemaKind.{SchemaKind}
use Rattle.blob_grammar.specs.declared.kind.SchemaKind.TheVariants as kind
use Rattle.blob_grammar.proofs.Judges.{judge_text}
use Rattle.blob_frame.specs.declared.header.Header.{Header}
use Rattle.blob_frame.specs.Item.{fixed, name, units, vint}
use Rattle.blob_frame.specs.SchemaForm.{field, field_kind_of, fields, key_paths, schema, shape_of}
use Rattle.blob_sections.specs.declared.head.TypeHead.{TypeHead}
use Rattle.blob_sections.specs.Head.{type_head}
use Rattle.hol_varint.specs.TextUnits.{IsTextOf}
use Rattle.type_state.specs.State.{Half}
use Rattle.snapshot_blob.specs.declared.part.TypePart.{TypePart}
use Rattle.snapshot_blob.specs.Parts.{body, type_part}
use Rattle.snapshot_blob.specs.Snapshot.{IsAccepted}
use Rattle.snapshot_blob.proofs.Whole.{split}
use Rattle.byte_laws.proofs.FormGives.{Gives, both_gives, counted_gives, judged_gives, made_gives, nothing_gives}

-- ---- names

name_text : Gives name IsUtf8
unfolding name
name_text = judged_gives units IsTextOf _ judge_text IsUtf8 (λ us text is. is.utf8)

kind_texts : (of : FieldType) → Gives (field_kind_of of) (EachNameOfKind IsUtf8)
unfolding field_kind_of
kind_texts type_.Reference = made_gives (λ to. Reference to) name IsUtf8 (EachNameOfKind IsUtf8) name_text (λ to text. text)
kind_texts type_.Int = nothing_gives Int (EachNameOfKind IsUtf8) tt
kind_texts type_.Long = nothing_gives Long (EachNameOfKind IsUtf8) tt
kind_texts type_.Boolean = nothing_gives Boolean (EachNameOfKind IsUtf8) tt
kind_texts type_.Text = nothing_gives Text (EachNameOfKind IsUtf8) tt
kind_texts type_.Bytes = nothing_gives Bytes (EachNameOfKind IsUtf8) tt

field_texts : Gives field (EachNameOfField IsUtf8)
unfolding field ◌>>=◌ nothing
field_texts bytes at value next (n, a, named, (of, b, typed, (k, c, kinded, is))) =
    subst (EachNameOfField IsUtf8) (sym is.0) (record { name = name_text bytes at n a named; kind = kind_texts of bytes b k c kinded })

fields_texts : Gives fields (All (EachNameOfField IsUtf8))
unfolding fields
fields_texts = counted_gives (at_most (fixed w16) 1024) field (EachNameOfField IsUtf8) field_texts

paths_texts : Gives key_paths (All IsUtf8)
unfolding key_paths
paths_texts = counted_gives vint name IsUtf8 name_text

abbrev AreTexts : Shape → Type 0
AreTexts = EachNameOfShape IsUtf8

shape_texts : (of : SchemaKind) → Gives (shape_of of) AreTexts
unfolding shape_of
shape_texts kind.Object =
    made_gives (λ all. shape.Object None all) fields (All (EachNameOfField IsUtf8)) AreTexts fields_texts (λ all each. record { paths = tt; parts = each })
shape_texts kind.KeyedObject =
    made_gives (λ p. shape.Object (Some p.0) p.1) (both key_paths fields) (λ p. All IsUtf8 p.0 × All (EachNameOfField IsUtf8) p.1) AreTexts
    (both_gives key_paths fields (All IsUtf8) (All (EachNameOfField IsUtf8)) paths_texts fields_texts) (λ p each. record { paths = each.0; parts = each.1 })
shape_texts kind.Set = made_gives (λ element. shape.Set element) name IsUtf8 AreTexts name_text (λ element text. text)
shape_texts kind.List = made_gives (λ element. shape.List element) name IsUtf8 AreTexts name_text (λ element text. text)
shape_texts kind.Map =
    made_gives (λ p. shape.Map p.0 p.1) (both name name) (λ p. IsUtf8 p.0 × IsUtf8 p.1) AreTexts (both_gives name name IsUtf8 IsUtf8 name_text name_text) (λ p each. each)

schema_texts : Gives schema (EachName IsUtf8)
unfolding schema ◌>>=◌ nothing
schema_texts bytes at value next (of, a, kinded, (n, b, named, (s, c, shaped, is))) =
    subst (EachName IsUtf8) (sym is.0) (record { name = name_text bytes a n b named; shape = shape_texts of bytes b s c shaped })

-- ---- snapshots

abbrev HasTexts : TypePart → Type 0
HasTexts part = EachName IsUtf8 part.schema

head_texts : Gives type_head (λ head. EachName IsUtf8 head.schema)
unfolding type_head ◌>>=◌ nothing
head_texts bytes at value next (offset, a, here, (of, b, spelled, (envelope, c, shards, is))) =
    subst (λ (head : TypeHead). EachName IsUtf8 head.schema) (sym is.0) (schema_texts bytes a of b spelled)

part_texts : Gives type_part HasTexts
unfolding type_part ◌>>=◌ nothing
part_texts bytes at value next (head, a, heads, (section, b, rows, is)) = subst HasTexts (sym is.0) (head_texts bytes at head a heads)

body_texts : Gives body (All HasTexts)
unfolding body ◌>>=◌ nothing
body_texts bytes at value next (parts, a, listed, (done, b, ended, is)) =
    subst (All HasTexts) (sym is.0) (counted_gives (at_most vint 512) type_part HasTexts part_texts bytes at parts a listed)

pub loaded_texts : (blob : List ℕ) (head : Header) (schemas : List Schema) (halves : List Half) → IsAccepted blob head schemas halves → All (EachName IsUtf8) schemas
loaded_texts blob head schemas halves accepted =
    let items = split blob head accepted.0 (length blob) accepted.1.items in
    let parts = body_texts blob items.0 accepted.0 (length blob) items.2 in
    subst (All (EachName IsUtf8)) accepted.1.state.named (All-map (EachName IsUtf8) (λ (part : TypePart). part.schema) accepted.0 parts)
