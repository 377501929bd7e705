-- A film is added by puts of its rows: of its title, of its tags, and then of its own.
use Rattle.std.proofs.Common.{◌≡◌, ℕ, zero, suc, ◌*◌, ◌%◌, ◌<◌, ◌≤◌, ◌^◌, List, [], ◌∷◌, ◌++◌, Some, refl, sym, ap, subst, ◌∙◌, arith}
use Rattle.std.specs.Prelude.{codes, decimal, pos}
use Rattle.std.proofs.lemmas.Int.{fits_signed_from_abs}
use mir.Syntax.{w32}
use Rattle.std.specs.Str.{IsAscii}
use Rattle.std.proofs.lemmas.Fmt.{IsAscii-decimal}
use Rattle.std.proofs.lemmas.Str.{IsUtf8-append, IsUtf8-from_ascii}
use Rattle.std.proofs.lemmas.Str.Ascii.{IsAscii-nil}
use Rattle.hol_varint.specs.TextUnits.{AreUnits, text_units}
use Rattle.hol_varint.proofs.Characters.{text_units-are}
use Rattle.schema_model.specs.declared.schema.Field.{Field}
use Rattle.schema_model.specs.declared.schema.FieldKind.TheVariants as kind
use Rattle.row_model.specs.PlainTree.{no_trees, tree_then}
use Rattle.row_model.specs.Row.{IsValueInRange}
use Rattle.row_model.specs.Table.{Table}
use Rattle.row_model.specs.declared.row.Row.{Row}
use Rattle.row_model.specs.declared.row.Value.{Value}
use Rattle.record_trees.specs.Types.{referred}
use Rattle.write_engine.specs.Cycle.{Adds, AddsAll, IsSetOf, PutsRow}
use Rattle.film_script.specs.Films.{field_of, film, film_schemas, film_tags, film_type, film_year, numbered}
use Rattle.film_rows.specs.Rows.{film_row, tags_type, text_row, text_type}

-- ---- the units of a letter and a number

ascii_letter : (letter : ℕ) → letter < 128 → IsAscii (letter ∷ [])
ascii_letter letter low zero = low
ascii_letter letter low (suc i) = IsAscii-nil i

numbered_units : (letter : ℕ) (number : ℕ) → letter < 128 → number < 2 ^ 64 → AreUnits (text_units ((letter ∷ []) ++ decimal number))
numbered_units letter number low small =
    text_units-are ((letter ∷ []) ++ decimal number)
    (IsUtf8-append (letter ∷ []) (decimal number) (IsUtf8-from_ascii (letter ∷ []) (ascii_letter letter low)) (IsUtf8-from_ascii (decimal number) (IsAscii-decimal number small)))

pub title_units : (number : ℕ) → number < 2 ^ 64 → AreUnits (text_units (codes "t" ++ decimal number))
title_units number small = numbered_units 116 number (omega arith) small

pub tag_units : (number : ℕ) → number < 2 ^ 64 → AreUnits (text_units (codes "g" ++ decimal number))
tag_units number small = numbered_units 103 number (omega arith) small

module _ (previous : Table) where
  -- ---- a Text

  pub text_adds : (before after : Table) (letter : List ℕ) (number ordinal : ℕ) → AreUnits (text_units (letter ++ decimal number)) → PutsRow previous text_type (text_row letter number) before ordinal after
      → Adds film_schemas previous text_type (numbered letter number) before ordinal after
  text_adds before after letter number ordinal are puts =
      let value = Value.Text (text_units (letter ++ decimal number)) in
      let field = field_of (codes "value") kind.Text in
      (field ∷ [], value ∷ [], before, refl, (field, [], value, [], before, refl, refl, (tt, are, refl, refl), (refl, refl, refl)), puts)

  pub text_puts : (before after : Table) (letter : List ℕ) (number ordinal : ℕ) → Adds film_schemas previous text_type (numbered letter number) before ordinal after
      → PutsRow previous text_type (text_row letter number) before ordinal after
  text_puts before after letter number ordinal adds =
      let part = adds.4 in
      let values : adds.1 ≡ Value.Text (text_units (letter ++ decimal number)) ∷ [] = part.6 ∙ (λ i. part.7.2 i ∷ part.8.1 i) in
      subst (λ (table : Table). PutsRow previous text_type (text_row letter number) table ordinal after) (part.8.2 ∙ part.7.3)
      (subst (λ (vs : List Value). PutsRow previous text_type (Row.Object vs) adds.2 ordinal after) values adds.5)

  -- ---- tags

  -- the Texts of the tags are put, and then their set
  pub record PutsTags (place : ℕ) (before : Table) (ordinal : ℕ) (after : Table) : Type 0 where
    pub first : ℕ
    pub second : ℕ
    pub middle : Table
    pub late : Table
    pub members : List ℕ
    pub first_puts : PutsRow previous text_type (text_row (codes "g") (place % 3)) before first middle
    pub second_puts : PutsRow previous text_type (text_row (codes "g") (place % 5)) middle second late
    pub set : IsSetOf (first ∷ second ∷ []) members
    pub last : PutsRow previous tags_type (Row.Set members) late ordinal after

  pub tags_add : (place : ℕ) (before after : Table) (ordinal : ℕ) → PutsTags place before ordinal after → Adds film_schemas previous tags_type (film_tags place) before ordinal after
  tags_add place before after ordinal p = (
    text_type,
    p.first ∷ p.second ∷ [],
    p.late,
    refl,
    (
      p.first,
      p.second ∷ [],
      p.middle,
      refl,
      text_adds before p.middle (codes "g") (place % 3) p.first (tag_units (place % 3) (omega arith)) p.first_puts,
      (
        p.second,
        [],
        p.late,
        refl,
        text_adds p.middle p.late (codes "g") (place % 5) p.second (tag_units (place % 5) (omega arith)) p.second_puts,
        (refl, refl),
      ),
    ),
    (p.members, p.set, p.last),
  )

  pub tags_put : (place : ℕ) (before after : Table) (ordinal : ℕ) → Adds film_schemas previous tags_type (film_tags place) before ordinal after → PutsTags place before ordinal after
  tags_put place before after ordinal adds =
      let element : adds.0 ≡ text_type = (let e : Some text_type ≡ Some adds.0 = adds.3 in cc) in
      let all = subst (λ t. AddsAll film_schemas previous t (tree_then (numbered (codes "g") (place % 3)) (tree_then (numbered (codes "g") (place % 5)) no_trees)) before adds.1 adds.2) element adds.4 in
      let rest = all.5 in
      let ordinals : adds.1 ≡ all.0 ∷ rest.0 ∷ [] = all.3 ∙ ap (λ os. all.0 ∷ os) (rest.3 ∙ ap (λ os. rest.0 ∷ os) rest.5.0) in
      record {
        first = all.0;
        second = rest.0;
        middle = all.2;
        late = rest.2;
        members = adds.5.0;
        first_puts = text_puts before all.2 (codes "g") (place % 3) all.0 all.4;
        second_puts = text_puts all.2 rest.2 (codes "g") (place % 5) rest.0 rest.4;
        set = subst (λ os. IsSetOf os adds.5.0) ordinals adds.5.1;
        last = subst (λ (table : Table). PutsRow previous tags_type (Row.Set adds.5.0) table ordinal after) rest.5.1 adds.5.2;
      }

  -- ---- a film

  -- the title is put, the tags are added, and then the film's row is put
  pub record PutsFilm (seed cycle place : ℕ) (before : Table) (ordinal : ℕ) (after : Table) : Type 0 where
    pub title : ℕ
    pub tags : ℕ
    pub middle : Table
    pub late : Table
    pub title_puts : PutsRow previous text_type (text_row (codes "t") ((place * seed) % 1000)) before title middle
    pub tags_add : Adds film_schemas previous tags_type (film_tags place) middle tags late
    pub last : PutsRow previous film_type (film_row seed cycle place title tags) late ordinal after

  -- the numbers of a film are those of an INT
  pub small_number : (number : ℕ) → number ≤ 1000000 → IsValueInRange (Value.Int (pos number))
  small_number number small = fits_signed_from_abs w32 (pos number) (let below : number < 2 ^ 31 = omega (arith, small) in below)

  pub film_adds : (seed cycle place : ℕ) (before after : Table) (ordinal : ℕ) → place ≤ 1000000 → PutsFilm seed cycle place before ordinal after → Adds film_schemas previous film_type (film seed cycle place) before ordinal after
  film_adds seed cycle place before after ordinal small p =
      let id = field_of (codes "id") kind.Int in
      let title = field_of (codes "title") (kind.Reference (codes "Text")) in
      let year = field_of (codes "year") kind.Int in
      let tags = field_of (codes "tags") (kind.Reference (codes "Tags")) in
      let number = Value.Int (pos place) in
      let since = Value.Int (pos (film_year seed cycle place)) in (
        id ∷ title ∷ year ∷ tags ∷ [],
        number ∷ Value.Ref p.title ∷ since ∷ Value.Ref p.tags ∷ [],
        p.late,
        refl,
        (
          id,
          title ∷ year ∷ tags ∷ [],
          number,
          Value.Ref p.title ∷ since ∷ Value.Ref p.tags ∷ [],
          before,
          refl,
          refl,
          (tt, small_number place small, refl, refl),
          (
            title,
            year ∷ tags ∷ [],
            Value.Ref p.title,
            since ∷ Value.Ref p.tags ∷ [],
            p.middle,
            refl,
            refl,
            (text_type, p.title, refl, text_adds before p.middle (codes "t") ((place * seed) % 1000) p.title (title_units ((place * seed) % 1000) (omega arith)) p.title_puts, refl),
            (
              year,
              tags ∷ [],
              since,
              Value.Ref p.tags ∷ [],
              p.middle,
              refl,
              refl,
              (tt, small_number (film_year seed cycle place) (omega arith), refl, refl),
              (tags, [], Value.Ref p.tags, [], p.late, refl, refl, (tags_type, p.tags, refl, p.tags_add, refl), (refl, refl, refl)),
            ),
          ),
        ),
        p.last,
      )

  pub film_puts : (seed cycle place : ℕ) (before after : Table) (ordinal : ℕ) → Adds film_schemas previous film_type (film seed cycle place) before ordinal after → PutsFilm seed cycle place before ordinal after
  film_puts seed cycle place before after ordinal adds =
      let id = field_of (codes "id") kind.Int in
      let title = field_of (codes "title") (kind.Reference (codes "Text")) in
      let year = field_of (codes "year") kind.Int in
      let tags = field_of (codes "tags") (kind.Reference (codes "Tags")) in
      let e : Some (id ∷ title ∷ year ∷ tags ∷ []) ≡ Some adds.0 = adds.3 in
      let fields : adds.0 ≡ id ∷ title ∷ year ∷ tags ∷ [] = cc in
      let a = adds.4 in
      let b = a.8 in
      let c = b.8 in
      let d = c.8 in
      let behind_id : a.0 ∷ a.1 ≡ id ∷ title ∷ year ∷ tags ∷ [] = sym a.5 ∙ fields in
      let behind : a.1 ≡ title ∷ year ∷ tags ∷ [] = cc in
      let at_title : b.0 ∷ b.1 ≡ title ∷ year ∷ tags ∷ [] = sym b.5 ∙ behind in
      let is_title : b.0 ≡ title = cc in
      let behind_title : b.1 ≡ year ∷ tags ∷ [] = cc in
      let at_year : c.0 ∷ c.1 ≡ year ∷ tags ∷ [] = sym c.5 ∙ behind_title in
      let behind_year : c.1 ≡ tags ∷ [] = cc in
      let at_tags : d.0 ∷ d.1 ≡ tags ∷ [] = sym d.5 ∙ behind_year in
      let is_tags : d.0 ≡ tags = cc in
      let of_title : Some b.7.0 ≡ Some text_type = sym b.7.2 ∙ ap (λ (f : Field). referred film_schemas f.kind) is_title in
      let of_tags : Some d.7.0 ≡ Some tags_type = sym d.7.2 ∙ ap (λ (f : Field). referred film_schemas f.kind) is_tags in
      let title_type : b.7.0 ≡ text_type = cc in
      let set_type : d.7.0 ≡ tags_type = cc in
      let values : adds.1 ≡ Value.Int (pos place) ∷ Value.Ref b.7.1 ∷ Value.Int (pos (film_year seed cycle place)) ∷ Value.Ref d.7.1 ∷ [] =
      a.6 ∙ (λ i. a.7.2 i ∷ (b.6 ∙ (λ j. b.7.4 j ∷ (c.6 ∙ (λ k. c.7.2 k ∷ (d.6 ∙ (λ l. d.7.4 l ∷ d.8.1 l)) k)) j)) i) in
      record {
        title = b.7.1;
        tags = d.7.1;
        middle = b.4;
        late = d.4;
        title_puts = text_puts before b.4 (codes "t") ((place * seed) % 1000) b.7.1
            (subst (λ (table : Table). Adds film_schemas previous text_type (numbered (codes "t") ((place * seed) % 1000)) table b.7.1 b.4) a.7.3
            (subst (λ t. Adds film_schemas previous t (numbered (codes "t") ((place * seed) % 1000)) a.4 b.7.1 b.4) title_type b.7.3));
        tags_add = subst (λ (table : Table). Adds film_schemas previous tags_type (film_tags place) table d.7.1 d.4) c.7.3
            (subst (λ t. Adds film_schemas previous t (film_tags place) c.4 d.7.1 d.4) set_type d.7.3);
        last = subst (λ (table : Table). PutsRow previous film_type (film_row seed cycle place b.7.1 d.7.1) table ordinal after) d.8.2
            (subst (λ (vs : List Value). PutsRow previous film_type (Row.Object vs) adds.2 ordinal after) values adds.5);
      }
