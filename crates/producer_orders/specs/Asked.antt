-- What a cycle asks for, wherever its records come from.
use Rattle.std.specs.Prelude.{Bool, ◌≡◌, ◌≤◌, ℕ, ℤ, List, [], ◌∷◌, filter, map}
use Rattle.film_script.specs.Films.{film, film_schemas, film_type, films, is_shown}
use Rattle.row_model.specs.PlainTree.{PlainTree}
use Rattle.schema_model.specs.declared.schema.Schema.{Schema}
use Rattle.hol_orders.specs.Parts.{added}
use Rattle.hol_orders.specs.Shapes.{AreRecords}
use Rattle.hollow_machine.specs.Records.{Adding, AskedCycle, given, spelled}
use Rattle.producer_orders.specs.declared.asked.FilmCycle.{FilmCycle}
use Rattle.producer_orders.specs.declared.asked.Records.{Records}
use Rattle.producer_orders.specs.declared.asked.Records.TheVariants.{Films, Spelled}

-- the records, as the machine has them
abbrev pub adding_of : Records → Adding
adding_of (Spelled add) = spelled (added add.now)
adding_of (Films script) = given (films script.seed script.rows script.cycle)

-- what is asked for, as the machine has it: a version, a tag, whether the snapshot is put, and records
abbrev pub asked_of : ℕ → ℤ → Bool → Records → AskedCycle
asked_of version tag with_snapshot records = record { version = version; tag = tag; add = adding_of records; snapshot = with_snapshot }

-- the records of the film at a place, which is one where the cycle shows it, and else none
abbrev pub film_at : FilmCycle → ℕ → List (ℕ × PlainTree)
film_at script place = map (λ shown. (film_type, film script.seed script.cycle shown)) (filter (is_shown script.cycle) (place ∷ []))

-- The numbers of a cycle of the script are small.
abbrev pub IsFilmCycle : FilmCycle → Type 0
IsFilmCycle script = (script.seed ≤ 1000000) × (script.rows ≤ 1000000) × (script.cycle ≤ 1000000)

-- The records can be asked for of a producer of this model: JSON has its shape, and films are of the script's model.
abbrev pub Suit : List Schema → Records → Type 0
Suit schemas (Spelled add) = AreRecords (added add.now)
Suit schemas (Films script) = (schemas ≡ film_schemas) × IsFilmCycle script
