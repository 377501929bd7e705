-- What contracts see of a source, a sink and a store in memory.
use Rattle.std.specs.Prelude.{ℕ, ◌+◌, ◌-◌, min, List, length, refl}
use Rattle.std.specs.Coded.{Coded, code_by, coded×, coded_ℕ}
use Rattle.hol_memory.specs.Calls.{Calls, calls_code}
use Rattle.hol_io.specs.Store.{Store, store_code}

-- The bytes that are left, how many one call gives at most, and the calls.
pub record MemorySource : Type 0 where
  pub left : List ℕ
  pub piece : ℕ
  pub calls : Calls

-- How many bytes a call gives that has room for so many.
abbrev pub given : MemorySource → ℕ → ℕ
given source room = min room (min source.piece (length source.left))

-- The bytes that were taken, how many may be taken in all and by one call, and the calls.
pub record MemorySink : Type 0 where
  pub taken : List ℕ
  pub room : ℕ
  pub piece : ℕ
  pub calls : Calls

-- How many bytes the next call may take.
abbrev pub space : MemorySink → ℕ
space sink = min sink.piece (sink.room - length sink.taken)

-- The names and their contents, and how often something was put.
pub record SureContent : Type 0 where
  pub held : Store
  pub puts : ℕ

-- A store in memory that never fails is told apart by its fields.
abbrev pub sure_content_code : Coded SureContent
sure_content_code = code_by (Store × ℕ) (coded× store_code coded_ℕ) (λ s. (s.held, s.puts)) (λ p. record { held = p.0; puts = p.1 }) (λ _. refl)

-- The names and their contents, the calls that read or list, and the puts.
pub record MemoryStore : Type 0 where
  pub held : Store
  pub reads : Calls
  pub puts : Calls

-- A store in memory is told apart by its fields.
abbrev pub memory_store_code : Coded MemoryStore
memory_store_code =
    code_by (Store × (Calls × Calls)) (coded× store_code (coded× calls_code calls_code)) (λ s. (s.held, (s.reads, s.puts)))
    (λ p. record { held = p.0; reads = p.1.0; puts = p.1.1 }) (λ _. refl)

-- How many calls of any kind failed.
abbrev pub store_faults : MemoryStore → ℕ
store_faults store = store.reads.faults + store.puts.faults
