-- Faults of a put as those of a change.
use Rattle.ordinal_map.specs.declared.fault.PutRowFault.{PutRowFault}
use Rattle.ordinal_map.specs.declared.fault.PutRowFault.TheVariants as put
use Rattle.hol_incremental.specs.declared.fault.ChangeFault.{ChangeFault}
use Rattle.hol_incremental.specs.declared.fault.ChangeFault.TheVariants.{Memory, TooMany}

-- the fault of a change in which a row is not put
abbrev pub fault_of_put : PutRowFault → ChangeFault
fault_of_put put.TooMany = TooMany
fault_of_put put.Memory = Memory
