-- That a trial neither passes nor fails cannot be.
use Rattle.blob_frame.specs.declared.fault.BlobFault.{BlobFault}
use Rattle.blob_faults.specs.Judge.{Judge}

abbrev pub Settles : {V : Type 0} → Judge V → Type 0
Settles {V} judge = ((v : V) → judge.Passes v → ⊥) → ((fault : BlobFault) → judge.Fails fault → ⊥) → ⊥
