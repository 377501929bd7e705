-- What the answers of writers mean, from those of what they call.
use Rattle.std.proofs.Common.{◌≡◌, List, ℕ, ℤ, [], ◌++◌, Result, Ok, Err, sym, ap, ◌∙◌, subst}
use Rattle.std.specs.Prelude.{IfErr, IsErrAnd, OnOk}
use Rattle.schema_model.specs.declared.schema.Schema.{Schema}
use Rattle.blob_frame.specs.Written.{header_bytes}
use Rattle.blob_writing.specs.declared.fault.WriteFault.{WriteFault}
use Rattle.blob_writing.specs.declared.fault.WriteFault.TheVariants.{Large, Memory}
use Rattle.blob_writing.specs.Limits.{MeansLarge}

-- a refusal that is handed on
pub means_exit : {T : Type 0} (result : Result T WriteFault) (fault : WriteFault) (P Q : Type 0) → IsErrAnd result (λ e. e ≡ fault) → MeansLarge P fault → (P → Q) → IfErr result (MeansLarge Q)
means_exit (Ok x) fault P Q is h f = absurd is
means_exit (Err Large) fault P Q is h f = f (subst (MeansLarge P) (sym is) h)
means_exit (Err Memory) fault P Q is h f = tt

-- the answer of the last call
pub means_of : {T : Type 0} (P Q : Type 0) (result : Result T WriteFault) → IfErr result (MeansLarge P) → (P → Q) → IfErr result (MeansLarge Q)
means_of P Q (Ok x) h f = tt
means_of P Q (Err Large) h f = f h
means_of P Q (Err Memory) h f = tt

pub where_ok : {T E : Type 0} (P : Type 0) (result : Result T E) → P → OnOk result P
where_ok P (Ok x) h = h
where_ok P (Err e) h = tt

-- a header that is put first
pub header_put : (out before : List ℕ) (origin origin' destination destination' : ℤ) (listed listed' : List Schema) → out ≡ before ++ header_bytes origin destination listed → before ≡ []
    → origin ≡ origin' → destination ≡ destination' → listed ≡ listed' → out ≡ header_bytes origin' destination' listed'
header_put out before origin origin' destination destination' listed listed' put none from to same =
    put ∙ ap (λ (xs : List ℕ). xs ++ header_bytes origin destination listed) none
    ∙ ap (λ (z : ℤ). header_bytes z destination listed) from
    ∙ ap (λ (z : ℤ). header_bytes origin' z listed) to
    ∙ ap (λ (ss : List Schema). header_bytes origin' destination' ss) same
