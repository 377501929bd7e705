use Rattle.delta_blob.specs.Judged.{delta_of, patch_of}
use Rattle.delta_blob.proofs.laws.one_fault.Goals as goal

pub returns : goal.returns
returns c = record {
  once = λ blob schemas a b. (λ at. (patch_of blob at schemas).decided.once a b, λ current. (delta_of blob current schemas).decided.once a b);
  apart = λ blob schemas named found.
      (λ at. (patch_of blob at schemas).decided.apart named found, λ current head. (delta_of blob current schemas).decided.apart (head, named) found);
}
