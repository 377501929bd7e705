use Rattle.std.proofs.Common.{arith}
use Rattle.bucket_codec.proofs.BucketCounts.{shifted_digits, count_0, count_1, count_2}
use Rattle.bucket_codec.proofs.hash.buckets_for_any.Goals as goal

pub returns-in-0-clause-is : goal.returns-in-0-clause-is
returns-in-0-clause-is c = count_0 c.args.elements c.in-0.is

pub returns-in-1-clause-is : goal.returns-in-1-clause-is
returns-in-1-clause-is c = count_1 c.args.elements c.in-1.is

pub returns-in-2-clause-is : goal.returns-in-2-clause-is
returns-in-2-clause-is c = count_2 c.args.elements c.in-2.is

pub returns-in_default-clause-is : goal.returns-in_default-clause-is
returns-in_default-clause-is c =
    (shifted_digits c.args.elements c.from.result c.digits.result c.from.ensures (omega arith) c.digits.ensures.count c.digits.ensures.holds c.digits.ensures.least c.digits.ensures.fits).is

pub returns-in_default-clause-count : goal.returns-in_default-clause-count
returns-in_default-clause-count c =
    (shifted_digits c.args.elements c.from.result c.digits.result c.from.ensures (omega arith) c.digits.ensures.count c.digits.ensures.holds c.digits.ensures.least c.digits.ensures.fits).meant

pub returns-in_default-clause-few : goal.returns-in_default-clause-few
returns-in_default-clause-few c =
    (shifted_digits c.args.elements c.from.result c.digits.result c.from.ensures (omega arith) c.digits.ensures.count c.digits.ensures.holds c.digits.ensures.least c.digits.ensures.fits).few

pub returns-in_default-clause-small : goal.returns-in_default-clause-small
returns-in_default-clause-small c =
    (shifted_digits c.args.elements c.from.result c.digits.result c.from.ensures (omega arith) c.digits.ensures.count c.digits.ensures.holds c.digits.ensures.least c.digits.ensures.fits).small
