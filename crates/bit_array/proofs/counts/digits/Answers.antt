use Rattle.bit_array.proofs.DigitCounts.{digit_count-leading, digit_count-holds, digit_count-least}
use Rattle.bit_array.proofs.counts.digits.Goals as goal

pub returns-clause-count : goal.returns-clause-count
returns-clause-count c = digit_count-leading c.args.number c.ranges.number.fits

pub returns-clause-holds : goal.returns-clause-holds
returns-clause-holds c = rw (digit_count-leading c.args.number c.ranges.number.fits) (digit_count-holds c.args.number)

pub returns-clause-least : goal.returns-clause-least
returns-clause-least c = rw (digit_count-leading c.args.number c.ranges.number.fits) (digit_count-least c.args.number)
