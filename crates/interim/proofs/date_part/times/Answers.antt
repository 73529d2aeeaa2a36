use Rattle.std.proofs.Common.{w32, lit<}
use Rattle.std.proofs.lemmas.Int.{fits_signed_mul, to_z-of_z}
use Rattle.interim.specs.Intervals.{count_of}
use Rattle.interim.proofs.date_part.times.Goals as goal

pub mul-requires : goal.mul-requires
mul-requires c =
    rw (to_z-of_z w32 c.args.count c.ranges.count) (fits_signed_mul w32 (count_of c.args.unit) c.args.count 3600 65535 c.requires.unit c.requires.count (lit< tt))
