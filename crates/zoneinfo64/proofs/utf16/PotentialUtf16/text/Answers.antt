use Rattle.std.proofs.Common.{subst}
use Rattle.std.proofs.lemmas.Str.{IsUtf8-from_ascii}
use Rattle.zoneinfo64.specs.Inside.Spellings.{IsSpelling}
use Rattle.zoneinfo64.proofs.utf16.PotentialUtf16.text.Goals as goal

pub shared_ref_as_front-from_utf8_unchecked : goal.shared_ref_as_front-from_utf8_unchecked
shared_ref_as_front-from_utf8_unchecked c = let short = subst IsSpelling c.in-Short.is c.self.invariant in short.room

pub from_utf8_unchecked-requires : goal.from_utf8_unchecked-requires
from_utf8_unchecked-requires c = let short = subst IsSpelling c.in-Short.is c.self.invariant in IsUtf8-from_ascii _ short.ascii
