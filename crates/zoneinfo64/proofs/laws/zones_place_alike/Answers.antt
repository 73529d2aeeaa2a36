use Rattle.zoneinfo64.proofs.ZoneCivil.{places_alike}
use Rattle.zoneinfo64.proofs.laws.zones_place_alike.Goals as goal

pub returns : goal.returns
returns c = places_alike c.laws_below.ensures
