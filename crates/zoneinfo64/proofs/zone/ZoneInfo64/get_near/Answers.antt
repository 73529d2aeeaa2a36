use Rattle.zoneinfo64.proofs.Names.{zone-found, entry-found, place-found, zone-missing}
use Rattle.zoneinfo64.proofs.zone.ZoneInfo64.get_near.Goals as goal

pub invariant_of-result : goal.invariant_of-result
invariant_of-result c =
    record { in_place = (zone-found _ _ _ _ _ c.self.invariant c.as_slice.ensures.value c.self.view_is c.in-Some.ensures).0 }

pub returns-in-Some-clause-zone : goal.returns-in-Some-clause-zone
returns-in-Some-clause-zone c =
    zone-found _ _ _ _ _ c.self.invariant c.as_slice.ensures.value c.self.view_is c.in-Some.ensures

pub returns-in-None-clause-none : goal.returns-in-None-clause-none
returns-in-None-clause-none c = zone-missing _ _ _ _ c.self.invariant c.as_slice.ensures.value c.self.view_is c.in-None.ensures

pub returns-in-Some-clause-entry : goal.returns-in-Some-clause-entry
returns-in-Some-clause-entry c =
    entry-found _ _ _ _ _ c.self.invariant c.as_slice.ensures.value c.self.view_is c.in-Some.ensures

pub returns-in-Some-clause-place : goal.returns-in-Some-clause-place
returns-in-Some-clause-place c =
    place-found _ _ _ _ _ c.self.invariant c.as_slice.ensures.value c.self.view_is c.in-Some.ensures
