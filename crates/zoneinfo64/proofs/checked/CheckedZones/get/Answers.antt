use Rattle.std.proofs.Common.{◌≡◌, ℕ, List, Option, Some, None, IsSome, sym, ap, ◌∙◌, subst}
use Rattle.timeline.specs.Zone.{PlainZone}
use Rattle.zoneinfo64.specs.NamedZone.{NamedZone, named, zone_at}
use Rattle.zoneinfo64.specs.ZoneView.{list_of, plain_zone}
use Rattle.zoneinfo64.specs.Inside.Verdicts.{IsVerdict, AreVerdicts}
use Rattle.timeline.specs.declared.fault.ZoneFault.{ZoneFault}
use Rattle.std.specs.List.{slice_get}
use Rattle.zoneinfo64.proofs.CheckedPlaces.{found_at, found_within}
use Rattle.zoneinfo64.proofs.checked.CheckedZones.get.Goals as goal

-- the verdict at the place of a zone that a name has
told : (zones list : List NamedZone) (name : List ℕ) (kept verdicts : List (Option ZoneFault)) (n : ℕ) (zone : Option PlainZone) (v : Option ZoneFault)
    → AreVerdicts zones kept → verdicts ≡ kept → list ≡ zones → zone_at list n ≡ zone → IsSome zone → zone ≡ named zones name → slice_get verdicts n ≡ Some v
    → (z : PlainZone) × (named zones name ≡ Some z) × (zone ≡ Some z) × IsVerdict z v
told zones list name kept verdicts n zone v are same of at some is found =
    let f = found_at zones kept n zone are (subst (λ (l : List NamedZone). zone_at l n ≡ zone) of at) some in
    let two : Some f.v ≡ Some v = sym f.at ∙ subst (λ (l : List (Option ZoneFault)). slice_get l n ≡ Some v) same found in
    let one : f.v ≡ v = cc in
    (f.z, sym is ∙ f.is, f.is, subst (IsVerdict f.z) one f.told)

pub verdict_in-requires : goal.verdict_in-requires
verdict_in-requires c =
    let p = c.in_ok-zone.ensures in
    let at = subst (λ (l : List NamedZone). zone_at l c.data_place.result ≡ plain_zone c.in_ok-zone.zone) p.list c.data_place.ensures in
    rw c.as_slice.ensures.value
    (found_within c.self.inside.zones c.self.inside.verdicts.items c.data_place.result (plain_zone c.in_ok-zone.zone) c.self.invariant at p.zone.0)

pub returns-in-None : goal.returns-in-None
returns-in-None c =
    let p = c.in_ok-zone.ensures in
    let t = told c.self.inside.zones (list_of c.in_ok-zone.zone) c.args.iana.now c.self.inside.verdicts.items c.as_slice.result.now c.data_place.result (plain_zone c.in_ok-zone.zone) None
    c.self.invariant c.as_slice.ensures.value p.list c.data_place.ensures p.zone.0 p.zone.1 c.in-None.ensures in
    (t.0, ap (λ (zs : List NamedZone). named zs c.args.iana.now) (sym c.self.view_is) ∙ t.1, t.2, t.3)

pub returns-in-Some : goal.returns-in-Some
returns-in-Some c =
    let p = c.in_ok-zone.ensures in
    let t = told c.self.inside.zones (list_of c.in_ok-zone.zone) c.args.iana.now c.self.inside.verdicts.items c.as_slice.result.now c.data_place.result (plain_zone c.in_ok-zone.zone) (Some c.in-Some.fault)
    c.self.invariant c.as_slice.ensures.value p.list c.data_place.ensures p.zone.0 p.zone.1 c.in-Some.ensures in
    (t.0, ap (λ (zs : List NamedZone). named zs c.args.iana.now) (sym c.self.view_is) ∙ t.1, t.3)
