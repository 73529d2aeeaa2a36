-- Zones with their names, as a loop reads them.
use Rattle.std.proofs.Common.{◌≡◌, ℕ, ◌+◌, ◌≤◌, List, [], ◌∷◌, ◌++◌, length, drop, Option, Some, None, Err, refl, sym, ap, ◌∙◌, length-append, arith}
use Rattle.std.specs.List.{slice_get}
use Rattle.std.proofs.lemmas.List.{drop_all, append-nil, length-map}
use Rattle.zoneinfo64.specs.declared.error.BinaryDeserializerError.{BinaryDeserializerError}
use Rattle.zoneinfo64.specs.declared.error.BinaryDeserializerError.TheVariants as errors
use Rattle.resb_tree.specs.Options.{◌>>=◌}
use Rattle.resb_tree.specs.declared.resource.Resource.{Resource}
use Rattle.zoneinfo64.specs.declared.zone.Named.{Named}
use Rattle.timeline.specs.Zone.{RawRule}
use Rattle.zoneinfo64.specs.NamedZone.{NamedZone}
use Rattle.zoneinfo64.specs.ZoneNames.{named_zone, named_zones}
use Rattle.zoneinfo64.specs.Inside.Steps.{Reads}
use Rattle.zoneinfo64.specs.Inside.ListSteps.{with_front, with_next}
use Rattle.zoneinfo64.specs.Inside.ZoneList.{named_of, zones_of}
use Rattle.zoneinfo64.proofs.FieldParts.{drop_one}
use Rattle.zoneinfo64.proofs.Fronts.{front_grows}

abbrev Find : Type 0
Find = List ℕ → Option RawRule

-- what a turn of the loop has before it: a zone, its name and its region, at one place of the three arrays
pub record Turn (zones names regions : List Resource) (at : ℕ) (zone name region : Resource) : Type 0 where
  pub zone_there : slice_get zones at ≡ Some zone
  pub name_there : slice_get names at ≡ Some name
  pub region_there : slice_get regions at ≡ Some region

-- the zones that are left from a place on
abbrev pub left : Find → List Resource → List Resource → List Resource → ℕ → Option (List NamedZone)
left find zones names regions at = named_zones find (drop at zones) (drop at names) (drop at regions)

turned : (find : Find) (zones names regions : List Resource) (at : ℕ) (zone name region : Resource) → Turn zones names regions at zone name region
    → left find zones names regions at ≡ (named_zone find zone name region >>= λ x. left find zones names regions (at + 1) >>= λ xs. Some (x ∷ xs))
turned find zones names regions at zone name region t =
    rw (drop_one zones at zone t.zone_there, drop_one names at name t.name_there, drop_one regions at region t.region_there) refl

-- one more zone was read
pub zone_read : (find : Find) (front now : List NamedZone) (zones names regions : List Resource) (at : ℕ) (zone name region : Resource) (total : Option (List NamedZone))
    → Turn zones names regions at zone name region → with_next front (named_zone find zone name region) ≡ Some now
    → with_front front (left find zones names regions at) ≡ total → with_front now (left find zones names regions (at + 1)) ≡ total
zone_read find front now zones names regions at zone name region total t read so_far = by (named_zone find zone name region) refl read
  where
    others : Option (List NamedZone)
    others = left find zones names regions (at + 1)

    by : (o : Option NamedZone) → named_zone find zone name region ≡ o → with_next front o ≡ Some now → with_front now others ≡ total
    by None e next = cc
    by (Some z) e next =
        let pushed : front ++ z ∷ [] ≡ now = cc in
        let once : with_front front (left find zones names regions at) ≡ with_front (front ++ z ∷ []) others =
        rw (turned find zones names regions at zone name region t, e) (front_grows front z others) in
        rw (← pushed) (sym once ∙ so_far)

-- and there is one more entry
pub one_longer : (entries now : List Named) (read : Option NamedZone) → with_next (zones_of entries) read ≡ Some (zones_of now) → length now ≡ length entries + 1
one_longer entries now None next = cc
one_longer entries now (Some z) next =
    let pushed : zones_of entries ++ z ∷ [] ≡ zones_of now = cc in
    let long : length (zones_of entries ++ z ∷ []) ≡ length (zones_of now) = ap length pushed in
    omega (arith, long, length-append (zones_of entries) (z ∷ []), length-map entries named_of, length-map now named_of)

-- or a rule is broken, and there is no list
zone_broken : (find : Find) (front : List NamedZone) (zones names regions : List Resource) (at : ℕ) (zone name region : Resource) (total : Option (List NamedZone))
    → Turn zones names regions at zone name region → (o : Option NamedZone) → named_zone find zone name region ≡ o → with_next front o ≡ None
    → with_front front (left find zones names regions at) ≡ total → total ≡ None
zone_broken find front zones names regions at zone name region total t None broken next so_far =
    let none : left find zones names regions at ≡ None = rw (turned find zones names regions at zone name region t, broken) refl in
    sym so_far ∙ ap (with_front front) none
zone_broken find front zones names regions at zone name region total t (Some z) is next so_far = cc

pub broken_list : {X Y : Type 0} (view : X → List NamedZone) (one : Y → List NamedZone) (e : BinaryDeserializerError) (find : Find) (front : List NamedZone) (zones names regions : List Resource) (at : ℕ) (zone name region : Resource) (total : Option (List NamedZone))
    → Turn zones names regions at zone name region → Reads one (Err e) (with_next front (named_zone find zone name region))
    → with_front front (left find zones names regions at) ≡ total → Reads view (Err e) total
broken_list view one errors.Memory find front zones names regions at zone name region total t read so_far = tt
broken_list view one errors.Rules find front zones names regions at zone name region total t read so_far =
    zone_broken find front zones names regions at zone name region total t _ refl read so_far
broken_list view one errors.Tree find front zones names regions at zone name region total t read so_far = elim read [ ]

-- all zones were read
pub list_whole : (find : Find) (entries : List Named) (zones names regions : List Resource) (at : ℕ) (total : Option (List NamedZone)) → length zones ≤ at → length names ≡ length zones → length regions ≡ length zones
    → with_front (zones_of entries) (left find zones names regions at) ≡ total → total ≡ Some (zones_of entries)
list_whole find entries zones names regions at total end n r so_far =
    let none_left : left find zones names regions at ≡ Some [] = rw (drop_all at zones end, drop_all at names (omega arith), drop_all at regions (omega arith)) refl in
    sym so_far ∙ ap (with_front (zones_of entries)) none_left ∙ ap Some (append-nil (zones_of entries))
