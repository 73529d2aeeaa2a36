-- The root of a bundle, whose arrays are read one after the other.
use Rattle.std.proofs.Common.{◌≡◌, ℕ, List, Option, Some, None, Err, refl, codes}
use Rattle.resb_tree.specs.declared.resource.Resource.{Resource}
use Rattle.zoneinfo64.specs.declared.error.BinaryDeserializerError.{BinaryDeserializerError}
use Rattle.zoneinfo64.specs.declared.error.BinaryDeserializerError.TheVariants as errors
use Rattle.timeline.specs.Zone.{RawRule}
use Rattle.zoneinfo64.specs.Bundle.{array_in, table_in, zone_list}
use Rattle.zoneinfo64.specs.Inside.Steps.{Reads}
use Rattle.zoneinfo64.specs.Inside.RuleSteps.{ReadsRules}
use Rattle.zoneinfo64.specs.RuleFields.{rules_of}

-- where a part is not read, the whole is not
pub broken : {X Y V W : Type 0} (part_view : X → V) (view : Y → W) (e : BinaryDeserializerError) (part : Option V) (whole : Option W) → (part ≡ None → whole ≡ None) → Reads part_view (Err e) part → Reads view (Err e) whole
broken part_view view errors.Memory part whole none read = tt
broken part_view view errors.Rules part whole none read = none read
broken part_view view errors.Tree part whole none read = elim read [ ]

pub rules_broken : {Y W : Type 0} (view : Y → W) (e : BinaryDeserializerError) (rules : Option (List (List ℕ × RawRule))) (whole : Option W) → (rules ≡ None → whole ≡ None) → ReadsRules (Err e) rules → Reads view (Err e) whole
rules_broken view errors.Memory rules whole none read = tt
rules_broken view errors.Rules rules whole none read = none read
rules_broken view errors.Tree rules whole none read = elim read [ ]

pub no_names : (root : Resource) (zones : List Resource) → array_in (codes "Zones") root ≡ Some zones → array_in (codes "Names") root ≡ None → zone_list root ≡ None
unfolding zone_list
no_names root zones z n = rw (z, n) refl

pub no_regions : (root : Resource) (zones names : List Resource) → array_in (codes "Zones") root ≡ Some zones → array_in (codes "Names") root ≡ Some names → array_in (codes "Regions") root ≡ None → zone_list root ≡ None
unfolding zone_list
no_regions root zones names z n r = rw (z, n, r) refl

pub no_table : (root : Resource) (zones names regions : List Resource) → array_in (codes "Zones") root ≡ Some zones → array_in (codes "Names") root ≡ Some names → array_in (codes "Regions") root ≡ Some regions
    → table_in (codes "Rules") root ≡ None → zone_list root ≡ None
unfolding zone_list
no_table root zones names regions z n r t = rw (z, n, r, t) refl

pub no_rules : (root : Resource) (zones names regions : List Resource) (entries : List (List ℕ × Resource)) → array_in (codes "Zones") root ≡ Some zones → array_in (codes "Names") root ≡ Some names → array_in (codes "Regions") root ≡ Some regions
    → table_in (codes "Rules") root ≡ Some entries → rules_of entries ≡ None → zone_list root ≡ None
unfolding zone_list
no_rules root zones names regions entries z n r t all = rw (z, n, r, t, all) refl
