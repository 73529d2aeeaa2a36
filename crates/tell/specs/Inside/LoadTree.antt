-- The tree of the bundle of a large input.
use Rattle.std.specs.Prelude.{ℕ, [], ◌∷◌, codes}
use Rattle.std.specs.Int.{w32, cast_unsigned}
use Rattle.resb_tree.specs.declared.resource.Resource.{Resource}
use Rattle.resb_tree.specs.declared.resource.Resource.TheVariants as r
use Rattle.tell.specs.LoadZones.{up_to, zone_name, load_offset}

-- a table with the one offset of the nth zone
abbrev pub zone_tree : ℕ → Resource
zone_tree n = r.Table ((codes "typeOffsets", r.Integers (cast_unsigned w32 (load_offset n) ∷ 0 ∷ [])) ∷ [])

-- the name of the nth zone
abbrev pub name_tree : ℕ → Resource
name_tree n = r.Text (zone_name n)

-- the region of each zone
abbrev pub region_tree : ℕ → Resource
region_tree n = r.Text (codes "001")

-- the zones, their names, no rules, and the regions
abbrev pub load_tree : ℕ → Resource
load_tree count = r.Table (
    (codes "Zones", r.Array (up_to zone_tree count))
    ∷ (codes "Names", r.Array (up_to name_tree count))
    ∷ (codes "Rules", r.Table [])
    ∷ (codes "Regions", r.Array (up_to region_tree count))
    ∷ []
    )
