-- A bundle as plain data: its zones by name, in order (docs/FORMATS.md, "Names").
use Rattle.std.specs.Prelude.{ℕ, List, slice_get, position, Option, Some, None, encode_utf8_all}
use Rattle.std.specs.Char.Utf16.{utf16_lossy_chars}
use Rattle.std.specs.Str.{bytes_eq}
use Rattle.std.specs.List.{find}
use Rattle.timeline.specs.Zone.{PlainZone}

-- a zone, or the place of one
pub data Place : Type 0 where
  IsZone : PlainZone → Place
  IsAlias : ℕ → Place

-- the units of a name, the three bytes of a region, and what stands there
pub record NamedZone : Type 0 where
  pub name : List ℕ
  pub region : List ℕ
  pub place : Place

-- the characters of a name as UTF-8; a surrogate without a partner is U+FFFD. Two names are equal character by character
-- where these bytes are equal, and one comes before another where its bytes do
abbrev pub name_text : List ℕ → List ℕ
name_text units = encode_utf8_all (utf16_lossy_chars units)

-- the zone of what stands at a place, where that is no alias
abbrev pub zone_of : Place → Option PlainZone
zone_of (IsZone z) = Some z
zone_of (IsAlias n) = None

-- the same of an entry, if there is one
abbrev pub zone_in : Option NamedZone → Option PlainZone
zone_in None = None
zone_in (Some e) = zone_of e.place

-- the zone at a place, where that is no alias
abbrev pub zone_at : List NamedZone → ℕ → Option PlainZone
zone_at zones n = zone_in (slice_get zones n)

-- an alias is replaced by the zone at its place
abbrev pub resolved : List NamedZone → Place → Option PlainZone
resolved zones (IsZone z) = Some z
resolved zones (IsAlias n) = zone_at zones n

-- the zone of an entry, or the one that its alias stands for
abbrev pub resolved_in : List NamedZone → Option NamedZone → Option PlainZone
resolved_in zones None = None
resolved_in zones (Some e) = resolved zones e.place

-- what stands under the name that is this text, or none
abbrev pub entry_named : List NamedZone → List ℕ → Option NamedZone
entry_named zones text = find (λ (e : NamedZone). bytes_eq (name_text e.name) text) zones

-- the place of that entry, counted from 0, or none
abbrev pub place_named : List NamedZone → List ℕ → Option ℕ
place_named zones text = position (λ (e : NamedZone). bytes_eq (name_text e.name) text) zones

-- the zone of that name, an alias replaced by the zone at its place, or none
unfoldable pub named : List NamedZone → List ℕ → Option PlainZone
named zones text = resolved_in zones (entry_named zones text)
