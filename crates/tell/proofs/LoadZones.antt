-- The zones that the bundle of a large input has.
use Rattle.std.proofs.Common.{◌≡◌, ℕ, zero, suc, ◌+◌, ◌%◌, ◌≤◌, Bool, true, false, cond, List, [], ◌∷◌, map, Option, Some, None, refl, arith, ℤ, pos, negsuc, ◌≤ℤ◌, ◌-◌, ◌==◌, nat_lt, length, rules, w32}
use Rattle.std.proofs.Math.IntN.{+ℤ_idr}
use Rattle.std.proofs.lemmas.Int.{ints}
use Rattle.std.proofs.lemmas.List.{map-append}
use Rattle.std.proofs.lemmas.Bool.Decides.{nat_tests}
use Rattle.std.specs.Prelude.{option_and_then}
use Rattle.std.specs.Int.{cast_unsigned}
use Rattle.std.specs.Char.Utf16.{utf16_chars}
use Rattle.resb_tree.specs.declared.resource.Resource.{out-roll-Resource}
use Rattle.resb_tree.specs.declared.resource.Resource.TheViews.{rolls-Table, rolls-Array, rolls-Text, rolls-Integers}
use Rattle.resb_tree.specs.Header.{tree_of}
use Rattle.timeline.specs.Zone.{RawRule, fits_i32}
use Rattle.zoneinfo64.specs.NamedZone.{NamedZone}
use Rattle.zoneinfo64.specs.RuleDates.{as_i32}
use Rattle.zoneinfo64.specs.RuleFields.{rule_named}
use Rattle.zoneinfo64.specs.ZoneLists.{type_offsets, integers_at, bytes_at, wide_at}
use Rattle.zoneinfo64.specs.ZoneFields.{zone_rule, plain_zone_of}
use Rattle.zoneinfo64.specs.ZoneNames.{place_of, named_zone, named_zones}
use Rattle.zoneinfo64.specs.Bundle.{array_in, table_in, checked_zones, zone_list, zones_of_words}
use Rattle.tell.specs.BundleZones.{words_of, bundle_words, bundle_zones}
use Rattle.tell.specs.LoadZones.{up_to, load_offset, fixed_zone, load_zone, load_zones}
use Rattle.tell.specs.Inside.LoadTree.{zone_tree, name_tree, region_tree, load_tree}

-- a tree by its outermost layer
ruleset layers = (← rolls-Table, ← rolls-Array, ← rolls-Text, ← rolls-Integers, out-roll-Resource)

-- ---- one zone

-- the rule of a name, of no rules
abbrev no_rule : List ℕ → Option RawRule
no_rule text = rule_named text []

signed_read : (z : ℤ) → negsuc 43199 ≤ℤ z → z ≤ℤ pos 43200 → as_i32 (cast_unsigned w32 z) ≡ z
signed_read (pos n) low high =
    let small : nat_lt n 2147483648 ≡ true = grind (arith, nat_tests, ints) in
    rw small refl
signed_read (negsuc n) low high =
    let near : n ≤ 43199 = omega (arith, ints) in
    let big : nat_lt (4294967296 - suc n) 2147483648 ≡ false = grind (arith, nat_tests) in
    rw big (omega (arith, ints))

small_fits : (z : ℤ) → negsuc 43199 ≤ℤ z → z ≤ℤ pos 43200 → fits_i32 z ≡ true
small_fits z low high = search rules

-- the word of an offset is read as the offset, which fits 32 bits
offset_read : (n : ℕ) → as_i32 (cast_unsigned w32 (load_offset n)) ≡ load_offset n
offset_read n = signed_read (load_offset n) (omega (arith, ints)) (omega (arith, ints))

offset_fits : (n : ℕ) → fits_i32 (load_offset n) ≡ true
offset_fits n = small_fits (load_offset n) (omega (arith, ints)) (omega (arith, ints))

zone_read : (n : ℕ) → plain_zone_of no_rule (zone_tree n) ≡ Some (fixed_zone (load_offset n))
unfolding plain_zone_of type_offsets integers_at bytes_at wide_at zone_rule
zone_read n = simp (layers, offset_read n, +ℤ_idr, offset_fits n) refl

one_named : (n : ℕ) → named_zone no_rule (zone_tree n) (name_tree n) (region_tree n) ≡ Some (load_zone n)
unfolding named_zone place_of utf16_chars
one_named n = simp (layers, simp layers at zone_read n) refl

-- ---- all zones

-- what f gives for each of the numbers
pub up_to-map : {A : Type 0} (f : ℕ → A) (n : ℕ) → up_to f n ≡ map f (up_to (λ k. k) n)
up_to-map f zero = refl
up_to-map f (suc n) = rw (map-append f (up_to (λ k. k) n) ((n + 1) ∷ []), up_to-map f n) refl

all_named : (ks : List ℕ) → named_zones no_rule (map zone_tree ks) (map name_tree ks) (map region_tree ks) ≡ Some (map load_zone ks)
all_named [] = refl
all_named (k ∷ ks) = rw (one_named k, all_named ks) refl

zones_named : (n : ℕ) → named_zones no_rule (up_to zone_tree n) (up_to name_tree n) (up_to region_tree n) ≡ Some (load_zones n)
zones_named n = rw (up_to-map zone_tree n, up_to-map name_tree n, up_to-map region_tree n, up_to-map load_zone n) (all_named (up_to (λ k. k) n))

-- ---- the bundle

tree_zones : (n : ℕ) (zones : List NamedZone) → zone_list (load_tree n) ≡ Some zones → zones ≡ load_zones n
unfolding zone_list checked_zones array_in table_in
tree_zones n zones e = let checked = simp (layers, zones_named n) at e in grind (arith, nat_tests)

from_words : (over whole : Bool) (words : List ℕ) (zones : List NamedZone) → option_and_then zones_of_words (cond over None (cond whole (Some words) None)) ≡ Some zones
    → zones_of_words words ≡ Some zones
from_words over whole words zones e = grind (arith, nat_tests)

-- a bundle whose words denote the tree has these zones, if it has any
pub load_zones_there : (n : ℕ) (bytes : List ℕ) (zones : List NamedZone) → tree_of (words_of bytes) ≡ Some (load_tree n) → bundle_zones bytes ≡ Some zones → zones ≡ load_zones n
unfolding bundle_zones bundle_words zones_of_words
load_zones_there n bytes zones denoted e =
    let read = from_words (nat_lt 4194304 (length bytes)) (length bytes % 4 == 0) (words_of bytes) zones e in
    tree_zones n zones (rw denoted at read)
