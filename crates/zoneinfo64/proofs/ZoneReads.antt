-- A zone from what was read of it.
use Rattle.std.proofs.Common.{◌≡◌, ℕ, zero, suc, ◌<◌, List, [], ◌∷◌, length, Option, Some, None, ℤ, false, refl, arith}
use Rattle.std.specs.Prelude.{◌==◌}
use Rattle.resb_tree.specs.declared.resource.Resource.{Resource}
use Rattle.timeline.specs.Zone.{RawRule, PlainRule}
use Rattle.timeline.specs.Table.{PlainSeconds, pair_offset, pair_of_number, zone_from}
use Rattle.zoneinfo64.specs.Inside.ListSteps.{AreKnown, wide, seconds_of, plain_seconds}
use Rattle.zoneinfo64.specs.Inside.FromParts.{offsets_in, words_in, numbers_in, wide_in, zone_in}
use Rattle.zoneinfo64.specs.Inside.ZoneParts.{parts_of}
use Rattle.zoneinfo64.specs.RuleFields.{rule_fields}
use Rattle.zoneinfo64.specs.ZoneLists.{type_offsets, initial_of, integers_at, bytes_at, wide_at}
use Rattle.zoneinfo64.specs.ZoneFields.{zone_rule, plain_zone_of}
use Rattle.zoneinfo64.specs.declared.parts.ZoneParts.{ZoneParts}
use Rattle.zoneinfo64.proofs.Tables.{table_given, table_refused}

-- the lists of a zone were read
pub record AreRead (parts : ZoneParts) (pairs : List (ℤ × ℤ)) (early middle late numbers links : List ℕ) : Type 0 where
  pub pairs_are : offsets_in parts.type_offsets ≡ Some pairs
  pub early_is : wide_in parts.trans_pre32 ≡ Some (wide early)
  pub middle_is : words_in parts.trans ≡ Some middle
  pub late_is : wide_in parts.trans_post32 ≡ Some (wide late)
  pub numbers_are : numbers_in parts.type_map ≡ Some numbers
  pub links_are : words_in parts.links ≡ Some links

-- the zone of a table is that of its fields
pub zone_of_parts : (find : List ℕ → Option RawRule) (zone : Resource) → plain_zone_of find zone ≡ zone_in find (parts_of zone)
unfolding plain_zone_of zone_in type_offsets offsets_in wide_at wide_in integers_at words_in bytes_at numbers_in zone_rule
zone_of_parts find zone = refl

first_is : (pairs : List (ℤ × ℤ)) → 0 < length pairs → initial_of pairs ≡ Some (pair_offset (pair_of_number pairs 0))
first_is [] some = absurd (omega arith)
first_is (p ∷ pairs) some = refl

pub some_len : (n : ℕ) → false ≡ (n == 0) → 0 < n
some_len zero h = cc
some_len (suc n) h = omega arith

-- there is no pair
pub no_pair : (find : List ℕ → Option RawRule) (parts : ZoneParts) (pairs : List (ℤ × ℤ)) → offsets_in parts.type_offsets ≡ Some pairs → length pairs ≡ 0 → zone_in find parts ≡ None
unfolding zone_in
no_pair find zone [] is none = rw is refl
no_pair find zone (p ∷ pairs) is none = absurd (omega arith)

-- a second has no number, or one of no pair, or a number has no second
pub no_table : (find : List ℕ → Option RawRule) (parts : ZoneParts) (pairs : List (ℤ × ℤ)) (early middle late numbers links : List ℕ) → AreRead parts pairs early middle late numbers links → 0 < length pairs
    → (AreKnown pairs (seconds_of early middle late) numbers → ⊥) → zone_in find parts ≡ None
unfolding zone_in
no_table find parts pairs early middle late numbers links h some apart =
    rw (h.pairs_are, first_is pairs some, h.early_is, h.middle_is, h.late_is, h.numbers_are, h.links_are, table_refused pairs (seconds_of early middle late) numbers apart) refl

-- its rule is none
pub no_rule : (find : List ℕ → Option RawRule) (parts : ZoneParts) (pairs : List (ℤ × ℤ)) (early middle late numbers links : List ℕ) → AreRead parts pairs early middle late numbers links → 0 < length pairs
    → AreKnown pairs (seconds_of early middle late) numbers → rule_fields find parts.final_rule parts.final_raw parts.final_year ≡ None → zone_in find parts ≡ None
unfolding zone_in
no_rule find parts pairs early middle late numbers links h some known is =
    rw (h.pairs_are, first_is pairs some, h.early_is, h.middle_is, h.late_is, h.numbers_are, h.links_are, table_given pairs (seconds_of early middle late) numbers known, is) refl

pub zone_read : (find : List ℕ → Option RawRule) (parts : ZoneParts) (pairs : List (ℤ × ℤ)) (early middle late numbers links : List ℕ) (seconds : PlainSeconds) (rule : Option PlainRule) (numbers_kept links_kept : List ℕ)
    → AreRead parts pairs early middle late numbers links → 0 < length pairs → AreKnown pairs (seconds_of early middle late) numbers → rule_fields find parts.final_rule parts.final_raw parts.final_year ≡ Some rule
    → seconds ≡ plain_seconds early middle late → numbers_kept ≡ numbers → links_kept ≡ links
    → zone_in find parts ≡ Some (zone_from seconds rule pairs numbers_kept links_kept)
unfolding zone_in
zone_read find parts pairs early middle late numbers links seconds rule numbers_kept links_kept h some known is seconds_are nk lk =
    rw (h.pairs_are, first_is pairs some, h.early_is, h.middle_is, h.late_is, h.numbers_are, h.links_are, table_given pairs (seconds_of early middle late) numbers known, is, seconds_are, nk, lk) refl
