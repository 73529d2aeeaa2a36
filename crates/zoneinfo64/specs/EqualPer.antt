-- Equality of zones holds both ways round, and along a chain (docs/ZONES.md, "Equal zones").
use Rattle.std.specs.Prelude.{ℤ}
use Rattle.std.specs.Cmp.{IsPartialEquivalence, IsEquivalence, partial_equiv_from_equiv, on_equiv, and_equiv, nat_eq_equiv, int_eq_equiv}
use Rattle.std.specs.Cmp.Lexicographic.{lists_equiv, options_equiv}
use Rattle.timeline.specs.Zone.{DateRule, PlainRule, PlainZone}
use Rattle.timeline.specs.Equal.{same_pair, same_date, same_numbers, same_rule, same_zone, seconds_of}
use Rattle.zoneinfo64.specs.NamedZone.{NamedZone}
use Rattle.zoneinfo64.specs.EqualNames.{same_names}
use Rattle.zoneinfo64.specs.EqualZones.{same_zones}
use Rattle.zoneinfo64.specs.ZoneView.{entry_of, plain_zone}

-- equality of pairs of offsets is an equivalence
pairs : IsEquivalence same_pair
pairs = and_equiv (on_equiv (λ (p : ℤ × ℤ). p.0) int_eq_equiv) (on_equiv (λ (p : ℤ × ℤ). p.1) int_eq_equiv)

-- so is that of a rule's dates
dates : IsEquivalence same_date
dates =
    and_equiv (and_equiv (and_equiv (and_equiv (on_equiv (λ (d : DateRule). d.month) nat_eq_equiv)
    (on_equiv (λ (d : DateRule). d.day) int_eq_equiv))
    (on_equiv (λ (d : DateRule). d.code) int_eq_equiv))
    (on_equiv (λ (d : DateRule). d.seconds) nat_eq_equiv))
    (on_equiv (λ (d : DateRule). d.mode) nat_eq_equiv)

-- that of a rule's eleven numbers
numbers : IsEquivalence same_numbers
numbers =
    and_equiv (and_equiv (on_equiv (λ (r : PlainRule). r.start) dates)
    (on_equiv (λ (r : PlainRule). r.end) dates))
    (on_equiv (λ (r : PlainRule). r.extra) int_eq_equiv)

-- that of rules
rules : IsEquivalence same_rule
rules =
    and_equiv (and_equiv numbers
    (on_equiv (λ (r : PlainRule). r.raw) int_eq_equiv))
    (on_equiv (λ (r : PlainRule). r.first_year) int_eq_equiv)

-- that of zones
zones : IsEquivalence same_zone
zones =
    and_equiv (and_equiv (and_equiv (and_equiv (and_equiv (and_equiv (on_equiv (λ (z : PlainZone). z.type_offsets) (lists_equiv pairs))
    (on_equiv seconds_of (lists_equiv int_eq_equiv)))
    (on_equiv (λ (z : PlainZone). z.early) nat_eq_equiv))
    (on_equiv (λ (z : PlainZone). z.late) nat_eq_equiv))
    (on_equiv (λ (z : PlainZone). z.type_map) (lists_equiv nat_eq_equiv)))
    (on_equiv (λ (z : PlainZone). z.links) (lists_equiv nat_eq_equiv)))
    (on_equiv (λ (z : PlainZone). z.rule) (options_equiv rules))

-- and that of names and regions
names : IsEquivalence same_names
names = and_equiv (on_equiv (λ (e : NamedZone). e.name) (lists_equiv nat_eq_equiv)) (on_equiv (λ (e : NamedZone). e.region) (lists_equiv nat_eq_equiv))

-- equality of zones is symmetric and transitive
pub zones_per : IsPartialEquivalence same_zones
zones_per = partial_equiv_from_equiv (and_equiv (on_equiv entry_of (options_equiv names)) (on_equiv plain_zone (options_equiv zones)))
