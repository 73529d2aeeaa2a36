-- When two zones have the same data: what was read of them is equal (docs/ZONES.md, "Equal zones").
use Rattle.std.specs.Prelude.{nat_eq, Bool, ◌&&◌, List, map, ℤ}
use Rattle.std.specs.Ordering.{int_eq}
use Rattle.std.specs.Option.{option_eq}
use Rattle.std.specs.Cmp.Lexicographic.{pointwise}
use Rattle.timeline.specs.declared.offset.Transition.{Transition}
use Rattle.timeline.specs.Zone.{DateRule, PlainRule, PlainZone}

-- the two numbers of a pair
abbrev pub same_pair : ℤ × ℤ → ℤ × ℤ → Bool
same_pair p q = int_eq p.0 q.0 && int_eq p.1 q.1

-- the five numbers of a date
abbrev pub same_date : DateRule → DateRule → Bool
same_date a b = nat_eq a.month b.month && int_eq a.day b.day && int_eq a.code b.code && nat_eq a.seconds b.seconds && nat_eq a.mode b.mode

-- the eleven numbers of a rule
abbrev pub same_numbers : PlainRule → PlainRule → Bool
same_numbers a b = same_date a.start b.start && same_date a.end b.end && int_eq a.extra b.extra

-- these, the standard offset, and the first year
abbrev pub same_rule : PlainRule → PlainRule → Bool
same_rule a b = same_numbers a b && int_eq a.raw b.raw && int_eq a.first_year b.first_year

-- the seconds of a table
abbrev pub seconds_of : PlainZone → List ℤ
seconds_of z = map (λ (e : Transition). e.since) z.table

-- the pairs of offsets, the seconds of the table and the lengths of its parts, the numbers of the pairs, the links, and the rule
abbrev pub same_zone : PlainZone → PlainZone → Bool
same_zone a b =
    pointwise same_pair a.type_offsets b.type_offsets
    && pointwise int_eq (seconds_of a) (seconds_of b)
    && nat_eq a.early b.early
    && nat_eq a.late b.late
    && pointwise nat_eq a.type_map b.type_map
    && pointwise nat_eq a.links b.links
    && option_eq same_rule a.rule b.rule
