-- The entries of a zone in their order, and the offset in force at a second (docs/ZONES.md, "Timeline").
use Rattle.std.specs.Prelude.{◌≡◌, ℕ, zero, suc, ◌+◌, ◌-◌, ◌*◌, ◌/◌, ◌%◌, ◌==◌, ◌≤◌, nat_lt, int_lt, if◌then◌else◌, length, slice_get, count_by, not, Option, Some, None, ℤ, pos, ◌+ℤ◌, ◌-ℤ◌, ◌<ℤ◌, ◌≤ℤ◌, unsigned_abs}
use Rattle.timeline.specs.declared.offset.Transition.{Transition}
use Rattle.timeline.specs.declared.offset.Offset.{Offset}
use Rattle.timeline.specs.Zone.{PlainZone, PlainRule, end_year}
use Rattle.timeline.specs.Rule.{first_entry, second_entry}

-- the year of the mth entry of a rule: two for each year
abbrev pub rule_year : PlainRule → ℕ → ℤ
rule_year r m = r.first_year +ℤ pos (m / 2)

-- the mth entry of a rule, for the years from its first one on and below the end
abbrev pub rule_entry : Option PlainRule → ℕ → Option Transition
rule_entry None m = None
rule_entry (Some r) m =
    if int_lt (rule_year r m) end_year
    then Some (if m % 2 == 0 then first_entry r (rule_year r m) else second_entry r (rule_year r m))
    else None

-- the nth entry of the timeline, counted from 0: those of the table, then those of the rule
abbrev pub entry_at : PlainZone → ℕ → Option Transition
entry_at z n = if nat_lt n (length z.table) then slice_get z.table n else rule_entry z.rule (n - length z.table)

-- the offset that holds from a transition on
abbrev pub offset_of : Transition → Offset
offset_of e = record { offset = e.offset; rule_applies = e.rule_applies }

-- that of a transition, if there is one, or else this one
abbrev pub offset_or : Offset → Option Transition → Offset
offset_or m None = m
offset_or m (Some e) = offset_of e

-- how many entries of the table are not after t
abbrev pub table_place : PlainZone → ℤ → ℕ
table_place z t = count_by (λ (e : Transition). not (int_lt t e.since)) z.table

-- what holds before the nth entry
abbrev pub before_entry : PlainZone → ℕ → Offset
before_entry z zero = z.initial
before_entry z (suc n) = offset_or z.initial (entry_at z n)

-- how many entries there are at most
unfoldable pub entry_bound : PlainZone → ℕ
entry_bound z = length z.table + rule_entries z.rule
  where
    rule_entries : Option PlainRule → ℕ
    rule_entries None = 0
    rule_entries (Some r) = 2 * unsigned_abs (end_year -ℤ r.first_year)

-- what holds at the second t by the first n entries: the last of them that is not after t, else the initial offset
unfoldable pub in_force : PlainZone → ℤ → ℕ → Offset
in_force z t zero = z.initial
in_force z t (suc n) = choose (entry_at z n) (in_force z t n)
  where
    choose : Option Transition → Offset → Offset
    choose None m = m
    choose (Some e) m = if int_lt t e.since then m else offset_of e

-- the offset, and its flag, in force at the second t; `Holds` says the same of all entries
unfoldable pub offset_at : PlainZone → ℤ → Offset
offset_at z t = in_force z t (entry_bound z)

-- the offset is that of the last entry not after t; or all entries are after t, and it is the initial one
pub data Holds (z : PlainZone) (t : ℤ) : Offset → Type 0 where
  first : ((n : ℕ) (e : Transition) → entry_at z n ≡ Some e → t <ℤ e.since) → Holds z t z.initial
  entry : (n : ℕ) (e : Transition) → entry_at z n ≡ Some e → e.since ≤ℤ t → ((m : ℕ) (f : Transition) → entry_at z m ≡ Some f → f.since ≤ℤ t → m ≤ n) → Holds z t (offset_of e)
