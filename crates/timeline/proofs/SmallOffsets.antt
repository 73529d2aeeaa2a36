-- In a lawful zone no offset is a day or more, at any second.
use Rattle.std.proofs.Common.{◌≡◌, ℕ, Bool, true, false, Some, ℤ, ◌+ℤ◌, refl}
use Rattle.timeline.specs.declared.offset.Offset.{Offset}
use Rattle.timeline.specs.declared.offset.Transition.{Transition}
use Rattle.timeline.specs.Zone.{PlainZone, PlainRule}
use Rattle.timeline.specs.Rule.{start_is_first, first_entry, second_entry}
use Rattle.timeline.specs.Timeline.{Holds, first, entry, entry_at, offset_at}
use Rattle.timeline.specs.Laws.{IsLawful}
use Rattle.timeline.specs.TableLaws.{IsSmall}
use Rattle.timeline.proofs.Entries.{last-holds}
use Rattle.timeline.proofs.TimelineEntries.{Stands, in_table, is_first, is_second, stands}
use Rattle.timeline.proofs.TimelineRises.{if_some}

pub first_small : (r : PlainRule) (y : ℤ) → IsSmall r.raw × IsSmall (r.raw +ℤ r.extra) → IsSmall (first_entry r y).offset
first_small r y h = by (start_is_first r) refl
  where
    by : (c : Bool) → start_is_first r ≡ c → IsSmall (first_entry r y).offset
    by true is = rw is h.1
    by false is = rw is h.0

pub second_small : (r : PlainRule) (y : ℤ) → IsSmall r.raw × IsSmall (r.raw +ℤ r.extra) → IsSmall (second_entry r y).offset
second_small r y h = by (start_is_first r) refl
  where
    by : (c : Bool) → start_is_first r ≡ c → IsSmall (second_entry r y).offset
    by true is = rw is h.0
    by false is = rw is h.1

pub entry_small : (z : PlainZone) (n : ℕ) (e : Transition) → IsLawful z → entry_at z n ≡ Some e → IsSmall e.offset
entry_small z n e lawful at = by (stands z n e at)
  where
    of_rule : (r : PlainRule) → z.rule ≡ Some r → IsSmall r.raw × IsSmall (r.raw +ℤ r.extra)
    of_rule r rule = if_some (λ r. IsSmall r.raw × IsSmall (r.raw +ℤ r.extra)) z.rule r rule lawful.size.raw

    by : Stands z n e → IsSmall e.offset
    by (in_table lt is) = lawful.size.table n e is
    by (is_first r j year place is) = rw is (first_small r _ (of_rule r year.rule))
    by (is_second r j year place is) = rw is (second_small r _ (of_rule r year.rule))

pub offsets-are-small : (z : PlainZone) (t : ℤ) → IsLawful z → IsSmall (offset_at z t).offset
offsets-are-small z t lawful = by (offset_at z t) (last-holds z t)
  where
    by : (o : Offset) → Holds z t o → IsSmall o.offset
    by _ (first all) = lawful.size.initial
    by _ (entry n e at le others) = entry_small z n e lawful at
