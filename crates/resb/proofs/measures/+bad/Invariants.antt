use Rattle.std.proofs.Common.{◌≡◌, drop}
use Rattle.std.specs.List.{list_any}
use Rattle.resb.specs.Entries.{values_in}
use Rattle.resb.specs.BadKeys.{has_bad_key}
use Rattle.resb.proofs.measures.+bad.Given as goal

abbrev pub invariant-bad_key_in_items-loop-item : goal.invariant-bad_key_in_items-loop-item
invariant-bad_key_in_items-loop-item l = list_any has_bad_key (drop l.item-index l.items) ≡ list_any has_bad_key l.items

abbrev pub invariant-bad_key_in_values-loop-value : goal.invariant-bad_key_in_values-loop-value
invariant-bad_key_in_values-loop-value l = list_any has_bad_key (values_in (drop l.value-index l.entries)) ≡ list_any has_bad_key (values_in l.entries)
