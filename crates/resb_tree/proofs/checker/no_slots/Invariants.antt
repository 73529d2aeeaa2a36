use Rattle.std.proofs.Common.{◌≡◌, All, length}
use Rattle.resb_tree.specs.BodyView.{told}
use Rattle.resb_tree.specs.Inside.Slots.{IsMet}
use Rattle.resb_tree.proofs.checker.no_slots.Given as goal

abbrev pub invariant-loop : goal.invariant-loop
invariant-loop l = record {
  count : length l.slots.items ≡ l.counter;
  each : All (IsMet (told l.body)) l.slots.items;
}
