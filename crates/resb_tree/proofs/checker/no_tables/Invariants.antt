use Rattle.std.proofs.Common.{◌≡◌, All, length}
use Rattle.resb_tree.specs.BodyView.{told}
use Rattle.resb_tree.specs.Inside.Slots.{IsTable}
use Rattle.resb_tree.proofs.checker.no_tables.Given as goal

abbrev pub invariant-loop : goal.invariant-loop
invariant-loop l = record {
  count : length l.tables.items ≡ l.counter;
  each : All (IsTable (told l.body)) l.tables.items;
}
