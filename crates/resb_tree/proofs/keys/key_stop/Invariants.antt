use Rattle.std.proofs.Common.{◌≡◌, ◌-◌, ◌*◌}
use Rattle.resb_tree.specs.Words.{byte_in}
use Rattle.resb_tree.specs.Inside.Spans.{key_stop}
use Rattle.resb_tree.proofs.keys.key_stop.Given as goal

abbrev pub invariant-loop-at : goal.invariant-loop-at
invariant-loop-at l =
    let byte = byte_in l.body.words.now in
    let end = 4 * l.body.keys_end in
    key_stop byte l.at (end - l.at) ≡ key_stop byte l.place (end - l.place)
