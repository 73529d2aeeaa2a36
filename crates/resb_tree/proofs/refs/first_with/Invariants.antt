use Rattle.std.proofs.Common.{◌≡◌, ◌-◌}
use Rattle.resb_tree.specs.Words.{run}
use Rattle.resb_tree.specs.Fields.{first_with}
use Rattle.resb_tree.specs.BodyView.{told}
use Rattle.resb_tree.specs.Inside.Places.{entry_there}
use Rattle.resb_tree.proofs.refs.first_with.Given as goal

-- no entry that was passed has the key
abbrev pub invariant-loop-k : goal.invariant-loop-k
invariant-loop-k l =
    let entry = entry_there (told l.body) l.form l.levels l.v l.count in
    first_with l.key (run entry l.k (l.count - l.k)) ≡ first_with l.key (run entry 0 l.count)
