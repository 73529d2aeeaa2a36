use Rattle.std.proofs.Common.{◌≡◌}
use Rattle.resb_tree.specs.Words.{run}
use Rattle.resb_tree.specs.Keys.{keys_in}
use Rattle.resb_tree.specs.BodyView.{told}
use Rattle.resb_tree.specs.Inside.Forms.{entry_in}
use Rattle.resb_tree.specs.Inside.KeyPlaces.{keys_there}
use Rattle.resb_tree.proofs.key_places.many_apart.Given as goal

abbrev pub invariant-loop-k : goal.invariant-loop-k
invariant-loop-k l = keys_in l.keys.items ≡ keys_there (told l.body) (run (entry_in l.form (told l.body) l.v l.count) 0 l.k)
