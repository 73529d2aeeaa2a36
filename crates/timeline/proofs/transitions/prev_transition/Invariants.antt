use Rattle.timeline.proofs.transitions.prev_transition.Given as goal

abbrev pub ghosts-prev_by : goal.ghosts-prev_by
ghosts-prev_by a = record { name = a.blank.name; parts = a.blank.parts }
