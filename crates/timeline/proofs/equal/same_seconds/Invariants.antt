use Rattle.timeline.proofs.equal.same_seconds.Given as goal

abbrev pub ghosts-same_seconds_by : goal.ghosts-same_seconds_by
ghosts-same_seconds_by a = record { name = a.blank.name; parts = a.blank.parts }
