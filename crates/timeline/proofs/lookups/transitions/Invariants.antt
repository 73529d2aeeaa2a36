use Rattle.timeline.proofs.lookups.transitions.Given as goal

abbrev pub ghosts-year_from : goal.ghosts-year_from
ghosts-year_from a = record { name = a.blank.name; parts = a.blank.parts }
