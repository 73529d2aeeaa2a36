use Rattle.vectors.proofs.laws_tests.law_of.Given as goal

abbrev pub ghosts-fault_from : goal.ghosts-fault_from
ghosts-fault_from a = record { name = a.blank.name; parts = a.blank.parts }
