use Rattle.timeline.proofs.lookups.table_answer.Given as goal

abbrev pub ghosts-table_answer_from : goal.ghosts-table_answer_from
ghosts-table_answer_from a = record { name = a.blank.name; parts = a.blank.parts }
