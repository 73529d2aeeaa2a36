use Rattle.timeline.proofs.lookups.table_offset.Given as goal

abbrev pub ghosts-table_offset_from : goal.ghosts-table_offset_from
ghosts-table_offset_from a = record { name = a.blank.name; parts = a.blank.parts }
