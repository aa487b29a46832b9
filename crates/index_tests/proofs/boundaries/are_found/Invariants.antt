use Rattle.index_tests.proofs.boundaries.are_found.Given as goal

abbrev pub ghosts-are_counted : goal.ghosts-are_counted
ghosts-are_counted g a = record { name = a.blank.name; parts = a.blank.parts }
