use Rattle.cm_groups.proofs.groups.Groups.some_holds.Given as goal

abbrev pub ghosts-some_row_holds : goal.ghosts-some_row_holds
ghosts-some_row_holds a = record { name = a.blank.name; parts = a.blank.parts }
