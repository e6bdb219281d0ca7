use Rattle.work_fan.proofs.line.JobLine.split.Given as goal

abbrev pub ghosts-split_by : goal.ghosts-split_by
ghosts-split_by a = record { part = a.part }
