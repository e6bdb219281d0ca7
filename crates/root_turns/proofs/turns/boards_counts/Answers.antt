use Rattle.root_turns.proofs.turns.boards_counts.Goals as goal

pub boards_count-requires-clause-cars : goal.boards_count-requires-clause-cars
boards_count-requires-clause-cars c = c.requires.cars

pub boards_count-requires-clause-tours : goal.boards_count-requires-clause-tours
boards_count-requires-clause-tours c = c.requires.tours
