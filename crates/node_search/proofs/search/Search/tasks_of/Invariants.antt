use Rattle.node_search.proofs.RoundTasks.{AreTasksTo}
use Rattle.node_search.proofs.search.Search.tasks_of.Given as goal

abbrev pub invariant-loop-index : goal.invariant-loop-index
invariant-loop-index l = AreTasksTo l.self l.chosen l.index l.tasks.items
