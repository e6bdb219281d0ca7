use Rattle.std.proofs.Common.{refl}
use Rattle.cert_checker.specs.declared.tasks.Task.{Task}
use Rattle.cert_checker.specs.declared.tasks.Piece.{Piece}
use Rattle.cert_checker.proofs.PieceLemmas.{leaf_placed}
use Rattle.cert_checker.proofs.tasks.Piece.add.Goals as goal

pub returns : goal.returns
returns c places =
    let task : Task = record { number = c.args.number; node = c.args.node; leaf = c.args.leaf } in
    let new : Piece = record { tasks = c.push.new.self; bad = c.args.self.now.bad } in
    leaf_placed c.args.number c.args.node c.args.leaf.now places c.args.self.now new task c.requires refl c.in_ok-push.ensures.items refl refl refl
