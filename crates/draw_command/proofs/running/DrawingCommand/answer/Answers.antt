use Rattle.draw_command.proofs.running.DrawingCommand.answer.Goals as goal

pub draw_scene-requires : goal.draw_scene-requires
draw_scene-requires c = c.requires

pub returns-clause-told : goal.returns-clause-told
returns-clause-told c = c.in_ok-text.ensures
