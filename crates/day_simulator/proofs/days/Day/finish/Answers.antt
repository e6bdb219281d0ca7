use Rattle.std.proofs.Common.{◌++◌, ◌≡◌, IfOk, OnOk, subst}
use Rattle.std.proofs.lemmas.Result.{on_ok_weaker}
use Rattle.search_model.specs.Days.{Day, served_of}
use Rattle.day_laws.specs.Standing.{IsStanding}
use Rattle.day_text.specs.LogTexts.{end_text}
use Rattle.day_laws.proofs.NoneLost.{end-delivered}
use Rattle.day_simulator.proofs.days.Day.finish.Goals as goal

pub finish_in-requires : goal.finish_in-requires
finish_in-requires c = c.self.invariant

pub returns-clause-served : goal.returns-clause-served
returns-clause-served c =
    subst (λ (d : Day). IfOk c.finish_in.result (λ served. served.items ≡ served_of d)) c.self.view_is c.finish_in.ensures.served

pub returns-clause-log : goal.returns-clause-log
returns-clause-log c =
    subst (λ (d : Day). OnOk c.finish_in.result (c.finish_in.new.out.items ≡ c.args.out.now.items ++ end_text d)) c.self.view_is c.finish_in.ensures.log

pub returns-clause-delivered : goal.returns-clause-delivered
returns-clause-delivered c =
    on_ok_weaker c.finish_in.result (λ _. end-delivered c.args.self (subst IsStanding c.self.view_is c.self.invariant)) c.finish_in.ensures.log
