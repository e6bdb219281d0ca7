use Rattle.std.proofs.Common.{◌≡◌, ℕ, Option, None, subst}
use Rattle.search_model.specs.declared.limits.Limits.{Limits}
use Rattle.day_planner.specs.SolvedRows.{IsSolvedRow}
use Rattle.bank_days.specs.Banks.{AreBankLogs}
use Rattle.day_commands.specs.BanksOutcome.{status_of_logs}
use Rattle.day_commands.proofs.StoppedLemmas.{one-stopped, stopped-bank}
use Rattle.day_commands.proofs.banking.answer_of.Goals as goal

pub returns-clause-told : goal.returns-clause-told
returns-clause-told g c =
    let planner = c.new-planner.result in
    let banks = c.args.banks.now.banks.items in
    let logs = c.in_ok-logs.logs.items in
    let rounds = c.args.limits.rounds in
    let most_tours = c.args.limits.most_tours in
    let are : AreBankLogs (IsSolvedRow rounds most_tours None) banks logs =
    subst (λ (claims : Option ℕ). AreBankLogs (IsSolvedRow rounds most_tours claims) banks logs) c.new-planner.ensures.claims
    (subst (λ (limits : Limits). AreBankLogs (IsSolvedRow limits.rounds limits.most_tours planner.claims) banks logs) c.new-planner.ensures.limits
    (rw c.as_slice-all.ensures.value at c.in_ok-logs.ensures)) in
    let status = c.status_of_logs-status.result in
    let status_is : status ≡ status_of_logs logs = rw c.as_slice.ensures.value at c.status_of_logs-status.ensures.is in
    record {
      logs = logs;
      are_logs = are;
      status_is = status_is;
      stopped_each = λ k bank log bank_at log_at. stopped-bank rounds most_tours bank log (are.each k bank log bank_at log_at);
      stopped = one-stopped rounds most_tours banks logs are status status_is;
      is_text = rw (c.as_slice-all.ensures.value, c.as_slice-2.ensures.value) at c.in_ok-text.ensures;
    }
