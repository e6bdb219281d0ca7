use Rattle.clap.specs.Words.{found_of, rows_of}
use Rattle.lift_words.specs.Table.{setting_of}
use Rattle.option_words.proofs.SettingLemmas.{number_of_row}
use Rattle.lift_words.proofs.reading.number.Goals as goal

pub returns-clause-value : goal.returns-clause-value
returns-clause-value c =
    number_of_row c.setting.result (setting_of c.args.option) c.setting.ensures (rows_of (found_of c.args.matches.now)) c.number.result c.number.ensures.value
