-- Worked texts of what an audit finds.
use Rattle.std.specs.Prelude.{◌≡◌, codes}
use Rattle.day_commands.specs.AuditTexts.{differs_text, row_text, yes_text}

pub record AreAuditTexts : Type 0 where
  pub yes : yes_text (record { accepted = 217; unsolved = 34 }) ≡ codes "yes 217 34\n"
  pub differs : differs_text 908 ≡ codes "no 61 908\n"
  pub row : row_text 75 (codes "no 32 41000 40500\n") ≡ codes "no 62 75\nno 32 41000 40500\n"
