-- Worked texts of the days of banks.
use Rattle.std.specs.Prelude.{◌≡◌, [], ◌∷◌, codes}
use Rattle.day_commands.specs.BanksOutcome.{banks_text}

pub record AreBanksTexts : Type 0 where
  -- in the order of the input, and not by their ids
  pub two : banks_text (17 ∷ 4 ∷ []) (codes "day 1\ntotal 2 0 2\n" ∷ codes "day 1\ntotal 1 3 1\n" ∷ []) 5
      ≡ codes "bank 17\nday 1\ntotal 2 0 2\nbank 4\nday 1\ntotal 1 3 1\nstrays 5\nend\n"
  pub none : banks_text [] [] 0 ≡ codes "strays 0\nend\n"
