-- Worked texts of what turns at the root tell.
use Rattle.std.specs.Prelude.{◌≡◌, [], ◌∷◌, pos, negsuc, codes}
use Rattle.search_model.specs.Uneven.{halt, uneven_pair}
use Rattle.root_prices.specs.declared.answers.RootAnswer.{RootAnswer}
use Rattle.root_prices.specs.declared.reasons.RootReason.TheVariants.{Best, Gap, Moves, Pairs}
use Rattle.case_commands.specs.RootTexts.{reason_line, root_text}

-- each tour twice
abbrev pub met : RootAnswer
met = record {
  sheet = record { prices = pos 123456789 ∷ pos 98765432 ∷ negsuc 7654320 ∷ []; worths = pos 1000 ∷ negsuc 0 ∷ [] };
  bound = pos 214569;
  turns = [];
  shares = record { car = 0; weight = 2; tour = halt 0 [] ∷ halt 1 (0 ∷ 1 ∷ []) ∷ halt 3 [] ∷ [] }
      ∷ record { car = 1; weight = 2; tour = halt 0 [] ∷ halt 2 (2 ∷ []) ∷ halt 0 [] ∷ [] } ∷ [];
  cost = 429138;
  why = Best;
}

-- two tours of the first car, of which one boards the calls that the second car's one tour leaves
abbrev pub left : RootAnswer
left = record {
  sheet = record { prices = pos 0 ∷ negsuc 41 ∷ pos 7 ∷ []; worths = pos 35 ∷ pos 2000000 ∷ [] };
  bound = negsuc 2;
  turns = [];
  shares = record { car = 0; weight = 1; tour = halt 0 [] ∷ [] }
      ∷ record { car = 0; weight = 1; tour = halt 0 [] ∷ halt 1 (1 ∷ 0 ∷ []) ∷ halt 3 [] ∷ [] } ∷ [];
  cost = 99;
  why = Moves 1 75000;
}

pub record AreRootTexts : Type 0 where
  pub best : root_text uneven_pair met
      ≡ codes "root 1\nbound 214569\nprice 5 123456789\nprice 2 98765432\nprice 9 -7654321\nworth 7 1000\nworth 8 -1\nmixture 429138 2\nshare 7 2\nstop 0\nstop 1 5 2\nstop 3\nshare 8 2\nstop 0\nstop 2 9\nstop 0\nend\n# best\n"
  -- the calls of a stop by rising index, and a car by its id
  pub moves : root_text uneven_pair left
      ≡ codes "root 1\nbound -3\nprice 5 0\nprice 2 -42\nprice 9 7\nworth 7 35\nworth 8 2000000\nmixture 99 2\nshare 7 1\nstop 0\nshare 7 1\nstop 0\nstop 1 5 2\nstop 3\nend\n# open moves 8 75000\n"
  pub gap : reason_line uneven_pair Gap ≡ codes "# gap\n"
  pub pairs : reason_line uneven_pair (Pairs 120) ≡ codes "# open pairs 120\n"
