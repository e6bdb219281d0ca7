-- Words by which the program reads nothing.
use Rattle.std.specs.Prelude.{ℕ, List}
use Rattle.lift_words.specs.declared.request.Request.{Request}
use Rattle.lift_words.specs.declared.request.Request.TheVariants.{Solve, Check, Day, Report, Make, Run, Table, WhatIf, Banks, Root, Audit}
use Rattle.lift_words.specs.Taken.{AreTaken}

-- what is asked for is made of the words alone
abbrev pub ReadsNothing : Request → Type 0
ReadsNothing (Solve options) = ⊥
ReadsNothing (Check options) = ⊥
ReadsNothing (Day options) = ⊥
ReadsNothing (Report options) = ⊥
ReadsNothing (Make sizes) = Unit {0}
ReadsNothing (Run options) = Unit {0}
ReadsNothing Table = ⊥
ReadsNothing (WhatIf options) = ⊥
ReadsNothing (Banks options) = ⊥
ReadsNothing (Root options) = ⊥
ReadsNothing (Audit options) = ⊥

-- The words ask for no input: what they are taken as is made of the words alone, or they are not taken.
abbrev pub AskForNoInput : List (List ℕ) → Type 0
AskForNoInput words = (request : Request) → AreTaken words request → ReadsNothing request
