-- The two parts of a split, as the code hands them on. No public clause cites this module.
use Rattle.std.specs.Prelude.{◌≡◌, ℕ}
use Rattle.search_tree.specs.declared.branches.Branch.{Branch}
use Rattle.search_tree.specs.declared.branches.Parts.{Parts}
use Rattle.search_tree.specs.Branches.{first_part, second_part}

pub record ArePartsOf (b : Branch) (call part : ℕ) (parts : Parts) : Type 0 where
  pub first_is : parts.first ≡ first_part b call part
  pub second_is : parts.second ≡ second_part b call part
