-- What reading more of an input brings.
use Rattle.std.specs.Prelude.{◌≡◌, ℕ, ◌≤◌, List, ◌++◌, length, Option}
use Rattle.std.specs.Io.KnownBytes.{prepend_known}

-- The next bytes of a source were appended, at most this many.
pub record HasGained (most : ℕ) (left left' : Option (List ℕ)) (before after : List ℕ) : Type 0 where
  pub gained : List ℕ
  pub appended : after ≡ before ++ gained
  pub given : left ≡ prepend_known gained left'
  pub few : length gained ≤ most
