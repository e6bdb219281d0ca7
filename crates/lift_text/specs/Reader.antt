-- What clauses see of a reader of lines, part by part.
use Rattle.std.specs.Borrow.{MutBor}
use Rattle.lift_text.specs.Page.{PageState}

-- the source, and what is read of it
pub record ReaderState (S : Type 0) : Type 0 where
  pub source : MutBor S
  pub page : PageState
