-- Writers of lines, and what they have written.
use Rattle.std.specs.Prelude.{◌≡◌, ℕ, List, Option, Some, false}
use Rattle.csv.specs.Writing.{default_writer, needs_quotes, writer_setup, fields_written, has_written, text_written}
use Rattle.csv.specs.declared.writer.Writer.{Writer}

-- a field that is written as it is
abbrev pub IsPlain : List ℕ → Type 0
IsPlain field = needs_quotes default_writer field ≡ false

-- between two lines, this is what was written so far
pub record HasWritten {W : Type 0} (contents : W → Option (List ℕ)) (writer : Writer W) (text : List ℕ) : Type 0 where
  pub setup : writer_setup writer ≡ default_writer
  pub fields : fields_written writer ≡ 0
  pub clean : has_written writer ≡ false
  pub text_is : text_written contents writer ≡ Some text
