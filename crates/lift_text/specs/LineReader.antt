-- What clauses see of a reader of lines.
use Rattle.std.specs.Prelude.{ℕ, Bool, List, Option}
use Rattle.lift_text.specs.Reading.{TextState}
use Rattle.lift_text.specs.Page.{text_at}
use Rattle.lift_text.specs.declared.faults.TextFault.{TextFault}
use Rattle.lift_text.specs.declared.reader.LineReader.{LineReader}

module _ {S : Type 0} where
  -- the state of the text, where the source tells what it has left
  abbrev pub text : (S → Option (List ℕ)) → LineReader S → Option TextState
  text left reader = text_at reader.page (left reader.source.now)

  -- how many lines were read
  abbrev pub line : LineReader S → ℕ
  line reader = reader.page.line

  -- the words of the line that was read
  abbrev pub words : LineReader S → List (List ℕ)
  words reader = reader.page.words

  -- the line that was read as it stands
  abbrev pub raw : LineReader S → List ℕ
  raw reader = reader.page.raw

  -- the fault that is answered from now on
  abbrev pub failure : LineReader S → Option TextFault
  failure reader = reader.page.failure

  -- how many more bytes may be taken from the source
  abbrev pub quota : LineReader S → ℕ
  quota reader = reader.page.quota

  -- the bytes behind the line that was read that are taken from the source already
  abbrev pub unread : LineReader S → List ℕ
  unread reader = reader.page.unread

  -- whether the source has said that it is at its end
  abbrev pub has_ended : LineReader S → Bool
  has_ended reader = reader.page.ended
