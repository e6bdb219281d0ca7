-- What is printed of a fault.
use Rattle.std.specs.Prelude.{codes}
use Rattle.clap.specs.Walk.{Text}
use Rattle.option_words.specs.declared.faults.WordsFault.{WordsFault}
use Rattle.option_words.specs.declared.faults.WordsFault.TheVariants.{NotTaken, NoMemory}

abbrev pub printed : WordsFault → Text
printed NotTaken = codes "the words are not taken"
printed NoMemory = codes "out of memory"
