use Rattle.std.proofs.Common.{◌≡◌, List, IfErr, map, string_bytes, subst, sym}
use Rattle.clap.specs.Walk.{Row}
use Rattle.clap.specs.Simple.{App}
use Rattle.option_words.specs.Given.{AreGiven}
use Rattle.option_words.specs.Options.{IsPlain}
use Rattle.option_words.specs.declared.faults.WordsFault.TheVariants.{NotTaken}
use Rattle.lift_words.proofs.PlainLemmas.{plain}
use Rattle.lift_words.proofs.parsing.parse.Goals as goal

pub options_given-requires-clause-plain : goal.options_given-requires-clause-plain
options_given-requires-clause-plain c = subst IsPlain (sym c.in-Ok.ensures) (plain c.args.command)

pub returns-in-Ok-clause-refused : goal.returns-in-Ok-clause-refused
returns-in-Ok-clause-refused c =
    subst (λ (a : App). IfErr c.options_given.result (λ fault. fault ≡ NotTaken → (rows : List Row) → AreGiven a (map string_bytes c.args.words.now) rows → ⊥))
    c.in-Ok.ensures c.options_given.ensures.refused
