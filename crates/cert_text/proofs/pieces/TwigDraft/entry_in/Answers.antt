use Rattle.std.proofs.Common.{◌∙◌, refl, sym, ap, Ok, Err}
use Rattle.lift_text.specs.LineReader.{words}
use Rattle.lift_text.specs.declared.codes.TextCode.TheVariants.{OutOfOrder}
use Rattle.text_sections.specs.Judging.{Judged, ◌>>=◌}
use Rattle.text_sections.proofs.StepLemmas.{gives_bad}
use Rattle.cert_text.specs.declared.kinds.LineWord.{LineWord}
use Rattle.cert_text.specs.Entries.{entry_in, judged_word}
use Rattle.cert_text.specs.Pieces.{piece_standing}
use Rattle.cert_text.proofs.pieces.TwigDraft.entry_in.Goals as goal

pub returns-in-Certificate : goal.returns-in-Certificate
returns-in-Certificate g c =
    let at = piece_standing c.args.self.now in
    let line = words c.args.lines.now in
    let word = sym c.in_ok-any_word.ensures ∙ ap (λ (w : LineWord). Ok w) c.in-Certificate.is in
    gives_bad (entry_in at line) (Err c.from.result) c.from.result OutOfOrder refl c.from.ensures
    (ap (λ (j : Judged LineWord). j >>= λ w. judged_word w at line) word)
