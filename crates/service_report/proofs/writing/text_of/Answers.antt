use Rattle.std.proofs.Common.{◌∙◌, refl}
use Rattle.service_report.proofs.writing.text_of.Goals as goal

pub returns-in-Ok : goal.returns-in-Ok
returns-in-Ok c =
    let from = c.from_writer-writer.ensures in
    let done = c.in_ok-put_report.ensures (record {
      setup = from.cfg ∙ c.new.ensures;
      fields = from.fields;
      clean = from.wrote;
      text_is = rw (from.wtr, c.new-2.ensures.items, from.empty) refl;
    }) in
    cc (done.text_is, c.in-Ok.ensures.ok)
