use Rattle.std.proofs.Common.{◌≡◌, subst, arith}
use Rattle.call_sets.specs.Counting.{has}
use Rattle.car_layout.specs.Layouts.{LaidOut, fits_in}
use Rattle.car_layout.proofs.TableLemmas.{table_at}
use Rattle.car_layout.proofs.layout.Layout.fitting.Goals as goal

pub returns : goal.returns
returns c = λ j.
    let f = c.self.inside in
    subst (λ (l : LaidOut). has c.index.result.now j ≡ fits_in l.snapshot c.args.persons j) c.self.view_is
    (table_at 9 (fits_in f.snapshot.now) f.fitting.items c.args.persons j c.index.result.now c.self.invariant.4 (omega (arith, c.requires)) c.index.ensures)
