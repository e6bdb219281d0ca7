use Rattle.std.proofs.Common.{refl, ap, ◌∙◌, List, length, arith}
use Rattle.std.specs.Prelude.{ℤ}
use Rattle.search_tree.specs.Sheets.{better_of, sheet_of_turn}
use Rattle.root_prices.proofs.kept.KeptTurns.keep.Goals as goal

pub put_turn-requires-clause-count : goal.put_turn-requires-clause-count
put_turn-requires-clause-count c = c.requires.count

pub put_turn-requires-clause-tours : goal.put_turn-requires-clause-tours
put_turn-requires-clause-tours c = c.requires.tours

pub improve-requires-clause-cars : goal.improve-requires-clause-cars
improve-requires-clause-cars c = c.requires.push.few

pub improve-requires-clause-sizes : goal.improve-requires-clause-sizes
improve-requires-clause-sizes c = c.requires.sizes

pub improve-requires-clause-calls : goal.improve-requires-clause-calls
improve-requires-clause-calls c =
    let same = ap length c.deref.ensures.value in
    let few = c.requires.push.calls in
    omega (arith, same, few)

pub returns : goal.returns
returns c =
    let old = c.args.self.now in
    record {
      start = refl;
      series = refl;
      pool = c.in_ok-put_turn.ensures.pool;
      pools = c.put_turn.ensures.cars;
      sheet = c.in_ok-improve.ensures
          ∙ ap (λ (ps : List ℤ). better_of old.sheet (sheet_of_turn ps c.args.cars.now)) c.deref.ensures.value;
    }
