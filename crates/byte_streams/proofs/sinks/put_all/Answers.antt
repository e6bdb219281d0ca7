use Rattle.std.proofs.Common.{arith, rules}
use Rattle.byte_streams.proofs.KnownBytes.{gained_more}
use Rattle.byte_streams.proofs.sinks.put_all.Goals as goal

pub loop-done-preserved : goal.loop-done-preserved
loop-done-preserved g c =
    let now = c.in_ok-done.ensures.gained in
    record {
      within = search rules;
      gained = gained_more _ _ _ _ _ _ c.loop-done.invariant.gained now;
      counted = omega arith;
    }
