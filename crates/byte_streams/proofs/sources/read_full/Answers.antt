use Rattle.std.proofs.Common.{arith, rules, ap, sym, ◌∙◌}
use Rattle.std.specs.Io.KnownBytes.{prepend_known}
use Rattle.byte_streams.proofs.KnownBytes.{given_more, take-overwritten}
use Rattle.byte_streams.proofs.sources.read_full.Goals as goal

pub loop-filled-preserved : goal.loop-filled-preserved
loop-filled-preserved g c =
    let count = c.in_ok-count.count in
    record {
      within = search rules;
      given = given_more _ _ _ _ _ c.loop-filled.invariant.given c.in_ok-count.ensures.given
          ∙ ap (λ bytes. prepend_known bytes (g.S.Source.left c.read.new.self))
          (sym (take-overwritten c.loop-filled.filled count c.loop-filled.into c.read.new.into _ (omega arith) c.in_ok-count.ensures.bound));
      counted = omega arith;
    }
