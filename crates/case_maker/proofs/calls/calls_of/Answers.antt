use Rattle.std.proofs.Common.{◌≡◌, arith}
use Rattle.search_model.specs.Cases.{case_call}
use Rattle.case_maker.proofs.DrawLemmas.{made-push, case_call-next, drawn-four}
use Rattle.case_maker.proofs.calls.calls_of.Goals as goal

pub loop-call-preserved : goal.loop-call-preserved
loop-call-preserved c =
    let start = c.args.draws.now.state in
    let state = c.loop-call.draws.state in
    record {
      calls =
          rw c.in_ok-push.ensures.items
          (made-push (case_call start c.args.floors 0) c.loop-call.call c.loop-call.made.items c.call_of.result c.loop-call.invariant.calls
          (case_call-next start c.args.floors c.loop-call.call state c.call_of.result c.loop-call.invariant.drawn c.call_of.ensures.call));
      drawn = drawn-four start c.loop-call.call state c.call_of.new.draws.state c.loop-call.invariant.drawn c.call_of.ensures.drawn;
    }

pub returns : goal.returns
returns c =
    let all : c.loop-call.call ≡ c.args.calls = omega arith in
    rw (← all) c.loop-call.invariant.calls
