use Rattle.std.proofs.Common.{List, ◌++◌, ◌∙◌, ap}
use Rattle.search_model.specs.declared.Twig.{Twig}
use Rattle.cert_text.specs.Texts.{cert_text}
use Rattle.day_planner.proofs.RowLemmas.{certified-text}
use Rattle.day_planner.proofs.planning.write_certified.Goals as goal

pub returns-clause-written : goal.returns-clause-written
returns-clause-written g c =
    let s = c.args.snapshot.now in
    let claimed = c.in_ok-claimed.claimed in
    let first = c.write_answer.new.out.items in
    record {
      certificate = claimed.tree.twigs;
      certified = c.in_ok-claimed.ensures.certified;
      is_text = certified-text s (record { plan = c.args.stated.plan; cost = c.args.stated.cost; bound = claimed.bound }) claimed.tree.twigs
          c.args.log.now.items first c.write_cert.new.out.items c.in_ok-write_answer.ensures.text
          (c.in_ok-write_cert.ensures.text ∙ ap (λ (twigs : List Twig). first ++ cert_text s twigs) c.as_slice.ensures);
    }
