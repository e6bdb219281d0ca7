use Rattle.std.proofs.Common.{length, rules, ◌≡◌, ℕ, ◌<◌, ◌^◌, true, sym, ap, ◌∙◌, subst, set, List}
use Rattle.std.proofs.lemmas.List.{length-set}
use Rattle.search_model.specs.Nodes.{is_part, set_of, rest_of}
use Rattle.assign_branch.proofs.SplitLaws.{AreOfSplit, keeps_plans, are_nodes}
use Rattle.assign_branch.proofs.splits.split.Goals as goal

of_split : (c : goal.After-give-2) → AreOfSplit c.args.from.now c.give.new.self c.give-2.new.self c.args.call c.args.part
of_split c =
    let whole : c.set-whole.result ≡ set_of c.args.from.now c.args.call = c.set-whole.ensures in
    let tested : c.is_part.result ≡ true = search rules in
    let rest : c.rest.result ≡ rest_of c.set-whole.result c.args.part = c.rest.ensures in
    record {
      part_is = subst (λ (x : ℕ). is_part x c.args.part ≡ true) whole (sym c.is_part.ensures ∙ tested);
      first_is = c.give.ensures ∙ ap (λ (n : List ℕ). set n c.args.call c.args.part) c.copy_from.ensures;
      second_is = c.give-2.ensures ∙ ap (λ (n : List ℕ). set n c.args.call c.rest.result) c.copy_from-2.ensures
          ∙ ap (λ (x : ℕ). set c.args.from.now c.args.call x) (rest ∙ ap (λ (x : ℕ). rest_of x c.args.part) whole);
    }

pub returns-clause-plans : goal.returns-clause-plans
returns-clause-plans c = keeps_plans c.args.from.now c.give.new.self c.give-2.new.self c.args.call c.args.part (of_split c)

pub returns-clause-nodes : goal.returns-clause-nodes
returns-clause-nodes c =
    let small : c.args.part < 2 ^ 16 = search rules in
    are_nodes c.args.from.now c.give.new.self c.give-2.new.self c.args.call c.args.part small (of_split c)

pub returns-clause-calls : goal.returns-clause-calls
returns-clause-calls c =
    let of = of_split c in (
      ap length of.first_is ∙ length-set c.args.from.now c.args.call c.args.part,
      ap length of.second_is
          ∙ length-set c.args.from.now c.args.call (rest_of (set_of c.args.from.now c.args.call) c.args.part),
    )
