use Rattle.std.proofs.Common.{◌++◌, ◌∷◌, [], ◌∙◌, List, sym, ap, subst}
use Rattle.std.specs.Prelude.{All, codes}
use Rattle.std.specs.List.{flat_map}
use Rattle.answer_text.specs.Plans.{BoardsCalls}
use Rattle.half_plans.specs.declared.Share.{Share}
use Rattle.lift_text.specs.Text.{line}
use Rattle.case_commands.specs.RootTexts.{share_text}
use Rattle.case_commands.proofs.RootTextLemmas.{three_parts}
use Rattle.case_commands.proofs.root_writing.put_halves.Goals as goal

pub put_shares-requires : goal.put_shares-requires
put_shares-requires c = subst (All (λ (x : Share). BoardsCalls c.args.snapshot.now x.tour)) (sym c.as_slice-shares.ensures) c.requires

pub returns : goal.returns
returns c =
    let s = c.args.snapshot.now in
    let a = c.args.answer.now in
    let first = c.put_line.new.out.items in
    three_parts c.args.out.now.items (line (codes "mixture") (a.cost ∷ 2 ∷ [])) (flat_map (share_text s) a.shares)
    (line (codes "end") []) first c.put_shares.new.out.items c.put_line-2.new.out.items c.in_ok-put_line.ensures.ok
    (c.in_ok-put_shares.ensures ∙ ap (λ (xs : List Share). first ++ flat_map (share_text s) xs) c.as_slice-shares.ensures)
    c.in_ok-put_line-2.ensures.ok
