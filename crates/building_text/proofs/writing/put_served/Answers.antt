use Rattle.std.proofs.Common.{◌≡◌, ◌==◌, ◌++◌, ◌-◌, ◌^◌, Bool, false, cond, [], ◌∷◌, map, ap, sym, subst, ◌∙◌}
use Rattle.std.specs.Prelude.{OnOk, codes, decimal}
use Rattle.std.proofs.lemmas.Bool.{ne_eqb}
use Rattle.building_text.specs.Written.{floors_in}
use Rattle.building_text.proofs.WrittenLemmas.{words_of, later_words}
use Rattle.building_text.proofs.writing.put_served.Goals as goal

pub returns : goal.returns
returns c =
    let floors = c.args.floors in
    let set = c.args.set in
    let some : (set == 2 ^ floors - 1) ≡ false =
    ne_eqb set (2 ^ floors - 1) (λ e. c.if-bits.false (c.bits.ensures ∙ e ∙ sym (c.bits-2.ensures ∙ c.lowest.ensures.set))) in
    let text = words_of (floors_in floors set)
    ∙ ap (λ (all : Bool). later_words (cond all (codes "all" ∷ []) (map decimal (floors_in floors set)))) (sym some) in
    subst (λ t. OnOk c.put_floors.result (c.put_floors.new.out.items ≡ c.args.out.now.items ++ t)) text c.put_floors.ensures
