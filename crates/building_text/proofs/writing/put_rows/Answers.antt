use Rattle.std.proofs.Common.{◌≡◌, ◌++◌, ℕ, ap, refl, sym, arith, ◌∙◌}
use Rattle.std.specs.List.{flat_map, range_with_len}
use Rattle.text_sections.specs.Canonical.{line_text}
use Rattle.building_text.specs.Written.{row_line}
use Rattle.building_text.proofs.WrittenLemmas.{wrote_one, lines_map}
use Rattle.building_text.proofs.writing.put_rows.Goals as goal

pub loop-floor-preserved : goal.loop-floor-preserved
loop-floor-preserved c =
    let t = c.args.travel.now in
    wrote_one (λ f. line_text (row_line t.floors t f)) c.args.out.now.items c.loop-floor.out.items c.put_row.new.out.items
    (line_text (row_line t.floors t c.loop-floor.floor)) c.loop-floor.floor c.loop-floor.invariant c.in_ok-put_row.ensures refl

pub returns : goal.returns
returns c =
    let t = c.args.travel.now in
    let all : c.loop-floor.floor ≡ t.floors = omega (arith, c.floors-floor-end.ensures.value) in
    c.loop-floor.invariant ∙ ap (λ (n : ℕ). c.args.out.now.items ++ flat_map (λ f. line_text (row_line t.floors t f)) (range_with_len 0 n)) all
    ∙ ap (λ text. c.args.out.now.items ++ text) (sym (lines_map (row_line t.floors t) (range_with_len 0 t.floors)))
