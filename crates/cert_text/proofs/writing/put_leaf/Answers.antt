use Rattle.std.proofs.Common.{List, ◌++◌, ◌∙◌, ap, map}
use Rattle.search_model.specs.declared.PriceOf.{PriceOf}
use Rattle.search_model.specs.declared.WorthOf.{WorthOf}
use Rattle.text_sections.specs.Canonical.{lines_text}
use Rattle.cert_text.specs.Texts.{price_words, worth_words}
use Rattle.cert_text.proofs.LineTexts.{begins_behind, err_then, ok_then, wrote_leaf}
use Rattle.cert_text.proofs.writing.put_leaf.Goals as goal

pub returns-clause-text : goal.returns-clause-text
returns-clause-text c =
    let s = c.args.snapshot.now in
    let leaf = c.args.leaf.now in
    let first = c.put_line.new.out.items in
    let second = c.put_prices.new.out.items in
    ok_then c.put_worths.result c.put_worths.ensures.text (λ e.
    wrote_leaf s leaf c.args.out.now.items first second c.put_worths.new.out.items c.in_ok-put_line.ensures.ok
    (c.in_ok-put_prices.ensures.text ∙ ap (λ (ps : List PriceOf). first ++ lines_text (map (price_words s) ps)) c.as_slice.ensures)
    (e ∙ ap (λ (ws : List WorthOf). second ++ lines_text (map (worth_words s) ws)) c.as_slice-2.ensures))

pub returns-clause-kept : goal.returns-clause-kept
returns-clause-kept c =
    let old = c.args.out.now.items in
    let second = c.put_prices.new.out.items in
    err_then c.put_worths.result c.put_worths.ensures.kept (λ more.
    begins_behind old second c.put_worths.new.out.items _ _
    (begins_behind old c.put_line.new.out.items second _ _ c.in_ok-put_line.ensures.ok c.in_ok-put_prices.ensures.text) more)
