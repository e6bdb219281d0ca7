use Rattle.std.proofs.Common.{◌∙◌, sym, ap, subst, None, Ok, Err, Option, refl}
use Rattle.search_model.specs.declared.Twig.{Twig}
use Rattle.lift_text.specs.LineReader.{text}
use Rattle.text_sections.proofs.BetweenLemmas.{behind_went}
use Rattle.cert_text.specs.declared.kinds.Begun.TheVariants.{Nothing}
use Rattle.cert_text.specs.Pieces.{Reader, TwigDraft, leaf_begun, reader_behind}
use Rattle.cert_text.specs.Readers.{failure_of, HandsOutFor, IsNoneAtEnd}
use Rattle.cert_text.proofs.PieceLemmas.{midway, sound_end, none_end}
use Rattle.cert_text.proofs.ReaderLemmas.{hands_ok, hands_err}
use Rattle.cert_text.proofs.readers.TreeReader.read_on.Goals as goal

pub returns-in-Ok-clause-twig : goal.returns-in-Ok-clause-twig
returns-in-Ok-clause-twig g c = λ none.
    (let left = g.S.Source.left in
    let s = c.args.snapshot.now in
    let before = text left c.args.lines.now in
    let now = text left c.read_section.new.lines in
    let end = c.read_section.new.section in
    let p : TwigDraft =
    record { snapshot = s; places = c.self.inside.places; claims = c.self.inside.claims; leaf = c.args.leaf; ready = None; begun = Nothing } in
    let law = hands_ok s p refl before now end c.in-Ok.ensures.made (c.in-Ok.ensures.outcome none) in
    let told : HandsOutFor s (midway s p) before (Ok c.behind-reader.result.1) c.behind-reader.result.0 now =
    subst (λ (o : Option Twig). HandsOutFor s (midway s p) before (Ok o) c.behind-reader.result.0 now) (sym c.behind-reader.ensures.twig)
    (subst (λ (r : Reader). HandsOutFor s (midway s p) before (Ok end.ready) r now) (sym c.behind-reader.ensures.reader) law) in
    subst (λ (r : Reader). HandsOutFor s (record c.args.self.now { begun = leaf_begun c.args.leaf }) before (Ok c.behind-reader.result.1) r now)
    (sym c.reader.view_is)
    (subst (λ (r : Reader). HandsOutFor s (record r { begun = leaf_begun c.args.leaf }) before (Ok c.behind-reader.result.1) c.behind-reader.result.0 now)
    c.self.view_is told))

pub returns-in-Ok-clause-sound : goal.returns-in-Ok-clause-sound
returns-in-Ok-clause-sound g c =
    let s = c.args.snapshot.now in
    let end = c.read_section.new.section in
    let p : TwigDraft =
    record { snapshot = s; places = c.self.inside.places; claims = c.self.inside.claims; leaf = c.args.leaf; ready = None; begun = Nothing } in
    ap (λ (r : Reader). failure_of r.begun) (c.reader.view_is ∙ c.behind-reader.ensures.reader) ∙ sound_end s p end c.in-Ok.ensures.made

pub returns-in-Err-clause-twig : goal.returns-in-Err-clause-twig
returns-in-Err-clause-twig g c = λ none.
    (let left = g.S.Source.left in
    let s = c.args.snapshot.now in
    let before = text left c.args.lines.now in
    let now = text left c.read_section.new.lines in
    let p : TwigDraft =
    record { snapshot = s; places = c.self.inside.places; claims = c.self.inside.claims; leaf = c.args.leaf; ready = None; begun = Nothing } in
    let told = hands_err s p refl before now c.in-Err.fault c.read_section.new.section (midway s p) (c.in-Err.ensures.outcome none) in
    subst (λ (r : Reader). HandsOutFor s (record r { begun = leaf_begun c.args.leaf }) before (Err c.in-Err.fault) (midway s p) now) c.self.view_is told)

pub returns-in-Ok-clause-at_end : goal.returns-in-Ok-clause-at_end
returns-in-Ok-clause-at_end g c =
    let s = c.args.snapshot.now in
    let end = c.read_section.new.section in
    let p : TwigDraft =
    record { snapshot = s; places = c.self.inside.places; claims = c.self.inside.claims; leaf = c.args.leaf; ready = None; begun = Nothing } in
    subst (λ (r : Reader). IsNoneAtEnd (Ok c.behind-reader.result.1) r) (sym (c.reader.view_is ∙ c.behind-reader.ensures.reader))
    (subst (λ (o : Option Twig). IsNoneAtEnd (Ok o) (reader_behind end)) (sym c.behind-reader.ensures.twig) (none_end s p end c.in-Ok.ensures.made))

pub returns-in-Ok-clause-went : goal.returns-in-Ok-clause-went
returns-in-Ok-clause-went g c = λ none.
    (let left = g.S.Source.left in
    behind_went (text left c.args.lines.now) (text left c.read_section.new.lines) (c.in-Ok.ensures.behind none))
