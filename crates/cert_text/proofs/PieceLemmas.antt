-- A twig that is being read goes as the whole section does.
use Rattle.std.proofs.Common.{◌≡◌, ℕ, ◌+◌, ◌-◌, Bool, List, [], ◌∷◌, ◌++◌, Option, None, Some, Ok, refl, sym, ap, ◌∙◌, subst, arith, append-nil}
use Rattle.elevator_model.specs.Snapshot.{Snapshot}
use Rattle.search_model.specs.declared.Leaf.{Leaf}
use Rattle.search_model.specs.declared.Twig.{Twig}
use Rattle.search_model.specs.declared.Twig.TheVariants.{Split, Leaf as Tip}
use Rattle.lift_text.specs.Reading.{Reading, line_with, finished, bad_line, past_limit}
use Rattle.lift_text.specs.declared.codes.TextCode.{TextCode}
use Rattle.lift_text.specs.declared.codes.TextCode.TheVariants.{CutShort}
use Rattle.text_sections.specs.Judging.{◌>>=◌}
use Rattle.text_sections.specs.Sections.{Line, Step, goes_on, is_whole, is_bad, step_of, refused, too_long, continued, outcome}
use Rattle.text_sections.specs.Canonical.{Goes, IsMade}
use Rattle.text_sections.proofs.StepLemmas.{then-ok}
use Rattle.cert_text.specs.declared.kinds.Begun.{Begun}
use Rattle.cert_text.specs.declared.kinds.Begun.TheVariants.{Nothing, Split as SplitBegun, Leaf as LeafBegun, End as Ended, Failed}
use Rattle.cert_text.specs.declared.kinds.Entry.{Entry}
use Rattle.cert_text.specs.declared.kinds.Entry.TheVariants.{Split as SplitEntry, Leaf as LeafEntry, Price as PriceEntry, Worth as WorthEntry, End as EndEntry}
use Rattle.cert_text.specs.Entries.{Standing, entry_in}
use Rattle.cert_text.specs.Drafts.{Draft, empty_leaf, ends_with_leaf, leaf_with_price, leaf_with_worth, standing, taken, after}
use Rattle.cert_text.specs.Pieces.{Reader, TwigDraft, has_leaf, leaf_twig, leaf_begun, piece_standing, piece_taken, after_piece, reader_behind}
use Rattle.cert_text.specs.Readers.{failure_of, twigs_begun, FitsBegun, drafted, IsNoneAtEnd}
use Rattle.cert_text.proofs.EntryLemmas.{step_goes, step_whole, step_bad, Says, entry_says}
use Rattle.cert_text.proofs.TreeLemmas.{leaf_at_end, changed_at_end}
use Rattle.cert_text.proofs.SoundLemmas.{draft}

module _ (s : Snapshot) where
  -- a reader in the midst of a piece, and at its end
  abbrev pub midway : TwigDraft → Reader
  midway p = record { places = p.places; claims = p.claims; begun = leaf_begun p.leaf }

  abbrev pub at_end : TwigDraft → Reader
  at_end p = record { places = p.places; claims = p.claims; begun = p.begun }

  -- a piece of this snapshot that may be read on
  pub record IsPiece (p : TwigDraft) (handed : List Twig) : Type 0 where
    pub snapshot : p.snapshot ≡ s
    pub fits : FitsBegun (leaf_begun p.leaf) p.places handed

  in_leaf_is : (leaf : Option Leaf) (places : ℕ) (handed : List Twig) → FitsBegun (leaf_begun leaf) places handed
      → ends_with_leaf (handed ++ twigs_begun (leaf_begun leaf)) ≡ has_leaf leaf
  in_leaf_is None places handed fits = ap ends_with_leaf (append-nil handed) ∙ fits.1
  in_leaf_is (Some leaf) places handed fits = leaf_at_end handed (Tip leaf)

  same_standing : (p : TwigDraft) (handed : List Twig) → IsPiece p handed → standing (drafted s (midway p) handed) ≡ piece_standing p
  same_standing p handed is =
      let at : Snapshot → Bool → Standing = λ x b. record { snapshot = x; in_leaf = b; places = p.places; claims = p.claims } in
      ap (λ (b : Bool). at s b) (in_leaf_is p.leaf p.places handed is.fits) ∙ ap (λ (x : Snapshot). at x (has_leaf p.leaf)) (sym is.snapshot)

  -- what a line does that is an entry
  after_is : (p : TwigDraft) (handed : List Twig) (words : Line) (e : Entry) → IsPiece p handed → entry_in (piece_standing p) words ≡ Ok e
      → after (drafted s (midway p) handed) words ≡ taken (drafted s (midway p) handed) e
  after_is p handed words e is h =
      let d = drafted s (midway p) handed in
      ap step_of (then-ok (entry_in (standing d) words) (λ x. Ok (taken d x)) e (taken d e)
      (ap (λ (at : Standing). entry_in at words) (same_standing p handed is) ∙ h) refl)

  -- ---- a line after which the piece goes on

  abbrev piece : Snapshot → ℕ → ℕ → Option Leaf → Option Twig → Begun → TwigDraft
  piece x places claims leaf ready begun = record { snapshot = x; places = places; claims = claims; leaf = leaf; ready = ready; begun = begun }

  abbrev GoesOn : Draft → List Twig → Entry → TwigDraft → Type 0
  GoesOn d handed e next = (taken d e ≡ goes_on (drafted s (midway next) handed)) × IsPiece next handed

  goes_by : (x : Snapshot) (places claims : ℕ) (leaf : Option Leaf) (ready : Option Twig) (begun : Begun) (handed : List Twig) (words : Line) (e : Entry)
      (next : TwigDraft) → IsPiece (piece x places claims leaf ready begun) handed
      → Says (piece_standing (piece x places claims leaf ready begun)) words e → piece_taken (piece x places claims leaf ready begun) e ≡ goes_on next
      → GoesOn (drafted s (midway (piece x places claims leaf ready begun)) handed) handed e next
  goes_by x places claims None ready begun handed words (SplitEntry j part) next is says h = absurd cc
  goes_by x places claims (Some leaf) ready begun handed words (SplitEntry j part) next is says h = absurd cc
  goes_by x places claims None ready begun handed words LeafEntry next is says h =
      let d = drafted s (midway (piece x places claims None ready begun)) handed in
      let made = piece x (places - 1) claims (Some empty_leaf) ready begun in
      let same : made ≡ next = cc in
      let shape : taken d LeafEntry ≡ goes_on (drafted s (midway made) handed) =
      ap (λ (hs : List Twig). goes_on (draft s (places - 1) claims (hs ++ Tip empty_leaf ∷ []))) (append-nil handed) in
      subst (λ (p : TwigDraft). GoesOn d handed LeafEntry p) same (shape, record { snapshot = is.snapshot; fits = tt })
  goes_by x places claims (Some leaf) ready begun handed words LeafEntry next is says h = absurd cc
  goes_by x places claims None ready begun handed words (PriceEntry price) next is says h = absurd (let none = says.1 in cc)
  goes_by x places claims (Some leaf) ready begun handed words (PriceEntry price) next is says h =
      let d = drafted s (midway (piece x places claims (Some leaf) ready begun)) handed in
      let made = piece x places claims (Some (leaf_with_price leaf price)) ready begun in
      let same : made ≡ next = cc in
      let shape : taken d (PriceEntry price) ≡ goes_on (drafted s (midway made) handed) =
      ap (λ (ts : List Twig). goes_on (draft s places claims ts)) (changed_at_end (λ l. leaf_with_price l price) handed (Tip leaf)) in
      subst (λ (p : TwigDraft). GoesOn d handed (PriceEntry price) p) same (shape, record { snapshot = is.snapshot; fits = tt })
  goes_by x places claims None ready begun handed words (WorthEntry worth) next is says h = absurd (let none = says.1 in cc)
  goes_by x places claims (Some leaf) ready begun handed words (WorthEntry worth) next is says h =
      let d = drafted s (midway (piece x places claims (Some leaf) ready begun)) handed in
      let made = piece x places (claims + worth.claim) (Some (leaf_with_worth leaf worth)) ready begun in
      let same : made ≡ next = cc in
      let shape : taken d (WorthEntry worth) ≡ goes_on (drafted s (midway made) handed) =
      ap (λ (ts : List Twig). goes_on (draft s places (claims + worth.claim) ts)) (changed_at_end (λ l. leaf_with_worth l worth) handed (Tip leaf)) in
      subst (λ (p : TwigDraft). GoesOn d handed (WorthEntry worth) p) same (shape, record { snapshot = is.snapshot; fits = tt })
  goes_by x places claims leaf ready begun handed words EndEntry next is says h = absurd cc

  line_goes : (p next : TwigDraft) (handed : List Twig) (words : Line) → IsPiece p handed → after_piece p words ≡ goes_on next
      → (after (drafted s (midway p) handed) words ≡ goes_on (drafted s (midway next) handed)) × IsPiece next handed
  line_goes p next handed words is h =
      let one = step_goes (entry_in (piece_standing p) words) (piece_taken p) next h in
      let by = goes_by p.snapshot p.places p.claims p.leaf p.ready p.begun handed words one.0 next is (entry_says (piece_standing p) words one.0 one.1) one.2 in
      (after_is p handed words one.0 is one.1 ∙ by.0, by.1)

  pub lines_go : (lines : List Line) (p end : TwigDraft) (handed : List Twig) → IsPiece p handed → Goes after_piece lines p end
      → Goes after lines (drafted s (midway p) handed) (drafted s (midway end) handed) × IsPiece end handed
  lines_go [] p end handed is goes = (ap (λ (q : TwigDraft). drafted s (midway q) handed) goes, subst (λ (q : TwigDraft). IsPiece q handed) goes is)
  lines_go (words ∷ lines) p end handed is goes =
      let one = line_goes p goes.0 handed words is goes.1 in
      let rest = lines_go lines goes.0 end handed one.1 goes.2 in
      ((drafted s (midway goes.0) handed, one.0, rest.0), rest.1)

  -- ---- a line with which the piece is whole

  abbrev pub Stepped : Begun → Step Draft → Draft → Type 0
  Stepped Nothing step d = step ≡ goes_on d
  Stepped (SplitBegun j part) step d = step ≡ goes_on d
  Stepped (LeafBegun leaf) step d = step ≡ goes_on d
  Stepped Ended step d = step ≡ is_whole d
  Stepped (Failed fault) step d = ⊥

  abbrev pub IsWholeWith : Step Draft → List Twig → TwigDraft → Type 0
  IsWholeWith step handed end = (twig : Twig) × (end.ready ≡ Some twig) × Stepped end.begun step (drafted s (at_end end) (handed ++ twig ∷ []))
      × FitsBegun end.begun end.places (handed ++ twig ∷ [])

  whole_by : (x : Snapshot) (places claims : ℕ) (leaf : Option Leaf) (ready : Option Twig) (begun : Begun) (handed : List Twig) (words : Line) (e : Entry)
      (end : TwigDraft) → IsPiece (piece x places claims leaf ready begun) handed
      → Says (piece_standing (piece x places claims leaf ready begun)) words e → piece_taken (piece x places claims leaf ready begun) e ≡ is_whole end
      → IsWholeWith (taken (drafted s (midway (piece x places claims leaf ready begun)) handed) e) handed end
  whole_by x places claims None ready begun handed words (SplitEntry j part) end is says h =
      let d = drafted s (midway (piece x places claims None ready begun)) handed in
      let made = piece x (places + 1) claims None (Some (Split j part)) Nothing in
      let same : made ≡ end = cc in
      let shape : taken d (SplitEntry j part) ≡ goes_on (drafted s (at_end made) (handed ++ Split j part ∷ [])) =
      ap (λ (hs : List Twig). goes_on (draft s (places + 1) claims (hs ++ Split j part ∷ []))) (append-nil handed)
      ∙ ap (λ (ts : List Twig). goes_on (draft s (places + 1) claims ts)) (sym (append-nil (handed ++ Split j part ∷ []))) in
      subst (λ (p : TwigDraft). IsWholeWith (taken d (SplitEntry j part)) handed p) same
      (Split j part, refl, shape, (omega arith, leaf_at_end handed (Split j part)))
  whole_by x places claims (Some leaf) ready begun handed words (SplitEntry j part) end is says h =
      let d = drafted s (midway (piece x places claims (Some leaf) ready begun)) handed in
      let made = piece x (places + 1) claims None (Some (Tip leaf)) (SplitBegun j part) in
      let same : made ≡ end = cc in
      subst (λ (p : TwigDraft). IsWholeWith (taken d (SplitEntry j part)) handed p) same (Tip leaf, refl, refl, omega arith)
  whole_by x places claims None ready begun handed words LeafEntry end is says h = absurd cc
  whole_by x places claims (Some leaf) ready begun handed words LeafEntry end is says h =
      let d = drafted s (midway (piece x places claims (Some leaf) ready begun)) handed in
      let made = piece x (places - 1) claims None (Some (Tip leaf)) (LeafBegun empty_leaf) in
      let same : made ≡ end = cc in
      subst (λ (p : TwigDraft). IsWholeWith (taken d LeafEntry) handed p) same (Tip leaf, refl, refl, tt)
  whole_by x places claims leaf ready begun handed words (PriceEntry price) end is says h = absurd cc
  whole_by x places claims leaf ready begun handed words (WorthEntry worth) end is says h = absurd cc
  whole_by x places claims None ready begun handed words EndEntry end is says h =
      absurd (let some = is.fits.0 in let none = says.1 in omega (arith, some, none))
  whole_by x places claims (Some leaf) ready begun handed words EndEntry end is says h =
      let d = drafted s (midway (piece x places claims (Some leaf) ready begun)) handed in
      let made = piece x places claims None (Some (Tip leaf)) Ended in
      let same : made ≡ end = cc in
      let shape : taken d EndEntry ≡ is_whole (drafted s (at_end made) (handed ++ Tip leaf ∷ [])) =
      ap (λ (ts : List Twig). is_whole (draft s places claims ts)) (sym (append-nil (handed ++ Tip leaf ∷ []))) in
      subst (λ (p : TwigDraft). IsWholeWith (taken d EndEntry) handed p) same (Tip leaf, refl, shape, says.1)

  pub line_whole : (p end : TwigDraft) (handed : List Twig) (words : Line) → IsPiece p handed → after_piece p words ≡ is_whole end
      → IsWholeWith (after (drafted s (midway p) handed) words) handed end
  line_whole p end handed words is h =
      let one = step_whole (entry_in (piece_standing p) words) (piece_taken p) end h in
      let by = whole_by p.snapshot p.places p.claims p.leaf p.ready p.begun handed words one.0 end is (entry_says (piece_standing p) words one.0 one.1) one.2 in
      subst (λ (step : Step Draft). IsWholeWith step handed end) (sym (after_is p handed words one.0 is one.1)) by

  -- no call has failed then
  sound_by : (x : Snapshot) (places claims : ℕ) (leaf : Option Leaf) (ready : Option Twig) (begun : Begun) (e : Entry) (end : TwigDraft)
      → piece_taken (piece x places claims leaf ready begun) e ≡ is_whole end → failure_of end.begun ≡ None
  sound_by x places claims None ready begun (SplitEntry j part) end h =
      let same : piece x (places + 1) claims None (Some (Split j part)) Nothing ≡ end = cc in
      ap (λ (q : TwigDraft). failure_of q.begun) (sym same)
  sound_by x places claims (Some leaf) ready begun (SplitEntry j part) end h =
      let same : piece x (places + 1) claims None (Some (Tip leaf)) (SplitBegun j part) ≡ end = cc in
      ap (λ (q : TwigDraft). failure_of q.begun) (sym same)
  sound_by x places claims None ready begun LeafEntry end h = absurd cc
  sound_by x places claims (Some leaf) ready begun LeafEntry end h =
      let same : piece x (places - 1) claims None (Some (Tip leaf)) (LeafBegun empty_leaf) ≡ end = cc in
      ap (λ (q : TwigDraft). failure_of q.begun) (sym same)
  sound_by x places claims leaf ready begun (PriceEntry price) end h = absurd cc
  sound_by x places claims leaf ready begun (WorthEntry worth) end h = absurd cc
  sound_by x places claims leaf ready begun EndEntry end h =
      let same : piece x places claims None (leaf_twig leaf) Ended ≡ end = cc in
      ap (λ (q : TwigDraft). failure_of q.begun) (sym same)

  pub sound_end : (p end : TwigDraft) → IsMade after_piece p end → failure_of end.begun ≡ None
  sound_end p end is_made =
      let b = is_made.1.before in
      let one = step_whole (entry_in (piece_standing b) is_made.1.last) (piece_taken b) end is_made.1.whole in
      sound_by b.snapshot b.places b.claims b.leaf b.ready b.begun one.0 end one.2

  -- no twig is whole only at the end
  none_by : (x : Snapshot) (places claims : ℕ) (leaf : Option Leaf) (ready : Option Twig) (begun : Begun) (e : Entry) (end : TwigDraft)
      → piece_taken (piece x places claims leaf ready begun) e ≡ is_whole end → IsNoneAtEnd (Ok end.ready) (reader_behind end)
  none_by x places claims None ready begun (SplitEntry j part) end h =
      let same : piece x (places + 1) claims None (Some (Split j part)) Nothing ≡ end = cc in
      subst (λ (q : TwigDraft). IsNoneAtEnd (Ok q.ready) (reader_behind q)) same tt
  none_by x places claims (Some leaf) ready begun (SplitEntry j part) end h =
      let same : piece x (places + 1) claims None (Some (Tip leaf)) (SplitBegun j part) ≡ end = cc in
      subst (λ (q : TwigDraft). IsNoneAtEnd (Ok q.ready) (reader_behind q)) same tt
  none_by x places claims None ready begun LeafEntry end h = absurd cc
  none_by x places claims (Some leaf) ready begun LeafEntry end h =
      let same : piece x (places - 1) claims None (Some (Tip leaf)) (LeafBegun empty_leaf) ≡ end = cc in
      subst (λ (q : TwigDraft). IsNoneAtEnd (Ok q.ready) (reader_behind q)) same tt
  none_by x places claims leaf ready begun (PriceEntry price) end h = absurd cc
  none_by x places claims leaf ready begun (WorthEntry worth) end h = absurd cc
  none_by x places claims None ready begun EndEntry end h =
      let same : piece x places claims None None Ended ≡ end = cc in
      subst (λ (q : TwigDraft). IsNoneAtEnd (Ok q.ready) (reader_behind q)) same refl
  none_by x places claims (Some leaf) ready begun EndEntry end h =
      let same : piece x places claims None (Some (Tip leaf)) Ended ≡ end = cc in
      subst (λ (q : TwigDraft). IsNoneAtEnd (Ok q.ready) (reader_behind q)) same tt

  pub none_end : (p end : TwigDraft) → IsMade after_piece p end → IsNoneAtEnd (Ok end.ready) (reader_behind end)
  none_end p end is_made =
      let b = is_made.1.before in
      let one = step_whole (entry_in (piece_standing b) is_made.1.last) (piece_taken b) end is_made.1.whole in
      none_by b.snapshot b.places b.claims b.leaf b.ready b.begun one.0 end one.2

  -- ---- a bad line

  never_split : (p : TwigDraft) (j part : ℕ) (leaf : Option Leaf) (code : TextCode) → p.leaf ≡ leaf → piece_taken p (SplitEntry j part) ≡ is_bad code → ⊥
  never_split p j part None code is h = let e = ap (λ (l : Option Leaf). piece_taken (record p { leaf = l }) (SplitEntry j part)) is in cc
  never_split p j part (Some leaf) code is h = let e = ap (λ (l : Option Leaf). piece_taken (record p { leaf = l }) (SplitEntry j part)) is in cc

  never_leaf : (p : TwigDraft) (leaf : Option Leaf) (code : TextCode) → p.leaf ≡ leaf → piece_taken p LeafEntry ≡ is_bad code → ⊥
  never_leaf p None code is h = let e = ap (λ (l : Option Leaf). piece_taken (record p { leaf = l }) LeafEntry) is in cc
  never_leaf p (Some leaf) code is h = let e = ap (λ (l : Option Leaf). piece_taken (record p { leaf = l }) LeafEntry) is in cc

  never_bad : (p : TwigDraft) (code : TextCode) (e : Entry) → piece_taken p e ≡ is_bad code → ⊥
  never_bad p code (SplitEntry j part) h = never_split p j part p.leaf code refl h
  never_bad p code LeafEntry h = never_leaf p p.leaf code refl h
  never_bad p code (PriceEntry price) h = cc
  never_bad p code (WorthEntry worth) h = cc
  never_bad p code EndEntry h = cc

  line_bad : (p : TwigDraft) (handed : List Twig) (words : Line) (code : TextCode) → IsPiece p handed → after_piece p words ≡ is_bad code
      → after (drafted s (midway p) handed) words ≡ is_bad code
  line_bad p handed words code is h =
      let d = drafted s (midway p) handed in
      let same = ap (λ (at : Standing). step_of (entry_in at words >>= λ e. Ok (taken d e))) (same_standing p handed is) in
      same ∙ step_bad (entry_in (piece_standing p) words) (piece_taken p) (taken d) code (never_bad p code) h

  -- ---- what is refused of the piece is refused of the section

  module _ (handed : List Twig) where
    refused_by : (one : Step TwigDraft) (n : ℕ) (words : Line) (more : Reading) (p : TwigDraft) (line : ℕ) (code : TextCode) → IsPiece p handed
        → after_piece p words ≡ one
        → ((q : TwigDraft) → IsPiece q handed → outcome after_piece more q ≡ refused line code
        → outcome after more (drafted s (midway q) handed) ≡ refused line code)
        → continued one n more (outcome after_piece more) ≡ refused line code
        → continued (after (drafted s (midway p) handed) words) n more (outcome after more) ≡ refused line code
    refused_by (goes_on q) n words more p line code is step later e =
        let one = line_goes p q handed words is step in
        ap (λ (x : Step Draft). continued x n more (outcome after more)) one.0 ∙ later q one.1 e
    refused_by (is_whole q) n words more p line code is step later e = absurd cc
    refused_by (is_bad found) n words more p line code is step later e =
        let numbers : n ≡ line = cc in
        let codes : found ≡ code = cc in
        ap (λ (x : Step Draft). continued x n more (outcome after more)) (line_bad p handed words found is step) ∙ ap (λ (k : ℕ). refused k found) numbers
        ∙ ap (λ (k : TextCode). refused line k) codes

    pub refused_same : (read : Reading) (p : TwigDraft) (line : ℕ) (code : TextCode) → IsPiece p handed → outcome after_piece read p ≡ refused line code
        → outcome after read (drafted s (midway p) handed) ≡ refused line code
    refused_same (line_with n words more) p line code is e =
        refused_by (after_piece p words) n words more p line code is refl (λ q is_piece bad. refused_same more q line code is_piece bad) e
    refused_same (finished lines) p line code is e =
        (let l : lines + 1 ≡ line = cc in let c : CutShort ≡ code = cc in ap (λ (k : ℕ). refused k CutShort) l ∙ ap (λ (k : TextCode). refused line k) c)
    refused_same (bad_line n found) p line code is e =
        (let l : n ≡ line = cc in let c : found ≡ code = cc in ap (λ (k : ℕ). refused k found) l ∙ ap (λ (k : TextCode). refused line k) c)
    refused_same past_limit p line code is e = absurd cc

    long_by : (one : Step TwigDraft) (n : ℕ) (words : Line) (more : Reading) (p : TwigDraft) → IsPiece p handed → after_piece p words ≡ one
        → ((q : TwigDraft) → IsPiece q handed → outcome after_piece more q ≡ too_long → outcome after more (drafted s (midway q) handed) ≡ too_long)
        → continued one n more (outcome after_piece more) ≡ too_long
        → continued (after (drafted s (midway p) handed) words) n more (outcome after more) ≡ too_long
    long_by (goes_on q) n words more p is step later e =
        let one = line_goes p q handed words is step in
        ap (λ (x : Step Draft). continued x n more (outcome after more)) one.0 ∙ later q one.1 e
    long_by (is_whole q) n words more p is step later e = absurd cc
    long_by (is_bad found) n words more p is step later e = absurd cc

    pub long_same : (read : Reading) (p : TwigDraft) → IsPiece p handed → outcome after_piece read p ≡ too_long
        → outcome after read (drafted s (midway p) handed) ≡ too_long
    long_same (line_with n words more) p is e = long_by (after_piece p words) n words more p is refl (λ q is_piece long. long_same more q is_piece long) e
    long_same (finished lines) p is e = absurd cc
    long_same (bad_line n found) p is e = absurd cc
    long_same past_limit p is e = refl
