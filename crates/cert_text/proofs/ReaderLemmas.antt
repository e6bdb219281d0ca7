-- What a reader of twigs has read, from call to call.
use Rattle.std.proofs.Common.{◌≡◌, ℕ, ◌+◌, Bool, true, List, [], ◌∷◌, ◌++◌, Option, None, Some, Result, Ok, Err, refl, sym, ap, ◌∙◌, subst, arith, append_assoc}
use Rattle.std.proofs.Common.{append-nil, IfSome}
use Rattle.std.specs.Prelude.{IsSomeAnd, All}
use Rattle.elevator_model.specs.Snapshot.{Snapshot}
use Rattle.search_model.specs.declared.Leaf.{Leaf}
use Rattle.search_model.specs.declared.Twig.{Twig}
use Rattle.search_model.specs.declared.Twig.TheVariants.{Split}
use Rattle.lift_text.specs.Reading.{TextState, Reading, reading, line_with, finished, bad_line, past_limit}
use Rattle.lift_text.specs.declared.faults.TextFault.{TextFault}
use Rattle.lift_text.specs.declared.faults.TextFault.TheVariants.{Read, TooLong, Bad, NoMemory}
use Rattle.lift_text.specs.declared.codes.TextCode.{TextCode}
use Rattle.lift_text.specs.declared.codes.TextCode.TheVariants.{CutShort}
use Rattle.text_sections.specs.Judging.{Judged, ◌>>=◌}
use Rattle.text_sections.specs.Sections.{Line, Step, goes_on, is_whole, is_bad, step_of, refused, too_long, continued, outcome, ReadAs}
use Rattle.text_sections.specs.Canonical.{BeginsWith, Goes, Makes, IsMade}
use Rattle.text_sections.proofs.CanonicalLemmas.{goes-append, accepted_made}
use Rattle.text_sections.proofs.StepLemmas.{then-ok}
use Rattle.cert_text.specs.declared.kinds.Begun.{Begun}
use Rattle.cert_text.specs.declared.kinds.Begun.TheVariants.{Nothing, Split as SplitBegun, Leaf as LeafBegun, End as Ended, Failed}
use Rattle.cert_text.specs.Trees.{places_left, sum_of_claims, IsTwigWithin}
use Rattle.cert_text.specs.Drafts.{Draft, blank, rooted, judged_head, after}
use Rattle.cert_text.specs.Pieces.{Reader, TwigDraft, leaf_begun, after_piece, after_first}
use Rattle.cert_text.specs.Certs.{StandsFor, IsSaid, IsReadCert, IsRefusedCert}
use Rattle.cert_text.specs.Readers.{twigs_begun, Reaches, drafted, HasRead, IsFront, IsRefused, HandsOut, HandsOutFor, IsBegunFor, IsRefusedFor}
use Rattle.cert_text.proofs.TreeLemmas.{leaf_at_end, places_front, sum_of_front}
use Rattle.cert_text.proofs.SoundLemmas.{front_told, sound}
use Rattle.cert_text.proofs.WithinLemmas.{all_front, all_last, twigs_within, stands_within}
use Rattle.cert_text.proofs.AgainLemmas.{final, outcome_is}
use Rattle.cert_text.proofs.PieceLemmas.{midway, at_end, IsPiece, lines_go, line_whole, Stepped, refused_same, long_same}

-- ---- lines one after the other

begins-append : (xs ys : List Line) (read middle rest : Reading) → BeginsWith xs read middle → BeginsWith ys middle rest → BeginsWith (xs ++ ys) read rest
begins-append [] ys read middle rest begins more = subst (λ (r : Reading). BeginsWith ys r rest) (sym begins) more
begins-append (x ∷ xs) ys read middle rest begins more = (begins.0, begins.1, begins.2, begins-append xs ys begins.1 middle rest begins.3 more)

goes_outcome : (lines : List Line) (state end : Draft) (read rest : Reading) → BeginsWith lines read rest → Goes after lines state end
    → outcome after read state ≡ outcome after rest end
goes_outcome [] state end read rest begins goes = ap (λ (r : Reading). outcome after r state) begins ∙ ap (λ (d : Draft). outcome after rest d) goes
goes_outcome (words ∷ lines) state end read rest begins goes =
    ap (λ (r : Reading). outcome after r state) begins.2
    ∙ ap (λ (x : Step Draft). continued x begins.0 begins.1 (outcome after begins.1)) goes.1
    ∙ goes_outcome lines goes.0 end begins.1 rest begins.3 goes.2

-- the text between, by the lines that stand in it
abbrev Between : List Line → Option TextState → Option TextState → Type 0
Between lines first now = IfSome first (λ text. IsSomeAnd now (λ behind. BeginsWith lines (reading text) (reading behind)))

-- ---- a front of a tree

module _ (s : Snapshot) where
  goes_of : (leaf : Option Leaf) (lines : List Line) (start end : Draft) → Reaches (leaf_begun leaf) lines start end → Goes after lines start end
  goes_of None lines start end reaches = reaches
  goes_of (Some leaf) lines start end reaches = reaches

  front_by : (lines : List Line) (d : Draft) (front more : List Twig) → d.twigs ≡ front ++ more → d.begun ≡ true → Goes after lines (blank s) d → (places : ℕ)
      × IsFront s places front
  front_by lines d front more is begun goes =
      let told = front_told s lines d begun goes in
      let tells = told.4 in
      let twigs : tells.2 ≡ front ++ more = ap (λ (x : Draft). x.twigs) tells.3 ∙ is in
      let all = subst (λ (ts : List Twig). All (IsTwigWithin s) ts) twigs (twigs_within s told.1 tells.2 tells.4.says) in
      let left = places_front 1 front more tells.0 (ap (λ (ts : List Twig). places_left 1 ts) (sym twigs) ∙ tells.4.left) in
      let sum : sum_of_claims tells.2 ≡ sum_of_claims (front ++ more) = ap sum_of_claims twigs in
      let low = sum_of_front front more in
      (left.0, record { twigs = all_front (IsTwigWithin s) front more all; places = left.1; claims = omega (arith, sum, low, tells.4.sums, tells.4.few) })

  front_reached : (begun : Begun) (lines : List Line) (d : Draft) (front more : List Twig) → d.twigs ≡ front ++ more → d.begun ≡ true
      → Reaches begun lines (blank s) d → (places : ℕ) × IsFront s places front
  front_reached Nothing lines d front more is begun goes = front_by lines d front more is begun goes
  front_reached (SplitBegun j part) lines d front more is begun goes = front_by lines d front more is begun goes
  front_reached (LeafBegun leaf) lines d front more is begun goes = front_by lines d front more is begun goes
  front_reached Ended lines d front more is begun makes =
      let within = stands_within s lines d.twigs (sound s lines d makes) in
      let left = places_front 1 front more 0 (ap (λ (ts : List Twig). places_left 1 ts) (sym is) ∙ within.places) in
      let sum : sum_of_claims d.twigs ≡ sum_of_claims (front ++ more) = ap sum_of_claims is in
      let low = sum_of_front front more in (
        left.0,
        record {
          twigs = all_front (IsTwigWithin s) front more (subst (λ (ts : List Twig). All (IsTwigWithin s) ts) is within.twigs);
          places =
              left.1;
          claims = omega (arith, sum, low, within.claims);
        },
      )
  front_reached (Failed fault) lines d front more is begun reaches = absurd reaches

  pub front_handed : (first : Option TextState) (reader : Reader) (handed : List Twig) (now : Option TextState) → HasRead s first reader handed now
      → (places : ℕ) × IsFront s places handed
  front_handed first reader handed now h = front_reached reader.begun h.lines (drafted s reader handed) handed (twigs_begun reader.begun) refl refl h.reaches

  -- ---- a call that reads

  reached : (begun : Begun) (front : List Line) (last : Line) (d end : Draft) → Goes after front (blank s) d → Stepped s begun (after d last) end
      → Reaches begun (front ++ last ∷ []) (blank s) end
  reached Nothing front last d end goes step = goes-append after front (last ∷ []) (blank s) d end goes (end, step, refl)
  reached (SplitBegun j part) front last d end goes step = goes-append after front (last ∷ []) (blank s) d end goes (end, step, refl)
  reached (LeafBegun leaf) front last d end goes step = goes-append after front (last ∷ []) (blank s) d end goes (end, step, refl)
  reached Ended front last d end goes step = record { front = front; last = last; before = d; lines_are = refl; goes = goes; whole = step }
  reached (Failed fault) front last d end goes step = absurd step

  module _ (p : TwigDraft) (same : p.snapshot ≡ s) where
    between : (first before now : Option TextState) (end : TwigDraft) (lines : List Line) → IsMade after_piece p end
        → ReadAs after_piece before p (Ok tt) end now → Between lines first before
        → (more : List Line) × Makes after_piece more p end × Between (lines ++ more) first now
    between None before now end lines is_made read begins = (is_made.0, is_made.1, tt)
    between (Some text) None now end lines is_made read begins = absurd begins
    between (Some text) (Some b) None end lines is_made read begins = absurd read
    between (Some text) (Some b) (Some behind) end lines is_made read begins =
        let found = accepted_made after_piece (reading b) p end (reading behind) read in
        (found.0, found.2, begins-append lines found.0 (reading text) (reading b) (reading behind) begins found.1)

    pub hands_ok : (before now : Option TextState) (end : TwigDraft) → IsMade after_piece p end → ReadAs after_piece before p (Ok tt) end now
        → HandsOutFor s (midway s p) before (Ok end.ready) (at_end s end) now
    hands_ok before now end is_made read = λ first handed h.
        (let is : IsPiece s p handed = record { snapshot = same; fits = h.fits } in
        let between_them = between first before now end h.lines is_made read h.begins in
        let makes = between_them.1 in
        let front = lines_go s makes.front p makes.before handed is makes.goes in
        let whole = line_whole s makes.before end handed makes.last front.1 makes.whole in
        let twig = whole.0 in
        let goes = goes-append after h.lines makes.front (blank s) (drafted s (midway s p) handed) (drafted s (midway s makes.before) handed)
        (goes_of p.leaf h.lines (blank s) (drafted s (midway s p) handed) h.reaches) front.0 in
        let lines_are : h.lines ++ between_them.0 ≡ (h.lines ++ makes.front) ++ makes.last ∷ [] = ap (λ (ls : List Line). h.lines ++ ls) makes.lines_are
        ∙ sym (append_assoc h.lines makes.front (makes.last ∷ [])) in
        let read_on : HasRead s first (at_end s end) (handed ++ twig ∷ []) now = record {
          lines = (h.lines ++ makes.front) ++ makes.last ∷ [];
          fits = whole.3;
          reaches = reached end.begun (h.lines ++ makes.front) makes.last (drafted s (midway s makes.before) handed)
              (drafted s (at_end s end) (handed ++ twig ∷ [])) goes whole.2;
          begins = subst (λ (ls : List Line). Between ls first now) lines_are between_them.2;
        } in
        let front_is = front_handed first (at_end s end) (handed ++ twig ∷ []) now read_on in
        subst (λ (o : Option Twig). HandsOut s first handed (Ok o) (at_end s end) now) (sym whole.1)
        (read_on, all_last (IsTwigWithin s) handed twig front_is.1.twigs, front_is))

    refuses : (first before now : Option TextState) (fault : TextFault) (end : TwigDraft) (handed : List Twig)
        → ReadAs after_piece before p (Err fault) end now → HasRead s first (midway s p) handed before → IsRefused s first fault
    refuses first before now Read end handed read h = tt
    refuses first before now NoMemory end handed read h = tt
    refuses None before now (Bad line code) end handed read h = tt
    refuses None before now TooLong end handed read h = tt
    refuses (Some text) None now (Bad line code) end handed read h = absurd h.begins
    refuses (Some text) None now TooLong end handed read h = absurd h.begins
    refuses (Some text) (Some b) now (Bad line code) end handed read h =
        let d = drafted s (midway s p) handed in
        let is : IsPiece s p handed = record { snapshot = same; fits = h.fits } in
        goes_outcome h.lines (blank s) d (reading text) (reading b) h.begins (goes_of p.leaf h.lines (blank s) d h.reaches)
        ∙ refused_same s handed (reading b) p line code is read
    refuses (Some text) (Some b) now TooLong end handed read h =
        let d = drafted s (midway s p) handed in
        let is : IsPiece s p handed = record { snapshot = same; fits = h.fits } in
        goes_outcome h.lines (blank s) d (reading text) (reading b) h.begins (goes_of p.leaf h.lines (blank s) d h.reaches)
        ∙ long_same s handed (reading b) p is read

    pub hands_err : (before now : Option TextState) (fault : TextFault) (end : TwigDraft) (reader : Reader) → ReadAs after_piece before p (Err fault) end now
        → HandsOutFor s (midway s p) before (Err fault) reader now
    hands_err before now fault end reader read = λ first handed h. refuses first before now fault end handed read h

  -- ---- a call that does not read

  pub hands_split : (places claims j part : ℕ) (before : Option TextState)
      → HandsOutFor s (record { places = places; claims = claims; begun = SplitBegun j part }) before (Ok (Some (Split j part)))
      (record { places = places; claims = claims; begun = Nothing }) before
  hands_split places claims j part before = λ first handed h.
      (let reader : Reader = record { places = places; claims = claims; begun = Nothing } in
      let grown = handed ++ Split j part ∷ [] in
      let d : List Twig → Draft = λ ts. record { snapshot = s; begun = true; places = places; claims = claims; twigs = ts } in
      let read_on : HasRead s first reader grown before = record {
        lines = h.lines;
        fits = (h.fits, leaf_at_end handed (Split j part));
        reaches = subst (λ (ts : List Twig). Goes after h.lines (blank s) (d ts)) (sym (append-nil grown)) h.reaches;
        begins = h.begins;
      } in
      let front_is = front_handed first reader grown before read_on in
      (read_on, all_last (IsTwigWithin s) handed (Split j part) front_is.1.twigs, front_is))

  said_by : (first now : Option TextState) (lines : List Line) (tree : List Twig) → StandsFor s lines tree → Between lines first now → IsSaid first s tree now
  said_by None now lines tree stands begins = (lines, stands)
  said_by (Some text) None lines tree stands begins = absurd begins
  said_by (Some text) (Some behind) lines tree stands begins = (lines, begins, stands)

  pub stands_handed : (places claims : ℕ) (first : Option TextState) (handed : List Twig) (now : Option TextState)
      (h : HasRead s first (record { places = places; claims = claims; begun = Ended }) handed now) → StandsFor s h.lines handed
  stands_handed places claims first handed now h =
      let d = drafted s (record { places = places; claims = claims; begun = Ended }) handed in
      subst (λ (ts : List Twig). StandsFor s h.lines ts) (append-nil handed) (sound s h.lines d h.reaches)

  pub hands_end : (places claims : ℕ) (before : Option TextState)
      → HandsOutFor s (record { places = places; claims = claims; begun = Ended }) before (Ok None)
      (record { places = places; claims = claims; begun = Ended }) before
  hands_end places claims before = λ first handed h.
      (let stands = stands_handed places claims first handed before h in
      (h, said_by first before h.lines handed stands h.begins, stands_within s h.lines handed stands))

  pub hands_failed : (places claims : ℕ) (fault : TextFault) (before : Option TextState) (answer : Result (Option Twig) TextFault) (reader : Reader)
      (now : Option TextState) → HandsOutFor s (record { places = places; claims = claims; begun = Failed fault }) before answer reader now
  hands_failed places claims fault before answer reader now = λ first handed h. absurd h.fits

  -- ---- the first line

  first_by : (judged : Judged ℕ) (end : Bool) → step_of (judged >>= λ _. Ok (is_whole true)) ≡ is_whole end → (n : ℕ) × (judged ≡ Ok n)
  first_by (Ok n) end e = (n, refl)
  first_by (Err code) end e = absurd cc

  first_not_on : (judged : Judged ℕ) (next : Bool) → step_of (judged >>= λ _. Ok (is_whole true)) ≡ goes_on next → ⊥
  first_not_on (Ok n) next e = cc
  first_not_on (Err code) next e = cc

  first_bad : (judged : Judged ℕ) (code : TextCode) → step_of (judged >>= λ _. Ok (is_whole true)) ≡ is_bad code
      → step_of (judged >>= λ _. Ok (goes_on (rooted s))) ≡ is_bad code
  first_bad (Ok n) code e = absurd cc
  first_bad (Err found) code e = let same : found ≡ code = cc in ap is_bad same

  begun_after : (words : Line) (n : ℕ) → judged_head words ≡ Ok n → after (blank s) words ≡ goes_on (rooted s)
  begun_after words n e = ap step_of (then-ok (judged_head words) (λ _. Ok (goes_on (rooted s))) n (goes_on (rooted s)) e refl)

  first_goes : (front : List Line) (last : Line) (start before end : Bool) → Goes after_first front start before → after_first before last ≡ is_whole end
      → Goes after (front ++ last ∷ []) (blank s) (rooted s)
  first_goes [] last start before end goes whole =
      let one = first_by (judged_head last) end whole in
      (rooted s, begun_after last one.0 one.1, refl)
  first_goes (words ∷ front) last start before end goes whole = absurd (first_not_on (judged_head words) goes.0 goes.1)

  makes_first : (lines : List Line) (start end : Bool) → Makes after_first lines start end → Goes after lines (blank s) (rooted s)
  makes_first lines start end makes =
      subst (λ (ls : List Line). Goes after ls (blank s) (rooted s)) (sym makes.lines_are)
      (first_goes makes.front makes.last start makes.before end makes.goes makes.whole)

  abbrev fresh : Reader
  fresh = record { places = 1; claims = 0; begun = Nothing }

  begun_by : (before now : Option TextState) (start end : Bool) → IsMade after_first start end → ReadAs after_first before start (Ok tt) end now
      → HasRead s before fresh [] now
  begun_by None now start end is_made read =
      record { lines = is_made.0; fits = (omega arith, refl); reaches = makes_first is_made.0 start end is_made.1; begins = tt }
  begun_by (Some text) None start end is_made read = absurd read
  begun_by (Some text) (Some behind) start end is_made read =
      let found = accepted_made after_first (reading text) start end (reading behind) read in
      record { lines = found.0; fits = (omega arith, refl); reaches = makes_first found.0 start end found.2; begins = found.1 }

  first_refused : (read : Reading) (start : Bool) (line : ℕ) (code : TextCode) → outcome after_first read start ≡ refused line code
      → outcome after read (blank s) ≡ refused line code
  first_refused (line_with n words more) start line code e = by_step (after_first start words) refl e
    where
      by_step : (one : Step Bool) → after_first start words ≡ one → continued one n more (outcome after_first more) ≡ refused line code
          → continued (after (blank s) words) n more (outcome after more) ≡ refused line code
      by_step (goes_on next) is h = absurd (first_not_on (judged_head words) next is)
      by_step (is_whole end) is h = absurd cc
      by_step (is_bad found) is h =
          let numbers : n ≡ line = cc in
          let codes : found ≡ code = cc in
          ap (λ (x : Step Draft). continued x n more (outcome after more)) (first_bad (judged_head words) found is) ∙ ap (λ (k : ℕ). refused k found) numbers
          ∙ ap (λ (k : TextCode). refused line k) codes
  first_refused (finished lines) start line code e =
      (let l : lines + 1 ≡ line = cc in let c : CutShort ≡ code = cc in ap (λ (k : ℕ). refused k CutShort) l ∙ ap (λ (k : TextCode). refused line k) c)
  first_refused (bad_line n found) start line code e =
      (let l : n ≡ line = cc in let c : found ≡ code = cc in ap (λ (k : ℕ). refused k found) l ∙ ap (λ (k : TextCode). refused line k) c)
  first_refused past_limit start line code e = absurd cc

  first_long : (read : Reading) (start : Bool) → outcome after_first read start ≡ too_long → outcome after read (blank s) ≡ too_long
  first_long (line_with n words more) start e = by_step (after_first start words) refl e
    where
      by_step : (one : Step Bool) → after_first start words ≡ one → continued one n more (outcome after_first more) ≡ too_long
          → continued (after (blank s) words) n more (outcome after more) ≡ too_long
      by_step (goes_on next) is h = absurd (first_not_on (judged_head words) next is)
      by_step (is_whole end) is h = absurd cc
      by_step (is_bad found) is h = absurd cc
  first_long (finished lines) start e = absurd cc
  first_long (bad_line n found) start e = absurd cc
  first_long past_limit start e = refl

  refused_first : (before now : Option TextState) (start end : Bool) (fault : TextFault) → ReadAs after_first before start (Err fault) end now
      → IsRefused s before fault
  refused_first before now start end Read read = tt
  refused_first before now start end NoMemory read = tt
  refused_first None now start end (Bad line code) read = tt
  refused_first None now start end TooLong read = tt
  refused_first (Some text) now start end (Bad line code) read = first_refused (reading text) start line code read
  refused_first (Some text) now start end TooLong read = first_long (reading text) start read

pub begun_for : (before now : Option TextState) (start end : Bool) → IsMade after_first start end → ReadAs after_first before start (Ok tt) end now
    → IsBegunFor before (record { places = 1; claims = 0; begun = Nothing }) now
begun_for before now start end is_made read = λ s. begun_by s before now start end is_made read

pub refused_for : (before now : Option TextState) (start end : Bool) (fault : TextFault) → ReadAs after_first before start (Err fault) end now
    → IsRefusedFor before fault
refused_for before now start end fault read = λ s. refused_first s before now start end fault read

-- ---- a whole certificate

module _ (s : Snapshot) where
  pub said_read : (before now : Option TextState) (tree : List Twig) → IsSaid before s tree now → IsReadCert before s tree now
  said_read None now tree said = (final s tree, refl, tt)
  said_read (Some text) None tree said = absurd said
  said_read (Some text) (Some behind) tree said = (final s tree, refl, outcome_is s said.0 tree (reading behind) said.2 (reading text) said.1)

  pub refused_cert : (before now : Option TextState) (fault : TextFault) → IsRefused s before fault → IsRefusedCert before s fault now
  refused_cert before now Read is = (blank s, by before)
    where
      by : (b : Option TextState) → ReadAs after b (blank s) (Err Read) (blank s) now
      by None = tt
      by (Some text) = tt
  refused_cert before now NoMemory is = (blank s, by before)
    where
      by : (b : Option TextState) → ReadAs after b (blank s) (Err NoMemory) (blank s) now
      by None = tt
      by (Some text) = tt
  refused_cert None now (Bad line code) is = (blank s, tt)
  refused_cert None now TooLong is = (blank s, tt)
  refused_cert (Some text) now (Bad line code) is = (blank s, is)
  refused_cert (Some text) now TooLong is = (blank s, is)
