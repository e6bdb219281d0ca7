-- How `day` and `report` end, from what became of the text and what was put.
use Rattle.std.proofs.Common.{rules, ◌≡◌, ℕ, zero, suc, ◌≤◌, List, refl, sym, subst, ap, ◌∙◌, inl, inr, arith, Option, None, Result, Ok, Err}
use Rattle.std.specs.Prelude.{IsSomeAnd, length, option_map, take}
use Rattle.std.specs.Io.KnownBytes.{append_known}
use Rattle.byte_streams.specs.Streams.{Rose}
use Rattle.lift_text.specs.Reading.{whole_text}
use Rattle.lift_text.specs.declared.faults.TextFault.{TextFault}
use Rattle.lift_text.specs.declared.faults.TextFault.TheVariants.{Read as FailedRead, TooLong as LongText, Bad, NoMemory as NoRoom}
use Rattle.day_text.specs.DayOpenings.{HoldsNoOpening, IsDayOpeningRefused}
use Rattle.case_text.specs.CaseTexts.{Tells}
use Rattle.search_model.specs.Reports.{report_of}
use Rattle.service_report.specs.ReportTexts.{report_text}
use Rattle.day_simulator.specs.TextRuns.{DayRan, IsDayText}
use Rattle.day_simulator.specs.declared.day_runs.Ended.{Ended}
use Rattle.day_simulator.specs.declared.row_runs.RunFault.{RunFault}
use Rattle.day_simulator.specs.declared.row_runs.RunFault.TheVariants.{TooLong, Read as RowsUnread, Write as RowsUnwritten, NoMemory}
use Rattle.day_simulator.specs.declared.text_runs.DayFault.TheVariants.{Opening, Rows}
use Rattle.day_simulator.specs.TextRuns.{EndsUnlessFailed}
use Rattle.day_simulator.proofs.StepLemmas.{rose-before}
use Rattle.lift_words.specs.declared.request.DayOptions.{DayOptions}
use Rattle.lift_words.specs.declared.request.SearchOptions.{SearchOptions}
use Rattle.lift_words.specs.Taken.{AreDayOptions, without_certificates}
use Rattle.command_ends.specs.declared.status.Status.{Status}
use Rattle.command_ends.specs.declared.status.Status.TheVariants.{Done, Stopped, Input, Memory}
use Rattle.command_ends.specs.Ends.{Streams, Puts, PutsFault, PutsRefusal, IsRefusalLine}
use Rattle.command_ends.proofs.EndLemmas.{ends_fault, ends_put, fault_memory, put_whole}
use Rattle.lift_text.specs.Shows.{FaultShows}
use Rattle.day_commands.specs.DayOutcome.{RanBy, ToldBy, DayDone, DayEnds, PutsRowsFault, ReportDue, ReportsDay, RunsDay, SolvedBy, most_ahead, status_of_unsolved}
use Rattle.day_commands.proofs.EnoughRows.{stopped-day}
use Rattle.day_commands.proofs.KeptRows.{ran-within}

-- where no text can be at fault, memory ran out
ran_out_of_memory : (fault : TextFault) (result : Status) (old new : Option (List ℕ)) (before after : ℕ) → PutsFault fault result old new before after
    → Tells fault ⊥ → (fault ≡ FailedRead → ⊥) → result ≡ Memory
ran_out_of_memory = fault_memory (λ (fault : TextFault). Tells fault ⊥) (λ number code never. never) (λ never. never)

abbrev BeginsDay : Streams → Type 0
BeginsDay old = IsSomeAnd (option_map whole_text old.left) IsDayText

-- a day was run, with what is right at each row
abbrev RanRight : DayOptions → (left left' taken taken' : Option (List ℕ)) → Result Ended RunFault → Type 0
RanRight options left left' taken taken' result =
    (ahead : List ℕ) × (length ahead ≤ most_ahead) × DayRan (SolvedBy options) (option_map whole_text left) ahead left' taken taken' result

-- ---- `day`

day-done-at : (options : DayOptions) (old new : Streams) (n : ℕ) → DayDone options old new (status_of_unsolved n)
    → RunsDay options old new (status_of_unsolved n)
day-done-at options old new zero done = record { ends = done; completes = λ begins reads writes. inl refl }
day-done-at options old new (suc n) done = record { ends = done; completes = λ begins reads writes. inr (inl refl) }

pub day-done : (options : DayOptions) (old new : Streams) (ended : Ended) (result : Status) → result ≡ status_of_unsolved ended.unsolved
    → RanRight options old.left new.left old.taken new.taken (Ok ended) → RunsDay options old new result
day-done options old new ended result is ran =
    subst (RunsDay options old new) (sym is)
    (day-done-at options old new ended.unsolved
    (record {
      ended = ended;
      ran = ran-within options old.left new.left old.taken new.taken (Ok ended) ran;
      status_is = refl;
      stopped =
          λ is. stopped-day options (option_map whole_text old.left) ran.0 new.left old.taken new.taken ended ran.2 is;
    }))

day-short : (options : DayOptions) (old new : Streams) (result : Status) → result ≡ Memory → DayEnds options old new Memory → RunsDay options old new result
day-short options old new result is ends = subst (RunsDay options old new) (sym is) (record { ends = ends; completes = λ begins reads writes. inr (inr refl) })

-- the refusal line of what begins with no opening
day-refusal : (options : DayOptions) (old new : Streams) (fault : TextFault) (result : Status) (mid : Option (List ℕ)) (before : ℕ) (text : List ℕ)
    → mid ≡ old.taken → old.write_faults ≤ before → IsDayOpeningRefused (option_map whole_text old.left) fault
    → FaultShows (option_map whole_text old.left) fault new.left → (BeginsDay old → ⊥) → IsRefusalLine fault text
    → Puts text Input result mid new.taken before new.write_faults → RunsDay options old new result
day-refusal options old new fault result mid before text same counted refused shows never is_line (inl put) =
    subst (RunsDay options old new) (sym put.0)
    (record {
      ends = inl (record {
        text = text;
        due = record { fault = fault; is_line = is_line; no_day = refused; shows = shows };
        written =
            subst (λ (k : Option (List ℕ)). new.taken ≡ append_known k text) same put.1;
      });
      completes = λ begins reads writes. absurd (never begins);
    })
day-refusal options old new fault result mid before text same counted refused shows never is_line (inr put) =
    subst (RunsDay options old new) (sym put.1)
    (record {
      ends = (
        rose-before old.write_faults before new.write_faults counted put.3,
        inl (record {
          text = text;
          due = record { fault = fault; is_line = is_line; no_day = refused; shows = shows };
          count = put.0;
          within = put.2;
          written =
              subst (λ (k : Option (List ℕ)). new.taken ≡ append_known k (take put.0 text)) same put.4;
        }),
      );
      completes = λ begins reads writes. absurd (never begins);
    })

day-refused : (options : DayOptions) (old new : Streams) (fault : TextFault) (result : Status) (mid : Option (List ℕ)) (before : ℕ) → mid ≡ old.taken
    → old.write_faults ≤ before → IsDayOpeningRefused (option_map whole_text old.left) fault → FaultShows (option_map whole_text old.left) fault new.left
    → (BeginsDay old → ⊥)
    → PutsRefusal fault result mid new.taken before new.write_faults → RunsDay options old new result
day-refused options old new fault result mid before same counted refused shows never (inl line) =
    day-refusal options old new fault result mid before line.0 same counted refused shows never line.1 line.2
day-refused options old new fault result mid before same counted refused shows never (inr none) = day-short options old new result none.0 (inl (none.1 ∙ same))

-- The input begins with no opening, or could not be read so far.
pub day-unopened : (options : DayOptions) (old new : Streams) (fault : TextFault) (result : Status) (mid : Option (List ℕ)) (before : ℕ) → mid ≡ old.taken
    → old.write_faults ≤ before → IsDayOpeningRefused (option_map whole_text old.left) fault → FaultShows (option_map whole_text old.left) fault new.left
    → (fault ≡ FailedRead → HoldsNoOpening (option_map whole_text old.left) new.left) → (BeginsDay old → EndsUnlessFailed (Err (Opening fault)))
    → (fault ≡ FailedRead → Rose old.read_faults new.read_faults) → PutsFault fault result mid new.taken before new.write_faults
    → RunsDay options old new result
day-unopened options old new (Bad line code) result mid before same counted refused shows unread never rose put =
    day-refused options old new (Bad line code) result mid before same counted refused shows never put
day-unopened options old new LongText result mid before same counted refused shows unread never rose put =
    day-refused options old new LongText result mid before same counted refused shows never put
day-unopened options old new FailedRead result mid before same counted refused shows unread never rose put =
    subst (RunsDay options old new) (sym put.0)
    (record {
      ends = (rose refl, inl (record { unwritten = put.1 ∙ same; no_opening = unread refl }));
      completes =
          λ begins reads writes. absurd (reads (rose refl));
    })
day-unopened options old new NoRoom result mid before same counted refused shows unread never rose put =
    day-short options old new result put.0 (inl (put.1 ∙ same))

day-cut : (options : DayOptions) (old new : Streams) (result : Status) (mid : Option (List ℕ)) (before : ℕ) (text : List ℕ) → old.write_faults ≤ before
    → RanBy options old new mid (Err TooLong) → (BeginsDay old → ⊥) → IsRefusalLine LongText text
    → Puts text Input result mid new.taken before new.write_faults → RunsDay options old new result
day-cut options old new result mid before text counted ran never is_line (inl put) =
    subst (RunsDay options old new) (sym put.0)
    (record {
      ends = inr (record { between = mid; ran = ran; then = record { text = text; due = is_line; written = put.1 } });
      completes =
          λ begins reads writes. absurd (never begins);
    })
day-cut options old new result mid before text counted ran never is_line (inr put) =
    subst (RunsDay options old new) (sym put.1)
    (record {
      ends = (
        rose-before old.write_faults before new.write_faults counted put.3,
        inr (inr (record { between = mid; ran = ran; then = record { text = text; due = is_line; count = put.0; within = put.2; written = put.4 } })),
      );
      completes = λ begins reads writes. absurd (never begins);
    })

rose-after : (a b c : ℕ) → b ≤ c → Rose a b → Rose a c
rose-after a b c more rose = search (rules, arith)

-- the rows were not run to their end
day-stopped-within : (options : DayOptions) (old new : Streams) (fault : RunFault) (result : Status) (mid : Option (List ℕ)) (before : ℕ)
    → old.write_faults ≤ before → before ≤ new.write_faults → RanBy options old new mid (Err fault) → (BeginsDay old → EndsUnlessFailed (Err (Rows fault)))
    → (fault ≡ RowsUnread → Rose old.read_faults new.read_faults) → (fault ≡ RowsUnwritten → Rose old.write_faults before)
    → PutsRowsFault fault result mid new.taken before new.write_faults → RunsDay options old new result
day-stopped-within options old new TooLong result mid before counted later ran never read write line =
    day-cut options old new result mid before line.0 counted ran never line.1 line.2
day-stopped-within options old new RowsUnread result mid before counted later ran never read write put =
    subst (RunsDay options old new) (sym put.0)
    (record {
      ends = (read refl, inr (subst (λ (k : Option (List ℕ)). RanBy options old new k (Err RowsUnread)) (sym put.1) ran));
      completes =
          λ begins reads writes. absurd (reads (read refl));
    })
day-stopped-within options old new RowsUnwritten result mid before counted later ran never read write put =
    let rose = rose-after old.write_faults before new.write_faults later (write refl) in
    subst (RunsDay options old new) (sym put.0)
    (record {
      ends = (rose, inr (inl (subst (λ (k : Option (List ℕ)). RanBy options old new k (Err RowsUnwritten)) (sym put.1) ran)));
      completes =
          λ begins reads writes. absurd (writes rose);
    })
day-stopped-within options old new NoMemory result mid before counted later ran never read write put =
    day-short options old new result put.0 (inr (subst (λ (k : Option (List ℕ)). RanBy options old new k (Err NoMemory)) (sym put.1) ran))

-- The rows were not run to their end.
pub day-stopped : (options : DayOptions) (old new : Streams) (fault : RunFault) (result : Status) (mid : Option (List ℕ)) (before : ℕ)
    → old.write_faults ≤ before → before ≤ new.write_faults → RanRight options old.left new.left old.taken mid (Err fault)
    → (BeginsDay old → EndsUnlessFailed (Err (Rows fault)))
    → (fault ≡ RowsUnread → Rose old.read_faults new.read_faults) → (fault ≡ RowsUnwritten → Rose old.write_faults before)
    → PutsRowsFault fault result mid new.taken before new.write_faults → RunsDay options old new result
day-stopped options old new fault result mid before counted later ran =
    day-stopped-within options old new fault result mid before counted later (ran-within options old.left new.left old.taken mid (Err fault) ran)

-- ---- `report`

report-put-at : (options : DayOptions) (old new : Streams) (n : ℕ) (result : Status) (text : List ℕ)
    → ReportDue options old.left new.left (status_of_unsolved n) text
    → Puts text (status_of_unsolved n) result old.taken new.taken old.write_faults new.write_faults → ReportsDay options old new result
report-put-at options old new zero result text due put =
    record {
      ends = ends_put (ReportDue options old.left new.left) old new text Done result due (λ wrote. wrote) put;
      completes =
          λ begins reads writes. inl (put_whole text Done result old.taken new.taken old.write_faults new.write_faults put writes);
    }
report-put-at options old new (suc n) result text due put =
    record {
      ends = ends_put (ReportDue options old.left new.left) old new text Stopped result due (λ wrote. wrote) put;
      completes =
          λ begins reads writes. inr (inl (put_whole text Stopped result old.taken new.taken old.write_faults new.write_faults put writes));
    }

due-at : (options : DayOptions) (left left' : Option (List ℕ)) (ended : Ended) (text : List ℕ) (n : ℕ) → n ≡ ended.unsolved
    → ToldBy options left left' (Ok ended) → text ≡ report_text (report_of ended.served.items) → ReportDue options left left' (status_of_unsolved n) text
due-at options left left' ended text zero is ran says =
    record {
      ended = ended;
      ran = ran;
      status_is = ap status_of_unsolved is;
      stopped =
          λ e. stopped-day options (option_map whole_text left) ran.ahead left' None None ended ran.ran (sym (ap status_of_unsolved is) ∙ e);
      is_text = says;
    }
due-at options left left' ended text (suc n) is ran says =
    record {
      ended = ended;
      ran = ran;
      status_is = ap status_of_unsolved is;
      stopped =
          λ e. stopped-day options (option_map whole_text left) ran.ahead left' None None ended ran.ran (sym (ap status_of_unsolved is) ∙ e);
      is_text = says;
    }

pub report-done : (options : DayOptions) (old new : Streams) (ended : Ended) (status result : Status) (text : List ℕ)
    → status ≡ status_of_unsolved ended.unsolved → RanRight options old.left new.left None None (Ok ended) → text ≡ report_text (report_of ended.served.items)
    → Puts text status result old.taken new.taken old.write_faults new.write_faults → ReportsDay options old new result
report-done options old new ended status result text is ran says put =
    report-put-at options old new ended.unsolved result text
    (due-at options old.left new.left ended text ended.unsolved refl (ran-within options old.left new.left None None (Ok ended) ran) says)
    (subst (λ (s : Status). Puts text s result old.taken new.taken old.write_faults new.write_faults) is put)

pub report-short : (options : DayOptions) (old new : Streams) (result : Status) → result ≡ Memory → new.taken ≡ old.taken → ReportsDay options old new result
report-short options old new result is same =
    subst (ReportsDay options old new) (sym is) (record { ends = same; completes = λ begins reads writes. inr (inr refl) })

no-day-line : (left left' : Option (List ℕ)) (options : DayOptions) (fault : TextFault) (text : List ℕ)
    → IsDayOpeningRefused (option_map whole_text left) fault → FaultShows (option_map whole_text left) fault left' → IsRefusalLine fault text
    → ReportDue options left left' Input text
no-day-line left left' options fault text refused shows is_line = inl (record { fault = fault; is_line = is_line; no_day = refused; shows = shows })

pub report-unopened : (options : DayOptions) (old new : Streams) (fault : TextFault) (result : Status)
    → IsDayOpeningRefused (option_map whole_text old.left) fault → FaultShows (option_map whole_text old.left) fault new.left
    → (BeginsDay old → EndsUnlessFailed (Err (Opening fault))) → (fault ≡ FailedRead → Rose old.read_faults new.read_faults)
    → PutsFault fault result old.taken new.taken old.write_faults new.write_faults → ReportsDay options old new result
report-unopened options old new fault result refused shows never rose put = record {
  ends = ends_fault (ReportDue options old.left new.left) fault old new result
      (λ text is_line. no-day-line old.left new.left options fault text refused shows is_line) rose put;
  completes = λ begins reads writes.
      inr (inr (ran_out_of_memory fault result old.taken new.taken old.write_faults new.write_faults put (never begins) (λ e. reads (rose e))));
}

report-stopped-within : (options : DayOptions) (old new : Streams) (fault : RunFault) (result : Status) → ToldBy options old.left new.left (Err fault)
    → (BeginsDay old → EndsUnlessFailed (Err (Rows fault))) → (fault ≡ RowsUnread → Rose old.read_faults new.read_faults) → (fault ≡ RowsUnwritten → ⊥)
    → PutsRowsFault fault result old.taken new.taken old.write_faults new.write_faults → ReportsDay options old new result
report-stopped-within options old new TooLong result ran never read write line = record {
  ends = ends_put (ReportDue options old.left new.left) old new line.0 Input result (inr (record { ran = ran; is_line = line.1 })) (λ wrote. wrote) line.2;
  completes = λ begins reads writes. absurd (never begins);
}
report-stopped-within options old new RowsUnread result ran never read write put =
    subst (ReportsDay options old new) (sym put.0)
    (record { ends = record { rose = read refl; unwritten = put.1 }; completes = λ begins reads writes. absurd (reads (read refl)) })
report-stopped-within options old new RowsUnwritten result ran never read write put = absurd (write refl)
report-stopped-within options old new NoMemory result ran never read write put = report-short options old new result put.0 put.1

pub report-stopped : (options : DayOptions) (old new : Streams) (fault : RunFault) (result : Status) → RanRight options old.left new.left None None (Err fault)
    → (BeginsDay old → EndsUnlessFailed (Err (Rows fault))) → (fault ≡ RowsUnread → Rose old.read_faults new.read_faults) → (fault ≡ RowsUnwritten → ⊥)
    → PutsRowsFault fault result old.taken new.taken old.write_faults new.write_faults → ReportsDay options old new result
report-stopped options old new fault result ran =
    report-stopped-within options old new fault result (ran-within options old.left new.left None None (Err fault) ran)

-- the options of a report are those of a day without certificates
pub plain-within : (options : SearchOptions) → AreDayOptions (without_certificates options)
plain-within options = record { claims = (omega arith, omega arith) }

-- a sink that counts no fault has none
pub no-faults : Rose 0 0 → ⊥
no-faults rose = absurd (search (rules, arith, rose))
