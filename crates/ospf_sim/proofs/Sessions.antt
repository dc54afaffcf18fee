-- Lines that are answered one after another, as they are read.
use Rattle.std.proofs.Common.{◌⊎◌, ◌≡◌, inl, inr, ◌∙◌, ap, sym, subst, refl, arith, ◌+◌, ℕ, Bool, true, false, List, [], ◌∷◌, ◌++◌, length, Option, None, Some, IfSome, Result, Ok, Err, IfErr, OnOk, append-nil, append_assoc, length-append}
use Rattle.std.specs.Io.BufRead.{ends_with_byte}
use Rattle.std.specs.Io.KnownBytes.{Appends, Consumes, IsAtEnd}
use Rattle.std.specs.Str.Lines.{lines}
use Rattle.ospf_commands.specs.declared.simulation.Simulation.{Simulation}
use Rattle.ospf_files.proofs.Written.{both_written, nothing_written}
use Rattle.ospf_files.specs.Streams.{IsBegun, IsOfInput, IsOfOutput, IsOutputCut, Written, no_output, with_output, written_on}
use Rattle.ospf_files.specs.declared.status.Failure.{Failure}
use Rattle.ospf_files.specs.declared.streams.FailedStreams.{FailedStreams}
use Rattle.ospf_files.specs.Lines.{numbered_from}
use Rattle.ospf_script.specs.Words.{Text}
use Rattle.ospf_files.specs.declared.line.Line.{Line}
use Rattle.ospf_sim.proofs.Pieces.{closed_append, ends_closed, numbered_more, one_line}
use Rattle.ospf_sim.specs.Consoles.{AnswersLine, AnswersLines, AreAnswered, IsAllAnswered, AreWholeLines, IsLineAnswered, IsPiece, IsPieceRead, IsReadOf, IsSessionCut, IsTurnCut, at_end, in_line, in_prompt, in_reading, is_run, is_unreadable, one_line as one_answer}
use Rattle.ospf_sim.specs.Begun.{IsLineCut, IsTellingCut, in_unreadable}
use Rattle.ospf_sim.specs.Scripts.{LineComes, unreadable_line, with_refusal}

-- ---- one line

-- a line that is run
pub run_answered : (line : Line) (read : Bool) (w w' : Simulation) (old new : Written) → read ≡ true → LineComes read line w w' old new
    → IsLineAnswered line.number line.text.now w w' old new
run_answered line false w w' old new is run = absurd (cc is)
run_answered line true w w' old new is run = record {
  out = run.out;
  err = run.err;
  answers = is_run run.runs;
  out_written = run.out_written;
  err_written = run.err_written;
}

-- a line that cannot be read, of which that is told
pub told_answered : {T : Type 0} (r : Result T Failure) (line : Line) (read : Bool) (w mid : Simulation) (old : Written) (b c y z : Option (List ℕ)) → read ≡ false → LineComes read line w mid old (written_on b y)
    → OnOk r (Appends b c []) → OnOk r (Appends y z (unreadable_line line.number line.text.now)) → OnOk r (IsLineAnswered line.number line.text.now w (with_refusal mid) old (written_on c z))
told_answered (Err f) line read w mid old b c y z is not_read kept told = tt
told_answered (Ok done) line true w mid old b c y z is not_read kept told = absurd (cc is)
told_answered (Ok done) line false w mid old b c y z is not_read kept told = record {
  out = [];
  err = unreadable_line line.number line.text.now;
  answers = is_unreadable not_read.unreadable (ap with_refusal not_read.same_world) refl refl;
  out_written = subst (λ (written : Written). Appends written.out c []) not_read.same_written kept;
  err_written = subst (λ (written : Written). Appends written.err z (unreadable_line line.number line.text.now)) not_read.same_written told;
}

-- of which that is not told whole
pub told_cut : {T : Type 0} (r : Result T Failure) (line : Line) (read : Bool) (w w' : Simulation) (failed : FailedStreams) (old between new : Written) → read ≡ false
    → LineComes read line w w' old between → IfErr r (IsTellingCut (unreadable_line line.number line.text.now) failed between new)
    → IfErr r (IsLineCut line.number line.text.now w failed old new)
told_cut (Ok done) line read w w' failed old between new is not_read cut = tt
told_cut (Err f) line true w w' failed old between new is not_read cut = absurd (cc is)
told_cut (Err f) line false w w' failed old between new is not_read cut =
    in_unreadable not_read.unreadable
    (subst (λ (written : Written). IsTellingCut (unreadable_line line.number line.text.now) failed written new f) not_read.same_written cut)

-- ---- lines

more_answers : (prompt : Text) (before : List (ℕ × Text)) (number : ℕ) (line : Text) (w mid w' : Simulation) (outs out errs err : Text) → AnswersLines prompt before w mid outs errs
    → AnswersLine number line mid w' out err → AnswersLines prompt (before ++ (number, line) ∷ []) w w' (outs ++ out ++ prompt) (errs ++ err)
more_answers prompt _ number line w mid w' _ out _ err at_end last =
    subst (λ (e : Text). AnswersLines prompt ((number, line) ∷ []) w w' (prompt ++ out ++ prompt) e) (append-nil err) (one_answer last at_end)
more_answers prompt _ number line w mid w' _ out _ err (one_answer {lines = more} {mid = first} {out = o} {outs = outs} {err = e} {errs = errs} head rest) last =
    rw (append_assoc (prompt ++ o) outs out, append_assoc (prompt ++ o) (outs ++ out) prompt, append_assoc e errs err)
    (one_answer head (more_answers prompt more number line first mid w' outs out errs err rest last))

-- the prompt alone
pub none_answered : (prompt : Text) (w : Simulation) (a b x : Option (List ℕ)) → Appends a b prompt → AreAnswered prompt [] w w (written_on a x) (written_on b x)
none_answered prompt w a b x written = record { out = prompt; err = []; answers = at_end; out_written = written; err_written = nothing_written x }

-- one line more, and the prompt behind it
more_answered : (prompt : Text) (before : List (ℕ × Text)) (number : ℕ) (line : Text) (w mid w' : Simulation) (old between : Written) (c d z : Option (List ℕ)) → AreAnswered prompt before w mid old between
    → IsLineAnswered number line mid w' between (written_on c z) → Appends c d prompt → AreAnswered prompt (before ++ (number, line) ∷ []) w w' old (written_on d z)
more_answered prompt before number line w mid w' old between c d z so_far next written = record {
  out = so_far.out ++ next.out ++ prompt;
  err = so_far.err ++ next.err;
  answers = more_answers prompt before number line w mid w' so_far.out next.out so_far.err next.err so_far.answers next.answers;
  out_written = both_written old.out c d (so_far.out ++ next.out) prompt (both_written old.out between.out c so_far.out next.out so_far.out_written next.out_written) written;
  err_written = both_written old.err between.err z so_far.err next.err so_far.err_written next.err_written;
}

-- ---- an input

taken_both : (start now later : Option (List ℕ)) (text piece : Text) → Consumes start now text → Consumes now later piece → Consumes start later (text ++ piece)
taken_both None now later text piece h k = tt
taken_both (Some xs) None later text piece h k = absurd h
taken_both (Some xs) (Some ys) None text piece h k = absurd k
taken_both (Some xs) (Some ys) (Some zs) text piece h k = h ∙ ap (λ l. text ++ l) k ∙ sym (append_assoc text piece zs)

none_taken : (start : Option (List ℕ)) → Consumes start start []
none_taken None = tt
none_taken (Some xs) = refl

taken_read : (start now : Option (List ℕ)) (text : Text) → Consumes start now text → IsReadOf start text
taken_read None now text h = tt
taken_read (Some xs) None text h = absurd h
taken_read (Some xs) (Some ys) text h = (ys, h)

taken_whole : (start now : Option (List ℕ)) (text : Text) → Consumes start now text → IsAtEnd now → IfSome start (λ bytes. bytes ≡ text)
taken_whole None now text h ends = tt
taken_whole (Some xs) None text h ends = absurd h
taken_whole (Some xs) (Some ys) text h ends = h ∙ ap (λ l. text ++ l) ends ∙ append-nil text

taken_last : (start now : Option (List ℕ)) (text piece : Text) → Consumes start now text → IfSome now (λ bytes. bytes ≡ piece) → IfSome start (λ bytes. bytes ≡ text ++ piece)
taken_last None now text piece h all = tt
taken_last (Some xs) None text piece h all = absurd h
taken_last (Some xs) (Some ys) text piece h all = h ∙ ap (λ l. text ++ l) all

-- there is a piece
pub piece_there : (more : Bool) (piece : Text) (old new : Option (List ℕ)) → more ≡ true → IsPiece more piece old new → IsPieceRead piece old new
piece_there true piece old new is read = read
piece_there false piece old new is read = absurd (cc is)

-- or the end
pub end_there : (more : Bool) (piece : Text) (old new : Option (List ℕ)) → more ≡ false → IsPiece more piece old new → IsAtEnd old
end_there true piece old new is read = absurd (cc is)
end_there false piece old new is read = read

-- the lines so far are answered, and this is the number of the next
pub record IsSoFar (prompt : Text) (start now : Option (List ℕ)) (number : ℕ) (w mid : Simulation) (old new : Written) : Type 0 where
  pub text : Text
  pub closed : AreWholeLines text
  pub taken : Consumes start now text
  pub count : number ≡ 1 + length (lines text)
  pub answered : AreAnswered prompt (numbered_from 1 text) w mid old new

pub begins : (prompt : Text) (start : Option (List ℕ)) (w : Simulation) (a b x : Option (List ℕ)) → Appends a b prompt → IsSoFar prompt start start 1 w w (written_on a x) (written_on b x)
begins prompt start w a b x written = record {
  text = [];
  closed = inl refl;
  taken = none_taken start;
  count = refl;
  answered = none_answered prompt w a b x written;
}

-- the lines so far, and that of one piece more
lines_more : (prompt : Text) (start now later : Option (List ℕ)) (number : ℕ) (piece : Text) (line : Text) (w mid : Simulation) (old new : Written)
    → (so_far : IsSoFar prompt start now number w mid old new) → IsPieceRead piece now later → numbered_from number piece ≡ (number, line) ∷ []
    → numbered_from 1 (so_far.text ++ piece) ≡ numbered_from 1 so_far.text ++ (number, line) ∷ []
lines_more prompt start now later number piece line w mid old new so_far read one =
    numbered_more so_far.text piece number line so_far.closed so_far.count one

closed_more : (text piece : Text) → AreWholeLines text → AreWholeLines piece → AreWholeLines (text ++ piece)
closed_more text piece closed (inl nothing) = rw (nothing, append-nil text) closed
closed_more text piece closed (inr ends) = inr (text ++ ends.0, ap (λ l. text ++ l) ends.1 ∙ sym (append_assoc text ends.0 (10 ∷ [])))

-- its line is answered, and the prompt is behind it
answered_more : (prompt : Text) (start now later : Option (List ℕ)) (number : ℕ) (piece : Text) (line : Text) (w mid w' : Simulation) (old between : Written) (c e z : Option (List ℕ))
    → (so_far : IsSoFar prompt start now number w mid old between) → IsPieceRead piece now later → numbered_from number piece ≡ (number, line) ∷ []
    → IsLineAnswered number line mid w' between (written_on c z) → Appends c e prompt → AreAnswered prompt (numbered_from 1 (so_far.text ++ piece)) w w' old (written_on e z)
answered_more prompt start now later number piece line w mid w' old between c e z so_far read one next written =
    subst (λ (ls : List (ℕ × Text)). AreAnswered prompt ls w w' old (written_on e z)) (sym (lines_more prompt start now later number piece line w mid old between so_far read one))
    (more_answered prompt (numbered_from 1 so_far.text) number line w mid w' old between c e z so_far.answered next written)

-- a piece that a line feed ends
pub goes_on : (prompt : Text) (start now later : Option (List ℕ)) (number : ℕ) (piece : Text) (line : Text) (w mid w' : Simulation) (old between : Written) (c e z : Option (List ℕ))
    → IsSoFar prompt start now number w mid old between → IsPieceRead piece now later → numbered_from number piece ≡ (number, line) ∷ []
    → IsLineAnswered number line mid w' between (written_on c z) → Appends c e prompt → ends_with_byte 10 piece ≡ true → IsSoFar prompt start later (number + 1) w w' old (written_on e z)
goes_on prompt start now later number piece line w mid w' old between c e z so_far read one next written ends =
    let longer : length (lines (so_far.text ++ piece)) ≡ length (lines so_far.text) + length (lines piece) =
    ap length (closed_append so_far.text piece so_far.closed) ∙ length-append (lines so_far.text) (lines piece) in
    record {
      text = so_far.text ++ piece;
      closed = closed_more so_far.text piece so_far.closed (ends_closed piece ends);
      taken = taken_both start now later so_far.text piece so_far.taken read.taken;
      count = omega (arith, longer, so_far.count, one_line piece read.some read.stops);
      answered = answered_more prompt start now later number piece line w mid w' old between c e z so_far read one next written;
    }

-- a piece that the end of the input ends
pub ends_here : (prompt : Text) (start now later : Option (List ℕ)) (number : ℕ) (piece : Text) (line : Text) (w mid w' : Simulation) (old between : Written) (c e z : Option (List ℕ))
    → IsSoFar prompt start now number w mid old between → IsPieceRead piece now later → numbered_from number piece ≡ (number, line) ∷ []
    → IsLineAnswered number line mid w' between (written_on c z) → Appends c e prompt → ends_with_byte 10 piece ≡ false → IsAllAnswered start prompt w w' old (written_on e z)
ends_here prompt start now later number piece line w mid w' old between c e z so_far read one next written ends = record {
  text = so_far.text ++ piece;
  whole = taken_last start now so_far.text piece so_far.taken (read.ends ends);
  answered = answered_more prompt start now later number piece line w mid w' old between c e z so_far read one next written;
}

-- the end of the input
pub ends_before : (prompt : Text) (start now : Option (List ℕ)) (number : ℕ) (w mid : Simulation) (old new : Written) → IsSoFar prompt start now number w mid old new → IsAtEnd now
    → IsAllAnswered start prompt w mid old new
ends_before prompt start now number w mid old new so_far ends = record {
  text = so_far.text;
  whole = taken_whole start now so_far.text so_far.taken ends;
  answered = so_far.answered;
}

-- ---- what is cut

-- the next line is not read
pub reading_cut : (prompt : Text) (start now : Option (List ℕ)) (number : ℕ) (w mid : Simulation) (failed : FailedStreams) (old new : Written) (f : Failure)
    → IsSoFar prompt start now number w mid old new → IsOfInput f → IsSessionCut start prompt w failed old new f
reading_cut prompt start now number w mid failed old new f so_far cause = in_reading so_far.text mid cause (taken_read start now so_far.text so_far.taken) so_far.closed so_far.answered

-- a piece ends what was read: with a line feed, or with the end of the input
ended_by : (start now : Option (List ℕ)) (text piece : Text) → AreWholeLines text → Consumes start now text → (b : Bool) → ends_with_byte 10 piece ≡ b
    → (b ≡ false → IfSome now (λ bytes. bytes ≡ piece)) → AreWholeLines (text ++ piece) ⊎ IfSome start (λ bytes. bytes ≡ text ++ piece)
ended_by start now text piece closed taken true is last = inl (closed_more text piece closed (ends_closed piece is))
ended_by start now text piece closed taken false is last = inr (taken_last start now text piece taken (last refl))

-- a line is cut, or the prompt behind it
pub turn_cut : (prompt : Text) (start now later : Option (List ℕ)) (number : ℕ) (piece : Text) (line : Text) (w mid : Simulation) (failed : FailedStreams) (old between new : Written) (f : Failure)
    → IsSoFar prompt start now number w mid old between → IsPieceRead piece now later → numbered_from number piece ≡ (number, line) ∷ []
    → IsTurnCut prompt number line mid failed between new f → IsSessionCut start prompt w failed old new f
turn_cut prompt start now later number piece line w mid failed old between new f so_far read one cut =
    in_line (so_far.text ++ piece) (taken_read start later (so_far.text ++ piece) (taken_both start now later so_far.text piece so_far.taken read.taken))
    (ended_by start now so_far.text piece so_far.closed so_far.taken (ends_with_byte 10 piece) refl read.ends)
    (record {
      before = numbered_from 1 so_far.text;
      number = number;
      line = line;
      lines_are = lines_more prompt start now later number piece line w mid old between so_far read one;
      mid = mid;
      between = between;
      answered = so_far.answered;
      cut = cut;
    })

pub prompt_cut : (prompt : Text) (number : ℕ) (line : Text) (w end : Simulation) (failed : FailedStreams) (old : Written) (b c y : Option (List ℕ)) (f : Failure) → IsLineAnswered number line w end old (written_on b y)
    → IsBegun b c prompt → IsOutputCut failed f → IsTurnCut prompt number line w failed old (written_on c y) f
prompt_cut prompt number line w end failed old b c y f answered begun cut = in_prompt (record { end = end; out_then = b; answered = answered; begun = begun; cut = cut })

-- standard output has failed
pub output_cut : (before after : FailedStreams) (f : Failure) → after ≡ with_output before → IsOfOutput f → IsOutputCut after f
output_cut before after f is cause = no_output (ap (λ (streams : FailedStreams). streams.output) is) cause
