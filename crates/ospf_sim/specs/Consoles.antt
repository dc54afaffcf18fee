-- What the lines given at a console do. Each is answered before the next is read.
use Rattle.std.specs.Prelude.{◌≡◌, ◌<◌, ℕ, Bool, true, false, List, [], ◌∷◌, ◌++◌, ◌⊎◌, Option, None, Some, IfSome, length, ⊤}
use Rattle.std.specs.Io.{StopsAt}
use Rattle.std.specs.Io.BufRead.{ends_with_byte}
use Rattle.std.specs.Io.KnownBytes.{Appends, Consumes, IsAtEnd}
use Rattle.ospf_files.specs.Files.{unread_line}
use Rattle.ospf_files.specs.Listed.{AreFilesRead, IsFirstUnread}
use Rattle.ospf_files.specs.Status.{failure_line, failure_status}
use Rattle.ospf_files.specs.Streams.{IsBegun, IsErrorCut, IsOfInput, IsOutputCut, IsTold, Written}
use Rattle.ospf_files.specs.declared.files.NamedFile.{NamedFile}
use Rattle.ospf_files.specs.declared.status.Failure.{Failure}
use Rattle.ospf_files.specs.declared.status.Status.{Status}
use Rattle.ospf_files.specs.declared.status.Status.TheVariants as status
use Rattle.ospf_files.specs.declared.streams.FailedStreams.{FailedStreams}
use Rattle.ospf_script.specs.Commands.{IsUnreadable}
use Rattle.ospf_files.specs.Lines.{numbered_from}
use Rattle.ospf_script.specs.Words.{Text}
use Rattle.ospf_commands.specs.Simulations.{begun_in}
use Rattle.ospf_commands.specs.Worlds.{WorldValue}
use Rattle.ospf_commands.specs.declared.simulation.Simulation.{Simulation}
use Rattle.ospf_sim.specs.Begun.{IsLineCut, IsWorldCut}
use Rattle.ospf_sim.specs.Scripts.{RunsLine, unreadable_line, with_refusal}
use Rattle.ospf_sim.specs.Simulations.{IsNoWorld, IsWorldOf}

-- ---- lines

-- what a line of this number does: it runs as in a script, or it cannot be read and is refused:
-- nothing else changes, and standard error says so
pub data AnswersLine (number : ℕ) (line : Text) (w w' : Simulation) (out err : Text) : Type 0 where
  is_run : RunsLine number line w w' out err → AnswersLine number line w w' out err
  is_unreadable : IsUnreadable line → w' ≡ with_refusal w → out ≡ []
      → err ≡ unreadable_line number line
      → AnswersLine number line w w' out err

-- the numbered lines run one after another, to the end: the prompt is printed before each line, and
-- before the end
pub data AnswersLines (prompt : Text)
    : List (ℕ × Text) → Simulation → Simulation → Text → Text → Type 0 where
  at_end : {w : Simulation} → AnswersLines prompt [] w w prompt []
  one_line : {number : ℕ} {line : Text} {lines : List (ℕ × Text)} {w mid w' : Simulation}
      {out outs err errs : Text}
      → AnswersLine number line w mid out err → AnswersLines prompt lines mid w' outs errs
      → AnswersLines prompt ((number, line) ∷ lines) w w' (prompt ++ out ++ outs) (err ++ errs)

-- a line was answered: its output was written
pub record IsLineAnswered (number : ℕ) (line : Text) (w w' : Simulation) (old new : Written)
    : Type 0 where
  pub out : Text
  pub err : Text
  pub answers : AnswersLine number line w w' out err
  pub out_written : Appends old.out new.out out
  pub err_written : Appends old.err new.err err

-- the lines were answered: their output was written
pub record AreAnswered (prompt : Text) (lines : List (ℕ × Text)) (w w' : Simulation)
    (old new : Written) : Type 0 where
  pub out : Text
  pub err : Text
  pub answers : AnswersLines prompt lines w w' out err
  pub out_written : Appends old.out new.out out
  pub err_written : Appends old.err new.err err

-- ---- an input

-- bytes were read, up to and including a line feed or to the end of the input
pub record IsPieceRead (piece : Text) (old new : Option (List ℕ)) : Type 0 where
  pub some : 0 < length piece
  pub stops : StopsAt piece 10
  pub taken : Consumes old new piece
  pub ends : ends_with_byte 10 piece ≡ false → IfSome old (λ bytes. bytes ≡ piece)

-- the result of a read: a piece of the input, or nothing at its end
abbrev pub IsPiece : Bool → Text → Option (List ℕ) → Option (List ℕ) → Type 0
IsPiece true piece old new = IsPieceRead piece old new
IsPiece false piece old new = IsAtEnd old

-- all lines of a text are answered; where the input is known, the text is the whole input
pub record IsAllAnswered (input : Option (List ℕ)) (prompt : Text) (w w' : Simulation)
    (old new : Written) : Type 0 where
  pub text : Text
  pub whole : IfSome input (λ bytes. bytes ≡ text)
  pub answered : AreAnswered prompt (numbered_from 1 text) w w' old new

-- ---- an input that is cut

-- a line is answered, and the prompt after it is not written whole
pub record IsPromptCut (prompt : Text) (number : ℕ) (line : Text) (w : Simulation)
    (failed : FailedStreams) (old new : Written) (f : Failure) : Type 0 where
  pub end : Simulation
  pub out_then : Option (List ℕ)
  pub answered : IsLineAnswered number line w end old (record new { out = out_then })
  pub begun : IsBegun out_then new.out prompt
  pub cut : IsOutputCut failed f

-- a line is cut, or the prompt after it
pub data IsTurnCut (prompt : Text) (number : ℕ) (line : Text) (w : Simulation)
    (failed : FailedStreams) (old new : Written) (f : Failure) : Type 0 where
  in_answer : IsLineCut number line w failed old new f
      → IsTurnCut prompt number line w failed old new f
  in_prompt : IsPromptCut prompt number line w failed old new f
      → IsTurnCut prompt number line w failed old new f

-- the last of these lines is cut, and the lines before it are answered
pub record IsLastCut (prompt : Text) (lines : List (ℕ × Text)) (w : Simulation)
    (failed : FailedStreams) (old new : Written) (f : Failure) : Type 0 where
  pub before : List (ℕ × Text)
  pub number : ℕ
  pub line : Text
  pub lines_are : lines ≡ before ++ (number, line) ∷ []
  pub mid : Simulation
  pub between : Written
  pub answered : AreAnswered prompt before w mid old between
  pub cut : IsTurnCut prompt number line mid failed between new f

-- the text is a beginning of the input, where the input is known
abbrev pub IsReadOf : Option (List ℕ) → Text → Type 0
IsReadOf input text = IfSome input (λ bytes. (rest : Text) × (bytes ≡ text ++ rest))

-- only whole lines: the text is empty or ends with a line feed
abbrev pub AreWholeLines : Text → Type 0
AreWholeLines text = (text ≡ []) ⊎ ((front : Text) × (text ≡ front ++ 10 ∷ []))

-- the lines of an input are cut: before the first line, in the prompt; where reading fails after
-- whole lines; or at the last line that was read, which ends with a line feed or with the input
pub data IsSessionCut (input : Option (List ℕ)) (prompt : Text) (w : Simulation)
    (failed : FailedStreams) (old new : Written) : Failure → Type 0 where
  in_first_prompt : {f : Failure} → IsOutputCut failed f → IsBegun old.out new.out prompt
      → new.err ≡ old.err
      → IsSessionCut input prompt w failed old new f
  in_reading : {f : Failure} (text : Text) (end : Simulation) → IsOfInput f → IsReadOf input text
      → AreWholeLines text → AreAnswered prompt (numbered_from 1 text) w end old new
      → IsSessionCut input prompt w failed old new f
  in_line : {f : Failure} (text : Text) → IsReadOf input text
      → AreWholeLines text ⊎ IfSome input (λ bytes. bytes ≡ text)
      → IsLastCut prompt (numbered_from 1 text) w failed old new f
      → IsSessionCut input prompt w failed old new f

-- ---- a console

-- all lines of the input are answered, in a world of the configurations
pub record IsConsoled (input : Option (List ℕ)) (prompt : Text) (files : List NamedFile)
    (left : Option Simulation) (old new : Written) : Type 0 where
  pub read : AreFilesRead files
  pub start : WorldValue
  pub end : Simulation
  pub starts : IsWorldOf files start
  pub left_is : left ≡ Some end
  pub all : IsAllAnswered input prompt (begun_in start) end old new

-- no line is answered, because the configurations make no world, and the reason is reported
pub record IsNoConsole (files : List NamedFile) (left : Option Simulation) (old new : Written)
    : Type 0 where
  pub read : AreFilesRead files
  pub no_world : IsNoWorld files old.err new.err
  pub none : left ≡ None
  pub same_out : new.out ≡ old.out

-- the result of a console, by its status
abbrev pub ConsoleComes : Status → Option (List ℕ) → Text → List NamedFile → Option Simulation
    → Written → Written → Type 0
ConsoleComes status.Done input prompt files = IsConsoled input prompt files
ConsoleComes status.Refused input prompt files = IsNoConsole files
ConsoleComes _ input prompt files = λ left old new. ⊤

-- the first file that could not be read is reported, and no line is answered
pub record IsUnreadOf (files : List NamedFile) (left : Option Simulation) (old new : Written)
    : Type 0 where
  pub file : NamedFile
  pub first : IsFirstUnread file files
  pub told : Appends old.err new.err (unread_line file)
  pub none : left ≡ None
  pub same_out : new.out ≡ old.out

-- a console is cut: in the report of the first file that could not be read, before there is a
-- world, or in the lines of its input
pub data IsConsoleCut (input : Option (List ℕ)) (prompt : Text) (files : List NamedFile)
    (failed : FailedStreams) (old new : Written) : Failure → Type 0 where
  in_unread : {f : Failure} (file : NamedFile) → IsErrorCut failed f → IsFirstUnread file files
      → IsBegun old.err new.err (unread_line file) → new.out ≡ old.out
      → IsConsoleCut input prompt files failed old new f
  in_world : {f : Failure} → AreFilesRead files → IsWorldCut files failed old.err new.err f
      → new.out ≡ old.out
      → IsConsoleCut input prompt files failed old new f
  in_session : {f : Failure} (start : WorldValue) → AreFilesRead files → IsWorldOf files start
      → IsSessionCut input prompt (begun_in start) failed old new f
      → IsConsoleCut input prompt files failed old new f

-- a failure cut the console; it was reported last, as far as it could be written, and it gives the
-- status
pub record IsConsoleFailed (input : Option (List ℕ)) (prompt : Text) (files : List NamedFile)
    (failed : FailedStreams) (end : Status) (old new : Written) : Type 0 where
  pub cause : Failure
  pub failed_then : FailedStreams
  pub err_then : Option (List ℕ)
  pub cut : IsConsoleCut input prompt files failed_then old (record new { err = err_then }) cause
  pub last : IsTold failed_then failed err_then new.err (failure_line cause)
  pub status_is : end ≡ failure_status cause

-- a file could not be read, or a failure cut the console
pub data IsConsoleStopped (input : Option (List ℕ)) (prompt : Text) (files : List NamedFile)
    (left : Option Simulation) (failed : FailedStreams) (end : Status) (old new : Written)
    : Type 0 where
  is_unread : end ≡ status.Stream → IsUnreadOf files left old new
      → IsConsoleStopped input prompt files left failed end old new
  is_failure : left ≡ None → IsConsoleFailed input prompt files failed end old new
      → IsConsoleStopped input prompt files left failed end old new
