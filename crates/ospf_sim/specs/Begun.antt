-- What was written when memory runs out, or a stream fails, before a simulation has written all.
use Rattle.std.specs.Prelude.{◌≡◌, ℕ, List, [], ◌∷◌, ◌++◌, Err, Option}
use Rattle.std.specs.Io.KnownBytes.{Appends}
use Rattle.ospf_config.specs.declared.config.Config.{Config}
use Rattle.ospf_config.specs.declared.fault.ConfigFault.{ConfigFault}
use Rattle.ospf_files.specs.Files.{IsRefusedFor, refused_line, text_in, unread_line}
use Rattle.ospf_files.specs.Listed.{AreConfigs, AreFilesRead, IsFirstRefused, IsFirstUnread}
use Rattle.ospf_files.specs.Streams.{IsBegun, IsErrorCut, IsOutputCut, Written}
use Rattle.ospf_files.specs.declared.files.NamedFile.{NamedFile}
use Rattle.ospf_files.specs.declared.status.Failure.{Failure}
use Rattle.ospf_files.specs.declared.status.Failure.TheVariants as failure
use Rattle.ospf_files.specs.declared.streams.FailedStreams.{FailedStreams}
use Rattle.ospf_base.specs.declared.event.event.WorldFault.{WorldFault}
use Rattle.ospf_script.specs.Commands.{IsUnreadable, NeedsRoom, SpellsCommand}
use Rattle.ospf_files.specs.Lines.{numbered_from}
use Rattle.ospf_script.specs.Words.{Text, line_words}
use Rattle.ospf_script.specs.declared.command.Command.{Command}
use Rattle.ospf_commands.specs.Commands.{DoesCommand, IsDoneBegun}
use Rattle.ospf_commands.specs.Simulations.{Answer, begun_in}
use Rattle.ospf_commands.specs.Worlds.{WorldValue}
use Rattle.ospf_commands.specs.declared.simulation.Simulation.{Simulation}
use Rattle.ospf_sim.specs.Scripts.{IsScriptRun, world_refusal_line, unreadable_line}
use Rattle.ospf_sim.specs.Simulations.{IsWorldOf}
use Rattle.ospf_sim.specs.Twins.{SharesRouter}

-- ---- one line

-- the output of a line is cut: a beginning of it was written
pub record IsPrintBegun (line : Text) (w : Simulation) (out_old out_new : Option (List ℕ))
    : Type 0 where
  pub command : Command
  pub end : Simulation
  pub spelled : SpellsCommand (line_words line) command
  pub done : IsDoneBegun command w end out_old out_new

-- a text was not written whole to standard error: what was printed before it was not flushed and
-- none of the text was written, or a beginning of it was written
pub data IsTellingCut (text : Text) (failed : FailedStreams) (old new : Written)
    : Failure → Type 0 where
  not_flushed : {f : Failure} → IsOutputCut failed f → Appends old.out new.out []
      → new.err ≡ old.err
      → IsTellingCut text failed old new f
  in_telling : {f : Failure} → IsErrorCut failed f → Appends old.out new.out []
      → IsBegun old.err new.err text
      → IsTellingCut text failed old new f

-- an answer is a refusal, and its report was not written whole
pub record IsEventAnswerCut (number : ℕ) (answer : Answer) (failed : FailedStreams)
    (old new : Written) (f : Failure) : Type 0 where
  pub fault : WorldFault
  pub refused : answer ≡ Err fault
  pub told : IsTellingCut (world_refusal_line number fault) failed old new f

-- a line is refused, its output was written, and its refusal was not reported whole
pub record IsRefusalCut (number : ℕ) (line : Text) (w : Simulation) (failed : FailedStreams)
    (old new : Written) (f : Failure) : Type 0 where
  pub command : Command
  pub end : Simulation
  pub spelled : SpellsCommand (line_words line) command
  pub fault : WorldFault
  pub text : Text
  pub does : DoesCommand command w (Err fault) text end
  pub out_then : Option (List ℕ)
  pub printed : Appends old.out out_then text
  pub told :
      IsTellingCut (world_refusal_line number fault) failed (record old { out = out_then }) new f

-- a line is cut: before it does anything, because there is no room for the choices of a walk or for
-- a text; in its output; in its refusal; or because it cannot be read and the report of that was
-- not written whole
pub data IsLineCut (number : ℕ) (line : Text) (w : Simulation) (failed : FailedStreams)
    (old new : Written) : Failure → Type 0 where
  no_room_for : NeedsRoom (line_words line) → new ≡ old
      → IsLineCut number line w failed old new failure.Memory
  in_print : {f : Failure} → IsOutputCut failed f → IsPrintBegun line w old.out new.out
      → new.err ≡ old.err
      → IsLineCut number line w failed old new f
  in_refusal : {f : Failure} → IsRefusalCut number line w failed old new f
      → IsLineCut number line w failed old new f
  in_unreadable : {f : Failure} → IsUnreadable line
      → IsTellingCut (unreadable_line number line) failed old new f
      → IsLineCut number line w failed old new f

-- ---- a script

-- a line is cut, and the lines before it have run: their output was written
pub record IsCutAtLine (lines : List (ℕ × Text)) (w : Simulation) (failed : FailedStreams)
    (old new : Written) (f : Failure) : Type 0 where
  pub before : List (ℕ × Text)
  pub number : ℕ
  pub line : Text
  pub after : List (ℕ × Text)
  pub lines_are : lines ≡ before ++ (number, line) ∷ after
  pub mid : Simulation
  pub between : Written
  pub run : IsScriptRun before w mid old between
  pub cut : IsLineCut number line mid failed between new f

-- a script is cut: before its first line, out of memory; at a line; or after its last line, because
-- its output is not flushed
pub data IsScriptCut (script : Text) (w : Simulation) (failed : FailedStreams) (old new : Written)
    : Failure → Type 0 where
  no_lines : new ≡ old → IsScriptCut script w failed old new failure.Memory
  in_line : {f : Failure} → IsCutAtLine (numbered_from 1 script) w failed old new f
      → IsScriptCut script w failed old new f
  behind_lines : {f : Failure} (end : Simulation) → IsOutputCut failed f
      → IsScriptRun (numbered_from 1 script) w end old new
      → IsScriptCut script w failed old new f

-- ---- a simulation

-- reading a file is cut: out of memory, with nothing reported, or a beginning was written of the
-- report why it holds no configuration
pub data IsFileCut (file : NamedFile) (failed : FailedStreams) (err_old err_new : Option (List ℕ))
    : Failure → Type 0 where
  no_config : err_new ≡ err_old → IsFileCut file failed err_old err_new failure.Memory
  in_fault : {f : Failure} (fault : ConfigFault) → IsErrorCut failed f
      → IsRefusedFor (text_in file) fault
      → IsBegun err_old err_new (refused_line file fault) → IsFileCut file failed err_old err_new f

-- opening the world of configurations is cut: out of memory, with nothing reported, or a beginning
-- was written of the report that two of them have one Router ID
pub data IsOpeningCut (files : List NamedFile) (configs : List Config) (failed : FailedStreams)
    (err_old err_new : Option (List ℕ)) : Failure → Type 0 where
  no_room : err_new ≡ err_old → IsOpeningCut files configs failed err_old err_new failure.Memory
  in_twins : {f : Failure} (text : Text) → IsErrorCut failed f → SharesRouter files configs text
      → IsBegun err_old err_new text
      → IsOpeningCut files configs failed err_old err_new f

-- making the world of files is cut: out of memory, with nothing reported, or a beginning was
-- written of the report why the first refused file is refused, or that two configurations have one
-- Router ID
pub data IsWorldCut (files : List NamedFile) (failed : FailedStreams)
    (err_old err_new : Option (List ℕ)) : Failure → Type 0 where
  no_world : err_new ≡ err_old → IsWorldCut files failed err_old err_new failure.Memory
  in_file : {f : Failure} (file : NamedFile) (fault : ConfigFault) → IsErrorCut failed f
      → IsFirstRefused file fault files
      → IsBegun err_old err_new (refused_line file fault)
      → IsWorldCut files failed err_old err_new f
  in_same_router : {f : Failure} (configs : List Config) (text : Text) → IsErrorCut failed f
      → AreConfigs files configs → SharesRouter files configs text
      → IsBegun err_old err_new text → IsWorldCut files failed err_old err_new f

-- a simulation is cut: in the report of the first file that could not be read, before there is a
-- world, or in its script
pub data IsSimulationCut (script : NamedFile) (files : List NamedFile) (failed : FailedStreams)
    (old new : Written) : Failure → Type 0 where
  in_unread : {f : Failure} (file : NamedFile) → IsErrorCut failed f
      → IsFirstUnread file (script ∷ files)
      → IsBegun old.err new.err (unread_line file) → new.out ≡ old.out
      → IsSimulationCut script files failed old new f
  in_world : {f : Failure} → AreFilesRead (script ∷ files)
      → IsWorldCut files failed old.err new.err f → new.out ≡ old.out
      → IsSimulationCut script files failed old new f
  in_script : {f : Failure} (start : WorldValue) → AreFilesRead (script ∷ files)
      → IsWorldOf files start
      → IsScriptCut (text_in script) (begun_in start) failed old new f
      → IsSimulationCut script files failed old new f
