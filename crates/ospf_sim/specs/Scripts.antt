-- What a script does: its lines run one after another, up to one that cannot be read.
use Rattle.std.specs.Prelude.{◌≡◌, ℕ, Bool, true, false, List, [], ◌∷◌, ◌++◌, Ok, Err, codes, decimal}
use Rattle.std.specs.Io.KnownBytes.{Appends}
use Rattle.ospf_base.specs.Events.Text.{world_fault_text}
use Rattle.ospf_base.specs.declared.event.event.WorldFault.{WorldFault}
use Rattle.ospf_script.specs.Commands.{IsUnreadable, SpellsCommand}
use Rattle.ospf_sim.specs.Hints.{hint_text}
use Rattle.ospf_files.specs.Lines.{numbered_from}
use Rattle.ospf_files.specs.Streams.{Written}
use Rattle.ospf_base.specs.Text.{IsBlank}
use Rattle.ospf_script.specs.Words.{Text, line_words}
use Rattle.ospf_script.specs.declared.command.Command.{Command}
use Rattle.ospf_files.specs.declared.line.Line.{Line}
use Rattle.ospf_commands.specs.Commands.{DoesCommand}
use Rattle.ospf_commands.specs.Simulations.{Answer}
use Rattle.ospf_commands.specs.declared.simulation.Simulation.{Simulation}

-- the report that a line is refused, and why
abbrev pub world_refusal_line : ℕ → WorldFault → Text
world_refusal_line number fault =
    codes "line " ++ decimal number ++ codes ": " ++ world_fault_text fault ++ codes "\n"

-- the report that a line cannot be read
abbrev pub not_a_command_line : ℕ → Text
not_a_command_line number = codes "line " ++ decimal number ++ codes ": not a command\n"

-- the hint for that line
abbrev pub hint_line : Text → Text
hint_line line = codes "  " ++ hint_text (line_words line) ++ codes "\n"

-- the report that a line cannot be read, and the hint after it
abbrev pub unreadable_line : ℕ → Text → Text
unreadable_line number line = not_a_command_line number ++ hint_line line

-- what is reported on standard error for the answer to a line
abbrev pub told_of : ℕ → Answer → Text
told_of number (Ok done) = []
told_of number (Err fault) = world_refusal_line number fault

-- a line was refused
abbrev pub with_refusal : Simulation → Simulation
with_refusal w = record w { is_refused = true }

-- the simulation after a line with this answer
abbrev pub answered : Answer → Simulation → Simulation
answered (Ok done) w = w
answered (Err fault) w = with_refusal w

-- what a line of this number does: the simulation after it, and what is written to standard output
-- and to standard error
pub data RunsLine (number : ℕ) (line : Text) (w w' : Simulation) (out err : Text) : Type 0 where
  is_passed_over : IsBlank line → w' ≡ w → out ≡ [] → err ≡ [] → RunsLine number line w w' out err
  is_taken : (c : Command) (answer : Answer) (mid : Simulation) → SpellsCommand (line_words line) c
      → DoesCommand c w answer out mid → w' ≡ answered answer mid → err ≡ told_of number answer
      → RunsLine number line w w' out err

-- the numbered lines run one after another: a refused line does not end the run
pub data RunsLines : List (ℕ × Text) → Simulation → Simulation → Text → Text → Type 0 where
  no_line : {w : Simulation} → RunsLines [] w w [] []
  one_line : {number : ℕ} {line : Text} {lines : List (ℕ × Text)} {w mid w' : Simulation}
      {out outs err errs : Text}
      → RunsLine number line w mid out err → RunsLines lines mid w' outs errs
      → RunsLines ((number, line) ∷ lines) w w' (out ++ outs) (err ++ errs)

-- lines have run, and their output was written
pub record IsScriptRun (lines : List (ℕ × Text)) (w w' : Simulation) (old new : Written)
    : Type 0 where
  pub out : Text
  pub err : Text
  pub runs : RunsLines lines w w' out err
  pub out_written : Appends old.out new.out out
  pub err_written : Appends old.err new.err err

-- a line has run, and its output was written
pub record IsRunLine (number : ℕ) (line : Text) (w w' : Simulation) (old new : Written)
    : Type 0 where
  pub out : Text
  pub err : Text
  pub runs : RunsLine number line w w' out err
  pub out_written : Appends old.out new.out out
  pub err_written : Appends old.err new.err err

-- a line that cannot be read changes nothing
pub record IsNotRead (line : Text) (w w' : Simulation) (old new : Written) : Type 0 where
  pub unreadable : IsUnreadable line
  pub same_world : w' ≡ w
  pub same_written : new ≡ old

-- the result of a line, by whether it could be read
abbrev pub LineComes : Bool → Line → Simulation → Simulation → Written → Written → Type 0
LineComes true line = IsRunLine line.number line.text.now
LineComes false line = IsNotRead line.text.now

-- a script with a line that cannot be read: the lines before it have run, and the first such line
-- is reported as not a command
pub record EndsEarly (script : Text) (w w' : Simulation) (old new : Written) : Type 0 where
  pub number : ℕ
  pub before : List (ℕ × Text)
  pub line : Text
  pub after : List (ℕ × Text)
  pub lines_are : numbered_from 1 script ≡ before ++ (number, line) ∷ after
  pub unreadable : IsUnreadable line
  pub out : Text
  pub err : Text
  pub runs : RunsLines before w w' out err
  pub out_written : Appends old.out new.out out
  pub err_written : Appends old.err new.err (err ++ unreadable_line number line)

-- a whole script has run, or up to a line that cannot be read
abbrev pub ScriptComes : Bool → Text → Simulation → Simulation → Written → Written → Type 0
ScriptComes true script = IsScriptRun (numbered_from 1 script)
ScriptComes false script = EndsEarly script
