-- What stands written where a failure cuts what is to be written.
use Rattle.std.proofs.Common.{◌≡◌, ◌∙◌, sym, subst, ◌<◌, ℕ, List, [], ◌∷◌, length, take, drop, get_or, map, Option, None, Some, suc}
use Rattle.std.specs.Io.KnownBytes.{Appends, Keeps}
use Rattle.ospf_config.specs.declared.config.Config.{Config}
use Rattle.ospf_files.proofs.Listed.{files_split}
use Rattle.ospf_files.proofs.Written.{kept_written, nothing_written}
use Rattle.ospf_files.specs.Files.{refused_line, text_in}
use Rattle.ospf_files.specs.Listed.{AreConfigs, AreFilesRead, ConfigsCome}
use Rattle.ospf_files.specs.Streams.{IsBegun, Written, written_on}
use Rattle.ospf_files.specs.declared.files.NamedFile.{NamedFile}
use Rattle.ospf_files.specs.declared.status.Failure.{Failure}
use Rattle.ospf_files.specs.declared.streams.FailedStreams.{FailedStreams}
use Rattle.ospf_script.specs.Commands.{SpellsCommand}
use Rattle.ospf_files.specs.Lines.{numbered_line, numbered_from}
use Rattle.ospf_script.specs.Words.{Text, line_words}
use Rattle.ospf_script.specs.declared.command.Command.{Command}
use Rattle.ospf_files.specs.declared.line.Line.{Line}
use Rattle.ospf_sim.specs.Begun.{IsEventAnswerCut, IsSimulationCut, IsCutAtLine, IsFileCut, IsLineCut, IsOpeningCut, IsScriptCut, IsTellingCut, IsWorldCut, in_fault, in_file, in_refusal, in_same_router, in_script, in_twins, in_unreadable, no_config, no_room, no_world}
use Rattle.ospf_commands.specs.Commands.{DoesCommand, IsDone}
use Rattle.ospf_commands.specs.Simulations.{Answer, begun_in}
use Rattle.ospf_sim.specs.Scripts.{IsScriptRun, unreadable_line}
use Rattle.ospf_sim.specs.Simulations.{WorldComes}
use Rattle.ospf_commands.specs.Worlds.{WorldValue}
use Rattle.ospf_commands.specs.declared.simulation.Simulation.{Simulation}
use Rattle.ospf_sim.proofs.Lines.{entries_split, EndsAtLine}

-- a flush writes nothing
pub flushed : (a b : Option (List ℕ)) → Keeps a b → Appends a b []
flushed a b kept = kept_written a a b [] (nothing_written a) kept

-- a command that is done, and whose refusal is not told whole
pub refusal_cut : (number : ℕ) (line : Text) (c : Command) (w w' : Simulation) (answer : Answer) (failed : FailedStreams) (a b z x y : Option (List ℕ)) (f : Failure) → SpellsCommand (line_words line) c
    → IsDone c w answer w' a b → IsEventAnswerCut number answer failed (written_on b x) (written_on z y) f → IsLineCut number line w failed (written_on a x) (written_on z y) f
refusal_cut number line c w w' answer failed a b z x y f spelled done cut =
    in_refusal (record {
      command = c;
      end = w';
      spelled = spelled;
      fault = cut.fault;
      text = done.text;
      does = subst (λ (given : Answer). DoesCommand c w given done.text w') cut.refused done.is_so;
      out_then = b;
      printed = done.written;
      told = cut.told;
    })

-- a line is cut, and those before it have run
pub line_cut : (lines : List Line) (i : ℕ) (d : Line) (w mid : Simulation) (failed : FailedStreams) (old between new : Written) (f : Failure) → i < length lines
    → IsScriptRun (map numbered_line (take i lines)) w mid old between → IsLineCut (get_or lines i d).number (get_or lines i d).text.now mid failed between new f
    → IsCutAtLine (map numbered_line lines) w failed old new f
line_cut lines i d w mid failed old between new f within so_far cut =
    let line = get_or lines i d in
    record {
      before = map numbered_line (take i lines);
      number = line.number;
      line = line.text.now;
      after = map numbered_line (drop (suc i) lines);
      lines_are = entries_split lines i d within;
      mid = mid;
      between = between;
      run = so_far;
      cut = cut;
    }

-- of a line that cannot be read that is not told whole, and those before it have run
pub early_cut : (lines : List Line) (number : ℕ) (line script : Text) (w w' : Simulation) (failed : FailedStreams) (old between new : Written) (f : Failure) → map numbered_line lines ≡ numbered_from 1 script
    → EndsAtLine (map numbered_line lines) number line w w' old between → IsTellingCut (unreadable_line number line) failed between new f → IsCutAtLine (numbered_from 1 script) w failed old new f
early_cut lines number line script w w' failed old between new f same ends cut = record {
  before = ends.before;
  number = number;
  line = line;
  after = ends.after;
  lines_are = sym same ∙ ends.lines_are;
  mid = w';
  between = between;
  run = ends.run;
  cut = in_unreadable ends.unreadable cut;
}

-- a file is cut, and those before it hold a configuration each
pub file_cut : (files : List NamedFile) (i : ℕ) (file : NamedFile) (configs : List Config) (failed : FailedStreams) (x y z : Option (List ℕ)) (f : Failure) → i < length files
    → file ≡ get_or files i file → AreConfigs (take i files) configs → y ≡ x → IsFileCut file failed y z f → IsWorldCut files failed x z f
file_cut files i file configs failed x y z _ within at are same (no_config untold) = no_world (untold ∙ same)
file_cut files i file configs failed x y z _ within at are same (in_fault {f = f} fault cut refused begun) =
    in_file file fault cut
    (record { before = take i files; configs = configs; after = drop (suc i) files; files_are = files_split files i file within at; are_configs = are; refused = refused })
    (subst (λ (old : Option (List ℕ)). IsBegun old z (refused_line file fault)) same begun)

-- files hold configurations that open no world
opened_cut : (configs : List Config) (files : List NamedFile) (failed : FailedStreams) (x y z : Option (List ℕ)) (f : Failure) → AreConfigs files configs → y ≡ x
    → IsOpeningCut files configs failed y z f → IsWorldCut files failed x z f
opened_cut configs files failed x y z _ are same (no_room untold) = no_world (untold ∙ same)
opened_cut configs files failed x y z _ are same (in_twins {f = f} text cut twins begins) =
    in_same_router configs text cut are twins (subst (λ (old : Option (List ℕ)). IsBegun old z text) same begins)

pub opening_cut : (found : Option (List Config)) (configs : List Config) (files : List NamedFile) (failed : FailedStreams) (x y z : Option (List ℕ)) (f : Failure) → found ≡ Some configs
    → ConfigsCome files found x y → IsOpeningCut files configs failed y z f → IsWorldCut files failed x z f
opening_cut None configs files failed x y z f is comes cut = absurd (cc is)
opening_cut (Some cs) configs files failed x y z f is comes cut =
    let one : cs ≡ configs = cc is in
    opened_cut configs files failed x y z f (subst (AreConfigs files) one comes.0) comes.1 cut

-- a script is cut, in a world of the configurations in files
pub script_cut : (found : Option WorldValue) (start : WorldValue) (script : NamedFile) (files : List NamedFile) (failed : FailedStreams) (a x y : Option (List ℕ)) (new : Written) (f : Failure)
    → found ≡ Some start → WorldComes files found x y → AreFilesRead (script ∷ files) → IsScriptCut (text_in script) (begun_in start) failed (written_on a y) new f → IsSimulationCut script files failed (written_on a x) new f
script_cut None start script files failed a x y new f is comes read cut = absurd (cc is)
script_cut (Some w) start script files failed a x y new f is comes read cut =
    let one : w ≡ start = cc is in
    let world = subst (λ v. WorldComes files (Some v) x y) one comes in
    in_script start read world.0 (subst (λ (old : Option (List ℕ)). IsScriptCut (text_in script) (begun_in start) failed (written_on a old) new f) world.1 cut)
