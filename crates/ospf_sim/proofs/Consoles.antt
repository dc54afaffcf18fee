-- Consoles, and what comes of them.
use Rattle.std.proofs.Common.{◌≡◌, ◌≢◌, ◌⊎◌, inl, inr, subst, ℕ, List, Option, None, Some, Result, Ok, Err, IfOk, OnOk}
use Rattle.std.specs.Io.KnownBytes.{Appends}
use Rattle.ospf_commands.specs.Simulations.{begun_in}
use Rattle.ospf_commands.specs.Worlds.{WorldValue}
use Rattle.ospf_commands.specs.declared.simulation.Simulation.{Simulation}
use Rattle.ospf_files.specs.Files.{unread_line}
use Rattle.ospf_files.specs.Listed.{AreFilesRead, IsFirstUnread}
use Rattle.ospf_files.specs.Streams.{Written, written_on}
use Rattle.ospf_files.specs.declared.files.NamedFile.{NamedFile}
use Rattle.ospf_files.specs.declared.status.Failure.{Failure}
use Rattle.ospf_files.specs.declared.status.Status.TheVariants as status
use Rattle.ospf_files.specs.declared.streams.FailedStreams.{FailedStreams}
use Rattle.ospf_script.specs.Words.{Text}
use Rattle.ospf_sim.specs.Consoles.{IsAllAnswered, IsConsoleCut, IsConsoleStopped, IsConsoled, IsSessionCut, IsUnreadOf, in_session, is_unread}
use Rattle.ospf_sim.specs.Simulations.{WorldComes}
use Rattle.ospf_sim.specs.declared.text.Simulated.{Simulated}

-- the first file that could not be read is told
pub unread_of_told : (files : List NamedFile) (file : NamedFile) (result : Result Simulated Failure) (a b x y : Option (List ℕ))
    → IsFirstUnread file files → b ≡ a → IfOk result (λ s. s.left ≡ None) → OnOk result (Appends x y (unread_line file))
    → IfOk result (λ s. s.status ≡ status.Stream → IsUnreadOf files s.left (written_on a x) (written_on b y))
unread_of_told files file (Err failure) a b x y first same none told = tt
unread_of_told files file (Ok s) a b x y first same none told = λ _. record { file = file; first = first; told = told; none = none; same_out = same }

-- a console that ends with status Stream, and that no failure ended, ended for a file
pub console_unread : (input : Option (List ℕ)) (prompt : Text) (files : List NamedFile) (s : Simulated) (failed : FailedStreams) (old new : Written)
    → s.status ≢ status.Memory → (s.status ≡ status.Stream → IsUnreadOf files s.left old new)
    → (s.status ≡ status.Memory) ⊎ (s.status ≡ status.Stream) → IsConsoleStopped input prompt files s.left failed s.status old new
console_unread input prompt files s failed old new not told (inl memory) = absurd (not memory)
console_unread input prompt files s failed old new not told (inr stream) = is_unread stream (told stream)

-- all lines are answered, in a world of the configurations
pub consoled : (found : Option WorldValue) (start : WorldValue) (input : Option (List ℕ)) (prompt : Text) (files : List NamedFile) (s end : Simulation) (simulated : Simulated) (a x y : Option (List ℕ)) (new : Written)
    → found ≡ Some start → WorldComes files found x y → AreFilesRead files → s ≡ begun_in start → simulated.left ≡ Some end → IsAllAnswered input prompt s end (written_on a y) new
    → IsConsoled input prompt files simulated.left (written_on a x) new
consoled None start input prompt files s end simulated a x y new is comes read begins left all = absurd (cc is)
consoled (Some w) start input prompt files s end simulated a x y new is comes read begins left all =
    let one : w ≡ start = cc is in
    let world = subst (λ v. WorldComes files (Some v) x y) one comes in
    record {
      read = read;
      start = start;
      end = end;
      starts = world.0;
      left_is = left;
      all = subst (λ (old : Option (List ℕ)). IsAllAnswered input prompt (begun_in start) end (written_on a old) new) world.1
          (subst (λ (v : Simulation). IsAllAnswered input prompt v end (written_on a y) new) begins all);
    }

-- a session is cut, in a world of the configurations in files
pub session_cut : (found : Option WorldValue) (start : WorldValue) (input : Option (List ℕ)) (prompt : Text) (files : List NamedFile) (s : Simulation) (failed : FailedStreams) (a x y : Option (List ℕ)) (new : Written) (f : Failure)
    → found ≡ Some start → WorldComes files found x y → AreFilesRead files → s ≡ begun_in start → IsSessionCut input prompt s failed (written_on a y) new f → IsConsoleCut input prompt files failed (written_on a x) new f
session_cut None start input prompt files s failed a x y new f is comes read begins cut = absurd (cc is)
session_cut (Some w) start input prompt files s failed a x y new f is comes read begins cut =
    let one : w ≡ start = cc is in
    let world = subst (λ v. WorldComes files (Some v) x y) one comes in
    in_session start read world.0
    (subst (λ (old : Option (List ℕ)). IsSessionCut input prompt (begun_in start) failed (written_on a old) new f) world.1
    (subst (λ (v : Simulation). IsSessionCut input prompt v failed (written_on a y) new f) begins cut))
