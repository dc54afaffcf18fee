-- Files, one after another.
use Rattle.std.proofs.Common.{◌≡◌, ◌≢◌, ◌⊎◌, inl, inr, ap, subst, ℕ, List, [], ◌∷◌, ◌++◌, Option, None, Some, IfSome, IfNone, Result, Ok, Err, IfOk, OnOk}
use Rattle.std.specs.Io.KnownBytes.{Appends}
use Rattle.ospf_files.specs.Files.{unread_line}
use Rattle.ospf_files.specs.Streams.{Written, written_on}
use Rattle.ospf_files.specs.declared.status.Failure.{Failure}
use Rattle.ospf_files.specs.declared.status.Status.TheVariants as status
use Rattle.ospf_files.specs.declared.streams.FailedStreams.{FailedStreams}
use Rattle.ospf_sim.specs.Stopped.{IsStopped, IsScriptUnreadTold, is_unread}
use Rattle.ospf_sim.specs.declared.text.Simulated.{Simulated}
use Rattle.ospf_files.specs.Files.{IsRead}
use Rattle.ospf_files.specs.Listed.{AreFilesRead, IsFirstUnread}
use Rattle.ospf_files.specs.declared.files.NamedFile.{NamedFile}

read_of : (before : List NamedFile) (file : NamedFile) (after : List NamedFile) → AreFilesRead (before ++ file ∷ after) → IsRead file
read_of [] file after all = all.0
read_of (f ∷ before) file after all = read_of before file after all.1

-- where all could be read, there is no first that could not
pub none_unread : (files : List NamedFile) (file : NamedFile) → AreFilesRead files → IsFirstUnread file files → ⊥
none_unread files file all first = first.unread (read_of first.before file first.after (subst AreFilesRead first.files_are all))

-- those behind one that could be read
pub unread_behind : (script file : NamedFile) (files : List NamedFile) → IsRead script → IsFirstUnread file files → IsFirstUnread file (script ∷ files)
unread_behind script file files read first = record {
  before = script ∷ first.before;
  after = first.after;
  files_are = ap (λ fs. script ∷ fs) first.files_are;
  read = (read, first.read);
  unread = first.unread;
}

pub map_some : {A : Type 0} (o : Option A) (P Q : A → Type 0) → ((a : A) → P a → Q a) → IfSome o P → IfSome o Q
map_some None P Q f h = h
map_some (Some a) P Q f h = f a h

pub map_none : {A : Type 0} (o : Option A) (P Q : Type 0) → (P → Q) → IfNone o P → IfNone o Q
map_none None P Q f h = f h
map_none (Some a) P Q f h = h

-- the first file that could not be read is told
pub unread_told : (script : NamedFile) (files : List NamedFile) (file : NamedFile) (result : Result Simulated Failure) (a b x y : Option (List ℕ))
    → IsFirstUnread file (script ∷ files) → b ≡ a → IfOk result (λ s. s.left ≡ None) → OnOk result (Appends x y (unread_line file))
    → IfOk result (λ s. s.status ≡ status.Stream → IsScriptUnreadTold script files s.left (written_on a x) (written_on b y))
unread_told script files file (Err failure) a b x y first same none told = tt
unread_told script files file (Ok s) a b x y first same none told = λ _. record { file = file; first = first; told = told; none = none; same_out = same }

-- what is done or refused did not end for memory, nor for a stream
pub not_memory : (result : Result Simulated Failure) → IfOk result (λ s. (s.status ≡ status.Done) ⊎ (s.status ≡ status.Refused))
    → IfOk result (λ s. s.status ≢ status.Memory)
not_memory (Err failure) ended = tt
not_memory (Ok s) (inl done) = λ is. absurd (cc (done, is))
not_memory (Ok s) (inr refused) = λ is. absurd (cc (refused, is))

-- a simulation that ends with status Stream, and that no failure ended, ended for a file
pub stopped_unread : (script : NamedFile) (files : List NamedFile) (s : Simulated) (failed : FailedStreams) (old new : Written)
    → s.status ≢ status.Memory → (s.status ≡ status.Stream → IsScriptUnreadTold script files s.left old new)
    → (s.status ≡ status.Memory) ⊎ (s.status ≡ status.Stream) → IsStopped script files s.left failed s.status old new
stopped_unread script files s failed old new not told (inl memory) = absurd (not memory)
stopped_unread script files s failed old new not told (inr stream) = is_unread stream (told stream)
