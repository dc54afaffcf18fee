-- Calls that check configurations in files.
use Rattle.std.specs.Prelude.{◌≡◌, ◌≢◌, ◌==◌, if◌then◌else◌, ◌⊎◌, ℕ, List, Option, Some, true, false, map, string_bytes}
use Rattle.std.specs.Str.Lossy.{utf8_lossy}
use Rattle.ospf_files.specs.Files.{bytes_of}
use Rattle.ospf_files.specs.Status.{code_of}
use Rattle.ospf_files.specs.declared.files.NamedFile.{NamedFile}
use Rattle.ospf_files.specs.declared.status.Status.{Status}
use Rattle.ospf_files.specs.declared.status.Status.TheVariants as status
use Rattle.ospf_files.specs.declared.streams.FailedStreams.{FailedStreams}
use Rattle.ospf_files.specs.declared.telling.Telling.{Telling}
use Rattle.ospf_files.specs.declared.telling.Telling.TheVariants as telling
use Rattle.ospf_check.specs.Checked.{IsCheckCutShort, IsWritten}
use Rattle.ospf_check.specs.Area.{IsCheckCut, IsChecked}
use Rattle.ospf_c.specs.Answered.{IsNotAsked, nothing, streams}
use Rattle.ospf_c.specs.declared.files.File.{File}

-- how much is said, by its number
abbrev pub telling_by : ℕ → Telling
telling_by number =
    if number == 0 then telling.Verdict
    else if number == 1 then telling.Explained
    else telling.AllExplained

-- the name of a file, and what it holds, if it could be read
abbrev pub file_data : NamedFile → List ℕ × Option (List ℕ)
file_data file = (string_bytes file.name, bytes_of file)

-- those that a caller gives: U+FFFD stands for what is not UTF-8 in a name
abbrev pub given_data : File → List ℕ × Option (List ℕ)
given_data given = (utf8_lossy given.name.now, Some given.text.now)

-- the files that a caller gives, in their order
abbrev pub AreGivenFiles : List File → List NamedFile → Type 0
AreGivenFiles given files = map file_data files ≡ map given_data given

-- what the program prints of files that it checks, each by itself
pub record IsCheckAnswer (how : Telling) (files : List NamedFile) (s : Status)
    (text warnings : List ℕ) : Type 0 where
  pub done : s ≡ status.Done → IsWritten how files true nothing (streams text warnings)
  pub refused : s ≡ status.Refused → IsWritten how files false nothing (streams text warnings)
  pub cut : (s ≡ status.Memory) ⊎ (s ≡ status.Stream)
      → (failed : FailedStreams)
      × IsCheckCutShort how files failed nothing (streams text warnings) s
  pub not_words : s ≢ status.Words

-- and of those of one area, which it also checks together
pub record IsAreaCheckAnswer (how : Telling) (files : List NamedFile) (s : Status)
    (text warnings : List ℕ) : Type 0 where
  pub done : s ≡ status.Done → IsChecked how files true nothing (streams text warnings)
  pub refused : s ≡ status.Refused → IsChecked how files false nothing (streams text warnings)
  pub cut : (s ≡ status.Memory) ⊎ (s ≡ status.Stream)
      → (failed : FailedStreams)
      × IsCheckCut how files failed nothing (streams text warnings) s
  pub not_words : s ≢ status.Words

-- what is answered of files that are checked
pub data IsCheckOf (how : Telling) (files : List File) (text warnings : List ℕ) (code : ℕ)
    : Type 0 where
  not_asked : IsNotAsked text warnings code
      → IsCheckOf how files text warnings code
  of_files : (named : List NamedFile) (s : Status) → AreGivenFiles files named
      → IsCheckAnswer how named s text warnings → code ≡ code_of s
      → IsCheckOf how files text warnings code

-- and of those of one area
pub data IsAreaCheckOf (how : Telling) (files : List File) (text warnings : List ℕ) (code : ℕ)
    : Type 0 where
  not_asked_of_area : IsNotAsked text warnings code
      → IsAreaCheckOf how files text warnings code
  of_area : (named : List NamedFile) (s : Status) → AreGivenFiles files named
      → IsAreaCheckAnswer how named s text warnings → code ≡ code_of s
      → IsAreaCheckOf how files text warnings code
