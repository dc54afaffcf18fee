-- Lists of files, and the configurations that they hold.
use Rattle.std.specs.Prelude.{◌≡◌, ℕ, List, ◌∷◌, ◌++◌, Option, None, Some}
use Rattle.std.specs.List.{AllByRecursion, AllZip}
use Rattle.std.specs.Io.KnownBytes.{Appends}
use Rattle.ospf_config.specs.declared.config.Config.{Config}
use Rattle.ospf_config.specs.declared.fault.ConfigFault.{ConfigFault}
use Rattle.ospf_files.specs.Files.{IsConfigIn, IsRead, IsRefusedFor, refused_line, text_in}
use Rattle.ospf_files.specs.declared.files.NamedFile.{NamedFile}

-- all files could be read
abbrev pub AreFilesRead : List NamedFile → Type 0
AreFilesRead files = AllByRecursion IsRead files

-- this file could not be read, and those before it could
pub record IsFirstUnread (file : NamedFile) (files : List NamedFile) : Type 0 where
  pub before : List NamedFile
  pub after : List NamedFile
  pub files_are : files ≡ before ++ file ∷ after
  pub read : AreFilesRead before
  pub unread : IsRead file → ⊥

-- each file holds the configuration at its place
abbrev pub AreConfigs : List NamedFile → List Config → Type 0
AreConfigs files configs = AllZip (λ file config. IsConfigIn (text_in file) config) files configs

-- a file holds a configuration, or the reason why it does not is printed
abbrev pub ConfigComes : NamedFile → Option Config → Option (List ℕ) → Option (List ℕ) → Type 0
ConfigComes file (Some config) old new = IsConfigIn (text_in file) config × (new ≡ old)
ConfigComes file None old new =
    (fault : ConfigFault) × IsRefusedFor (text_in file) fault
    × Appends old new (refused_line file fault)

-- this file holds no configuration, for the fault of least number, and those before it hold one
-- each
pub record IsFirstRefused (file : NamedFile) (fault : ConfigFault) (files : List NamedFile)
    : Type 0 where
  pub before : List NamedFile
  pub configs : List Config
  pub after : List NamedFile
  pub files_are : files ≡ before ++ file ∷ after
  pub are_configs : AreConfigs before configs
  pub refused : IsRefusedFor (text_in file) fault

-- the first file that holds no configuration is reported, with its fault
pub record IsRefusalTold (files : List NamedFile) (old new : Option (List ℕ)) : Type 0 where
  pub file : NamedFile
  pub fault : ConfigFault
  pub refused : IsFirstRefused file fault files
  pub told : Appends old new (refused_line file fault)

-- the files hold these configurations, or the first one that holds none is reported, with its fault
abbrev pub ConfigsCome : List NamedFile → Option (List Config) → Option (List ℕ) → Option (List ℕ)
    → Type 0
ConfigsCome files (Some configs) old new = AreConfigs files configs × (new ≡ old)
ConfigsCome files None old new = IsRefusalTold files old new
