-- Named files, the configurations in them, and what is printed about a file that is refused.
use Rattle.std.specs.Prelude.{◌≡◌, ◌⊎◌, ℕ, List, [], ◌++◌, Option, IsSome, IsUtf8, codes, option_map, string_bytes, unwrap_or}
use Rattle.ospf_config.specs.Configs.{IsReading, TextHasFault}
use Rattle.ospf_config.specs.Fault.{IsLeastFault, config_fault_text}
use Rattle.ospf_config.specs.declared.config.Config.{Config}
use Rattle.ospf_config.specs.declared.fault.ConfigFault.{ConfigFault}
use Rattle.ospf_config.specs.declared.fault.ConfigFault.TheVariants.{NotToml}
use Rattle.ospf_files.specs.declared.files.NamedFile.{NamedFile}

-- what the file holds, where it could be read
abbrev pub bytes_of : NamedFile → Option (List ℕ)
bytes_of file = option_map (λ bytes. bytes.items) file.bytes

-- the file could be read
abbrev pub IsRead : NamedFile → Type 0
IsRead file = IsSome (bytes_of file)

-- what the file holds, and nothing where it could not be read
abbrev pub text_in : NamedFile → List ℕ
text_in file = unwrap_or (bytes_of file) []

-- the bytes are UTF-8, and the text is read as the configuration and has no fault
pub record IsConfigIn (bytes : List ℕ) (config : Config) : Type 0 where
  pub is_text : IsUtf8 bytes
  pub reads : IsReading bytes config
  pub free : (fault : ConfigFault) → TextHasFault bytes fault → ⊥

-- the bytes are not UTF-8, and so no TOML, or this is the least fault of the text
abbrev pub IsRefusedFor : List ℕ → ConfigFault → Type 0
IsRefusedFor bytes fault =
    ((IsUtf8 bytes → ⊥) × (fault ≡ NotToml))
    ⊎ (IsUtf8 bytes × IsLeastFault (TextHasFault bytes) fault)

-- the line of a file that could not be read
abbrev pub unread_line : NamedFile → List ℕ
unread_line file = string_bytes file.name ++ codes ": not read\n"

-- the line of a file that is refused
abbrev pub refused_line : NamedFile → ConfigFault → List ℕ
refused_line file fault =
    string_bytes file.name ++ (codes ": " ++ (config_fault_text fault ++ codes "\n"))

-- the line of a file of this name that could not be written
abbrev pub unwritten : List ℕ → List ℕ
unwritten name = name ++ codes ": not written\n"
