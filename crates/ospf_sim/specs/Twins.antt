-- What a simulation reports when two files configure one router.
use Rattle.std.specs.Prelude.{◌≡◌, ℕ, List, Option}
use Rattle.std.specs.Io.KnownBytes.{Appends}
use Rattle.ospf_config.specs.declared.config.Config.{Config}
use Rattle.ospf_files.specs.Twins.{AreFirstTwins, same_router_lines}
use Rattle.ospf_files.specs.declared.files.NamedFile.{NamedFile}
use Rattle.ospf_files.specs.declared.twins.Twins.{Twins}
use Rattle.ospf_script.specs.Words.{Text}

-- the files hold configurations of which two have one Router ID, and this is the report on the
-- first that repeats the Router ID of an earlier one
pub record SharesRouter (files : List NamedFile) (configs : List Config) (text : Text)
    : Type 0 where
  pub twins : Twins
  pub first : AreFirstTwins files configs twins
  pub text_is : text ≡ same_router_lines twins

-- that is reported
abbrev pub AreTwinsTold : List NamedFile → List Config → Option (List ℕ) → Option (List ℕ) → Type 0
AreTwinsTold files configs old new =
    (text : Text) × SharesRouter files configs text × Appends old new text
