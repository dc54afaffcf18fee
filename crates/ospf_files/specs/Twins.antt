-- Two files that configure one router, and what is printed about them.
use Rattle.std.specs.Prelude.{◌≡◌, ◌≤◌, ◌++◌, ℕ, List, Some, codes, slice_get, string_bytes}
use Rattle.ospf_base.specs.Text.{number_text}
use Rattle.ospf_config.specs.Configs.{ShareRouter}
use Rattle.ospf_config.specs.declared.config.Config.{Config}
use Rattle.ospf_files.specs.declared.files.NamedFile.{NamedFile}
use Rattle.ospf_files.specs.declared.twins.Twins.{Twins}

-- the Router ID of the first configuration that has that of an earlier one, and the files of both
pub record AreFirstTwins (files : List NamedFile) (configs : List Config) (twins : Twins)
    : Type 0 where
  pub share : ShareRouter configs
  pub first : (other : ShareRouter configs) → share.later ≤ other.later
  pub router_is : twins.router ≡ share.one.router_id
  pub one_at : slice_get files share.place ≡ Some twins.one.now
  pub other_at : slice_get files share.later ≡ Some twins.other.now

-- the fault, and below it the Router ID and the files
abbrev pub same_router_lines : Twins → List ℕ
same_router_lines twins =
    codes "W7 SameRouter\n  " ++ number_text twins.router.0 ++ codes ": "
    ++ string_bytes twins.one.now.name ++ codes ", " ++ string_bytes twins.other.now.name
    ++ codes "\n"
