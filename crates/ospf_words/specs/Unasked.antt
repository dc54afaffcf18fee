-- Why the program's words ask for no job.
use Rattle.std.specs.Prelude.{◌≡◌, ◌≢◌, Bool, true, ◌<◌, ◌^◌, ◌⊎◌, ℕ, List, [], ◌∷◌, ◌++◌, Option, Some, None, Any, Contains, ⊤, codes, string_bytes}
use Rattle.ospf_base.specs.Text.{IsDottedNumber}
use Rattle.ospf_base.specs.declared.ids.Addr.{Addr}
use Rattle.ospf_base.specs.declared.ids.RouterId.{RouterId}
use Rattle.clap.specs.Kinds.{IsAmong}
use Rattle.clap.specs.Words.{Row, Text, all_of, first_of, kind_of, one_of, subcommand_of}
use Rattle.clap.specs.Faults.{fault_of}
use Rattle.ospf_harm.specs.declared.carrier.Carrier.{Carrier}
use Rattle.ospf_words.specs.declared.jobs.Job.{Job}
use Rattle.ospf_words.specs.declared.jobs.JobFault.{JobFault}
use Rattle.ospf_words.specs.declared.jobs.JobFault.TheVariants as fault
use Rattle.ospf_words.specs.Words.{AreForms, HasChange, HasTicks, IsCarrier, IsFlag, IsJobOf, IsNumber, Spell, command_app, endless_app, failures_form, words_for}

-- the text spells no address
abbrev pub IsNoAddress : Text → Type 0
IsNoAddress text = (address : Addr) → IsDottedNumber text address.0 → ⊥

-- the text spells no Router ID
abbrev pub IsNoRouter : Text → Type 0
IsNoRouter text = (router : RouterId) → IsDottedNumber text router.0 → ⊥

-- this text spells no address, and each before it spells one
pub record IsFirstWrong (texts : List Text) (word : Text) : Type 0 where
  pub before : List Text
  pub after : List Text
  pub texts_are : texts ≡ before ++ word ∷ after
  pub addresses : List Addr
  pub spelled : Spell before addresses
  pub wrong : IsNoAddress word

-- the first of the root, which is not `all`, and the addresses after `table` that spells no address
pub record IsWrongInTable (entered : Option (Text × List Row)) (word : Text) : Type 0 where
  pub rows : List Row
  pub table : entered ≡ Some (codes "table", rows)
  pub root : Text
  pub has_root : first_of (codes "root") rows ≡ Some root
  pub one : root ≢ codes "all"
  pub first : IsFirstWrong (root ∷ words_for (codes "addresses") rows) word

-- the root after `failures` spells no address
pub record IsWrongInFailures (entered : Option (Text × List Row)) (word : Text) : Type 0 where
  pub rows : List Row
  pub failures : entered ≡ Some (codes "failures", rows)
  pub has_root : first_of (codes "root") rows ≡ Some word
  pub wrong : IsNoAddress word

-- the first of the router and the address after `path` that spells none
pub record IsWrongInPath (entered : Option (Text × List Row)) (word : Text) : Type 0 where
  pub rows : List Row
  pub path : entered ≡ Some (codes "path", rows)
  pub from : Text
  pub has_from : first_of (codes "from") rows ≡ Some from
  pub address : Text
  pub has_address : first_of (codes "address") rows ≡ Some address
  pub first : IsFirstWrong (from ∷ address ∷ []) word

-- the router whose tables `diff` compares is no Router ID
pub record IsWrongInDiff (entered : Option (Text × List Row)) (word : Text) : Type 0 where
  pub rows : List Row
  pub diff : entered ≡ Some (codes "diff", rows)
  pub has_root : first_of (codes "root") rows ≡ Some word
  pub wrong : IsNoRouter word

-- the lookup of a run is not an address
pub record IsWrongInRun (entered : Option (Text × List Row)) (word : Text) : Type 0 where
  pub rows : List Row
  pub run : entered ≡ Some (codes "run", rows)
  pub has_lookup : first_of (codes "lookup") rows ≡ Some word
  pub wrong : IsNoAddress word

-- the first word that must be an address and is not one
abbrev pub IsWrongValue : Option (Text × List Row) → Text → Type 0
IsWrongValue entered word =
    IsWrongInTable entered word ⊎ IsWrongInFailures entered word ⊎ IsWrongInPath entered word
    ⊎ IsWrongInDiff entered word ⊎ IsWrongInRun entered word

-- there is no text that is read as a number of 64 bits
abbrev pub IsNoNumber : Option Text → Type 0
IsNoNumber text = (t : Text) (number : ℕ) → text ≡ Some t → IsNumber t number → number < 2 ^ 64 → ⊥

-- some text is read as no number of 32 bits
abbrev pub HasNoChoice : List Text → Type 0
HasNoChoice texts =
    (text : Text) × Contains texts text
    × ((number : ℕ) → IsNumber text number → number < 2 ^ 32 → ⊥)

-- the word is that of no carrier
abbrev pub IsNoCarrier : Option Text → Type 0
IsNoCarrier text = (carrier : Carrier) → IsCarrier text carrier → ⊥

-- more than one form of failures is wanted
abbrev pub AreSeveralForms : List Row → Type 0
AreSeveralForms rows =
    (json json2 harm : Bool) × AreForms rows json json2 harm
    × (failures_form json json2 harm ≡ None)

-- what `failures` lacks: a root, a single form, or a carrier by its word
abbrev pub LacksInFailures : List Row → Type 0
LacksInFailures rows =
    (first_of (codes "root") rows ≡ None) ⊎ AreSeveralForms rows
    ⊎ IsNoCarrier (first_of (codes "carrier") rows)

-- what `path` lacks: one of its ends, or a choice
abbrev pub LacksInPath : List Row → Type 0
LacksInPath rows =
    (first_of (codes "from") rows ≡ None) ⊎ (first_of (codes "address") rows ≡ None)
    ⊎ HasNoChoice (words_for (codes "choices") rows)

-- the lines of a journal are wanted as JSON, and there is no journal
abbrev pub IsJsonAlone : List Row → Type 0
IsJsonAlone rows =
    IsFlag (one_of (codes "json") rows) true × (first_of (codes "log") rows ≡ None)

-- the lines of journals are wanted as JSON, and neither the journal of routers nor that of LSAs is
abbrev pub IsJsonWithNoLog : List Row → Type 0
IsJsonWithNoLog rows = IsJsonAlone rows × (first_of (codes "log-lsas") rows ≡ None)

-- what `run` lacks besides its ticks: the number of milliseconds, files, or a journal for its JSON
abbrev pub LacksInRun : List Row → Type 0
LacksInRun rows =
    IsNoNumber (one_of (codes "tick") rows) ⊎ (all_of (codes "files") rows ≡ None)
    ⊎ IsJsonWithNoLog rows

-- what `sim` lacks: a script, files, or a journal for its JSON
abbrev pub LacksInSim : List Row → Type 0
LacksInSim rows =
    (first_of (codes "script") rows ≡ None) ⊎ (all_of (codes "files") rows ≡ None)
    ⊎ IsJsonAlone rows

-- both files of `diff` are standard input
abbrev pub AreBothInput : List Row → Type 0
AreBothInput rows =
    (first_of (codes "before") rows ≡ Some (codes "-"))
    × (first_of (codes "after") rows ≡ Some (codes "-"))

-- what `diff` lacks: a file, or another file than standard input
abbrev pub LacksInDiff : List Row → Type 0
LacksInDiff rows =
    (first_of (codes "before") rows ≡ None) ⊎ (first_of (codes "after") rows ≡ None)
    ⊎ AreBothInput rows

-- a table is wanted with lookups or with parts left out
abbrev pub IsMoreInTable : List Row → Type 0
IsMoreInTable rows =
    (words_for (codes "addresses") rows ≢ [])
    ⊎ (words_for (codes "without") rows ≢ [])

-- a table is wanted as JSON, and also lookups or parts left out
abbrev pub IsMoreInJson : List Row → Type 0
IsMoreInJson rows = IsFlag (one_of (codes "json") rows) true × IsMoreInTable rows

-- all tables are wanted, and also lookups or parts left out
abbrev pub IsMoreOfAll : List Row → Type 0
IsMoreOfAll rows = (first_of (codes "root") rows ≡ Some (codes "all")) × IsMoreInTable rows

-- all faults are wanted, and as JSON
abbrev pub IsAllInJson : List Row → Type 0
IsAllInJson rows =
    IsFlag (one_of (codes "all") rows) true × IsFlag (one_of (codes "json") rows) true

-- JSON of version 2 is wanted, and also that of version 1
abbrev pub AreBothVersions : List Row → Type 0
AreBothVersions rows =
    IsFlag (one_of (codes "json2") rows) true × IsFlag (one_of (codes "json") rows) true

-- a table is wanted as JSON of version 2, and also parts left out
abbrev pub IsWithoutInLines : List Row → Type 0
IsWithoutInLines rows =
    IsFlag (one_of (codes "json2") rows) true × (words_for (codes "without") rows ≢ [])

-- why `table` asks for nothing: it has no root, or `--json` or `all` and more, or version 2 of the
-- JSON and version 1 or parts left out
abbrev pub LacksInTable : List Row → Type 0
LacksInTable rows =
    (first_of (codes "root") rows ≡ None) ⊎ IsMoreInJson rows ⊎ IsMoreOfAll rows
    ⊎ AreBothVersions rows ⊎ IsWithoutInLines rows

-- `lsas` has both its flags
abbrev pub AreBothForms : List Row → Type 0
AreBothForms rows =
    IsFlag (one_of (codes "dot") rows) true × IsFlag (one_of (codes "json") rows) true

-- why `check` asks for nothing: it has no files, all faults as JSON, or both versions of that
abbrev pub LacksInCheck : List Row → Type 0
LacksInCheck rows =
    (all_of (codes "files") rows ≡ None) ⊎ IsAllInJson rows ⊎ AreBothVersions rows

-- the words enter none of the commands
pub record IsNoCommand (entered : Option (Text × List Row)) : Type 0 where
  pub no_table : (rows : List Row) → entered ≢ Some (codes "table", rows)
  pub no_failures : (rows : List Row) → entered ≢ Some (codes "failures", rows)
  pub no_lsas : (rows : List Row) → entered ≢ Some (codes "lsas", rows)
  pub no_path : (rows : List Row) → entered ≢ Some (codes "path", rows)
  pub no_edit : (rows : List Row) → entered ≢ Some (codes "edit", rows)
  pub no_diff : (rows : List Row) → entered ≢ Some (codes "diff", rows)
  pub no_check : (rows : List Row) → entered ≢ Some (codes "check", rows)
  pub no_sim : (rows : List Row) → entered ≢ Some (codes "sim", rows)
  pub no_run : (rows : List Row) → entered ≢ Some (codes "run", rows)

-- why the words ask for nothing: the command that they enter lacks something, or they enter none
pub data IsNoJob (entered : Option (Text × List Row)) : Type 0 where
  in_table : (rows : List Row) → entered ≡ Some (codes "table", rows) → LacksInTable rows
      → IsNoJob entered
  in_failures : (rows : List Row) → entered ≡ Some (codes "failures", rows)
      → LacksInFailures rows → IsNoJob entered
  in_lsas : (rows : List Row) → entered ≡ Some (codes "lsas", rows) → AreBothForms rows
      → IsNoJob entered
  in_path : (rows : List Row) → entered ≡ Some (codes "path", rows) → LacksInPath rows
      → IsNoJob entered
  in_edit : (rows : List Row) → entered ≡ Some (codes "edit", rows) → (HasChange rows → ⊥)
      → IsNoJob entered
  in_diff : (rows : List Row) → entered ≡ Some (codes "diff", rows) → LacksInDiff rows
      → IsNoJob entered
  in_check : (rows : List Row) → entered ≡ Some (codes "check", rows) → LacksInCheck rows
      → IsNoJob entered
  in_sim : (rows : List Row) → entered ≡ Some (codes "sim", rows) → LacksInSim rows
      → IsNoJob entered
  in_run : (rows : List Row) → entered ≡ Some (codes "run", rows)
      → IsNoNumber (one_of (codes "ticks") rows) ⊎ LacksInRun rows → IsNoJob entered
  in_none : IsNoCommand entered → IsNoJob entered

-- the job, or none where there is none
abbrev pub IsJobIfAny : Option (Text × List Row) → Option Job → Type 0
IsJobIfAny entered (Some job) = IsJobOf entered job
IsJobIfAny entered None = IsNoJob entered

-- the words are refused for this, where the ticks of a run are a number: `clap` refuses them by an
-- error of this kind, or refuses nothing, and reads no job or a value that is no address
abbrev pub IsUncounted : List Text → JobFault → Type 0
IsUncounted words (fault.Words e) =
    IsAmong (kind_of e) (fault_of command_app words)
    ⊎ ((fault_of command_app words ≡ []) × IsNoJob (subcommand_of command_app words))
IsUncounted words (fault.Address word) =
    (fault_of command_app words ≡ [])
    × IsWrongValue (subcommand_of command_app words) (string_bytes word)
IsUncounted words fault.Memory = ⊤

-- `forever` is among the words
abbrev pub HasForever : List Text → Type 0
HasForever = Any (λ w. w ≡ codes "forever")

-- a run is entered with `forever` in place of its ticks
abbrev pub IsForeverIn : Option (Text × List Row) → Type 0
IsForeverIn entered =
    (rows : List Row) × (entered ≡ Some (codes "run", rows)) × HasTicks rows None

-- a run without a last tick is entered, and it lacks something
pub record IsUnendingRun (entered : Option (Text × List Row)) : Type 0 where
  pub rows : List Row
  pub run : entered ≡ Some (codes "run", rows)
  pub ticks : HasTicks rows None
  pub lacks : LacksInRun rows

-- the words are refused for this, with any word allowed in place of the ticks: `forever` is among
-- them and `clap` refuses them with an error of this kind, or it refuses nothing, and a run without
-- a last tick lacks something, or has a value that is no address
abbrev pub IsUnending : List Text → JobFault → Type 0
IsUnending words (fault.Words e) =
    (HasForever words × IsAmong (kind_of e) (fault_of endless_app words))
    ⊎ ((fault_of endless_app words ≡ []) × IsUnendingRun (subcommand_of endless_app words))
IsUnending words (fault.Address word) =
    (fault_of endless_app words ≡ []) × IsForeverIn (subcommand_of endless_app words)
    × IsWrongValue (subcommand_of endless_app words) (string_bytes word)
IsUnending words fault.Memory = ⊤

-- no run without a last tick is asked for: `forever` is not among the words, or `clap` reads it
-- elsewhere
abbrev pub IsNoneUnending : List Text → Type 0
IsNoneUnending words =
    (HasForever words → ⊥)
    ⊎ ((fault_of endless_app words ≡ []) × (IsForeverIn (subcommand_of endless_app words) → ⊥))

-- the words are refused for this: where the ticks of a run are a number, or any word; an error of
-- `clap` is of the former only where no run without a last tick is asked for
abbrev pub IsUnasked : List Text → JobFault → Type 0
IsUnasked words (fault.Words e) =
    (IsUncounted words (fault.Words e) × IsNoneUnending words)
    ⊎ IsUnending words (fault.Words e)
IsUnasked words f = IsUncounted words f ⊎ IsUnending words f
