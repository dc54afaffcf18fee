-- What the program's words ask for, as `clap` reads them.
use Rattle.std.specs.Str.Parse.{IsNumeral, digits_value, without_leading_plus}
use Rattle.std.specs.declared.alloc.Global.{Global}
use Rattle.std.specs.Prelude.{◌≡◌, ◌≢◌, ℕ, true, false, Bool, List, [], ◌∷◌, Option, Some, None, Ok, ⊤, String, codes, map, option_map, string_bytes, unwrap_or, vec_items, ◌⊎◌, ◌<◌, ◌^◌}
use Rattle.ospf_base.specs.Text.{ReadsAddress, ReadsRouterId}
use Rattle.ospf_base.specs.declared.ids.Addr.{Addr}
use Rattle.clap.specs.Faults.{fault_of}
use Rattle.clap.specs.Lexer.{usize_max}
use Rattle.clap.specs.Words.{App, Row, Rule, Text, all_of, first_of, one_of, new_app, new_rule, subcommand_of, with_rule, with_subcommand}
use Rattle.clap.specs.declared.builder.action.ArgAction.TheVariants.{Append, SetTrue}
use Rattle.clap.specs.declared.builder.value_parser.ValueParser.TheVariants.{Unsigned}
use Rattle.ospf_words.specs.declared.jobs.CheckJob.{CheckJob}
use Rattle.ospf_words.specs.declared.jobs.DiffWords.{DiffWords}
use Rattle.ospf_words.specs.declared.jobs.EditWords.{EditWords}
use Rattle.ospf_base.specs.declared.ids.RouterId.{RouterId}
use Rattle.ospf_files.specs.declared.telling.Telling.{Telling}
use Rattle.ospf_files.specs.declared.telling.Telling.TheVariants as telling
use Rattle.ospf_harm.specs.declared.carrier.Carrier.{Carrier}
use Rattle.ospf_harm.specs.declared.carrier.Carrier.TheVariants as carrier
use Rattle.ospf_harm.specs.declared.asked.FailuresForm.{FailuresForm}
use Rattle.ospf_harm.specs.declared.asked.FailuresForm.TheVariants as told
use Rattle.ospf_harm.specs.declared.asked.RouterFailures.{RouterFailures}
use Rattle.ospf_failures.specs.declared.answer.FailuresJob.{FailuresJob}
use Rattle.ospf_failures.specs.declared.answer.FailuresJob.TheVariants.{All, Root, Without}
use Rattle.ospf_inspect.specs.declared.answer.Form.{Form}
use Rattle.ospf_inspect.specs.declared.answer.Form.TheVariants as form
use Rattle.ospf_inspect.specs.declared.answer.InspectJob.{InspectJob}
use Rattle.ospf_inspect.specs.declared.answer.InspectJob.TheVariants.{Lsas, Drawing, Tables, TablesLines, Table, TableLines, Path}
use Rattle.ospf_words.specs.declared.jobs.Job.{Job}
use Rattle.ospf_words.specs.declared.jobs.Job.TheVariants as job
use Rattle.ospf_words.specs.declared.jobs.RunJob.{RunJob}
use Rattle.ospf_words.specs.declared.jobs.SimJob.{SimJob}
use Rattle.ospf_table.specs.declared.table.TableJob.{TableJob}

-- a word of this name has to be there
abbrev pub one_rule : Text → Rule
one_rule name = record (new_rule name) { required = true; value_names = 1 }

-- the word for the router whose table is asked for
abbrev pub root_rule : Rule
root_rule = one_rule (codes "root")

-- any number of words
abbrev pub any_rule : Text → Rule
any_rule name = record (new_rule name) {
  action = Some Append;
  range = Some (record { start_inclusive = 0; end_inclusive = usize_max });
  value_names = 1;
}

-- one word or more
abbrev pub several_rule : Text → Rule
several_rule name = record (new_rule name) {
  required = true;
  action = Some Append;
  range = Some (record { start_inclusive = 1; end_inclusive = usize_max });
  value_names = 1;
}

-- the words for the addresses that are looked up
abbrev pub addresses_rule : Rule
addresses_rule = any_rule (codes "addresses")

-- an option of this name that may be given more than once, with a word each time
abbrev pub repeated_rule : Text → Rule
repeated_rule name =
    record (new_rule name) { long = Some name; action = Some Append; value_names = 1 }

-- an option of this name, with a word
abbrev pub option_rule : Text → Rule
option_rule name = record (new_rule name) { long = Some name; value_names = 1 }

-- a flag of this name
abbrev pub flag_rule : Text → Rule
flag_rule name = record (new_rule name) { long = Some name; action = Some SetTrue }

-- the command `table`: a root, then addresses, what is left out, and two flags
abbrev pub table_app : App
table_app =
    with_rule (with_rule (with_rule (with_rule (with_rule (new_app (codes "table"))
    root_rule)
    addresses_rule)
    (repeated_rule (codes "without")))
    (flag_rule (codes "json")))
    (flag_rule (codes "json2"))

-- the words for the files of configurations
abbrev pub files_rule : Rule
files_rule = several_rule (codes "files")

-- the command `check`: five flags, and files
abbrev pub check_app : App
check_app =
    with_rule (with_rule (with_rule (with_rule (with_rule (with_rule (new_app (codes "check"))
    (flag_rule (codes "explain")))
    (flag_rule (codes "all")))
    (flag_rule (codes "area")))
    (flag_rule (codes "json")))
    (flag_rule (codes "json2")))
    files_rule

-- the command `failures`: a root, three flags, what carries the links, and two flags more
abbrev pub failures_app : App
failures_app =
    with_rule (with_rule (with_rule (with_rule (with_rule (with_rule (with_rule
    (new_app (codes "failures"))
    root_rule)
    (flag_rule (codes "each")))
    (flag_rule (codes "strict")))
    (flag_rule (codes "json")))
    (option_rule (codes "carrier")))
    (flag_rule (codes "json2")))
    (flag_rule (codes "harm"))

-- the word for the file of a script
abbrev pub script_rule : Rule
script_rule = one_rule (codes "script")

-- the command `lsas`: two flags
abbrev pub lsas_app : App
lsas_app =
    with_rule (with_rule (new_app (codes "lsas")) (flag_rule (codes "dot")))
    (flag_rule (codes "json"))

-- any number of numbers of 32 bits
abbrev pub choices_rule : Rule
choices_rule = record (any_rule (codes "choices")) { parser = Some (Unsigned 0 4294967295) }

-- the command `path`: a router, an address, then choices
abbrev pub path_app : App
path_app =
    with_rule (with_rule (with_rule (new_app (codes "path"))
    (one_rule (codes "from")))
    (one_rule (codes "address")))
    choices_rule

-- the command `edit`: what goes down, new costs, and routers to drain
abbrev pub edit_app : App
edit_app =
    with_rule (with_rule (with_rule (new_app (codes "edit"))
    (repeated_rule (codes "down")))
    (repeated_rule (codes "cost")))
    (repeated_rule (codes "drain"))

-- the command `diff`: two files, and a router
abbrev pub diff_app : App
diff_app =
    with_rule (with_rule (with_rule (new_app (codes "diff"))
    (one_rule (codes "before")))
    (one_rule (codes "after")))
    (option_rule (codes "root"))

-- the command `sim`: a script, files, the options of what to write, and whether refused lines count
abbrev pub sim_app : App
sim_app =
    with_rule (with_rule (with_rule (with_rule (with_rule (with_rule (with_rule
    (new_app (codes "sim"))
    script_rule)
    files_rule)
    (option_rule (codes "dot")))
    (option_rule (codes "pcap")))
    (option_rule (codes "log")))
    (flag_rule (codes "json")))
    (flag_rule (codes "strict"))

-- how many ticks: a number of at least one
abbrev pub ticks_rule : Rule
ticks_rule =
    record (new_rule (codes "ticks"))
    { required = true; value_names = 1; parser = Some (Unsigned 1 1000000) }

-- the milliseconds of a tick: a thousand at the most, and where nothing is said
abbrev pub tick_rule : Rule
tick_rule =
    record (option_rule (codes "tick"))
    { defaults = codes "1000" ∷ []; parser = Some (Unsigned 1 1000) }

-- after how many ticks tables are printed
abbrev pub every_rule : Rule
every_rule = record (option_rule (codes "every")) { parser = Some (Unsigned 1 1000000) }

-- the command `run`: ticks of this rule, files, and options
abbrev pub run_app : Rule → App
run_app ticks =
    with_rule (with_rule (with_rule (with_rule (with_rule (with_rule (with_rule (with_rule
    (with_rule (with_rule (with_rule (with_rule (with_rule (with_rule (with_rule
    (new_app (codes "run"))
    ticks)
    files_rule)
    tick_rule)
    (option_rule (codes "lookup")))
    (option_rule (codes "floor")))
    (option_rule (codes "pcap")))
    (flag_rule (codes "neighbours")))
    (flag_rule (codes "listing")))
    (flag_rule (codes "lsdb")))
    (flag_rule (codes "drops")))
    every_rule)
    (flag_rule (codes "until-eof")))
    (option_rule (codes "log")))
    (option_rule (codes "log-lsas")))
    (flag_rule (codes "json"))

-- the program, before its commands
abbrev pub ospfd_app : App
ospfd_app = record (new_app (codes "ospfd")) {
  top =
      record (new_app (codes "ospfd")).top
      { no_binary_name = true; has_version = true; subcommand_required = true };
}

-- the program and its commands, where the ticks of a run are of this rule
abbrev pub app_with : Rule → App
app_with ticks =
    with_subcommand (with_subcommand (with_subcommand (with_subcommand (with_subcommand
    (with_subcommand (with_subcommand (with_subcommand (with_subcommand ospfd_app
    table_app.top)
    failures_app.top)
    lsas_app.top)
    path_app.top)
    edit_app.top)
    diff_app.top)
    check_app.top)
    sim_app.top)
    (run_app ticks).top

-- where they are a number
abbrev pub command_app : App
command_app = app_with ticks_rule

-- and with any word allowed in their place
abbrev pub endless_app : App
endless_app = app_with (one_rule (codes "ticks"))

-- each text spells the address at its place
abbrev pub Spell : List Text → List Addr → Type 0
Spell [] [] = ⊤
Spell (text ∷ texts) (address ∷ addresses) = ReadsAddress text (Ok address) × Spell texts addresses
Spell _ _ = ⊥

-- whether a flag is given, by the text that `clap` keeps of it
pub record IsFlag (text : Option Text) (given : Bool) : Type 0 where
  pub none : text ≡ None → given ≡ false
  pub set : text ≡ Some (codes "true") → given ≡ true
  pub unset : text ≡ Some (codes "false") → given ≡ false

-- the words that `clap` reads for an option or an argument, of all its uses
abbrev pub words_for : Text → List Row → List Text
words_for name rows = unwrap_or (all_of name rows) []

-- the words of `edit` have a change
abbrev pub HasChange : List Row → Type 0
HasChange rows =
    (words_for (codes "down") rows ≢ []) ⊎ (words_for (codes "cost") rows ≢ [])
    ⊎ (words_for (codes "drain") rows ≢ [])

-- the router that a text spells, if there is one
abbrev pub IsRouterIfAny : Option Text → Option RouterId → Type 0
IsRouterIfAny (Some text) (Some router) = ReadsRouterId text (Ok router)
IsRouterIfAny None None = ⊤
IsRouterIfAny _ _ = ⊥

-- the root and the addresses that `clap` reads after `table`, if nothing is left out
pub record IsTableJob (rows : List Row) (t : TableJob) : Type 0 where
  pub text : Text
  pub has_root : first_of (codes "root") rows ≡ Some text
  pub root : ReadsRouterId text (Ok t.root)
  pub addresses : Spell (words_for (codes "addresses") rows) t.addresses.items
  pub whole : words_for (codes "without") rows ≡ []
  pub plain : IsFlag (one_of (codes "json") rows) false
  pub json2 : IsFlag (one_of (codes "json2") rows) false

-- the root and the addresses that `clap` reads after `table`, and the names of what is left out
pub record IsWithoutJob (rows : List Row) (root : RouterId) (names : List (String Global))
    (addresses : List Addr) : Type 0 where
  pub text : Text
  pub has_root : first_of (codes "root") rows ≡ Some text
  pub root_is : ReadsRouterId text (Ok root)
  pub addresses_are : Spell (words_for (codes "addresses") rows) addresses
  pub names_are : map string_bytes names ≡ words_for (codes "without") rows
  pub some : names ≢ []
  pub plain : IsFlag (one_of (codes "json") rows) false
  pub json2 : IsFlag (one_of (codes "json2") rows) false

-- the root that `clap` reads after `table`, if the table is printed as JSON: without lookups, and
-- with nothing left out
pub record IsTableInJson (rows : List Row) (root : RouterId) : Type 0 where
  pub text : Text
  pub has_root : first_of (codes "root") rows ≡ Some text
  pub root_is : ReadsRouterId text (Ok root)
  pub alone : words_for (codes "addresses") rows ≡ []
  pub whole : words_for (codes "without") rows ≡ []
  pub json : IsFlag (one_of (codes "json") rows) true
  pub json2 : IsFlag (one_of (codes "json2") rows) false

-- the same where it is printed as JSON of version 2, which has the lookups
pub record IsTableInLines (rows : List Row) (root : RouterId) (addresses : List Addr)
    : Type 0 where
  pub text : Text
  pub has_root : first_of (codes "root") rows ≡ Some text
  pub root_is : ReadsRouterId text (Ok root)
  pub addresses_are : Spell (words_for (codes "addresses") rows) addresses
  pub whole : words_for (codes "without") rows ≡ []
  pub plain : IsFlag (one_of (codes "json") rows) false
  pub json2 : IsFlag (one_of (codes "json2") rows) true

-- and with `all` as its root, of all tables
pub record AreTablesInLines (rows : List Row) : Type 0 where
  pub has_all : first_of (codes "root") rows ≡ Some (codes "all")
  pub alone : words_for (codes "addresses") rows ≡ []
  pub whole : words_for (codes "without") rows ≡ []
  pub plain : IsFlag (one_of (codes "json") rows) false
  pub json2 : IsFlag (one_of (codes "json2") rows) true

-- the form in which it is printed
abbrev pub IsForm : Option Text → Form → Type 0
IsForm text form.Text = IsFlag text false
IsForm text form.Json = IsFlag text true

-- whether the flags of the forms of failures are given
pub record AreForms (rows : List Row) (json json2 harm : Bool) : Type 0 where
  pub json_is : IsFlag (one_of (codes "json") rows) json
  pub json2_is : IsFlag (one_of (codes "json2") rows) json2
  pub harm_is : IsFlag (one_of (codes "harm") rows) harm

-- in which form failures are
abbrev pub IsFailuresForm : List Row → FailuresForm → Type 0
IsFailuresForm rows told.Text = AreForms rows false false false
IsFailuresForm rows told.Json = AreForms rows true false false
IsFailuresForm rows told.JsonLines = AreForms rows false true false
IsFailuresForm rows told.Harm = AreForms rows false false true

-- by its flags, of which one at the most is given
abbrev pub failures_form : Bool → Bool → Bool → Option FailuresForm
failures_form false false false = Some told.Text
failures_form true false false = Some told.Json
failures_form false true false = Some told.JsonLines
failures_form false false true = Some told.Harm
failures_form true true harm = None
failures_form true false true = None
failures_form false true true = None

-- what carries the links, by its word: any carrier, of which a process alone fails, where no word
-- is given
abbrev pub IsCarrier : Option Text → Carrier → Type 0
IsCarrier text carrier.Direct = text ≡ Some (codes "direct")
IsCarrier text carrier.Switch = text ≡ Some (codes "switch")
IsCarrier text carrier.Process = (text ≡ Some (codes "process")) ⊎ (text ≡ None)

-- the root that `clap` reads after `failures`, the flags, and what carries the links
pub record IsRootJob (rows : List Row) (asked : RouterFailures) : Type 0 where
  pub text : Text
  pub has_root : first_of (codes "root") rows ≡ Some text
  pub root_is : ReadsRouterId text (Ok asked.root)
  pub each_is : IsFlag (one_of (codes "each") rows) asked.each
  pub strict_is : IsFlag (one_of (codes "strict") rows) asked.strict
  pub form_is : IsFailuresForm rows asked.form
  pub carrier_is : IsCarrier (first_of (codes "carrier") rows) asked.carrier

-- the same with `all` as its root
pub record IsAllJob (rows : List Row) (each strict : Bool) (f : FailuresForm) (carrier : Carrier)
    : Type 0 where
  pub has_all : first_of (codes "root") rows ≡ Some (codes "all")
  pub each_is : IsFlag (one_of (codes "each") rows) each
  pub strict_is : IsFlag (one_of (codes "strict") rows) strict
  pub form_is : IsFailuresForm rows f
  pub carrier_is : IsCarrier (first_of (codes "carrier") rows) carrier

-- what is asked of failures: by `failures` at a root, or with `all` as its root at all routers, and
-- by `table` the table without what is named
abbrev pub IsFailuresJob : Option (Text × List Row) → FailuresJob → Type 0
IsFailuresJob entered (Root asked) =
    (rows : List Row) × (entered ≡ Some (codes "failures", rows)) × IsRootJob rows asked
IsFailuresJob entered (All each strict f carrier) =
    (rows : List Row) × (entered ≡ Some (codes "failures", rows))
    × IsAllJob rows each strict f carrier
IsFailuresJob entered (Without root names addresses) =
    (rows : List Row) × (entered ≡ Some (codes "table", rows))
    × IsWithoutJob rows root (vec_items names) (vec_items addresses)

-- a text is read as this number
abbrev pub IsNumber : Text → ℕ → Type 0
IsNumber text number =
    IsNumeral 10 (without_leading_plus text)
    × (digits_value 10 (without_leading_plus text) ≡ number)

-- each text is read as the choice at its place
abbrev pub AreChoices : List Text → List ℕ → Type 0
AreChoices [] [] = ⊤
AreChoices (text ∷ texts) (choice ∷ choices) = IsNumber text choice × AreChoices texts choices
AreChoices _ _ = ⊥

-- the router, the address and the choices that `clap` reads after `path`
pub record IsPathJob (rows : List Row) (from : RouterId) (address : Addr) (choices : List ℕ)
    : Type 0 where
  pub from_text : Text
  pub has_from : first_of (codes "from") rows ≡ Some from_text
  pub from_is : ReadsRouterId from_text (Ok from)
  pub address_text : Text
  pub has_address : first_of (codes "address") rows ≡ Some address_text
  pub address_is : ReadsAddress address_text (Ok address)
  pub choices_are : AreChoices (words_for (codes "choices") rows) choices

-- what is printed about LSAs: by `lsas` each in words, or with its flags as a drawing or as JSON;
-- by `table` with `all` as its root, no addresses and nothing left out, all tables, or with its
-- flags the table of a router as JSON; and by `path` a path
abbrev pub IsInspectJob : Option (Text × List Row) → InspectJob → Type 0
IsInspectJob entered (Lsas f) =
    (rows : List Row) × (entered ≡ Some (codes "lsas", rows))
    × IsFlag (one_of (codes "dot") rows) false × IsForm (one_of (codes "json") rows) f
IsInspectJob entered Drawing =
    (rows : List Row) × (entered ≡ Some (codes "lsas", rows))
    × IsFlag (one_of (codes "dot") rows) true × IsFlag (one_of (codes "json") rows) false
IsInspectJob entered (Tables f) =
    (rows : List Row) × (entered ≡ Some (codes "table", rows))
    × (first_of (codes "root") rows ≡ Some (codes "all"))
    × (words_for (codes "addresses") rows ≡ [])
    × (words_for (codes "without") rows ≡ []) × IsForm (one_of (codes "json") rows) f
    × IsFlag (one_of (codes "json2") rows) false
IsInspectJob entered TablesLines =
    (rows : List Row) × (entered ≡ Some (codes "table", rows)) × AreTablesInLines rows
IsInspectJob entered (Table root) =
    (rows : List Row) × (entered ≡ Some (codes "table", rows)) × IsTableInJson rows root
IsInspectJob entered (TableLines root addresses) =
    (rows : List Row) × (entered ≡ Some (codes "table", rows))
    × IsTableInLines rows root (vec_items addresses)
IsInspectJob entered (Path from address choices) =
    (rows : List Row) × (entered ≡ Some (codes "path", rows))
    × IsPathJob rows from address (vec_items choices)

-- what goes down, the new costs and the routers to drain that `clap` reads after `edit`: there is
-- one change at least
pub record IsEditJob (rows : List Row) (e : EditWords) : Type 0 where
  pub down : map string_bytes e.down.items ≡ words_for (codes "down") rows
  pub costs : map string_bytes e.costs.items ≡ words_for (codes "cost") rows
  pub drains : map string_bytes e.drains.items ≡ words_for (codes "drain") rows
  pub some : HasChange rows

-- the two files and the router that `clap` reads after `diff`; one of the files at most is standard
-- input
pub record IsDiffJob (rows : List Row) (d : DiffWords) : Type 0 where
  pub has_before : first_of (codes "before") rows ≡ Some (string_bytes d.before)
  pub has_after : first_of (codes "after") rows ≡ Some (string_bytes d.after)
  pub apart : string_bytes d.before ≡ codes "-" → string_bytes d.after ≢ codes "-"
  pub root : IsRouterIfAny (first_of (codes "root") rows) d.root

-- what `lsas` is asked for by its flags, of which one at the most is given
abbrev pub lsas_asked : Bool → Bool → Option InspectJob
lsas_asked true true = None
lsas_asked true false = Some Drawing
lsas_asked false true = Some (Lsas form.Json)
lsas_asked false false = Some (Lsas form.Text)

-- how much is printed about files: all faults with `--all`, the first with `--explain` only
abbrev pub telling_of : Bool → Bool → Telling
telling_of explain true = telling.AllExplained
telling_of true false = telling.Explained
telling_of false false = telling.Verdict

-- what the flags ask for, with the texts that `clap` reads of each
abbrev pub IsTelling : Option Text → Option Text → Telling → Type 0
IsTelling explain all telling.AllExplained = IsFlag all true
IsTelling explain all telling.Explained = IsFlag all false × IsFlag explain true
IsTelling explain all telling.Verdict = IsFlag all false × IsFlag explain false

-- the files that `clap` reads after `check`, and the flags; JSON of version 1 goes neither with all
-- faults nor with version 2
pub record IsCheckJob (rows : List Row) (c : CheckJob) : Type 0 where
  pub texts : List Text
  pub has_files : all_of (codes "files") rows ≡ Some texts
  pub files : map string_bytes c.files.items ≡ texts
  pub how : IsTelling (one_of (codes "explain") rows) (one_of (codes "all") rows) c.how
  pub area : IsFlag (one_of (codes "area") rows) c.area
  pub json : IsFlag (one_of (codes "json") rows) c.json
  pub lines : IsFlag (one_of (codes "json2") rows) c.lines
  pub apart : c.how ≡ telling.AllExplained → c.json ≡ false
  pub one_version : c.lines ≡ true → c.json ≡ false

-- the script, the files, the files to be written, and whether refused lines count, that `clap`
-- reads after `sim`; no journal is JSON where there is none
pub record IsSimJob (rows : List Row) (s : SimJob) : Type 0 where
  pub has_script : first_of (codes "script") rows ≡ Some (string_bytes s.script)
  pub texts : List Text
  pub has_files : all_of (codes "files") rows ≡ Some texts
  pub files : map string_bytes s.files.items ≡ texts
  pub dot : option_map string_bytes s.dot ≡ first_of (codes "dot") rows
  pub pcap : option_map string_bytes s.pcap ≡ first_of (codes "pcap") rows
  pub log : option_map string_bytes s.log ≡ first_of (codes "log") rows
  pub json : IsFlag (one_of (codes "json") rows) s.json
  pub strict : IsFlag (one_of (codes "strict") rows) s.strict
  pub apart : s.log ≡ None → s.json ≡ false

-- the address that a text spells, if there is one
abbrev pub IsAddressIfAny : Option Text → Option Addr → Type 0
IsAddressIfAny (Some text) (Some address) = ReadsAddress text (Ok address)
IsAddressIfAny None None = ⊤
IsAddressIfAny _ _ = ⊥

-- the number that a text is read as, if there is a text
abbrev pub IsNumberIfAny : Option Text → Option ℕ → Type 0
IsNumberIfAny (Some text) (Some number) = IsNumber text number
IsNumberIfAny (Some text) None = (number : ℕ) → IsNumber text number → number < 2 ^ 64 → ⊥
IsNumberIfAny None None = ⊤
IsNumberIfAny None (Some number) = ⊥

-- how many ticks a run has: the number in the text; without a last one if the text is `forever`
abbrev pub HasTicks : List Row → Option ℕ → Type 0
HasTicks rows (Some ticks) =
    (text : Text) × (one_of (codes "ticks") rows ≡ Some text) × IsNumber text ticks
HasTicks rows None = first_of (codes "ticks") rows ≡ Some (codes "forever")

-- the ticks, the files and the options that `clap` reads after `run`; no journal is JSON where
-- there is neither of the two
pub record IsRunJob (rows : List Row) (r : RunJob) : Type 0 where
  pub ticks : HasTicks rows r.ticks
  pub tick_text : Text
  pub has_tick : one_of (codes "tick") rows ≡ Some tick_text
  pub tick : IsNumber tick_text r.milliseconds
  pub texts : List Text
  pub has_files : all_of (codes "files") rows ≡ Some texts
  pub files : map string_bytes r.files.items ≡ texts
  pub lookup : IsAddressIfAny (first_of (codes "lookup") rows) r.lookup
  pub floor : option_map string_bytes r.floor ≡ first_of (codes "floor") rows
  pub pcap : option_map string_bytes r.pcap ≡ first_of (codes "pcap") rows
  pub every : IsNumberIfAny (one_of (codes "every") rows) r.every
  pub until_eof : IsFlag (one_of (codes "until-eof") rows) r.until_eof
  pub neighbours : IsFlag (one_of (codes "neighbours") rows) r.neighbours
  pub listing : IsFlag (one_of (codes "listing") rows) r.listing
  pub lsdb : IsFlag (one_of (codes "lsdb") rows) r.lsdb
  pub drops : IsFlag (one_of (codes "drops") rows) r.drops
  pub log : option_map string_bytes r.log ≡ first_of (codes "log") rows
  pub log_lsas : option_map string_bytes r.log_lsas ≡ first_of (codes "log-lsas") rows
  pub json : IsFlag (one_of (codes "json") rows) r.json
  pub apart : r.log ≡ None → r.log_lsas ≡ None → r.json ≡ false

-- the job of a run with these ticks
abbrev pub IsRunWith : List Row → Option ℕ → Job → Type 0
IsRunWith rows ticks (job.Run r) = IsRunJob rows r × (r.ticks ≡ ticks)
IsRunWith rows ticks _ = ⊥

-- and of one without a last tick
abbrev pub IsEndlessJob : List Row → Job → Type 0
IsEndlessJob rows = IsRunWith rows None

-- the job is that of the command that the words enter, with the values that they give it
abbrev pub IsJobOf : Option (Text × List Row) → Job → Type 0
IsJobOf entered (job.Table t) =
    (rows : List Row) × (entered ≡ Some (codes "table", rows)) × IsTableJob rows t
IsJobOf entered (job.Failures f) = IsFailuresJob entered f
IsJobOf entered (job.Inspect i) = IsInspectJob entered i
IsJobOf entered (job.Check c) =
    (rows : List Row) × (entered ≡ Some (codes "check", rows)) × IsCheckJob rows c
IsJobOf entered (job.Edit e) =
    (rows : List Row) × (entered ≡ Some (codes "edit", rows)) × IsEditJob rows e
IsJobOf entered (job.Diff d) =
    (rows : List Row) × (entered ≡ Some (codes "diff", rows)) × IsDiffJob rows d
IsJobOf entered (job.Sim s) =
    (rows : List Row) × (entered ≡ Some (codes "sim", rows)) × IsSimJob rows s
IsJobOf entered (job.Run r) =
    (rows : List Row) × (entered ≡ Some (codes "run", rows)) × IsRunJob rows r

-- the words enter a run without a last tick, and the job is that
abbrev pub IsEndlessIn : Option (Text × List Row) → Job → Type 0
IsEndlessIn entered j =
    (rows : List Row) × (entered ≡ Some (codes "run", rows)) × IsEndlessJob rows j

-- the job is that of such a run, as `clap` reads the words with any word allowed in place of the
-- ticks
abbrev pub IsEndless : List Text → Job → Type 0
IsEndless words = IsEndlessIn (subcommand_of endless_app words)

-- `clap` refuses nothing of the words and reads the job in them. Either the ticks of a run are a
-- number; or any word is allowed in their place, and the job is a run without a last tick
abbrev pub IsAsked : List Text → Job → Type 0
IsAsked words j =
    ((fault_of command_app words ≡ []) × IsJobOf (subcommand_of command_app words) j)
    ⊎ ((fault_of endless_app words ≡ []) × IsEndless words j)
