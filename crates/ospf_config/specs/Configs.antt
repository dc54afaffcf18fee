-- What a text says of a configuration, and which faults it has.
use Rattle.std.specs.Prelude.{◌≡◌, ◌<◌, ℕ, List, Some, None, Ok, slice_get}
use Rattle.std.specs.List.{AllZip}
use Rattle.toml.specs.Data.{Members}
use Rattle.toml.specs.Parse.{parse_document}
use Rattle.ospf_config.specs.declared.config.Config.{Config}
use Rattle.ospf_config.specs.declared.fault.ConfigFault.{ConfigFault}
use Rattle.ospf_config.specs.declared.fault.ConfigFault.TheVariants as fault
use Rattle.ospf_config.specs.Keys.{ReadsOwnRouterId, ReadsArea, ReadsStubRouter, ReadsOtherLsas, asks_rfc3021}
use Rattle.ospf_config.specs.Interfaces.{IsInterfaceOf, AreStubNetworksOf}
use Rattle.ospf_config.specs.Tables.{HasConfigFault, active_tables, passive_tables, host_tables}

-- the configuration is the reading of the table: its interfaces that are not passive in order, and
-- behind them the stub networks
pub record IsConfigOf (t : Members) (c : Config) : Type 0 where
  pub router_id : ReadsOwnRouterId t (Ok c.router_id)
  pub area : ReadsArea t (Ok c.area)
  pub stub_router : ReadsStubRouter t (Ok c.stub_router)
  pub passes_over : ReadsOtherLsas t (Ok c.passes_over)
  pub interfaces : AllZip (IsInterfaceOf (asks_rfc3021 t)) (active_tables t) c.interfaces.items
  pub stubs : AreStubNetworksOf (asks_rfc3021 t) (passive_tables t) (host_tables t) c.stubs.items

-- the text has the fault: it is no TOML, or its table has the fault
abbrev pub TextHasFault : List ℕ → ConfigFault → Type 0
TextHasFault text fault.NotToml = parse_document text ≡ None
TextHasFault text f = (t : Members) × (parse_document text ≡ Some t) × HasConfigFault t f

-- the text is TOML, and the configuration is the reading of its table
pub record IsReading (text : List ℕ) (c : Config) : Type 0 where
  pub table : Members
  pub parsed : parse_document text ≡ Some table
  pub reads : IsConfigOf table c

-- two configurations, at different places, of one Router ID
pub record ShareRouter (configs : List Config) : Type 0 where
  pub place : ℕ
  pub later : ℕ
  pub before : place < later
  pub one : Config
  pub other : Config
  pub at_place : slice_get configs place ≡ Some one
  pub at_later : slice_get configs later ≡ Some other
  pub same : one.router_id ≡ other.router_id
