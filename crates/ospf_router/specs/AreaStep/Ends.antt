-- How every step ends: elections with AdjOK?, own LSAs, and removals (RFC
-- 2328, sections 9.4, 12.4 and 14).
use Rattle.std.specs.Prelude.{length}
use Rattle.ospf_area.specs.Outputs.{AreReadAsSent, OutputsValue}
use Rattle.ospf_area.specs.State.{AreaValue}
use Rattle.ospf_adjacency.specs.LinkSteps.Elections.{ElectsFrom}
use Rattle.ospf_lsdb.specs.Database.{IsDatabase}
use Rattle.ospf_originate.specs.Steps.{OwnLsas}
use Rattle.ospf_area.specs.Acting.{InTurn}
use Rattle.ospf_area.specs.Updates.Removal.{RemovesOne, leaving}

-- a step ends: elections, own LSAs, and removals, one after the other
pub record EndsStep (s : AreaValue) (out out' : OutputsValue) (after : AreaValue) : Type 0 where
  -- the keys of the database rise, and no age is above MaxAge (12.2)
  pub database : IsDatabase s.database
  -- the elections of all links on which one is due, and AdjOK? (9.4)
  pub elected : AreaValue
  pub elected_out : OutputsValue
  pub elects : ElectsFrom (length s.links) s out elected_out elected
  -- the router's own LSAs (12.4)
  pub issued : AreaValue
  pub issued_out : OutputsValue
  pub own : OwnLsas elected elected_out issued_out issued
  pub issued_database : IsDatabase issued.database
  -- the LSAs that leave the database (14)
  pub removes : InTurn RemovesOne (leaving issued) issued issued_out out' after
  -- the bytes of each datagram that went out are read as the packet that was meant
  pub read : AreReadAsSent out'.sent
