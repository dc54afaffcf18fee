-- What a step does not touch in the database (RFC 2328, sections 13 and 14).
use Rattle.std.specs.Prelude.{◌≡◌}
use Rattle.ospf_base.specs.declared.ids.Instance.{Instance}
use Rattle.ospf_base.specs.declared.ids.LsaKey.{LsaKey}
use Rattle.ospf_area.specs.Outputs.{OutputsValue}
use Rattle.ospf_router.specs.AreaStep.Words.{Brings}

-- an instance of this key is taken or issued
abbrev pub TouchesKey : OutputsValue → LsaKey → Type 0
TouchesKey out key = (i : Instance) × Brings out i × (i.key ≡ key)
