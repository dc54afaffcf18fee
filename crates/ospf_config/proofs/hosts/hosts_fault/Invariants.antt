use Rattle.std.proofs.Common.{take}
use Rattle.std.specs.Prelude.{Any}
use Rattle.toml.specs.View.{view}
use Rattle.ospf_config.specs.Fault.{IsLeastIfAny}
use Rattle.ospf_config.specs.Tables.{HasHostFault, IsTableWith}
use Rattle.ospf_config.proofs.hosts.hosts_fault.Given as goal

abbrev pub invariant-loop-value : goal.invariant-loop-value
invariant-loop-value l = IsLeastIfAny (λ f. Any (λ v. IsTableWith (λ t. HasHostFault t f) (view v)) (take l.value-index l.values)) l.least
