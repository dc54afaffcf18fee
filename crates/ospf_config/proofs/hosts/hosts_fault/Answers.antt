use Rattle.std.proofs.Common.{◌≡◌, take}
use Rattle.std.specs.Prelude.{Any}
use Rattle.std.proofs.lemmas.List.{take_all}
use Rattle.ospf_config.specs.Fault.{IsLeastIfAny}
use Rattle.toml.specs.View.{view}
use Rattle.toml.specs.declared.value.Value.{Value}
use Rattle.ospf_config.specs.declared.fault.ConfigFault.{ConfigFault}
use Rattle.ospf_config.specs.Tables.{HasHostFault, IsTableWith}
use Rattle.ospf_config.proofs.Least.{least_both, least_same}
use Rattle.ospf_config.proofs.TableLists.{any_more, any_less}
use Rattle.ospf_config.proofs.hosts.hosts_fault.Goals as goal

-- the value is a table of this fault
abbrev Has : ConfigFault → Value → Type 0
Has f v = IsTableWith (λ t. HasHostFault t f) (view v)

pub loop-value-preserved : goal.loop-value-preserved
loop-value-preserved c =
    let vs = c.args.values.now in
    let i = c.loop-value.value-index in
    let v = c.value-item.result in
    rw c.earlier-least.ensures
    (least_same _ _ _ (λ f. any_more (Has f) vs i v c.loop-value-test.true c.value-item.is) (λ f. any_less (Has f) vs i v c.loop-value-test.true c.value-item.is)
    (least_both _ _ c.loop-value.least c.value_fault.result c.loop-value.invariant c.value_fault.ensures))

pub returns : goal.returns
returns c =
    let vs = c.args.values.now in
    let i = c.loop-value.value-index in
    let so_far : IsLeastIfAny (λ f. Any (Has f) (take i vs)) c.loop-value.least = c.loop-value.invariant in
    let whole : take i vs ≡ vs = take_all i vs c.loop-value-test.false in
    rw whole at so_far
