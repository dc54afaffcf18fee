use Rattle.std.proofs.Common.{◌∙◌, ap, length, sym}
use Rattle.ospf_drive.proofs.UdpWire.Planned.{as_many_configs}
use Rattle.ospf_drive.proofs.udp.plan.plan_of.Goals as goal

pub first_portless-requires : goal.first_portless-requires
first_portless-requires c = as_many_configs c.args.files.now c.args.configs.items c.requires.are ∙ ap (λ cs. length cs) (sym c.deref-2.ensures.value)

pub first_twins-requires : goal.first_twins-requires
first_twins-requires c = as_many_configs c.args.files.now c.args.configs.items c.requires.are ∙ ap (λ cs. length cs) (sym c.deref.ensures.value)
