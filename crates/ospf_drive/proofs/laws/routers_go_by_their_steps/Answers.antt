use Rattle.ospf_drive.proofs.laws.routers_go_by_their_steps.Goals as goal

pub returns : goal.returns
returns c = record { steps = λ e before t after. (λ is. is, λ is. is); stops = λ e before. (λ may. may, λ may. may) }
