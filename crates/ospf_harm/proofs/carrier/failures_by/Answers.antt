use Rattle.std.proofs.Common.{◌↔◌, sym, subst}
use Rattle.std.specs.List.{Contains}
use Rattle.ospf_harm.specs.Carrier.{IsFailureBy}
use Rattle.ospf_harm.specs.declared.carrier.Carrier.{Carrier}
use Rattle.ospf_harm.proofs.CarrierLemmas.{ends_are}
use Rattle.ospf_whatif.proofs.WithoutLemmas.{IfOk-map}
use Rattle.ospf_harm.proofs.carrier.failures_by.Goals as goal

pub returns-in-Switch-clause-all : goal.returns-in-Switch-clause-all
returns-in-Switch-clause-all c =
    IfOk-map c.ends_of.result _ _ c.ends_of.ensures.all
    (λ all adds A are f. subst (λ (k : Carrier). Contains all.items f ↔ IsFailureBy k A f) (sym c.in-Switch.is) (ends_are A c.args.single.now are all.items adds f))
