use Rattle.std.proofs.Common.{◌≡◌, ◌<◌, List, Result, Ok, Err, IfErr, length, get_or, subst, sym}
use Rattle.std.specs.Result.{IsErrAnd}
use Rattle.ospf_config.specs.declared.interface.Interface.{Interface}
use Rattle.ospf_drive.proofs.UdpWire.Opened.{ports_more, unopened}
use Rattle.ospf_drive.specs.UdpWire.Faults.{IsUnopened}
use Rattle.ospf_drive.specs.declared.udp.fault.OpenFault.{OpenFault}
use Rattle.ospf_drive.proofs.udp.sockets.Sockets.open.Goals as goal

handed_on : {T : Type 0} (r : Result T OpenFault) (e : OpenFault) (P : OpenFault → Type 0) → IsErrAnd r (λ x. x ≡ e) → P e → IfErr r P
handed_on (Ok x) e P is p = tt
handed_on (Err x) e P is p = subst P (sym is) p

pub returns-in_err-outlet-clause-fault : goal.returns-in_err-outlet-clause-fault
returns-in_err-outlet-clause-fault g c =
    let same = c.deref-interface-items.ensures.value in
    let within = subst (λ (is : List Interface). c.loop-interface.interface-index < length is) same c.loop-interface-test.true in
    let here = subst (λ (is : List Interface). c.interface-item.result ≡ get_or is c.loop-interface.interface-index c.interface-item.result) same c.interface-item.is in
    handed_on c.from_residual-in_err-outlet.result c.in_err-outlet.field-0.0 (IsUnopened c.args.config.now.interfaces.items) c.from_residual-in_err-outlet.ensures.1
    (unopened c.args.config.now.interfaces.items c.loop-interface.interface-index c.interface-item.result c.in_err-outlet.field-0.0 within here c.loop-interface.invariant
    c.in_err-outlet.ensures.fault)

pub loop-interface-preserved : goal.loop-interface-preserved
loop-interface-preserved g c =
    let same = c.deref-interface-items.ensures.value in
    let within = subst (λ (is : List Interface). c.loop-interface.interface-index < length is) same c.loop-interface-test.true in
    let here = subst (λ (is : List Interface). c.interface-item.result ≡ get_or is c.loop-interface.interface-index c.interface-item.result) same c.interface-item.is in
    ports_more c.args.config.now.interfaces.items c.loop-interface.interface-index c.interface-item.result within here c.loop-interface.invariant c.in_ok-outlet.ensures.port
