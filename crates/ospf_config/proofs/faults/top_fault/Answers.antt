use Rattle.std.proofs.Common.{◌⊎◌, Err, inl, inr}
use Rattle.toml.specs.Data.{Members}
use Rattle.toml.specs.View.{table_view}
use Rattle.ospf_config.specs.declared.fault.ConfigFault.{ConfigFault}
use Rattle.ospf_config.specs.Keys.{ReadsOwnRouterId, ReadsArea, ReadsStubRouter, ReadsOtherLsas, ReadsRfc3021}
use Rattle.ospf_config.specs.Tables.{HasTopFault, in_router_id, in_area, in_stub_router, in_other_lsas, in_rfc3021, in_interface, in_host, ReadsInterfaces, ReadsHosts}
use Rattle.ospf_config.proofs.Least.{least_both, least_same, least_error, least_fault}
use Rattle.ospf_config.proofs.Singles.{router_id_single, area_single, stub_router_single, other_lsas_single, rfc3021_single, interface_single, host_list_single}
use Rattle.ospf_config.proofs.faults.top_fault.Goals as goal

abbrev Ways : Members → ConfigFault → Type 0
Ways t f = (ReadsStubRouter t (Err f) ⊎ ReadsOtherLsas t (Err f)) ⊎ ReadsRfc3021 t (Err f)

abbrev Parts : Members → ConfigFault → Type 0
Parts t f = (ReadsOwnRouterId t (Err f) ⊎ ReadsArea t (Err f)) ⊎ (Ways t f ⊎ (ReadsInterfaces t (Err f) ⊎ ReadsHosts t (Err f)))

to_top : (t : Members) (f : ConfigFault) → Parts t f → HasTopFault t f
to_top t f (inl (inl h)) = in_router_id h
to_top t f (inl (inr h)) = in_area h
to_top t f (inr (inl (inl (inl h)))) = in_stub_router h
to_top t f (inr (inl (inl (inr h)))) = in_other_lsas h
to_top t f (inr (inl (inr h))) = in_rfc3021 h
to_top t f (inr (inr (inl h))) = in_interface h
to_top t f (inr (inr (inr h))) = in_host h

from_top : (t : Members) (f : ConfigFault) → HasTopFault t f → Parts t f
from_top t f (in_router_id h) = inl (inl h)
from_top t f (in_area h) = inl (inr h)
from_top t f (in_stub_router h) = inr (inl (inl (inl h)))
from_top t f (in_other_lsas h) = inr (inl (inl (inr h)))
from_top t f (in_rfc3021 h) = inr (inl (inr h))
from_top t f (in_interface h) = inr (inr (inl h))
from_top t f (in_host h) = inr (inr (inr h))

pub returns : goal.returns
returns c =
    let t = table_view c.args.table.now in
    let router_id = least_error (ReadsOwnRouterId t) (router_id_single t) c.router_id_at.result c.err.result c.router_id_at.ensures.reads c.err.ensures.value in
    let area = least_error (ReadsArea t) (area_single t) c.area_at.result c.err-2.result c.area_at.ensures c.err-2.ensures.value in
    let stub = least_error (ReadsStubRouter t) (stub_router_single t) c.stub_router_at.result c.err-3.result c.stub_router_at.ensures c.err-3.ensures.value in
    let other = least_error (ReadsOtherLsas t) (other_lsas_single t) c.other_lsas_at.result c.err-4.result c.other_lsas_at.ensures c.err-4.ensures.value in
    let rfc3021 = least_error (ReadsRfc3021 t) (rfc3021_single t) c.rfc3021_at.result c.err-5.result c.rfc3021_at.ensures c.err-5.ensures.value in
    let list = least_fault (ReadsInterfaces t) (interface_single t) c.list_fault.result c.list_fault.ensures in
    let hosts = least_fault (ReadsHosts t) (host_list_single t) c.host_list_fault.result c.host_list_fault.ensures in
    rw (c.earlier-2.ensures, c.earlier.ensures, c.earlier-ids.ensures, c.earlier-others.ensures, c.earlier-ways.ensures, c.earlier-lists.ensures)
    (least_same _ _ _ (to_top t) (from_top t)
    (least_both _ _ _ _ (least_both _ _ _ _ router_id area)
    (least_both _ _ _ _ (least_both _ _ _ _ (least_both _ _ _ _ stub other) rfc3021) (least_both _ _ _ _ list hosts))))
