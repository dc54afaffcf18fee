use Rattle.std.proofs.Common.{◌≡◌, ◌⊎◌}
use Rattle.ospf_graph.proofs.EdgeLists.AddsLemmas.{adds_as, adds_both}
use Rattle.ospf_harm.specs.Carrier.{EndGiven}
use Rattle.ospf_harm.proofs.CarrierLemmas.{given_itself, link_given}
use Rattle.ospf_whatif.proofs.WithoutLemmas.{OnOk-map}
use Rattle.ospf_harm.proofs.carrier.add_ends.Goals as goal

pub returns-in_ok-add_failure-in-Link-2 : goal.returns-in_ok-add_failure-in-Link-2
returns-in_ok-add_failure-in-Link-2 c =
    adds_as (λ f. (f ≡ c.end.result) ⊎ (f ≡ c.end-in-Link.result)) (EndGiven c.args.failure) _ _
    (link_given c.args.failure c.in-Link.a c.in-Link.b c.in-Link.subnet c.end.result c.end-in-Link.result c.in-Link.is c.end.ensures c.end-in-Link.ensures)
    (adds_both (λ f. f ≡ c.end.result) (λ f. f ≡ c.end-in-Link.result) _ _ _ c.in_ok-add_failure-in-Link.ensures c.in_ok-add_failure-in-Link-2.ensures)

pub returns-in-End : goal.returns-in-End
returns-in-End c =
    OnOk-map c.add_failure-in-End.result _ _ c.add_failure-in-End.ensures (adds_as (λ f. f ≡ c.args.failure) (EndGiven c.args.failure) _ _ (given_itself c.args.failure (λ a b p e. cc (c.in-End.is, e))))

pub returns-in-Links : goal.returns-in-Links
returns-in-Links c =
    OnOk-map c.add_failure-in-Links.result _ _ c.add_failure-in-Links.ensures (adds_as (λ f. f ≡ c.args.failure) (EndGiven c.args.failure) _ _ (given_itself c.args.failure (λ a b p e. cc (c.in-Links.is, e))))

pub returns-in-Attachment : goal.returns-in-Attachment
returns-in-Attachment c =
    OnOk-map c.add_failure-in-Attachment.result _ _ c.add_failure-in-Attachment.ensures (adds_as (λ f. f ≡ c.args.failure) (EndGiven c.args.failure) _ _ (given_itself c.args.failure (λ a b p e. cc (c.in-Attachment.is, e))))

pub returns-in-Network : goal.returns-in-Network
returns-in-Network c =
    OnOk-map c.add_failure-in-Network.result _ _ c.add_failure-in-Network.ensures (adds_as (λ f. f ≡ c.args.failure) (EndGiven c.args.failure) _ _ (given_itself c.args.failure (λ a b p e. cc (c.in-Network.is, e))))

pub returns-in-Router : goal.returns-in-Router
returns-in-Router c =
    OnOk-map c.add_failure-in-Router.result _ _ c.add_failure-in-Router.ensures (adds_as (λ f. f ≡ c.args.failure) (EndGiven c.args.failure) _ _ (given_itself c.args.failure (λ a b p e. cc (c.in-Router.is, e))))

pub returns-in-Stub : goal.returns-in-Stub
returns-in-Stub c =
    OnOk-map c.add_failure-in-Stub.result _ _ c.add_failure-in-Stub.ensures (adds_as (λ f. f ≡ c.args.failure) (EndGiven c.args.failure) _ _ (given_itself c.args.failure (λ a b p e. cc (c.in-Stub.is, e))))
