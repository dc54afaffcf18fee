use Rattle.ospf_graph.specs.EdgeLists.Listed.{advertisements_of}
use Rattle.ospf_whatif.proofs.LostLemmas.{end_ends_lost, no_ends_lost, router_ends_lost, stub_ends_lost, wire_ends_lost}
use Rattle.ospf_whatif.specs.declared.failure.AreaFailure.TheVariants as fails
use Rattle.ospf_whatif.proofs.outage.ends_lost.Goals as goal

pub returns-in-Link : goal.returns-in-Link
returns-in-Link c =
    wire_ends_lost c.args.failure.now (advertisements_of c.args.listing.now) c.in-Link.a c.in-Link.b c.in-Link.subnet c.stubs_of.result c.in-Link.is c.stubs_of.ensures

pub returns-in-End : goal.returns-in-End
returns-in-End c =
    end_ends_lost c.args.failure.now (advertisements_of c.args.listing.now) c.in-End.router c.in-End.other c.in-End.subnet c.stubs_at.result c.in-End.is c.stubs_at.ensures

pub returns-in-Links : goal.returns-in-Links
returns-in-Links c =
    no_ends_lost c.args.failure.now (advertisements_of c.args.listing.now) (fails.Links c.in-Links.a c.in-Links.b) c.in-Links.is (λ p v lost. lost) c.new.result.items c.new.ensures.items

pub returns-in-Attachment : goal.returns-in-Attachment
returns-in-Attachment c =
    no_ends_lost c.args.failure.now (advertisements_of c.args.listing.now) (fails.Attachment c.in-Attachment.router c.in-Attachment.network) c.in-Attachment.is (λ p v lost. lost)
    c.new-in-Attachment.result.items c.new-in-Attachment.ensures.items

pub returns-in-Network : goal.returns-in-Network
returns-in-Network c =
    no_ends_lost c.args.failure.now (advertisements_of c.args.listing.now) (fails.Network c.in-Network.field-0) c.in-Network.is (λ p v lost. lost)
    c.new-in-Network.result.items c.new-in-Network.ensures.items

pub returns-in-Router : goal.returns-in-Router
returns-in-Router c =
    router_ends_lost c.args.failure.now (advertisements_of c.args.listing.now) c.in-Router.gone c.ends_at.result c.in-Router.is c.ends_at.ensures

pub returns-in-Stub : goal.returns-in-Stub
returns-in-Stub c =
    stub_ends_lost c.args.failure.now (advertisements_of c.args.listing.now) c.in-Stub.router c.in-Stub.prefix c.stubs_at-in-Stub.result c.in-Stub.is c.stubs_at-in-Stub.ensures
