use Rattle.std.proofs.Common.{refl}
use Rattle.ospf_graph.specs.EdgeLists.Listed.{advertisements_of}
use Rattle.ospf_whatif.specs.declared.failure.AreaFailure.TheVariants as fails
use Rattle.ospf_whatif.proofs.SubnetLemmas.{inner_of_end, inner_of_link, inner_of_other}
use Rattle.ospf_whatif.proofs.subnets.inner_of.Goals as goal

pub returns-in-Link : goal.returns-in-Link
returns-in-Link c =
    inner_of_link c.args.failure.now (advertisements_of c.args.listing.now) c.in-Link.a c.in-Link.b c.in-Link.subnet c.inner_between.result c.in-Link.is c.inner_between.ensures

pub returns-in-End : goal.returns-in-End
returns-in-End c =
    inner_of_end c.args.failure.now (advertisements_of c.args.listing.now) c.in-End.router c.in-End.other c.in-End.subnet c.inner_between-in-End.result c.in-End.is c.inner_between-in-End.ensures

pub returns-in-Links : goal.returns-in-Links
returns-in-Links c =
    inner_of_other c.args.failure.now (advertisements_of c.args.listing.now) (fails.Links c.in-Links.a c.in-Links.b) c.in-Links.is refl c.new.result.items c.new.ensures.items

pub returns-in-Attachment : goal.returns-in-Attachment
returns-in-Attachment c =
    inner_of_other c.args.failure.now (advertisements_of c.args.listing.now) (fails.Attachment c.in-Attachment.router c.in-Attachment.network) c.in-Attachment.is refl
    c.new-in-Attachment.result.items c.new-in-Attachment.ensures.items

pub returns-in-Network : goal.returns-in-Network
returns-in-Network c =
    inner_of_other c.args.failure.now (advertisements_of c.args.listing.now) (fails.Network c.in-Network.field-0) c.in-Network.is refl
    c.new-in-Network.result.items c.new-in-Network.ensures.items

pub returns-in-Router : goal.returns-in-Router
returns-in-Router c =
    inner_of_other c.args.failure.now (advertisements_of c.args.listing.now) (fails.Router c.in-Router.field-0) c.in-Router.is refl
    c.new-in-Router.result.items c.new-in-Router.ensures.items

pub returns-in-Stub : goal.returns-in-Stub
returns-in-Stub c =
    inner_of_other c.args.failure.now (advertisements_of c.args.listing.now) (fails.Stub c.in-Stub.router c.in-Stub.prefix) c.in-Stub.is refl
    c.new-in-Stub.result.items c.new-in-Stub.ensures.items
