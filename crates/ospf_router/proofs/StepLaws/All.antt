-- All laws, of each step by the exact rules.
use Rattle.ospf_router.proofs.StepLaws.Accounted.{OfExact, drops, not_dropped, provenance, retransmission, tables}
use Rattle.ospf_router.proofs.StepLaws.Adjacencies.{acknowledgement_law, adjacency_law}
use Rattle.ospf_router.proofs.StepLaws.Admissions.{admission_law}
use Rattle.ospf_router.proofs.StepLaws.Holds.{listing_law}
use Rattle.ospf_router.proofs.StepLaws.Issues.{issue_law}
use Rattle.ospf_router.specs.Laws.{AcknowledgementLaw, AdjacencyLaw, AdmissionLaw, IssueLaw, KeepsLaws, ListingLaw}

pub issues : OfExact IssueLaw
issues d is = issue_law d is.exact.takes

pub admissions : OfExact AdmissionLaw
admissions d is = admission_law d is.exact

pub listings : OfExact ListingLaw
listings d is = listing_law d (not_dropped d is) is.lawful.laws

pub acknowledgements : OfExact AcknowledgementLaw
acknowledgements d is = acknowledgement_law d is.exact is.lawful.laws

pub adjacencies : OfExact AdjacencyLaw
adjacencies d is = adjacency_law d is.exact is.lawful.laws

pub all_laws : OfExact KeepsLaws
all_laws d is = record {
  provenance = provenance d is;
  issue = issues d is;
  admission = admissions d is;
  listing = listings d is;
  retransmission = retransmission d is;
  acknowledgement = acknowledgements d is;
  table = tables d is;
  drops = drops d is;
  adjacency = adjacencies d is;
}
