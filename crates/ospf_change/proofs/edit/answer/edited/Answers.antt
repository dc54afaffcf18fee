use Rattle.std.proofs.Common.{rules, subst}
use Rattle.ospf_lsa.specs.Listing.{IsListing}
use Rattle.ospf_change.proofs.Edits.ReadBackLemmas.{read_again}
use Rattle.ospf_change.proofs.edit.answer.edited.Goals as goal

pub returns : goal.returns
returns c = record {
  after = c.in_ok-after.after;
  changed_area = search (rules);
  says = search (rules);
  is_read_again = read_again c.in_ok-after.after (subst IsListing c.after.view_is c.after.invariant.listing) c.in_ok-text.ensures.bytes;
}
