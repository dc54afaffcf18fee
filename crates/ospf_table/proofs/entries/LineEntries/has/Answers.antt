use Rattle.std.proofs.Common.{◌↔◌, List, ℕ, IsTrue, subst}
use Rattle.ospf_lsa.specs.Listing.{HasKey}
use Rattle.ospf_table.proofs.EntryLemmas.{finds}
use Rattle.ospf_table.proofs.entries.LineEntries.has.Goals as goal

pub returns : goal.returns
returns c =
    subst (λ (ls : List (List ℕ)). IsTrue c.contains_key.result ↔ HasKey ls c.args.key.now) c.self.view_is
    (rw c.contains_key.ensures (finds c.args.key.now c.self.inside.lsas.entries c.self.invariant.keyed))
