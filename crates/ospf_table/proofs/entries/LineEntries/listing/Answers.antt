use Rattle.std.proofs.Common.{◌++◌, ℕ, List, ap, ◌∙◌}
use Rattle.ospf_table.proofs.EntryLemmas.{before_it, young_it}
use Rattle.ospf_table.proofs.entries.LineEntries.listing.Goals as goal

pub append-requires : goal.append-requires
append-requires c =
    let walked = c.self.view_is ∙ c.loop-lsa.invariant ∙ ap (λ (t : List (List ℕ)). c.loop-lsa.listing ++ t) c.in-Some.ensures.steps in
    record {
      last = before_it c.self.inside.lsas.entries c.self.invariant.keyed c.self.invariant.ordered c.loop-lsa.listing c.in-Some.lsa c.next.new.self walked;
      young = young_it c.self.inside.lsas.entries c.self.invariant.keyed c.loop-lsa.listing c.in-Some.lsa c.next.new.self walked;
    }
