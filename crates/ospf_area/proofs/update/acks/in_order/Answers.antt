use Rattle.std.proofs.Common.{◌∙◌, List, ap}
use Rattle.std.proofs.lemmas.List.Sorted.{answers_always}
use Rattle.ospf_lsa.specs.declared.header.LsaHeader.{LsaHeader}
use Rattle.ospf_area.specs.Updates.Acks.{header_precedes, in_order}
use Rattle.ospf_area.proofs.Updates.OrderLemmas.{header_order, sorted_is_in_order}
use Rattle.ospf_area.proofs.update.acks.in_order.Goals as goal

pub returns : goal.returns
returns c =
    let by_key = answers_always _ _ _ (λ f a r f' k. k.met) in
    let sort = c.in_ok-sort_by.ensures in
    sorted_is_in_order c.in_ok-sorted.sorted.items _ (sort.sorted header_precedes header_order by_key) (sort.stable header_precedes header_order by_key)
    ∙ ap (λ (l : List LsaHeader). in_order l) c.in_ok-sorted.ensures.items
