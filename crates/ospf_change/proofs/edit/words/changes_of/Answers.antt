use Rattle.std.proofs.Common.{◌≡◌, ◌∙◌, ◌++◌, List, subst, sym, vec_items}
use Rattle.ospf_graph.specs.EdgeLists.Listed.{advertisements_of}
use Rattle.ospf_change.specs.Edit.Words.{IsFaultOfEditWords, IsFirstUnknownAmong, IsFirstUnknown, in_costs, in_downs, in_drains}
use Rattle.ospf_change.specs.declared.edit.words.WordKind.TheVariants.{Down, Cost, Drain}
use Rattle.ospf_change.proofs.Edits.KindLemmas.{err_kept, first_same, named_same}
use Rattle.ospf_change.proofs.Edits.WordLemmas.{fault_weaker}
use Rattle.ospf_change.proofs.edit.words.changes_of.Goals as goal

pub returns-in_err-changes-clause-fault : goal.returns-in_err-changes-clause-fault
returns-in_err-changes-clause-fault c =
    let A = advertisements_of c.args.listing.now in
    let single = c.in_ok-single.single.items in
    let job = c.args.job.now in
    let Q = IsFaultOfEditWords (IsFirstUnknown A job) in
    err_kept c.from_residual-in_err-changes.result (λ f. f ≡ c.in_err-changes.field-0.0) Q c.from_residual-in_err-changes.ensures.1 (λ f is. subst Q (sym is)
    (fault_weaker (IsFirstUnknownAmong A c.deref.result.now Down c.deref-2.result.now) (IsFirstUnknown A job) c.in_err-changes.field-0.0
    (λ text first. (
      single,
      c.in_ok-single.ensures.all,
      in_downs (first_same A c.deref.result.now single Down c.deref-2.result.now (vec_items job.down) text c.deref.ensures.value c.deref-2.ensures.value first),
    ))
    c.in_err-changes.ensures.fault))

pub returns-in_err-costs-clause-fault : goal.returns-in_err-costs-clause-fault
returns-in_err-costs-clause-fault c =
    let A = advertisements_of c.args.listing.now in
    let single = c.in_ok-single.single.items in
    let job = c.args.job.now in
    let downs = named_same A c.deref.result.now single Down c.deref-2.result.now (vec_items job.down) c.in_ok-changes.changes.items c.deref.ensures.value c.deref-2.ensures.value c.in_ok-changes.ensures.named in
    let Q = IsFaultOfEditWords (IsFirstUnknown A job) in
    err_kept c.from_residual-in_err-costs.result (λ f. f ≡ c.in_err-costs.field-0.0) Q c.from_residual-in_err-costs.ensures.1 (λ f is. subst Q (sym is)
    (fault_weaker (IsFirstUnknownAmong A c.deref-3.result.now Cost c.deref-4.result.now) (IsFirstUnknown A job) c.in_err-costs.field-0.0
    (λ text first. (
      single,
      c.in_ok-single.ensures.all,
      in_costs (c.in_ok-changes.changes.items, downs)
          (first_same A c.deref-3.result.now single Cost c.deref-4.result.now (vec_items job.costs) text c.deref-3.ensures.value c.deref-4.ensures.value first),
    ))
    c.in_err-costs.ensures.fault))

pub returns-in_err-drains-clause-fault : goal.returns-in_err-drains-clause-fault
returns-in_err-drains-clause-fault c =
    let A = advertisements_of c.args.listing.now in
    let single = c.in_ok-single.single.items in
    let job = c.args.job.now in
    let downs = named_same A c.deref.result.now single Down c.deref-2.result.now (vec_items job.down) c.in_ok-changes.changes.items c.deref.ensures.value c.deref-2.ensures.value c.in_ok-changes.ensures.named in
    let costs = named_same A c.deref-3.result.now single Cost c.deref-4.result.now (vec_items job.costs) c.in_ok-costs.costs.items c.deref-3.ensures.value c.deref-4.ensures.value c.in_ok-costs.ensures.named in
    let Q = IsFaultOfEditWords (IsFirstUnknown A job) in
    err_kept c.from_residual-in_err-drains.result (λ f. f ≡ c.in_err-drains.field-0.0) Q c.from_residual-in_err-drains.ensures.1 (λ f is. subst Q (sym is)
    (fault_weaker (IsFirstUnknownAmong A c.deref-5.result.now Drain c.deref-6.result.now) (IsFirstUnknown A job) c.in_err-drains.field-0.0
    (λ text first. (
      single,
      c.in_ok-single.ensures.all,
      in_drains (c.in_ok-changes.changes.items, downs) (c.in_ok-costs.costs.items, costs)
          (first_same A c.deref-5.result.now single Drain c.deref-6.result.now (vec_items job.drains) text c.deref-5.ensures.value c.deref-6.ensures.value first),
    ))
    c.in_err-drains.ensures.fault))

pub returns-clause-named : goal.returns-clause-named
returns-clause-named c =
    let A = advertisements_of c.args.listing.now in
    let single = c.in_ok-single.single.items in
    let job = c.args.job.now in
    let downs = named_same A c.deref.result.now single Down c.deref-2.result.now (vec_items job.down) c.in_ok-changes.changes.items c.deref.ensures.value c.deref-2.ensures.value c.in_ok-changes.ensures.named in
    let costs = named_same A c.deref-3.result.now single Cost c.deref-4.result.now (vec_items job.costs) c.in_ok-costs.costs.items c.deref-3.ensures.value c.deref-4.ensures.value c.in_ok-costs.ensures.named in
    let drains = named_same A c.deref-5.result.now single Drain c.deref-6.result.now (vec_items job.drains) c.in_ok-drains.drains.items c.deref-5.ensures.value c.deref-6.ensures.value c.in_ok-drains.ensures.named in
    let first : c.extend_from_slice.new.self.items ≡ c.in_ok-changes.changes.items ++ c.in_ok-costs.costs.items =
    c.in_ok-extend_from_slice.ensures.items ∙ (λ i. c.in_ok-changes.changes.items ++ c.deref-7.ensures.value i) in
    record {
      single = single;
      are_single = c.in_ok-single.ensures.all;
      downs = (c.in_ok-changes.changes.items, downs);
      costs = (c.in_ok-costs.costs.items, costs);
      drains = (c.in_ok-drains.drains.items, drains);
      changes_are = c.in_ok-extend_from_slice-2.ensures.items ∙ (λ i. first i ++ c.deref-8.ensures.value i);
    }
