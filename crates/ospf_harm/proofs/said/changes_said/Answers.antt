use Rattle.std.proofs.Common.{◌↔◌, ◌∙◌, List, IsTrue, subst, sym}
use Rattle.ospf_graph.specs.EdgeLists.Listed.{advertisements_of}
use Rattle.ospf_graph.specs.Advertisements.{IsListed}
use Rattle.ospf_harm.specs.Asked.{IsAllPrinted, IsEndBy}
use Rattle.ospf_harm.specs.Reports.{HasCut, ReportValue}
use Rattle.ospf_harm.specs.Said.{IsUnmetAt, changes_text}
use Rattle.ospf_harm.specs.declared.asked.FailuresStatus.{FailuresStatus}
use Rattle.ospf_harm.proofs.AnswerLemmas.{end_is, whole_end}
use Rattle.ospf_harm.proofs.ReportLemmas.{reported_of, table_of_cases}
use Rattle.ospf_harm.proofs.said.changes_said.Goals as goal

pub returns-clause-said : goal.returns-clause-said
returns-clause-said c =
    let asked = c.args.asked.now in
    let cases = c.args.cases.now in
    let printed = c.sort_reports.new.reports.items in
    let adverts = advertisements_of c.args.listing.now in
    let cuts : IsTrue c.has_cut.result ↔ HasCut printed = subst (λ (l : List ReportValue). IsTrue c.has_cut.result ↔ HasCut l) c.deref.ensures.value c.has_cut.ensures in
    record {
      table = cases.before.table;
      is_table = table_of_cases asked.carrier adverts asked.root cases c.requires.cases;
      printed = printed;
      reported = reported_of asked.carrier adverts asked.root cases c.args.reports.items printed c.requires.cases c.requires.found c.sort_reports.ensures.same c.sort_reports.ensures.in_order;
      shown = c.shown_reports-shown.result.items;
      are_shown = c.shown_reports-shown.ensures;
      hidden = c.in_ok-hidden.hidden.items;
      are_hidden = c.in_ok-hidden.ensures;
      text_is = c.in_ok-text.ensures ∙ (λ i. changes_text asked (c.deref-3.ensures.value i) (c.deref-2.ensures.value i));
      ends = subst (λ (e : FailuresStatus). IsEndBy asked.strict (IsUnmetAt adverts asked.root printed) e) (sym c.end_of-end.ensures)
          (end_is (HasCut printed) (IsListed adverts asked.root) asked.strict c.has_cut.result c.is_listed.result cuts c.is_listed.ensures);
    }

pub returns-clause-whole : goal.returns-clause-whole
returns-clause-whole c = subst IsAllPrinted (sym c.end_of-end.ensures) (whole_end c.args.asked.now.strict c.has_cut.result c.is_listed.result)
