use Rattle.std.proofs.Common.{◌↔◌, ◌∙◌, List, IsTrue, subst, sym}
use Rattle.ospf_graph.specs.EdgeLists.Listed.{advertisements_of}
use Rattle.ospf_failures.specs.Answer.{HasRouter, IsUnmetSomewhere, added_text}
use Rattle.ospf_harm.specs.Asked.{IsEndBy, IsAllPrinted}
use Rattle.ospf_failures.specs.Overall.{AreOveralls, CutsSomewhere}
use Rattle.ospf_harm.specs.declared.asked.FailuresStatus.{FailuresStatus}
use Rattle.ospf_failures.specs.declared.overall.RouteDetail.{RouteDetail}
use Rattle.ospf_failures.specs.declared.overall.Overall.{Overall}
use Rattle.ospf_harm.proofs.AnswerLemmas.{end_is, whole_end}
use Rattle.ospf_failures.proofs.answer.overalls_said.Goals as goal

pub returns-clause-said : goal.returns-clause-said
returns-clause-said g c =
    let printed = c.in_ok-printed.printed.items in
    let adverts = advertisements_of c.args.at.0.now in
    let cuts : IsTrue c.cuts_somewhere.result ↔ CutsSomewhere printed =
    subst (λ (l : List Overall). IsTrue c.cuts_somewhere.result ↔ CutsSomewhere l) c.deref.ensures.value c.cuts_somewhere.ensures in
    record {
      printed = printed;
      are = subst (λ (d : RouteDetail). AreOveralls c.args.at.1 adverts d printed) c.detail_of.ensures c.in_ok-printed.ensures;
      shown = c.shown_overalls-shown.result.items;
      are_shown = c.shown_overalls-shown.ensures;
      hidden = c.in_ok-hidden.hidden.items;
      are_hidden = c.in_ok-hidden.ensures;
      text_is = c.in_ok-text.ensures ∙ (λ i. added_text c.args.form c.args.each (c.deref-3.ensures.value i) (c.deref-2.ensures.value i));
      ends = subst (λ (e : FailuresStatus). IsEndBy c.args.strict (IsUnmetSomewhere adverts printed) e) (sym c.end_of-end.ensures)
          (end_is (CutsSomewhere printed) (HasRouter adverts) c.args.strict c.cuts_somewhere.result c.has_router.result cuts c.has_router.ensures);
    }

pub returns-clause-whole : goal.returns-clause-whole
returns-clause-whole g c = subst IsAllPrinted (sym c.end_of-end.ensures) (whole_end c.args.strict c.cuts_somewhere.result c.has_router.result)
