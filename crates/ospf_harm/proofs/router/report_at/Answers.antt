use Rattle.std.proofs.Common.{◌∙◌, ◌++◌, ℕ, List, ap, string_bytes, subst, sym}
use Rattle.ospf_graph.specs.EdgeLists.Listed.{advertisements_of}
use Rattle.ospf_harm.specs.Router.{answered}
use Rattle.ospf_harm.specs.Said.{SaysChanges, form_head}
use Rattle.ospf_harm.specs.declared.asked.FailuresStatus.{FailuresStatus}
use Rattle.ospf_harm.proofs.router.report_at.Goals as goal

pub returns : goal.returns
returns c = λ bytes reads leaves.
    let asked = c.args.asked.now in
    let read = c.args.read.now in
    let body = string_bytes c.in_ok-body.body.text in
    answered c.in_ok-said.said.end (record {
      listing = read.listing;
      reads = reads;
      left_out = read.left_out;
      leaves_out = leaves;
      small = c.requires;
      warned = c.in_ok-warnings.ensures;
      body = body;
      says = subst (λ (e : FailuresStatus). SaysChanges asked (advertisements_of read.listing) body e) (sym c.in_ok-said.ensures.end) c.in_ok-body.ensures.said;
      text_is = c.in_ok-said.ensures.text
          ∙ ap (λ (h : List ℕ). h ++ body) (c.in_ok-head.ensures ∙ ap (λ (w : List ℕ). form_head asked.form read.listing read.left_out w) c.deref.ensures);
    }) c.code.ensures
