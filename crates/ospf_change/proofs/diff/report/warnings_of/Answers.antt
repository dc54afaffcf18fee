use Rattle.std.proofs.Common.{◌∙◌, ◌++◌, ap, string_bytes}
use Rattle.ospf_change.specs.Diff.Report.{named_text}
use Rattle.ospf_change.proofs.diff.report.warnings_of.Goals as goal

pub returns : goal.returns
returns c =
    let name = c.args.name.now in
    record {
      of_root = string_bytes c.in_ok-unlisted.unlisted;
      root_is = c.in_ok-unlisted.ensures;
      text_is = c.in_ok-push_str.ensures.bytes ∙ (λ i. (c.in_ok-text.ensures ∙ ap (named_text name) (c.deref.ensures ∙ c.in_ok-left_out.ensures)) i
          ++ (c.deref-3.ensures ∙ c.in_ok-named.ensures ∙ ap (named_text name) c.deref-2.ensures) i);
    }
