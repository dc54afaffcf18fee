use Rattle.std.proofs.Common.{◌≡◌, ◌<◌, ◌++◌, ◌∙◌, ap, sym, arith, flat_map, length, get_or, take, append-nil}
use Rattle.std.specs.List.{enumerate_from}
use Rattle.ospf_check.specs.Checked.{warning_line}
use Rattle.ospf_check.proofs.Numbered.{flat_map_more}
use Rattle.ospf_check.proofs.check.warnings.Goals as goal

pub loop-link-preserved : goal.loop-link-preserved
loop-link-preserved c =
    let items = c.args.config.now.interfaces.items in
    let i = c.loop-link.link in
    let x = c.interface-item.result in
    let same : c.deref-interface-items.result.now ≡ items = c.deref-interface-items.ensures.value in
    let is : x ≡ get_or items i x = c.interface-item.is ∙ ap (λ xs. get_or xs i x) same in
    let within : i < length items = omega arith in
    c.in_ok-push_warning.ensures
    ∙ ap (λ l. l ++ warning_line c.args.config.now.passes_over (i, x)) c.loop-link.invariant
    ∙ ap (λ l. flat_map (warning_line c.args.config.now.passes_over) (enumerate_from 0 (take i items)) ++ l) (sym (append-nil (warning_line c.args.config.now.passes_over (i, x))))
    ∙ sym (flat_map_more items i x within is (warning_line c.args.config.now.passes_over))
