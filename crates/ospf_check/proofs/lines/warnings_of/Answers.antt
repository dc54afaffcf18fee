use Rattle.std.proofs.Common.{◌≡◌, ◌<◌, ◌++◌, ◌∙◌, ap, sym, arith, flat_map, length, get_or, take, append-nil, append_assoc}
use Rattle.std.specs.List.{enumerate_from}
use Rattle.ospf_check.specs.Lines.{delay_items, leaf_items, warning_items}
use Rattle.ospf_check.proofs.Numbered.{flat_map_more}
use Rattle.ospf_check.proofs.lines.warnings_of.Goals as goal

pub loop-link-preserved : goal.loop-link-preserved
loop-link-preserved c =
    let items = c.args.config.now.interfaces.items in
    let over = c.args.config.now.passes_over in
    let i = c.loop-link.link in
    let x = c.interface-item.result in
    let before = flat_map (warning_items over) (enumerate_from 0 (take i items)) in
    let same : c.deref-interface-items.result.now ≡ items = c.deref-interface-items.ensures.value in
    let is : x ≡ get_or items i x = c.interface-item.is ∙ ap (λ xs. get_or xs i x) same in
    let within : i < length items = omega arith in
    c.in_ok-push_leaf.ensures
    ∙ ap (λ l. l ++ leaf_items over (i, x)) c.in_ok-push_delay.ensures
    ∙ ap (λ l. (l ++ delay_items (i, x)) ++ leaf_items over (i, x)) c.loop-link.invariant
    ∙ append_assoc before (delay_items (i, x)) (leaf_items over (i, x))
    ∙ ap (λ l. before ++ l) (sym (append-nil (warning_items over (i, x))))
    ∙ sym (flat_map_more items i x within is (warning_items over))
