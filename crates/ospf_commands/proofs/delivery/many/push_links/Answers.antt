use Rattle.std.proofs.Common.{◌≡◌, ◌<◌, ◌≤◌, ◌++◌, ◌∙◌, ap, sym, subst, List, length, take, get_or, flat_map}
use Rattle.std.specs.List.{enumerate_from}
use Rattle.std.proofs.lemmas.List.{append_assoc}
use Rattle.ospf_config.specs.declared.interface.Interface.{Interface}
use Rattle.ospf_commands.specs.Deliveries.Many.{events_on}
use Rattle.ospf_journal.proofs.Enumerated.{all_there, one_more}
use Rattle.ospf_commands.proofs.delivery.many.push_links.Goals as goal

pub loop-link-preserved : goal.loop-link-preserved
loop-link-preserved c =
    let f = events_on c.args.many c.args.config.now.router_id in
    let items = c.args.config.now.interfaces.items in
    let before = c.args.events.now.items in
    let so_far = flat_map f (take c.loop-link.link (enumerate_from 0 items)) in
    let within : c.loop-link.link < length items = subst (λ (xs : List Interface). c.loop-link.link < length xs) c.deref-interface-items.ensures.value c.loop-link-test.true in
    let is : c.interface-item.result ≡ get_or items c.loop-link.link c.interface-item.result =
    subst (λ (xs : List Interface). c.interface-item.result ≡ get_or xs c.loop-link.link c.interface-item.result) c.deref-interface-items.ensures.value c.interface-item.is in
    c.in_ok-push_link.ensures ∙ ap (λ es. es ++ f (c.loop-link.link, c.interface-item.result)) c.loop-link.invariant
    ∙ append_assoc before so_far (f (c.loop-link.link, c.interface-item.result)) ∙ ap (λ es. before ++ es) (sym (one_more f items c.loop-link.link c.interface-item.result within is))

pub returns : goal.returns
returns c =
    let f = events_on c.args.many c.args.config.now.router_id in
    let items = c.args.config.now.interfaces.items in
    let all : length items ≤ c.loop-link.link = subst (λ (xs : List Interface). length xs ≤ c.loop-link.link) c.deref-interface-items.ensures.value c.loop-link-test.false in
    c.loop-link.invariant ∙ ap (λ es. c.args.events.now.items ++ es) (all_there f items c.loop-link.link all)
