use Rattle.std.proofs.Common.{ap, sym, refl, is_some, Bool, [], ◌∙◌}
use Rattle.std.proofs.lemmas.Result.{on_ok_weaker}
use Rattle.ospf_adjacency.specs.LinkSteps.Parts.{hello_comes, hello_part}
use Rattle.ospf_area.specs.Outboxes.{OutboxValue}
use Rattle.ospf_area.specs.Sending.{context_of}
use Rattle.ospf_area.specs.State.{AreaValue}
use Rattle.ospf_area.specs.declared.sending.RouterContext.{RouterContext}
use Rattle.ospf_adjacency.specs.Heard.{names}
use Rattle.ospf_adjacency.proofs.LinkSteps.WorkLemmas.{works_nowhere, works_there, is_past, is_there}
use Rattle.ospf_adjacency.proofs.link_steps.hellos.take_hello.Goals as goal

pub returns-in-None : goal.returns-in-None
returns-in-None c =
    works_nowhere (hello_part (context_of c.args.area.now) c.args.from c.args.hello.now (names c.args.neighbours c.args.area.now.router) c.args.area.now.next_dd) c.args.from.link c.args.area.now _ c.args.out.now
    (is_past c.area.inside.links.items c.args.area.now.links c.args.from.link c.get_mut.result (sym (ap (λ (s : AreaValue). s.links) c.area.view_is)) c.in-None.is c.get_mut.follows.1.1.0)
    c.area.view_is

pub returns-in_ok-hello_comes-in-Some : goal.returns-in_ok-hello_comes-in-Some
returns-in_ok-hello_comes-in-Some c =
    let s = c.args.area.now in
    let f = c.args.from in
    let h = c.args.hello.now in
    let link = c.in-Some.link.now in
    let comes = λ (own : RouterContext) (named : Bool) (p : OutboxValue). hello_comes own f h named p link in
    on_ok_weaker c.send_all.result
    (λ e. works_there (hello_part (context_of s) f h (names c.args.neighbours s.router) s.next_dd) s _ _ c.args.out.now c.send_all.new.out f.link link c.hello_comes.new.link c.next-area-inside.result
    (comes c.context_of-own.result c.is_named-named.result c.new-outbox.result) c.context_of-own.result c.iface_of-iface.result c.hello_comes.new.outbox
    c.area.view_is
    (is_there c.area.inside.links.items s.links f.link link (sym (ap (λ (s : AreaValue). s.links) c.area.view_is))
    (ap is_some (sym c.in-Some.is) ∙ c.get_mut.follows.1.1.0) c.in-Some.ensures.value)
    c.context_of-own.ensures c.iface_of-iface.ensures
    (ap (λ (own : RouterContext). comes own c.is_named-named.result c.new-outbox.result) c.context_of-own.ensures
    ∙ ap (λ (named : Bool). comes (context_of s) named c.new-outbox.result) c.is_named-named.ensures
    ∙ ap (comes (context_of s) (names c.args.neighbours c.area.inside.router)) c.new-outbox.ensures
    ∙ ap (λ (a : AreaValue). comes (context_of s) (names c.args.neighbours a.router) (record { next = a.next_dd; sent = [] })) c.area.view_is)
    c.in_ok-hello_comes-in-Some.ensures.after c.in_ok-hello_comes-in-Some.ensures.left c.next-area-inside.ensures refl e)
    c.send_all.ensures
