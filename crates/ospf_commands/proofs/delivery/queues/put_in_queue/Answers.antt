use Rattle.std.proofs.Common.{◌≡◌, ◌∙◌, ℕ, Some, ap, set, subst, sym}
use Rattle.std.proofs.lemmas.Option.{same_Some}
use Rattle.ospf_base.specs.Events.Events.{router_in}
use Rattle.ospf_commands.specs.Deliveries.Batches.{put_at, queued}
use Rattle.ospf_world.specs.Worlds.{place_of}
use Rattle.ospf_commands.proofs.Deliveries.BatchFacts.{queued_set}
use Rattle.ospf_commands.proofs.delivery.queues.put_in_queue.Goals as goal

pub returns-in_ok-push-in-Some-clause-some : goal.returns-in_ok-push-in-Some-clause-some
returns-in_ok-push-in-Some-clause-some c = λ place at.
    let there : place_of c.args.world.now.slots (router_in c.args.event.now).0 ≡ Some c.in-Some.place =
    ap (λ r. place_of c.args.world.now.slots r.0) (sym c.router.ensures) ∙ (sym c.place.ensures ∙ c.in-Some.is) in
    let same : place ≡ c.in-Some.place = same_Some place c.in-Some.place (sym at ∙ there) in
    subst (λ (n : ℕ). queued (set c.args.queues.now.items c.in-Some.place c.push.new.self) ≡ put_at n c.args.event.now (queued c.args.queues.now.items)) (sym same)
    (queued_set c.args.queues.now.items c.in-Some.place _ c.push.new.self c.args.event.now (c.requires.within c.in-Some.place there) c.index_mut.ensures.value c.in_ok-push-in-Some.ensures.items)
