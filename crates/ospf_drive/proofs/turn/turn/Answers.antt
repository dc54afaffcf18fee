use Rattle.std.proofs.Common.{◌+◌, ℕ, ◌∙◌, ap, sym}
use Rattle.ospf_router.specs.Steps.{happening}
use Rattle.ospf_drive.proofs.Turning.{passed_over, stepped_quietly, stepped_published, failed_to_send, failed_to_publish, is_end-heard, same_known}
use Rattle.ospf_drive.specs.Moments.{event_of}
use Rattle.ospf_drive.specs.Traffic.{heard_from}
use Rattle.ospf_router.specs.Routers.{RouterValue}
use Rattle.ospf_drive.proofs.turn.turn.Goals as goal

pub returns-in_default-event_at : goal.returns-in_default-event_at
returns-in_default-event_at g c =
    let heard = heard_from c.in-Ok.arrival c.recv.new.buffer in
    let none = ap (λ (r : RouterValue). event_of r.links heard) (sym c.router.ensures) ∙ c.in_default-event_at.ensures.none in
    record {
      ok = passed_over heard (is_end-heard c.in-Ok.arrival c.recv.new.buffer c.in_default-arrival.not-End) none c.in-Ok.ensures.taken c.in-Ok.ensures.taken_failures;
      err = tt;
    }

pub returns-then-not-step : goal.returns-then-not-step
returns-then-not-step g c =
    let heard = heard_from c.in-Ok.arrival c.recv.new.buffer in
    let some = ap (λ (r : RouterValue). event_of r.links heard) (sym c.router.ensures) ∙ c.in-Some.ensures.some in
    let sent = c.in-Ok-show_and_send.ensures.out in
    record {
      ok = stepped_quietly heard (happening c.in-Some.event) c.in-Ok-step.step (is_end-heard c.in-Ok.arrival c.recv.new.buffer c.in_default-arrival.not-End) some c.in-Ok.ensures.taken c.in-Ok-step.ensures.taken c.in-Ok-step.ensures.links sent c.in-Ok.ensures.taken_failures c.in-Ok-show_and_send.ensures.out_failures c.if-not-step.true;
      err = tt;
    }

pub returns-in-Ok-publish : goal.returns-in-Ok-publish
returns-in-Ok-publish g c =
    let heard = heard_from c.in-Ok.arrival c.recv.new.buffer in
    let some = ap (λ (r : RouterValue). event_of r.links heard) (sym c.router.ensures) ∙ c.in-Some.ensures.some in
    let sent = c.in-Ok-show_and_send.ensures.out in
    record {
      ok = stepped_published heard (happening c.in-Some.event) c.in-Ok-step.step (is_end-heard c.in-Ok.arrival c.recv.new.buffer c.in_default-arrival.not-End) some c.in-Ok.ensures.taken c.in-Ok-step.ensures.taken c.in-Ok-step.ensures.links sent c.in-Ok.ensures.taken_failures c.in-Ok-show_and_send.ensures.out_failures c.if-not-step.false (c.table.ensures ∙ ap (λ (r : RouterValue). r.table) c.router-3.ensures) c.in-Ok-publish.ensures.fib c.in-Ok-publish.ensures.published c.in-Ok-publish.ensures.told;
      err = tt;
    }

pub returns : goal.returns
returns g c =
    let heard = heard_from c.in-Ok.arrival c.recv.new.buffer in
    let some = ap (λ (r : RouterValue). event_of r.links heard) (sym c.router.ensures) ∙ c.in-Some.ensures.some in
    let sent = c.in-Ok-show_and_send.ensures.out in
    record {
      ok = tt;
      err = failed_to_publish heard (happening c.in-Some.event) c.in-Ok-step.step some c.in-Ok.ensures.taken c.in-Ok-step.ensures.taken sent (c.in-Ok-show_and_send.ensures.out_failures ∙ c.in-Ok.ensures.taken_failures) c.if-not-step.false (same_known c.args.writer.now c.publish.new.self c.in-Err.ensures.fib c.in-Err.ensures.refused);
    }

pub returns-in_default-show_and_send : goal.returns-in_default-show_and_send
returns-in_default-show_and_send g c =
    let heard = heard_from c.in-Ok.arrival c.recv.new.buffer in
    let some = ap (λ (r : RouterValue). event_of r.links heard) (sym c.router.ensures) ∙ c.in-Some.ensures.some in
    let some_out = c.in_default-show_and_send.ensures.some_out in
    record {
      ok = tt;
      err = failed_to_send heard (happening c.in-Some.event) c.in-Ok-step.step some_out.0 some c.in-Ok.ensures.taken c.in-Ok-step.ensures.taken some_out.1 some_out.2 (c.in_default-show_and_send.ensures.some_failures ∙ ap (λ (n : ℕ). n + 1) c.in-Ok.ensures.taken_failures);
    }
