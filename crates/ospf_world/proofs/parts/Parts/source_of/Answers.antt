use Rattle.std.proofs.Common.{◌≡◌, ◌<◌, ◌∙◌, length, rules, sym, ap, Some, slice_get}
use Rattle.std.proofs.lemmas.Option.{slice_get-get_or}
use Rattle.ospf_config.specs.declared.config.Config.{Config}
use Rattle.ospf_world.specs.declared.logs.Datagram.{Datagram}
use Rattle.ospf_world.specs.Slots.{SlotValue}
use Rattle.ospf_world.specs.Offers.{address_at}
use Rattle.ospf_world.specs.Worlds.{place_in}
use Rattle.ospf_world.proofs.OfferFacts.{source_at, source_nowhere}
use Rattle.ospf_world.proofs.PlaceFacts.{placed, at_within}
use Rattle.ospf_world.proofs.parts.Parts.source_of.Goals as goal

pub index-requires : goal.index-requires
index-requires c =
    let at = sym (c.self.invariant.0 c.args.sent.now.router.0) ∙ sym (c.place.ensures ∙ ap (λ (g : Datagram). place_in c.self.inside.places g.router.0) c.sent.view_is) ∙ c.in_ok-place.was in
    let h : c.in_ok-place.place < length c.self.inside.slots.items = at_within c.self.inside.slots.items _ _ (placed _ _ _ at) in
    search rules

pub returns-in_err-place : goal.returns-in_err-place
returns-in_err-place c =
    let at = sym (c.self.invariant.0 c.args.sent.now.router.0) ∙ sym (c.place.ensures ∙ ap (λ (g : Datagram). place_in c.self.inside.places g.router.0) c.sent.view_is) ∙ c.in_err-place.was in
    rw (← c.self.view_is) (c.from_residual.ensures ∙ source_nowhere c.self.inside.slots.items c.args.sent.now at)

pub returns : goal.returns
returns c =
    let s : SlotValue = c.index.result.now in
    let at = sym (c.self.invariant.0 c.args.sent.now.router.0) ∙ sym (c.place.ensures ∙ ap (λ (g : Datagram). place_in c.self.inside.places g.router.0) c.sent.view_is) ∙ c.in_ok-place.was in
    let within : c.in_ok-place.place < length c.self.inside.slots.items = at_within c.self.inside.slots.items _ _ (placed _ _ _ at) in
    let stands : slice_get c.self.inside.slots.items c.in_ok-place.place ≡ Some s = slice_get-get_or c.self.inside.slots.items c.in_ok-place.place s within ∙ ap (λ (t : SlotValue). Some t) (sym c.index.ensures) in
    rw (← c.self.view_is) (c.address_of.ensures ∙ ap (λ (g : Datagram). address_at c.config.result.now g.sent.link) c.sent.view_is ∙ ap (λ (config : Config). address_at config c.args.sent.now.sent.link) c.config.ensures
    ∙ source_at c.self.inside.slots.items c.args.sent.now c.in_ok-place.place s at stands)
