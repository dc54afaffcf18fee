use Rattle.std.proofs.Common.{◌≡◌, ◌<◌, ◌++◌, ◌∙◌, ap, sym, arith, ℕ, length, string_bytes, flat_map}
use Rattle.std.specs.List.{list_any}
use Rattle.ospf_world.specs.declared.logs.Datagram.{Datagram}
use Rattle.ospf_views.specs.Datagrams.{has_offer_to, is_offer_to, offer_line, offer_lines}
use Rattle.ospf_views.proofs.LastOffers.{newest, none_more, one_more}
use Rattle.ospf_views.proofs.datagrams.datagram_lines.Goals as goal
use Rattle.ospf_views.proofs.datagrams.datagram_lines.Goals.{then-has_offer+in_ok-more+in_ok-push_str, else-has_offer}

pub loop-datagram-preserved : goal.loop-datagram-preserved
loop-datagram-preserved c =
    let L = offer_lines c.args.world.now c.args.to c.args.router.now.area in
    let p = has_offer_to c.args.world.now c.args.to in
    let before = c.in-Some.before.now in
    let e : ℕ × Datagram = (length before, c.in-Some.datagram.now) in
    let tested : p e ≡ c.has_offer.result = sym (c.has_offer.ensures ∙ ap (list_any (is_offer_to c.args.to)) (c.deref.ensures.value ∙ c.in_ok-offers.ensures)) in
    elim c.if-has_offer.branch [
      | then-has_offer+in_ok-more+in_ok-push_str w ↦
          let some : 0 < c.loop-datagram.left = omega (arith, c.if-left-eq0.false) in
          let one = one_more L p c.loop-datagram.left c.loop-datagram.rest.now before c.in-Some.datagram.now (string_bytes c.loop-datagram.lines) _ c.in-Some.ensures.cases.0 some
          (tested ∙ w.if-has_offer.true) c.loop-datagram.invariant in
          let lines_are : string_bytes c.if-has_offer.lines ≡ string_bytes c.loop-datagram.lines ++ L e =
          ap string_bytes w.lines-is ∙ w.in_ok-push_str.ensures.bytes
          ∙ ap (λ t. string_bytes c.loop-datagram.lines ++ t) (w.deref-then-has_offer-2.ensures ∙ w.in_ok-more.ensures
          ∙ ap (flat_map (offer_line c.args.router.now.area c.args.to c.in-Some.datagram.now)) (w.deref-then-has_offer.ensures.value ∙ c.in_ok-offers.ensures)) in
          ap (λ t. t ++ flat_map L (newest p c.if-has_offer.left before)) lines_are
          ∙ ap (λ n. (string_bytes c.loop-datagram.lines ++ L e) ++ flat_map L (newest p n before)) w.left-is ∙ one
      | else-has_offer w ↦
          ap (λ s. string_bytes s ++ flat_map L (newest p c.if-has_offer.left before)) w.lines-is
          ∙ ap (λ n. string_bytes c.loop-datagram.lines ++ flat_map L (newest p n before)) w.left-is
          ∙ none_more L p c.loop-datagram.left c.loop-datagram.rest.now before c.in-Some.datagram.now (string_bytes c.loop-datagram.lines) _ c.in-Some.ensures.cases.0
          (tested ∙ w.if-has_offer.false) c.loop-datagram.invariant
    ]
