use Rattle.std.proofs.Common.{rules, ◌≡◌, ◌<◌, ◌||◌, ◌++◌, ◌∷◌, [], ◌∙◌, ◌+◌, ap, sym, arith, length, take, if◌then◌else◌}
use Rattle.ospf_plan.specs.Wires.{distinct, has_wire, is_wired, same_wire, wire_key}
use Rattle.ospf_plan.proofs.Steps.{taken}
use Rattle.ospf_plan.proofs.WireOrder.{distinct_more, wired_more}
use Rattle.ospf_plan.proofs.wires.distinct.Goals as goal

pub loop-wire-preserved : goal.loop-wire-preserved
loop-wire-preserved c =
    let wires = c.args.wires.now in
    let i = c.loop-wire.wire-index in
    let x = c.wire-item.result in
    let before = take i wires in
    let within : i < length wires = omega arith in
    let more : take (i + 1) wires ≡ before ++ x ∷ [] = taken wires i x within c.wire-item.is in
    let asked : c.contains.result ≡ has_wire c.loop-wire.set c.key_of-key.result = search rules in
    let known : c.contains.result ≡ is_wired before (wire_key x.end x.peer) =
    asked ∙ ap (has_wire c.loop-wire.set) c.key_of-key.ensures ∙ c.loop-wire.invariant.0 (wire_key x.end x.peer) in (
      (λ q. c.in_ok-add_wire.ensures q
          ∙ ap (λ b. b || same_wire c.key_of-key.result q) (c.loop-wire.invariant.0 q)
          ∙ ap (λ k. is_wired before q || same_wire k q) c.key_of-key.ensures
          ∙ sym (wired_more before x q)
          ∙ ap (λ ws. is_wired ws q) (sym more)),
      c.in_ok-push_unless.ensures
          ∙ ap (λ ws. ws ++ (if c.contains.result then [] else x ∷ [])) c.loop-wire.invariant.1
          ∙ ap (λ b. distinct before ++ (if b then [] else x ∷ [])) known
          ∙ sym (distinct_more before x)
          ∙ ap distinct (sym more),
    )
