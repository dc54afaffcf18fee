-- ospf_update/proofs/updates/take_lsa/Answers.antt
use Rattle.std.proofs.Common.{◌≡◌, ◌∙◌, ℕ, Bool, List, Option, Result, Ok, Err, OnOk, subst, sym}
use Rattle.ospf_area.specs.Outputs.{OutputsValue}
use Rattle.ospf_area.specs.State.{AreaValue}
use Rattle.ospf_area.specs.declared.flooding.PacketSource.{PacketSource}
use Rattle.ospf_lsa.specs.Lsa.{IsLsa}
use Rattle.ospf_area.specs.Sending.{and_sends}
use Rattle.ospf_flood.specs.declared.rule.LsaRule.{LsaRule}
use Rattle.ospf_area.specs.Updates.Aging.{turn_out, turned_area}
use Rattle.ospf_area.specs.Updates.Meets.{MeetsLsa, MeetsRule, rule_met}
use Rattle.ospf_area.specs.Updates.Updates.{TakesSlice}
use Rattle.ospf_area.proofs.Updates.Words.{MeetsAndTurns}
use Rattle.ospf_area.proofs.Updates.TurnLemmas.{rule_rests, turn_rests, turns_none}
use Rattle.ospf_area.proofs.update.updates.take_lsa.Goals as goal

-- bytes that were read as an LSA meet what that LSA meets
met : (f : PacketSource) (lsa bytes : List ℕ) (s t : AreaValue) (o o' : OutputsValue) → lsa ≡ bytes → IsLsa bytes → MeetsAndTurns f lsa s o o' t → TakesSlice f bytes s o o' t
met f lsa bytes s t o o' is valid meets = TakesSlice.Met valid meets.mid meets.so_far (subst (λ (l : List ℕ). MeetsLsa f l s o meets.so_far meets.mid) is meets.meets) meets.state meets.outputs

-- and where they are turned to, all of it
turned : {E : Type 0} (r : Result Bool E) (rule : Option LsaRule) (f : PacketSource) (lsa bytes : List ℕ) (s mid t : AreaValue) (o so_far o' : OutputsValue) → lsa ≡ bytes → IsLsa bytes
    → rule ≡ rule_met s f lsa → MeetsRule rule f lsa s o so_far mid → OnOk r (t ≡ turned_area mid) → OnOk r (o' ≡ and_sends so_far (turn_out mid)) → OnOk r (TakesSlice f bytes s o o' t)
turned (Ok quiet) rule f lsa bytes s mid t o so_far o' is valid met_it meets state outputs =
    met f lsa bytes s t o o' is valid (record { mid = mid; so_far = so_far; meets = subst (λ (x : Option LsaRule). MeetsRule x f lsa s o so_far mid) met_it meets; state = state; outputs = outputs })
turned (Err e) rule f lsa bytes s mid t o so_far o' is valid met_it meets state outputs = tt

pub returns-clause-takes : goal.returns-clause-takes
returns-clause-takes c =
    turned c.turn_and_tell.result c.rule_met-rule.result c.args.from c.in-Ok.lsa c.args.bytes.now c.args.area.now c.follow.new.area c.turn_and_tell.new.area c.args.out.now c.follow.new.out c.turn_and_tell.new.out
    c.in-Ok.ensures.ok.0 c.in-Ok.ensures.ok.1 c.rule_met-rule.ensures c.in_ok-follow.ensures c.turn_and_tell.ensures.after c.turn_and_tell.ensures.sent

pub returns-then-leaves_turned-clause-takes : goal.returns-then-leaves_turned-clause-takes
returns-then-leaves_turned-clause-takes c =
    met c.args.from c.in-Ok.lsa c.args.bytes.now c.args.area.now c.follow.new.area c.args.out.now c.follow.new.out c.in-Ok.ensures.ok.0 c.in-Ok.ensures.ok.1
    (turns_none c.rule_met-rule.result c.args.from c.in-Ok.lsa c.args.area.now c.args.out.now c.follow.new.out c.follow.new.area c.rule_met-rule.ensures c.in_ok-follow.ensures
    (rule_rests c.rule_met-rule.result c.args.from c.in-Ok.lsa c.args.area.now c.args.out.now c.follow.new.out c.follow.new.area (sym c.leaves_turned.ensures ∙ c.if-leaves_turned.true) c.in_ok-follow.ensures
    (c.requires c.if-is_turned.true)))

pub returns-then-leaves_turned-clause-turned : goal.returns-then-leaves_turned-clause-turned
returns-then-leaves_turned-clause-turned c = λ is.
    rule_rests c.rule_met-rule.result c.args.from c.in-Ok.lsa c.args.area.now c.args.out.now c.follow.new.out c.follow.new.area (sym c.leaves_turned.ensures ∙ c.if-leaves_turned.true) c.in_ok-follow.ensures
    (c.requires c.if-is_turned.true)

pub returns-clause-turned : goal.returns-clause-turned
returns-clause-turned c = turn_rests c.turn_and_tell.result c.follow.new.area c.turn_and_tell.new.area c.turn_and_tell.ensures.after c.turn_and_tell.ensures.quiet
