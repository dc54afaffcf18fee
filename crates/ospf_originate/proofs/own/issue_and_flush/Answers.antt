use Rattle.std.proofs.Common.{◌∙◌, sym, ap, subst, List, map}
use Rattle.std.specs.List.{AllByRecursion}
use Rattle.ospf_originate.specs.Wants.Made.{CanBeMade}
use Rattle.ospf_originate.specs.Wants.Own.{wanted_value}
use Rattle.ospf_originate.specs.Wants.Wanted.{WantedValue}
use Rattle.ospf_originate.specs.declared.contents.wants.OwnLsa.{OwnLsa}
use Rattle.ospf_originate.proofs.Wants.MakeLemmas.{wanted_made}
use Rattle.ospf_area.specs.Acting.{InTurn}
use Rattle.ospf_originate.specs.Steps.{Acts, IsDue}
use Rattle.ospf_originate.specs.declared.action.DueAction.{DueAction}
use Rattle.ospf_originate.proofs.OwnLaws.{ends_sound}
use Rattle.ospf_originate.proofs.own.issue_and_flush.Goals as goal

pub due_now-requires-clause-made : goal.due_now-requires-clause-made
due_now-requires-clause-made c = let s = c.args.area.now in wanted_made s.stub_router s.router s.links s.stubs c.requires.links c.requires.stubs

pub act_in_turn-requires-clause-made : goal.act_in_turn-requires-clause-made
act_in_turn-requires-clause-made c =
    let s = c.args.area.now in
    subst (λ (ws : List WantedValue). AllByRecursion CanBeMade ws) (sym (ap (λ (xs : List OwnLsa). map wanted_value xs) c.deref-2.ensures.value ∙ c.in_ok-all.ensures))
    (wanted_made s.stub_router s.router s.links s.stubs c.requires.links c.requires.stubs)

pub returns-clause-own : goal.returns-clause-own
returns-clause-own c =
    let s = c.args.area.now in
    let due = c.deref-3.result.now in
    record {
      due = due;
      is_due = subst (λ (ds : List DueAction). IsDue s ds) (sym c.deref-3.ensures.value) c.in_ok-due.ensures.is;
      mid = c.act_in_turn.new.area;
      each = subst (λ (ws : List WantedValue). InTurn (λ (d : DueAction). Acts d.action ws d.key) due s c.args.out.now c.act_in_turn.new.out c.act_in_turn.new.area)
          (ap (λ (xs : List OwnLsa). map wanted_value xs) c.deref-2.ensures.value ∙ c.in_ok-all.ensures) c.in_ok-act_in_turn.ensures;
      answered = c.forget_heard.ensures;
    }

pub returns-clause-sound : goal.returns-clause-sound
returns-clause-sound c =
    ends_sound (map wanted_value c.deref-2.result.now) c.deref-3.result.now c.args.area.now c.args.out.now c.act_in_turn.new.out c.act_in_turn.new.area c.forget_heard.new.area
    c.in_ok-act_in_turn.ensures c.forget_heard.ensures c.requires
